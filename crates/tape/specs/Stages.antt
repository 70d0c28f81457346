-- What commands do, before open and after it.
use Rattle.std.specs.Prelude.{List, Some, None, Err}
use Rattle.units.specs.Answers.{answered, raised, and_then, if_ok}
use Rattle.depository.specs.declared.account.Account.{Account}
use Rattle.depository.specs.Calls.{pay_in_answer, pay_in_after}
use Rattle.market.specs.declared.fault.SessionFault.TheVariants.{WrongPhase}
use Rattle.market.specs.Calls.{open_answer}
use Rattle.market.specs.Runs.{Desk, answer_to, desk_after}
use Rattle.command.specs.Rules.{checked_of}
use Rattle.command.specs.declared.command.Command.{Command}
use Rattle.command.specs.declared.fault.TapeFault.TheVariants.{Session, Depository}
use Rattle.tape.specs.declared.stage.Stage.{Stage}
use Rattle.tape.specs.declared.stage.Stage.TheVariants.{Before, Opened}
use Rattle.tape.specs.declared.task.Task.{Task}
use Rattle.tape.specs.declared.task.Task.TheVariants.{PayIn, Open, Call, NotYet}
use Rattle.tape.specs.Answers.{Done}
use Rattle.tape.specs.Desks.{accounts_in, newly_opened}
use Rattle.tape.specs.Tasks.{task_of}

-- how far a run has come: before open everybody's account, after it a session and whether the slip is held
pub data Floor : Type 0 where
  unopened : List Account → Floor
  in_session : Desk → Floor

abbrev pub floor_of : Stage → Floor
floor_of (Before depository) = unopened (accounts_in depository)
floor_of (Opened desk) = in_session desk

abbrev pub wrong_phase : Done
wrong_phase = Err (Session WrongPhase)

-- what a task comes to: pay-ins and open are for before open, calls for after it
abbrev pub task_answer : Task → Floor → Done
task_answer (PayIn who what) (unopened accounts) = answered (λ _. None) (raised Depository (pay_in_answer accounts who what))
task_answer (PayIn who what) (in_session d) = wrong_phase
task_answer Open (unopened accounts) = answered (λ _. None) (raised Session (open_answer accounts))
task_answer Open (in_session d) = wrong_phase
task_answer (Call call) (unopened accounts) = wrong_phase
task_answer (Call call) (in_session d) = answered Some (raised Session (answer_to call d))
task_answer NotYet f = wrong_phase

-- and what it makes of the floor
abbrev pub task_after : Task → Floor → Floor
task_after (PayIn who what) (unopened accounts) = unopened (pay_in_after accounts who what)
task_after (PayIn who what) (in_session d) = in_session d
task_after Open (unopened accounts) = in_session (newly_opened accounts)
task_after Open (in_session d) = in_session d
task_after (Call call) (unopened accounts) = unopened accounts
task_after (Call call) (in_session d) = in_session (desk_after call d)
task_after NotYet f = f

-- a command: a deal by a rule that there is not is refused before everything else
abbrev pub command_answer : Command → Floor → Done
command_answer command f = and_then (checked_of command) (task_answer (task_of command) f)

abbrev pub command_after : Command → Floor → Floor
command_after command f = if_ok (checked_of command) (task_after (task_of command) f) f
