-- What one call of the session, and one command, make of the floor.
use Rattle.std.proofs.Common.{◌≡◌, List, [], ◌∷◌, length, Ok, Result, sym, ap, ◌∙◌, arith}
use Rattle.units.specs.Answers.{and_then, if_ok}
use Rattle.market.specs.declared.call.Call.{Call}
use Rattle.market.specs.Runs.{Desk, Reply, desk_after, Run}
use Rattle.session.specs.Desks.{calls_made}
use Rattle.command.specs.Rules.{checked_of, names_no_unknown_rule}
use Rattle.command.specs.declared.command.Command.{Command}
use Rattle.command.specs.declared.fault.TapeFault.{TapeFault}
use Rattle.command.specs.declared.fault.TapeFault.TheVariants.{NoSuchRule}
use Rattle.units.proofs.Checks.{checked_ok, ok_value}
use Rattle.tape.specs.Tasks.{task_of}
use Rattle.tape.specs.Stages.{Floor, task_answer, task_after, command_answer, command_after}

-- a run of one call
pub one_call : (call : Call) (replies : List Reply) (start end : Desk) → length replies ≡ 1 → Run start (calls_made (call ∷ []) replies) end → end ≡ desk_after call start
one_call call [] start end long r = absurd (omega arith)
one_call call (a ∷ rest) start end long r = sym r.1

-- a command that is checked is itself, and its task is done
pub command_done : (command checked : Command) (f : Floor) → Ok checked ≡ checked_of command →
    (task_answer (task_of checked) f ≡ command_answer command f) × (task_after (task_of checked) f ≡ command_after command f)
command_done command checked f e =
    let same : checked ≡ command = ok_value checked command (checked_ok (names_no_unknown_rule command) NoSuchRule (Ok command) checked e).1 in (
      ap (λ c. task_answer (task_of c) f) same ∙ ap (λ (r : Result Command TapeFault). and_then r (task_answer (task_of command) f)) e,
      ap (λ c. task_after (task_of c) f) same ∙ ap (λ (r : Result Command TapeFault). if_ok r (task_after (task_of command) f) f) e,
    )

pub command_answered : (command checked : Command) (f : Floor) → Ok checked ≡ checked_of command → task_answer (task_of checked) f ≡ command_answer command f
command_answered command checked f e = (command_done command checked f e).0
