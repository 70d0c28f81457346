-- The run of a tape.
use Rattle.std.specs.Prelude.{ℕ, ◌-◌, List, [], ◌∷◌, length, replicate, Ok, Err, Result}
use Rattle.depository.specs.Accounts.{empty}
use Rattle.market.specs.Runs.{Desk}
use Rattle.command.specs.Reads.{read_one}
use Rattle.command.specs.declared.command.Command.{Command}
use Rattle.command.specs.declared.fault.TapeFault.{TapeFault}
use Rattle.tape.specs.declared.answer.TapeAnswer.{TapeAnswer}
use Rattle.tape.specs.Answers.{Done, line_of}
use Rattle.tape.specs.Desks.{newly_opened, annulled_and_closed}
use Rattle.tape.specs.Stages.{Floor, unopened, in_session, command_answer, command_after}

-- one turn: what the command at the front of the tape came to, what it made of the floor, and the rest of the tape
pub record Turned : Type 0 where
  pub answer : Done
  pub floor : Floor
  pub rest : List ℕ

-- a byte that is no command, and operands cut short, end the run: nothing of the tape is left
abbrev pub turned_by : Result (Command × List ℕ) TapeFault → Floor → Turned
turned_by (Ok found) f = record { answer = command_answer found.0 f; floor = command_after found.0 f; rest = found.1 }
turned_by (Err fault) f = record { answer = Err fault; floor = f; rest = [] }

abbrev pub turned : List ℕ → Floor → Turned
turned tape f = turned_by (read_one tape) f

-- from a floor, the rest of a tape of so many bytes plays to its end with these answers, each at the offset of its command
pub data Plays (whole : ℕ) : List ℕ → Floor → List TapeAnswer → Floor → Type 0 where
  ends : {f : Floor} → Plays whole [] f [] f
  goes : (byte : ℕ) (bytes : List ℕ) (f : Floor) {answers : List TapeAnswer} {end : Floor} →
      Plays whole (turned (byte ∷ bytes) f).rest (turned (byte ∷ bytes) f).floor answers end →
      Plays whole (byte ∷ bytes) f (line_of (whole - length (byte ∷ bytes)) (turned (byte ∷ bytes) f).answer ∷ answers) end

-- a run starts with a depository in which nobody holds anything
abbrev pub start : Floor
start = unopened (replicate 64 empty)

-- what a floor leaves in the end: a session that is not closed is annulled if struck, and closed. A run that never opened
-- leaves what a session without orders leaves
abbrev pub left : Floor → Desk
left (unopened accounts) = annulled_and_closed (newly_opened accounts)
left (in_session d) = annulled_and_closed d
