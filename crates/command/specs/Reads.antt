-- One command read off the front of a tape.
use Rattle.std.specs.Prelude.{◌≡◌, ℕ, ◌<◌, cond, List, [], ◌∷◌, length, take, drop, Some, None, Ok, Err, Option, Result, nat_lt, slice_index}
use Rattle.std.specs.Borrow.{Bor}
use Rattle.units.specs.Answers.{answered}
use Rattle.command.specs.Operands.{number}
use Rattle.command.specs.Table.{Row, table, row_in, width, width_in}
use Rattle.command.specs.declared.command.Command.{Command}
use Rattle.command.specs.declared.fault.TapeFault.{TapeFault}
use Rattle.command.specs.declared.fault.TapeFault.TheVariants.{Unknown, CutShort}

-- bytes taken apart into numbers of these widths
abbrev pub operands : List ℕ → List ℕ → List ℕ
operands [] bytes = []
operands (w ∷ ws) bytes = number (take w bytes) ∷ operands ws (drop w bytes)

-- the command of a row with its operands from the front of these bytes, and the bytes behind them
abbrev pub read_row : Option Row → List ℕ → Result (Command × List ℕ) TapeFault
read_row None bytes = Err Unknown
read_row (Some row) bytes =
    cond (nat_lt (length bytes) (width row)) (Err CutShort) (Ok (row.command (operands row.widths bytes), drop (width row) bytes))

-- the command at the front of the tape, and the rest of the tape
abbrev pub read_one : List ℕ → Result (Command × List ℕ) TapeFault
read_one [] = Err CutShort
read_one (byte ∷ bytes) = read_row (row_in table byte) bytes

-- what the code answers, with the bytes of the rest for a reference to them
abbrev pub seen : Result (Command × Bor (List ℕ)) TapeFault → Result (Command × List ℕ) TapeFault
seen answer = answered (λ p. (p.0, p.1.now)) answer

-- the tape begins with a command of so many operand bytes, and has them all
pub record Whole (w : ℕ) (tape : List ℕ) : Type 0 where
  pub width : width_in table (slice_index tape 0) ≡ Some w
  pub long : w < length tape
