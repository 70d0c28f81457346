-- What is left of a tape behind a command is shorter than the tape, so a run over a tape ends.
use Rattle.std.proofs.Common.{◌≡◌, ℕ, ◌<◌, ◌≤◌, List, [], ◌∷◌, length, Some, None, Ok, Option, arith, length-drop}
use Rattle.command.specs.Reads.{read_one, read_row}
use Rattle.command.specs.Table.{Row, row_in, table}
use Rattle.command.specs.declared.command.Command.{Command}

row_no_longer : (row : Option Row) (bytes : List ℕ) (command : Command) (rest : List ℕ) → read_row row bytes ≡ Ok (command, rest) → length rest ≤ length bytes
row_no_longer None bytes command rest h = grind arith
row_no_longer (Some row) bytes command rest h = grind (arith, length-drop)

pub shorter : (tape : List ℕ) (command : Command) (rest : List ℕ) → read_one tape ≡ Ok (command, rest) → length rest < length tape
shorter [] command rest h = grind arith
shorter (byte ∷ bytes) command rest h = let l = row_no_longer (row_in table byte) bytes command rest h in omega arith
