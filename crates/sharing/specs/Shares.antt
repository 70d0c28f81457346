-- What every sharing rule is asked, answers and writes, whatever shares it gives.
use Rattle.std.specs.Prelude.{ℕ, ◌≤◌, Bool, cond, List, [], ◌∷◌, map, length, Some, None, Ok, Err, sum, Option, Result, nat_lt}
use Rattle.std.specs.List.{AllByRecursion, list_any}
use Rattle.units.specs.declared.quantity.Lots.{Lots}
use Rattle.sharing.specs.declared.shares.Share.{Share}
use Rattle.sharing.specs.declared.fault.SharingFault.{SharingFault}
use Rattle.sharing.specs.declared.fault.SharingFault.TheVariants.{TooManyLines, LineTooLarge, TotalTooLarge}

-- the lots of each line
abbrev pub lots_of : List Share → List ℕ
lots_of lines = map (λ line. line.lots.0) lines

-- the share that stands beside each line's lots
abbrev pub shares_of : List Share → List ℕ
shares_of lines = map (λ line. line.share.0) lines

-- the most lines that a rule shares among, and the most lots of a line
abbrev pub most_lines : ℕ
most_lines = 512

abbrev pub largest_line : ℕ
largest_line = 1000000

-- what a rule has to share out: not too many lines, none too large, and a total that their lots reach
pub record Accepted (lots : List ℕ) (total : ℕ) : Type 0 where
  pub few : length lots ≤ most_lines
  pub small : AllByRecursion (λ x. x ≤ largest_line) lots
  pub reached : total ≤ sum lots

-- whether some line is too large
abbrev pub some_over : List ℕ → Bool
some_over lots = list_any (nat_lt largest_line) lots

-- why nothing is shared out, if so: the first of the three faults that there is
abbrev pub fault_in : List ℕ → ℕ → Option SharingFault
fault_in lots total =
    cond (nat_lt most_lines (length lots)) (Some TooManyLines)
    (cond (some_over lots) (Some LineTooLarge)
    (cond (nat_lt (sum lots) total) (Some TotalTooLarge) None))

-- an answer, unless there is a fault
abbrev pub or_fault : {A : Type 0} → Option SharingFault → A → Result A SharingFault
or_fault None x = Ok x
or_fault (Some fault) x = Err fault

-- what the check answers: the sum of the lots, or the fault
abbrev pub sum_or_fault : List ℕ → ℕ → Result Lots SharingFault
sum_or_fault lots total = or_fault (fault_in lots total) (record { 0 = sum lots })

-- what a rule answers: done, or the fault
abbrev pub sharing_answer : List ℕ → ℕ → Result (Unit {0}) SharingFault
sharing_answer lots total = or_fault (fault_in lots total) tt

-- the lines with these shares written on them, and their lots kept
abbrev pub filled : List Share → List ℕ → List Share
filled [] ys = []
filled (x ∷ xs) [] = x ∷ xs
filled (x ∷ xs) (y ∷ ys) = record { lots = x.lots; share = record { 0 = y } } ∷ filled xs ys

-- the written lines, or the lines as they were where there is a fault
abbrev pub unless_fault : Option SharingFault → List Share → List Share → List Share
unless_fault None before written = written
unless_fault (Some fault) before written = before

-- the lines after a call of the rule that gives these shares
abbrev pub lines_after : (List ℕ → ℕ → List ℕ) → List Share → ℕ → List Share
lines_after shares lines total =
    unless_fault (fault_in (lots_of lines) total) lines (filled lines (shares (lots_of lines) total))
