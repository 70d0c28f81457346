-- A list that has memory of its own, for most lines: what the calls on it give.
use Rattle.std.specs.Prelude.{ℕ, Bool, cond, List, length, Ok, Err, Result, nat_lt}
use Rattle.std.specs.List.{slice_get}
use Rattle.std.specs.Option.{ok_or}
use Rattle.ordered_list.specs.declared.fault.ListFault.{ListFault}
use Rattle.ordered_list.specs.declared.fault.ListFault.TheVariants.{Full, NoSuchPosition}
use Rattle.ordered_list.specs.Order.{position_of, placed}

-- insert answers the position that the line got, where there are fewer lines than most
abbrev pub insert_answer_within : {X : Type 0} → (X → X → Bool) → ℕ → List X → X → Result ℕ ListFault
insert_answer_within after most xs x = cond (nat_lt (length xs) most) (Ok (position_of after x xs)) (Err Full)

-- the list after insert
abbrev pub placed_within : {X : Type 0} → (X → X → Bool) → ℕ → X → List X → List X
placed_within after most x xs = cond (nat_lt (length xs) most) (placed after x xs) xs

-- remove answers the line that stood at the position
abbrev pub line_at : {X : Type 0} → List X → ℕ → Result X ListFault
line_at xs at = ok_or (slice_get xs at) NoSuchPosition
