-- What the calls on an ordered list give. The list is the first len lines of the memory, or all of it where len
-- passes the memory's end.
use Rattle.std.specs.Prelude.{ℕ, ◌+◌, ◌-◌, min, Bool, cond, List, ◌++◌, length, take, drop, Ok, Err, Result, nat_lt}
use Rattle.std.specs.List.{remove, slice_get}
use Rattle.std.specs.Option.{ok_or, option_to_list as lines_of}
use Rattle.ordered_list.specs.declared.fault.ListFault.{ListFault}
use Rattle.ordered_list.specs.declared.fault.ListFault.TheVariants.{Full, NoSuchPosition}
use Rattle.ordered_list.specs.Order.{position_of, placed}

-- the lines of the list
abbrev pub list_of : {X : Type 0} → ℕ → List X → List X
list_of len memory = take len memory

-- how many lines the list has
abbrev pub length_of : {X : Type 0} → ℕ → List X → ℕ
length_of len memory = min len (length memory)

-- whether the memory has room behind the list
abbrev pub has_room : {X : Type 0} → ℕ → List X → Bool
has_room len memory = nat_lt len (length memory)

-- whether the list has a line at this position
abbrev pub has_position : {X : Type 0} → ℕ → List X → ℕ → Bool
has_position len memory at = nat_lt at (length_of len memory)

-- insert answers the position that the line got
abbrev pub insert_answer : {X : Type 0} → (X → X → Bool) → ℕ → List X → X → Result ℕ ListFault
insert_answer after len memory x = cond (has_room len memory) (Ok (position_of after x (list_of len memory))) (Err Full)

-- the list after insert
abbrev pub insert_list : {X : Type 0} → (X → X → Bool) → ℕ → List X → X → List X
insert_list after len memory x = cond (has_room len memory) (placed after x (list_of len memory)) (list_of len memory)

-- the whole memory after insert: what lies behind the list is as it was
abbrev pub insert_memory : {X : Type 0} → (X → X → Bool) → ℕ → List X → X → List X
insert_memory after len memory x = cond (has_room len memory) (placed after x (list_of len memory) ++ drop (len + 1) memory) memory

-- its length after insert
abbrev pub insert_len : {X : Type 0} → ℕ → List X → ℕ
insert_len len memory = cond (has_room len memory) (len + 1) len

-- remove answers the line that stood at the position
abbrev pub remove_answer : {X : Type 0} → ℕ → List X → ℕ → Result X ListFault
remove_answer len memory at = ok_or (slice_get (list_of len memory) at) NoSuchPosition

-- the list after remove: the same where there was no such position
abbrev pub remove_list : {X : Type 0} → ℕ → List X → ℕ → List X
remove_list len memory at = remove (list_of len memory) at

-- the whole memory after remove: the list, the line that went, and what lay behind
abbrev pub remove_memory : {X : Type 0} → ℕ → List X → ℕ → List X
remove_memory len memory at = remove (list_of len memory) at ++ (lines_of (slice_get (list_of len memory) at) ++ drop len memory)

-- its length after remove
abbrev pub remove_len : {X : Type 0} → ℕ → List X → ℕ → ℕ
remove_len len memory at = cond (has_position len memory at) (length_of len memory - 1) len
