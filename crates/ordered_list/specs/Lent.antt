-- A list that lies in lent memory.
use Rattle.std.specs.Prelude.{List}
use Rattle.ordered_list.specs.declared.list.OrderedList.{OrderedList}
use Rattle.ordered_list.specs.Lists.{list_of}

-- the lines of the list
abbrev pub lines_in : {X : Type 0} → OrderedList X → List X
lines_in list = list_of list.len list.lines.now
