-- What waits, laid out by order number: the entry of order n in slot n.
use Rattle.std.specs.Prelude.{List, [], ◌∷◌, replicate, Some, None, Option, slice_set}
use Rattle.market.specs.declared.order.Resting.{Resting}
use Rattle.market.specs.Orders.{number_of}

-- the entries of a queue put into their slots, one after the other; one that has no slot is left out
abbrev pub slotted : List Resting → List (Option Resting) → List (Option Resting)
slotted [] slots = slots
slotted (e ∷ q) slots = slotted q (slice_set slots (number_of e) (Some e))

-- all that waits in its slots. No order has the number 0, so the slots of 512 orders are 513
abbrev pub by_number : List Resting → List Resting → List (Option Resting)
by_number sells buys = slotted buys (slotted sells (replicate 513 None))
