use Rattle.std.proofs.Common.{◌≡◌, drop}
use Rattle.session.specs.Slots.{slotted}
use Rattle.session.proofs.slots.place_by_number.Given as goal

-- what is left of the queue goes into the slots as they are now
abbrev pub invariant-loop-entry : goal.invariant-loop-entry
invariant-loop-entry l = slotted (drop l.entry-index l.queue) l.slots ≡ slotted l.queue l.initial.slots
