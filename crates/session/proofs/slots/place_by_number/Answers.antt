use Rattle.std.proofs.Common.{sym, ◌∙◌}
use Rattle.std.proofs.lemmas.List.{at_drop_all}
use Rattle.session.specs.Slots.{slotted}
use Rattle.session.proofs.Slotting.{slotted_more}
use Rattle.session.proofs.slots.place_by_number.Goals as goal

pub loop-entry-preserved : goal.loop-entry-preserved
loop-entry-preserved c =
    slotted_more c.args.queue.now c.loop-entry.slots c.place.new.slots c.loop-entry.entry-index _ c.loop-entry-test.true c.place.ensures ∙ c.loop-entry.invariant

pub returns : goal.returns
returns c =
    sym (at_drop_all (λ rest. slotted rest c.loop-entry.slots) c.args.queue.now c.loop-entry.entry-index c.loop-entry-test.false) ∙ c.loop-entry.invariant
