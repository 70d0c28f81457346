use Rattle.std.specs.List.{position}
use Rattle.std.proofs.Common.{sym, ap, ◌∙◌}
use Rattle.session.proofs.Places.{is_of, place_goes, no_place}
use Rattle.session.proofs.queue.take_out.Goals as goal

pub returns-in-Some : goal.returns-in-Some
returns-in-Some c =
    let found = ap (position (is_of c.args.number.0)) (sym c.as_slice.ensures) ∙ sym c.in-Some.ensures in
    c.remove.ensures.list ∙ place_goes c.args.number.0 c.args.queue.now c.in-Some.place found

pub returns-in_default : goal.returns-in_default
returns-in_default c =
    let found = ap (position (is_of c.args.number.0)) (sym c.as_slice.ensures) ∙ sym c.in_default.ensures in
    sym (no_place c.args.number.0 c.args.queue.now found)
