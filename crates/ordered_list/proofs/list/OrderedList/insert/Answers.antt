use Rattle.std.proofs.Common.{length, sym}
use Rattle.std.proofs.lemmas.Bool.{ltb-true}
use Rattle.ordered_list.specs.Lists.{list_of}
use Rattle.ordered_list.proofs.Memory.{front_placed}
use Rattle.ordered_list.proofs.Positions.{position_right}
use Rattle.ordered_list.proofs.Sorted.{placed_in_order}
use Rattle.ordered_list.proofs.list.OrderedList.insert.Goals as goal

pub returns-clause-position : goal.returns-clause-position
returns-clause-position g c =
    rw c.insert_into-at.ensures.answer (position_right g.T.Ranked.after c.args.line (list_of c.args.self.now.len c.args.self.now.lines.now))

pub returns-clause-order : goal.returns-clause-order
returns-clause-order g c =
    let len = c.args.self.now.len in
    let xs = c.args.self.now.lines.now in
    let room = ltb-true len (length xs) (sym c.if-not-has_room.ensures) in
    let front = front_placed g.T.Ranked.after len xs c.args.line room in
    rw (c.insert_into-at.ensures.after, front) (placed_in_order g.T.Ranked.after (record { apart = g.met.T.Ranked.apart; chain = g.met.T.Ranked.chain; alike = g.met.T.Ranked.alike }) c.args.line (list_of len xs))
