use Rattle.std.proofs.Common.{length, ap, arith}
use Rattle.market.specs.Orders.{lots_in, number_of}
use Rattle.session.proofs.Places.{lots_without, length_without, one_less}
use Rattle.session.proofs.book.Book.cancel.Goals as goal

pub invariant_of-self : goal.invariant_of-self
invariant_of-self c =
    let b = c.args.self.now in
    let n = number_of c.args.entry in
    omega (
      arith,
      ap length c.take_out.ensures,
      ap length c.take_out-2.ensures,
      (length_without n b.sells).0,
      (length_without n b.buys).0,
      ap lots_in c.take_out.ensures,
      ap lots_in c.take_out-2.ensures,
      lots_without n b.sells,
      lots_without n b.buys,
    )

-- the entry that went leaves room for its cancellation
pub note-requires : goal.note-requires
note-requires c =
    let b = c.args.self.now in
    omega (arith, ap length c.take_out.ensures, ap length c.take_out-2.ensures, one_less (number_of c.args.entry) b.sells b.buys c.args.entry c.requires)
