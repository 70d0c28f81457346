use Rattle.std.proofs.Common.{ap, arith}
use Rattle.market.specs.Orders.{lots_of, lots_in}
use Rattle.market.proofs.Totals.{total-append}
use Rattle.session.proofs.book.Book.waiting_lots.Goals as goal

pub returns : goal.returns
returns c =
    let b = c.args.self.now in
    omega (arith, total-append lots_of b.sells b.buys, c.lots_in-sells.ensures, c.lots_in-buys.ensures, ap lots_in c.as_slice.ensures, ap lots_in c.as_slice-2.ensures)
