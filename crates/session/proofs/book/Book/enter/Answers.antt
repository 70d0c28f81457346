use Rattle.std.proofs.Common.{length, ap, arith}
use Rattle.ordered_list.proofs.Placed.{length-placed}
use Rattle.market.specs.Orders.{lots_of, lots_in, queue_after}
use Rattle.market.proofs.Totals.{total-placed}
use Rattle.session.proofs.book.Book.enter.Goals as goal

pub invariant_of-self : goal.invariant_of-self
invariant_of-self c =
    let q = c.args.self.now.sells in
    let e = c.whole-entry.result in
    omega (arith, c.push.ensures.len, ap length c.put_in.ensures, length-placed queue_after e q, ap lots_in c.put_in.ensures, total-placed lots_of queue_after e q, ap (λ l. l.0) c.whole-entry.ensures.lots)

pub invariant_of-self-in-Buy : goal.invariant_of-self-in-Buy
invariant_of-self-in-Buy c =
    let q = c.args.self.now.buys in
    let e = c.whole-entry.result in
    omega (arith, c.push.ensures.len, ap length c.put_in-in-Buy.ensures, length-placed queue_after e q, ap lots_in c.put_in-in-Buy.ensures, total-placed lots_of queue_after e q, ap (λ l. l.0) c.whole-entry.ensures.lots)
