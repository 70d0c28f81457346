use Rattle.std.proofs.Common.{◌≡◌, take, drop, ap, ◌∙◌, arith}
use Rattle.std.proofs.lemmas.Iterator.{YieldsList-from_slice}
use Rattle.market.specs.Orders.{lots_in}
use Rattle.pricing.specs.Levels.{front_orders}
use Rattle.pricing.proofs.Fronts.{front_lots_lem}
use Rattle.pricing.proofs.level.first_level.Goals as goal

pub returns : goal.returns
returns c =
    let p = c.args.limit.0 in
    let q = c.args.queue.now in
    let n : c.leading-count.result ≡ front_orders p q = c.leading-count.ensures.count q (YieldsList-from_slice q cc).runs in
    let t = ap lots_in (c.split_at.ensures.front ∙ ap (λ m. take m q) n) in
    record {
      lots = omega (arith, c.lots_in.ensures, t, front_lots_lem p q);
      rest = c.split_at.ensures.back ∙ ap (λ m. drop m q) n;
    }
