use Rattle.std.proofs.Common.{eqb, reverse, length, sym, refl, ap, arith}
use Rattle.std.proofs.lemmas.List.{length-reverse, length-drop}
use Rattle.std.proofs.lemmas.List.Sums.{prefix_len-le-length}
use Rattle.market.specs.Orders.{limit_of, lots_of}
use Rattle.pricing.specs.Levels.{front_orders}
use Rattle.pricing.proofs.Reversed.{total-reverse}
use Rattle.pricing.proofs.Tops.{next_some}
use Rattle.pricing.proofs.Turns.{walk_turn}
use Rattle.pricing.proofs.Walks.{walk_starts}
use Rattle.pricing.proofs.waiting.Waiting.walk.Goals as goal

pub loop-price-init : goal.loop-price-init
loop-price-init c = λ q.
    let sells = c.args.self.sells.now in
    rw c.requires (walk_starts sells c.args.self.buys.now (reverse sells) c.lots_in-supply.result.0 refl q (omega (arith, c.lots_in-supply.ensures, total-reverse lots_of sells, q.of_sells.bounded)))

pub loop-price-smaller : goal.loop-price-smaller
loop-price-smaller c =
    let sells = c.loop-price.sells.now in
    let buys = c.loop-price.buys.now in
    let p = c.in-Some.price.0 in
    let n = next_some (reverse sells) buys c.in-Some.price (sym c.in-Some.ensures) in
    omega (
      arith,
      n,
      ap length c.last_level-offered.ensures.rest,
      ap length c.first_level-asked.ensures.rest,
      length-drop (front_orders p (reverse sells)) (reverse sells),
      length-drop (front_orders p buys) buys,
      length-reverse sells,
      length-reverse c.last_level-offered.result.rest.now,
      prefix_len-le-length (λ e. eqb (limit_of e) p) (reverse sells),
      prefix_len-le-length (λ e. eqb (limit_of e) p) buys,
    )

pub loop-price-preserved : goal.loop-price-preserved
loop-price-preserved c = λ q.
    walk_turn c.args.self.sells.now c.args.self.buys.now (reverse c.loop-price.sells.now) c.loop-price.buys.now (reverse c.last_level-offered.result.rest.now) c.first_level-asked.result.rest.now
    c.loop-price.lines c.insert.new.self c.loop-price.supply.0 c.loop-price.demand.0 c.saturating_sub.result c.saturating_add.result c.last_level-offered.result.lots.0 c.first_level-asked.result.lots.0 c.in-Some.price
    q (c.loop-price.invariant q) (sym c.in-Some.ensures) c.last_level-offered.ensures.rest c.first_level-asked.ensures.rest c.last_level-offered.ensures.lots c.first_level-asked.ensures.lots
    c.saturating_add.ensures c.saturating_sub.ensures c.insert.ensures.list
