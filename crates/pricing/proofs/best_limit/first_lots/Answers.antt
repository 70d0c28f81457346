use Rattle.std.proofs.Common.{eqb, ◌+◌, ◌-◌, ◌^◌, min, Bor, take, arith, rules, tests}
use Rattle.std.proofs.lemmas.Iterator.{YieldsList-from_slice}
use Rattle.std.proofs.lemmas.Iterator.Consumers.{YieldsList-at}
use Rattle.market.specs.declared.order.Resting.{Resting}
use Rattle.market.specs.Orders.{limit_of, lots_of}
use Rattle.pricing.specs.Levels.{front_orders}
use Rattle.pricing.proofs.Fronts.{front_lots_lem, fold_leading}
use Rattle.pricing.proofs.Totals.{fold_capped}
use Rattle.pricing.proofs.best_limit.first_lots.Goals as goal

pub returns : goal.returns
returns c =
    let p = c.args.limit.0 in
    let q = c.args.queue.now in
    let f = fold_leading {v = λ (e : Bor Resting). e.now} _ (λ e. eqb (limit_of e) p) _ (λ a e. min (a + lots_of e) (2 ^ 64 - 1)) 0 c.fold.result c.fold.ensures.ran
    (YieldsList-at c.take_while.ensures.source (YieldsList-from_slice q cc)) c.take_while.ensures.closure c.take_while.ensures.done (λ x b k called. search (rules, tests)) (λ a x b k called. search rules) in
    omega (arith, f, fold_capped (take (front_orders p q) q) 0 (omega arith), front_lots_lem p q)
