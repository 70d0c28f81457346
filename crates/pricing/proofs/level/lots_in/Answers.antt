use Rattle.std.proofs.Common.{◌+◌, ◌-◌, ◌^◌, min, arith, rules}
use Rattle.std.proofs.lemmas.Iterator.{YieldsList-from_slice}
use Rattle.std.proofs.lemmas.Iterator.Consumers.{fold_from_yields_List}
use Rattle.market.specs.Orders.{lots_of}
use Rattle.pricing.proofs.Totals.{fold_capped}
use Rattle.pricing.proofs.level.lots_in.Goals as goal

pub returns : goal.returns
returns c =
    let f = fold_from_yields_List _ (λ a e. min (a + lots_of e) (2 ^ 64 - 1)) 0 c.fold.result c.fold.ensures.ran (YieldsList-from_slice c.args.queue.now cc) (λ a x b q k. search rules) in
    omega (arith, f, fold_capped c.args.queue.now 0 (omega arith))
