use Rattle.std.proofs.Common.{eqb, Bor, rules, tests}
use Rattle.std.proofs.lemmas.Iterator.Consumers.{YieldsList-at}
use Rattle.market.specs.declared.order.Resting.{Resting}
use Rattle.market.specs.Orders.{limit_of}
use Rattle.pricing.proofs.Fronts.{count_leading}
use Rattle.pricing.proofs.level.leading.Goals as goal

pub returns-clause-count : goal.returns-clause-count
returns-clause-count g c = λ q y.
    count_leading {steps = g.I.Iterator.next_gives} {v = λ (e : Bor Resting). e.now} _ (λ e. eqb (limit_of e) c.args.limit.0) c.count.result c.count.ensures.ran (YieldsList-at c.take_while.ensures.source (record { runs = y })) c.take_while.ensures.closure c.take_while.ensures.done
    (λ x b q k. search (rules, tests))
