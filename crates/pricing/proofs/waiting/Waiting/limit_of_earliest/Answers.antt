use Rattle.std.proofs.Common.{◌||◌, eqb, rules, tests}
use Rattle.std.proofs.lemmas.Iterator.{YieldsList-from_slice}
use Rattle.std.proofs.lemmas.Iterator.Consumers.{YieldsList-at, YieldsList-from_chain, YieldsList-from_filter}
use Rattle.market.specs.Orders.{limit_of}
use Rattle.pricing.proofs.Numbered.{earliest_picked}
use Rattle.pricing.proofs.waiting.Waiting.limit_of_earliest.Goals as goal

pub returns : goal.returns
returns c =
    earliest_picked _ c.min_by_key.result c.map_or.result _ c.min_by_key.ensures.ran
    (YieldsList-from_filter _ (λ e. eqb (limit_of e) c.args.span.low.0 || eqb (limit_of e) c.args.span.high.0)
    (YieldsList-at c.filter.ensures.source (YieldsList-from_chain (YieldsList-from_slice c.args.self.sells.now cc) (YieldsList-from_slice c.args.self.buys.now cc) c.chain.ensures.first_done c.chain.ensures.second_done))
    c.filter.ensures.closure (λ x r q k. search (rules, tests)))
    (λ x k q h. search rules) c.map_or.ensures (λ x h. search rules)
