use Rattle.std.proofs.Common.{◌+◌, reverse, length}
use Rattle.market.specs.Queues.{Queues}
use Rattle.pricing.proofs.Walks.{Walked}
use Rattle.pricing.proofs.waiting.Waiting.walk.Given as goal

-- the walk so far
abbrev pub invariant-loop-price : goal.invariant-loop-price
invariant-loop-price l =
    Queues l.fn.self.sells.now l.fn.self.buys.now →
    Walked l.fn.self.sells.now l.fn.self.buys.now (reverse l.sells) l.buys l.lines l.supply.0 l.demand.0

abbrev pub decreases-loop-price : goal.decreases-loop-price
decreases-loop-price l = length l.sells + length l.buys
