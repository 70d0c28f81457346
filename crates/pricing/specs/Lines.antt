-- What waits at each limit, and the walk that finds it: both queues price downward, a level at a time.
use Rattle.std.specs.Prelude.{ℕ, min, max, Bool, cond, List, [], ◌∷◌, map, length, pos, ◌-ℤ◌, Some, None, Option, nat_lt}
use Rattle.ordered_list.specs.Keys.{downward}
use Rattle.ordered_list.specs.Order.{placed}
use Rattle.units.specs.declared.quantity.Price.{Price}
use Rattle.market.specs.declared.order.Resting.{Resting}
use Rattle.market.specs.declared.summary.SummaryLine.{SummaryLine}
use Rattle.market.specs.Orders.{limit_of}
use Rattle.market.specs.Prices.{supply, demand, waiting_limits}
use Rattle.pricing.specs.declared.line.Line.{Line}

abbrev pub price_of : Line → ℕ
price_of l = l.price.0

-- the order of the lines: price downward
abbrev pub by_price : Line → Line → Bool
by_price = downward price_of

-- the lines with one more at its place, where there are fewer than two queues can have
abbrev pub added : Line → List Line → List Line
added line lines = cond (nat_lt (length lines) 1024) (placed by_price line lines) lines

-- the line at p, and the lines at all waiting limits
abbrev pub line_at : List Resting → List Resting → ℕ → Line
line_at sells buys p = record {
  price = record { 0 = p };
  supply = record { 0 = supply sells p };
  demand = record { 0 = demand buys p };
}

abbrev pub lines_at : List Resting → List Resting → List Line
lines_at sells buys = map (line_at sells buys) (waiting_limits sells buys)

-- a line as the summary has it: with the lesser of the two figures, and the first less the second
abbrev pub summary_of : Line → SummaryLine
summary_of l = record {
  price = l.price;
  supply = l.supply;
  demand = l.demand;
  volume = record { 0 = min l.supply.0 l.demand.0 };
  difference = pos l.supply.0 -ℤ pos l.demand.0;
}

-- the higher limit of the first orders of two lists
abbrev pub next_limit : List Resting → List Resting → Option Price
next_limit [] [] = None
next_limit (o ∷ os) [] = Some o.order.limit
next_limit [] (b ∷ bs) = Some b.order.limit
next_limit (o ∷ os) (b ∷ bs) = Some (record { 0 = max (limit_of o) (limit_of b) })
