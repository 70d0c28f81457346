-- What can deal at a price.
use Rattle.std.specs.Prelude.{ℕ, ◌+◌, ◌-◌, min, cond, List, [], ◌∷◌, ◌++◌, map, ℤ, pos, ◌-ℤ◌, ◌==◌, nat_le, nat_lt}
use Rattle.market.specs.declared.order.Resting.{Resting}
use Rattle.market.specs.declared.summary.SummaryLine.{SummaryLine}
use Rattle.market.specs.Orders.{total_if, limit_of, lots_of}

-- S(p): the waiting sell lots with limits at or below p
abbrev pub supply : List Resting → ℕ → ℕ
supply sells p = total_if (λ e. nat_le (limit_of e) p) lots_of sells

-- B(p): the waiting buy lots with limits at or above p
abbrev pub demand : List Resting → ℕ → ℕ
demand buys p = total_if (λ e. nat_le p (limit_of e)) lots_of buys

-- V(p): what can deal at p, the lesser of the two
abbrev pub volume : List Resting → List Resting → ℕ → ℕ
volume sells buys p = min (supply sells p) (demand buys p)

-- D(p) = S(p) − B(p), possibly negative
abbrev pub difference : List Resting → List Resting → ℕ → ℤ
difference sells buys p = pos (supply sells p) -ℤ pos (demand buys p)

-- the size of D(p), without its sign: one of the two terms is 0
abbrev pub imbalance : List Resting → List Resting → ℕ → ℕ
imbalance sells buys p = (supply sells p - demand buys p) + (demand buys p - supply sells p)

-- A price into a list of prices that goes downward, unless it is there. The library's insert_key says it of any ordering, and has
-- no lemma on which keys there are then
abbrev pub into : ℕ → List ℕ → List ℕ
into p [] = p ∷ []
into p (q ∷ qs) = cond (p == q) (q ∷ qs) (cond (nat_lt q p) (p ∷ (q ∷ qs)) (q ∷ into p qs))

-- the limits of waiting orders, each once, price downward
abbrev pub limits_of : List Resting → List ℕ
limits_of [] = []
limits_of (e ∷ es) = into (limit_of e) (limits_of es)

-- the waiting limits of both sides
abbrev pub waiting_limits : List Resting → List Resting → List ℕ
waiting_limits sells buys = limits_of (sells ++ buys)

-- the summary's line at p
abbrev pub summary_line : List Resting → List Resting → ℕ → SummaryLine
summary_line sells buys p = record {
  price = record { 0 = p };
  supply = record { 0 = supply sells p };
  demand = record { 0 = demand buys p };
  volume = record { 0 = volume sells buys p };
  difference = difference sells buys p;
}

-- the summary: a line for each waiting limit, price downward
abbrev pub summary : List Resting → List Resting → List SummaryLine
summary sells buys = map (summary_line sells buys) (waiting_limits sells buys)
