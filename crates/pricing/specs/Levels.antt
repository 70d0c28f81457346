-- The orders of one limit at the front of a queue.
use Rattle.std.specs.Prelude.{ℕ, ◌+◌, cond, List, [], ◌∷◌, ◌==◌, nat_eq}
use Rattle.std.specs.List.{prefix_len}
use Rattle.market.specs.declared.order.Resting.{Resting}
use Rattle.market.specs.Orders.{limit_of, lots_of}

-- how many orders at the front have the limit p
abbrev pub front_orders : ℕ → List Resting → ℕ
front_orders p q = prefix_len (λ e. nat_eq (limit_of e) p) q

-- their lots
abbrev pub front_lots : ℕ → List Resting → ℕ
front_lots p [] = 0
front_lots p (e ∷ es) = cond (limit_of e == p) (lots_of e + front_lots p es) 0
