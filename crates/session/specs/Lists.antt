-- Words on queues.
use Rattle.std.specs.Prelude.{ℕ, cond, List, [], ◌∷◌, Option, find, nat_eq, ◌==◌}
use Rattle.market.specs.declared.order.Resting.{Resting}
use Rattle.market.specs.Orders.{number_of}

-- the first entry of order n
abbrev pub first_with : ℕ → List Resting → Option Resting
first_with n q = find (λ e. nat_eq (number_of e) n) q

-- the queue without it
abbrev pub without_first : ℕ → List Resting → List Resting
without_first n [] = []
without_first n (e ∷ q) = cond (number_of e == n) q (e ∷ without_first n q)
