-- Orders by numbers that lines carry.
use Rattle.std.specs.Prelude.{ℕ, Bool, cond, nat_lt}
use Rattle.ordered_list.specs.Order.{rank_alike}

-- the greater key ranks after
abbrev pub upward : {X : Type 0} → (X → ℕ) → X → X → Bool
upward key x y = nat_lt (key y) (key x)

-- the smaller key ranks after
abbrev pub downward : {X : Type 0} → (X → ℕ) → X → X → Bool
downward key x y = upward key y x

-- by the first order, and where that ranks two lines alike, by the second
abbrev pub then_by : {X : Type 0} → (X → X → Bool) → (X → X → Bool) → X → X → Bool
then_by first second x y = cond (rank_alike first x y) (second x y) (first x y)
