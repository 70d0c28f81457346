-- The cut-off: the one price of an iteration.
use Rattle.std.specs.Prelude.{ℕ, ◌+◌, ◌/◌, ◌%◌, ◌≤◌, min, max, Bool, cond, ◌||◌, leb, List, [], ◌∷◌, ◌++◌, Some, None, filter, Option, ◌==◌, nat_le, nat_lt}
use Rattle.std.specs.List.{list_any, list_all, fold}
use Rattle.units.specs.declared.quantity.Price.{Price}
use Rattle.market.specs.declared.order.Resting.{Resting}
use Rattle.market.specs.Orders.{number_of, limit_of, lots_in}
use Rattle.market.specs.Prices.{volume, imbalance, waiting_limits}

-- whether some waiting sell limit is at or below some waiting buy limit
abbrev pub crosses : List Resting → List Resting → Bool
crosses sells buys = list_any (λ x. list_any (λ y. leb (limit_of x) (limit_of y)) buys) sells

-- those prices whose figure no other's exceeds, and those whose figure exceeds no other's
abbrev pub with_most : (ℕ → ℕ) → List ℕ → List ℕ
with_most figure ps = filter (λ p. list_all (λ q. leb (figure q) (figure p)) ps) ps

abbrev pub with_least : (ℕ → ℕ) → List ℕ → List ℕ
with_least figure ps = filter (λ p. list_all (λ q. leb (figure p) (figure q)) ps) ps

-- the waiting limits with the greatest V, and of these those with the least size of D
abbrev pub candidates : List Resting → List Resting → List ℕ
candidates sells buys = with_least (imbalance sells buys) (with_most (volume sells buys) (waiting_limits sells buys))

-- the highest and the lowest of a list of prices
abbrev pub highest : List ℕ → ℕ
highest [] = 0
highest (p ∷ ps) = max p (highest ps)

abbrev pub lowest : List ℕ → ℕ
lowest [] = 0
lowest (p ∷ []) = p
lowest (p ∷ (q ∷ ps)) = min p (lowest (q ∷ ps))

-- of two waiting orders the one with the lower number, and the lowest of a list
abbrev pub earlier : Resting → Resting → Resting
earlier x y = cond (nat_le (number_of x) (number_of y)) x y

abbrev pub earliest : Resting → List Resting → Resting
earliest = fold earlier

abbrev pub limit_of_earliest : List Resting → ℕ
limit_of_earliest [] = 0
limit_of_earliest (e ∷ es) = limit_of (earliest e es)

-- the waiting orders at one of two limits
abbrev pub waiting_at : ℕ → ℕ → List Resting → List Resting
waiting_at low high q = filter (λ e. (limit_of e == low) || limit_of e == high) q

-- between two limits whose mean is not whole: the lower where all sells exceed all buys, the higher where they are less,
-- and where they are equal the limit of the lowest-numbered order at one of the two
abbrev pub by_sides : List Resting → List Resting → ℕ → ℕ → ℕ
by_sides sells buys low high =
    cond (nat_lt (lots_in buys) (lots_in sells)) low
    (cond (nat_lt (lots_in sells) (lots_in buys)) high
    (limit_of_earliest (waiting_at low high (sells ++ buys))))

-- the one limit, or the mean of the two if it is whole, or one of the two
abbrev pub settled_between : List Resting → List Resting → ℕ → ℕ → ℕ
settled_between sells buys low high =
    cond (low == high) low
    (cond ((low + high) % 2 == 0) ((low + high) / 2)
    (by_sides sells buys low high))

unfoldable pub cut_off : List Resting → List Resting → ℕ
cut_off sells buys = settled_between sells buys (lowest (candidates sells buys)) (highest (candidates sells buys))

-- what strike finds: nothing where no waiting sell limit is at or below a waiting buy limit
abbrev pub cut_off_found : List Resting → List Resting → Option Price
cut_off_found sells buys = cond (crosses sells buys) (Some (record { 0 = cut_off sells buys })) None

-- from the lowest candidate to the highest V is the greatest at every price, also at prices that are no waiting limit, and
-- the cut-off lies there
pub record GreatestBetween (sells buys : List Resting) : Type 0 where
  pub greatest : (p q : ℕ) → lowest (candidates sells buys) ≤ p → p ≤ highest (candidates sells buys) → volume sells buys q ≤ volume sells buys p
  pub from_lowest : lowest (candidates sells buys) ≤ cut_off sells buys
  pub to_highest : cut_off sells buys ≤ highest (candidates sells buys)
