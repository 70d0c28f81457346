-- What can deal, price by price: supply grows with the price, demand falls, and the greatest volume is found at a waiting limit.
use Rattle.std.proofs.Common.{◌≡◌, ℕ, zero, suc, ◌≤◌, true, false, cond, eqb, ltb, leb, List, [], ◌∷◌, ◌++◌, refl, ◌∙◌, inl, inr, arith}
use Rattle.std.proofs.lemmas.Bool.{cases_Bool, or_parts, or_left}
use Rattle.std.proofs.lemmas.Bool.Decides.{nat_tests}
use Rattle.std.proofs.lemmas.List.Folds.{list_any-append}
use Rattle.market.specs.declared.order.Resting.{Resting}
use Rattle.market.specs.Orders.{total_if, limit_of, lots_of}
use Rattle.market.specs.Prices.{supply, demand, volume}
use Rattle.market.proofs.Totals.{total_none, total_le}
use Rattle.market.proofs.PeakLimits.{has_limit}

pub supply_grows : (sells : List Resting) (p q : ℕ) → p ≤ q → supply sells p ≤ supply sells q
supply_grows sells p q l = total_le _ _ (λ e. grind (arith, nat_tests)) sells

pub demand_falls : (buys : List Resting) (p q : ℕ) → p ≤ q → demand buys q ≤ demand buys p
demand_falls buys p q l = total_le _ _ (λ e. grind (arith, nat_tests)) buys

-- at a price that is no sell's limit no more is offered than by the sells below it
supply_between : (sells : List Resting) (p : ℕ) → has_limit p sells ≡ false → supply sells p ≡ total_if (λ e. ltb (limit_of e) p) lots_of sells
supply_between [] p none = refl
supply_between (e ∷ sells) p none =
    let parts = or_parts (eqb p (limit_of e)) (has_limit p sells) none in
    let here = parts.0 in
    let rest = supply_between sells p parts.1 in
    grind (arith, nat_tests)

-- so where no waiting limit has a greater volume than v, no price has
module _ (sells buys : List Resting) (v : ℕ) (most : (p : ℕ) → has_limit p (sells ++ buys) ≡ true → volume sells buys p ≤ v) where
  at_limit : (p : ℕ) → (has_limit p sells ≡ false → volume sells buys p ≤ v) → volume sells buys p ≤ v
  at_limit p otherwise = elim (cases_Bool (has_limit p sells)) [
    | inl t ↦ most p (list_any-append (λ e. eqb p (limit_of e)) sells buys ∙ or_left (has_limit p sells) (has_limit p buys) t)
    | inr none ↦ otherwise none
  ]

  pub most_at_limit : (q : ℕ) → volume sells buys q ≤ v
  most_at_limit zero = at_limit zero (λ none.
      let nothing = total_none (λ e. cond (ltb (limit_of e) 0) (lots_of e) 0) sells (λ k d low. grind (arith, nat_tests)) in
      omega (arith, supply_between sells zero none))
  most_at_limit (suc q) = at_limit (suc q) (λ none.
      let under = total_le (λ e. cond (ltb (limit_of e) (suc q)) (lots_of e) 0) (λ e. cond (leb (limit_of e) q) (lots_of e) 0) (λ e. grind (arith, nat_tests)) sells in
      omega (arith, supply_between sells (suc q) none, demand_falls buys q (suc q) (omega arith), most_at_limit q))

-- and between two prices with volumes of at least v, every price has one
pub least_between : (sells buys : List Resting) (v low high p : ℕ) → v ≤ volume sells buys low → v ≤ volume sells buys high →
    low ≤ p → p ≤ high → v ≤ volume sells buys p
least_between sells buys v low high p a b l h = omega (arith, supply_grows sells low p l, demand_falls buys p high h)
