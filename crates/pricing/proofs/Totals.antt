-- Figures added up over lists.
use Rattle.std.proofs.Common.{◌≡◌, ℕ, ◌+◌, ◌-◌, ◌^◌, ◌≤◌, min, Bool, true, false, List, [], ◌∷◌, refl, arith}
use Rattle.std.specs.List.{AllByRecursion, fold}
use Rattle.market.specs.declared.order.Resting.{Resting}
use Rattle.market.specs.Orders.{total, total_if, lots_of, lots_in}

-- where none passes the test
pub total_none : {X : Type 0} (test : X → Bool) (f : X → ℕ) (xs : List X) → AllByRecursion (λ x. test x ≡ false) xs → total_if test f xs ≡ 0
total_none test f [] a = refl
total_none test f (x ∷ xs) a = rw a.0 (omega (arith, total_none test f xs a.1))

-- where each passes it
pub total-whole : {X : Type 0} (test : X → Bool) (f : X → ℕ) (xs : List X) → AllByRecursion (λ x. test x ≡ true) xs → total_if test f xs ≡ total f xs
total-whole test f [] a = refl
total-whole test f (x ∷ xs) a = rw a.0 (omega (arith, total-whole test f xs a.1))

-- the lots of a queue, added up as far as a u64 goes
pub fold_capped : (q : List Resting) (n : ℕ) → n ≤ 2 ^ 64 - 1 → fold (λ a e. min (a + lots_of e) (2 ^ 64 - 1)) n q ≡ min (n + lots_in q) (2 ^ 64 - 1)
fold_capped [] n h = omega arith
fold_capped (e ∷ es) n h = omega (arith, fold_capped es (min (n + lots_of e) (2 ^ 64 - 1)) (omega arith))
