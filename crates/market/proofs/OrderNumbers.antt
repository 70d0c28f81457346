-- The numbers of accepted orders: 1, 2 and so on, as they come, so that the next one is new.
use Rattle.std.proofs.Common.{◌≡◌, ℕ, suc, ◌+◌, ◌<◌, ◌≤◌, cond, eqb, List, [], ◌∷◌, ◌++◌, Contains, length, arith}
use Rattle.std.specs.List.{AllByRecursion}
use Rattle.std.proofs.ByRecursion.{All-weaker}
use Rattle.std.proofs.lemmas.Bool.Decides.{nat_tests}
use Rattle.std.proofs.lemmas.List.Elements.{All-contains, All-from_recursion}
use Rattle.market.specs.declared.order.Order.{Order}
use Rattle.market.specs.declared.order.Resting.{Resting}
use Rattle.market.specs.Orders.{total_if, number_of}
use Rattle.market.specs.Law.{NumberedFrom}
use Rattle.market.proofs.Totals.{total_none}

-- the next order gets the next number
pub numbered_push : (n : ℕ) (os : List Order) (o : Order) → NumberedFrom n os → o.number.0 ≡ length os + n → NumberedFrom n (os ++ (o ∷ []))
numbered_push n [] o a e = (omega arith, tt)
numbered_push n (x ∷ os) o a e = (a.0, numbered_push (suc n) os o a.1 (omega arith))

numbered_below : (n most : ℕ) (os : List Order) → NumberedFrom n os → length os + n ≡ suc most → AllByRecursion (λ o. o.number.0 ≤ most) os
numbered_below n most [] a e = tt
numbered_below n most (x ∷ os) a e = (omega (arith, a.0), numbered_below (suc n) most os a.1 (omega arith))

-- no number of an accepted order is above how many there are
pub numbers_known : (os : List Order) → NumberedFrom 1 os → AllByRecursion (λ o. o.number.0 ≤ length os) os
numbers_known os a = numbered_below 1 (length os) os a (omega arith)

-- nor that of a waiting one
pub waiting-known : (os : List Order) → NumberedFrom 1 os → (q : List Resting) → AllByRecursion (λ e. Contains os e.order) q → AllByRecursion (λ e. number_of e ≤ length os) q
waiting-known os a q recorded =
    let Known : Order → Type 0 = λ o. o.number.0 ≤ length os in
    All-weaker (λ (e : Resting). Contains os e.order) (λ (e : Resting). Known e.order)
    (λ e h. All-contains Known os e.order (All-from_recursion Known os (numbers_known os a)) h) q recorded

-- nothing is of a number above all those that occur
pub total_above : {X : Type 0} (number figure : X → ℕ) (most n : ℕ) (xs : List X) → most < n → AllByRecursion (λ x. number x ≤ most) xs → total_if (λ x. eqb (number x) n) figure xs ≡ 0
total_above number figure most n xs above a =
    total_none (λ x. cond (eqb (number x) n) (figure x) 0) xs (λ k d low. let h = All-from_recursion (λ x. number x ≤ most) xs a k d low in grind (arith, nat_tests))
