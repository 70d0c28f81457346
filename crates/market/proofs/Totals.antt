-- Figures added up over lists, and what holds of each line of two lists.
use Rattle.std.proofs.Common.{◌≡◌, ℕ, ◌+◌, ◌≤◌, Bool, not, List, [], ◌∷◌, ◌++◌, filter, sum_by, All, IsPermutation, sym, refl, ◌∙◌, arith}
use Rattle.std.specs.List.{AllByRecursion}
use Rattle.std.proofs.lemmas.List.Elements.{All-head, All-tail}
use Rattle.std.proofs.lemmas.List.Filters.{sum_by-filter_both}
use Rattle.std.proofs.lemmas.List.Recursion.{is_sum_by}
use Rattle.std.proofs.lemmas.List.Sorted.{sum_by-IsPermutation}
use Rattle.std.proofs.lemmas.List.Sums.{sum_by-append, sum_by-insert, sum_by-le-sum_by}
use Rattle.ordered_list.specs.Order.{position_of, placed}
use Rattle.market.specs.Orders.{total}

module _ {X : Type 0} (f : X → ℕ) where
  -- a total is the library's sum
  pub total_is : (xs : List X) → total f xs ≡ sum_by f xs
  total_is = is_sum_by (total f) f refl (λ _ _. refl)

  pub total-append : (xs ys : List X) → total f (xs ++ ys) ≡ total f xs + total f ys
  total-append xs ys = omega (arith, total_is, sum_by-append f)

  -- a line more
  pub total-placed : (after : X → X → Bool) (x : X) (xs : List X) → total f (placed after x xs) ≡ f x + total f xs
  total-placed after x xs = omega (arith, total_is, sum_by-insert f xs (position_of after x xs) x)

  -- the lines in another order
  pub total_moved : (xs ys : List X) → IsPermutation xs ys → total f ys ≡ total f xs
  total_moved xs ys m = total_is ys ∙ sum_by-IsPermutation f xs ys m ∙ sym (total_is xs)

  -- those that pass a test, and those that do not
  pub total_parted : (test : X → Bool) (xs : List X) → total f (filter test xs) + total f (filter (λ x. not (test x)) xs) ≡ total f xs
  total_parted test xs = omega (arith, total_is, sum_by-filter_both test (λ x. not (test x)) (λ _. refl) f xs)

  -- figures that are 0 of each line, and figures of which one is nowhere greater
  pub total_none : (xs : List X) → All (λ x. f x ≡ 0) xs → total f xs ≡ 0
  total_none [] a = refl
  total_none (x ∷ xs) a = omega (arith, All-head (λ y. f y ≡ 0) x xs a, total_none xs (All-tail (λ y. f y ≡ 0) x xs a))

  pub total_le : (g : X → ℕ) → ((x : X) → f x ≤ g x) → (xs : List X) → total f xs ≤ total g xs
  total_le g le xs = omega (arith, total_is xs, is_sum_by (total g) g refl (λ _ _. refl) xs, sum_by-le-sum_by f g xs le)

-- what holds of each line of two lists
pub all_first : {X : Type 0} (P : X → Type 0) (xs ys : List X) → AllByRecursion P (xs ++ ys) → AllByRecursion P xs
all_first P [] ys a = tt
all_first P (x ∷ xs) ys a = (a.0, all_first P xs ys a.1)

pub all_second : {X : Type 0} (P : X → Type 0) (xs ys : List X) → AllByRecursion P (xs ++ ys) → AllByRecursion P ys
all_second P [] ys a = a
all_second P (x ∷ xs) ys a = all_second P xs ys a.1
