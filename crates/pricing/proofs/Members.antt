-- Whether some element of a list passes a test.
use Rattle.std.proofs.Common.{◌≡◌, Bool, true, false, ◌||◌, ◌⊎◌, List, [], ◌∷◌, ◌++◌, reverse, sym, refl, ap, ◌∙◌, inl, inr}
use Rattle.std.specs.List.{AllByRecursion, list_any}
use Rattle.std.proofs.lemmas.Bool.{or_cases, or_left, or_right, both_ways}
use Rattle.std.proofs.lemmas.List.Folds.{list_any-append}
use Rattle.std.proofs.lemmas.List.Sorted.{IsPermutation-reverse, list_any-IsPermutation}

-- what each element that passes gives
pub any_gives : {X : Type 0} (test : X → Bool) (Q : Type 0) (xs : List X) → AllByRecursion (λ x. test x ≡ true → Q) xs → list_any test xs ≡ true → Q
any_gives test Q [] a e = absurd (both_ways false refl e)
any_gives test Q (x ∷ xs) a e = elim (or_cases (test x) (list_any test xs) e) [
  | inl t ↦ a.0 t
  | inr t ↦ any_gives test Q xs a.1 t
]

-- one of two lists has it
pub any-append_cases : {X : Type 0} (test : X → Bool) (xs ys : List X) → list_any test (xs ++ ys) ≡ true → (list_any test xs ≡ true) ⊎ (list_any test ys ≡ true)
any-append_cases test xs ys e = or_cases (list_any test xs) (list_any test ys) (sym (list_any-append test xs ys) ∙ e)

pub any-append-left : {X : Type 0} (test : X → Bool) (xs ys : List X) → list_any test xs ≡ true → list_any test (xs ++ ys) ≡ true
any-append-left test xs ys e = list_any-append test xs ys ∙ or_left (list_any test xs) (list_any test ys) e

pub any-append_right : {X : Type 0} (test : X → Bool) (xs ys : List X) → list_any test ys ≡ true → list_any test (xs ++ ys) ≡ true
any-append_right test xs ys e = list_any-append test xs ys ∙ or_right (list_any test xs) (list_any test ys) e

-- the other way round it is the same, also in front of another list
pub any-reverse : {X : Type 0} (test : X → Bool) (xs ys : List X) → list_any test (reverse xs ++ ys) ≡ list_any test (xs ++ ys)
any-reverse test xs ys =
    list_any-append test (reverse xs) ys ∙ ap (λ b. b || list_any test ys) (sym (list_any-IsPermutation test xs (reverse xs) (IsPermutation-reverse xs))) ∙ sym (list_any-append test xs ys)
