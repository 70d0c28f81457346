-- What of a list passes a test.
use Rattle.std.proofs.Common.{◌≡◌, ℕ, Bool, true, cond, ◌&&◌, eqb, List, [], ◌∷◌, map, filter, sym, refl, ap, ◌∙◌, inl, inr}
use Rattle.std.specs.List.{AllByRecursion, list_all}
use Rattle.std.proofs.lemmas.List.Elements.{All-from_recursion, recursion_from_All}
use Rattle.std.proofs.lemmas.List.Sums.{AllPass-from_list_all, list_all-from_AllPass}
use Rattle.std.proofs.lemmas.Bool.{cases_Bool, eqb-true, eqb-false}

-- two tests that agree on each element
pub kept_same : {X : Type 0} (t u : X → Bool) (xs : List X) → AllByRecursion (λ x. t x ≡ u x) xs → filter t xs ≡ filter u xs
kept_same t u [] a = refl
kept_same t u (x ∷ xs) a = let h = kept_same t u xs a.1 in let e = a.0 in cc

-- one test after another
pub kept_both : {X : Type 0} (t u : X → Bool) (xs : List X) → filter u (filter t xs) ≡ filter (λ x. t x && u x) xs
kept_both t u [] = refl
kept_both t u (x ∷ xs) = elim (cases_Bool (t x)) [
  | inl e ↦ let h = kept_both t u xs in rw e (ap (λ zs. cond (u x) (x ∷ zs) zs) h)
  | inr e ↦ rw e (kept_both t u xs)
]

-- after a map
pub kept_map : {X Y : Type 0} (test : Y → Bool) (f : X → Y) (xs : List X) → filter test (map f xs) ≡ map f (filter (λ x. test (f x)) xs)
kept_map test f [] = refl
kept_map test f (x ∷ xs) = elim (cases_Bool (test (f x))) [
  | inl e ↦ rw e (ap (λ zs. f x ∷ zs) (kept_map test f xs))
  | inr e ↦ rw e (kept_map test f xs)
]

-- every one
pub every_from : {X : Type 0} (test : X → Bool) (xs : List X) → AllByRecursion (λ x. test x ≡ true) xs → list_all test xs ≡ true
every_from test xs a = list_all-from_AllPass test xs (All-from_recursion (λ x. test x ≡ true) xs a)

pub all-every : {X : Type 0} (test : X → Bool) (xs : List X) → list_all test xs ≡ true → AllByRecursion (λ x. test x ≡ true) xs
all-every test xs e = recursion_from_All (λ x. test x ≡ true) xs (AllPass-from_list_all test xs e)

-- Those with the best figure. `up_to x m` says that x is no better than m; no figure is better than `best`, and what no figure
-- is better than, `best` is not better than either.
pub kept_best : {X : Type 0} (up_to : ℕ → ℕ → Bool) (figure : X → ℕ) (best : ℕ) (xs : List X) → ((m n : ℕ) → up_to m n ≡ true → up_to n m ≡ true → m ≡ n) →
    AllByRecursion (λ x. up_to (figure x) best ≡ true) xs → AllByRecursion (λ x. list_all (λ y. up_to (figure y) (figure x)) xs ≡ true → up_to best (figure x) ≡ true) xs →
    filter (λ x. list_all (λ y. up_to (figure y) (figure x)) xs) xs ≡ filter (λ x. eqb (figure x) best) xs
kept_best up_to figure best xs same below tight = kept_same _ _ xs (each xs below tight)
  where
    one : (x : _) → up_to (figure x) best ≡ true → (list_all (λ y. up_to (figure y) (figure x)) xs ≡ true → up_to best (figure x) ≡ true) →
        list_all (λ y. up_to (figure y) (figure x)) xs ≡ eqb (figure x) best
    one x b t = elim (cases_Bool (eqb (figure x) best)) [
      | inl e ↦ every_from (λ y. up_to (figure y) (figure x)) xs (rw (eqb-true (figure x) best e) below) ∙ sym e
      | inr e ↦ elim (cases_Bool (list_all (λ y. up_to (figure y) (figure x)) xs)) [
        | inl f ↦ absurd (eqb-false (figure x) best e (same (figure x) best b (t f)))
        | inr f ↦ f ∙ sym e
      ]
    ]

    each : (ys : List _) → AllByRecursion (λ x. up_to (figure x) best ≡ true) ys → AllByRecursion (λ x. list_all (λ y. up_to (figure y) (figure x)) xs ≡ true → up_to best (figure x) ≡ true) ys →
        AllByRecursion (λ x. list_all (λ y. up_to (figure y) (figure x)) xs ≡ eqb (figure x) best) ys
    each [] b t = tt
    each (y ∷ ys) b t = (one y b.0 t.0, each ys b.1 t.1)
