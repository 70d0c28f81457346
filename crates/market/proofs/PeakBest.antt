-- The best of a list of prices by a figure, and the lowest and the highest of them.
use Rattle.std.proofs.Common.{◌≡◌, ℕ, ◌<◌, ◌≤◌, min, Bool, true, false, not, leb, List, [], ◌∷◌, length, get_or, filter, All, Contains, refl, subst, inl, inr, arith}
use Rattle.std.specs.Cmp.{IsStrictWeakOrder}
use Rattle.std.specs.List.{AllByRecursion, list_all}
use Rattle.std.proofs.lemmas.Bool.{both_ways, not-true, ltb-false, leb-true, le-leb, cases_lt}
use Rattle.std.proofs.lemmas.List.Elements.{All-contains, All-from_get_or, All-from_recursion, All-head, All-tail, All-weaker, Contains-append_cases, Contains-get_or, filter_passes}
use Rattle.std.proofs.lemmas.List.MinMax.{IsStrictWeakOrder-by_number, IsStrictWeakOrder-flip, IsFirstBest-from_best_of}
use Rattle.std.proofs.lemmas.List.Sorted.{Contains-permutation, IsPermutation-filter_both}
use Rattle.std.proofs.lemmas.List.Sums.{AllPass-from_list_all, list_all-from_AllPass}
use Rattle.market.specs.CutOff.{with_most, with_least, lowest, highest}

-- a filter keeps the members that pass
pub filter_keeps : {X : Type 0} (test : X → Bool) (xs : List X) (x : X) → Contains xs x → test x ≡ true → Contains (filter test xs) x
filter_keeps {X} test xs x m t =
    let fails : X → Bool = λ y. not (test y) in
    let split = Contains-permutation xs _ x (IsPermutation-filter_both test fails (λ _. refl) xs) m in
    elim (Contains-append_cases (filter test xs) (filter fails xs) x split) [
      | inl k ↦ k
      | inr k ↦ absurd (both_ways (test x) (not-true (test x) (All-contains (λ y. fails y ≡ true) (filter fails xs) x (filter_passes fails xs) k)) t)
    ]

-- those that are as good as every one: one at least, where what none beats is as good as each
best_some : {beats : ℕ → ℕ → Bool} → IsStrictWeakOrder beats → (good : ℕ → ℕ → Bool) → ((p q : ℕ) → beats q p ≡ false → good p q ≡ true) →
    (ps : List ℕ) → 0 < length ps → 0 < length (filter (λ p. list_all (good p) ps) ps)
best_some o good as_good [] some = absurd (omega arith)
best_some o good as_good (p ∷ ps) some =
    let first = IsFirstBest-from_best_of o p ps in
    let b = get_or (p ∷ ps) first.0 p in
    let each = All-from_get_or (λ q. good b q ≡ true) (p ∷ ps) p (λ i low. as_good b (get_or (p ∷ ps) i p) (first.1.1 i p low)) in
    let kept = filter_keeps (λ v. list_all (good v) (p ∷ ps)) (p ∷ ps) b (Contains-get_or (p ∷ ps) first.0 p first.1.0) (list_all-from_AllPass (good b) (p ∷ ps) each) in
    omega (arith, kept.1)

pub most_some : (figure : ℕ → ℕ) (ps : List ℕ) → 0 < length ps → 0 < length (with_most figure ps)
most_some figure =
    best_some (IsStrictWeakOrder-flip _ (IsStrictWeakOrder-by_number figure)) (λ p q. leb (figure q) (figure p)) (λ p q e. le-leb _ _ (ltb-false (figure p) (figure q) e))

pub least_some : (figure : ℕ → ℕ) (ps : List ℕ) → 0 < length ps → 0 < length (with_least figure ps)
least_some figure = best_some (IsStrictWeakOrder-by_number figure) (λ p q. leb (figure p) (figure q)) (λ p q e. le-leb _ _ (ltb-false (figure q) (figure p) e))

-- no one has a greater figure than those with the most
pub most_is_most : (figure : ℕ → ℕ) (ps : List ℕ) → All (λ p. All (λ q. figure q ≤ figure p) ps) (with_most figure ps)
most_is_most figure ps = All-weaker _ _
    (λ p e. All-weaker (λ q. leb (figure q) (figure p) ≡ true) _ (λ q l. leb-true (figure q) (figure p) l) ps (AllPass-from_list_all (λ q. leb (figure q) (figure p)) ps e))
    (with_most figure ps) (filter_passes (λ p. list_all (λ q. leb (figure q) (figure p)) ps) ps)

-- what holds of each holds of the lowest and of the highest
pub lowest_has : (P : ℕ → Type 0) (ps : List ℕ) → 0 < length ps → All P ps → P (lowest ps)
lowest_has P [] some a = absurd (omega arith)
lowest_has P (p ∷ []) some a = All-head P p [] a
lowest_has P (p ∷ (q ∷ ps)) some a =
    let rest = lowest_has P (q ∷ ps) (omega arith) (All-tail P p (q ∷ ps) a) in
    elim (cases_lt p (lowest (q ∷ ps))) [
      | inl l ↦ (let e : p ≡ min p (lowest (q ∷ ps)) = omega arith in subst P e (All-head P p (q ∷ ps) a))
      | inr l ↦ (let e : lowest (q ∷ ps) ≡ min p (lowest (q ∷ ps)) = omega arith in subst P e rest)
    ]

pub highest_has : (P : ℕ → Type 0) (ps : List ℕ) → 0 < length ps → All P ps → P (highest ps)
highest_has P [] some a = absurd (omega arith)
highest_has P (p ∷ []) some a = let e : p ≡ highest (p ∷ []) = omega arith in subst P e (All-head P p [] a)
highest_has P (p ∷ (q ∷ ps)) some a =
    let rest = highest_has P (q ∷ ps) (omega arith) (All-tail P p (q ∷ ps) a) in
    elim (cases_lt p (highest (q ∷ ps))) [
      | inl l ↦ (let e : highest (q ∷ ps) ≡ highest (p ∷ (q ∷ ps)) = omega arith in subst P e rest)
      | inr l ↦ (let e : p ≡ highest (p ∷ (q ∷ ps)) = omega arith in subst P e (All-head P p (q ∷ ps) a))
    ]

pub lowest-le-highest : (ps : List ℕ) → 0 < length ps → lowest ps ≤ highest ps
lowest-le-highest [] some = absurd (omega arith)
lowest-le-highest (p ∷ []) some = omega arith
lowest-le-highest (p ∷ (q ∷ ps)) some = omega (arith, lowest-le-highest (q ∷ ps) (omega arith))

-- the lowest is at or below each
each_above : (low : ℕ) (ps : List ℕ) → (0 < length ps → low ≤ lowest ps) → AllByRecursion (λ p. low ≤ p) ps
each_above low [] below = tt
each_above low (p ∷ []) below = (below (omega arith), tt)
each_above low (p ∷ (q ∷ ps)) below =
    let under = below (omega arith) in (omega (arith, under), each_above low (q ∷ ps) (λ _. omega (arith, under)))

pub lowest_below : (ps : List ℕ) (p : ℕ) → Contains ps p → lowest ps ≤ p
lowest_below ps p there = All-contains (λ q. lowest ps ≤ q) ps p (All-from_recursion (λ q. lowest ps ≤ q) ps (each_above (lowest ps) ps (λ _. omega arith))) there
