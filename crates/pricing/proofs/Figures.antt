-- The highest, the lowest, the least and the last of figures.
use Rattle.std.proofs.Common.{◌≡◌, ℕ, ◌≤◌, min, max, List, [], ◌∷◌, map, Some, None, Option, sym, refl, ap, ◌∙◌, arith}
use Rattle.std.specs.Iterator.{Drains, PicksByCmp}
use Rattle.std.specs.List.{AllByRecursion, fold, reduce, last_or}
use Rattle.std.specs.Option.{option_map, unwrap_or, UnwrapsOrElse}
use Rattle.std.specs.Ordering.{nat_cmp, max_by_ordering}
use Rattle.std.proofs.lemmas.Iterator.{YieldsList, items_from_drains}
use Rattle.std.proofs.lemmas.Iterator.Consumers.{max_from_yields_List}
use Rattle.std.proofs.ByRecursion.{All-weaker}
use Rattle.market.specs.CutOff.{highest, lowest}
use Rattle.pricing.specs.Candidates.{least_of}
use Rattle.pricing.proofs.Limits.{Downward}

-- no figure is above the highest, and it is no higher than what none is above
pub highest_above : {X : Type 0} (f : X → ℕ) (xs : List X) → AllByRecursion (λ x. f x ≤ highest (map f xs)) xs
highest_above f [] = tt
highest_above f (x ∷ xs) =
    (omega arith, All-weaker (λ y. f y ≤ highest (map f xs)) (λ y. f y ≤ highest (map f (x ∷ xs))) (λ y h. omega arith) xs (highest_above f xs))

pub highest_le : {X : Type 0} (f : X → ℕ) (m : ℕ) (xs : List X) → AllByRecursion (λ x. f x ≤ m) xs → highest (map f xs) ≤ m
highest_le f m [] a = omega arith
highest_le f m (x ∷ xs) a = omega (arith, a.0, highest_le f m xs a.1)

-- none is below the least, and it is no lower than what none is below
pub least_below : {X : Type 0} (top : ℕ) (f : X → ℕ) (xs : List X) → AllByRecursion (λ x. least_of top (map f xs) ≤ f x) xs
least_below top f [] = tt
least_below top f (x ∷ xs) =
    (omega arith, All-weaker (λ y. least_of top (map f xs) ≤ f y) (λ y. least_of top (map f (x ∷ xs)) ≤ f y) (λ y h. omega arith) xs (least_below top f xs))

pub least_ge : {X : Type 0} (top : ℕ) (f : X → ℕ) (m : ℕ) (xs : List X) → m ≤ top → AllByRecursion (λ x. m ≤ f x) xs → m ≤ least_of top (map f xs)
least_ge top f m [] t a = t
least_ge top f m (x ∷ xs) t a = omega (arith, a.0, least_ge top f m xs t a.1)

-- the first is the lowest where none is below it
lowest_ge : {X : Type 0} (f : X → ℕ) (m : ℕ) (x : X) (xs : List X) → m ≤ f x → AllByRecursion (λ y. m ≤ f y) xs → m ≤ lowest (map f (x ∷ xs))
lowest_ge f m x [] h a = h
lowest_ge f m x (y ∷ ys) h a = omega (arith, lowest_ge f m y ys a.0 a.1)

pub lowest_first : {X : Type 0} (f : X → ℕ) (x : X) (xs : List X) → AllByRecursion (λ y. f x ≤ f y) xs → lowest (map f (x ∷ xs)) ≡ f x
lowest_first f x [] a = refl
lowest_first f x (y ∷ ys) a = omega (arith, lowest_ge f (f x) y ys a.0 a.1)

-- and the last, where they go downward
lowest_le : (p : ℕ) (ps : List ℕ) → lowest (p ∷ ps) ≤ p
lowest_le p [] = omega arith
lowest_le p (q ∷ qs) = omega arith

pub lowest-last : (ps : List ℕ) → Downward ps → lowest ps ≡ unwrap_or (last_or None ps) 0
lowest-last [] d = refl
lowest-last (p ∷ []) d = refl
lowest-last (p ∷ (q ∷ qs)) d = omega (arith, lowest-last (q ∷ qs) d.1, lowest_le q qs, d.0.0)

-- as iterators find them: a figure of an item, or n where there is no item
pub unwrapped : {X : Type 0} (f : X → ℕ) (n : ℕ) {P : X → Type 0} (o : Option X) {x : X} {m : Option ℕ} → UnwrapsOrElse o P x → ((y : X) → P y → f y ≡ n) → option_map f o ≡ m → f x ≡ unwrap_or m n
unwrapped f n None u d e = rw (sym e) (d _ u)
unwrapped f n (Some y) u d e = rw (sym e) (ap f u)

pub unwrapped_or : {X : Type 0} (f : X → ℕ) (o : Option X) (x : X) {m : Option ℕ} → option_map f o ≡ m → f (unwrap_or o x) ≡ unwrap_or m (f x)
unwrapped_or f None x e = rw (sym e) refl
unwrapped_or f (Some y) x e = rw (sym e) refl

fold_max : (n : ℕ) (ns : List ℕ) → fold max n ns ≡ max n (highest ns)
fold_max n [] = omega arith
fold_max n (m ∷ ms) = omega (arith, fold_max (max n m) ms)

reduce_max : (ns : List ℕ) → unwrap_or (reduce max ns) 0 ≡ highest ns
reduce_max [] = refl
reduce_max (n ∷ ns) = fold_max n ns

-- what `max` finds of a chain of values by their figures, 0 where there is none
pub highest_found : {S X : Type 0} {steps : S → Option X → S → Type 0} {s : S} {f : X → ℕ} {all : List ℕ} {P : X → Type 0} (o : Option X) {x : X} →
    PicksByCmp steps max_by_ordering (λ a b. nat_cmp (f a) (f b)) s o → YieldsList steps f s all → UnwrapsOrElse o P x → ((y : X) → P y → f y ≡ 0) → f x ≡ highest all
highest_found {f = f} {all = all} o ran y u d = unwrapped f 0 o u d (max_from_yields_List _ o ran y) ∙ reduce_max all

fold_min : (top n : ℕ) (ns : List ℕ) → min top (fold min n ns) ≡ min n (least_of top ns)
fold_min top n [] = omega arith
fold_min top n (m ∷ ms) = omega (arith, fold_min top (min n m) ms)

pub reduce_min : (top : ℕ) (ns : List ℕ) → unwrap_or (reduce min ns) top ≤ top → unwrap_or (reduce min ns) top ≡ least_of top ns
reduce_min top [] h = refl
reduce_min top (n ∷ ns) h = omega (arith, fold_min top n ns)

last_map : {A B : Type 0} (v : A → B) (o : Option A) (xs : List A) → option_map v (last_or o xs) ≡ last_or (option_map v o) (map v xs)
last_map v o [] = refl
last_map v o (x ∷ xs) = last_map v (Some x) xs

pub last_from_yields : {S A B : Type 0} {steps : S → Option A → S → Type 0} {v : A → B} {s : S} {all : List B} (r : Option A) →
    ((xs : List A) × Drains steps s xs × (r ≡ last_or None xs)) → YieldsList steps v s all → option_map v r ≡ last_or None all
last_from_yields {v = v} r (xs, d, e) y = ap (option_map v) e ∙ last_map v None xs ∙ ap (last_or None) (items_from_drains xs (d.1.0, d.1.1, λ _. (d.0, d.1.2)) y)
