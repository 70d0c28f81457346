-- A pass over a list that writes every element, by the element and by a state that it carries along.
use Rattle.std.specs.Prelude.{◌≡◌, ℕ, ◌+◌, ◌<◌, ◌≤◌, List, [], ◌∷◌, ◌++◌, length, take, drop, slice_index_or, slice_set}
use Rattle.std.proofs.Common.{sym, ap, append_assoc, arith}
use Rattle.std.specs.List.{AllByRecursion}
use Rattle.std.proofs.lemmas.List.{take_all, drop_all, append-nil, drop_more, take_more_set, drop-set-lt}

module _ {S X : Type 0} (write : S → X → X) (next : S → X → S) where
  -- what the pass makes of a list, from a state on
  abbrev pub walk : S → List X → List X
  walk s [] = []
  walk s (x ∷ xs) = write s x ∷ walk (next s x) xs

  -- the state that it ends in
  abbrev pub walk_end : S → List X → S
  walk_end s [] = s
  walk_end s (x ∷ xs) = walk_end (next s x) xs

  -- what it will have made of xs, when it stands at i
  abbrev pub walk_from : List X → ℕ → S → List X
  walk_from xs i s = take i xs ++ walk s (drop i xs)

  -- one step leaves that as it is
  pub walk_more :
      (xs : List X) (i : ℕ) (s : S) (d : X) → i < length xs →
      walk_from (slice_set xs i (write s (slice_index_or xs i d))) (i + 1) (next s (slice_index_or xs i d)) ≡ walk_from xs i s
  walk_more xs i s d h =
      let y = write s (slice_index_or xs i d) in
      let t = take_more_set xs i y h in
      let q = drop-set-lt (i + 1) xs i y (omega arith) in
      simp (t, q, append_assoc) (sym (ap (λ zs. take i xs ++ walk s zs) (drop_more xs i d h)))

  -- and at the end it is the list
  pub walk_all : (xs : List X) (i : ℕ) (s : S) → length xs ≤ i → walk_from xs i s ≡ xs
  walk_all xs i s h =
      let t = take_all i xs h in
      let d = drop_all i xs h in
      simp (t, d, append-nil)

  -- the same of the state
  pub end_more :
      (xs : List X) (i : ℕ) (s : S) (y d : X) → i < length xs →
      walk_end (next s (slice_index_or xs i d)) (drop (i + 1) (slice_set xs i y)) ≡ walk_end s (drop i xs)
  end_more xs i s y d h =
      let q = drop-set-lt (i + 1) xs i y (omega arith) in
      rw q (sym (ap (walk_end s) (drop_more xs i d h)))

  pub end_all : (xs : List X) (i : ℕ) (s : S) → length xs ≤ i → walk_end s (drop i xs) ≡ s
  end_all xs i s h = ap (walk_end s) (drop_all i xs h)

-- what holds of each element that the pass has yet to reach
pub ahead_more :
    {X : Type 0} (P : X → Type 0) (xs : List X) (i : ℕ) (y d : X) → i < length xs → AllByRecursion P (drop i xs) →
    P (slice_index_or xs i d) × AllByRecursion P (drop (i + 1) (slice_set xs i y))
ahead_more P xs i y d h a =
    let q = drop-set-lt (i + 1) xs i y (omega arith) in
    let b = rw (drop_more xs i d h) at a in
    (b.0, rw q b.1)
