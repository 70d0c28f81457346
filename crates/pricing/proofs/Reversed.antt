-- Sells the other way round go price downward, and are the same otherwise.
use Rattle.std.proofs.Common.{◌≡◌, ℕ, ◌≤◌, List, [], ◌∷◌, ◌++◌, reverse, length, take, drop, sym, ap, ◌∙◌}
use mathlib.Core.List.{reverse_aux}
use Rattle.std.specs.List.{AllByRecursion}
use Rattle.std.proofs.Math.Seq.{take-append_seam, drop-append_seam}
use Rattle.std.proofs.lemmas.List.{length-reverse, reverse-append, take-append-drop}
use Rattle.std.proofs.lemmas.List.Sorted.{IsPermutation-reverse}
use Rattle.units.specs.declared.side.Side.TheVariants.{Sell, Buy}
use Rattle.market.specs.declared.order.Resting.{Resting}
use Rattle.market.specs.Orders.{total, limit_of}
use Rattle.market.proofs.Totals.{total_moved}
use Rattle.pricing.proofs.Sides.{Sorted}

pub total-reverse : {X : Type 0} (f : X → ℕ) (xs : List X) → total f (reverse xs) ≡ total f xs
total-reverse f xs = total_moved f xs (reverse xs) (IsPermutation-reverse xs)

-- one more stands in front of those that each of xs is no lower than
one_more : (x : Resting) (ys xs : List Resting) → AllByRecursion (λ z. limit_of x ≤ limit_of z) xs → AllByRecursion (λ z. AllByRecursion (λ y. limit_of y ≤ limit_of z) ys) xs →
    AllByRecursion (λ z. AllByRecursion (λ y. limit_of y ≤ limit_of z) (x ∷ ys)) xs
one_more x ys [] a b = tt
one_more x ys (z ∷ zs) a b = ((a.0, b.0), one_more x ys zs a.1 b.1)

sorted_onto : (xs ys : List Resting) → Sorted Sell xs → Sorted Buy ys → AllByRecursion (λ z. AllByRecursion (λ y. limit_of y ≤ limit_of z) ys) xs → Sorted Buy (reverse_aux xs ys)
sorted_onto [] ys s t a = t
sorted_onto (x ∷ xs) ys s t a = sorted_onto xs (x ∷ ys) s.1 (a.0, t) (one_more x ys xs s.0 a.1)

none_yet : (xs : List Resting) → AllByRecursion (λ z. AllByRecursion (λ y. limit_of y ≤ limit_of z) []) xs
none_yet [] = tt
none_yet (x ∷ xs) = (tt, none_yet xs)

pub sorted-reverse : (xs : List Resting) → Sorted Sell xs → Sorted Buy (reverse xs)
sorted-reverse xs s = sorted_onto xs [] s tt (none_yet xs)

-- the two parts of a list, the other way round
pub split_reversed : {X : Type 0} (q : List X) (n : ℕ) (front back : List X) → front ≡ take n q → back ≡ drop n q →
    (take (length back) (reverse q) ≡ reverse back) × (drop (length back) (reverse q) ≡ reverse front)
split_reversed q n front back f b =
    let r : reverse q ≡ reverse back ++ reverse front = ap reverse (sym (take-append-drop n q)) ∙ rw (sym f, sym b) (reverse-append front back) in
    let l = sym (length-reverse back) in
    (rw (r, l) (take-append_seam (reverse back) (reverse front)), rw (r, l) (drop-append_seam (reverse back) (reverse front)))
