-- Finding an order's entry in a queue, and taking it out.
use Rattle.std.proofs.Common.{◌≡◌, ℕ, suc, ◌+◌, ◌<◌, ◌≤◌, Bool, true, false, cond, not, eqb, ltb, List, [], ◌∷◌, ◌++◌, length, Some, None, Option, sym, refl, ap, ◌∙◌, subst, arith}
use Rattle.std.specs.List.{remove, position, position_or_len}
use Rattle.std.specs.Option.{option_or}
use Rattle.std.proofs.lemmas.Bool.{ltb-true, ltb-false}
use Rattle.std.proofs.lemmas.List.Folds.{find-append}
use Rattle.market.specs.declared.order.Resting.{Resting}
use Rattle.market.specs.Orders.{lots_in, number_of}
use Rattle.session.specs.Lists.{first_with, without_first}

pub none_some : {X : Type 0} (x : X) → None ≡ Some x → ⊥
none_some x e = let z : ◌≡◌ {A = ℕ} 0 1 = cc in omega arith

abbrev pub is_of : ℕ → Resting → Bool
is_of n e = eqb (number_of e) n

-- the entry at the first place that is of the order goes
goes : (n : ℕ) (q : List Resting) → position_or_len (is_of n) q < length q → remove q (position_or_len (is_of n) q) ≡ without_first n q
goes n [] low = absurd (omega (arith, low))
goes n (x ∷ q) low = by (is_of n x) (goes n q) low
  where
    by : (t : Bool) → (position_or_len (is_of n) q < length q → remove q (position_or_len (is_of n) q) ≡ without_first n q) →
        cond (not t) (1 + position_or_len (is_of n) q) 0 < suc (length q) →
        remove (x ∷ q) (cond (not t) (1 + position_or_len (is_of n) q) 0) ≡ cond t q (x ∷ without_first n q)
    by true r low = refl
    by false r low =
        let next : suc (position_or_len (is_of n) q) ≡ 1 + position_or_len (is_of n) q = omega arith in
        subst (λ k. remove (x ∷ q) k ≡ x ∷ without_first n q) next (ap (λ ys. x ∷ ys) (r (omega arith)))

stays : (n : ℕ) (q : List Resting) → length q ≤ position_or_len (is_of n) q → without_first n q ≡ q
stays n [] far = refl
stays n (x ∷ q) far = by (is_of n x) (stays n q) far
  where
    by : (t : Bool) → (length q ≤ position_or_len (is_of n) q → without_first n q ≡ q) →
        suc (length q) ≤ cond (not t) (1 + position_or_len (is_of n) q) 0 → cond t q (x ∷ without_first n q) ≡ x ∷ q
    by true r far = absurd (omega arith)
    by false r far = ap (λ ys. x ∷ ys) (r (omega arith))

pub place_goes : (n : ℕ) (q : List Resting) (at : ℕ) → position (is_of n) q ≡ Some at → remove q at ≡ without_first n q
place_goes n q at e = by (ltb (position_or_len (is_of n) q) (length q)) refl e
  where
    by : (t : Bool) → ltb (position_or_len (is_of n) q) (length q) ≡ t → cond t (Some (position_or_len (is_of n) q)) None ≡ Some at → remove q at ≡ without_first n q
    by true h e =
        let same : position_or_len (is_of n) q ≡ at = cc in
        ap (remove q) (sym same) ∙ goes n q (ltb-true (position_or_len (is_of n) q) (length q) h)
    by false h e = absurd (none_some at e)

pub no_place : (n : ℕ) (q : List Resting) → position (is_of n) q ≡ None → without_first n q ≡ q
no_place n q e = by (ltb (position_or_len (is_of n) q) (length q)) refl e
  where
    by : (t : Bool) → ltb (position_or_len (is_of n) q) (length q) ≡ t → cond t (Some (position_or_len (is_of n) q)) None ≡ None → without_first n q ≡ q
    by true h e = absurd (none_some (position_or_len (is_of n) q) (sym e))
    by false h e = stays n q (ltb-false (position_or_len (is_of n) q) (length q) h)

-- no more lots, and no more entries, than before
pub lots_without : (n : ℕ) (q : List Resting) → lots_in (without_first n q) ≤ lots_in q
lots_without n [] = omega arith
lots_without n (x ∷ q) = by (eqb (number_of x) n) (lots_without n q)
  where
    by : (t : Bool) → lots_in (without_first n q) ≤ lots_in q → lots_in (cond t q (x ∷ without_first n q)) ≤ lots_in (x ∷ q)
    by true h = omega arith
    by false h = omega arith

-- an entry that is there leaves one place
pub length_without : (n : ℕ) (q : List Resting) → (length (without_first n q) ≤ length q) × ((e : Resting) → first_with n q ≡ Some e → length (without_first n q) + 1 ≡ length q)
length_without n [] = (omega arith, λ e h. absurd (none_some e h))
length_without n (x ∷ q) = by (eqb (number_of x) n) (length_without n q)
  where
    by : (t : Bool) → (length (without_first n q) ≤ length q) × ((e : Resting) → first_with n q ≡ Some e → length (without_first n q) + 1 ≡ length q) →
        (length (cond t q (x ∷ without_first n q)) ≤ suc (length q)) × ((e : Resting) → cond t (Some x) (first_with n q) ≡ Some e → length (cond t q (x ∷ without_first n q)) + 1 ≡ suc (length q))
    by true h = (omega arith, λ e k. omega arith)
    by false h = (omega (arith, h.0), λ e k. omega (arith, h.1 e k))

-- an order that waits in one of two queues leaves them with one entry less
pub one_less : (n : ℕ) (p q : List Resting) (e : Resting) → first_with n (p ++ q) ≡ Some e → length (without_first n p) + length (without_first n q) + 1 ≤ length p + length q
one_less n p q e h = by (first_with n p) refl
  where
    by : (o : Option Resting) → first_with n p ≡ o → length (without_first n p) + length (without_first n q) + 1 ≤ length p + length q
    by (Some x) k = omega (arith, (length_without n p).1 x k, (length_without n q).0)
    by None k = omega (arith, (length_without n p).0, (length_without n q).1 e (sym (ap (λ o. option_or o (first_with n q)) k) ∙ sym (find-append (is_of n) p q) ∙ h))
