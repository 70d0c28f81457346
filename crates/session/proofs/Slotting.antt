-- What stands in the slots, and how many of them are filled.
use Rattle.std.proofs.Common.{◌≡◌, ℕ, zero, suc, ◌+◌, ◌<◌, ◌≤◌, Bool, true, false, cond, eqb, ◌≢◌, List, [], ◌∷◌, ◌++◌, length, get_or, take, drop, set, replicate, Some, None, Option, sym, refl, ap, ◌∙◌, subst, arith}
use Rattle.std.specs.List.{AllByRecursion}
use Rattle.std.specs.Option.{option_or}
use Rattle.std.proofs.lemmas.List.{at_drop_more, length-set, length-replicate, get_or-set_same, get_or-set_other, get_or-replicate}
use Rattle.std.proofs.lemmas.Bool.{eqb-true, eqb-false, ne_eqb}
use Rattle.market.specs.declared.order.Resting.{Resting}
use Rattle.market.specs.Orders.{total, number_of}
use Rattle.market.specs.Law.{Distinct}
use Rattle.session.specs.Lists.{first_with}
use Rattle.session.specs.Slots.{slotted, by_number}

-- ONE ENTRY MORE

pub slotted_more : (q : List Resting) (slots next : List (Option Resting)) (i : ℕ) (d : Resting) → i < length q →
    next ≡ set slots (number_of (get_or q i d)) (Some (get_or q i d)) → slotted (drop (i + 1) q) next ≡ slotted (drop i q) slots
slotted_more q slots next i d low e = ap (slotted (drop (i + 1) q)) e ∙ sym (at_drop_more (λ rest. slotted rest slots) q i d low)

-- HOW MANY ARE FILLED

abbrev pub counted : {X : Type 0} → Option X → ℕ
counted None = 0
counted (Some x) = 1

abbrev pub filled : {X : Type 0} → List (Option X) → ℕ
filled slots = total counted slots

filled-set : {X : Type 0} (slots : List (Option X)) (k : ℕ) (x : X) → filled (set slots k (Some x)) ≤ filled slots + 1
filled-set [] k x = omega arith
filled-set (o ∷ slots) zero x = omega arith
filled-set (o ∷ slots) (suc k) x = omega (arith, filled-set slots k x)

-- each entry fills at most one
filled-slotted : (q : List Resting) (slots : List (Option Resting)) → filled (slotted q slots) ≤ filled slots + length q
filled-slotted [] slots = omega arith
filled-slotted (e ∷ q) slots = omega (arith, filled-slotted q (set slots (number_of e) (Some e)), filled-set slots (number_of e) e)

filled_free : (n : ℕ) → filled (replicate {A = Option Resting} n None) ≡ 0
filled_free zero = refl
filled_free (suc n) = omega (arith, filled_free n)

filled-drop : {X : Type 0} (n : ℕ) (slots : List (Option X)) → filled (drop n slots) ≤ filled slots
filled-drop zero slots = omega arith
filled-drop (suc n) [] = omega arith
filled-drop (suc n) (o ∷ slots) = omega (arith, filled-drop n slots)

pub filled-take : {X : Type 0} (n : ℕ) (slots : List (Option X)) → filled (take n slots) ≤ filled slots
filled-take zero slots = omega arith
filled-take (suc n) [] = omega arith
filled-take (suc n) (o ∷ slots) = omega (arith, filled-take n slots)

-- no more are filled than wait
pub filled_by : (sells buys : List Resting) (k : ℕ) → filled (drop k (by_number sells buys)) ≤ length sells + length buys
filled_by sells buys k = omega (
  arith,
  filled-drop k (by_number sells buys),
  filled-slotted buys (slotted sells (replicate 513 None)),
  filled-slotted sells (replicate 513 None),
  filled_free 513,
)

-- one slot more is seen
pub filled_more : (slots : List (Option Resting)) (k : ℕ) (o : Option Resting) → k < length slots → get_or slots k None ≡ o → filled (drop k slots) ≡ counted o + filled (drop (k + 1) slots)
filled_more slots k o low e = at_drop_more filled slots k None low ∙ ap (λ x. counted x + filled (drop (k + 1) slots)) e

length-slotted : (q : List Resting) (slots : List (Option Resting)) → length (slotted q slots) ≡ length slots
length-slotted [] slots = refl
length-slotted (e ∷ q) slots = length-slotted q (set slots (number_of e) (Some e)) ∙ length-set slots (number_of e) (Some e)

pub by_number_long : (sells buys : List Resting) → length (by_number sells buys) ≡ 513
by_number_long sells buys = length-slotted buys (slotted sells (replicate 513 None)) ∙ length-slotted sells (replicate 513 None) ∙ length-replicate {A = Option Resting} 513 None

-- WHICH ENTRY STANDS WHERE

none_first : (n : ℕ) (q : List Resting) → AllByRecursion (λ x. number_of x ≢ n) q → first_with n q ≡ None
none_first n [] a = refl
none_first n (e ∷ q) a = let f : eqb (number_of e) n ≡ false = ne_eqb (number_of e) n a.0 in simp f (none_first n q a.1)

slot_at : (n : ℕ) (q : List Resting) (slots : List (Option Resting)) (d : Option Resting) → Distinct q → n < length slots →
    get_or (slotted q slots) n d ≡ option_or (first_with n q) (get_or slots n d)
slot_at n [] slots d a low = refl
slot_at n (e ∷ q) slots d a low = by (eqb (number_of e) n) refl (slot_at n q (set slots (number_of e) (Some e)) d a.1 (omega (arith, length-set slots (number_of e) (Some e))))
  where
    by : (t : Bool) → eqb (number_of e) n ≡ t →
        get_or (slotted q (set slots (number_of e) (Some e))) n d ≡ option_or (first_with n q) (get_or (set slots (number_of e) (Some e)) n d) →
        get_or (slotted q (set slots (number_of e) (Some e))) n d ≡ option_or (cond t (Some e) (first_with n q)) (get_or slots n d)
    by true h r =
        let same = eqb-true (number_of e) n h in
        let others = none_first n q (subst (λ k. AllByRecursion (λ x. number_of x ≢ k) q) same a.0) in
        r ∙ ap (λ o. option_or o (get_or (set slots (number_of e) (Some e)) n d)) others
        ∙ ap (λ k. get_or (set slots k (Some e)) n d) same ∙ get_or-set_same slots n (Some e) d low
    by false h r =
        r ∙ ap (option_or (first_with n q)) (get_or-set_other slots (number_of e) n (Some e) d (λ same. eqb-false (number_of e) n h (sym same)))

slotted-append : (p q : List Resting) (slots : List (Option Resting)) → slotted (p ++ q) slots ≡ slotted q (slotted p slots)
slotted-append [] q slots = refl
slotted-append (e ∷ p) q slots = slotted-append p q (set slots (number_of e) (Some e))

or_none : {X : Type 0} (o : Option X) → option_or o None ≡ o
or_none None = refl
or_none (Some x) = refl

-- the slot of a number holds the entry of that order, if it waits
pub slot_is : (sells buys : List Resting) (n : ℕ) (d : Option Resting) → Distinct (sells ++ buys) → n < 513 → get_or (by_number sells buys) n d ≡ first_with n (sells ++ buys)
slot_is sells buys n d a low =
    let free : List (Option Resting) = replicate 513 None in
    ap (λ slots. get_or slots n d) (sym (slotted-append sells buys free))
    ∙ slot_at n (sells ++ buys) free d a (omega (arith, length-replicate {A = Option Resting} 513 None))
    ∙ ap (option_or (first_with n (sells ++ buys))) (get_or-replicate 513 n None d low)
    ∙ or_none (first_with n (sells ++ buys))
