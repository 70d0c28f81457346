-- The lowest-numbered order, picked one order after another, is the earliest of the list.
use Rattle.std.proofs.Common.{◌≡◌, List, [], ◌∷◌, map, Some, None, Option, Bor, sym, refl, ap, ◌∙◌, subst, arith}
use Rattle.std.specs.declared.cmp.Ordering.{Ordering}
use Rattle.std.specs.declared.cmp.Ordering.TheVariants.{Less, Equal, Greater}
use Rattle.std.specs.Fn.{CalledAt}
use Rattle.std.specs.Iterator.{PicksMinByKey, KeyTurn}
use Rattle.std.specs.List.{FoldsTo}
use Rattle.std.specs.Option.{MatchOption}
use Rattle.std.specs.Ordering.{nat_cmp, min_by_ordering}
use Rattle.std.proofs.lemmas.Bool.Decides.{nat_tests}
use Rattle.std.proofs.lemmas.Iterator.{YieldsList, items_from_drains}
use Rattle.units.specs.declared.quantity.Price.{Price}
use Rattle.market.specs.declared.order.OrderNumber.{OrderNumber}
use Rattle.market.specs.declared.order.Resting.{Resting}
use Rattle.market.specs.Orders.{number_of, limit_of}
use Rattle.market.specs.CutOff.{earlier, earliest, limit_of_earliest}

picked_by : {X Y : Type 0} (f : X → Y) (o : Ordering) (x y : X) → f (min_by_ordering o x y) ≡ min_by_ordering o (f x) (f y)
picked_by f Less x y = refl
picked_by f Equal x y = refl
picked_by f Greater x y = refl

-- the lesser number is picked, and the first of two that are the same
picked_earlier : (x y : Resting) → min_by_ordering (nat_cmp (number_of x) (number_of y)) x y ≡ earlier x y
picked_earlier x y = grind (arith, nat_tests)

-- how order numbers compare
abbrev by_number : OrderNumber → OrderNumber → Ordering
by_number m n = nat_cmp m.0 n.0

-- from the first order on
picked_from : {F : Type 0} (g : _) (f : F) (call : (x : Bor Resting) (k : OrderNumber) (q : F) → CalledAt g f x k q → (q ≡ f) × (k ≡ x.now.order.number)) →
    (x y : Bor Resting) (k : OrderNumber) (p : F) (q : F × OrderNumber) (xs : List (Bor Resting)) → p ≡ f → k ≡ x.now.order.number → FoldsTo {P = (F × OrderNumber) × Bor Resting} (KeyTurn min_by_ordering min_by_ordering g by_number) ((p, k), x) xs (q, y) →
    y.now ≡ earliest x.now (map (λ z. z.now) xs)
picked_from g f call x y k p q [] e n h = ap (λ w. w.1.now) (sym h)
picked_from g f call x y k p q (z ∷ zs) e n (next, (k', o, called, compared, key, item), rest) =
    let a = call z k' next.0.0 (subst (λ r. CalledAt g r z k' next.0.0) e called) in
    let c : o ≡ nat_cmp (number_of x.now) (number_of z.now) = sym compared ∙ rw (n, a.1) refl in
    let i = ap (λ v. v.now) item ∙ picked_by (λ v. v.now) o x z ∙ ap (λ w. min_by_ordering w x.now z.now) c ∙ picked_earlier x.now z.now in
    let m : next.0.1 ≡ next.1.now.order.number = key ∙ rw (n, a.1) refl ∙ sym (picked_by (λ v. v.now.order.number) o x z) ∙ sym (ap (λ v. v.now.order.number) item) in
    picked_from g f call next.1 y next.0.1 next.0.0 q zs a.0 m rest ∙ ap (λ v. earliest v (map (λ w. w.now) zs)) i

-- what `min_by_key` finds of orders by their numbers has the limit of the earliest
pub earliest_picked : {S F : Type 0} {steps : S → Option (Bor Resting) → S → Type 0} {s : S} {all : List Resting} {f : F} (g : _) (r : Option (Bor Resting)) (price : Price) (Limit : Bor Resting → Type 0) →
    PicksMinByKey steps g by_number s f r → YieldsList steps (λ y. y.now) s all → ((x : Bor Resting) (k : OrderNumber) (q : F) → CalledAt g f x k q → (q ≡ f) × (k ≡ x.now.order.number)) →
    MatchOption r (price ≡ record { 0 = 0 }) Limit → ((x : Bor Resting) → Limit x → price ≡ x.now.order.limit) → price.0 ≡ limit_of_earliest all
earliest_picked g None price Limit d y call m limit =
    ap (λ p. p.0) m ∙ ap limit_of_earliest (items_from_drains [] (d.1.0, d.1.1, λ _. (d.0, d.1.2)) y)
earliest_picked g (Some x) price Limit (first, others, k, p, q, d, called, picked) y call m limit =
    let h = items_from_drains (first ∷ others) (d.1.0, d.1.1, λ _. (d.0, d.1.2)) y in
    let a = call first k p called in
    ap (λ l. l.0) (limit x m) ∙ ap limit_of (picked_from g _ call first x k p q others a.0 a.1 picked) ∙ ap limit_of_earliest h
