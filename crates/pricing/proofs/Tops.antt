-- The next limit of a walk price downward: no waiting limit is above it, and an order at the front has it.
use Rattle.std.proofs.Common.{◌≡◌, ℕ, ◌+◌, ◌<◌, ◌≤◌, max, true, eqb, List, [], ◌∷◌, ◌++◌, Some, sym, ap, inl, inr, arith}
use Rattle.std.specs.List.{AllByRecursion}
use Rattle.std.proofs.ByRecursion.{All-weaker}
use Rattle.std.proofs.lemmas.Bool.{eq-eqb, or_left, cases_lt}
use Rattle.units.specs.declared.quantity.Price.{Price}
use Rattle.units.specs.declared.side.Side.TheVariants.{Buy}
use Rattle.market.specs.declared.order.Resting.{Resting}
use Rattle.market.specs.Orders.{limit_of}
use Rattle.market.proofs.PeakLimits.{has_limit}
use Rattle.pricing.specs.Levels.{front_orders}
use Rattle.pricing.specs.Lines.{next_limit}
use Rattle.pricing.proofs.Sides.{Sorted}
use Rattle.pricing.proofs.Members.{any-append_right}

-- the order at the front of one list has the limit
data Fronted (p : ℕ) : List Resting → List Resting → Type 0 where
  offer : {o : Resting} {os bs : List Resting} → limit_of o ≡ p → Fronted p (o ∷ os) bs
  bid : {b : Resting} {os bs : List Resting} → limit_of b ≡ p → Fronted p os (b ∷ bs)

next_fronted : (os bs : List Resting) (price : Price) → next_limit os bs ≡ Some price → Fronted price.0 os bs
next_fronted [] [] price e = cc
next_fronted (o ∷ os) [] price e = offer (let h : o.order.limit ≡ price = cc in ap (λ (v : Price). v.0) h)
next_fronted [] (b ∷ bs) price e = bid (let h : b.order.limit ≡ price = cc in ap (λ (v : Price). v.0) h)
next_fronted (o ∷ os) (b ∷ bs) price e =
    let v : Price = record { 0 = max (limit_of o) (limit_of b) } in
    let h : v ≡ price = cc in
    let k = ap (λ (w : Price). w.0) h in
    elim (cases_lt (limit_of o) (limit_of b)) [
      | inl l ↦ bid (omega arith)
      | inr l ↦ offer (omega arith)
    ]

front-some : (p : ℕ) (e : Resting) (es : List Resting) → limit_of e ≡ p → 0 < front_orders p (e ∷ es)
front-some p e es h = rw (eq-eqb (limit_of e) p h) (omega arith)

fronted_some : (p : ℕ) (os bs : List Resting) → Fronted p os bs → 0 < front_orders p os + front_orders p bs
fronted_some p (o ∷ os) bs (offer h) = omega (arith, front-some p o os h)
fronted_some p os (b ∷ bs) (bid h) = omega (arith, front-some p b bs h)

-- at least one order stands at the next limit
pub next_some : (os bs : List Resting) (price : Price) → next_limit os bs ≡ Some price → 0 < front_orders price.0 os + front_orders price.0 bs
next_some os bs price e = fronted_some price.0 os bs (next_fronted os bs price e)

all_top : (p : ℕ) (e : Resting) (es : List Resting) → Sorted Buy (e ∷ es) → limit_of e ≤ p → AllByRecursion (λ x. limit_of x ≤ p) (e ∷ es)
all_top p e es s h = (h, All-weaker (λ x. limit_of x ≤ limit_of e) (λ x. limit_of x ≤ p) (λ x k. omega arith) es s.0)

-- no limit is above the next one
pub next_top : (os bs : List Resting) (price : Price) → Sorted Buy os → Sorted Buy bs → next_limit os bs ≡ Some price →
    AllByRecursion (λ x. limit_of x ≤ price.0) os × AllByRecursion (λ x. limit_of x ≤ price.0) bs
next_top [] [] price s t e = (tt, tt)
next_top (o ∷ os) [] price s t e =
    let h : o.order.limit ≡ price = cc in
    let k = ap (λ (v : Price). v.0) h in
    (all_top price.0 o os s (omega arith), tt)
next_top [] (b ∷ bs) price s t e =
    let h : b.order.limit ≡ price = cc in
    let k = ap (λ (v : Price). v.0) h in
    (tt, all_top price.0 b bs t (omega arith))
next_top (o ∷ os) (b ∷ bs) price s t e =
    let v : Price = record { 0 = max (limit_of o) (limit_of b) } in
    let h : v ≡ price = cc in
    let k = ap (λ (w : Price). w.0) h in
    (all_top price.0 o os s (omega arith), all_top price.0 b bs t (omega arith))

fronted_has : (p : ℕ) (os bs : List Resting) → Fronted p os bs → has_limit p (os ++ bs) ≡ true
fronted_has p (o ∷ os) bs (offer h) = or_left (eqb p (limit_of o)) (has_limit p (os ++ bs)) (eq-eqb p (limit_of o) (sym h))
fronted_has p os (b ∷ bs) (bid h) =
    any-append_right (λ e. eqb p (limit_of e)) os (b ∷ bs) (or_left (eqb p (limit_of b)) (has_limit p bs) (eq-eqb p (limit_of b) (sym h)))

-- it is one of the limits
pub next_has : (os bs : List Resting) (price : Price) → next_limit os bs ≡ Some price → has_limit price.0 (os ++ bs) ≡ true
next_has os bs price e = fronted_has price.0 os bs (next_fronted os bs price e)
