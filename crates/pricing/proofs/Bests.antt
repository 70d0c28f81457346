-- The first order of a queue has the best limit.
use Rattle.std.proofs.Common.{◌≡◌, ℕ, ◌-◌, ◌^◌, min, List, [], ◌∷◌, Some, Option, sym, refl, ap, ◌∙◌, arith}
use Rattle.std.specs.List.{AllByRecursion, slice_get}
use Rattle.units.specs.declared.quantity.Lots.{Lots}
use Rattle.units.specs.declared.quantity.Price.{Price}
use Rattle.units.specs.declared.side.Side.{Side}
use Rattle.units.specs.declared.side.Side.TheVariants.{Sell, Buy}
use Rattle.market.specs.declared.order.Resting.{Resting}
use Rattle.market.specs.Orders.{limit_of}
use Rattle.market.specs.Queues.{Queue}
use Rattle.pricing.specs.Levels.{front_lots}
use Rattle.pricing.specs.Best.{best_limit, best_of, lots_at}
use Rattle.pricing.proofs.Sides.{Behind, queue_sorted}
use Rattle.pricing.proofs.Figures.{highest_le, lowest_first}
use Rattle.pricing.proofs.Fronts.{front-all, front_le}

-- the first limit is the best
pub first_limit : (side : Side) (e : Resting) (es : List Resting) → AllByRecursion (λ x. Behind side (limit_of e) (limit_of x)) es → best_limit side (e ∷ es) ≡ limit_of e
first_limit Sell e es a = lowest_first limit_of e es a
first_limit Buy e es a = omega (arith, highest_le limit_of (limit_of e) es a)

behind_self : (side : Side) (p : ℕ) → Behind side p p
behind_self Sell p = omega arith
behind_self Buy p = omega arith

best_some : (p n : ℕ) (p' : Price) (n' : Lots) → p'.0 ≡ p → n'.0 ≡ n → ◌≡◌ {A = Option (Price × Lots)} (Some (p', n')) (Some (record { 0 = p }, record { 0 = n }))
best_some p n p' n' a b = rw (sym a, sym b) refl

-- the first limit and the lots of the front are the best limit and the lots that wait at it
pub best_found : (side : Side) (q : List Resting) (first : Resting) (lots : Lots) → Some first ≡ slice_get q 0 → Queue side q →
    lots.0 ≡ min (front_lots (limit_of first) q) (2 ^ 64 - 1) → Some (first.order.limit, lots) ≡ best_of side q
best_found side [] first lots g h e = absurd (cc)
best_found side (x ∷ xs) first lots g h e =
    let f : first ≡ x = cc in
    let s = queue_sorted side (x ∷ xs) h in
    let b = first_limit side x xs s.0 in
    let a = front-all side (limit_of x) (x ∷ xs) s (behind_self side (limit_of x), s.0) in
    let m = front_le (limit_of x) (x ∷ xs) in
    let n : lots.0 ≡ lots_at (limit_of x) (x ∷ xs) = omega (arith, e, ap limit_of f, ap (λ v. front_lots (limit_of v) (x ∷ xs)) f, a, m, h.bounded) in
    best_some (best_limit side (x ∷ xs)) (lots_at (best_limit side (x ∷ xs)) (x ∷ xs)) first.order.limit lots (ap limit_of f ∙ sym b) (n ∙ ap (λ p. lots_at p (x ∷ xs)) (sym b))
