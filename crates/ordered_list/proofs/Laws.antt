-- What the laws of an order come to.
use Rattle.std.proofs.Common.{◌≡◌, Bool, true, false, arith}
use Rattle.std.proofs.lemmas.Bool.{cases_Bool, and_parts}
use Rattle.ordered_list.specs.Order.{rank_alike}

-- the laws of `Ranked`
pub record Lawful {X : Type 0} (after : X → X → Bool) : Type 0 where
  pub apart : (x y : X) → after x y ≡ true → after y x ≡ false
  pub chain : (x y z : X) → after x y ≡ true → after y z ≡ true → after x z ≡ true
  pub alike : (x y z : X) → rank_alike after x y ≡ true → rank_alike after y z ≡ true → rank_alike after x z ≡ true

-- to rank alike is that neither ranks after the other
pub alike_from : {X : Type 0} (after : X → X → Bool) (x y : X) → after x y ≡ false → after y x ≡ false → rank_alike after x y ≡ true
alike_from after x y p q = grind arith

pub alike_parts : {X : Type 0} (after : X → X → Bool) (x y : X) → rank_alike after x y ≡ true → (after x y ≡ false) × (after y x ≡ false)
alike_parts after x y e = grind (arith, and_parts)

-- not to rank after carries along a chain
pub not_after_chain : {X : Type 0} (after : X → X → Bool) → Lawful after →
    (x y z : X) → after x y ≡ false → after y z ≡ false → after x z ≡ false
not_after_chain after l x y z p q = grind (arith, cases_Bool, and_parts, l.chain y x z, l.chain x z y, l.alike x y z)

-- an order is lawful if no two lines rank after each other, and not to rank after carries along a chain
pub lawful_from : {X : Type 0} (after : X → X → Bool) →
    ((x y : X) → after x y ≡ true → after y x ≡ false) →
    ((x y z : X) → after x y ≡ false → after y z ≡ false → after x z ≡ false) → Lawful after
lawful_from after a n = record {
  apart = a;
  chain = λ x y z p q. grind (arith, cases_Bool, a y z q, n x z y);
  alike = λ x y z p q. grind (arith, and_parts, n x y z, n z y x);
}
