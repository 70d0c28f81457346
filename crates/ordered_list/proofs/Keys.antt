-- Orders by keys are lawful.
use Rattle.std.proofs.Common.{ℕ, Bool, arith}
use Rattle.std.proofs.lemmas.Bool.Decides.{nat_tests}
use Rattle.std.proofs.lemmas.Bool.{cases_Bool, and_parts}
use Rattle.ordered_list.specs.Keys.{upward, downward, then_by}
use Rattle.ordered_list.proofs.Laws.{Lawful, lawful_from, not_after_chain}

-- by a key upward
pub upward-lawful : {X : Type 0} (key : X → ℕ) → Lawful (upward key)
upward-lawful key = lawful_from (upward key) (λ x y p. grind (arith, nat_tests)) (λ x y z p q. grind (arith, nat_tests))

-- an order read the other way round
pub turned-lawful : {X : Type 0} (after : X → X → Bool) → Lawful after → Lawful (λ x y. after y x)
turned-lawful after l = lawful_from (λ x y. after y x)
    (λ x y p. l.apart y x p)
    (λ x y z p q. not_after_chain after l z y x q p)

-- by a key downward
pub downward-lawful : {X : Type 0} (key : X → ℕ) → Lawful (downward key)
downward-lawful key = turned-lawful (upward key) (upward-lawful key)

-- by one lawful order, and where that ranks alike, by another
pub then_lawful : {X : Type 0} (f g : X → X → Bool) → Lawful f → Lawful g → Lawful (then_by f g)
then_lawful f g l m = lawful_from (then_by f g)
    (λ x y e. grind (arith, cases_Bool, and_parts, l.apart x y, m.apart x y))
    (λ x y z d e. grind (arith, cases_Bool, and_parts, not_after_chain f l x y z, not_after_chain f l y z x, not_after_chain f l z x y, not_after_chain g m x y z))

-- by one key downward, and of one such key by another upward
pub down_up-lawful : {X : Type 0} (first second : X → ℕ) → Lawful (then_by (downward first) (upward second))
down_up-lawful first second = then_lawful (downward first) (upward second) (downward-lawful first) (upward-lawful second)
