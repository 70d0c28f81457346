-- Lists in order: what that says, and what keeps it.
use Rattle.std.proofs.Common.{◌≡◌, ℕ, zero, suc, ◌<◌, Bool, true, false, List, [], ◌∷◌, length, get_or, set, refl, arith}
use Rattle.std.specs.List.{insert, remove}
use Rattle.std.proofs.lemmas.Bool.{cases_Bool, both_ways, and_parts, and_cases}
use Rattle.ordered_list.specs.Order.{all_after, after_none, in_order, position_of, placed}
use Rattle.ordered_list.proofs.Laws.{Lawful, not_after_chain}

-- x ranks after none of those that rank after it
none_of-all : {X : Type 0} (after : X → X → Bool) → Lawful after → (x : X) (ys : List X) → all_after after x ys ≡ true → after_none after x ys ≡ true
none_of-all after l x [] e = refl
none_of-all after l x (y ∷ ys) e = grind (arith, and_parts, l.apart, none_of-all after l x ys)

-- y, which ranks after none of ys, does not rank after x if one of ys does not
not_after : {X : Type 0} (after : X → X → Bool) → Lawful after → (x y : X) (ys : List X) → after_none after y ys ≡ true → all_after after x ys ≡ false → after y x ≡ false
not_after after l x y [] n e = absurd (both_ways true e refl)
not_after after l x y (z ∷ zs) n e = grind (arith, and_parts, and_cases, not_after_chain after l y z x, not_after after l x y zs)

-- what ranks after none of zs nor after x ranks after none of them together
none_inserted : {X : Type 0} (after : X → X → Bool) (y x : X) (zs : List X) (i : ℕ) → after y x ≡ false → after_none after y zs ≡ true → after_none after y (insert zs i x) ≡ true
none_inserted after y x zs zero e n = grind arith
none_inserted after y x [] (suc i) e n = grind arith
none_inserted after y x (z ∷ zs) (suc i) e n = grind (arith, and_parts, none_inserted after y x zs i e)

-- a line that goes in keeps the order
pub placed_in_order : {X : Type 0} (after : X → X → Bool) → Lawful after → (x : X) (ys : List X) → in_order after ys ≡ true → in_order after (placed after x ys) ≡ true
placed_in_order after l x [] o = refl
placed_in_order after l x (y ∷ ys) o = grind (arith, cases_Bool, and_parts, and_cases, none_of-all after l x (y ∷ ys), not_after after l x y ys, none_inserted after y x ys (position_of after x ys), placed_in_order after l x ys)

-- to take a line out leaves none to rank after
none_removed : {X : Type 0} (after : X → X → Bool) (y : X) (zs : List X) (i : ℕ) → after_none after y zs ≡ true → after_none after y (remove zs i) ≡ true
none_removed after y [] zero n = n
none_removed after y [] (suc i) n = n
none_removed after y (z ∷ zs) zero n = grind (arith, and_parts)
none_removed after y (z ∷ zs) (suc i) n = grind (arith, and_parts, none_removed after y zs i)

-- a line that goes out keeps the order
pub removed_in_order : {X : Type 0} (after : X → X → Bool) (ys : List X) (i : ℕ) → in_order after ys ≡ true → in_order after (remove ys i) ≡ true
removed_in_order after [] zero o = o
removed_in_order after [] (suc i) o = o
removed_in_order after (y ∷ ys) zero o = grind (arith, and_parts)
removed_in_order after (y ∷ ys) (suc i) o = grind (arith, and_parts, none_removed after y ys i, removed_in_order after ys i)

-- what ranks after none does not rank after the one at a position
none_at : {X : Type 0} (after : X → X → Bool) (x : X) (ys : List X) (j : ℕ) (d : X) → j < length ys → after_none after x ys ≡ true → after x (get_or ys j d) ≡ false
none_at after x [] j d l n = absurd (omega arith)
none_at after x (y ∷ ys) zero d l n = grind (arith, and_parts)
none_at after x (y ∷ ys) (suc j) d l n = grind (arith, and_parts, none_at after x ys j d)

-- of two lines of a list in order, the earlier does not rank after the later
pub order_at : {X : Type 0} (after : X → X → Bool) (ys : List X) (i j : ℕ) (d : X) → i < j → j < length ys → in_order after ys ≡ true → after (get_or ys i d) (get_or ys j d) ≡ false
order_at after [] i j d e l o = absurd (omega arith)
order_at after (y ∷ ys) i zero d e l o = absurd (omega arith)
order_at after (y ∷ ys) zero (suc j) d e l o = grind (arith, and_parts, none_at after y ys j d)
order_at after (y ∷ ys) (suc i) (suc j) d e l o = grind (arith, and_parts, order_at after ys i j d)

-- y in the place of a line that it ranks like against every other
none_set : {X : Type 0} (after : X → X → Bool) (x : X) (ys : List X) (i : ℕ) (y d : X) → after x y ≡ after x (get_or ys i d) → after_none after x (set ys i y) ≡ after_none after x ys
none_set after x [] i y d r = refl
none_set after x (z ∷ zs) zero y d r = grind arith
none_set after x (z ∷ zs) (suc i) y d r = grind (arith, none_set after x zs i y d)

-- two that rank alike against every other rank alike against a list
none_by : {X : Type 0} (after : X → X → Bool) (x y : X) (zs : List X) → ((z : X) → after x z ≡ after y z) → after_none after x zs ≡ after_none after y zs
none_by after x y [] f = refl
none_by after x y (z ∷ zs) f = grind (arith, f z, none_by after x y zs f)

-- the order is as it was where a line changes in what it is not ranked by
pub order_set : {X : Type 0} (after : X → X → Bool) (ys : List X) (i : ℕ) (y d : X) →
    ((z : X) → after y z ≡ after (get_or ys i d) z) → ((z : X) → after z y ≡ after z (get_or ys i d)) → in_order after (set ys i y) ≡ in_order after ys
order_set after [] i y d f r = refl
order_set after (z ∷ zs) zero y d f r = grind (arith, none_by after y z zs f)
order_set after (z ∷ zs) (suc i) y d f r = grind (arith, none_set after z zs i y d (r z), order_set after zs i y d f r)
