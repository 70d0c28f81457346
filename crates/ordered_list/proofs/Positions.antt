-- The position behind all lines that do not rank after a line.
use Rattle.std.proofs.Common.{◌≡◌, ℕ, zero, suc, ◌-◌, ◌<◌, ◌≤◌, Bool, true, false, List, [], ◌∷◌, length, get_or, refl, arith}
use Rattle.std.proofs.lemmas.Bool.{cases_Bool, and_parts, and_cases}
use Rattle.ordered_list.specs.Order.{all_after, position_of, RightPosition}

-- the position lies within the list, or just behind it
pub position_le : {X : Type 0} (after : X → X → Bool) (x : X) (ys : List X) → position_of after x ys ≤ length ys
position_le after x [] = omega arith
position_le after x (y ∷ ys) = grind (arith, cases_Bool, position_le after x ys)

-- where all rank after x, each does
all_each : {X : Type 0} (after : X → X → Bool) (x : X) (ys : List X) (k : ℕ) (d : X) → k < length ys → all_after after x ys ≡ true → after (get_or ys k d) x ≡ true
all_each after x [] k d l a = absurd (omega arith)
all_each after x (y ∷ ys) zero d l a = grind (arith, and_parts)
all_each after x (y ∷ ys) (suc k) d l a = grind (arith, and_parts, all_each after x ys k d)

-- every line from the position on ranks after x
rest_after : {X : Type 0} (after : X → X → Bool) (x : X) (ys : List X) (k : ℕ) (d : X) → position_of after x ys ≤ k → k < length ys → after (get_or ys k d) x ≡ true
rest_after after x [] k d p l = absurd (omega arith)
rest_after after x (y ∷ ys) zero d p l = grind (arith, cases_Bool, and_parts)
rest_after after x (y ∷ ys) (suc k) d p l = grind (arith, cases_Bool, all_each after x (y ∷ ys) (suc k) d l, rest_after after x ys k d)

-- the position is the first only where all rank after x
first_all : {X : Type 0} (after : X → X → Bool) (x : X) (ys : List X) → position_of after x ys ≡ 0 → all_after after x ys ≡ true
first_all after x [] e = refl
first_all after x (y ∷ ys) e = grind (arith, cases_Bool)

-- the line just in front of the position does not rank after x
front_not : {X : Type 0} (after : X → X → Bool) (x : X) (ys : List X) (k : ℕ) (d : X) → position_of after x ys ≡ suc k → after (get_or ys k d) x ≡ false
front_not after x [] k d e = absurd (omega arith)
front_not after x (y ∷ ys) zero d e = grind (arith, cases_Bool, and_cases, first_all after x ys)
front_not after x (y ∷ ys) (suc k) d e = grind (arith, cases_Bool, front_not after x ys k d)

-- the position is what it is said to be
pub position_right : {X : Type 0} (after : X → X → Bool) (x : X) (ys : List X) → RightPosition after x ys (position_of after x ys)
position_right after x ys = record {
  within = position_le after x ys;
  behind = rest_after after x ys;
  front = λ d p. front_not after x ys (position_of after x ys - 1) d (omega arith);
}

-- of two right positions, none lies behind the other
not_behind : {X : Type 0} (after : X → X → Bool) (x : X) (ys : List X) (at later : ℕ) → X → RightPosition after x ys at → RightPosition after x ys later → later ≤ at
not_behind after x ys at later d r q = grind (arith, q.front d, r.behind (later - 1) d, q.within)

-- so that there is no other
pub position_only : {X : Type 0} (after : X → X → Bool) (x : X) (ys : List X) (at : ℕ) → RightPosition after x ys at → at ≡ position_of after x ys
position_only after x [] at r = omega (arith, r.within)
position_only after x (y ∷ ys) at r =
    let q = position_right after x (y ∷ ys) in
    omega (arith, not_behind after x (y ∷ ys) at (position_of after x (y ∷ ys)) y r q, not_behind after x (y ∷ ys) (position_of after x (y ∷ ys)) at y q r)
