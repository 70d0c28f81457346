-- Words on lists of lines under an order: `after x y` says that x ranks strictly after y.
use Rattle.std.specs.Prelude.{◌≡◌, ℕ, suc, ◌-◌, ◌<◌, ◌≤◌, Bool, true, false, cond, not, ◌&&◌, List, [], ◌∷◌, length, slice_index_or}
use Rattle.std.specs.List.{insert}

-- neither of the two ranks after the other
abbrev pub rank_alike : {X : Type 0} → (X → X → Bool) → X → X → Bool
rank_alike after x y = not (after x y) && not (after y x)

-- every one of ys ranks after x
abbrev pub all_after : {X : Type 0} → (X → X → Bool) → X → List X → Bool
all_after after x [] = true
all_after after x (y ∷ ys) = after y x && all_after after x ys

-- x ranks after none of ys
abbrev pub after_none : {X : Type 0} → (X → X → Bool) → X → List X → Bool
after_none after x [] = true
after_none after x (y ∷ ys) = not (after x y) && after_none after x ys

-- no line ranks after a later one
abbrev pub in_order : {X : Type 0} → (X → X → Bool) → List X → Bool
in_order after [] = true
in_order after (y ∷ ys) = after_none after y ys && in_order after ys

-- the position behind all of ys that do not rank after x
abbrev pub position_of : {X : Type 0} → (X → X → Bool) → X → List X → ℕ
position_of after x [] = 0
position_of after x (y ∷ ys) = cond (all_after after x (y ∷ ys)) 0 (suc (position_of after x ys))

-- the list with x behind all that do not rank after it
abbrev pub placed : {X : Type 0} → (X → X → Bool) → X → List X → List X
placed after x ys = insert ys (position_of after x ys) x

-- at is the right position for x in ys, behind all that do not rank after it: every line from there on ranks after x,
-- and the line just in front of it does not
pub record RightPosition {X : Type 0} (after : X → X → Bool) (x : X) (ys : List X) (at : ℕ) : Type 0 where
  pub within : at ≤ length ys
  pub behind : (k : ℕ) (d : X) → at ≤ k → k < length ys → after (slice_index_or ys k d) x ≡ true
  pub front : (d : X) → 0 < at → after (slice_index_or ys (at - 1) d) x ≡ false
