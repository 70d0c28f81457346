-- The length and what holds of each line of a list that a line went into or out of.
use Rattle.std.proofs.Common.{◌≡◌, ℕ, suc, ◌+◌, Bool, List, ◌∷◌, length, take, drop}
use Rattle.std.specs.List.{remove, AllByRecursion}
use Rattle.std.proofs.lemmas.List.Edits.{length-insert}
use Rattle.std.proofs.ByRecursion.{All-append, All-take, All-drop}
use Rattle.ordered_list.specs.Order.{position_of, placed}
use Rattle.ordered_list.proofs.Positions.{position_le}

-- one line more
pub length-placed : {X : Type 0} (after : X → X → Bool) (x : X) (ys : List X) → length (placed after x ys) ≡ length ys + 1
length-placed after x ys = length-insert ys (position_of after x ys) x (position_le after x ys)

-- what holds of each line
pub all_placed : {X : Type 0} (P : X → Type 0) (after : X → X → Bool) (x : X) (ys : List X) → P x → AllByRecursion P ys → AllByRecursion P (placed after x ys)
all_placed P after x ys p a = All-append P (take (position_of after x ys) ys) (x ∷ drop (position_of after x ys) ys) (All-take P (position_of after x ys) ys a) (p, All-drop P (position_of after x ys) ys a)

pub all_removed : {X : Type 0} (P : X → Type 0) (ys : List X) (i : ℕ) → AllByRecursion P ys → AllByRecursion P (remove ys i)
all_removed P ys i a = All-append P (take i ys) (drop (suc i) ys) (All-take P i ys a) (All-drop P (suc i) ys a)
