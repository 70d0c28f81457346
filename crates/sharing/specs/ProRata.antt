use Rattle.std.specs.Prelude.{ℕ, ◌+◌, ◌-◌, ◌*◌, ◌/◌, cond, List, [], ◌∷◌, map, sum, ◌==◌, nat_lt}
use Rattle.sharing.specs.ByTime.{by_time}

-- a line's first share: its lots times the total over the sum of lots, rounded down; 0 where the sum is 0
abbrev pub first_share : ℕ → ℕ → ℕ → ℕ
first_share total offered lots = cond (offered == 0) 0 (lots * total / offered)

abbrev pub first_shares : List ℕ → ℕ → List ℕ
first_shares lots total = map (first_share total (sum lots)) lots

-- what a line can take of the rest: one lot, where its share is below its lots
abbrev pub room_for : ℕ → ℕ → ℕ
room_for lots share = cond (nat_lt share lots) 1 0

-- line by line
abbrev pub linewise : (ℕ → ℕ → ℕ) → List ℕ → List ℕ → List ℕ
linewise f [] ys = []
linewise f (x ∷ xs) [] = []
linewise f (x ∷ xs) (y ∷ ys) = f x y ∷ linewise f xs ys

-- the shares after a rest has gone out, earliest line first, to the lines that have room
abbrev pub topped_up : List ℕ → List ℕ → ℕ → List ℕ
topped_up lots shares rest = linewise ◌+◌ shares (by_time (linewise room_for lots shares) rest)

-- the first shares, and on top of them what they leave of the total
abbrev pub pro_rata : List ℕ → ℕ → List ℕ
pro_rata lots total = topped_up lots (first_shares lots total) (total - sum (first_shares lots total))
