-- Lines, and the shares that are written on them.
use Rattle.std.proofs.Common.{◌≡◌, ℕ, ◌+◌, ◌<◌, ◌≤◌, List, [], ◌∷◌, ◌++◌, map, length, get_or, take, drop, refl, sym, ap, ◌∙◌, arith}
use Rattle.std.proofs.lemmas.List.{length-map, length-take, get_or-append-add, get_or-drop}
use Rattle.sharing.specs.declared.shares.Share.{Share}
use Rattle.sharing.specs.Shares.{lots_of, shares_of, largest_line, filled}

-- what a read past the end gives
abbrev pub blank : Share
blank = record { lots = record { 0 = 0 }; share = record { 0 = 0 } }

-- a line that is not too large
abbrev pub Small : Share → Type 0
Small line = line.lots.0 ≤ largest_line

-- writing shares keeps the lots
pub lots_filled : (lines : List Share) (ys : List ℕ) → lots_of (filled lines ys) ≡ lots_of lines
lots_filled [] ys = refl
lots_filled (x ∷ xs) [] = refl
lots_filled (x ∷ xs) (y ∷ ys) = ap (λ zs. x.lots.0 ∷ zs) (lots_filled xs ys)

-- the shares written are those that stand there then
pub shares_filled : (lines : List Share) (ys : List ℕ) → length ys ≡ length lines → shares_of (filled lines ys) ≡ ys
shares_filled [] [] e = refl
shares_filled [] (y ∷ ys) e = absurd (omega arith)
shares_filled (x ∷ xs) [] e = absurd (omega arith)
shares_filled (x ∷ xs) (y ∷ ys) e = ap (λ zs. y ∷ zs) (shares_filled xs ys (omega arith))

-- the last shares written count
pub filled-filled :
    (lines : List Share) (ys zs : List ℕ) → length zs ≡ length lines → filled (filled lines ys) zs ≡ filled lines zs
filled-filled [] ys zs e = refl
filled-filled (x ∷ xs) [] zs e = refl
filled-filled (x ∷ xs) (y ∷ ys) [] e = absurd (omega arith)
filled-filled (x ∷ xs) (y ∷ ys) (z ∷ zs) e =
    ap (λ ws. record { lots = x.lots; share = record { 0 = z } } ∷ ws) (filled-filled xs ys zs (omega arith))

-- lines that a pass has yet to reach are as they were
pub ahead : {X : Type 0} (f : X → X) (xs ys : List X) (i : ℕ) (d : X) → i < length xs → ys ≡ map f (take i xs) ++ drop i xs → get_or ys i d ≡ get_or xs i d
ahead f xs ys i d lt h =
    let n : length (map f (take i xs)) + 0 ≡ i = omega (arith, length-map (take i xs) f, length-take i xs) in
    ap (λ zs. get_or zs i d) h ∙ ap (λ k. get_or (map f (take i xs) ++ drop i xs) k d) (sym n) ∙ get_or-append-add (map f (take i xs)) (drop i xs) 0 d ∙ get_or-drop i xs 0 d ∙ ap (λ k. get_or xs k d) (omega arith)
