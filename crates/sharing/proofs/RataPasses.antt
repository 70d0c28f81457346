-- The two passes that share pro rata.
use Rattle.std.proofs.Common.{◌≡◌, ℕ, ◌+◌, ◌-◌, ◌≤◌, min, List, [], ◌∷◌, map, sum, refl, ap, ◌∙◌}
use Rattle.std.proofs.lemmas.List.{length-map}
use Rattle.std.proofs.lemmas.List.Elements.{length_all_zip}
use Rattle.sharing.specs.declared.shares.Share.{Share}
use Rattle.sharing.specs.Shares.{lots_of, shares_of, filled}
use Rattle.sharing.specs.ProRata.{first_share, first_shares, room_for, topped_up, pro_rata}
use Rattle.sharing.proofs.Lines.{lots_filled, shares_filled, filled-filled}
use Rattle.sharing.specs.Walks.{walk}
use Rattle.sharing.specs.RataLaws.{first_shares_fit, rata_within}

-- the first writes a line's first share
module _ (n s : ℕ) where
  abbrev pub first-write : Share → Share
  first-write line = record { lots = line.lots; share = record { 0 = first_share n s line.lots.0 } }

  pub first_filled : (lines : List Share) → map first-write lines ≡ filled lines (map (first_share n s) (lots_of lines))
  first_filled [] = refl
  first_filled (x ∷ xs) = ap (λ zs. first-write x ∷ zs) (first_filled xs)

-- the second adds to a share what the line can take of what is left
abbrev pub extra : ℕ → Share → ℕ
extra left line = min (room_for line.lots.0 line.share.0) left

abbrev pub top_write : ℕ → Share → Share
top_write left line = record { lots = line.lots; share = record { 0 = line.share.0 + extra left line } }

abbrev pub top_next : ℕ → Share → ℕ
top_next left line = left - extra left line

pub top_walk :
    (r : ℕ) (lines : List Share) →
    walk top_write top_next r lines ≡ filled lines (topped_up (lots_of lines) (shares_of lines) r)
top_walk r [] = refl
top_walk r (x ∷ xs) = ap (λ zs. top_write r x ∷ zs) (top_walk (top_next r x) xs)

-- after the first pass the first shares stand on the lines
pub first_stand :
    (lines first : List Share) (n : ℕ) → first ≡ filled lines (first_shares (lots_of lines) n) →
    shares_of first ≡ first_shares (lots_of lines) n
first_stand lines first n e =
    let l = length-map lines (λ line. line.lots.0) in
    let m = length-map (lots_of lines) (first_share n (sum (lots_of lines))) in
    rw e (shares_filled lines (first_shares (lots_of lines) n) (m ∙ l))

-- which are within the total
pub first-within :
    (lines first : List Share) (n : ℕ) → n ≤ sum (lots_of lines) → first ≡ filled lines (first_shares (lots_of lines) n) →
    sum (shares_of first) ≤ n
first-within lines first n h e = rw (first_stand lines first n e) (first_shares_fit (lots_of lines) n h)

-- both passes together write the shares pro rata
pub both_passes :
    (lines first last : List Share) (n g : ℕ) → n ≤ sum (lots_of lines) →
    first ≡ filled lines (first_shares (lots_of lines) n) → g ≡ sum (shares_of first) →
    last ≡ filled first (topped_up (lots_of first) (shares_of first) (n - g)) →
    last ≡ filled lines (pro_rata (lots_of lines) n)
both_passes lines first last n g h e k t =
    let lots = lots_of lines in
    let l = length-map lines (λ line. line.lots.0) in
    let d = length_all_zip ◌≤◌ (pro_rata lots n) lots (rata_within lots n h) in
    let a = lots_filled lines (first_shares lots n) in
    let b = first_stand lines first n e in
    rw (t, k, b, e, a) (filled-filled lines (first_shares lots n) (pro_rata lots n) (d ∙ l))
