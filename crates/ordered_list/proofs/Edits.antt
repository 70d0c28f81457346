-- What a turn by one leaves in a part of memory.
use Rattle.std.proofs.Common.{◌≡◌, ℕ, suc, ◌+◌, ◌-◌, ◌<◌, ◌≤◌, List, ◌∷◌, ◌++◌, length, get_or, take, drop, set, sym, ap, ◌∙◌, append_assoc, arith, length-take, rules}
use borrow.Rule.Slice.PartMut.{put_mid}
use Rattle.std.specs.List.{insert, remove, between}
use Rattle.std.proofs.lemmas.List.{same_lists, places, drop_more, drop-drop, take-take, get_or-set_same, get_or-take}
use Rattle.std.proofs.lemmas.Slice.{between_is}
use Rattle.std.proofs.lemmas.Bool.{cases_eq}

-- the lines from `at` up to `len`, and one more, turned to the right, and x written at `at`
pub turned_right : {X : Type 0} (xs : List X) (at len : ℕ) (x : X) → at ≤ len → len < length xs →
    set (put_mid at (len + 1 - at) xs (drop (length (between at (len + 1) xs) - 1) (between at (len + 1) xs) ++ take (length (between at (len + 1) xs) - 1) (between at (len + 1) xs))) at x
    ≡ insert (take len xs) at x ++ drop (len + 1) xs
turned_right xs at len x a b = same_lists _ _ (search (rules, places)) (λ k d h. grind (arith, places, get_or-set_same, cases_eq k at))

first_last : {X : Type 0} (a r q : List X) (z : X) (part : List X) → part ≡ z ∷ r → a ++ ((drop 1 part ++ take 1 part) ++ q) ≡ (a ++ r) ++ (z ∷ q)
first_last a r q z part e = ap (λ p. a ++ ((drop 1 p ++ take 1 p) ++ q)) e ∙ simp append_assoc

-- the lines from `at` up to `len` turned to the left
pub turned_left : {X : Type 0} (xs : List X) (at len : ℕ) (x : X) → at < len → len ≤ length xs → x ≡ get_or xs at x →
    put_mid at (len - at) xs (drop 1 (between at len xs) ++ take 1 (between at len xs))
    ≡ remove (take len xs) at ++ (x ∷ drop len xs)
turned_left xs at len x a b r =
    let m : at < length (take len xs) = simp length-take (grind arith) in
    let z = get_or-take len xs at x a in
    let p : between at len xs ≡ x ∷ drop (at + 1) (take len xs) = between_is xs at len ∙ drop_more (take len xs) at x m ∙ ap (λ (v : _). v ∷ drop (at + 1) (take len xs)) (z ∙ sym r) in
    let t : take at (take len xs) ≡ take at xs = take-take at len xs (omega arith) in
    let q : drop (len - at) (drop at xs) ≡ drop len xs = drop-drop (len - at) at xs ∙ ap (λ n. drop n xs) (omega arith) in
    let s : at + 1 ≡ suc at = omega arith in
    let e = first_last (take at xs) (drop (at + 1) (take len xs)) (drop len xs) x (between at len xs) p in
    cc
