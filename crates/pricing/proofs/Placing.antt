-- A line below all others goes to the end of the list.
use Rattle.std.proofs.Common.{◌≡◌, ℕ, suc, ◌<◌, Bool, false, ltb, List, [], ◌∷◌, ◌++◌, map, length, take, drop, sym, refl, ap, ◌∙◌, subst, arith}
use Rattle.std.specs.List.{AllByRecursion}
use Rattle.std.proofs.lemmas.List.{take_all, drop_all, map-append, map-id}
use Rattle.std.proofs.lemmas.Simd.{map-map}
use Rattle.std.proofs.lemmas.Bool.{and_left, le-ltb, lt-ltb, cond-true}
use Rattle.ordered_list.specs.Order.{all_after, position_of, placed}
use Rattle.market.specs.declared.order.Resting.{Resting}
use Rattle.market.specs.Prices.{waiting_limits}
use Rattle.pricing.specs.declared.line.Line.{Line}
use Rattle.pricing.specs.Lines.{price_of, by_price, added, line_at, lines_at}
use Rattle.pricing.proofs.Limits.{Downward, limits_downward, downward_above}

position_last : {X : Type 0} (after : X → X → Bool) (x : X) (ys : List X) → AllByRecursion (λ y. after y x ≡ false) ys → position_of after x ys ≡ length ys
position_last after x [] a = refl
position_last after x (y ∷ ys) a = rw (and_left (after y x) (all_after after x ys) a.0) (ap suc (position_last after x ys a.1))

-- behind all, where none ranks after x
pub placed-last : {X : Type 0} (after : X → X → Bool) (x : X) (ys : List X) → AllByRecursion (λ y. after y x ≡ false) ys → placed after x ys ≡ ys ++ (x ∷ [])
placed-last after x ys a =
    let e = position_last after x ys a in
    ap (λ n. take n ys ++ (x ∷ drop n ys)) e ∙ simp (take_all (length ys) ys (omega arith), drop_all (length ys) ys (omega arith))

-- the prices of lines at prices
pub prices_lines : (sells buys : List Resting) (ps : List ℕ) → map price_of (map (line_at sells buys) ps) ≡ ps
prices_lines sells buys ps = map-map price_of (line_at sells buys) ps ∙ map-id ps

all_prices : (p : ℕ) (lines : List Line) → AllByRecursion (λ q. p < q) (map price_of lines) → AllByRecursion (λ l. by_price l (record { price = record { 0 = p }; supply = record { 0 = 0 }; demand = record { 0 = 0 } }) ≡ false) lines
all_prices p [] a = tt
all_prices p (l ∷ ls) a = (le-ltb (price_of l) p (omega (arith, a.0)), all_prices p ls a.1)

-- lines that stand in front of the one at p, price downward, do not rank after it
pub lines_above : (sells buys : List Resting) (lines : List Line) (p : ℕ) (ps : List ℕ) → lines ++ map (line_at sells buys) (p ∷ ps) ≡ lines_at sells buys →
    AllByRecursion (λ l. by_price l (line_at sells buys p) ≡ false) lines
lines_above sells buys lines p ps e =
    let f = sym (map-append price_of lines (map (line_at sells buys) (p ∷ ps))) ∙ ap (map price_of) e ∙ prices_lines sells buys (waiting_limits sells buys) in
    let g : map price_of lines ++ (p ∷ ps) ≡ waiting_limits sells buys = ap (λ qs. map price_of lines ++ (p ∷ qs)) (sym (prices_lines sells buys ps)) ∙ f in
    all_prices p lines (downward_above (map price_of lines) p ps (subst Downward (sym g) (limits_downward (sells ++ buys))))

-- where there is room, one more line goes to the end
pub added_last : (line : Line) (lines : List Line) → length lines < 1024 → AllByRecursion (λ l. by_price l line ≡ false) lines → added line lines ≡ lines ++ (line ∷ [])
added_last line lines room a = cond-true (ltb (length lines) 1024) _ _ (lt-ltb (length lines) 1024 room) ∙ placed-last by_price line lines a
