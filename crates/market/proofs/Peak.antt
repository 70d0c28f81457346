-- The cut-off is a price, and at no price can more deal.
use Rattle.std.proofs.Common.{◌≡◌, ℕ, ◌<◌, ◌≤◌, Bool, true, ◌||◌, eqb, leb, List, [], ◌∷◌, ◌++◌, length, All, sym, refl, arith}
use Rattle.std.specs.List.{list_all, AllByRecursion}
use Rattle.std.proofs.lemmas.Bool.{false≢true, cond_both, and_parts, and_from, or_left, leb-true, le-leb, eqb-true, eq-eqb}
use Rattle.std.proofs.lemmas.Bool.Decides.{nat_tests}
use Rattle.std.proofs.lemmas.List.Elements.{All-filter, All-from_recursion, All-weaker, filter_passes, recursion_from_All}
use Rattle.std.proofs.lemmas.List.Folds.{Any-from_list_any}
use Rattle.units.specs.Ranges.{is_price}
use Rattle.market.specs.declared.order.Resting.{Resting}
use Rattle.market.specs.Orders.{number_of, limit_of}
use Rattle.market.specs.Prices.{volume, imbalance, waiting_limits}
use Rattle.market.specs.CutOff.{crosses, with_most, candidates, highest, lowest, earlier, earliest, limit_of_earliest, waiting_at, settled_between, cut_off, GreatestBetween}
use Rattle.market.specs.Law.{AtBest}
use Rattle.market.proofs.PeakBest.{filter_keeps, most_some, least_some, most_is_most, lowest_has, highest_has, lowest-le-highest}
use Rattle.market.proofs.PeakLimits.{has_limit, limits_wait, limit_has, has_limit_gives}
use Rattle.market.proofs.PeakVolume.{most_at_limit, least_between}

-- CANDIDATES

-- where the sides cross there is one
some_candidate : (sells buys : List Resting) → crosses sells buys ≡ true → 0 < length (candidates sells buys)
some_candidate [] buys c = absurd (false≢true c)
some_candidate (s ∷ ss) buys c =
    let first = or_left (eqb (limit_of s) (limit_of s)) (has_limit (limit_of s) (ss ++ buys)) (eq-eqb (limit_of s) (limit_of s) refl) in
    let waits = limit_has (λ _. 0 < length (waiting_limits (s ∷ ss) buys)) (s ∷ (ss ++ buys)) (λ k d low. omega arith) (limit_of s) first in
    least_some (imbalance (s ∷ ss) buys) (with_most (volume (s ∷ ss) buys) (waiting_limits (s ∷ ss) buys))
    (most_some (volume (s ∷ ss) buys) (waiting_limits (s ∷ ss) buys) waits)

-- each is a waiting limit, and at no price can more deal than at it
record Candidate (sells buys : List Resting) (p : ℕ) : Type 0 where
  waits : has_limit p (sells ++ buys) ≡ true
  greatest : (q : ℕ) → volume sells buys q ≤ volume sells buys p

each_candidate : (sells buys : List Resting) → All (Candidate sells buys) (candidates sells buys)
each_candidate sells buys =
    let limits = waiting_limits sells buys in
    let most = with_most (volume sells buys) limits in
    let test = λ (p : ℕ). list_all (λ q. leb (imbalance sells buys p) (imbalance sells buys q)) most in
    All-filter test (Candidate sells buys) most (λ k d low. record {
      waits = All-filter _ (λ p. has_limit p (sells ++ buys) ≡ true) limits (limits_wait (sells ++ buys)) k d low;
      greatest = λ q. most_at_limit sells buys _ (limit_has _ (sells ++ buys) (most_is_most (volume sells buys) limits k d low)) q;
    })

-- THE CUT-OFF LIES BETWEEN THE LOWEST AND THE HIGHEST CANDIDATE

-- what holds of each order holds of the earliest
earliest_has : (P : Resting → Type 0) (e : Resting) (es : List Resting) → P e → AllByRecursion P es → P (earliest e es)
earliest_has P e [] h a = h
earliest_has P e (x ∷ xs) h a = earliest_has P (earlier e x) xs (cond_both (leb (number_of e) (number_of x)) e x P (λ _. h) (λ _. a.0)) a.1

limit_of_earliest_has : (P : ℕ → Type 0) (es : List Resting) → 0 < length es → AllByRecursion (λ e. P (limit_of e)) es → P (limit_of_earliest es)
limit_of_earliest_has P [] some a = absurd (omega arith)
limit_of_earliest_has P (e ∷ es) some a = earliest_has (λ x. P (limit_of x)) e es a.0 a.1

abbrev Within : ℕ → ℕ → ℕ → Type 0
Within low high p = (low ≤ p) × (p ≤ high)

earliest-within : (low high : ℕ) (q : List Resting) → low ≤ high → has_limit low q ≡ true → Within low high (limit_of_earliest (waiting_at low high q))
earliest-within low high q l waits =
    let at : Resting → Bool = λ e. eqb (limit_of e) low || eqb (limit_of e) high in
    let Inside : Resting → Type 0 = λ e. Within low high (limit_of e) in
    let one = Any-from_list_any (λ e. eqb low (limit_of e)) q waits in
    let passes = or_left (eqb (limit_of one.1) low) (eqb (limit_of one.1) high) (eq-eqb (limit_of one.1) low (sym (eqb-true low (limit_of one.1) one.4))) in
    let kept = filter_keeps at q one.1 (one.0, one.2, one.3) passes in
    limit_of_earliest_has (Within low high) (waiting_at low high q) (omega (arith, kept.1))
    (recursion_from_All Inside (waiting_at low high q) (All-weaker (λ e. at e ≡ true) Inside (λ e t. (grind (arith, nat_tests), grind (arith, nat_tests))) (waiting_at low high q) (filter_passes at q)))

settled_within : (sells buys : List Resting) (low high : ℕ) → low ≤ high → has_limit low (sells ++ buys) ≡ true → Within low high (settled_between sells buys low high)
settled_within sells buys low high l waits =
    let first = earliest-within low high (sells ++ buys) l waits in (grind (arith, nat_tests), grind (arith, nat_tests))

-- THE CUT-OFF

-- the lowest candidate and the highest, and the cut-off between them
record Bounds (sells buys : List Resting) : Type 0 where
  low : Candidate sells buys (lowest (candidates sells buys))
  high : Candidate sells buys (highest (candidates sells buys))
  within : Within (lowest (candidates sells buys)) (highest (candidates sells buys)) (cut_off sells buys)

bounds : (sells buys : List Resting) → crosses sells buys ≡ true → Bounds sells buys
unfolding cut_off
bounds sells buys c =
    let cs = candidates sells buys in
    let some = some_candidate sells buys c in
    let low = lowest_has (Candidate sells buys) cs some (each_candidate sells buys) in
    record {
      low = low;
      high = highest_has (Candidate sells buys) cs some (each_candidate sells buys);
      within = settled_within sells buys (lowest cs) (highest cs) (lowest-le-highest cs some) low.waits;
    }

pub greatest-between : (sells buys : List Resting) → crosses sells buys ≡ true → GreatestBetween sells buys
greatest-between sells buys c =
    let b = bounds sells buys c in
    let cs = candidates sells buys in
    record {
      greatest = λ p q l h. least_between sells buys (volume sells buys q) (lowest cs) (highest cs) p (b.low.greatest q) (b.high.greatest q) l h;
      from_lowest = b.within.0;
      to_highest = b.within.1;
    }

-- what lies between two prices is a price
price-between : (low high p : ℕ) → is_price (record { 0 = low }) ≡ true → is_price (record { 0 = high }) ≡ true → Within low high p → is_price (record { 0 = p }) ≡ true
price-between low high p l h w =
    let lows = and_parts (leb 1 low) _ l in
    let highs = and_parts (leb 1 high) _ h in
    and_from (leb 1 p) (leb p 1000000000) (le-leb 1 p (omega (arith, leb-true 1 low lows.0))) (le-leb p 1000000000 (omega (arith, leb-true high 1000000000 highs.1)))

pub at_best : (sells buys : List Resting) → AllByRecursion (λ e. is_price e.order.limit ≡ true) (sells ++ buys) → crosses sells buys ≡ true →
    AtBest (record { 0 = cut_off sells buys }) sells buys
at_best sells buys a c =
    let b = bounds sells buys c in
    let g = greatest-between sells buys c in
    let priced = has_limit_gives (λ p. is_price (record { 0 = p }) ≡ true) (sells ++ buys) (All-from_recursion _ (sells ++ buys) a) in
    (price-between _ _ (cut_off sells buys) (priced _ b.low.waits) (priced _ b.high.waits) b.within, λ p. g.greatest (cut_off sells buys) p g.from_lowest g.to_highest)
