-- The walk price downward over both queues: what it has written, and what is left of it.
use Rattle.std.proofs.Common.{◌≡◌, ℕ, zero, suc, ◌+◌, ◌-◌, ◌*◌, ◌<◌, ◌≤◌, true, false, cond, eqb, leb, ◌⊎◌, List, [], ◌∷◌, ◌++◌, map, reverse, length, take, drop, Some, sym, refl, ap, ◌∙◌, subst, inl, inr, append_assoc, arith}
use Rattle.std.specs.List.{AllByRecursion}
use Rattle.std.proofs.ByRecursion.{All-weaker, All-append, All-drop}
use Rattle.std.proofs.lemmas.List.{take-append-drop, length-append, length-drop, length-reverse}
use Rattle.std.proofs.lemmas.List.Sums.{prefix_len-le-length}
use Rattle.std.proofs.lemmas.Bool.{eqb-true, le-leb, lt-leb}
use Rattle.units.specs.declared.quantity.Price.{Price}
use Rattle.units.specs.declared.side.Side.TheVariants.{Sell, Buy}
use Rattle.market.specs.declared.order.Resting.{Resting}
use Rattle.market.specs.Orders.{total, limit_of, lots_of, lots_in}
use Rattle.market.specs.Prices.{supply, demand, limits_of}
use Rattle.market.specs.Queues.{Queues}
use Rattle.market.proofs.PeakLimits.{has_limit}
use Rattle.market.proofs.QueueEntries.{all_both}
use Rattle.market.proofs.Totals.{total-append, all_first, all_second}
use Rattle.pricing.specs.declared.line.Line.{Line}
use Rattle.pricing.specs.Levels.{front_orders, front_lots}
use Rattle.pricing.specs.Lines.{line_at, lines_at, next_limit}
use Rattle.pricing.proofs.Each.{all_any}
use Rattle.pricing.proofs.Sides.{Sorted, queue_sorted}
use Rattle.pricing.proofs.Totals.{total_none, total-whole}
use Rattle.pricing.proofs.Reversed.{total-reverse, sorted-reverse}
use Rattle.pricing.proofs.Fronts.{front_at, front_lots_lem, front_le, rest_beyond}
use Rattle.pricing.proofs.Members.{any_gives, any-append_cases, any-append-left, any-append_right, any-reverse}
use Rattle.pricing.proofs.Limits.{limits_same, limits_top}
use Rattle.pricing.proofs.Tops.{next_top, next_has, next_some}

-- os and bs are left of the two queues, price downward, s lots of os and d lots of bids passed: the lines so far with those at
-- the limits left are all lines, and at a limit left what is passed adds d to the demand and nothing to the supply;
-- and there is room for a line for each order left
pub record Walked (sells buys os bs : List Resting) (lines : List Line) (s d : ℕ) : Type 0 where
  pub offers_down : Sorted Buy os
  pub bids_down : Sorted Buy bs
  pub rest : lines ++ map (line_at sells buys) (limits_of (os ++ bs)) ≡ lines_at sells buys
  pub offered : s ≡ lots_in os
  pub supplied : AllByRecursion (λ e. supply sells (limit_of e) ≡ supply os (limit_of e)) (os ++ bs)
  pub asked : AllByRecursion (λ e. demand buys (limit_of e) ≡ d + demand bs (limit_of e)) (os ++ bs)
  pub few : s ≤ lots_in sells
  pub fewer : d + lots_in bs ≤ lots_in buys
  pub room : length lines + length os + length bs ≤ 1024

-- what holds at each order's limit holds at a limit that one has
at_limit : (F : ℕ → Type 0) (es : List Resting) (p : ℕ) → AllByRecursion (λ e. F (limit_of e)) es → has_limit p es ≡ true → F p
at_limit F es p a h =
    any_gives (λ e. eqb p (limit_of e)) (F p) es (All-weaker (λ e. F (limit_of e)) (λ e. eqb p (limit_of e) ≡ true → F p) (λ e f t. subst F (sym (eqb-true p (limit_of e) t)) f) es a) h

sorted-drop : (n : ℕ) (es : List Resting) → Sorted Buy es → Sorted Buy (drop n es)
sorted-drop zero es s = s
sorted-drop (suc n) [] s = tt
sorted-drop (suc n) (e ∷ es) s = sorted-drop n es s.1

-- a limit is that of the level in front, or one behind it
limit_cases : (p q : ℕ) (es : List Resting) → has_limit q es ≡ true → (q ≡ p) ⊎ (has_limit q (drop (front_orders p es) es) ≡ true)
limit_cases p q es h =
    let t = take (front_orders p es) es in
    let r = drop (front_orders p es) es in
    let k : has_limit q (t ++ r) ≡ true = ap (has_limit q) (take-append-drop (front_orders p es) es) ∙ h in
    elim (any-append_cases (λ e. eqb q (limit_of e)) t r k) [
      | inl u ↦ inl (any_gives (λ e. eqb q (limit_of e)) (q ≡ p) t (All-weaker (λ e. limit_of e ≡ p) (λ e. eqb q (limit_of e) ≡ true → q ≡ p) (λ e f v. eqb-true q (limit_of e) v ∙ f) t (front_at p es)) u)
      | inr u ↦ inr u
    ]

limit_behind : (n q : ℕ) (es : List Resting) → has_limit q (drop n es) ≡ true → has_limit q es ≡ true
limit_behind n q es h = sym (ap (has_limit q) (take-append-drop n es)) ∙ any-append_right (λ e. eqb q (limit_of e)) (take n es) (drop n es) h

-- a figure over a list is that over the level in front and that over the rest
level_total : (f : Resting → ℕ) (p : ℕ) (es : List Resting) → total f es ≡ total f (take (front_orders p es) es) + total f (drop (front_orders p es) es)
level_total f p es = sym (ap (total f) (take-append-drop (front_orders p es) es)) ∙ total-append f (take (front_orders p es) es) (drop (front_orders p es) es)

-- the supply below p has nothing of the level at p
supply_below : (p q : ℕ) (es : List Resting) → q < p → supply es q ≡ supply (drop (front_orders p es) es) q
supply_below p q es l =
    let t = take (front_orders p es) es in
    let z = total_none (λ e. leb (limit_of e) q) lots_of t (All-weaker (λ e. limit_of e ≡ p) (λ e. leb (limit_of e) q ≡ false) (λ e h. lt-leb (limit_of e) q (omega arith)) t (front_at p es)) in
    omega (arith, z, level_total (λ e. cond (leb (limit_of e) q) (lots_of e) 0) p es)

-- the demand at p or below has all of the level at p
demand_below : (p q : ℕ) (es : List Resting) → q ≤ p → demand es q ≡ front_lots p es + demand (drop (front_orders p es) es) q
demand_below p q es l =
    let t = take (front_orders p es) es in
    let z = total-whole (λ e. leb q (limit_of e)) lots_of t (All-weaker (λ e. limit_of e ≡ p) (λ e. leb q (limit_of e) ≡ true) (λ e h. le-leb q (limit_of e) (omega arith)) t (front_at p es)) in
    omega (arith, z, front_lots_lem p es, level_total (λ e. cond (leb q (limit_of e)) (lots_of e) 0) p es)

-- the demand at p has nothing of what is below p
demand_none : (p : ℕ) (es : List Resting) → AllByRecursion (λ e. limit_of e < p) es → demand es p ≡ 0
demand_none p es a = total_none (λ e. leb p (limit_of e)) lots_of es (All-weaker (λ e. limit_of e < p) (λ e. leb p (limit_of e) ≡ false) (λ e h. lt-leb p (limit_of e) h) es a)

-- the walk begins with all orders left
pub walk_starts : (sells buys os : List Resting) (s : ℕ) → os ≡ reverse sells → Queues sells buys → s ≡ lots_in os → Walked sells buys os buys [] s 0
walk_starts sells buys os s e q h = record {
  offers_down = subst (Sorted Buy) (sym e) (sorted-reverse sells (queue_sorted Sell sells q.of_sells));
  bids_down = queue_sorted Buy buys q.of_buys;
  rest = ap (map (line_at sells buys)) (limits_same (os ++ buys) (sells ++ buys) (λ p. ap (λ os'. has_limit p (os' ++ buys)) e ∙ any-reverse (λ x. eqb p (limit_of x)) sells buys));
  offered = h;
  supplied = all_any _ (λ x. sym (ap (λ os'. supply os' (limit_of x)) e ∙ total-reverse (λ y. cond (leb (limit_of y) (limit_of x)) (lots_of y) 0) sells)) (os ++ buys);
  asked = all_any _ (λ x. omega arith) (os ++ buys);
  few = omega (arith, h, ap lots_in e, total-reverse lots_of sells);
  fewer = omega arith;
  room = omega (arith, ap length e, length-reverse sells, q.of_sells.short, q.of_buys.short);
}

-- what is below p of a list that the level at p stands in front of
below_top : (p : ℕ) (es : List Resting) → Sorted Buy es → AllByRecursion (λ x. limit_of x ≤ p) es → AllByRecursion (λ x. limit_of x < p) (drop (front_orders p es) es)
below_top p es s a = rest_beyond Buy p es s a

-- what holds at the limits left goes over to those below p
further : (P R : Resting → Type 0) (p : ℕ) (os bs : List Resting) → AllByRecursion (λ x. limit_of x < p) (drop (front_orders p os) os) → AllByRecursion (λ x. limit_of x < p) (drop (front_orders p bs) bs) →
    ((x : Resting) → limit_of x < p → P x → R x) → AllByRecursion P (os ++ bs) → AllByRecursion R (drop (front_orders p os) os ++ drop (front_orders p bs) bs)
further P R p os bs a b f h =
    All-append R (drop (front_orders p os) os) (drop (front_orders p bs) bs)
    (all_both (λ x. limit_of x < p) P R f (drop (front_orders p os) os) a (All-drop P (front_orders p os) os (all_first P os bs h)))
    (all_both (λ x. limit_of x < p) P R f (drop (front_orders p bs) bs) b (All-drop P (front_orders p bs) bs (all_second P os bs h)))

-- the limits left are p and those behind the levels at p
limits_next : (p : ℕ) (os bs : List Resting) → has_limit p (os ++ bs) ≡ true → AllByRecursion (λ x. limit_of x < p) (drop (front_orders p os) os) → AllByRecursion (λ x. limit_of x < p) (drop (front_orders p bs) bs) →
    limits_of (os ++ bs) ≡ p ∷ limits_of (drop (front_orders p os) os ++ drop (front_orders p bs) bs)
limits_next p os bs h a b =
    let os' = drop (front_orders p os) os in
    let bs' = drop (front_orders p bs) bs in
    limits_top p (os ++ bs) (os' ++ bs') h (All-append (λ x. limit_of x < p) os' bs' a b)
    (λ q k. elim (any-append_cases (λ e. eqb q (limit_of e)) os bs k) [
      | inl u ↦ elim (limit_cases p q os u) [
        | inl v ↦ inl v
        | inr v ↦ inr (any-append-left (λ e. eqb q (limit_of e)) os' bs' v)
      ]
      | inr u ↦ elim (limit_cases p q bs u) [
        | inl v ↦ inl v
        | inr v ↦ inr (any-append_right (λ e. eqb q (limit_of e)) os' bs' v)
      ]
    ])
    (λ q k. elim (any-append_cases (λ e. eqb q (limit_of e)) os' bs' k) [
      | inl u ↦ any-append-left (λ e. eqb q (limit_of e)) os bs (limit_behind (front_orders p os) q os u)
      | inr u ↦ any-append_right (λ e. eqb q (limit_of e)) os bs (limit_behind (front_orders p bs) q bs u)
    ])

-- the line that the walk writes at p is the one at p
pub line_next : (sells buys os bs : List Resting) (lines : List Line) (s d d' : ℕ) (price : Price) → Walked sells buys os bs lines s d → next_limit os bs ≡ Some price → d' ≡ d + front_lots price.0 bs →
    record { price = price; supply = record { 0 = s }; demand = record { 0 = d' } } ≡ line_at sells buys price.0
line_next sells buys os bs lines s d d' price w n e =
    let p = price.0 in
    let t = next_top os bs price w.offers_down w.bids_down n in
    let h = next_has os bs price n in
    let x = at_limit (λ q. supply sells q ≡ supply os q) (os ++ bs) p w.supplied h in
    let y = at_limit (λ q. demand buys q ≡ d + demand bs q) (os ++ bs) p w.asked h in
    let u = total-whole (λ e. leb (limit_of e) p) lots_of os (All-weaker (λ e. limit_of e ≤ p) (λ e. leb (limit_of e) p ≡ true) (λ e k. le-leb (limit_of e) p k) os t.0) in
    let v = demand_below p p bs (omega arith) in
    let z = demand_none p (drop (front_orders p bs) bs) (below_top p bs w.bids_down t.1) in
    let a : s ≡ supply sells p = omega (arith, x, u, w.offered) in
    let b : d' ≡ demand buys p = omega (arith, y, v, z, e) in
    rw (a, b) refl

-- the limits left at the next one
pub limits_left : (sells buys os bs : List Resting) (lines : List Line) (s d : ℕ) (price : Price) → Walked sells buys os bs lines s d → next_limit os bs ≡ Some price →
    limits_of (os ++ bs) ≡ price.0 ∷ limits_of (drop (front_orders price.0 os) os ++ drop (front_orders price.0 bs) bs)
limits_left sells buys os bs lines s d price w n =
    let t = next_top os bs price w.offers_down w.bids_down n in
    limits_next price.0 os bs (next_has os bs price n) (below_top price.0 os w.offers_down t.0) (below_top price.0 bs w.bids_down t.1)

-- a level on, the walk has one line more
pub walk_next : (sells buys os bs : List Resting) (lines : List Line) (s d : ℕ) (price : Price) → Walked sells buys os bs lines s d → next_limit os bs ≡ Some price →
    Walked sells buys (drop (front_orders price.0 os) os) (drop (front_orders price.0 bs) bs) (lines ++ (line_at sells buys price.0 ∷ [])) (s - front_lots price.0 os) (d + front_lots price.0 bs)
walk_next sells buys os bs lines s d price w n =
    let p = price.0 in
    let os' = drop (front_orders p os) os in
    let bs' = drop (front_orders p bs) bs in
    let t = next_top os bs price w.offers_down w.bids_down n in
    let a = below_top p os w.offers_down t.0 in
    let b = below_top p bs w.bids_down t.1 in
    let h = limits_left sells buys os bs lines s d price w n in
    let lo = level_total lots_of p os in
    let lb = level_total lots_of p bs in
    let fo = front_lots_lem p os in
    let fb = front_lots_lem p bs in
    let lengths = length-append lines (line_at sells buys p ∷ []) in
    record {
      offers_down = sorted-drop (front_orders p os) os w.offers_down;
      bids_down = sorted-drop (front_orders p bs) bs w.bids_down;
      rest = append_assoc lines (line_at sells buys p ∷ []) (map (line_at sells buys) (limits_of (os' ++ bs'))) ∙ sym (ap (λ ps. lines ++ map (line_at sells buys) ps) h) ∙ w.rest;
      offered = omega (arith, lo, fo, w.offered);
      supplied = further (λ e. supply sells (limit_of e) ≡ supply os (limit_of e)) (λ e. supply sells (limit_of e) ≡ supply os' (limit_of e)) p os bs a b
          (λ x l e. e ∙ supply_below p (limit_of x) os l) w.supplied;
      asked = further (λ e. demand buys (limit_of e) ≡ d + demand bs (limit_of e)) (λ e. demand buys (limit_of e) ≡ d + front_lots p bs + demand bs' (limit_of e)) p os bs a b
          (λ x l e. let k = demand_below p (limit_of x) bs (omega arith) in omega (arith, k, e)) w.asked;
      few = omega (arith, w.few);
      fewer = omega (arith, lb, fb, w.fewer);
      room = omega (
        arith,
        next_some os bs price n,
        lengths,
        prefix_len-le-length (λ e. eqb (limit_of e) p) os,
        prefix_len-le-length (λ e. eqb (limit_of e) p) bs,
        length-drop (front_orders p os) os,
        length-drop (front_orders p bs) bs,
        w.room,
      );
    }

-- nothing that the walk counts is more than the queues have
pub level_few : (sells buys os bs : List Resting) (lines : List Line) (s d p : ℕ) → Queues sells buys → Walked sells buys os bs lines s d →
    (front_lots p os ≤ 512 * 1000000) × (s ≤ 512 * 1000000) × (d + front_lots p bs ≤ 512 * 1000000)
level_few sells buys os bs lines s d p q w =
    let lo = front_le p os in
    let lb = front_le p bs in
    (omega (arith, q.of_sells.bounded, w.few, w.offered), omega (arith, q.of_sells.bounded, w.few), omega (arith, q.of_buys.bounded, w.fewer))
