-- What a queue's order says of its limits: the first is the best, and later ones are no better.
use Rattle.std.proofs.Common.{◌≡◌, ℕ, ◌<◌, ◌≤◌, true, false, not, ltb, leb, List, [], ◌∷◌, sym, ap, ◌∙◌, inl, inr, arith}
use Rattle.std.specs.List.{AllByRecursion}
use Rattle.std.proofs.lemmas.Bool.{and_parts, not-true, leb-true, ltb-false, cases_Bool, cond-false}
use Rattle.ordered_list.specs.Order.{rank_alike, after_none, in_order}
use Rattle.units.specs.Ranges.{is_price}
use Rattle.units.specs.declared.side.Side.{Side}
use Rattle.units.specs.declared.side.Side.TheVariants.{Sell, Buy}
use Rattle.market.specs.declared.order.Resting.{Resting}
use Rattle.market.specs.Orders.{limit_of, number_of, away_by, away_from_best, queue_after}
use Rattle.market.specs.Queues.{Queue}

-- q is no better than p for a side
abbrev pub Behind : Side → ℕ → ℕ → Type 0
Behind Sell p q = p ≤ q
Behind Buy p q = q ≤ p

-- it is worse
abbrev pub Beyond : Side → ℕ → ℕ → Type 0
Beyond Sell p q = p < q
Beyond Buy p q = q < p

-- each limit is no better than those in front of it
abbrev pub Sorted : Side → List Resting → Type 0
Sorted side [] = Unit {0}
Sorted side (e ∷ es) = AllByRecursion (λ x. Behind side (limit_of e) (limit_of x)) es × Sorted side es

-- what does not rank after is no further away
away_le : (x y : Resting) → queue_after x y ≡ false → away_from_best x ≤ away_from_best y
away_le x y e =
    let a = away_from_best x in
    let b = away_from_best y in
    elim (cases_Bool (rank_alike (λ (v w : Resting). ltb (away_from_best w) (away_from_best v)) x y)) [
      | inl t ↦ let p = and_parts (not (ltb b a)) (not (ltb a b)) t in ltb-false b a (not-true (ltb b a) p.0)
      | inr t ↦ ltb-false b a (sym (cond-false (rank_alike (λ (v w : Resting). ltb (away_from_best w) (away_from_best v)) x y) (ltb (number_of y) (number_of x)) (ltb b a) t) ∙ e)
    ]

-- between limits in range that is to be no better
behind_from : (side : Side) (p q : ℕ) → p ≤ 1000000000 → q ≤ 1000000000 → away_by side p ≤ away_by side q → Behind side p q
behind_from Sell p q a b h = h
behind_from Buy p q a b h = omega arith

limit_most : (e : Resting) → is_price e.order.limit ≡ true → limit_of e ≤ 1000000000
limit_most e h = leb-true (limit_of e) 1000000000 (and_parts (leb 1 (limit_of e)) (leb (limit_of e) 1000000000) h).1

first_best : (side : Side) (e : Resting) (es : List Resting) → e.order.side ≡ side → limit_of e ≤ 1000000000 → AllByRecursion (λ x. x.order.side ≡ side) es →
    AllByRecursion (λ x. is_price x.order.limit ≡ true) es → after_none queue_after e es ≡ true → AllByRecursion (λ x. Behind side (limit_of e) (limit_of x)) es
first_best side e [] s m ss ps o = tt
first_best side e (x ∷ xs) s m ss ps o =
    let p = and_parts (not (queue_after e x)) (after_none queue_after e xs) o in
    let h = away_le e x (not-true (queue_after e x) p.0) in
    let u = ap (λ v. away_by v (limit_of e)) s in
    let v = ap (λ v. away_by v (limit_of x)) ss.0 in
    (behind_from side (limit_of e) (limit_of x) m (limit_most x ps.0) (omega arith), first_best side e xs s m ss.1 ps.1 p.1)

sorted_from : (side : Side) (q : List Resting) → AllByRecursion (λ x. x.order.side ≡ side) q → AllByRecursion (λ x. is_price x.order.limit ≡ true) q →
    in_order queue_after q ≡ true → Sorted side q
sorted_from side [] ss ps o = tt
sorted_from side (e ∷ es) ss ps o =
    let p = and_parts (after_none queue_after e es) (in_order queue_after es) o in
    (first_best side e es ss.0 (limit_most e ps.0) ss.1 ps.1 p.0, sorted_from side es ss.1 ps.1 p.1)

-- a queue is sorted by its limits
pub queue_sorted : (side : Side) (q : List Resting) → Queue side q → Sorted side q
queue_sorted side q h = sorted_from side q h.sided h.priced h.sorted
