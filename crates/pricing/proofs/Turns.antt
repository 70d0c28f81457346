-- A turn of the walk, as the code makes it: with sums that stop at what a u64 holds, in a list that has room for so many lines.
use Rattle.std.proofs.Common.{◌≡◌, ℕ, ◌+◌, ◌-◌, ◌^◌, ◌<◌, min, false, eqb, List, ◌∷◌, ◌++◌, map, length, drop, Some, sym, ap, ◌∙◌, arith}
use Rattle.std.specs.List.{AllByRecursion}
use Rattle.std.proofs.lemmas.List.Sums.{prefix_len-le-length}
use Rattle.units.specs.declared.quantity.Price.{Price}
use Rattle.market.specs.declared.order.Resting.{Resting}
use Rattle.market.specs.Orders.{limit_of}
use Rattle.market.specs.Prices.{limits_of}
use Rattle.market.specs.Queues.{Queues}
use Rattle.pricing.specs.declared.line.Line.{Line}
use Rattle.pricing.specs.Levels.{front_orders, front_lots}
use Rattle.pricing.specs.Lines.{by_price, added, line_at, lines_at, next_limit}
use Rattle.pricing.proofs.Placing.{lines_above, added_last}
use Rattle.pricing.proofs.Tops.{next_some}
use Rattle.pricing.proofs.Walks.{Walked, walk_next, line_next, level_few, limits_left}

-- the lines so far have higher prices than the next one
lines_higher : (sells buys os bs : List Resting) (lines : List Line) (s d : ℕ) (price : Price) → Walked sells buys os bs lines s d → next_limit os bs ≡ Some price →
    AllByRecursion (λ l. by_price l (line_at sells buys price.0) ≡ false) lines
lines_higher sells buys os bs lines s d price w n =
    let p = price.0 in
    let ps = limits_of (drop (front_orders p os) os ++ drop (front_orders p bs) bs) in
    let e : lines ++ map (line_at sells buys) (p ∷ ps) ≡ lines_at sells buys = sym (ap (λ qs. lines ++ map (line_at sells buys) qs) (limits_left sells buys os bs lines s d price w n)) ∙ w.rest in
    lines_above sells buys lines p ps e

-- a turn makes the walk go on by a level
pub walk_turn :
    (sells buys os bs os' bs' : List Resting) (lines lines' : List Line) (s d s' d' lo lb : ℕ) (price : Price) →
    Queues sells buys → Walked sells buys os bs lines s d → next_limit os bs ≡ Some price →
    os' ≡ drop (front_orders price.0 os) os → bs' ≡ drop (front_orders price.0 bs) bs →
    lo ≡ min (front_lots price.0 os) (2 ^ 64 - 1) → lb ≡ min (front_lots price.0 bs) (2 ^ 64 - 1) → d' ≡ min (d + lb) (2 ^ 64 - 1) → s' ≡ s - lo →
    lines' ≡ added (record { price = price; supply = record { 0 = s }; demand = record { 0 = d' } }) lines →
    Walked sells buys os' bs' lines' s' d'
walk_turn sells buys os bs os' bs' lines lines' s d s' d' lo lb price q w n eo eb el em ed es en =
    let p = price.0 in
    let f = level_few sells buys os bs lines s d p q w in
    let d'' : d' ≡ d + front_lots p bs = omega (arith, f.2, em, ed) in
    let s'' : s' ≡ s - front_lots p os = omega (arith, f.0, el, es) in
    let k = line_next sells buys os bs lines s d d' price w n d'' in
    let room : length lines < 1024 = omega (arith, w.room, next_some os bs price n, prefix_len-le-length (λ e. eqb (limit_of e) p) os, prefix_len-le-length (λ e. eqb (limit_of e) p) bs) in
    let y = en ∙ ap (λ l. added l lines) k ∙ added_last (line_at sells buys p) lines room (lines_higher sells buys os bs lines s d price w n) in
    rw (eo, eb, y, s'', d'') (walk_next sells buys os bs lines s d price w n)
