-- The best waiting limit of a side.
use Rattle.std.specs.Prelude.{ℕ, List, [], ◌∷◌, map, Some, None, Option, nat_eq}
use Rattle.units.specs.declared.quantity.Price.{Price}
use Rattle.units.specs.declared.quantity.Lots.{Lots}
use Rattle.units.specs.declared.side.Side.{Side}
use Rattle.units.specs.declared.side.Side.TheVariants.{Sell, Buy}
use Rattle.market.specs.declared.order.Resting.{Resting}
use Rattle.market.specs.Orders.{total_if, limit_of, lots_of}
use Rattle.market.specs.CutOff.{highest, lowest}

-- the lots that wait at exactly the limit p
abbrev pub lots_at : ℕ → List Resting → ℕ
lots_at p q = total_if (λ e. nat_eq (limit_of e) p) lots_of q

-- the lowest limit for sells, the highest for buys
abbrev pub best_limit : Side → List Resting → ℕ
best_limit Sell q = lowest (map limit_of q)
best_limit Buy q = highest (map limit_of q)

-- the best limit with the lots that wait at it, and nothing where nothing waits
abbrev pub best_of : Side → List Resting → Option (Price × Lots)
best_of side [] = None
best_of side (e ∷ es) = Some (record { 0 = best_limit side (e ∷ es) }, record { 0 = lots_at (best_limit side (e ∷ es)) (e ∷ es) })
