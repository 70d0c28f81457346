-- The lines of the two lists as text: their fields, which are printed with one space between.
use Rattle.std.specs.Prelude.{ℕ, List, [], ◌∷◌, decimal}
use Rattle.market.specs.declared.deal.Deal.{Deal}
use Rattle.market.specs.declared.deal.Cancellation.{Cancellation}

-- deals begin with D, cancellations with C
abbrev pub deal_fields : Deal → List (List ℕ)
deal_fields d = (68 ∷ []) ∷ decimal d.sell.0 ∷ decimal d.buy.0 ∷ decimal d.price.0 ∷ decimal d.lots.0 ∷ []

abbrev pub cancellation_fields : Cancellation → List (List ℕ)
cancellation_fields c = (67 ∷ []) ∷ decimal c.order.0 ∷ decimal c.lots.0 ∷ []
