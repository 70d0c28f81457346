-- Operands: numbers, high byte first, and the quantities that they stand for.
use Rattle.std.specs.Prelude.{ℕ, List}
use Rattle.std.specs.Int.Digits.{number_from_digits as number_in}
use Rattle.units.specs.declared.participant.Participant.{Participant}
use Rattle.units.specs.declared.quantity.Price.{Price}
use Rattle.units.specs.declared.quantity.Lots.{Lots}
use Rattle.units.specs.declared.quantity.Money.{Money}
use Rattle.market.specs.declared.order.OrderNumber.{OrderNumber}

-- the number that bytes write, high byte first
abbrev pub number : List ℕ → ℕ
number bytes = number_in 256 bytes

abbrev pub as_participant : ℕ → Participant
as_participant n = record { 0 = n }

abbrev pub as_order_number : ℕ → OrderNumber
as_order_number n = record { 0 = n }

abbrev pub as_price : ℕ → Price
as_price n = record { 0 = n }

abbrev pub as_lots : ℕ → Lots
as_lots n = record { 0 = n }

abbrev pub as_money : ℕ → Money
as_money n = record { 0 = n }
