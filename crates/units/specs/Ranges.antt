-- The ranges of the market's numbers.
use Rattle.std.specs.Prelude.{ℕ, ◌^◌, Bool, ◌&&◌, nat_le}
use Rattle.units.specs.declared.quantity.Price.{Price}
use Rattle.units.specs.declared.quantity.Lots.{Lots}
use Rattle.units.specs.declared.participant.Participant.{Participant}

abbrev pub between : ℕ → ℕ → ℕ → Bool
between low high n = nat_le low n && nat_le n high

-- the limits that an order may have
abbrev pub is_price : Price → Bool
is_price p = between 1 1000000000 p.0

-- the lots that an order may have
abbrev pub is_order_size : Lots → Bool
is_order_size n = between 1 1000000 n.0

-- the participants
abbrev pub is_participant : Participant → Bool
is_participant p = between 1 64 p.0

-- what all participants together hold at most
abbrev pub most_lots : ℕ
most_lots = 10 ^ 12

abbrev pub most_money : ℕ
most_money = 10 ^ 18
