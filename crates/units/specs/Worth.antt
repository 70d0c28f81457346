use Rattle.std.specs.Prelude.{◌*◌}
use Rattle.units.specs.declared.quantity.Price.{Price}
use Rattle.units.specs.declared.quantity.Lots.{Lots}
use Rattle.units.specs.declared.quantity.Money.{Money}

-- the money for so many lots at this price
abbrev pub worth : Price → Lots → Money
worth p n = record { 0 = p.0 * n.0 }
