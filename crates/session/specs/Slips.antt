-- Answers that hand a strike slip out or back. All that a slip says is whether it is spent.
use Rattle.std.specs.Prelude.{◌≡◌, false, Ok, Err, IfOk, IfSome, Option, Result}
use Rattle.std.specs.Option.{option_map}
use Rattle.units.specs.declared.quantity.Price.{Price}
use Rattle.market.specs.declared.fault.SessionFault.{SessionFault}
use Rattle.session.specs.declared.slip.StrikeSlip.{StrikeSlip}

-- a slip as a strike makes it
abbrev pub the_slip : StrikeSlip
the_slip = record { spent = false }

-- a refusal hands the slip back
abbrev pub handing_back : {T : Type 0} → StrikeSlip → Result T SessionFault → Result T (SessionFault × StrikeSlip)
handing_back slip (Ok x) = Ok x
handing_back slip (Err fault) = Err (fault, slip)

-- a strike that finds a cut-off hands a slip out with it
abbrev pub with_slip : Option Price → Option (Price × StrikeSlip)
with_slip found = option_map (λ c. (c, the_slip)) found

-- a slip that is held is not spent
abbrev pub IsUnspent : Option StrikeSlip → Type 0
IsUnspent held = IfSome held (λ slip. slip.spent ≡ false)

-- a slip that a strike hands out is not spent
abbrev pub GivesUnspent : Result (Option (Price × StrikeSlip)) SessionFault → Type 0
GivesUnspent result = IfOk result (λ struck. IfSome struck (λ given. given.1.spent ≡ false))
