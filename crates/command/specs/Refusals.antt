use Rattle.units.specs.declared.refusal.RefusalCode.{RefusalCode}
use Rattle.depository.specs.Refusals.{code_of as depository_code}
use Rattle.market.specs.Refusals.{code_of as session_code}
use Rattle.command.specs.declared.fault.TapeFault.{TapeFault}
use Rattle.command.specs.declared.fault.TapeFault.TheVariants.{Unknown, CutShort, NoSuchRule, Session, Depository}

-- the layer and the number of each refusal; the session's and the depository's keep their own
abbrev pub code_of : TapeFault → RefusalCode
code_of Unknown = record { layer = 1; number = 1 }
code_of CutShort = record { layer = 1; number = 2 }
code_of NoSuchRule = record { layer = 1; number = 3 }
code_of (Session fault) = session_code fault
code_of (Depository fault) = depository_code fault
