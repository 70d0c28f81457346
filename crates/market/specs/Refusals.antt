use Rattle.units.specs.declared.refusal.RefusalCode.{RefusalCode}
use Rattle.depository.specs.Refusals.{code_of as depository_code}
use Rattle.market.specs.declared.fault.SessionFault.{SessionFault}
use Rattle.market.specs.declared.fault.SessionFault.TheVariants.{NoParticipant, PriceOutOfRange, LotsOutOfRange, SessionFull, OwnOrderInTheWay, NotOwnOrder, NothingWaits, WrongPhase, SomethingBlocked, SliceTooShort, Depository}

-- the layer and the number of each refusal; the depository's keeps its own
abbrev pub code_of : SessionFault → RefusalCode
code_of NoParticipant = record { layer = 2; number = 11 }
code_of PriceOutOfRange = record { layer = 2; number = 12 }
code_of LotsOutOfRange = record { layer = 2; number = 13 }
code_of SessionFull = record { layer = 2; number = 14 }
code_of OwnOrderInTheWay = record { layer = 2; number = 15 }
code_of NotOwnOrder = record { layer = 2; number = 16 }
code_of NothingWaits = record { layer = 2; number = 17 }
code_of WrongPhase = record { layer = 2; number = 21 }
code_of SomethingBlocked = record { layer = 2; number = 22 }
code_of SliceTooShort = record { layer = 2; number = 23 }
code_of (Depository fault) = depository_code fault
