use Rattle.units.specs.declared.refusal.RefusalCode.{RefusalCode}
use Rattle.depository.specs.declared.fault.DepositoryFault.{DepositoryFault}
use Rattle.depository.specs.declared.fault.DepositoryFault.TheVariants.{NoParticipant, FreeTooSmall, BlockedTooSmall, PastTotal}

-- the layer and the number of each refusal
abbrev pub code_of : DepositoryFault → RefusalCode
code_of NoParticipant = record { layer = 3; number = 31 }
code_of FreeTooSmall = record { layer = 3; number = 32 }
code_of BlockedTooSmall = record { layer = 3; number = 33 }
code_of PastTotal = record { layer = 3; number = 34 }
