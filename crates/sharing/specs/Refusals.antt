use Rattle.units.specs.declared.refusal.RefusalCode.{RefusalCode}
use Rattle.sharing.specs.declared.fault.SharingFault.{SharingFault}
use Rattle.sharing.specs.declared.fault.SharingFault.TheVariants.{TooManyLines, LineTooLarge, TotalTooLarge}

-- the layer and the number of each refusal
abbrev pub code_of : SharingFault → RefusalCode
code_of TooManyLines = record { layer = 4; number = 41 }
code_of LineTooLarge = record { layer = 4; number = 42 }
code_of TotalTooLarge = record { layer = 4; number = 43 }
