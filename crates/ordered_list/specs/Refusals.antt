use Rattle.units.specs.declared.refusal.RefusalCode.{RefusalCode}
use Rattle.ordered_list.specs.declared.fault.ListFault.{ListFault}
use Rattle.ordered_list.specs.declared.fault.ListFault.TheVariants.{Full, NoSuchPosition}

-- the layer and the number of each refusal
abbrev pub code_of : ListFault → RefusalCode
code_of Full = record { layer = 6; number = 51 }
code_of NoSuchPosition = record { layer = 6; number = 52 }
