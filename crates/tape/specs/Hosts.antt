use Rattle.std.specs.Prelude.{ℕ, List}
use Rattle.units.specs.declared.refusal.RefusalCode.{RefusalCode}
use Rattle.tape.specs.declared.host.HostFault.{HostFault}
use Rattle.tape.specs.declared.host.HostFault.TheVariants.{TapeTooLong}
use Rattle.tape.specs.Answers.{refused, fields_in}

-- the layer and the number of each refusal
abbrev pub code_of : HostFault → RefusalCode
code_of TapeTooLong = record { layer = 5; number = 61 }

-- what is shown in place of a result: a refusal at offset 0
abbrev pub host_fields : HostFault → List (List ℕ)
host_fields fault = fields_in (refused 0 (code_of fault))
