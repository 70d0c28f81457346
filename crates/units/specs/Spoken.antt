-- What is printed of a refusal.
use Rattle.std.specs.Prelude.{ℕ, List, ◌++◌, codes}
use Rattle.std.specs.Fmt.{decimal}
use Rattle.units.specs.declared.refusal.RefusalCode.{RefusalCode}

-- the layer and the number
abbrev pub spoken : RefusalCode → List ℕ
spoken code = codes "layer " ++ (decimal code.layer ++ (codes ", number " ++ decimal code.number))
