use Rattle.std.proofs.Common.{refl}
use Rattle.market.specs.CutOff.{cut_off}
use Rattle.market.proofs.worked.worked_cases.Goals as goal

pub returns-clause-cases : goal.returns-clause-cases
unfolding cut_off
returns-clause-cases c = (refl, (refl, refl), refl, refl, refl, refl, refl)
