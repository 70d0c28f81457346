use Rattle.std.proofs.Common.{rules}
use Rattle.std.proofs.lemmas.Iterator.{YieldsList-from_slice, YieldsList-from_map_by}
use Rattle.pricing.specs.Candidates.{volume_of}
use Rattle.pricing.proofs.Figures.{highest_found}
use Rattle.pricing.proofs.candidates.greatest_volume.Goals as goal

pub returns : goal.returns
returns c =
    highest_found c.max.result c.max.ensures.ran
    (YieldsList-from_map_by _ (λ v. v.0) volume_of (YieldsList-from_slice c.args.lines.now cc) c.map.ensures.closure (λ x r q k. search rules))
    c.unwrap_or_default.ensures (λ y h. search rules)
