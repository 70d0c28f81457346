use Rattle.std.proofs.Common.{◌-◌, ◌^◌, eqb, ap, ◌∙◌, arith, rules, tests}
use Rattle.std.proofs.lemmas.Iterator.{YieldsList-from_slice, YieldsList-from_map_by}
use Rattle.std.proofs.lemmas.Iterator.Consumers.{min_from_yields_List, YieldsList-from_filter, YieldsList-at}
use Rattle.pricing.specs.Candidates.{volume_of, imbalance_of}
use Rattle.pricing.proofs.Figures.{unwrapped_or, reduce_min}
use Rattle.pricing.proofs.candidates.least_imbalance.Goals as goal

pub returns : goal.returns
returns c =
    let m = min_from_yields_List _ c.min.result c.min.ensures.ran
    (YieldsList-from_map_by _ (λ v. v.0) imbalance_of
    (YieldsList-at c.map.ensures.source (YieldsList-from_filter _ (λ l. eqb (volume_of l) c.args.volume.0) (YieldsList-from_slice c.args.lines.now cc) c.filter.ensures.closure (λ x r q k. search (rules, tests))))
    c.map.ensures.closure (λ x r q k. search rules)) in
    let u = unwrapped_or (λ v. v.0) c.min.result (record { 0 = 2 ^ 64 - 1 }) m in
    ap (λ v. v.0) c.unwrap_or.ensures ∙ u ∙ reduce_min (2 ^ 64 - 1) _ (omega (arith, ap (λ v. v.0) c.unwrap_or.ensures, u))
