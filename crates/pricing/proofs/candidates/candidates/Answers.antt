use Rattle.std.proofs.Common.{map, None, ap, ◌∙◌, rules, tests}
use Rattle.std.specs.List.{last_or}
use Rattle.std.specs.Option.{unwrap_or}
use Rattle.std.proofs.lemmas.Iterator.{YieldsList-from_slice, YieldsList-from_map_by}
use Rattle.std.proofs.lemmas.Iterator.Consumers.{YieldsList-from_filter, YieldsList-at}
use Rattle.market.specs.CutOff.{highest}
use Rattle.pricing.specs.Candidates.{has_figures}
use Rattle.pricing.specs.Lines.{price_of}
use Rattle.pricing.proofs.Chosen.{candidates_kept}
use Rattle.pricing.proofs.Figures.{unwrapped, last_from_yields, highest_found}
use Rattle.pricing.proofs.candidates.candidates.Goals as goal

pub returns : goal.returns
returns c =
    let v = c.greatest_volume-volume.result.0 in
    let d = c.least_imbalance-imbalance.result.0 in
    let k = candidates_kept c.args.lines.now v d c.greatest_volume-volume.ensures c.least_imbalance-imbalance.ensures in
    let l = last_from_yields c.last.result c.last.ensures.ran
    (YieldsList-from_map_by _ (λ p. p.0) price_of
    (YieldsList-at c.map.ensures.source (YieldsList-from_filter _ (has_figures v d) (YieldsList-from_slice c.args.lines.now cc) c.filter.ensures.closure (λ x r q k. search (rules, tests))))
    c.map.ensures.closure (λ x r q k. search rules)) in
    let h = highest_found c.max.result c.max.ensures.ran
    (YieldsList-from_map_by _ (λ p. p.0) price_of
    (YieldsList-at c.map-2.ensures.source (YieldsList-from_filter _ (has_figures v d) (YieldsList-from_slice c.args.lines.now cc) c.filter-2.ensures.closure (λ x r q k. search (rules, tests))))
    c.map-2.ensures.closure (λ x r q k. search rules))
    c.unwrap_or_default-2.ensures (λ y h. search rules) in
    record {
      low = unwrapped (λ p. p.0) 0 c.last.result c.unwrap_or_default.ensures (λ y h. search rules) l ∙ ap (λ ls. unwrap_or (last_or None (map price_of ls)) 0) k;
      high = h ∙ ap (λ ls. highest (map price_of ls)) k;
    }
