-- The cut-off is settled between the ends of the candidates.
use Rattle.std.proofs.Common.{◌≡◌, ℕ, true, List, map, Some, None, sym, ap, ◌∙◌}
use Rattle.std.specs.List.{last_or}
use Rattle.std.specs.Option.{unwrap_or}
use Rattle.std.proofs.lemmas.Bool.{cond-true}
use Rattle.units.specs.declared.quantity.Price.{Price}
use Rattle.market.specs.declared.order.Resting.{Resting}
use Rattle.market.specs.CutOff.{crosses, highest, lowest, candidates, settled_between, cut_off, cut_off_found}
use Rattle.market.specs.Queues.{Queues}
use Rattle.pricing.specs.declared.line.Line.{Line}
use Rattle.pricing.specs.Candidates.{candidate_lines}
use Rattle.pricing.specs.Lines.{price_of, lines_at}
use Rattle.pricing.proofs.Chosen.{candidate_ends}

-- the cut-off, found between the ends of the candidates
pub cut_off_found_lem : (sells buys : List Resting) (lines : List Line) (low high price : Price) → Queues sells buys → crosses sells buys ≡ true → lines ≡ lines_at sells buys →
    low.0 ≡ unwrap_or (last_or None (map price_of (candidate_lines lines))) 0 → high.0 ≡ highest (map price_of (candidate_lines lines)) →
    price.0 ≡ settled_between sells buys low.0 high.0 → Some price ≡ cut_off_found sells buys
unfolding cut_off
cut_off_found_lem sells buys lines low high price q t e l h s =
    let n = candidate_ends sells buys lines q e in
    let p : price.0 ≡ cut_off sells buys = s ∙ ap (λ m. settled_between sells buys m high.0) (l ∙ n.0) ∙ ap (settled_between sells buys (lowest (candidates sells buys))) (h ∙ n.1) in
    let v : price ≡ record { 0 = cut_off sells buys } = ap (λ (m : ℕ). record { 0 = m }) p in
    ap Some v ∙ sym (cond-true (crosses sells buys) _ _ t)
