-- Lines as the summary has them, written over the front of a slice.
use Rattle.std.proofs.Common.{◌≡◌, ℕ, ◌+◌, ◌<◌, ◌≤◌, List, [], ◌∷◌, ◌++◌, map, length, get_or, take, drop, set, sym, refl, ap, ◌∙◌, append_assoc, arith}
use Rattle.std.proofs.lemmas.List.{drop_more, map_more, set_at, length-map, length-take-le}
use Rattle.std.proofs.lemmas.Bool.{le-leb, cond-true}
use Rattle.market.specs.declared.order.Resting.{Resting}
use Rattle.market.specs.declared.summary.SummaryLine.{SummaryLine}
use Rattle.market.specs.Prices.{waiting_limits, summary, summary_line}
use Rattle.pricing.specs.declared.line.Line.{Line}
use Rattle.pricing.specs.Lines.{line_at, lines_at, summary_of}
use Rattle.pricing.specs.Summaries.{line_count, fits, summary_after}

-- one line more
pub written_more : {X Y : Type 0} (f : X → Y) (xs : List X) (ys zs : List Y) (i : ℕ) (d : X) → i < length xs → i < length ys →
    zs ≡ map f (take i xs) ++ drop i ys → set zs i (f (get_or xs i d)) ≡ map f (take (i + 1) xs) ++ drop (i + 1) ys
written_more f xs ys zs i d l m e =
    let y = f (get_or xs i d) in
    let long : length (map f (take i xs)) ≡ i = length-map (take i xs) f ∙ length-take-le i xs (omega arith) in
    let q = drop_more ys i y m in
    ap (λ vs. set vs i y) (e ∙ ap (λ vs. map f (take i xs) ++ vs) q) ∙
    set_at (map f (take i xs)) (get_or ys i y) (drop (i + 1) ys) y i long ∙
    sym (append_assoc (map f (take i xs)) (y ∷ []) (drop (i + 1) ys)) ∙
    ap (λ vs. vs ++ drop (i + 1) ys) (sym (map_more f xs i d l))

-- what the walk finds is the summary
pub summary_lines : (sells buys : List Resting) → map summary_of (lines_at sells buys) ≡ summary sells buys
summary_lines sells buys = each (waiting_limits sells buys)
  where
    each : (ps : List ℕ) → map summary_of (map (line_at sells buys) ps) ≡ map (summary_line sells buys) ps
    each [] = refl
    each (p ∷ ps) = ap (λ ls. summary_line sells buys p ∷ ls) (each ps)

-- the slice after it, where it is long enough
pub summary_written : (sells buys : List Resting) (lines after : List SummaryLine) (walked : List Line) → walked ≡ lines_at sells buys → length walked ≤ length lines →
    after ≡ map summary_of walked ++ drop (length walked) lines → after ≡ summary_after sells buys lines
summary_written sells buys lines after walked w l a =
    let c : length walked ≡ line_count sells buys = ap length w ∙ length-map (waiting_limits sells buys) (line_at sells buys) in
    let t = le-leb (line_count sells buys) (length lines) (omega arith) in
    let b : after ≡ summary sells buys ++ drop (line_count sells buys) lines =
    a ∙ ap (λ k. map summary_of walked ++ drop k lines) c ∙ ap (λ vs. vs ++ drop (line_count sells buys) lines) (ap (map summary_of) w ∙ summary_lines sells buys) in
    b ∙ sym (cond-true (fits sells buys lines) _ _ t)
