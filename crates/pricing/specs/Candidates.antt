-- The lines among which the cut-off is found.
use Rattle.std.specs.Prelude.{ℕ, ◌+◌, ◌-◌, ◌^◌, min, Bool, ◌&&◌, List, [], ◌∷◌, map, filter, ◌==◌, nat_eq}
use Rattle.market.specs.CutOff.{highest}
use Rattle.pricing.specs.declared.line.Line.{Line}

-- what can deal at a line's price, and how far supply and demand are apart there
abbrev pub volume_of : Line → ℕ
volume_of l = min l.supply.0 l.demand.0

abbrev pub imbalance_of : Line → ℕ
imbalance_of l = (l.supply.0 - l.demand.0) + (l.demand.0 - l.supply.0)

-- the least of a list of numbers, or `top` where none is below it
abbrev pub least_of : ℕ → List ℕ → ℕ
least_of top [] = top
least_of top (n ∷ ns) = min n (least_of top ns)

-- the least imbalance of the lines with this volume
abbrev pub least_imbalance : ℕ → List Line → ℕ
least_imbalance volume lines = least_of (2 ^ 64 - 1) (map imbalance_of (filter (λ l. nat_eq (volume_of l) volume) lines))

-- whether a line has this volume and this imbalance
abbrev pub has_figures : ℕ → ℕ → Line → Bool
has_figures volume imbalance l = volume_of l == volume && imbalance_of l == imbalance

-- the lines with the greatest volume, and of these those with the least imbalance
abbrev pub candidate_lines : List Line → List Line
candidate_lines lines =
    let volume = highest (map volume_of lines) in
    filter (has_figures volume (least_imbalance volume lines)) lines
