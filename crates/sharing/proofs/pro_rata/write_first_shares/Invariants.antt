use Rattle.std.proofs.Common.{◌≡◌, ◌++◌, map, take, drop}
use Rattle.sharing.proofs.RataPasses.{first-write}
use Rattle.sharing.proofs.pro_rata.write_first_shares.Given as goal

-- so far the first shares stand on the lines
abbrev pub invariant-loop-line : goal.invariant-loop-line
invariant-loop-line l =
    l.lines ≡ map (first-write l.total.0 l.offered.0) (take l.line-index l.initial.lines) ++ drop l.line-index l.initial.lines
