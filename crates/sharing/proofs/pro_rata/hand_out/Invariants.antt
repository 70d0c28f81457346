use Rattle.std.proofs.Common.{◌≡◌}
use Rattle.sharing.specs.Walks.{walk, walk_from}
use Rattle.sharing.proofs.RataPasses.{top_write, top_next}
use Rattle.sharing.proofs.pro_rata.hand_out.Given as goal

abbrev pub invariant-loop-line : goal.invariant-loop-line
invariant-loop-line l =
    walk_from top_write top_next l.lines l.line-index l.left.0 ≡
    walk top_write top_next l.initial.left.0 l.initial.lines
