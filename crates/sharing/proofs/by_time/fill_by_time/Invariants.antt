use Rattle.std.proofs.Common.{◌≡◌}
use Rattle.sharing.specs.Walks.{walk, walk_from}
use Rattle.sharing.specs.TimeLaws.{time_write, time_next}
use Rattle.sharing.proofs.by_time.fill_by_time.Given as goal

abbrev pub invariant-loop-line : goal.invariant-loop-line
invariant-loop-line l =
    walk_from time_write time_next l.lines l.line-index l.left.0 ≡
    walk time_write time_next l.initial.left.0 l.initial.lines
