use Rattle.std.proofs.Common.{◌≤◌, length, sym, ◌∙◌, arith}
use Rattle.sharing.specs.Walks.{walk_all}
use Rattle.sharing.specs.TimeLaws.{time_write, time_next, time_walk}
use Rattle.sharing.proofs.by_time.fill_by_time.Goals as goal

pub returns : goal.returns
returns c =
    let done : length c.loop-line.lines ≤ c.loop-line.line-index = omega arith in
    sym (walk_all time_write time_next c.loop-line.lines c.loop-line.line-index c.loop-line.left.0 done) ∙ c.loop-line.invariant ∙ time_walk c.args.lines.now c.args.total.0
