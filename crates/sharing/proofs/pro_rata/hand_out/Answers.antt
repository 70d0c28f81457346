use Rattle.std.proofs.Common.{◌≤◌, length, sym, ◌∙◌, arith}
use Rattle.sharing.specs.Walks.{walk_all}
use Rattle.sharing.proofs.RataPasses.{top_write, top_next, top_walk}
use Rattle.sharing.proofs.pro_rata.hand_out.Goals as goal

pub returns : goal.returns
returns c =
    let done : length c.loop-line.lines ≤ c.loop-line.line-index = omega arith in
    sym (walk_all top_write top_next c.loop-line.lines c.loop-line.line-index c.loop-line.left.0 done) ∙ c.loop-line.invariant ∙ top_walk c.args.rest.0 c.args.lines.now
