use Rattle.std.proofs.Common.{◌≡◌, ◌-◌, take, rules, arith}
use Rattle.ordered_list.proofs.Edits.{turned_right}
use Rattle.ordered_list.proofs.Positions.{position_only}
use Rattle.ordered_list.proofs.edit.insert_into.Goals as goal

pub returns : goal.returns
returns g c =
    let z : c.args.len - 0 ≡ c.args.len = omega arith in
    let p = position_only g.T.Ranked.after c.args.line (take c.args.len c.args.lines.now) c.position_of-at.result c.position_of-at.ensures in
    let t = turned_right c.args.lines.now c.position_of-at.result c.args.len c.args.line (search rules) c.requires in
    let a = c.rotate_right.ensures.after in
    record { answer = p; after = cc }
