use Rattle.ordered_list.proofs.Edits.{turned_left}
use Rattle.ordered_list.proofs.edit.remove_from.Goals as goal

pub returns-clause-after : goal.returns-clause-after
returns-clause-after g c =
    let t = turned_left c.args.lines.now c.args.at c.args.len c.index-lines-at.result c.requires.there c.requires.within c.index-lines-at.is in
    let a = c.rotate_left.ensures.after in
    cc
