use Rattle.std.proofs.Common.{◌≡◌, ◌-◌, sym, rules}
use Rattle.std.proofs.lemmas.Bool.{ltb-true, ltb-false}
use Rattle.ordered_list.specs.Lists.{list_of, length_of, remove_list, remove_memory, remove_len}
use Rattle.ordered_list.proofs.Memory.{remove_none, remove-some, list_remove}
use Rattle.ordered_list.proofs.Sorted.{removed_in_order}
use Rattle.ordered_list.proofs.list.OrderedList.remove.Goals as goal

pub returns-then-not-has_line-clause-memory : goal.returns-then-not-has_line-clause-memory
returns-then-not-has_line-clause-memory g c =
    let len = c.args.self.now.len in
    let xs = c.args.self.now.lines.now in
    (remove_none len xs c.args.at (ltb-false c.args.at (length_of len xs) (sym c.if-not-has_line.ensures))).2

pub returns : goal.returns
returns g c =
    let len = c.args.self.now.len in
    let xs = c.args.self.now.lines.now in
    let at = c.args.at in
    let h = ltb-true at (length_of len xs) (sym c.if-not-has_line.ensures) in
    let r = remove-some len xs at c.remove_from-line.result h c.remove_from-line.ensures.answer in
    let memory : c.remove_from-line.new.lines ≡ remove_memory len xs at = let a = c.remove_from-line.ensures.after in let e = c.len-len.ensures in let b = r.1 in cc in
    let count : c.len-len.result - 1 ≡ remove_len len xs at = rw c.len-len.ensures r.2 in
    let list : list_of (c.len-len.result - 1) c.remove_from-line.new.lines ≡ remove_list len xs at = rw (memory, count) (list_remove len xs at) in
    record {
      same = search rules;
      long = c.remove_from-line.auto.lines;
      answer = simp r.0;
      list = list;
      memory = memory;
      count = count;
      order = rw list (removed_in_order g.T.Ranked.after (list_of len xs) at);
    }
