use Rattle.std.proofs.Common.{◌≡◌, ◌<◌, List, length, get_or, sym, ◌∙◌, subst}
use Rattle.ordered_list.specs.Lists.{list_of}
use Rattle.sparse_depository.specs.declared.entry.AccountEntry.{AccountEntry}
use Rattle.sparse_depository.specs.Entries.{number, nobody}
use Rattle.sparse_depository.specs.EntriesLemmas.{Absent, without_none, without_found}
use Rattle.sparse_depository.proofs.exchange.take_out.Goals as goal

pub returns-in_default-clause-list : goal.returns-in_default-clause-list
returns-in_default-clause-list c =
    let l = c.args.list.now in
    sym (without_none c.args.who.0 (list_of l.len l.lines.now) (subst (Absent c.args.who.0) c.lines.ensures c.in_default.ensures))

pub returns-clause-list : goal.returns-clause-list
returns-clause-list c =
    let l = c.args.list.now in
    let Here : List AccountEntry → Type 0 = λ xs. (c.in-Some.at < length xs) × (number (get_or xs c.in-Some.at nobody) ≡ c.args.who.0) in
    let here = subst Here c.lines.ensures c.in-Some.ensures in
    c.remove.ensures.list ∙ without_found 1 c.args.who.0 (list_of l.len l.lines.now) c.in-Some.at here.0 here.1 c.requires.rises
