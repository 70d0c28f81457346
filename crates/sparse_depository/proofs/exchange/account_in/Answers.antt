use Rattle.std.proofs.Common.{rules, tests, ◌==◌, sym}
use Rattle.std.proofs.lemmas.Iterator.{YieldsList-from_slice}
use Rattle.std.proofs.lemmas.Iterator.Search.{find_from_yields_List}
use Rattle.sparse_depository.specs.Entries.{number}
use Rattle.sparse_depository.specs.EntriesLemmas.{look_first}
use Rattle.sparse_depository.proofs.exchange.account_in.Goals as goal

pub returns-in-Some : goal.returns-in-Some
returns-in-Some c =
    let found = find_from_yields_List (λ e. number e == c.args.who.0) _ _ c.find.result c.find.ensures.ran (YieldsList-from_slice c.args.entries.now (cc)) (λ x b q k. search (rules, tests)) in
    let said = look_first c.args.who.0 c.args.entries.now in
    sym (rw (← found, c.in-Some.is) at said)

pub returns-in-None : goal.returns-in-None
returns-in-None c =
    let found = find_from_yields_List (λ e. number e == c.args.who.0) _ _ c.find.result c.find.ensures.ran (YieldsList-from_slice c.args.entries.now (cc)) (λ x b q k. search (rules, tests)) in
    let said = look_first c.args.who.0 c.args.entries.now in
    let s = rw (← found) at said in
    search rules
