use Rattle.std.proofs.Common.{◌≡◌, true, List, length, take, sym, ap, ◌∙◌, subst, arith}
use Rattle.ordered_list.specs.Lists.{list_of}
use Rattle.sparse_depository.specs.declared.entry.AccountEntry.{AccountEntry}
use Rattle.depository.specs.Accounts.{Within}
use Rattle.sparse_depository.specs.Entries.{accounts_of, rising, all_hold, replaced}
use Rattle.sparse_depository.specs.EntriesLemmas.{replaced_is}
use Rattle.sparse_depository.proofs.sparse.SparseDepository.keep.Goals as goal

pub exchange-requires : goal.exchange-requires
exchange-requires c =
    let s = c.args.self.now in
    let es = take s.count s.entries in
    let shown = ap (λ x. x.now) c.over-list.ensures.lines in
    let before : es ≡ list_of c.over-list.result.len c.over-list.result.lines.now = cc in
    let R = replaced_is c.args.who c.args.account es c.requires.known s.rises s.hold in
    let P : List AccountEntry → Type 0 = λ xs. rising 1 xs ≡ true in
    let long = ap (λ xs. length (replaced c.args.who c.args.account xs)) before in
    record {
      few = omega (arith, c.over-list.ensures.count, c.over-list.ensures.long, s.few, s.long);
      rises = subst P before s.rises;
      room = omega (arith, long, R.few, c.over-list.ensures.long, s.long);
    }

pub invariant_of-self : goal.invariant_of-self
invariant_of-self c =
    let s = c.args.self.now in
    let es = take s.count s.entries in
    let shown = ap (λ x. x.now) c.over-list.ensures.lines in
    let new : take c.done-self.result c.done-self.new.self.0 ≡ replaced c.args.who c.args.account es = cc in
    let R = replaced_is c.args.who c.args.account es c.requires.known s.rises s.hold in
    let Rises : List AccountEntry → Type 0 = λ xs. rising 1 xs ≡ true in
    let Holds : List AccountEntry → Type 0 = λ xs. all_hold xs ≡ true in
    record {
      long = c.done-self.ensures.long ∙ c.exchange.ensures.long ∙ c.over-list.ensures.long ∙ s.long;
      few = omega (arith, c.done-self.ensures.count, c.exchange.ensures.few, c.exchange.ensures.long, c.over-list.ensures.long, s.long);
      rises = subst Rises (sym new) R.rises;
      hold = subst Holds (sym new) R.hold;
      within = subst Within (sym (ap accounts_of new ∙ R.says)) c.requires.bounded;
    }

pub returns : goal.returns
returns c =
    let s = c.args.self.now in
    let es = take s.count s.entries in
    let shown = ap (λ x. x.now) c.over-list.ensures.lines in
    let new : take c.done-self.result c.done-self.new.self.0 ≡ replaced c.args.who c.args.account es = cc in
    ap accounts_of new ∙ (replaced_is c.args.who c.args.account es c.requires.known s.rises s.hold).says
