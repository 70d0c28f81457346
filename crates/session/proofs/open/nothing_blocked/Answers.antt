use Rattle.std.proofs.Common.{drop, rules, ◌∙◌}
use Rattle.std.proofs.lemmas.Iterator.Consumers.{YieldsList-from_first}
use Rattle.std.proofs.lemmas.Iterator.Search.{all_from_yields_List}
use Rattle.session.proofs.Blocked.{is_free, all_free}
use Rattle.session.proofs.open.nothing_blocked.Goals as goal

pub returns : goal.returns
returns g c =
    let accounts = g.B.AccountBook.accounts in
    all_from_yields_List {s = c.of.result} is_free c.all.new.self _ c.all.result c.all.ensures.ran
    (YieldsList-from_first (λ a. a) (λ s. drop s.passed (accounts s.book.now)) (accounts c.args.book.now) c.of.ensures)
    (λ a b f k. search rules)
    ∙ all_free (accounts c.args.book.now)
