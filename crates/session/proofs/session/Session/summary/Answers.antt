use Rattle.std.proofs.Common.{◌≡◌, subst}
use Rattle.pricing.specs.Summaries.{summary_answer, summary_after}
use Rattle.session.proofs.Lines.{kept_queues, at_queues}
use Rattle.session.proofs.session.Session.summary.Goals as goal

pub returns-clause-answer : goal.returns-clause-answer
returns-clause-answer g c =
    let x = c.self.inside in
    let q = kept_queues x.phase x.book (g.D.AccountBook.accounts x.depository) c.self.invariant in
    subst (λ v. c.summary.result ≡ summary_answer v.state.sells v.state.buys c.args.lines.now) c.self.view_is
    (at_queues (λ sells buys. c.summary.result ≡ summary_answer sells buys c.args.lines.now) _ _ x.book.sells x.book.buys c.queues-queues.ensures.sells c.queues-queues.ensures.buys q c.summary.ensures.answer)

pub returns-clause-after : goal.returns-clause-after
returns-clause-after g c =
    let x = c.self.inside in
    let q = kept_queues x.phase x.book (g.D.AccountBook.accounts x.depository) c.self.invariant in
    subst (λ v. c.summary.new.lines ≡ summary_after v.state.sells v.state.buys c.args.lines.now) c.self.view_is
    (at_queues (λ sells buys. c.summary.new.lines ≡ summary_after sells buys c.args.lines.now) _ _ x.book.sells x.book.buys c.queues-queues.ensures.sells c.queues-queues.ensures.buys q c.summary.ensures.after)
