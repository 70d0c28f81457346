use Rattle.std.proofs.Common.{◌≡◌, subst}
use Rattle.market.specs.CutOff.{cut_off_found}
use Rattle.session.proofs.Lines.{kept_queues, at_queues}
use Rattle.session.proofs.session.Session.cut_off.Goals as goal

pub returns : goal.returns
returns g c =
    let x = c.self.inside in
    let q = kept_queues x.phase x.book (g.D.AccountBook.accounts x.depository) c.self.invariant in
    subst (λ v. c.cut_off.result ≡ cut_off_found v.state.sells v.state.buys) c.self.view_is
    (at_queues (λ sells buys. c.cut_off.result ≡ cut_off_found sells buys) _ _ x.book.sells x.book.buys c.queues-queues.ensures.sells c.queues-queues.ensures.buys q c.cut_off.ensures)
