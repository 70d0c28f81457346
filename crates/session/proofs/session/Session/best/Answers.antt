use Rattle.std.proofs.Common.{ap, sym, subst, ◌∙◌}
use Rattle.market.specs.Queues.{Queue}
use Rattle.market.specs.State.{queue_of}
use Rattle.pricing.specs.Best.{best_of}
use Rattle.session.proofs.Lines.{kept_queue, queue_of_side}
use Rattle.session.proofs.session.Session.best.Goals as goal

pub returns : goal.returns
returns g c =
    let x = c.self.inside in
    let accounts = g.D.AccountBook.accounts x.depository in
    let side = c.args.side in
    c.best.ensures side (subst (Queue side) (sym c.queue.ensures) (kept_queue side x.phase x.book accounts c.self.invariant))
    ∙ ap (best_of side) (c.queue.ensures ∙ queue_of_side side x.phase x.book accounts ∙ ap (λ v. queue_of side v.state) c.self.view_is)
