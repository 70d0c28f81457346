use Rattle.std.proofs.Common.{false, rules, subst}
use Rattle.market.specs.declared.call.Call.TheVariants.{Close}
use Rattle.market.specs.declared.phase.Phase.TheVariants.{Closed}
use Rattle.market.specs.Law.{Kept}
use Rattle.session.specs.States.{state_of}
use Rattle.session.proofs.Keeping.{kept_after}
use Rattle.session.proofs.session.Session.close.Goals as goal

pub invariant_of-self : goal.invariant_of-self
invariant_of-self g c =
    let x = c.self-2.inside in
    kept_after Close false c.args.self.now.state (state_of Closed x.book (g.D.AccountBook.accounts x.depository))
    (subst (λ v. Kept v.state) c.self.view_is c.self.invariant) (search rules)
