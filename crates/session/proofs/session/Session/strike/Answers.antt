use Rattle.std.proofs.Common.{false, rules, subst}
use Rattle.market.specs.declared.call.Call.TheVariants.{Strike}
use Rattle.market.specs.declared.phase.Phase.TheVariants.{Struck}
use Rattle.market.specs.Law.{Kept}
use Rattle.market.proofs.Peak.{greatest-between}
use Rattle.session.specs.States.{state_of}
use Rattle.session.proofs.Keeping.{kept_after}
use Rattle.session.proofs.session.Session.strike.Goals as goal

pub returns-then-not-is_gathering-clause-greatest : goal.returns-then-not-is_gathering-clause-greatest
returns-then-not-is_gathering-clause-greatest g c = greatest-between c.args.self.now.state.sells c.args.self.now.state.buys

pub invariant_of-self : goal.invariant_of-self
invariant_of-self g c =
    let x = c.self.inside in
    kept_after Strike false c.args.self.now.state (state_of (Struck c.in-Some.cut_off) x.book (g.D.AccountBook.accounts x.depository))
    (subst (λ v. Kept v.state) c.self.view_is c.self.invariant) (search rules)

pub returns-in-Some-clause-greatest : goal.returns-in-Some-clause-greatest
returns-in-Some-clause-greatest g c = greatest-between c.args.self.now.state.sells c.args.self.now.state.buys
