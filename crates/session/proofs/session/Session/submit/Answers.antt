use Rattle.std.proofs.Common.{false, rules}
use Rattle.market.specs.declared.call.Call.TheVariants.{Submit}
use Rattle.session.specs.States.{state_of}
use Rattle.session.proofs.Keeping.{kept_after}
use Rattle.session.proofs.session.Session.submit.Goals as goal

pub invariant_of-self-2 : goal.invariant_of-self-2
invariant_of-self-2 g c =
    let x = c.self.inside in
    let accounts = g.D.AccountBook.accounts in
    kept_after (Submit c.args.order) false (state_of x.phase x.book (accounts x.depository)) (state_of x.phase c.enter.new.self (accounts c.block.new.self)) c.self.invariant (search rules)
