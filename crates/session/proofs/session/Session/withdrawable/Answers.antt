use Rattle.std.proofs.Common.{◌≡◌, sym, ap, subst, ◌∙◌}
use Rattle.units.specs.Answers.{answered}
use Rattle.market.specs.Calls.{withdraw_answer}
use Rattle.market.proofs.KeptCalls.{trading_books}
use Rattle.session.specs.States.{state_of}
use Rattle.session.proofs.Withdrawals.{withdraws}
use Rattle.session.proofs.session.Session.withdrawable.Goals as goal

pub returns-clause-answer : goal.returns-clause-answer
returns-clause-answer g c =
    let x = c.self.inside in
    let s = state_of x.phase x.book (g.D.AccountBook.accounts x.depository) in
    let trades = sym c.if-not-is_trading.ensures in
    subst (λ v. answered (λ e. e.lots) c.ok_or.result ≡ withdraw_answer v.state c.args.who c.args.number) c.self.view_is (
    ap (answered (λ e. e.lots)) c.ok_or.ensures.value
    ∙ withdraws s c.args.who c.args.number c.entry_of.result trades (sym c.if-not-is_known.ensures) (sym c.if-not-is_own.ensures) (sym c.entry_of.ensures) (trading_books s c.self.invariant trades)
    )
