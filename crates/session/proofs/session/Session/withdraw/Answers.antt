use Rattle.std.proofs.Common.{◌≡◌, ◌++◌, false, Ok, sym, refl, ap, subst, ◌∙◌}
use Rattle.units.proofs.Checks.{ok_not_err}
use Rattle.depository.specs.Calls.{release_answer, release_after}
use Rattle.market.specs.declared.call.Call.TheVariants.{Withdraw}
use Rattle.market.specs.State.{waiting}
use Rattle.market.specs.Calls.{withdraw_answer, withdraw_after}
use Rattle.market.specs.Law.{Books}
use Rattle.session.specs.Lists.{first_with}
use Rattle.session.specs.States.{state_of}
use Rattle.session.proofs.Keeping.{kept_after}
use Rattle.session.proofs.Annulments.{first_number}
use Rattle.session.proofs.Withdrawals.{cover_waits, withdrawn}
use Rattle.session.proofs.session.Session.withdraw.Given as given
use Rattle.session.proofs.session.Session.withdraw.Goals as goal
use Rattle.session.proofs.session.Session.withdraw.Goals.{After-branch-release, After-cancel}

-- the cover of what waits is there, so its release is never refused
released : (g : given.Over) (c : After-branch-release g) → c.release.result ≡ Ok tt
released g c =
    let x = c.self.inside in
    let s = state_of x.phase x.book (g.D.AccountBook.accounts x.depository) in
    let e = c.in_ok-entry.entry in
    let same = ap (λ v. v.state) c.self.view_is in
    let right = subst Books (sym same) c.in_ok-entry.ensures.right in
    let found = ap (λ (y : _). first_with c.args.number.0 (waiting y)) same ∙ c.in_ok-entry.ensures.entry in
    c.release.ensures.answer ∙ ap (release_answer s.accounts e.order.participant) c.cover.ensures ∙ cover_waits s c.args.number e right found

pub returns-in_err-release-clause-answer : goal.returns-in_err-release-clause-answer
returns-in_err-release-clause-answer g c =
    absurd (ok_not_err c.release.result tt c.in_err-release.field-0.0 (released g (goal.at.returns-in_err-release-clause-answer g c).After-branch-release) c.in_err-release.was)

pub returns-in_err-release-clause-after : goal.returns-in_err-release-clause-after
returns-in_err-release-clause-after g c =
    absurd (ok_not_err c.release.result tt c.in_err-release.field-0.0 (released g (goal.at.returns-in_err-release-clause-after g c).After-branch-release) c.in_err-release.was)

pub cancel-requires : goal.cancel-requires
cancel-requires g c =
    let b = c.self.inside.book in
    let e = c.in_ok-entry.entry in
    let found = ap (λ v. first_with c.args.number.0 (waiting v.state)) c.self.view_is ∙ c.in_ok-entry.ensures.entry in
    ap (λ n. first_with n (b.sells ++ b.buys)) (first_number c.args.number.0 (b.sells ++ b.buys) e found) ∙ found

-- it goes, its cover is released, and it is noted
after : (g : given.Over) (c : After-cancel g) →
    state_of c.self.inside.phase c.cancel.new.self (g.D.AccountBook.accounts c.release.new.self)
    ≡ withdraw_after (state_of c.self.inside.phase c.self.inside.book (g.D.AccountBook.accounts c.self.inside.depository)) c.args.who c.args.number
after g c =
    let x = c.self.inside in
    let a = g.D.AccountBook.accounts in
    let s = state_of x.phase x.book (a x.depository) in
    let t = state_of x.phase c.cancel.new.self (a c.release.new.self) in
    let e = c.in_ok-entry.entry in
    let same = ap (λ v. v.state) c.self.view_is in
    let right = subst Books (sym same) c.in_ok-entry.ensures.right in
    let found = ap (λ (y : _). first_with c.args.number.0 (waiting y)) same ∙ c.in_ok-entry.ensures.entry in
    let answer = ap (λ (y : _). withdraw_answer y c.args.who c.args.number) same ∙ sym c.in_ok-entry.ensures.answer in
    let b = c.cancel.ensures in
    withdrawn s t c.args.who c.args.number e right found answer refl
    (ap (λ v. v.items) b.orders) b.sells b.buys (ap (λ v. v.items) b.deals) b.cancellations
    (c.release.ensures.after ∙ ap (release_after s.accounts e.order.participant) c.cover.ensures)

pub invariant_of-self-2 : goal.invariant_of-self-2
invariant_of-self-2 g c =
    let x = c.self.inside in
    let a = g.D.AccountBook.accounts in
    kept_after (Withdraw c.args.who c.args.number) false (state_of x.phase x.book (a x.depository)) (state_of x.phase c.cancel.new.self (a c.release.new.self))
    c.self.invariant (after g (goal.at.invariant_of-self-2 g c).After-cancel)

pub returns-clause-after : goal.returns-clause-after
returns-clause-after g c =
    after g (goal.at.returns-clause-after g c).After-cancel ∙ ap (λ v. withdraw_after v.state c.args.who c.args.number) c.self.view_is
