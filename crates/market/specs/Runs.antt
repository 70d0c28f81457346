-- Runs: any calls, one after the other, each answered by the rules.
use Rattle.std.specs.Prelude.{◌≡◌, Bool, true, false, cond, List, [], ◌∷◌, is_some, Some, None, Err, Option, Result}
use Rattle.units.specs.Answers.{if_ok, answered}
use Rattle.units.specs.declared.quantity.Price.{Price}
use Rattle.market.specs.declared.call.Call.{Call}
use Rattle.market.specs.declared.call.Call.TheVariants.{Submit, Withdraw, Strike, Annul, Close}
use Rattle.market.specs.declared.call.Outcome.{Outcome}
use Rattle.market.specs.declared.call.Outcome.TheVariants.{Accepted, Withdrawn, CutOff, Abandoned, Annulled}
use Rattle.market.specs.declared.fault.SessionFault.{SessionFault}
use Rattle.market.specs.declared.fault.SessionFault.TheVariants.{WrongPhase}
use Rattle.market.specs.CutOff.{cut_off_found}
use Rattle.market.specs.State.{State}
use Rattle.market.specs.Calls.{submit_answer, submit_after, withdraw_answer, withdraw_after, strike_answer, strike_after, annul_answer, annul_after, close_answer, close_after}

-- a session, and whether its operator holds a strike slip
pub record Desk : Type 0 where
  pub session : State
  pub slip : Bool

-- what a strike comes to
abbrev pub strike_outcome : Option Price → Outcome
strike_outcome (Some c) = CutOff c
strike_outcome None = Abandoned

abbrev pub Reply : Type 0
Reply = Result Outcome SessionFault

-- the answer to a call: annul needs the slip, and while a slip is held no other is struck
abbrev pub answer_to : Call → Desk → Reply
answer_to (Submit o) d = answered (λ n. Accepted n o.lots) (submit_answer d.session o.participant o.side o.limit o.lots)
answer_to (Withdraw who n) d = answered (λ lots. Withdrawn n lots) (withdraw_answer d.session who n)
answer_to Strike d = cond d.slip (Err WrongPhase) (answered strike_outcome (strike_answer d.session))
answer_to Annul d = cond d.slip (answered Annulled (annul_answer d.session)) (Err WrongPhase)
answer_to Close d = answered Annulled (close_answer d.session)

-- the session after the call
abbrev pub session_after : Call → Desk → State
session_after (Submit o) d = submit_after d.session o.participant o.side o.limit o.lots
session_after (Withdraw who n) d = withdraw_after d.session who n
session_after Strike d = cond d.slip d.session (strike_after d.session)
session_after Annul d = cond d.slip (annul_after d.session) d.session
session_after Close d = close_after d.session

-- whether the slip is held after the call: an accepted strike that is not abandoned gives one, an accepted annul takes it
abbrev pub slip_after : Call → Desk → Bool
slip_after (Submit o) d = d.slip
slip_after (Withdraw who n) d = d.slip
slip_after Strike d = cond d.slip true (if_ok (strike_answer d.session) (is_some (cut_off_found d.session.sells d.session.buys)) false)
slip_after Annul d = cond d.slip (if_ok (annul_answer d.session) false true) false
slip_after Close d = d.slip

abbrev pub desk_after : Call → Desk → Desk
desk_after call d = record { session = session_after call d; slip = slip_after call d }

-- from one desk to another by these calls, each with its answer
abbrev pub Run : Desk → List (Call × Reply) → Desk → Type 0
Run start [] end = start ≡ end
Run start (made ∷ rest) end = (made.1 ≡ answer_to made.0 start) × Run (desk_after made.0 start) rest end
