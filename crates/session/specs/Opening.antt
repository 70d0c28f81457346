-- What open hands out: a session in either case, and with it the refusal where there is one. And what a closed session
-- hands back.
use Rattle.std.specs.Prelude.{cond, Ok, Err, Result}
use Rattle.market.specs.declared.fault.SessionFault.{SessionFault}
use Rattle.market.specs.declared.fault.SessionFault.TheVariants.{WrongPhase}
use Rattle.market.specs.State.{is_closed}
use Rattle.session.specs.Seen.{Seen}

abbrev pub session_in : {D : Type 0} → Result (Seen D) (SessionFault × Seen D) → Seen D
session_in (Ok s) = s
session_in (Err refused) = refused.1

abbrev pub refusal_in : {D : Type 0} → Result (Seen D) (SessionFault × Seen D) → Result (Unit {0}) SessionFault
refusal_in (Ok s) = Ok tt
refusal_in (Err refused) = Err refused.0

-- a closed session hands its depository back, any other comes back itself
abbrev pub hand_back_answer : {D : Type 0} → Seen D → Result D (SessionFault × Seen D)
hand_back_answer s = cond (is_closed s.state.phase) (Ok s.depository) (Err (WrongPhase, s))
