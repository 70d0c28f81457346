-- What the run of a tape comes to.
use Rattle.std.specs.Prelude.{◌≡◌, ℕ, ◌<◌, ◌≤◌, List, length, Ok, Err, Result}
use Rattle.market.specs.declared.deal.Deal.{Deal}
use Rattle.market.specs.declared.deal.Cancellation.{Cancellation}
use Rattle.market.specs.State.{State}
use Rattle.tape.specs.declared.answer.TapeAnswer.{TapeAnswer}
use Rattle.tape.specs.declared.host.HostFault.{HostFault}
use Rattle.tape.specs.declared.host.HostFault.TheVariants.{TapeTooLong}
use Rattle.tape.specs.declared.played.Played.{Played}
use Rattle.tape.specs.Stages.{Floor}
use Rattle.tape.specs.Plays.{Plays, start, left}

abbrev pub answers_in : Played → List TapeAnswer
answers_in p = p.answers.items

-- the session that is left
abbrev pub state_in : Played → State
state_in p = p.session.state

abbrev pub deals_in : Played → List Deal
deals_in p = (state_in p).deals

abbrev pub cancellations_in : Played → List Cancellation
cancellations_in p = (state_in p).cancellations

-- the most bytes of a tape
abbrev pub most_bytes : ℕ
most_bytes = 4096

-- a tape that is not too long plays from the start to some floor with just these answers, and this session is what that
-- floor leaves; one that is too long is not run
pub record RunOf (tape : List ℕ) (p : Played) : Type 0 where
  pub short : length tape ≤ most_bytes
  pub end : Floor
  pub plays : Plays (length tape) tape start (answers_in p) end
  pub leaves : state_in p ≡ (left end).session

abbrev pub ResultOf : List ℕ → Result Played HostFault → Type 0
ResultOf tape (Ok p) = RunOf tape p
ResultOf tape (Err fault) = (most_bytes < length tape) × (fault ≡ TapeTooLong)
