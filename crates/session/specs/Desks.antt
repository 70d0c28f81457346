-- A session with the slip that is held beside it, and the calls that were made of it.
use Rattle.std.specs.Prelude.{List, [], ◌∷◌, is_some, Option}
use Rattle.market.specs.declared.call.Call.{Call}
use Rattle.market.specs.Runs.{Desk, Reply}
use Rattle.session.specs.Seen.{Seen}
use Rattle.session.specs.declared.slip.StrikeSlip.{StrikeSlip}

abbrev pub desk_of : {D : Type 0} → Seen D → Option StrikeSlip → Desk
desk_of s slip = record { session = s.state; slip = is_some slip }

-- each call with its answer, as far as both go
abbrev pub calls_made : List Call → List Reply → List (Call × Reply)
calls_made [] answers = []
calls_made (c ∷ calls) [] = []
calls_made (c ∷ calls) (a ∷ answers) = (c, a) ∷ calls_made calls answers
