use Rattle.std.proofs.Common.{◌+◌, ◌≤◌, length}
use Rattle.tape.specs.Stages.{floor_of}
use Rattle.tape.specs.Plays.{start}
use Rattle.tape.proofs.Turns.{Front}
use Rattle.tape.proofs.playing.play_through.Given as goal

-- there is room for an answer for each byte that is left, and the answers so far are the front of the whole tape's
abbrev pub invariant-loop-rest : goal.invariant-loop-rest
invariant-loop-rest l = record {
  room : length l.answers.items + length l.rest ≤ length l.tape;
  so_far : Front (length l.tape) l.tape start l.answers.items l.rest (floor_of l.stage);
}

abbrev pub decreases-loop-rest : goal.decreases-loop-rest
decreases-loop-rest l = length l.rest
