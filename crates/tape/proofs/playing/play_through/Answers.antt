use Rattle.std.proofs.Common.{◌-◌, ◌<◌, length, sym, ap, ◌∙◌, arith}
use Rattle.std.proofs.lemmas.Bool.{eqb-true, eqb-false}
use Rattle.tape.specs.Answers.{line_of}
use Rattle.tape.specs.Stages.{floor_of}
use Rattle.tape.specs.Plays.{start}
use Rattle.tape.proofs.Turns.{front_more, front_whole}
use Rattle.tape.proofs.playing.play_through.Goals as goal

pub loop-rest-preserved : goal.loop-rest-preserved
loop-rest-preserved c =
    let tape = c.args.tape.now in
    let rest = c.loop-rest.rest.now in
    let some : 0 < length rest = omega (arith, eqb-false (length rest) 0 (sym c.loop-rest-test.ensures)) in
    let shorter = c.turn-outcome.ensures.shorter some in
    let line = ap (λ at. line_of at c.turn-outcome.result.0) c.offset_of-offset.ensures ∙ ap (line_of (length tape - length rest)) c.turn-outcome.ensures.answer in
    record {
      room = omega (arith, c.push.ensures.len, c.loop-rest.invariant.room, shorter);
      so_far = front_more (length tape) tape rest c.turn-outcome.result.1.now start (floor_of c.loop-rest.stage) (floor_of c.turn-outcome.new.stage) c.loop-rest.answers.items c.push.new.self.items _
          some line c.turn-outcome.ensures.rest c.turn-outcome.ensures.floor c.push.ensures.items c.loop-rest.invariant.so_far;
    }

pub returns : goal.returns
returns c =
    let tape = c.args.tape.now in
    let rest = c.loop-rest.rest.now in
    front_whole (length tape) tape rest start (floor_of c.loop-rest.stage) c.loop-rest.answers.items (eqb-true (length rest) 0 (sym c.loop-rest-test.ensures)) c.loop-rest.invariant.so_far
