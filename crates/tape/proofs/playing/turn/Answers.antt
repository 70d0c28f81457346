use Rattle.std.proofs.Common.{sym}
use Rattle.command.proofs.Rests.{shorter as rest-shorter}
use Rattle.tape.proofs.playing.turn.Goals as goal

pub returns-in-Ok-clause-shorter : goal.returns-in-Ok-clause-shorter
returns-in-Ok-clause-shorter c _ = rest-shorter c.args.tape.now c.in-Ok.command c.in-Ok.rest.now (sym c.in-Ok.ensures)
