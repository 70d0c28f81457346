use Rattle.std.proofs.Common.{ap, ◌∙◌}
use Rattle.tape.specs.Stages.{floor_of, task_answer, task_after}
use Rattle.tape.proofs.Floors.{command_answered, command_done}
use Rattle.tape.proofs.stage.Stage.perform.Goals as goal

pub returns-in-Ok-clause-answer : goal.returns-in-Ok-clause-answer
returns-in-Ok-clause-answer c =
    c.carry_out.ensures.answer ∙ ap (λ t. task_answer t (floor_of c.args.self.now)) c.into.ensures ∙ command_answered c.args.command c.in-Ok.command (floor_of c.args.self.now) c.in-Ok.ensures

pub returns-in-Ok-clause-after : goal.returns-in-Ok-clause-after
returns-in-Ok-clause-after c =
    c.carry_out.ensures.after ∙ ap (λ t. task_after t (floor_of c.args.self.now)) c.into.ensures ∙ (command_done c.args.command c.in-Ok.command (floor_of c.args.self.now) c.in-Ok.ensures).1
