use Rattle.std.proofs.Common.{◌∙◌}
use Rattle.pricing.proofs.Writing.{summary_written}
use Rattle.pricing.proofs.waiting.Waiting.summary.Goals as goal

pub returns-clause-after : goal.returns-clause-after
returns-clause-after c = λ q.
    let walked = c.as_slice-walked.result.now in
    summary_written c.args.self.sells.now c.args.self.buys.now c.args.lines.now c.write_lines.new.lines walked (c.as_slice-walked.ensures ∙ c.walk.ensures q) c.if-walked-lines.false c.write_lines.ensures
