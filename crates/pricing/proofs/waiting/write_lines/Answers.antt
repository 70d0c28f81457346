use Rattle.std.proofs.Common.{set, ap, ◌∙◌, arith}
use Rattle.pricing.specs.Lines.{summary_of}
use Rattle.pricing.proofs.Blank.{no_line}
use Rattle.pricing.proofs.Writing.{written_more}
use Rattle.pricing.proofs.waiting.write_lines.Goals as goal

pub loop-i-preserved : goal.loop-i-preserved
loop-i-preserved c =
    let i = c.loop-i.i in
    ap (set c.loop-i.lines i) c.from.ensures ∙
    written_more summary_of c.args.walked.now c.args.lines.now c.loop-i.lines i no_line c.loop-i-test.true (omega (arith, c.requires, c.loop-i-test.true)) c.loop-i.invariant
