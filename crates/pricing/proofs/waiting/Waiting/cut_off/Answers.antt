use Rattle.std.proofs.Common.{sym, ◌∙◌}
use Rattle.pricing.proofs.Cuts.{cut_off_found_lem}
use Rattle.pricing.proofs.waiting.Waiting.cut_off.Goals as goal

pub returns : goal.returns
returns c = λ q.
    let best = c.candidates-best.result in
    cut_off_found_lem c.args.self.sells.now c.args.self.buys.now c.as_slice.result.now best.low best.high c.settled_between.result q
    (sym (c.if-not-crosses.ensures q)) (c.as_slice.ensures ∙ c.walk.ensures q) c.candidates-best.ensures.low c.candidates-best.ensures.high (c.settled_between.ensures q)
