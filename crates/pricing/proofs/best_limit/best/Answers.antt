use Rattle.pricing.proofs.Bests.{best_found}
use Rattle.pricing.proofs.best_limit.best.Goals as goal

pub returns : goal.returns
returns c = λ side h. best_found side c.args.queue.now c.in_ok-limit.field-0.now c.first_lots.result c.in_ok-limit.ensures.value h c.first_lots.ensures
