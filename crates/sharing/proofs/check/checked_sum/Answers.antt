use Rattle.std.proofs.Common.{sym, arith}
use Rattle.std.proofs.lemmas.List.{length-map}
use Rattle.sharing.specs.Shares.{lots_of}
use Rattle.sharing.proofs.Faults.{sum-small}
use Rattle.sharing.proofs.check.checked_sum.Goals as goal

pub sum_of_lots-sum-requires : goal.sum_of_lots-sum-requires
sum_of_lots-sum-requires c =
    let l = length-map c.args.lines.now (λ line. line.lots.0) in
    omega (arith, sum-small (lots_of c.args.lines.now) (omega arith) (sym c.if-some_too_large.ensures))
