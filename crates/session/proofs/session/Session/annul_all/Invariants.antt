use Rattle.session.proofs.Clearing.{Cleared}
use Rattle.session.proofs.session.Session.annul_all.Given as goal

abbrev pub invariant-loop-slot : goal.invariant-loop-slot
invariant-loop-slot g l =
    let x = l.self-inside in
    Cleared l.fn.self.state x.phase x.book (g.D.AccountBook.accounts x.depository) l.slot-items l.slot-index
