use Rattle.depository.proofs.Decisions.{decides}
use Rattle.depository.proofs.decision.fitting.Goals as goal

pub returns : goal.returns
returns g c =
    let b = c.args.book.now in
    let d = decides (g.B.AccountBook.accounts b) (g.met.B.AccountBook.within b) (g.met.B.AccountBook.everyone b) c.args.who c.args.change c.args.account c.after.result c.requires.there c.requires.room c.after.ensures in
    record { answer = d.answer; known = d.known; bounded = d.bounded }
