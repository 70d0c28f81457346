use Rattle.depository.proofs.Deliveries.{gained}
use Rattle.depository.proofs.delivery.hand_over.Goals as goal

pub must-requires-2 : goal.must-requires-2
must-requires-2 g c =
    let s = c.args.store.now in
    gained (g.S.AccountBook.accounts s) _ (g.met.S.AccountBook.within s) (g.met.S.AccountBook.everyone s) c.args.giver c.args.taker c.args.what c.requires.giver_known c.requires.taker_known c.requires.there c.must.ensures
