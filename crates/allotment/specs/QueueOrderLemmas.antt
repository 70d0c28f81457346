use Rattle.ordered_list.proofs.Keys.{down_up-lawful}
use Rattle.ordered_list.proofs.Laws.{Lawful}
use Rattle.allotment.specs.declared.bid.Bid.{Bid}
use Rattle.allotment.specs.Bids.{queue_order}

pub lawful : Lawful queue_order
lawful = down_up-lawful (λ (b : Bid). b.limit.0) (λ (b : Bid). b.number)
