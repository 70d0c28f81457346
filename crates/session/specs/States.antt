-- What a session means, by its phase, its book and what everybody holds, whatever its depository.
use Rattle.std.specs.Prelude.{List}
use Rattle.units.specs.declared.side.Side.{Side}
use Rattle.units.specs.declared.side.Side.TheVariants.{Sell, Buy}
use Rattle.depository.specs.declared.account.Account.{Account}
use Rattle.market.specs.declared.phase.Phase.{Phase}
use Rattle.market.specs.declared.order.Resting.{Resting}
use Rattle.market.specs.State.{State}
use Rattle.session.specs.declared.book.Book.{Book}

abbrev pub state_of : Phase → Book → List Account → State
state_of phase b accounts = record {
  phase = phase;
  orders = b.orders.items;
  sells = b.sells;
  buys = b.buys;
  deals = b.deals.items;
  cancellations = b.cancellations.items;
  accounts = accounts;
}

-- the queue of a side
abbrev pub queue_in : Side → Book → List Resting
queue_in Sell b = b.sells
queue_in Buy b = b.buys
