-- What a session means.
use Rattle.std.specs.Prelude.{Bool, true, false, List, [], ◌++◌}
use Rattle.units.specs.declared.side.Side.{Side}
use Rattle.units.specs.declared.side.Side.TheVariants.{Sell, Buy}
use Rattle.depository.specs.declared.account.Account.{Account}
use Rattle.market.specs.declared.order.Order.{Order}
use Rattle.market.specs.declared.order.Resting.{Resting}
use Rattle.market.specs.declared.deal.Deal.{Deal}
use Rattle.market.specs.declared.deal.Cancellation.{Cancellation}
use Rattle.market.specs.declared.phase.Phase.{Phase}
use Rattle.market.specs.declared.phase.Phase.TheVariants.{Gathering, Struck, Continuous, Closed}

-- the phase, with the cut-off where there is one; all orders accepted so far; what waits, in queue order; what was dealt and
-- what was annulled; and what everybody holds
pub record State : Type 0 where
  pub phase : Phase
  pub orders : List Order
  pub sells : List Resting
  pub buys : List Resting
  pub deals : List Deal
  pub cancellations : List Cancellation
  pub accounts : List Account

-- a session without orders
abbrev pub empty_in : Phase → List Account → State
empty_in phase accounts = record { phase = phase; orders = []; sells = []; buys = []; deals = []; cancellations = []; accounts = accounts }

-- the same state in another phase
abbrev pub in_phase : Phase → State → State
in_phase phase s = record { phase = phase; orders = s.orders; sells = s.sells; buys = s.buys; deals = s.deals; cancellations = s.cancellations; accounts = s.accounts }

-- the queue of a side, and all that waits
abbrev pub queue_of : Side → State → List Resting
queue_of Sell s = s.sells
queue_of Buy s = s.buys

abbrev pub waiting : State → List Resting
waiting s = s.sells ++ s.buys

-- in which phase a session is
abbrev pub is_gathering : Phase → Bool
is_gathering Gathering = true
is_gathering (Struck c) = false
is_gathering Continuous = false
is_gathering Closed = false

abbrev pub is_struck : Phase → Bool
is_struck Gathering = false
is_struck (Struck c) = true
is_struck Continuous = false
is_struck Closed = false

-- whether orders can be withdrawn and the session closed
abbrev pub is_trading : Phase → Bool
is_trading Gathering = true
is_trading (Struck c) = false
is_trading Continuous = true
is_trading Closed = false

abbrev pub is_closed : Phase → Bool
is_closed Gathering = false
is_closed (Struck c) = false
is_closed Continuous = false
is_closed Closed = true
