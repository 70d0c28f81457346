-- What the two queues of a session are like: each of one side, in order, with limits in range, and neither too long nor
-- with more lots than 512 orders can have.
use Rattle.std.specs.Prelude.{◌≡◌, ◌*◌, ◌≤◌, true, List, length}
use Rattle.std.specs.List.{AllByRecursion}
use Rattle.ordered_list.specs.Order.{in_order}
use Rattle.units.specs.Ranges.{is_price}
use Rattle.units.specs.declared.side.Side.{Side}
use Rattle.units.specs.declared.side.Side.TheVariants.{Sell, Buy}
use Rattle.market.specs.declared.order.Resting.{Resting}
use Rattle.market.specs.Orders.{lots_in, queue_after}

pub record Queue (side : Side) (q : List Resting) : Type 0 where
  pub sided : AllByRecursion (λ e. e.order.side ≡ side) q
  pub sorted : in_order queue_after q ≡ true
  pub priced : AllByRecursion (λ e. is_price e.order.limit ≡ true) q
  pub short : length q ≤ 512
  pub bounded : lots_in q ≤ 512 * 1000000

pub record Queues (sells buys : List Resting) : Type 0 where
  pub of_sells : Queue Sell sells
  pub of_buys : Queue Buy buys
