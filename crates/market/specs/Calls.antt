-- What each call of a session answers, and what it makes of the session. A refused call leaves the session as it was.
use Rattle.std.specs.Prelude.{ℕ, ◌+◌, Bool, cond, not, ◌&&◌, List, [], ◌∷◌, ◌++◌, map, length, Some, None, Ok, filter, Option, Result, ◌==◌, nat_eq, nat_lt}
use Rattle.std.specs.List.{list_any, fold}
use Rattle.ordered_list.specs.Order.{placed}
use Rattle.units.specs.Answers.{check, if_ok, given, raised}
use Rattle.units.specs.Ranges.{is_participant, is_price, is_order_size}
use Rattle.units.specs.Sides.{counter}
use Rattle.units.specs.declared.participant.Participant.{Participant}
use Rattle.units.specs.declared.quantity.Price.{Price}
use Rattle.units.specs.declared.quantity.Lots.{Lots}
use Rattle.units.specs.declared.side.Side.{Side}
use Rattle.units.specs.declared.side.Side.TheVariants.{Sell, Buy}
use Rattle.depository.specs.Accounts.{in_all}
use Rattle.depository.specs.Calls.{block_answer, block_after, release_after}
use Rattle.depository.specs.declared.account.Account.{Account}
use Rattle.market.specs.declared.order.Order.{Order}
use Rattle.market.specs.declared.order.OrderNumber.{OrderNumber}
use Rattle.market.specs.declared.order.Resting.{Resting}
use Rattle.market.specs.declared.deal.Cancellation.{Cancellation}
use Rattle.market.specs.declared.phase.Phase.TheVariants.{Gathering, Struck, Closed}
use Rattle.market.specs.declared.fault.SessionFault.{SessionFault}
use Rattle.market.specs.declared.fault.SessionFault.TheVariants.{NoParticipant, PriceOutOfRange, LotsOutOfRange, SessionFull, OwnOrderInTheWay, NotOwnOrder, NothingWaits, WrongPhase, SomethingBlocked, Depository}
use Rattle.market.specs.Orders.{number_of, owner_of, limit_of, lots_in, waiting_lots, queue_after, meets, cover_for, cover_of}
use Rattle.market.specs.CutOff.{cut_off_found}
use Rattle.market.specs.State.{State, empty_in, in_phase, queue_of, waiting, is_gathering, is_struck, is_trading}

-- OPEN over a depository: Gathering with no orders, or Closed where anything is blocked

-- whether nothing is blocked
abbrev pub nothing_blocked : List Account → Bool
nothing_blocked accounts = in_all (λ a. a.blocked_lots.0) accounts + in_all (λ a. a.blocked_money.0) accounts == 0

abbrev pub open_answer : List Account → Result (Unit {0}) SessionFault
open_answer accounts = check (nothing_blocked accounts) SomethingBlocked (Ok tt)

abbrev pub opened : List Account → State
opened accounts = empty_in (cond (nothing_blocked accounts) Gathering Closed) accounts

-- SUBMIT: the cover is blocked, the order gets the next number and its record, and is queued

-- how many orders a session accepts
abbrev pub most_orders : ℕ
most_orders = 512

-- the record of the next order
abbrev pub next_order : State → Participant → Side → Price → Lots → Order
next_order s who side limit lots = record { number = record { 0 = length s.orders + 1 }; participant = who; side = side; limit = limit; accepted = lots }

-- whether an own waiting order on the other side meets the limit
abbrev pub own_in_the_way : State → Participant → Side → Price → Bool
own_in_the_way s who side limit = list_any (λ e. (owner_of e == who.0) && meets side limit.0 (limit_of e)) (queue_of (counter side) s)

abbrev pub submit_answer : State → Participant → Side → Price → Lots → Result OrderNumber SessionFault
submit_answer s who side limit lots =
    check (is_gathering s.phase) WrongPhase
    (check (is_participant who) NoParticipant
    (check (is_price limit) PriceOutOfRange
    (check (is_order_size lots) LotsOutOfRange
    (check (nat_lt (length s.orders) most_orders) SessionFull
    (check (not (own_in_the_way s who side limit)) OwnOrderInTheWay
    (given (raised Depository (block_answer s.accounts who (cover_for side limit lots))) (next_order s who side limit lots).number))))))

-- a waiting order goes into the queue of its side
abbrev pub joined_by : Side → Side → Resting → List Resting → List Resting
joined_by Sell Sell e q = placed queue_after e q
joined_by Sell Buy e q = q
joined_by Buy Sell e q = q
joined_by Buy Buy e q = placed queue_after e q

-- an order is entered: recorded, covered, and all of it waits
abbrev pub entered : State → Order → State
entered s order = record {
  phase = s.phase;
  orders = s.orders ++ (order ∷ []);
  sells = joined_by Sell order.side (record { order = order; lots = order.accepted }) s.sells;
  buys = joined_by Buy order.side (record { order = order; lots = order.accepted }) s.buys;
  deals = s.deals;
  cancellations = s.cancellations;
  accounts = block_after s.accounts order.participant (cover_for order.side order.limit order.accepted);
}

abbrev pub submit_after : State → Participant → Side → Price → Lots → State
submit_after s who side limit lots = if_ok (submit_answer s who side limit lots) (entered s (next_order s who side limit lots)) s

-- ANNULLING: the entry leaves its queue, its cover is released, a cancellation is noted

-- the entry of order n, if it has one
abbrev pub entries_of : ℕ → List Resting → List Resting
entries_of n q = filter (λ e. nat_eq (number_of e) n) q

-- a queue without the entry of order n
abbrev pub without : ℕ → List Resting → List Resting
without n q = filter (λ e. not (number_of e == n)) q

abbrev pub cancellation_of : Resting → Cancellation
cancellation_of e = record { order = e.order.number; lots = e.lots }

-- the cover of these is released
abbrev pub released : List Account → List Resting → List Account
released = fold (λ accounts e. release_after accounts e.order.participant (cover_of e))

-- what waits of order n is annulled
abbrev pub annulled : ℕ → State → State
annulled n s = record {
  phase = s.phase;
  orders = s.orders;
  sells = without n s.sells;
  buys = without n s.buys;
  deals = s.deals;
  cancellations = s.cancellations ++ map cancellation_of (entries_of n (waiting s));
  accounts = released s.accounts (entries_of n (waiting s));
}

-- what waits of these orders is annulled, one after the other
abbrev pub annulled_each : List Order → State → State
annulled_each os s = fold (λ t o. annulled o.number.0 t) s os

-- all that waits is annulled, by rising number
abbrev pub all_annulled : State → State
all_annulled s = annulled_each s.orders s

-- WITHDRAW: what waits of an own order is annulled

-- whether an order of this participant has the number
abbrev pub is_own : State → Participant → OrderNumber → Bool
is_own s who n = list_any (λ o. (o.number.0 == n.0) && o.participant.0 == who.0) s.orders

abbrev pub withdraw_answer : State → Participant → OrderNumber → Result Lots SessionFault
withdraw_answer s who n =
    check (is_trading s.phase) WrongPhase
    (check (is_participant who) NoParticipant
    (check (is_own s who n) NotOwnOrder
    (check (nat_lt 0 (waiting_lots n.0 (waiting s))) NothingWaits
    (Ok (record { 0 = waiting_lots n.0 (waiting s) })))))

abbrev pub withdraw_after : State → Participant → OrderNumber → State
withdraw_after s who n = if_ok (withdraw_answer s who n) (annulled n.0 s) s

-- STRIKE: the cut-off, or nothing where the iteration is abandoned

abbrev pub strike_answer : State → Result (Option Price) SessionFault
strike_answer s = check (is_gathering s.phase) WrongPhase (Ok (cut_off_found s.sells s.buys))

-- an abandoned iteration annuls all that waits, and Gathering goes on
abbrev pub struck_by : Option Price → State → State
struck_by (Some c) s = in_phase (Struck c) s
struck_by None s = all_annulled s

abbrev pub strike_after : State → State
strike_after s = if_ok (strike_answer s) (struck_by (cut_off_found s.sells s.buys) s) s

-- ANNUL and CLOSE: all that waits is annulled, and the answer is how many lots these were

abbrev pub annul_answer : State → Result Lots SessionFault
annul_answer s = check (is_struck s.phase) WrongPhase (Ok (record { 0 = lots_in (waiting s) }))

abbrev pub annul_after : State → State
annul_after s = if_ok (annul_answer s) (in_phase Gathering (all_annulled s)) s

abbrev pub close_answer : State → Result Lots SessionFault
close_answer s = check (is_trading s.phase) WrongPhase (Ok (record { 0 = lots_in (waiting s) }))

abbrev pub close_after : State → State
close_after s = if_ok (close_answer s) (in_phase Closed (all_annulled s)) s
