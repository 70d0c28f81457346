-- What holds after every call of every run.
use Rattle.std.specs.Prelude.{◌≡◌, ℕ, suc, ◌+◌, ◌*◌, ◌<◌, ◌≤◌, true, false, ◌≢◌, List, [], ◌∷◌, length, ◌==◌, nat_eq}
use Rattle.std.specs.List.{Contains, AllByRecursion, find}
use Rattle.std.specs.Option.{option_map, unwrap_or}
use Rattle.ordered_list.specs.Order.{in_order}
use Rattle.units.specs.Ranges.{is_participant, is_price, is_order_size}
use Rattle.units.specs.declared.participant.Participant.{Participant}
use Rattle.units.specs.declared.quantity.Price.{Price}
use Rattle.units.specs.declared.side.Side.TheVariants.{Sell, Buy}
use Rattle.depository.specs.Accounts.{of, lots_held, money_held}
use Rattle.market.specs.declared.order.Order.{Order}
use Rattle.market.specs.declared.order.Resting.{Resting}
use Rattle.market.specs.declared.deal.Deal.{Deal}
use Rattle.market.specs.declared.deal.Cancellation.{Cancellation}
use Rattle.market.specs.declared.phase.Phase.{Phase}
use Rattle.market.specs.declared.phase.Phase.TheVariants.{Gathering, Struck, Continuous, Closed}
use Rattle.market.specs.declared.call.Call.{Call}
use Rattle.market.specs.Orders.{total_if, number_of, owner_of, lots_of, waiting_lots, queue_after, cover_of, in_lots, in_money}
use Rattle.market.specs.Prices.{volume}
use Rattle.market.specs.State.{State, empty_in, waiting}
use Rattle.market.specs.Calls.{nothing_blocked, most_orders}
use Rattle.market.specs.Runs.{Desk, Reply, session_after, Run}

-- BALANCE

-- the lots of order n in the deal list, where it is the sell and where it is the buy, and in the cancellation list
abbrev pub dealt_lots : ℕ → List Deal → ℕ
dealt_lots n deals = total_if (λ d. nat_eq d.sell.0 n) (λ d. d.lots.0) deals + total_if (λ d. nat_eq d.buy.0 n) (λ d. d.lots.0) deals

abbrev pub cancelled_lots : ℕ → List Cancellation → ℕ
cancelled_lots n lines = total_if (λ c. nat_eq c.order.0 n) (λ c. c.lots.0) lines

-- every order: accepted lots = lots dealt + lots cancelled + waiting lots
abbrev pub BalancedOrder : State → Order → Type 0
BalancedOrder s o = o.accepted.0 ≡ dealt_lots o.number.0 s.deals + (cancelled_lots o.number.0 s.cancellations + waiting_lots o.number.0 (waiting s))

abbrev pub Balanced : State → Type 0
Balanced s = AllByRecursion (BalancedOrder s) s.orders

-- COVER

-- what the waiting orders of participant p need: lots for sells, money for buys
abbrev pub lots_needed : ℕ → List Resting → ℕ
lots_needed p q = total_if (λ e. nat_eq (owner_of e) p) (λ e. in_lots (cover_of e)) q

abbrev pub money_needed : ℕ → List Resting → ℕ
money_needed p q = total_if (λ e. nat_eq (owner_of e) p) (λ e. in_money (cover_of e)) q

-- everybody: what is blocked is what the waiting orders need
abbrev pub CoveredFor : State → Participant → Type 0
CoveredFor s p =
    ((of s.accounts p).blocked_lots.0 ≡ lots_needed p.0 (waiting s))
    × ((of s.accounts p).blocked_money.0 ≡ money_needed p.0 (waiting s))

abbrev pub Covered : State → Type 0
Covered s = (p : Participant) → is_participant p ≡ true → CoveredFor s p

-- HOLDINGS

-- whose order n is: 0, which is nobody's number, where there is no such order
abbrev pub owner_in : List Order → ℕ → ℕ
owner_in os n = unwrap_or (option_map (λ o. o.participant.0) (find (λ o. o.number.0 == n) os)) 0

-- by its deals, what participant p sold and bought, and what it took in and paid for that
abbrev pub sold_by : ℕ → State → ℕ
sold_by p s = total_if (λ d. nat_eq (owner_in s.orders d.sell.0) p) (λ d. d.lots.0) s.deals

abbrev pub bought_by : ℕ → State → ℕ
bought_by p s = total_if (λ d. nat_eq (owner_in s.orders d.buy.0) p) (λ d. d.lots.0) s.deals

abbrev pub taken_in_by : ℕ → State → ℕ
taken_in_by p s = total_if (λ d. nat_eq (owner_in s.orders d.sell.0) p) (λ d. d.price.0 * d.lots.0) s.deals

abbrev pub paid_by : ℕ → State → ℕ
paid_by p s = total_if (λ d. nat_eq (owner_in s.orders d.buy.0) p) (λ d. d.price.0 * d.lots.0) s.deals

-- everybody: what is held, free and blocked, differs from what was held at opening by the deals alone
abbrev pub HoldsByDeals : State → State → Participant → Type 0
HoldsByDeals opening s p =
    (lots_held (of s.accounts p) + sold_by p.0 s ≡ lots_held (of opening.accounts p) + bought_by p.0 s)
    × (money_held (of s.accounts p) + paid_by p.0 s ≡ money_held (of opening.accounts p) + taken_in_by p.0 s)

-- THE LAW OF WHOLE RUNS

pub record Sound (opening s : State) : Type 0 where
  pub balanced : Balanced s
  pub covered : Covered s
  pub by_deals : (p : Participant) → is_participant p ≡ true → HoldsByDeals opening s p

-- a session as open gives it over a depository in which nothing is blocked
pub record NewlyOpened (s : State) : Type 0 where
  pub empty : s ≡ empty_in Gathering s.accounts
  pub unblocked : nothing_blocked s.accounts ≡ true
  pub everyone : length s.accounts ≡ 64

-- from a newly opened session on, with no slip held, after any calls, repeated, rearranged and refused ones included. Every
-- beginning of a run is a run, so this holds after each call
abbrev pub Law : Type 0
Law = (opening : State) (made : List (Call × Reply)) (end : Desk) → NewlyOpened opening → Run (record { session = opening; slip = false }) made end → Sound opening end.session

-- WHAT IS KEPT: the facts that calls rely on and leave again. Every session has them from open on

-- orders have the numbers from n on
abbrev pub NumberedFrom : ℕ → List Order → Type 0
NumberedFrom n [] = Unit {0}
NumberedFrom n (o ∷ os) = (o.number.0 ≡ n) × NumberedFrom (suc n) os

-- what submit checked of an order
abbrev pub InRange : Order → Type 0
InRange o = (is_participant o.participant ≡ true) × ((is_price o.limit ≡ true) × (is_order_size o.accepted ≡ true))

-- No two entries are of one order. Not the library's IsDistinct of a test on them: that the numbers differ is what follows of each
abbrev pub Distinct : List Resting → Type 0
Distinct [] = Unit {0}
Distinct (e ∷ es) = AllByRecursion (λ x. number_of x ≢ number_of e) es × Distinct es

-- the books are right, whatever the phase
pub record Books (s : State) : Type 0 where
  pub everyone : length s.accounts ≡ 64
  pub few : length s.orders ≤ most_orders
  pub numbered : NumberedFrom 1 s.orders
  pub in_range : AllByRecursion InRange s.orders
  pub recorded : AllByRecursion (λ e. Contains s.orders e.order) (waiting s)
  pub lots_wait : AllByRecursion (λ e. (0 < lots_of e) × (lots_of e ≤ e.order.accepted.0)) (waiting s)
  pub distinct : Distinct (waiting s)
  pub selling : AllByRecursion (λ e. e.order.side ≡ Sell) s.sells
  pub buying : AllByRecursion (λ e. e.order.side ≡ Buy) s.buys
  pub sells_in_order : in_order queue_after s.sells ≡ true
  pub buys_in_order : in_order queue_after s.buys ≡ true
  pub deals_known : AllByRecursion (λ d. (d.sell.0 ≤ length s.orders) × (d.buy.0 ≤ length s.orders)) s.deals
  pub cancellations_known : AllByRecursion (λ c. c.order.0 ≤ length s.orders) s.cancellations
  pub balanced : Balanced s
  pub covered : Covered s

-- the cut-off c is a price, and at no price can more deal
abbrev pub AtBest : Price → List Resting → List Resting → Type 0
AtBest c sells buys = (is_price c ≡ true) × ((p : ℕ) → volume sells buys p ≤ volume sells buys c.0)

-- what a call relies on and leaves again, by the phase. A Closed session refuses every call that would touch it: nothing
-- waits in it, and that is all that is said of it, since open gives one, too, over a depository in which something is blocked
abbrev pub KeptIn : Phase → State → Type 0
KeptIn Gathering s = Books s
KeptIn (Struck c) s = Books s × AtBest c s.sells s.buys
KeptIn Continuous s = Books s
KeptIn Closed s = (s.sells ≡ []) × (s.buys ≡ [])

abbrev pub Kept : State → Type 0
Kept s = KeptIn s.phase s

-- every call leaves what it relies on
abbrev pub CallsKeep : Type 0
CallsKeep = (call : Call) (d : Desk) → Kept d.session → Kept (session_after call d)

-- a state that was led to from a desk is sound, whatever newly opened session the desk was reached from
abbrev pub SoundFrom : Desk → State → Type 0
SoundFrom desk s = (opening : State) (made : List (Call × Reply)) → NewlyOpened opening → Run (record { session = opening; slip = false }) made desk → Sound opening s
