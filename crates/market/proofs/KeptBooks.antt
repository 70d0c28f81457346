-- The books are right in a session that opens, and they stay right as an order is entered and as orders are annulled.
use Rattle.std.proofs.Common.{◌≡◌, ℕ, ◌<◌, ◌≤◌, map, Contains, true, cond, not, eqb, ltb, List, [], ◌∷◌, length, Ok, Err, sym, refl, ap, subst, arith}
use Rattle.std.specs.List.{AllByRecursion}
use Rattle.std.proofs.ByRecursion.{all_kept_by, All-append, All-map, All-weaker}
use Rattle.std.proofs.lemmas.List.Elements.{All-contains, All-from_recursion}
use Rattle.std.proofs.lemmas.Bool.{ltb-true, cond_both}
use Rattle.units.specs.Answers.{given, raised}
use Rattle.units.specs.Ranges.{is_participant, is_price, is_order_size}
use Rattle.units.specs.declared.participant.Participant.{Participant}
use Rattle.units.specs.declared.quantity.Price.{Price}
use Rattle.units.specs.declared.quantity.Lots.{Lots}
use Rattle.units.specs.declared.side.Side.{Side}
use Rattle.units.proofs.Checks.{checked_ok}
use Rattle.depository.specs.Calls.{Done, block_answer, release_answer}
use Rattle.depository.specs.declared.account.Account.{Account}
use Rattle.market.specs.declared.order.Order.{Order}
use Rattle.market.specs.declared.order.OrderNumber.{OrderNumber}
use Rattle.market.specs.declared.order.Resting.{Resting}
use Rattle.market.specs.declared.deal.Cancellation.{Cancellation}
use Rattle.market.specs.declared.fault.SessionFault.TheVariants.{NoParticipant, PriceOutOfRange, LotsOutOfRange, SessionFull, OwnOrderInTheWay, WrongPhase, Depository}
use Rattle.market.specs.declared.phase.Phase.{Phase}
use Rattle.market.specs.declared.phase.Phase.TheVariants.{Gathering, Closed}
use Rattle.market.specs.Orders.{number_of, lots_of, queue_after, cover_for, cover_of}
use Rattle.market.specs.State.{State, empty_in, in_phase, waiting, is_gathering}
use Rattle.market.specs.Calls.{nothing_blocked, opened, cancellation_of, most_orders, next_order, own_in_the_way, submit_answer, entered, entries_of, annulled, annulled_each}
use Rattle.market.specs.Law.{InRange, Distinct, BalancedOrder, Books, Kept, NewlyOpened}
use Rattle.market.proofs.OrderNumbers.{waiting-known}
use Rattle.market.proofs.QueueEntries.{order_kept_by, distinct_kept_by}
use Rattle.market.proofs.Entering.{entered-books}
use Rattle.market.proofs.Annulling.{stays, waiting-annulled, all_left, balanced_order}
use Rattle.market.proofs.Accounting.{everyone-released, covered-opened, covered-annulled, release_accepted}

-- WHAT WAITS is of orders that submit checked

-- a fact of each order on record is one of each waiting order
of-waiting : (P : Order → Type 0) (s : State) → Books s → ((o : Order) → InRange o → P o) → AllByRecursion (λ e. P e.order) (waiting s)
of-waiting P s b f = All-weaker (λ (e : Resting). Contains s.orders e.order) (λ (e : Resting). P e.order)
    (λ e h. f e.order (All-contains InRange s.orders e.order (All-from_recursion InRange s.orders b.in_range) h)) (waiting s) b.recorded

pub known-waiting : (s : State) → Books s → AllByRecursion (λ e. is_participant e.order.participant ≡ true) (waiting s)
known-waiting s b = of-waiting (λ o. is_participant o.participant ≡ true) s b (λ o r. r.0)

pub priced-waiting : (s : State) → Books s → AllByRecursion (λ e. is_price e.order.limit ≡ true) (waiting s)
priced-waiting s b = of-waiting (λ o. is_price o.limit ≡ true) s b (λ o r. r.1.0)

-- OPENING

pub books-opened : (accounts : List Account) → length accounts ≡ 64 → nothing_blocked accounts ≡ true → Books (empty_in Gathering accounts)
books-opened accounts long none = record {
  everyone = long;
  few = omega arith;
  numbered = tt;
  in_range = tt;
  recorded = tt;
  lots_wait = tt;
  distinct = tt;
  selling = tt;
  buying = tt;
  sells_in_order = refl;
  buys_in_order = refl;
  deals_known = tt;
  cancellations_known = tt;
  balanced = tt;
  covered = covered-opened accounts none;
}

pub kept_opened : (accounts : List Account) → length accounts ≡ 64 → Kept (opened accounts)
kept_opened accounts long =
    cond_both (nothing_blocked accounts) Gathering Closed (λ phase. Kept (empty_in phase accounts)) (λ none. books-opened accounts long none) (λ some. (refl, refl))

pub newly_opened : (accounts : List Account) → length accounts ≡ 64 → nothing_blocked accounts ≡ true → NewlyOpened (opened accounts)
newly_opened accounts long none = record {
  empty = ap (λ t. empty_in (cond t Gathering Closed) accounts) none;
  unblocked = none;
  everyone = long;
}

-- ENTERING

-- what an accepted submit tells
pub record Admitted (s : State) (who : Participant) (side : Side) (limit : Price) (lots : Lots) : Type 0 where
  pub gathering : is_gathering s.phase ≡ true
  pub range : InRange (next_order s who side limit lots)
  pub room : length s.orders < most_orders
  pub blocked : block_answer s.accounts who (cover_for side limit lots) ≡ Ok tt

-- an answer that is given where the depository accepts
was_accepted : (answer : Done) (n m : OrderNumber) → Ok n ≡ given (raised Depository answer) m → answer ≡ Ok tt
was_accepted (Ok u) n m e = refl
was_accepted (Err refusal) n m e = cc

pub admitted : (s : State) (who : Participant) (side : Side) (limit : Price) (lots : Lots) (n : OrderNumber) → submit_answer s who side limit lots ≡ Ok n →
    Admitted s who side limit lots
admitted s who side limit lots n e =
    let gathers = checked_ok (is_gathering s.phase) WrongPhase _ n (sym e) in
    let knows = checked_ok (is_participant who) NoParticipant _ n gathers.1 in
    let prices = checked_ok (is_price limit) PriceOutOfRange _ n knows.1 in
    let sizes = checked_ok (is_order_size lots) LotsOutOfRange _ n prices.1 in
    let fits = checked_ok (ltb (length s.orders) most_orders) SessionFull _ n sizes.1 in
    let free = checked_ok (not (own_in_the_way s who side limit)) OwnOrderInTheWay _ n fits.1 in
    record {
      gathering = gathers.0;
      range = (knows.0, (prices.0, sizes.0));
      room = ltb-true (length s.orders) most_orders fits.0;
      blocked = was_accepted (block_answer s.accounts who (cover_for side limit lots)) n (next_order s who side limit lots).number free.1;
    }

pub books-entered : (s : State) (who : Participant) (side : Side) (limit : Price) (lots : Lots) (n : OrderNumber) →
    submit_answer s who side limit lots ≡ Ok n → Books s → Books (entered s (next_order s who side limit lots))
books-entered s who side limit lots n e b =
    let a = admitted s who side limit lots n e in
    entered-books s (next_order s who side limit lots) refl b a.range a.room a.blocked

-- ANNULLING

-- the cover of an order's one entry can be released
pub release_passes_one : (s : State) (n : ℕ) (e : Resting) → Books s → entries_of n (waiting s) ≡ e ∷ [] →
    release_answer s.accounts e.order.participant (cover_of e) ≡ Ok tt
release_passes_one s n e b one =
    let Passes : Resting → Type 0 = λ x. release_answer s.accounts x.order.participant (cover_of x) ≡ Ok tt in
    let each = all_kept_by (λ (x : Resting). eqb (number_of x) n) Passes (waiting s) (release_accepted s b.covered (known-waiting s b)) in
    (subst (AllByRecursion Passes) one each).0

pub books-annulled : (n : ℕ) (s : State) → Books s → Books (annulled n s)
books-annulled n s b =
    let gone = entries_of n (waiting s) in
    let Known : Cancellation → Type 0 = λ c. c.order.0 ≤ length s.orders in
    record {
      everyone = everyone-released s.accounts gone b.everyone;
      few = b.few;
      numbered = b.numbered;
      in_range = b.in_range;
      recorded = all_left (λ e. Contains s.orders e.order) n s b.recorded;
      lots_wait = all_left (λ e. (0 < lots_of e) × (lots_of e ≤ e.order.accepted.0)) n s b.lots_wait;
      distinct = subst Distinct (sym (waiting-annulled n s)) (distinct_kept_by (stays n) (waiting s) b.distinct);
      selling = all_kept_by (stays n) _ s.sells b.selling;
      buying = all_kept_by (stays n) _ s.buys b.buying;
      sells_in_order = order_kept_by queue_after (stays n) s.sells b.sells_in_order;
      buys_in_order = order_kept_by queue_after (stays n) s.buys b.buys_in_order;
      deals_known = b.deals_known;
      cancellations_known = All-append Known s.cancellations (map cancellation_of gone) b.cancellations_known
          (All-map Known cancellation_of gone (all_kept_by _ _ (waiting s) (waiting-known s.orders b.numbered (waiting s) b.recorded)));
      balanced = All-weaker (BalancedOrder s) (BalancedOrder (annulled n s)) (balanced_order n s) s.orders b.balanced;
      covered = covered-annulled n s b.everyone (known-waiting s b) b.covered;
    }

pub books_each : (os : List Order) (s : State) → Books s → Books (annulled_each os s)
books_each [] s b = b
books_each (o ∷ os) s b = books_each os (annulled o.number.0 s) (books-annulled o.number.0 s b)

-- the books do not depend on the phase
pub books-phase : (p : Phase) (s : State) → Books s → Books (in_phase p s)
books-phase p s b = record {
  everyone = b.everyone;
  few = b.few;
  numbered = b.numbered;
  in_range = b.in_range;
  recorded = b.recorded;
  lots_wait = b.lots_wait;
  distinct = b.distinct;
  selling = b.selling;
  buying = b.buying;
  sells_in_order = b.sells_in_order;
  buys_in_order = b.buys_in_order;
  deals_known = b.deals_known;
  cancellations_known = b.cancellations_known;
  balanced = b.balanced;
  covered = b.covered;
}
