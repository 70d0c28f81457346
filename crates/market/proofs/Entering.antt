-- An order that is entered leaves the books right.
use Rattle.std.proofs.Common.{◌≡◌, ℕ, ◌+◌, ◌<◌, ◌≤◌, true, cond, eqb, [], ◌∷◌, ◌++◌, Contains, IsPermutation, length, Ok, refl, arith}
use Rattle.std.specs.List.{AllByRecursion}
use Rattle.std.proofs.ByRecursion.{All-push, All-weaker, all_shuffled}
use Rattle.std.proofs.lemmas.Bool.{and_parts, leb-true, ne_eqb, eq-eqb, cond-true, cond-false}
use Rattle.std.proofs.lemmas.List.{length_push}
use Rattle.std.proofs.lemmas.List.Elements.{Contains-append_left, Contains-push}
use Rattle.ordered_list.specs.Order.{in_order}
use Rattle.ordered_list.proofs.Placed.{all_placed}
use Rattle.ordered_list.proofs.Sorted.{placed_in_order}
use Rattle.units.specs.declared.side.Side.TheVariants.{Sell, Buy}
use Rattle.depository.specs.Calls.{block_answer}
use Rattle.market.specs.declared.order.Order.{Order}
use Rattle.market.specs.declared.order.Resting.{Resting}
use Rattle.market.specs.declared.deal.Deal.{Deal}
use Rattle.market.specs.declared.deal.Cancellation.{Cancellation}
use Rattle.market.specs.Orders.{number_of, lots_of, queue_after, cover_for}
use Rattle.market.specs.State.{State, waiting}
use Rattle.market.specs.Calls.{entered}
use Rattle.market.specs.Law.{InRange, BalancedOrder, Books}
use Rattle.market.proofs.Totals.{total_moved}
use Rattle.market.proofs.OrderNumbers.{numbered_push, numbers_known, waiting-known, total_above}
use Rattle.market.proofs.QueueEntries.{all_both, moved-joined, joined_has, queue_lawful, distinct_moved}
use Rattle.market.proofs.Accounting.{covered-entered}
use Rattle.market.proofs.AccountFigures.{block_long}

-- an order that gets the next number
module _ (s : State) (o : Order) (next : o.number.0 ≡ length s.orders + 1) (b : Books s) where
  abbrev most : ℕ
  most = length s.orders

  -- what waits of it: all of it
  abbrev entry : Resting
  entry = record { order = o; lots = o.accepted }

  moved : IsPermutation (entry ∷ waiting s) (waiting (entered s o))
  moved = moved-joined o.side entry s.sells s.buys

  -- of another order waits what waited of it
  balanced_old : (x : Order) → BalancedOrder s x → x.number.0 ≤ most → BalancedOrder (entered s o) x
  balanced_old x before known =
      let f : Resting → ℕ = λ e. cond (eqb (number_of e) x.number.0) (lots_of e) 0 in
      let other : f entry ≡ 0 = cond-false (eqb o.number.0 x.number.0) o.accepted.0 0 (ne_eqb o.number.0 x.number.0 (λ same. omega arith)) in
      omega (arith, before, total_moved f (entry ∷ waiting s) (waiting (entered s o)) moved)

  -- of the new one nothing is dealt nor cancelled, and all of it waits
  balanced_new : BalancedOrder (entered s o) o
  balanced_new =
      let new : ℕ = o.number.0 in
      let above : most < new = omega arith in
      let f : Resting → ℕ = λ e. cond (eqb (number_of e) new) (lots_of e) 0 in
      let all : f entry ≡ o.accepted.0 = cond-true (eqb new new) o.accepted.0 0 (eq-eqb new new refl) in
      let sold = total_above (λ (d : Deal). d.sell.0) (λ d. d.lots.0) most new s.deals above (All-weaker _ (λ (d : Deal). d.sell.0 ≤ most) (λ d h. h.0) s.deals b.deals_known) in
      let bought = total_above (λ (d : Deal). d.buy.0) (λ d. d.lots.0) most new s.deals above (All-weaker _ (λ (d : Deal). d.buy.0 ≤ most) (λ d h. h.1) s.deals b.deals_known) in
      let cancelled = total_above (λ (c : Cancellation). c.order.0) (λ c. c.lots.0) most new s.cancellations above b.cancellations_known in
      let others = total_above number_of lots_of most new (waiting s) above (waiting-known s.orders b.numbered (waiting s) b.recorded) in
      omega (arith, total_moved f (entry ∷ waiting s) (waiting (entered s o)) moved)

  pub entered-books : InRange o → most < 512 → block_answer s.accounts o.participant (cover_for o.side o.limit o.accepted) ≡ Ok tt → Books (entered s o)
  entered-books range room accepted =
      let longer = length_push s.orders o in
      let low = leb-true 1 o.accepted.0 (and_parts _ _ range.1.1).0 in
      let in_waiting : (P : Resting → Type 0) → P entry → AllByRecursion P (waiting s) → AllByRecursion P (waiting (entered s o)) =
      λ P p a. all_shuffled P (entry ∷ waiting s) (waiting (entered s o)) moved (p, a) in
      record {
        everyone = block_long s.accounts o.participant (cover_for o.side o.limit o.accepted) b.everyone;
        few = omega arith;
        numbered = numbered_push 1 s.orders o b.numbered next;
        in_range = All-push InRange s.orders o b.in_range range;
        recorded = in_waiting (λ e. Contains (s.orders ++ (o ∷ [])) e.order) (Contains-push s.orders o)
            (All-weaker (λ (e : Resting). Contains s.orders e.order) _ (λ e h. Contains-append_left s.orders (o ∷ []) e.order h) (waiting s) b.recorded);
        lots_wait = in_waiting (λ e. (0 < lots_of e) × (lots_of e ≤ e.order.accepted.0)) (omega arith, omega arith) b.lots_wait;
        distinct = distinct_moved (entry ∷ waiting s) (waiting (entered s o)) moved
            (All-weaker _ _ (λ e h same. omega (arith, h)) (waiting s) (waiting-known s.orders b.numbered (waiting s) b.recorded), b.distinct);
        selling = joined_has (AllByRecursion (λ e. e.order.side ≡ Sell)) Sell o.side entry s.sells (λ same. all_placed (λ e. e.order.side ≡ Sell) queue_after entry s.sells same b.selling) b.selling;
        buying = joined_has (AllByRecursion (λ e. e.order.side ≡ Buy)) Buy o.side entry s.buys (λ same. all_placed (λ e. e.order.side ≡ Buy) queue_after entry s.buys same b.buying) b.buying;
        sells_in_order = joined_has (λ q. in_order queue_after q ≡ true) Sell o.side entry s.sells (λ _. placed_in_order queue_after queue_lawful entry s.sells b.sells_in_order) b.sells_in_order;
        buys_in_order = joined_has (λ q. in_order queue_after q ≡ true) Buy o.side entry s.buys (λ _. placed_in_order queue_after queue_lawful entry s.buys b.buys_in_order) b.buys_in_order;
        deals_known = All-weaker _ _ (λ d h. (omega (arith, h.0), omega (arith, h.1))) s.deals b.deals_known;
        cancellations_known = All-weaker _ _ (λ c h. omega (arith, h)) s.cancellations b.cancellations_known;
        balanced = All-push (BalancedOrder (entered s o)) s.orders o
            (all_both (BalancedOrder s) (λ (x : Order). x.number.0 ≤ most) (BalancedOrder (entered s o)) balanced_old s.orders b.balanced (numbers_known s.orders b.numbered))
            balanced_new;
        covered = covered-entered s o b.everyone accepted b.covered;
      }
