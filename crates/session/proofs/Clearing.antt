-- To empty the queues first, and then to release and note what waited, order after order, is to annul order after order.
use Rattle.std.proofs.Common.{◌≡◌, ℕ, zero, suc, ◌+◌, ◌-◌, ◌<◌, ◌≤◌, Bool, true, false, cond, not, eqb, ◌≢◌, List, [], ◌∷◌, ◌++◌, map, length, get_or, take, drop, Some, None, Ok, Option, sym, refl, ap, ◌∙◌, subst, arith}
use Rattle.std.specs.List.{AllByRecursion}
use Rattle.std.proofs.lemmas.List.{append-nil, length_push, take_more, take_all, length-take, length-drop, get_or-take}
use Rattle.std.proofs.lemmas.Grind.{get_or_after_one}
use Rattle.std.proofs.lemmas.Bool.{eqb-true, ne_eqb, cond-false}
use Rattle.depository.specs.Calls.{release_answer, release_after}
use Rattle.depository.specs.declared.account.Account.{Account}
use Rattle.market.specs.declared.order.Order.{Order}
use Rattle.market.specs.declared.phase.Phase.{Phase}
use Rattle.units.specs.declared.side.Side.TheVariants.{Sell}
use Rattle.market.specs.declared.order.Resting.{Resting}
use Rattle.market.specs.declared.deal.Cancellation.{Cancellation}
use Rattle.market.specs.Orders.{number_of, cover_of}
use Rattle.market.specs.State.{State, waiting}
use Rattle.market.specs.Calls.{entries_of, without, cancellation_of, released, annulled, annulled_each, all_annulled}
use Rattle.market.specs.Law.{Books, NumberedFrom}
use Rattle.market.proofs.Annulling.{waiting-annulled, each_push, all_gone}
use Rattle.market.proofs.KeptBooks.{books_each, release_passes_one}
use Rattle.session.specs.declared.book.Book.{Book}
use Rattle.session.specs.Lists.{first_with}
use Rattle.session.specs.Slots.{by_number}
use Rattle.session.specs.States.{state_of}
use Rattle.session.proofs.Annulments.{none_of, first_is, first_none}
use Rattle.session.proofs.Same.{same_state}
use Rattle.session.proofs.Slotting.{filled, filled_by, filled-take, filled_more, by_number_long, slot_is}

-- THE NUMBERS OF THE ORDERS

numbered-at : (n : ℕ) (os : List Order) (i : ℕ) (d : Order) → NumberedFrom n os → i < length os → (get_or os i d).number.0 ≡ n + i
numbered-at n [] i d a low = absurd (omega arith)
numbered-at n (o ∷ os) zero d a low = omega (arith, a.0)
numbered-at n (o ∷ os) (suc i) d a low = omega (arith, numbered-at (suc n) os i d a.1 (omega arith))

-- those before have other numbers
numbered_before : (n : ℕ) (os : List Order) (i : ℕ) → NumberedFrom n os → AllByRecursion (λ o. o.number.0 ≢ n + i) (take i os)
numbered_before n os zero a = tt
numbered_before n [] (suc i) a = tt
numbered_before n (o ∷ os) (suc i) a =
    let next : suc n + i ≡ n + suc i = omega arith in
    (λ same. omega (arith, a.0), subst (λ k. AllByRecursion (λ (x : Order). x.number.0 ≢ k) (take i os)) next (numbered_before (suc n) os i a.1))

-- THE ENTRY OF AN ORDER stays as others are annulled

entries_without : (n m : ℕ) (q : List Resting) → m ≢ n → entries_of n (without m q) ≡ entries_of n q
entries_without n m [] other = refl
entries_without n m (e ∷ q) other = by (eqb (number_of e) m) refl (entries_without n m q other)
  where
    by : (t : Bool) → eqb (number_of e) m ≡ t → entries_of n (without m q) ≡ entries_of n q →
        entries_of n (cond (not t) (e ∷ without m q) (without m q)) ≡ cond (eqb (number_of e) n) (e ∷ entries_of n q) (entries_of n q)
    by true h r = r ∙ sym (cond-false (eqb (number_of e) n) (e ∷ entries_of n q) (entries_of n q) (ne_eqb (number_of e) n (λ same. other (sym (eqb-true (number_of e) m h) ∙ same))))
    by false h r = ap (λ es. cond (eqb (number_of e) n) (e ∷ es) es) r

entries_each : (n : ℕ) (os : List Order) (s : State) → AllByRecursion (λ o. o.number.0 ≢ n) os → entries_of n (waiting (annulled_each os s)) ≡ entries_of n (waiting s)
entries_each n [] s a = refl
entries_each n (o ∷ os) s a =
    entries_each n os (annulled o.number.0 s) a.1
    ∙ ap (entries_of n) (waiting-annulled o.number.0 s)
    ∙ entries_without n o.number.0 (waiting s) a.0

-- the first i orders are annulled
abbrev pub so_far : ℕ → State → State
so_far i s = annulled_each (take i s.orders) s

entries_so_far : (i : ℕ) (s : State) → Books s → entries_of (i + 1) (waiting (so_far i s)) ≡ entries_of (i + 1) (waiting s)
entries_so_far i s b =
    let n : 1 + i ≡ i + 1 = omega arith in
    entries_each (i + 1) (take i s.orders) s (subst (λ k. AllByRecursion (λ (o : Order). o.number.0 ≢ k) (take i s.orders)) n (numbered_before 1 s.orders i b.numbered))

no_order : Order
no_order = record { number = record { 0 = 0 }; participant = record { 0 = 0 }; side = Sell; limit = record { 0 = 0 }; accepted = record { 0 = 0 } }

-- the next order is that with the next number
so_far_more : (i : ℕ) (s : State) → Books s → i < length s.orders → so_far (i + 1) s ≡ annulled (i + 1) (so_far i s)
so_far_more i s b low =
    let n : (get_or s.orders i no_order).number.0 ≡ i + 1 = omega (arith, numbered-at 1 s.orders i no_order b.numbered low) in
    ap (λ os. annulled_each os s) (take_more s.orders i no_order low)
    ∙ each_push (take i s.orders) (get_or s.orders i no_order) s
    ∙ ap (λ k. annulled k (so_far i s)) n

-- THE STATE with empty queues

abbrev pub emptied : State → State
emptied s = record { phase = s.phase; orders = s.orders; sells = []; buys = []; deals = s.deals; cancellations = s.cancellations; accounts = s.accounts }

-- an order of which nothing waits changes nothing
pub cleared_none : (i : ℕ) (s t : State) → Books s → i < length s.orders → t ≡ emptied (so_far i s) → first_with (i + 1) (waiting s) ≡ None →
    t ≡ emptied (so_far (i + 1) s)
cleared_none i s t b low so none =
    let u = so_far i s in
    let no' : entries_of (i + 1) (waiting u) ≡ [] = entries_so_far i s b ∙ (none_of (i + 1) (waiting s) (first_none (i + 1) (waiting s) none)).1 in
    let cs : u.cancellations ≡ u.cancellations ++ map cancellation_of (entries_of (i + 1) (waiting u)) = sym (ap (λ es. u.cancellations ++ map cancellation_of es) no' ∙ append-nil u.cancellations) in
    let accounts : u.accounts ≡ released u.accounts (entries_of (i + 1) (waiting u)) = sym (ap (released u.accounts) no') in
    so ∙ same_state (emptied u) (emptied (annulled (i + 1) u)) refl refl refl refl refl cs accounts ∙ ap emptied (sym (so_far_more i s b low))

only_entry : (i : ℕ) (s : State) (e : Resting) → Books s → first_with (i + 1) (waiting s) ≡ Some e → entries_of (i + 1) (waiting (so_far i s)) ≡ e ∷ []
only_entry i s e b found = entries_so_far i s b ∙ (first_is (i + 1) (waiting s) e b.distinct found).0

-- the cover of the next order that waits can be released
pub cleared_passes : (i : ℕ) (s t : State) (e : Resting) → Books s → t ≡ emptied (so_far i s) → first_with (i + 1) (waiting s) ≡ Some e →
    release_answer t.accounts e.order.participant (cover_of e) ≡ Ok tt
cleared_passes i s t e b so found =
    let u = so_far i s in
    ap (λ (x : State). release_answer x.accounts e.order.participant (cover_of e)) so
    ∙ release_passes_one u (i + 1) e (books_each (take i s.orders) s b) (only_entry i s e b found)

-- and it is released and noted
pub cleared_one : (i : ℕ) (s t next : State) (e : Resting) → Books s → i < length s.orders → t ≡ emptied (so_far i s) → first_with (i + 1) (waiting s) ≡ Some e →
    next.phase ≡ t.phase → next.orders ≡ t.orders → next.sells ≡ t.sells → next.buys ≡ t.buys → next.deals ≡ t.deals →
    next.cancellations ≡ t.cancellations ++ (cancellation_of e ∷ []) → next.accounts ≡ release_after t.accounts e.order.participant (cover_of e) →
    next ≡ emptied (so_far (i + 1) s)
cleared_one i s t next e b low so found phase orders sells buys deals cancellations accounts =
    let u = so_far i s in
    let one = only_entry i s e b found in
    let cs : t.cancellations ++ (cancellation_of e ∷ []) ≡ u.cancellations ++ map cancellation_of (entries_of (i + 1) (waiting u)) =
    ap (λ (x : State). x.cancellations ++ (cancellation_of e ∷ [])) so ∙ sym (ap (λ es. u.cancellations ++ map cancellation_of es) one) in
    let acc : release_after t.accounts e.order.participant (cover_of e) ≡ released u.accounts (entries_of (i + 1) (waiting u)) =
    ap (λ (x : State). release_after x.accounts e.order.participant (cover_of e)) so ∙ sym (ap (released u.accounts) one) in
    same_state next (emptied (annulled (i + 1) u))
    (phase ∙ ap (λ (x : State). x.phase) so)
    (orders ∙ ap (λ (x : State). x.orders) so)
    (sells ∙ ap (λ (x : State). x.sells) so)
    (buys ∙ ap (λ (x : State). x.buys) so)
    (deals ∙ ap (λ (x : State). x.deals) so)
    (cancellations ∙ cs)
    (accounts ∙ acc)
    ∙ ap emptied (sym (so_far_more i s b low))

-- once all orders are annulled, nothing waits anyway
pub cleared_all : (i : ℕ) (s t : State) → Books s → length s.orders ≤ i → t ≡ emptied (so_far i s) → t ≡ all_annulled s
cleared_all i s t b all' so =
    let u = all_annulled s in
    let gone = all_gone s b.recorded in
    so ∙ ap (λ os. emptied (annulled_each os s)) (take_all i s.orders all')
    ∙ same_state (emptied u) u refl refl (sym gone.0) (sym gone.1) refl refl refl

-- A TURN OF THE LOOP over the orders

-- a book that has lost its queues
pub queues_emptied : (p : Phase) (accounts : List Account) (b next : Book) → next.orders ≡ b.orders → next.sells ≡ [] → next.buys ≡ [] → next.deals ≡ b.deals →
    next.cancellations ≡ b.cancellations → state_of p next accounts ≡ emptied (state_of p b accounts)
queues_emptied p accounts b next orders sells buys deals cancellations =
    same_state (state_of p next accounts) (emptied (state_of p b accounts))
    refl (ap (λ v. v.items) orders) sells buys (ap (λ v. v.items) deals) (ap (λ v. v.items) cancellations) refl

-- the slots of the orders that there are
abbrev pub order_slots : State → List (Option Resting)
order_slots s = take (length s.orders + 1 - 1) (drop 1 (by_number s.sells s.buys))

pub order_slots_are : (s : State) (p : Phase) (b : Book) (accounts : List Account) (n : ℕ) (slots : List (Option Resting)) →
    state_of p b accounts ≡ s → n ≡ length b.orders.items → slots ≡ by_number b.sells b.buys → take (n + 1 - 1) (drop 1 slots) ≡ order_slots s
order_slots_are s p b accounts n slots same count laid =
    ap (λ k. take (k + 1 - 1) (drop 1 slots)) count
    ∙ ap (λ xs. take (length b.orders.items + 1 - 1) (drop 1 xs)) laid
    ∙ ap order_slots same

pub order_slots_long : (s : State) → Books s → length (order_slots s) ≡ length s.orders
order_slots_long s b =
    let all' = by_number s.sells s.buys in
    let few : length s.orders ≤ 512 = b.few in
    omega (arith, length-take (length s.orders + 1 - 1) (drop 1 all'), length-drop 1 all', by_number_long s.sells s.buys)

-- the slot at place i is that of order i + 1
pub slot_found : (s : State) (slots : List (Option Resting)) (i : ℕ) (o : Option Resting) → Books s → slots ≡ order_slots s → i < length slots → get_or slots i None ≡ o →
    (first_with (i + 1) (waiting s) ≡ o) × (i < length s.orders)
slot_found s slots i o b are low e =
    let all' = by_number s.sells s.buys in
    let n : ℕ = length s.orders + 1 - 1 in
    let few : length s.orders ≤ 512 = b.few in
    let next : 1 + i ≡ i + 1 = omega arith in
    let within : i < length s.orders = omega (arith, ap length are, order_slots_long s b) in
    let at : get_or (order_slots s) i None ≡ get_or all' (i + 1) None =
    get_or-take n (drop 1 all') i None (omega arith) ∙ get_or_after_one all' i None ∙ ap (λ k. get_or all' k None) next in
    (sym (slot_is s.sells s.buys (i + 1) None b.distinct (omega arith)) ∙ sym at ∙ ap (λ xs. get_or xs i None) (sym are) ∙ e, within)

-- no more of them are filled than wait
pub filled_orders : (b : Book) (n : ℕ) (slots : List (Option Resting)) → slots ≡ by_number b.sells b.buys → filled (take n (drop 1 slots)) ≤ length b.sells + length b.buys
filled_orders b n slots laid = omega (arith, filled-take n (drop 1 slots), ap (λ xs. filled (drop 1 xs)) laid, filled_by b.sells b.buys 1)

-- a cancellation takes up the room of the slot that was filled
pub room_next : (b next : Book) (line : Cancellation) (slots : List (Option Resting)) (i : ℕ) (e : Resting) → i < length slots → get_or slots i None ≡ Some e →
    next.orders ≡ b.orders → next.cancellations.items ≡ b.cancellations.items ++ (line ∷ []) → length b.cancellations.items + filled (drop i slots) ≤ length b.orders.items →
    length next.cancellations.items + filled (drop (i + 1) slots) ≤ length next.orders.items
room_next b next line slots i e low is orders noted room =
    omega (arith, filled_more slots i (Some e) low is, ap length noted, length_push b.cancellations.items line, ap (λ v. length v.items) orders)

-- the queues are empty, there is room to note what is left in the slots, and the orders so far are annulled
pub record Cleared (s : State) (p : Phase) (b : Book) (accounts : List Account) (slots : List (Option Resting)) (i : ℕ) : Type 0 where
  pub sells : b.sells ≡ []
  pub buys : b.buys ≡ []
  pub room : length b.cancellations.items + filled (drop i slots) ≤ length b.orders.items
  pub annulled_so_far : state_of p b accounts ≡ emptied (so_far i s)
