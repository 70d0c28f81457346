-- What annulling orders does to the queues and the balance.
use Rattle.std.proofs.Common.{◌≡◌, ℕ, zero, suc, ◌+◌, ◌<◌, Bool, true, cond, not, eqb, ◌≢◌, List, [], ◌∷◌, ◌++◌, map, Contains, get_or, length, sym, refl, ap, subst, arith}
use Rattle.std.specs.List.{AllByRecursion}
use Rattle.std.proofs.lemmas.List.Elements.{filter-append}
use Rattle.std.proofs.lemmas.List.Sums.{fold_push}
use Rattle.std.proofs.ByRecursion.{all_kept_by, kept_by_passes}
use Rattle.std.proofs.lemmas.Bool.{not-true, eqb-false}
use Rattle.market.specs.declared.order.Order.{Order}
use Rattle.market.specs.declared.order.Resting.{Resting}
use Rattle.market.specs.declared.deal.Cancellation.{Cancellation}
use Rattle.market.specs.Orders.{number_of, lots_of, waiting_lots}
use Rattle.market.specs.State.{State, waiting}
use Rattle.market.specs.Calls.{entries_of, without, cancellation_of, annulled, annulled_each, all_annulled}
use Rattle.market.specs.Law.{BalancedOrder, cancelled_lots}
use Rattle.market.proofs.Totals.{total-append, total_parted, all_first, all_second}
use Rattle.market.proofs.QueueEntries.{all_both}

-- THE QUEUES

-- whether an entry stays as order n goes
abbrev pub stays : ℕ → Resting → Bool
stays n e = not (eqb (number_of e) n)

pub waiting-annulled : (n : ℕ) (s : State) → waiting (annulled n s) ≡ without n (waiting s)
waiting-annulled n s = sym (filter-append (stays n) s.sells s.buys)

-- what holds of each entry holds of those that are left
pub all_left : (P : Resting → Type 0) (n : ℕ) (s : State) → AllByRecursion P (waiting s) → AllByRecursion P (waiting (annulled n s))
all_left P n s a = subst (AllByRecursion P) (sym (waiting-annulled n s)) (all_kept_by (stays n) P (waiting s) a)

-- BALANCE: what waited is cancelled

cancelled_entries : (k : ℕ) (es : List Resting) → cancelled_lots k (map cancellation_of es) ≡ waiting_lots k es
cancelled_entries k [] = refl
cancelled_entries k (e ∷ es) = ap (λ rest. cond (eqb (number_of e) k) (lots_of e) 0 + rest) (cancelled_entries k es)

pub balanced_order : (n : ℕ) (s : State) (o : Order) → BalancedOrder s o → BalancedOrder (annulled n s) o
balanced_order n s o b =
    let k : ℕ = o.number.0 in
    let f : Resting → ℕ = λ e. cond (eqb (number_of e) k) (lots_of e) 0 in
    let lines = total-append (λ (c : Cancellation). cond (eqb c.order.0 k) c.lots.0 0) s.cancellations (map cancellation_of (entries_of n (waiting s))) in
    let gone = cancelled_entries k (entries_of n (waiting s)) in
    let left : waiting_lots k (waiting (annulled n s)) ≡ waiting_lots k (without n (waiting s)) = ap (waiting_lots k) (waiting-annulled n s) in
    let parted = total_parted f (λ e. eqb (number_of e) n) (waiting s) in
    omega (arith, b, lines, gone, left, parted)

-- ORDER AFTER ORDER

pub each_keeps : (os : List Order) (s : State) → ((annulled_each os s).orders ≡ s.orders) × ((annulled_each os s).deals ≡ s.deals) × ((annulled_each os s).phase ≡ s.phase)
each_keeps [] s = (refl, refl, refl)
each_keeps (o ∷ os) s = each_keeps os (annulled o.number.0 s)

pub each_push : (os : List Order) (o : Order) (s : State) → annulled_each (os ++ (o ∷ [])) s ≡ annulled o.number.0 (annulled_each os s)
each_push os o s = fold_push (λ t x. annulled x.number.0 t) s os o

-- what is left after the first of some orders is annulled is of the others
has_rest : (o : Order) (os : List Order) (x : Order) (k : ℕ) → x.number.0 ≢ o.number.0 → k < length (o ∷ os) → get_or (o ∷ os) k x ≡ x → Contains os x
has_rest o os x zero other low is = absurd (other (ap (λ (y : Order). y.number.0) (sym is)))
has_rest o os x (suc k) other low is = (k, omega arith, is)

left_others : (o : Order) (os : List Order) (q : List Resting) → AllByRecursion (λ e. Contains (o ∷ os) e.order) q → AllByRecursion (λ e. Contains os e.order) (without o.number.0 q)
left_others o os q a =
    all_both (λ (e : Resting). Contains (o ∷ os) e.order) (λ (e : Resting). stays o.number.0 e ≡ true) (λ (e : Resting). Contains os e.order)
    (λ e h t. has_rest o os e.order h.0 (eqb-false (number_of e) o.number.0 (not-true (eqb (number_of e) o.number.0) t)) h.1 h.2)
    (without o.number.0 q) (all_kept_by (stays o.number.0) (λ (e : Resting). Contains (o ∷ os) e.order) q a) (kept_by_passes (stays o.number.0) q)

none_recorded : (q : List Resting) → AllByRecursion (λ e. Contains [] e.order) q → q ≡ []
none_recorded [] a = refl
none_recorded (e ∷ q) a = let h = a.0.1 in absurd (omega arith)

each_empties : (os : List Order) (s : State) → AllByRecursion (λ e. Contains os e.order) s.sells → AllByRecursion (λ e. Contains os e.order) s.buys →
    ((annulled_each os s).sells ≡ []) × ((annulled_each os s).buys ≡ [])
each_empties [] s a b = (none_recorded s.sells a, none_recorded s.buys b)
each_empties (o ∷ os) s a b = each_empties os (annulled o.number.0 s) (left_others o os s.sells a) (left_others o os s.buys b)

-- to annul all orders empties both queues
pub all_gone : (s : State) → AllByRecursion (λ e. Contains s.orders e.order) (waiting s) → ((all_annulled s).sells ≡ []) × ((all_annulled s).buys ≡ [])
all_gone s a =
    let P : Resting → Type 0 = λ e. Contains s.orders e.order in
    each_empties s.orders s (all_first P s.sells s.buys a) (all_second P s.sells s.buys a)
