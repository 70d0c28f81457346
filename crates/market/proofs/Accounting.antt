-- What entering and annulling orders do to the accounts.
use Rattle.std.proofs.Common.{◌≡◌, ℕ, ◌+◌, ◌-◌, ◌≤◌, true, cond, not, eqb, List, [], ◌∷◌, length, Ok, sym, refl, ap, ◌∙◌, arith}
use Rattle.std.specs.List.{AllByRecursion}
use Rattle.std.proofs.lemmas.List.Elements.{filter-append}
use Rattle.std.proofs.ByRecursion.{all_kept_by, All-weaker}
use Rattle.std.proofs.lemmas.Bool.{eq-eqb, eqb-true}
use Rattle.units.specs.Ranges.{is_participant}
use Rattle.units.specs.declared.participant.Participant.{Participant}
use Rattle.depository.specs.declared.account.Account.{Account}
use Rattle.depository.specs.declared.amount.Amount.{Amount}
use Rattle.depository.specs.Accounts.{of, lots_held, money_held}
use Rattle.depository.specs.Calls.{block_answer, release_answer, release_after}
use Rattle.depository.proofs.Totals.{one_in_all}
use Rattle.market.specs.declared.order.Order.{Order}
use Rattle.market.specs.declared.order.Resting.{Resting}
use Rattle.market.specs.declared.phase.Phase.TheVariants.{Gathering}
use Rattle.market.specs.Orders.{total_if, number_of, owner_of, cover_for, cover_of, in_lots, in_money}
use Rattle.market.specs.State.{State, empty_in, waiting}
use Rattle.market.specs.Calls.{nothing_blocked, entered, entries_of, released, annulled}
use Rattle.market.specs.Law.{Covered}
use Rattle.market.proofs.Totals.{total_moved, total_none, total_parted}
use Rattle.market.proofs.QueueEntries.{all_both, moved-joined}
use Rattle.market.proofs.AccountFigures.{Follows, after_block, after_release, lots_blocked, money_blocked, blocked_lots_follow, blocked_money_follows, no_part, lots_held_stay, money_held_stays, release_passes, release_long}

-- waiting orders of participants of the market
abbrev pub Known : List Resting → Type 0
Known q = AllByRecursion (λ e. is_participant e.order.participant ≡ true) q

-- NO ACCOUNT COMES OR GOES

pub everyone-released : (accounts : List Account) (es : List Resting) → length accounts ≡ 64 → length (released accounts es) ≡ 64
everyone-released accounts [] long = long
everyone-released accounts (e ∷ es) long = everyone-released (release_after accounts e.order.participant (cover_of e)) es (release_long accounts e.order.participant (cover_of e) long)

-- OPENING

-- where nothing is blocked and nothing waits, what is blocked is what is needed
pub covered-opened : (accounts : List Account) → nothing_blocked accounts ≡ true → Covered (empty_in Gathering accounts)
covered-opened accounts none p known =
    let nothing = eqb-true _ 0 none in
    (omega (arith, one_in_all lots_blocked refl accounts (p.0 - 1)), omega (arith, one_in_all money_blocked refl accounts (p.0 - 1)))

-- ENTERING

-- what the waiting orders of participant p need of one kind
abbrev needed : (Amount → ℕ) → ℕ → List Resting → ℕ
needed part p q = total_if (λ e. eqb (owner_of e) p) (λ e. part (cover_of e)) q

module _ (s : State) (o : Order) (long : length s.accounts ≡ 64)
    (accepted : block_answer s.accounts o.participant (cover_for o.side o.limit o.accepted) ≡ Ok tt)
    (p : Participant) (known : is_participant p ≡ true) where
  -- a figure that follows what is blocked grows by what the order needs, for its own participant
  after_entered : (figure : Account → ℕ) (part : Amount → ℕ) → Follows figure part →
      figure (of (entered s o).accounts p) ≡ figure (of s.accounts p) + cond (eqb o.participant.0 p.0) (part (cover_for o.side o.limit o.accepted)) 0
  after_entered figure part follows = after_block figure part follows s.accounts long o.participant (cover_for o.side o.limit o.accepted) accepted p known

  -- so that one which was what is needed is so again
  needed_entered : (figure : Account → ℕ) (part : Amount → ℕ) → Follows figure part → figure (of s.accounts p) ≡ needed part p.0 (waiting s) →
      figure (of (entered s o).accounts p) ≡ needed part p.0 (waiting (entered s o))
  needed_entered figure part follows covered =
      let entry : Resting = record { order = o; lots = o.accepted } in
      let waits = total_moved (λ e. cond (eqb (owner_of e) p.0) (part (cover_of e)) 0) (entry ∷ waiting s) (waiting (entered s o)) (moved-joined o.side entry s.sells s.buys) in
      omega (arith, waits, after_entered figure part follows)

  -- and one that follows by nothing is the same
  same_entered : (figure : Account → ℕ) → Follows figure no_part → figure (of (entered s o).accounts p) ≡ figure (of s.accounts p)
  same_entered figure follows = grind (arith, after_entered figure no_part follows)

-- an accepted order is covered, and everybody else's orders still are
pub covered-entered : (s : State) (o : Order) → length s.accounts ≡ 64 →
    block_answer s.accounts o.participant (cover_for o.side o.limit o.accepted) ≡ Ok tt → Covered s → Covered (entered s o)
covered-entered s o long accepted covered p known = (
  needed_entered s o long accepted p known lots_blocked in_lots blocked_lots_follow (covered p known).0,
  needed_entered s o long accepted p known money_blocked in_money blocked_money_follows (covered p known).1,
)

-- nobody's holdings change
pub held_entered : (s : State) (o : Order) → length s.accounts ≡ 64 →
    block_answer s.accounts o.participant (cover_for o.side o.limit o.accepted) ≡ Ok tt → (p : Participant) → is_participant p ≡ true →
    (lots_held (of (entered s o).accounts p) ≡ lots_held (of s.accounts p)) × (money_held (of (entered s o).accounts p) ≡ money_held (of s.accounts p))
held_entered s o long accepted p known =
    (same_entered s o long accepted p known lots_held lots_held_stay, same_entered s o long accepted p known money_held money_held_stays)

-- RELEASING

-- everybody's blocked figures are enough for these orders
abbrev Enough : List Account → List Resting → Type 0
Enough accounts q = (p : Participant) → is_participant p ≡ true →
    (needed in_lots p.0 q ≤ lots_blocked (of accounts p)) × (needed in_money p.0 q ≤ money_blocked (of accounts p))

-- one order needs no more than all of its participant
one_needed : (q : List Resting) → AllByRecursion (λ e. (part : Amount → ℕ) → part (cover_of e) ≤ needed part (owner_of e) q) q
one_needed [] = tt
one_needed (e ∷ q) = (own, All-weaker _ _ (λ x less part. omega (arith, less part)) q (one_needed q))
  where
    own : (part : Amount → ℕ) → part (cover_of e) ≤ needed part (owner_of e) (e ∷ q)
    own part = let mine = eq-eqb (owner_of e) (owner_of e) refl in rw mine (omega arith)

-- so where there is enough for all, there is enough to release each
each_passes : (accounts : List Account) (q : List Resting) → Enough accounts q → Known q →
    AllByRecursion (λ e. release_answer accounts e.order.participant (cover_of e) ≡ Ok tt) q
each_passes accounts q enough known =
    all_both (λ e. is_participant e.order.participant ≡ true) (λ e. (part : Amount → ℕ) → part (cover_of e) ≤ needed part (owner_of e) q)
    (λ e. release_answer accounts e.order.participant (cover_of e) ≡ Ok tt)
    (λ e who less.
    let there = enough e.order.participant who in
    release_passes accounts e.order.participant who (cover_of e) (omega (arith, less in_lots)) (omega (arith, less in_money))) q known (one_needed q)

-- the cover of each waiting order can be released
pub release_accepted : (s : State) → Covered s → Known (waiting s) → AllByRecursion (λ e. release_answer s.accounts e.order.participant (cover_of e) ≡ Ok tt) (waiting s)
release_accepted s covered known = each_passes s.accounts (waiting s) (λ p k. let c = covered p k in (omega arith, omega arith)) known

-- releasing the cover of orders takes what they need from everybody's figure
after_released : (figure : Account → ℕ) (part : Amount → ℕ) → Follows figure part → (accounts : List Account) → length accounts ≡ 64 →
    (es : List Resting) → Known es → Enough accounts es → (p : Participant) → is_participant p ≡ true →
    figure (of (released accounts es) p) + needed part p.0 es ≡ figure (of accounts p)
after_released figure part follows accounts long [] known enough p kp = omega arith
after_released figure part follows accounts long (e ∷ es) known enough p kp =
    let who = e.order.participant in
    let x = cover_of e in
    let accepted = (each_passes accounts (e ∷ es) enough known).0 in
    let left : Enough (release_after accounts who x) es = λ q kq.
    let there = enough q kq in (
      omega (arith, after_release lots_blocked in_lots blocked_lots_follow accounts long who x accepted q kq),
      omega (arith, after_release money_blocked in_money blocked_money_follows accounts long who x accepted q kq),
    ) in
    omega (
      arith,
      after_release figure part follows accounts long who x accepted p kp,
      after_released figure part follows (release_after accounts who x) (release_long accounts who x long) es known.1 left p kp,
    )

-- ANNULLING

-- what waits needs what the annulled entries need, and what the others do
needed_parted : (part : Amount → ℕ) (p n : ℕ) (s : State) → needed part p (entries_of n (waiting s)) + needed part p (waiting (annulled n s)) ≡ needed part p (waiting s)
needed_parted part p n s =
    ap (λ q. needed part p (entries_of n (waiting s)) + needed part p q) (sym (filter-append (λ e. not (eqb (number_of e) n)) s.sells s.buys))
    ∙ total_parted (λ e. cond (eqb (owner_of e) p) (part (cover_of e)) 0) (λ e. eqb (number_of e) n) (waiting s)

none_needed : (p : ℕ) (q : List Resting) → needed no_part p q ≡ 0
none_needed p q = total_none (λ e. cond (eqb (owner_of e) p) 0 0) q (λ k d low. grind arith)

-- what the annulled entries need goes from everybody's figure
after_annulled : (figure : Account → ℕ) (part : Amount → ℕ) → Follows figure part →
    (n : ℕ) (s : State) → length s.accounts ≡ 64 → Known (waiting s) → Covered s → (p : Participant) → is_participant p ≡ true →
    figure (of (annulled n s).accounts p) + needed part p.0 (entries_of n (waiting s)) ≡ figure (of s.accounts p)
after_annulled figure part follows n s long known covered p kp =
    after_released figure part follows s.accounts long (entries_of n (waiting s)) (all_kept_by _ _ (waiting s) known) enough p kp
  where
    enough : Enough s.accounts (entries_of n (waiting s))
    enough q kq = let c = covered q kq in (omega (arith, needed_parted in_lots q.0 n s), omega (arith, needed_parted in_money q.0 n s))

-- what still waits is covered, and no more is blocked
pub covered-annulled : (n : ℕ) (s : State) → length s.accounts ≡ 64 → Known (waiting s) → Covered s → Covered (annulled n s)
covered-annulled n s long known covered p kp =
    let c = covered p kp in (
      omega (arith, after_annulled lots_blocked in_lots blocked_lots_follow n s long known covered p kp, needed_parted in_lots p.0 n s),
      omega (arith, after_annulled money_blocked in_money blocked_money_follows n s long known covered p kp, needed_parted in_money p.0 n s),
    )

-- nobody's holdings change
pub held_annulled : (n : ℕ) (s : State) → length s.accounts ≡ 64 → Known (waiting s) → Covered s → (p : Participant) → is_participant p ≡ true →
    (lots_held (of (annulled n s).accounts p) ≡ lots_held (of s.accounts p)) × (money_held (of (annulled n s).accounts p) ≡ money_held (of s.accounts p))
held_annulled n s long known covered p kp =
    let none = none_needed p.0 (entries_of n (waiting s)) in (
      omega (arith, after_annulled lots_held no_part lots_held_stay n s long known covered p kp),
      omega (arith, after_annulled money_held no_part money_held_stays n s long known covered p kp),
    )
