-- What blocking and releasing do to a figure of everybody's account.
use Rattle.std.proofs.Common.{◌≡◌, ℕ, ◌+◌, ◌-◌, ◌≤◌, Bool, true, false, cond, eqb, List, length, Ok, Err, Result, sym, refl, ap, ◌∙◌, subst, inl, inr, arith}
use Rattle.std.proofs.lemmas.List.{length-set, get_or-set_same, get_or-set_other}
use Rattle.std.proofs.lemmas.Bool.{leb-true, le-leb, eqb-true, cases_Bool}
use Rattle.std.proofs.lemmas.Bool.Decides.{nat_tests}
use Rattle.units.specs.Answers.{check, if_ok}
use Rattle.units.specs.Ranges.{is_participant}
use Rattle.units.specs.declared.participant.Participant.{Participant}
use Rattle.units.proofs.Checks.{checked_ok}
use Rattle.depository.specs.declared.account.Account.{Account}
use Rattle.depository.specs.declared.amount.Amount.{Amount}
use Rattle.depository.specs.declared.amount.Amount.TheVariants.{Lots, Money}
use Rattle.depository.specs.declared.fault.DepositoryFault.{DepositoryFault}
use Rattle.depository.specs.declared.fault.DepositoryFault.TheVariants.{NoParticipant, FreeTooSmall, BlockedTooSmall}
use Rattle.depository.specs.Accounts.{empty, lots_held, money_held, of, changed}
use Rattle.depository.specs.Amounts.{has_free, has_blocked, blocking, releasing}
use Rattle.depository.specs.Calls.{block_answer, block_after, release_answer, release_after}
use Rattle.depository.proofs.Totals.{place_known}
use Rattle.market.specs.Orders.{in_lots, in_money}

-- everybody's account where one participant's own is changed: what holds of the changed one in the place of the own, and of
-- the others as they were
of-changed : (accounts : List Account) → length accounts ≡ 64 → (who p : Participant) → is_participant who ≡ true → is_participant p ≡ true →
    (change : Account → Account) (P : Bool → Account → Type 0) → (who ≡ p → P true (change (of accounts p))) → P false (of accounts p) →
    P (eqb who.0 p.0) (of (changed accounts who change) p)
of-changed accounts long who p kw kp change P own other =
    elim (cases_Bool (eqb who.0 p.0)) [
      | inl e ↦
          let same : who ≡ p = ap (λ n. record { 0 = n }) (eqb-true _ _ e) in
          let there = get_or-set_same accounts (p.0 - 1) (change (of accounts p)) empty (place_known accounts long p kp) in
          rw e (subst (λ w. P true (of (changed accounts w change) p)) (sym same) (rw there (own same)))
      | inr e ↦
          let apart = get_or-set_other accounts (who.0 - 1) (p.0 - 1) (change (of accounts who)) empty (grind (arith, nat_tests)) in
          rw (e, apart) other
    ]

-- an accepted answer of two checks: both tests held
both_passed : (known test : Bool) (e f : DepositoryFault) → check known e (check test f (Ok (tt {0}))) ≡ Ok tt → (known ≡ true) × (test ≡ true)
both_passed known test e f accepted =
    let first = checked_ok known e (check test f (Ok (tt {0}))) tt (sym accepted) in
    (first.0, (checked_ok test f (Ok (tt {0})) tt first.1).0)

-- a figure that follows what is blocked: it grows by the amount's part where an amount is blocked, and shrinks by it where
-- one is released
abbrev pub Follows : (Account → ℕ) → (Amount → ℕ) → Type 0
Follows figure part = (x : Amount) (a : Account) →
    (has_free x a ≡ true → figure (blocking x a) ≡ figure a + part x) × (has_blocked x a ≡ true → figure (releasing x a) + part x ≡ figure a)

-- blocking changes the participant's own figure alone
pub after_block : (figure : Account → ℕ) (part : Amount → ℕ) → Follows figure part → (accounts : List Account) → length accounts ≡ 64 →
    (who : Participant) (x : Amount) → block_answer accounts who x ≡ Ok tt → (p : Participant) → is_participant p ≡ true →
    figure (of (block_after accounts who x) p) ≡ figure (of accounts p) + cond (eqb who.0 p.0) (part x) 0
after_block figure part follows accounts long who x accepted p known =
    let passed = both_passed (is_participant who) (has_free x (of accounts who)) NoParticipant FreeTooSmall accepted in
    ap (λ r. figure (of (if_ok r (changed accounts who (blocking x)) accounts) p)) accepted
    ∙ of-changed accounts long who p passed.0 known (blocking x) (λ own a. figure a ≡ figure (of accounts p) + cond own (part x) 0)
    (λ same. (follows x (of accounts p)).0 (rw same at passed.1)) (omega arith)

-- and so does releasing
pub after_release : (figure : Account → ℕ) (part : Amount → ℕ) → Follows figure part → (accounts : List Account) → length accounts ≡ 64 →
    (who : Participant) (x : Amount) → release_answer accounts who x ≡ Ok tt → (p : Participant) → is_participant p ≡ true →
    figure (of (release_after accounts who x) p) + cond (eqb who.0 p.0) (part x) 0 ≡ figure (of accounts p)
after_release figure part follows accounts long who x accepted p known =
    let passed = both_passed (is_participant who) (has_blocked x (of accounts who)) NoParticipant BlockedTooSmall accepted in
    ap (λ r. figure (of (if_ok r (changed accounts who (releasing x)) accounts) p) + cond (eqb who.0 p.0) (part x) 0) accepted
    ∙ of-changed accounts long who p passed.0 known (releasing x) (λ own a. figure a + cond own (part x) 0 ≡ figure (of accounts p))
    (λ same. (follows x (of accounts p)).1 (rw same at passed.1)) (omega arith)

-- the blocked figures follow, each by the amounts of its kind
abbrev pub lots_blocked : Account → ℕ
lots_blocked a = a.blocked_lots.0

abbrev pub money_blocked : Account → ℕ
money_blocked a = a.blocked_money.0

pub blocked_lots_follow : Follows lots_blocked in_lots
blocked_lots_follow (Lots n) a = (λ free. refl, λ there. omega (arith, leb-true _ _ there))
blocked_lots_follow (Money n) a = (λ free. omega arith, λ there. omega arith)

pub blocked_money_follows : Follows money_blocked in_money
blocked_money_follows (Lots n) a = (λ free. omega arith, λ there. omega arith)
blocked_money_follows (Money n) a = (λ free. refl, λ there. omega (arith, leb-true _ _ there))

-- and holdings follow by nothing
abbrev pub no_part : Amount → ℕ
no_part x = 0

pub lots_held_stay : Follows lots_held no_part
lots_held_stay (Lots n) a = (λ free. omega (arith, leb-true _ _ free), λ there. omega (arith, leb-true _ _ there))
lots_held_stay (Money n) a = (λ free. omega arith, λ there. omega arith)

pub money_held_stays : Follows money_held no_part
money_held_stays (Lots n) a = (λ free. omega arith, λ there. omega arith)
money_held_stays (Money n) a = (λ free. omega (arith, leb-true _ _ free), λ there. omega (arith, leb-true _ _ there))

-- what is blocked can be released
pub release_passes : (accounts : List Account) (who : Participant) → is_participant who ≡ true → (x : Amount) →
    in_lots x ≤ lots_blocked (of accounts who) → in_money x ≤ money_blocked (of accounts who) → release_answer accounts who x ≡ Ok tt
release_passes accounts who known (Lots n) lots money = let there = le-leb n.0 (lots_blocked (of accounts who)) lots in simp (known, there)
release_passes accounts who known (Money n) lots money = let there = le-leb n.0 (money_blocked (of accounts who)) money in simp (known, there)

-- no account comes or goes
changed_long : {T E : Type 0} (answer : Result T E) (accounts : List Account) (who : Participant) (change : Account → Account) →
    length accounts ≡ 64 → length (if_ok answer (changed accounts who change) accounts) ≡ 64
changed_long (Ok x) accounts who change long = length-set accounts (who.0 - 1) (change (of accounts who)) ∙ long
changed_long (Err e) accounts who change long = long

pub block_long : (accounts : List Account) (who : Participant) (x : Amount) → length accounts ≡ 64 → length (block_after accounts who x) ≡ 64
block_long accounts who x long = changed_long (block_answer accounts who x) accounts who (blocking x) long

pub release_long : (accounts : List Account) (who : Participant) (x : Amount) → length accounts ≡ 64 → length (release_after accounts who x) ≡ 64
release_long accounts who x long = changed_long (release_answer accounts who x) accounts who (releasing x) long
