-- What a change asks of the account alone is what it asks of all accounts, and it keeps the totals within their bounds.
use Rattle.std.proofs.Common.{◌≡◌, ◌+◌, ◌≤◌, Bool, true, false, leb, List, length, IfOk, Ok, Err, Result, sym, refl, ap, ◌∙◌, subst, arith}
use Rattle.std.proofs.lemmas.Bool.{leb-true, le-leb}
use Rattle.units.specs.Answers.{check, given}
use Rattle.units.specs.Ranges.{is_participant}
use Rattle.units.specs.declared.participant.Participant.{Participant}
use Rattle.units.proofs.Checks.{checked_ok, ok_value}
use Rattle.depository.specs.declared.account.Account.{Account}
use Rattle.depository.specs.declared.amount.Amount.{Amount}
use Rattle.depository.specs.declared.amount.Amount.TheVariants.{Lots, Money}
use Rattle.depository.specs.declared.change.Change.{Change}
use Rattle.depository.specs.declared.change.Change.TheVariants.{Block, Release, Gain, Lose, Surrender}
use Rattle.depository.specs.declared.fault.DepositoryFault.{DepositoryFault}
use Rattle.depository.specs.declared.fault.DepositoryFault.TheVariants.{NoParticipant, FreeTooSmall, BlockedTooSmall, PastTotal}
use Rattle.depository.specs.Accounts.{Within, of, changed}
use Rattle.depository.specs.Amounts.{size, free_of, blocked_of, held_of, most_of, has_free, has_blocked, blocking, releasing, gaining, losing, surrendering}
use Rattle.depository.specs.Calls.{balances_answer}
use Rattle.depository.specs.Changes.{decided, after_answer, room_answer}
use Rattle.depository.proofs.Totals.{HoldsNoMore, within_one, within-changed, free_gained, within_gained}

blocking_holds : (x : Amount) (a : Account) → has_free x a ≡ true → HoldsNoMore (blocking x a) a
blocking_holds (Lots n) a h = let k = leb-true _ _ h in (omega arith, omega arith)
blocking_holds (Money n) a h = let k = leb-true _ _ h in (omega arith, omega arith)

releasing_holds : (x : Amount) (a : Account) → has_blocked x a ≡ true → HoldsNoMore (releasing x a) a
releasing_holds (Lots n) a h = let k = leb-true _ _ h in (omega arith, omega arith)
releasing_holds (Money n) a h = let k = leb-true _ _ h in (omega arith, omega arith)

losing_holds : (x : Amount) (a : Account) → HoldsNoMore (losing x a) a
losing_holds (Lots n) a = (omega arith, omega arith)
losing_holds (Money n) a = (omega arith, omega arith)

surrendering_holds : (x : Amount) (a : Account) → HoldsNoMore (surrendering x a) a
surrendering_holds (Lots n) a = (omega arith, omega arith)
surrendering_holds (Money n) a = (omega arith, omega arith)

-- what is blocked and released stays within what is held
fits-blocked : (x : Amount) (a : Account) → has_free x a ≡ true → held_of x a ≤ most_of x → leb (blocked_of x a + size x) (most_of x) ≡ true
fits-blocked (Lots n) a h w = let k = leb-true _ _ h in le-leb _ _ (omega arith)
fits-blocked (Money n) a h w = let k = leb-true _ _ h in le-leb _ _ (omega arith)

fits-released : (x : Amount) (a : Account) → has_blocked x a ≡ true → held_of x a ≤ most_of x → leb (free_of x a + size x) (most_of x) ≡ true
fits-released (Lots n) a h w = let k = leb-true _ _ h in le-leb _ _ (omega arith)
fits-released (Money n) a h w = let k = leb-true _ _ h in le-leb _ _ (omega arith)

-- a second check that always passes after the first is none
spare_check : {T E : Type 0} (test fits : Bool) (e f : E) (next : Result T E) → (test ≡ true → fits ≡ true) → check test e (check fits f next) ≡ check test e next
spare_check true fits e f next h = let t = h refl in simp t
spare_check false fits e f next h = refl

-- an answer by two checks, with a value in the place of its own
given_checked : {T : Type 0} (known test : Bool) (e f : DepositoryFault) (x : T) → known ≡ true → check test f (Ok x) ≡ given (check known e (check test f (Ok (tt {0})))) x
given_checked true true e f x k = refl
given_checked true false e f x k = refl
given_checked false test e f x k = cc

pub after_decides : (xs : List Account) → Within xs → (p : Participant) → is_participant p ≡ true → (c : Change) → Ok tt ≡ room_answer xs c → (a : Account) → a ≡ of xs p → after_answer c a ≡ decided xs p c
after_decides xs w p k c room a old = ap (after_answer c) old ∙ at_own xs w p k c room
  where
    at_own : (xs : List Account) → Within xs → (p : Participant) → is_participant p ≡ true → (c : Change) → Ok (tt {0}) ≡ room_answer xs c → after_answer c (of xs p) ≡ decided xs p c
    at_own xs w p k (Block x) room = spare_check (has_free x (of xs p)) _ FreeTooSmall PastTotal _ (λ h. fits-blocked x (of xs p) h (within_one xs w p x)) ∙ given_checked (is_participant p) (has_free x (of xs p)) NoParticipant FreeTooSmall _ k
    at_own xs w p k (Release x) room = spare_check (has_blocked x (of xs p)) _ BlockedTooSmall PastTotal _ (λ h. fits-released x (of xs p) h (within_one xs w p x)) ∙ given_checked (is_participant p) (has_blocked x (of xs p)) NoParticipant BlockedTooSmall _ k
    at_own xs w p k (Gain x) room =
        let all = (checked_ok _ PastTotal (Ok (tt {0})) tt room).0 in
        let one = le-leb _ _ (free_gained xs p x (leb-true _ _ all)) in
        simp (one, all, k)
    at_own xs w p k (Lose x) room = given_checked (is_participant p) (has_free x (of xs p)) NoParticipant FreeTooSmall _ k
    at_own xs w p k (Surrender x) room = given_checked (is_participant p) (has_blocked x (of xs p)) NoParticipant BlockedTooSmall _ k

-- where an answer by two checks accepts a change that keeps the totals within their bounds, the account that is made keeps them
kept_within : (xs : List Account) (p : Participant) (known test : Bool) (f : DepositoryFault) (change : Account → Account) →
    (known ≡ true → test ≡ true → Within (changed xs p change)) →
    IfOk (given (check known NoParticipant (check test f (Ok (tt {0})))) (change (of xs p))) (λ new. (known ≡ true) × Within (changed xs p (λ _. new)))
kept_within xs p true true f change h = (refl, h refl refl)
kept_within xs p true false f change h = tt
kept_within xs p false test f change h = tt

pub decided-within : (xs : List Account) → Within xs → length xs ≡ 64 → (p : Participant) (c : Change) →
    IfOk (decided xs p c) (λ new. (is_participant p ≡ true) × Within (changed xs p (λ _. new)))
decided-within xs w l p (Block x) = kept_within xs p _ _ _ (blocking x) (λ k h. within-changed xs w l p k (blocking x) (blocking_holds x (of xs p) h))
decided-within xs w l p (Release x) = kept_within xs p _ _ _ (releasing x) (λ k h. within-changed xs w l p k (releasing x) (releasing_holds x (of xs p) h))
decided-within xs w l p (Gain x) = kept_within xs p _ _ _ (gaining x) (λ k h. within_gained xs w l p k x (leb-true _ _ h))
decided-within xs w l p (Lose x) = kept_within xs p _ _ _ (losing x) (λ k h. within-changed xs w l p k (losing x) (losing_holds x (of xs p)))
decided-within xs w l p (Surrender x) = kept_within xs p _ _ _ (surrendering x) (λ k h. within-changed xs w l p k (surrendering x) (surrendering_holds x (of xs p)))

-- what the book's look-up and the account's own answer come to
pub record Decided (xs : List Account) (p : Participant) (c : Change) (r : Result Account DepositoryFault) : Type 0 where
  pub answer : r ≡ decided xs p c
  pub known : IfOk r (λ _. is_participant p ≡ true)
  pub bounded : IfOk r (λ new. Within (changed xs p (λ _. new)))

pub decides : (xs : List Account) → Within xs → length xs ≡ 64 → (p : Participant) (c : Change) (a : Account) (r : Result Account DepositoryFault) →
    Ok a ≡ balances_answer xs p → Ok tt ≡ room_answer xs c → r ≡ after_answer c a → Decided xs p c r
decides xs w long p c a r there room e =
    let m = checked_ok (is_participant p) NoParticipant (Ok (of xs p)) a there in
    let answer = e ∙ after_decides xs w p m.0 c room a (ok_value a (of xs p) m.1) in
    let all = made_at _ (decided xs p c) r (sym answer) (decided-within xs w long p c) in
    record { answer = answer; known = made_part r _ _ (λ x h. h.0) all; bounded = made_part r _ _ (λ x h. h.1) all }
  where
    made_at : {T E : Type 0} (P : T → Type 0) (q r : Result T E) → q ≡ r → IfOk q P → IfOk r P
    made_at P q r e h = let Q : Result _ _ → Type 0 = λ s. IfOk s P in subst Q e h

    made_part : {T E : Type 0} (r : Result T E) (P Q : T → Type 0) → ((x : T) → P x → Q x) → IfOk r P → IfOk r Q
    made_part (Ok x) P Q f h = f x h
    made_part (Err e) P Q f h = tt
