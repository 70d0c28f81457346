-- What each call of a depository answers, and what it makes of the accounts. A refused call leaves them as they were.
use Rattle.std.specs.Prelude.{◌+◌, ◌&&◌, List, Ok, Result, nat_le}
use Rattle.units.specs.Answers.{check, if_ok}
use Rattle.units.specs.Ranges.{is_participant}
use Rattle.units.specs.declared.participant.Participant.{Participant}
use Rattle.units.specs.declared.quantity.Lots.{Lots as LotsOnly}
use Rattle.units.specs.declared.quantity.Money.{Money as MoneyOnly}
use Rattle.depository.specs.declared.account.Account.{Account}
use Rattle.depository.specs.declared.amount.Amount.{Amount}
use Rattle.depository.specs.declared.amount.Amount.TheVariants.{Lots, Money}
use Rattle.depository.specs.declared.fault.DepositoryFault.{DepositoryFault}
use Rattle.depository.specs.declared.fault.DepositoryFault.TheVariants.{NoParticipant, FreeTooSmall, BlockedTooSmall, PastTotal}
use Rattle.depository.specs.Accounts.{of, changed, in_all}
use Rattle.depository.specs.Amounts.{size, held_of, most_of, has_free, has_blocked, blocking, releasing, gaining, losing, surrendering}

abbrev pub Done : Type 0
Done = Result (Unit {0}) DepositoryFault

-- balances: the participant's account
abbrev pub balances_answer : List Account → Participant → Result Account DepositoryFault
balances_answer accounts p = check (is_participant p) NoParticipant (Ok (of accounts p))

-- block: from free to blocked
abbrev pub block_answer : List Account → Participant → Amount → Done
block_answer accounts p x = check (is_participant p) NoParticipant (check (has_free x (of accounts p)) FreeTooSmall (Ok tt))

abbrev pub block_after : List Account → Participant → Amount → List Account
block_after accounts p x = if_ok (block_answer accounts p x) (changed accounts p (blocking x)) accounts

-- release: from blocked to free
abbrev pub release_answer : List Account → Participant → Amount → Done
release_answer accounts p x = check (is_participant p) NoParticipant (check (has_blocked x (of accounts p)) BlockedTooSmall (Ok tt))

abbrev pub release_after : List Account → Participant → Amount → List Account
release_after accounts p x = if_ok (release_answer accounts p x) (changed accounts p (releasing x)) accounts

-- an amount leaves what one participant has blocked and comes to what another, or the same, has free
abbrev pub handed_over : List Account → Participant → Participant → Amount → List Account
handed_over accounts giver taker x = changed (changed accounts giver (surrendering x)) taker (gaining x)

-- deliver: the seller hands lots over to the buyer, and the buyer money to the seller
abbrev pub deliver_answer : List Account → Participant → Participant → LotsOnly → MoneyOnly → Done
deliver_answer accounts seller buyer n m =
    check (is_participant seller && is_participant buyer) NoParticipant
    (check (has_blocked (Lots n) (of accounts seller) && has_blocked (Money m) (of accounts buyer)) BlockedTooSmall (Ok tt))

abbrev pub delivered : List Account → Participant → Participant → LotsOnly → MoneyOnly → List Account
delivered accounts seller buyer n m = handed_over (handed_over accounts seller buyer (Lots n)) buyer seller (Money m)

abbrev pub deliver_after : List Account → Participant → Participant → LotsOnly → MoneyOnly → List Account
deliver_after accounts seller buyer n m = if_ok (deliver_answer accounts seller buyer n m) (delivered accounts seller buyer n m) accounts

-- pay in: what is free grows, as far as all participants' total of that kind allows
abbrev pub pay_in_answer : List Account → Participant → Amount → Done
pay_in_answer accounts p x =
    check (is_participant p) NoParticipant (check (nat_le (in_all (held_of x) accounts + size x) (most_of x)) PastTotal (Ok tt))

abbrev pub pay_in_after : List Account → Participant → Amount → List Account
pay_in_after accounts p x = if_ok (pay_in_answer accounts p x) (changed accounts p (gaining x)) accounts

-- pay out: what is free shrinks
abbrev pub pay_out_answer : List Account → Participant → Amount → Done
pay_out_answer accounts p x = check (is_participant p) NoParticipant (check (has_free x (of accounts p)) FreeTooSmall (Ok tt))

abbrev pub pay_out_after : List Account → Participant → Amount → List Account
pay_out_after accounts p x = if_ok (pay_out_answer accounts p x) (changed accounts p (losing x)) accounts
