-- One change of one account.
use Rattle.std.specs.Prelude.{◌+◌, List, Ok, Result, nat_le}
use Rattle.units.specs.Answers.{check, if_ok, given}
use Rattle.units.specs.Ranges.{is_participant}
use Rattle.units.specs.declared.participant.Participant.{Participant}
use Rattle.depository.specs.declared.account.Account.{Account}
use Rattle.depository.specs.declared.change.Change.{Change}
use Rattle.depository.specs.declared.change.Change.TheVariants.{Block, Release, Gain, Lose, Surrender}
use Rattle.depository.specs.declared.fault.DepositoryFault.{DepositoryFault}
use Rattle.depository.specs.declared.fault.DepositoryFault.TheVariants.{NoParticipant, FreeTooSmall, BlockedTooSmall, PastTotal}
use Rattle.depository.specs.Accounts.{in_all, of, changed}
use Rattle.depository.specs.Amounts.{size, free_of, blocked_of, held_of, most_of, has_free, has_blocked, blocking, releasing, gaining, losing, surrendering}
use Rattle.depository.specs.Calls.{Done, block_answer, release_answer, pay_in_answer, pay_out_answer}

-- the account after the change
abbrev pub changing : Change → Account → Account
changing (Block x) = blocking x
changing (Release x) = releasing x
changing (Gain x) = gaining x
changing (Lose x) = losing x
changing (Surrender x) = surrendering x

-- what the change asks of all accounts
abbrev pub change_answer : List Account → Participant → Change → Done
change_answer accounts p (Block x) = block_answer accounts p x
change_answer accounts p (Release x) = release_answer accounts p x
change_answer accounts p (Gain x) = pay_in_answer accounts p x
change_answer accounts p (Lose x) = pay_out_answer accounts p x
change_answer accounts p (Surrender x) =
    check (is_participant p) NoParticipant (check (has_blocked x (of accounts p)) BlockedTooSmall (Ok tt))

abbrev pub change_after : List Account → Participant → Change → List Account
change_after accounts p change = if_ok (change_answer accounts p change) (changed accounts p (changing change)) accounts

-- the participant's account after the change, or the refusal
abbrev pub decided : List Account → Participant → Change → Result Account DepositoryFault
decided accounts p change = given (change_answer accounts p change) (changing change (of accounts p))

-- what the change asks of the account alone: what it takes is there, and no figure passes the greatest total of its kind
abbrev pub after_answer : Change → Account → Result Account DepositoryFault
after_answer (Block x) a = check (has_free x a) FreeTooSmall (check (nat_le (blocked_of x a + size x) (most_of x)) PastTotal (Ok (blocking x a)))
after_answer (Release x) a = check (has_blocked x a) BlockedTooSmall (check (nat_le (free_of x a + size x) (most_of x)) PastTotal (Ok (releasing x a)))
after_answer (Gain x) a = check (nat_le (free_of x a + size x) (most_of x)) PastTotal (Ok (gaining x a))
after_answer (Lose x) a = check (has_free x a) FreeTooSmall (Ok (losing x a))
after_answer (Surrender x) a = check (has_blocked x a) BlockedTooSmall (Ok (surrendering x a))

-- whether there is room in all for what comes in
abbrev pub room_answer : List Account → Change → Done
room_answer accounts (Block x) = Ok tt
room_answer accounts (Release x) = Ok tt
room_answer accounts (Gain x) = check (nat_le (in_all (held_of x) accounts + size x) (most_of x)) PastTotal (Ok tt)
room_answer accounts (Lose x) = Ok tt
room_answer accounts (Surrender x) = Ok tt
