-- A sparse depository has entries for some participants alone; for the others, nothing is held.
use Rattle.std.specs.Prelude.{ℕ, ◌+◌, Bool, true, cond, not, ◌&&◌, List, [], ◌∷◌, map, ◌==◌, nat_le}
use Rattle.std.specs.List.{range_with_len}
use Rattle.units.specs.declared.participant.Participant.{Participant}
use Rattle.ordered_list.specs.Keys.{upward}
use Rattle.ordered_list.specs.Order.{placed}
use Rattle.depository.specs.declared.account.Account.{Account}
use Rattle.sparse_depository.specs.declared.entry.AccountEntry.{AccountEntry}
use Rattle.depository.specs.Accounts.{empty, is_empty}

abbrev pub number : AccountEntry → ℕ
number e = e.who.0

-- entries are in the order of their participants
abbrev pub by_participant : AccountEntry → AccountEntry → Bool
by_participant = upward number

-- what the entries say of a participant
abbrev pub look : List AccountEntry → ℕ → Account
look [] p = empty
look (e ∷ entries) p = cond (number e == p) e.account (look entries p)

-- the accounts of participants 1 to 64 (shut, since it computes to 64 parts)
unfoldable pub accounts_of : List AccountEntry → List Account
accounts_of entries = map (look entries) (range_with_len 1 64)

-- the participants' numbers rise, from low on and up to 64
abbrev pub rising : ℕ → List AccountEntry → Bool
rising low [] = true
rising low (e ∷ entries) = nat_le low (number e) && (nat_le (number e) 64 && rising (number e + 1) entries)

-- every entry is of somebody who holds something
abbrev pub all_hold : List AccountEntry → Bool
all_hold [] = true
all_hold (e ∷ entries) = not (is_empty e.account) && all_hold entries

-- the entries other than a participant's
abbrev pub without : ℕ → List AccountEntry → List AccountEntry
without p [] = []
without p (e ∷ entries) = cond (number e == p) (without p entries) (e ∷ without p entries)

-- a participant's account is replaced: its entry goes, and a new one comes where something is held
abbrev pub replaced : Participant → Account → List AccountEntry → List AccountEntry
replaced p a entries = cond (is_empty a) (without p.0 entries) (placed by_participant (record { who = p; account = a }) (without p.0 entries))

-- an entry of no participant, which stands in memory that no entry uses
abbrev pub nobody : AccountEntry
nobody = record { who = record { 0 = 0 }; account = empty }
