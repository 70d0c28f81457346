-- The accounts of all participants, as a list: participant 1 is at index 0, participant 64 at index 63.
use Rattle.std.specs.Prelude.{ℕ, ◌+◌, ◌-◌, ◌≤◌, Bool, ◌&&◌, List, ◌==◌, slice_index_or, slice_set, sum_by}
use Rattle.units.specs.Ranges.{most_lots, most_money}
use Rattle.units.specs.declared.participant.Participant.{Participant}
use Rattle.depository.specs.declared.account.Account.{Account}

-- free lots, blocked lots, free money, blocked money
abbrev pub account : ℕ → ℕ → ℕ → ℕ → Account
account lots_free lots_blocked money_free money_blocked = record {
  free_lots = record { 0 = lots_free };
  blocked_lots = record { 0 = lots_blocked };
  free_money = record { 0 = money_free };
  blocked_money = record { 0 = money_blocked };
}

abbrev pub empty : Account
empty = account 0 0 0 0

-- all four amounts are 0
abbrev pub is_empty : Account → Bool
is_empty a = a.free_lots.0 == 0 && (a.blocked_lots.0 == 0 && (a.free_money.0 == 0 && a.blocked_money.0 == 0))

-- holdings are free plus blocked
abbrev pub lots_held : Account → ℕ
lots_held a = a.free_lots.0 + a.blocked_lots.0

abbrev pub money_held : Account → ℕ
money_held a = a.free_money.0 + a.blocked_money.0

-- a figure of each account, added up over all of them
abbrev pub in_all : (Account → ℕ) → List Account → ℕ
in_all = sum_by

-- all participants together hold no more than the market allows
abbrev pub Within : List Account → Type 0
Within accounts = (in_all lots_held accounts ≤ most_lots) × (in_all money_held accounts ≤ most_money)

-- a participant's account
abbrev pub of : List Account → Participant → Account
of accounts p = slice_index_or accounts (p.0 - 1) empty

-- the accounts with a participant's own changed
abbrev pub changed : List Account → Participant → (Account → Account) → List Account
changed accounts p change = slice_set accounts (p.0 - 1) (change (of accounts p))
