-- An amount is of lots or of money; what is done with it touches the account's figures of that kind alone.
use Rattle.std.specs.Prelude.{ℕ, ◌+◌, ◌-◌, Bool, nat_le}
use Rattle.units.specs.Ranges.{most_lots, most_money}
use Rattle.depository.specs.declared.account.Account.{Account}
use Rattle.depository.specs.declared.amount.Amount.{Amount}
use Rattle.depository.specs.declared.amount.Amount.TheVariants.{Lots, Money}
use Rattle.depository.specs.declared.held.Holdings.{Holdings}
use Rattle.depository.specs.Accounts.{account, lots_held, money_held}

abbrev pub size : Amount → ℕ
size (Lots n) = n.0
size (Money n) = n.0

-- the account's free and blocked figures of the amount's kind, and both together
abbrev pub free_of : Amount → Account → ℕ
free_of (Lots n) a = a.free_lots.0
free_of (Money n) a = a.free_money.0

abbrev pub blocked_of : Amount → Account → ℕ
blocked_of (Lots n) a = a.blocked_lots.0
blocked_of (Money n) a = a.blocked_money.0

abbrev pub held_of : Amount → Account → ℕ
held_of (Lots n) = lots_held
held_of (Money n) = money_held

-- the most of its kind that all participants together may hold
abbrev pub most_of : Amount → ℕ
most_of (Lots n) = most_lots
most_of (Money n) = most_money

-- the account with its free and blocked figures of the amount's kind replaced
abbrev pub refigured : Amount → ℕ → ℕ → Account → Account
refigured (Lots n) free blocked a = account free blocked a.free_money.0 a.blocked_money.0
refigured (Money n) free blocked a = account a.free_lots.0 a.blocked_lots.0 free blocked

-- the amount goes from free to blocked, and back
abbrev pub blocking : Amount → Account → Account
blocking x a = refigured x (free_of x a - size x) (blocked_of x a + size x) a

abbrev pub releasing : Amount → Account → Account
releasing x a = refigured x (free_of x a + size x) (blocked_of x a - size x) a

-- the amount comes to what is free, to what is blocked, leaves what is free, leaves what is blocked
abbrev pub gaining : Amount → Account → Account
gaining x a = refigured x (free_of x a + size x) (blocked_of x a) a

abbrev pub securing : Amount → Account → Account
securing x a = refigured x (free_of x a) (blocked_of x a + size x) a

abbrev pub losing : Amount → Account → Account
losing x a = refigured x (free_of x a - size x) (blocked_of x a) a

abbrev pub surrendering : Amount → Account → Account
surrendering x a = refigured x (free_of x a) (blocked_of x a - size x) a

-- whether so much is free, is blocked
abbrev pub has_free : Amount → Account → Bool
has_free x a = nat_le (size x) (free_of x a)

abbrev pub has_blocked : Amount → Account → Bool
has_blocked x a = nat_le (size x) (blocked_of x a)

-- what holdings have of the amount's kind
abbrev pub part_of : Amount → Holdings → ℕ
part_of (Lots n) h = h.lots.0
part_of (Money n) h = h.money.0

-- the holdings with so much more, and with so much less, of the amount's kind
abbrev pub more : Amount → Holdings → Holdings
more (Lots n) h = record { lots = record { 0 = h.lots.0 + n.0 }; money = h.money }
more (Money n) h = record { lots = h.lots; money = record { 0 = h.money.0 + n.0 } }

abbrev pub less : Amount → Holdings → Holdings
less (Lots n) h = record { lots = record { 0 = h.lots.0 - n.0 }; money = h.money }
less (Money n) h = record { lots = h.lots; money = record { 0 = h.money.0 - n.0 } }
