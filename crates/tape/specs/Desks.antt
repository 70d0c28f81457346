-- A session after open, and the slip that is kept with it.
use Rattle.std.specs.Prelude.{◌≡◌, false, List}
use Rattle.depository.specs.declared.account.Account.{Account}
use Rattle.table_depository.specs.declared.table.TableDepository.{TableDepository}
use Rattle.market.specs.declared.call.Call.TheVariants.{Annul, Close}
use Rattle.market.specs.State.{is_struck}
use Rattle.market.specs.Calls.{opened}
use Rattle.market.specs.Runs.{Desk, desk_after}

abbrev pub accounts_in : TableDepository → List Account
accounts_in t = t.accounts

-- what every desk of a run is like: the slip is held just while the session is struck
abbrev pub Matched : Desk → Type 0
Matched d = d.slip ≡ is_struck d.session.phase

-- a session opened over these accounts, with no slip
abbrev pub newly_opened : List Account → Desk
newly_opened accounts = record { session = opened accounts; slip = false }

-- a session that is not closed is annulled if struck, and closed
abbrev pub annulled_and_closed : Desk → Desk
annulled_and_closed d = desk_after Close (desk_after Annul d)
