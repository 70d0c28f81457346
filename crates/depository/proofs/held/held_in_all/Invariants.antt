use Rattle.std.proofs.Common.{◌≡◌, ◌+◌, drop}
use Rattle.depository.specs.Accounts.{in_all, lots_held, money_held}
use Rattle.depository.proofs.held.held_in_all.Given as goal

abbrev pub invariant-loop-account : goal.invariant-loop-account
invariant-loop-account g l =
    let rest = drop l.account-iterator.passed (g.B.AccountBook.accounts l.account-iterator.book.now) in
    record {
      lots : l.held.lots.0 + in_all lots_held rest ≡ in_all lots_held (g.B.AccountBook.accounts l.book);
      money : l.held.money.0 + in_all money_held rest ≡ in_all money_held (g.B.AccountBook.accounts l.book);
    }
