-- Whether anything is blocked, account by account.
use Rattle.std.proofs.Common.{◌≡◌, ℕ, ◌+◌, Bool, true, false, ◌&&◌, eqb, List, [], ◌∷◌, sym, refl, ap, ◌∙◌, arith}
use Rattle.std.specs.List.{list_all}
use Rattle.std.proofs.lemmas.List.Sums.{sum_by-cons}
use Rattle.std.proofs.lemmas.Bool.{eqb-true, eqb-false, ne_eqb}
use Rattle.depository.specs.Accounts.{in_all}
use Rattle.depository.specs.declared.account.Account.{Account}
use Rattle.market.specs.Calls.{nothing_blocked}

abbrev lots_blocked : Account → ℕ
lots_blocked a = a.blocked_lots.0

abbrev money_blocked : Account → ℕ
money_blocked a = a.blocked_money.0

abbrev pub is_free : Account → Bool
is_free a = eqb a.blocked_lots.0 0 && eqb a.blocked_money.0 0

pub all_free : (accounts : List Account) → list_all is_free accounts ≡ nothing_blocked accounts
all_free [] = refl
all_free (a ∷ rest) = by (eqb a.blocked_lots.0 0) (eqb a.blocked_money.0 0) refl refl (all_free rest)
  where
    by : (t u : Bool) → eqb a.blocked_lots.0 0 ≡ t → eqb a.blocked_money.0 0 ≡ u → list_all is_free rest ≡ nothing_blocked rest → ((t && u) && list_all is_free rest) ≡ nothing_blocked (a ∷ rest)
    by true true h k r =
        let lots = eqb-true a.blocked_lots.0 0 h in
        let money = eqb-true a.blocked_money.0 0 k in
        r ∙ ap (λ n. eqb n 0) (omega (arith, lots, money, sum_by-cons lots_blocked a rest, sum_by-cons money_blocked a rest))
    by true false h k r = let money = eqb-false a.blocked_money.0 0 k in sym (ne_eqb (in_all lots_blocked (a ∷ rest) + in_all money_blocked (a ∷ rest)) 0 (λ z. money (omega (arith, z, sum_by-cons lots_blocked a rest, sum_by-cons money_blocked a rest))))
    by false u h k r = let lots = eqb-false a.blocked_lots.0 0 h in sym (ne_eqb (in_all lots_blocked (a ∷ rest) + in_all money_blocked (a ∷ rest)) 0 (λ z. lots (omega (arith, z, sum_by-cons lots_blocked a rest, sum_by-cons money_blocked a rest))))
