-- A hand-over's second change is not refused.
use Rattle.std.proofs.Common.{◌≡◌, ◌+◌, ◌≤◌, true, List, length, Ok, sym, ◌∙◌, subst}
use Rattle.std.proofs.lemmas.Bool.{le-leb, cond-true}
use Rattle.units.specs.Ranges.{is_participant}
use Rattle.units.specs.declared.participant.Participant.{Participant}
use Rattle.depository.specs.declared.account.Account.{Account}
use Rattle.depository.specs.declared.amount.Amount.{Amount}
use Rattle.depository.specs.declared.change.Change.TheVariants.{Gain}
use Rattle.depository.specs.Accounts.{in_all, Within, of, changed}
use Rattle.depository.specs.Amounts.{size, held_of, most_of, has_blocked, surrendering}
use Rattle.depository.specs.Changes.{change_answer}
use Rattle.depository.proofs.Totals.{room_surrendered}

-- what was surrendered may be gained
pub gained : (xs ys : List Account) → Within xs → length xs ≡ 64 → (s b : Participant) (x : Amount) →
    is_participant s ≡ true → is_participant b ≡ true → has_blocked x (of xs s) ≡ true → ys ≡ changed xs s (surrendering x) → change_answer ys b (Gain x) ≡ Ok tt
gained xs ys w long s b x ks kb has moved =
    let P : List Account → Type 0 = λ ws. in_all (held_of x) ws + size x ≤ most_of x in
    let room = le-leb _ _ (subst P (sym moved) (room_surrendered xs w long s ks x has)) in
    cond-true _ _ _ kb ∙ cond-true _ _ _ room
