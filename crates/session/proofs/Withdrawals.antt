-- Withdraw, once the order is known to be the participant's own.
use Rattle.std.proofs.Common.{◌≡◌, ◌<◌, true, eqb, ltb, [], ◌∷◌, ◌++◌, Some, None, Ok, Option, Result, sym, ap, ◌∙◌, subst, arith}
use Rattle.std.specs.List.{AllByRecursion}
use Rattle.std.specs.Option.{ok_or}
use Rattle.std.proofs.ByRecursion.{all_kept_by, All-weaker}
use Rattle.std.proofs.lemmas.Bool.{lt-ltb, le-ltb}
use Rattle.units.specs.Answers.{check, if_ok, answered}
use Rattle.units.specs.Ranges.{is_participant}
use Rattle.units.specs.declared.participant.Participant.{Participant}
use Rattle.units.specs.declared.quantity.Lots.{Lots}
use Rattle.depository.specs.Calls.{release_answer, release_after}
use Rattle.market.specs.declared.order.OrderNumber.{OrderNumber}
use Rattle.market.specs.declared.order.Resting.{Resting}
use Rattle.market.specs.declared.fault.SessionFault.{SessionFault}
use Rattle.market.specs.declared.fault.SessionFault.TheVariants.{NothingWaits}
use Rattle.market.specs.Orders.{number_of, lots_of, waiting_lots, cover_of}
use Rattle.market.specs.State.{State, waiting, is_trading}
use Rattle.market.specs.Calls.{is_own, cancellation_of, annulled, withdraw_answer, withdraw_after}
use Rattle.market.specs.Law.{Books}
use Rattle.market.proofs.KeptBooks.{release_passes_one}
use Rattle.session.specs.Lists.{first_with, without_first}
use Rattle.session.proofs.Annulments.{first_is, first_number, none_of, first_none, annulled_one}

-- what waits of it is the answer
pub withdraws : (s : State) (who : Participant) (n : OrderNumber) (found : Option Resting) → is_trading s.phase ≡ true → is_participant who ≡ true → is_own s who n ≡ true →
    first_with n.0 (waiting s) ≡ found → Books s → answered (λ (e : Resting). e.lots) (ok_or found NothingWaits) ≡ withdraw_answer s who n
withdraws s who n found trades known own f b = by found f ∙ sym (simp (trades, known, own))
  where
    by : (o : Option Resting) → first_with n.0 (waiting s) ≡ o →
        answered (λ (e : Resting). e.lots) (ok_or o NothingWaits) ≡ check (ltb 0 (waiting_lots n.0 (waiting s))) NothingWaits (Ok (record { 0 = waiting_lots n.0 (waiting s) }))
    by (Some e) f =
        let i = first_is n.0 (waiting s) e b.distinct f in
        let waits = All-weaker (λ x. (0 < lots_of x) × _) (λ x. 0 < lots_of x) (λ x h. h.0) (waiting s) b.lots_wait in
        let some = (subst (AllByRecursion (λ x. 0 < lots_of x)) i.0 (all_kept_by (λ x. eqb (number_of x) n.0) (λ x. 0 < lots_of x) (waiting s) waits)).0 in
        let t : ltb 0 (waiting_lots n.0 (waiting s)) ≡ true = lt-ltb 0 (waiting_lots n.0 (waiting s)) (omega (arith, some, i.1)) in
        ap (λ k. Ok (record { 0 = k })) (sym i.1) ∙ sym (simp t)
    by None f =
        let z = (none_of n.0 (waiting s) (first_none n.0 (waiting s) f)).2 in
        let t = le-ltb 0 (waiting_lots n.0 (waiting s)) (omega (arith, z)) in
        sym (simp t)

-- its cover is there
pub cover_waits : (s : State) (n : OrderNumber) (e : Resting) → Books s → first_with n.0 (waiting s) ≡ Some e → release_answer s.accounts e.order.participant (cover_of e) ≡ Ok tt
cover_waits s n e b found = release_passes_one s n.0 e b (first_is n.0 (waiting s) e b.distinct found).0

-- it goes, its cover is released, and it is noted
pub withdrawn : (s t : State) (who : Participant) (n : OrderNumber) (e : Resting) → Books s → first_with n.0 (waiting s) ≡ Some e → withdraw_answer s who n ≡ Ok e.lots →
    t.phase ≡ s.phase → t.orders ≡ s.orders → t.sells ≡ without_first (number_of e) s.sells → t.buys ≡ without_first (number_of e) s.buys → t.deals ≡ s.deals →
    t.cancellations ≡ s.cancellations ++ (cancellation_of e ∷ []) → t.accounts ≡ release_after s.accounts e.order.participant (cover_of e) →
    t ≡ withdraw_after s who n
withdrawn s t who n e b found answer phase orders sells buys deals cancellations accounts =
    let same = first_number n.0 (waiting s) e found in
    annulled_one n.0 s t e b.distinct found phase orders
    (sells ∙ ap (λ k. without_first k s.sells) same)
    (buys ∙ ap (λ k. without_first k s.buys) same)
    deals cancellations accounts
    ∙ sym (ap (λ (a : Result Lots SessionFault). if_ok a (annulled n.0 s) s) answer)
