-- The law of whole runs.
use Rattle.std.proofs.Common.{◌≡◌, ℕ, true, false, List, [], ◌∷◌, ◌++◌, sym, refl, ap, ◌∙◌, subst, arith}
use Rattle.units.specs.Ranges.{is_participant}
use Rattle.units.specs.declared.participant.Participant.{Participant}
use Rattle.market.specs.declared.deal.Deal.{Deal}
use Rattle.market.specs.declared.call.Call.{Call}
use Rattle.market.specs.Orders.{total}
use Rattle.market.specs.State.{State}
use Rattle.market.specs.Runs.{Desk, Reply, Run, answer_to, session_after, desk_after}
use Rattle.market.specs.Law.{Books, Kept, NewlyOpened, sold_by, bought_by, paid_by, taken_in_by, HoldsByDeals, Law, SoundFrom}
use Rattle.market.proofs.KeptBooks.{books-opened}
use Rattle.market.proofs.KeptCalls.{kept_call, books_call}
use Rattle.market.proofs.KeptHoldings.{HeldAs, held_then, deals_call, held_call}

-- RUNS

-- one run after another is a run, and so is a run with one call more
run_join : (start : Desk) (xs : List (Call × Reply)) (mid : Desk) (ys : List (Call × Reply)) (end : Desk) → Run start xs mid → Run mid ys end → Run start (xs ++ ys) end
run_join start [] mid ys end r q = subst (λ (d : Desk). Run d ys end) (sym r) q
run_join start (x ∷ xs) mid ys end r q = (r.0, run_join (desk_after x.0 start) xs mid ys end r.1 q)

pub run_push : (start : Desk) (made : List (Call × Reply)) (d : Desk) (call : Call) (reply : Reply) → Run start made d → reply ≡ answer_to call d →
    Run start (made ++ ((call, reply) ∷ [])) (desk_after call d)
run_push start made d call reply r e = run_join start made d ((call, reply) ∷ []) (desk_after call d) r (e, refl)

-- what each call leaves holds at the end of a run
run_leaves : (P : State → Type 0) → ((call : Call) (d : Desk) → P d.session → P (session_after call d)) →
    (start : Desk) (made : List (Call × Reply)) (end : Desk) → P start.session → Run start made end → P end.session
run_leaves P step start [] end p r = subst (λ (d : Desk). P d.session) r p
run_leaves P step start (first ∷ made) end p r = run_leaves P step (desk_after first.0 start) made end (step first.0 start p) r.1

pub run_kept : (start : Desk) (made : List (Call × Reply)) (end : Desk) → Kept start.session → Run start made end → Kept end.session
run_kept start made end k r = run_leaves Kept kept_call start made end k r

-- FROM OPENING ON

-- what holds after every call since opening
record Since (opening s : State) : Type 0 where
  kept : Kept s
  books : Books s
  no_deals : s.deals ≡ []
  held : HeldAs opening s

since_opening : (opening : State) → NewlyOpened opening → Since opening opening
since_opening opening new =
    let accounts = opening.accounts in
    let books = books-opened accounts new.everyone new.unblocked in
    record {
      kept = subst Kept (sym new.empty) books;
      books = subst Books (sym new.empty) books;
      no_deals = ap (λ (s : State). s.deals) new.empty;
      held = λ p known. (refl, refl);
    }

since_call : (opening : State) (call : Call) (d : Desk) → Since opening d.session → Since opening (session_after call d)
since_call opening call d since = record {
  kept = kept_call call d since.kept;
  books = books_call call d since.kept since.books;
  no_deals = deals_call call d since.books ∙ since.no_deals;
  held = held_then opening d.session (session_after call d) since.held (held_call call d since.books);
}

-- with no deals everybody holds what it held
held_by_deals : (opening s : State) → Since opening s → (p : Participant) → is_participant p ≡ true → HoldsByDeals opening s p
held_by_deals opening s since p known =
    let none : (figure : Deal → ℕ) → total figure s.deals ≡ 0 = λ figure. ap (total figure) since.no_deals in
    let sold : sold_by p.0 s ≡ 0 = none _ in
    let bought : bought_by p.0 s ≡ 0 = none _ in
    let paid : paid_by p.0 s ≡ 0 = none _ in
    let taken_in : taken_in_by p.0 s ≡ 0 = none _ in
    let same = since.held p known in
    (omega (arith, sold, bought, same.0), omega (arith, paid, taken_in, same.1))

pub law : Law
law opening made end new r =
    let since = run_leaves (Since opening) (since_call opening) (record { session = opening; slip = false }) made end (since_opening opening new) r in
    record {
      balanced = since.books.balanced;
      covered = since.books.covered;
      by_deals = held_by_deals opening end.session since;
    }

-- what a kept session's run leads to is sound, if the session was reached from a newly opened one
pub sound_from : (start : Desk) (made : List (Call × Reply)) (end : Desk) → (Kept start.session → Run start made end) → SoundFrom start end.session
sound_from start made end r opening before new q =
    let kept = run_kept (record { session = opening; slip = false }) before start (since_opening opening new).kept q in
    law opening (before ++ made) end new (run_join (record { session = opening; slip = false }) before start made end q (r kept))
