-- No call makes deals yet, and none changes what anybody holds, free and blocked together.
use Rattle.std.proofs.Common.{◌≡◌, ℕ, true, List, [], ◌∷◌, refl, ◌∙◌}
use Rattle.units.specs.Ranges.{is_participant}
use Rattle.units.specs.declared.participant.Participant.{Participant}
use Rattle.depository.specs.Accounts.{of, lots_held, money_held}
use Rattle.market.specs.declared.order.Order.{Order}
use Rattle.market.specs.declared.call.Call.{Call}
use Rattle.market.specs.State.{State}
use Rattle.market.specs.Calls.{next_order, annulled, annulled_each}
use Rattle.market.specs.Runs.{Desk, session_after}
use Rattle.market.specs.Law.{Books}
use Rattle.market.proofs.Accounting.{held_entered, held_annulled}
use Rattle.market.proofs.Annulling.{each_keeps}
use Rattle.market.proofs.KeptBooks.{known-waiting, admitted, books-annulled}
use Rattle.market.proofs.KeptCalls.{call_lasts}

pub deals_call : (call : Call) (d : Desk) → Books d.session → (session_after call d).deals ≡ d.session.deals
deals_call call d b =
    let s = d.session in
    call_lasts (λ t. t.deals ≡ s.deals) call d (record {
      same = refl;
      enters = λ who side limit lots n e. refl;
      annuls = λ n. refl;
      annuls_all = (each_keeps s.orders s).1;
      in_any_phase = λ p t same. same;
    })

-- everybody holds in t what it holds in s
abbrev pub HeldAs : State → State → Type 0
HeldAs s t = (p : Participant) → is_participant p ≡ true →
    (lots_held (of t.accounts p) ≡ lots_held (of s.accounts p)) × (money_held (of t.accounts p) ≡ money_held (of s.accounts p))

pub held_then : (s t u : State) → HeldAs s t → HeldAs t u → HeldAs s u
held_then s t u first next p known = ((next p known).0 ∙ (first p known).0, (next p known).1 ∙ (first p known).1)

held_one : (n : ℕ) (s : State) → Books s → HeldAs s (annulled n s)
held_one n s b = held_annulled n s b.everyone (known-waiting s b) b.covered

pub held_each : (os : List Order) (s : State) → Books s → HeldAs s (annulled_each os s)
held_each [] s b = λ p known. (refl, refl)
held_each (o ∷ os) s b =
    let next = annulled o.number.0 s in
    held_then s next (annulled_each os next) (held_one o.number.0 s b) (held_each os next (books-annulled o.number.0 s b))

pub held_call : (call : Call) (d : Desk) → Books d.session → HeldAs d.session (session_after call d)
held_call call d b =
    let s = d.session in
    call_lasts (HeldAs s) call d (record {
      same = λ p known. (refl, refl);
      enters = λ who side limit lots n e. held_entered s (next_order s who side limit lots) b.everyone (admitted s who side limit lots n e).blocked;
      annuls = λ n. held_one n s b;
      annuls_all = held_each s.orders s b;
      in_any_phase = λ p t same. same;
    })
