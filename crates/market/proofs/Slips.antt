-- From a newly opened session on, the slip is held just while the session is struck.
use Rattle.std.proofs.Common.{◌≡◌, Bool, true, false, cond, is_some, Some, None, Ok, Err, Option, Result, sym, refl, ap, ◌∙◌}
use Rattle.std.proofs.lemmas.Bool.{false≢true, cond_both}
use Rattle.units.specs.Answers.{if_ok}
use Rattle.units.specs.declared.quantity.Price.{Price}
use Rattle.units.specs.declared.quantity.Lots.{Lots}
use Rattle.market.specs.declared.phase.Phase.{Phase}
use Rattle.market.specs.declared.phase.Phase.TheVariants.{Gathering, Struck, Continuous, Closed}
use Rattle.market.specs.declared.call.Call.{Call}
use Rattle.market.specs.declared.call.Call.TheVariants.{Submit, Withdraw, Strike, Annul, Close}
use Rattle.market.specs.declared.fault.SessionFault.{SessionFault}
use Rattle.market.specs.declared.fault.SessionFault.TheVariants.{WrongPhase}
use Rattle.market.specs.Orders.{lots_in}
use Rattle.market.specs.CutOff.{cut_off_found}
use Rattle.market.specs.State.{State, in_phase, waiting, is_gathering, is_struck, is_trading}
use Rattle.market.specs.Calls.{submit_answer, withdraw_answer, strike_answer, strike_after, annul_answer, annul_after, struck_by, all_annulled, entered, next_order, annulled}
use Rattle.market.specs.Runs.{Desk, session_after, slip_after}
use Rattle.market.proofs.Annulling.{each_keeps}
use Rattle.market.proofs.KeptCalls.{if_ok_lem}

-- the slip of a desk matches its phase
abbrev pub Matched : Desk → Type 0
Matched d = d.slip ≡ is_struck d.session.phase

-- a strike that finds a cut-off gives a slip
found_matched : (found : Option Price) (s : State) → false ≡ is_struck s.phase → is_some found ≡ is_struck (struck_by found s).phase
found_matched (Some c) s m = refl
found_matched None s m = m ∙ sym (ap is_struck (each_keeps s.orders s).2)

strike_matched : (held : Bool) (s : State) → held ≡ is_struck s.phase →
    cond held true (if_ok (strike_answer s) (is_some (cut_off_found s.sells s.buys)) false) ≡ is_struck (cond held s (strike_after s)).phase
strike_matched true s m = m
strike_matched false s m =
    let found = cut_off_found s.sells s.buys in
    let Matches : Result (Option Price) SessionFault → Type 0 = λ r. if_ok r (is_some found) false ≡ is_struck (if_ok r (struck_by found s) s).phase in
    cond_both (is_gathering s.phase) (Ok found) (Err WrongPhase) Matches (λ _. found_matched found s m) (λ _. m)

-- an annulling takes it
annul_matched : (held : Bool) (s : State) → held ≡ is_struck s.phase →
    cond held (if_ok (annul_answer s) false true) false ≡ is_struck (cond held (annul_after s) s).phase
annul_matched true s m =
    let Matches : Result Lots SessionFault → Type 0 = λ r. if_ok r false true ≡ is_struck (if_ok r (in_phase Gathering (all_annulled s)) s).phase in
    cond_both (is_struck s.phase) (Ok (record { 0 = lots_in (waiting s) })) (Err WrongPhase) Matches (λ _. refl) (λ _. m)
annul_matched false s m = m

-- and what can be closed is not struck
not_struck : (p : Phase) → is_trading p ≡ true → is_struck p ≡ false
not_struck Gathering t = refl
not_struck (Struck c) t = absurd (false≢true t)
not_struck Continuous t = refl
not_struck Closed t = refl

pub matched_call : (call : Call) (d : Desk) → Matched d → slip_after call d ≡ is_struck (session_after call d).phase
matched_call (Submit o) d m =
    let s = d.session in
    if_ok_lem (submit_answer s o.participant o.side o.limit o.lots) (entered s (next_order s o.participant o.side o.limit o.lots)) s (λ t. d.slip ≡ is_struck t.phase) (λ n e. m) m
matched_call (Withdraw who n) d m =
    let s = d.session in
    if_ok_lem (withdraw_answer s who n) (annulled n.0 s) s (λ t. d.slip ≡ is_struck t.phase) (λ lots e. m) m
matched_call Strike d m = strike_matched d.slip d.session m
matched_call Annul d m = annul_matched d.slip d.session m
matched_call Close d m =
    let s = d.session in
    let Matches : Result Lots SessionFault → Type 0 = λ r. d.slip ≡ is_struck (if_ok r (in_phase Closed (all_annulled s)) s).phase in
    cond_both (is_trading s.phase) (Ok (record { 0 = lots_in (waiting s) })) (Err WrongPhase) Matches (λ trades. m ∙ not_struck s.phase trades) (λ _. m)
