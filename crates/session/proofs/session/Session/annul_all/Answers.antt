use Rattle.std.proofs.Common.{◌≡◌, ◌+◌, ◌-◌, length, take, drop, is_ok, Some, None, sym, refl, ap, ◌∙◌, subst, arith}
use Rattle.depository.specs.Calls.{release_answer, release_after}
use Rattle.market.specs.Calls.{all_annulled}
use Rattle.market.specs.Law.{Kept}
use Rattle.session.specs.States.{state_of}
use Rattle.session.proofs.Clearing.{Cleared, order_slots, order_slots_are, slot_found, filled_orders, room_next, order_slots_long, emptied, queues_emptied, cleared_none, cleared_passes, cleared_one, cleared_all}
use Rattle.session.proofs.Keeping.{kept_all}
use Rattle.session.proofs.Slotting.{filled_more}
use Rattle.session.proofs.session.Session.annul_all.Given as given
use Rattle.session.proofs.session.Session.annul_all.Goals as goal
use Rattle.session.proofs.session.Session.annul_all.Goals.{After-len, After-loop-slot, in-Some, in_default}

-- the slots that the loop goes through
slots_are : (g : given.Over) (c : After-len g) → take (c.len.result + 1 - 1) (drop 1 c.by_number-slots.result) ≡ order_slots c.args.self.now.state
slots_are g c =
    let x = c.self.inside in
    order_slots_are c.args.self.now.state x.phase x.book (g.D.AccountBook.accounts x.depository) c.len.result c.by_number-slots.result
    (ap (λ v. v.state) c.self.view_is) (c.len.ensures.value ∙ ap (λ v. length v.items) c.empty_queues.ensures.orders) c.by_number-slots.ensures

-- the loop begins with the state of the entry, but for the queues, and what waits, laid out, needs no more room than it had
pub loop-slot-init : goal.loop-slot-init
loop-slot-init g c =
    let x = c.self.inside in
    let e = c.empty_queues.ensures in
    record {
      sells = e.sells;
      buys = e.buys;
      room = omega (arith, filled_orders x.book (c.len.result + 1 - 1) c.by_number-slots.result c.by_number-slots.ensures, x.book.cancelled_once, ap (λ v. length v.items) e.orders, ap (λ v. length v.items) e.cancellations);
      annulled_so_far = queues_emptied x.phase (g.D.AccountBook.accounts x.depository) x.book c.empty_queues.new.self e.orders e.sells e.buys e.deals e.cancellations ∙ ap (λ v. emptied v.state) c.self.view_is;
    }

-- an entry is left to be noted, so there is room for one
pub note-requires : goal.note-requires
note-requires g c =
    let inv = c.loop-slot.invariant in
    omega (arith, ap length inv.sells, ap length inv.buys, inv.room, filled_more _ c.loop-slot.slot-index (Some c.in-Some.entry) c.loop-slot-test.true c.in-Some.is)

-- the cover of what waited is there, so its release is not refused
pub unwrap-requires : goal.unwrap-requires
unwrap-requires g c =
    let s = c.args.self.now.state in
    let x = c.loop-slot.self-inside in
    let t = state_of x.phase x.book (g.D.AccountBook.accounts x.depository) in
    let i = c.loop-slot.slot-index in
    let e = c.in-Some.entry in
    let found = slot_found s _ i (Some e) c.requires (slots_are g (goal.at.unwrap-requires g c).After-len) c.loop-slot-test.true c.in-Some.is in
    let answer = c.release.ensures.answer ∙ ap (release_answer t.accounts e.order.participant) c.cover.ensures ∙ cleared_passes i s t e c.requires c.loop-slot.invariant.annulled_so_far found.0 in
    ap is_ok answer

pub loop-slot-preserved : goal.loop-slot-preserved
loop-slot-preserved g c =
    let accounts = g.D.AccountBook.accounts in
    let s = c.args.self.now.state in
    let x = c.loop-slot.self-inside in
    let t = state_of x.phase x.book (accounts x.depository) in
    let i = c.loop-slot.slot-index in
    let inv = c.loop-slot.invariant in
    let slots = take (c.len.result + 1 - 1) (drop 1 c.by_number-slots.result) in
    let are : slots ≡ order_slots s = slots_are g (goal.at.loop-slot-preserved g c).After-len in
    let low = c.loop-slot-test.true in
    elim c.match-slot.branch [
      | in-Some w ↦
          let e = w.in-Some.entry in
          let n = w.note.ensures in
          let found = slot_found s slots i (Some e) c.requires are low w.in-Some.is in
          subst (λ y. Cleared s y.phase y.book (accounts y.depository) slots (i + 1)) (sym w.self-inside-is) (
          record {
            sells = n.sells ∙ inv.sells;
            buys = n.buys ∙ inv.buys;
            room = room_next x.book w.note.new.self _ slots i e low w.in-Some.is n.orders n.cancellations inv.room;
            annulled_so_far = cleared_one i s t _ e c.requires found.1 inv.annulled_so_far found.0 refl
                (ap (λ v. v.items) n.orders) n.sells n.buys (ap (λ v. v.items) n.deals) n.cancellations
                (w.release.ensures.after ∙ ap (release_after t.accounts e.order.participant) w.cover.ensures);
          }
          )
      | in_default w ↦
          let found = slot_found s slots i None c.requires are low w.in_default.is in
          subst (λ y. Cleared s y.phase y.book (accounts y.depository) slots (i + 1)) (sym w.self-inside-is) (
          record {
            sells = inv.sells;
            buys = inv.buys;
            room = omega (arith, filled_more slots i None low w.in_default.is, inv.room);
            annulled_so_far = cleared_none i s t c.requires found.1 inv.annulled_so_far found.0;
          }
          )
    ]

-- all orders are annulled
after : (g : given.Over) (c : After-loop-slot g) →
    state_of c.loop-slot.self-inside.phase c.loop-slot.self-inside.book (g.D.AccountBook.accounts c.loop-slot.self-inside.depository) ≡ all_annulled c.args.self.now.state
after g c =
    let s = c.args.self.now.state in
    let x = c.loop-slot.self-inside in
    cleared_all c.loop-slot.slot-index s (state_of x.phase x.book (g.D.AccountBook.accounts x.depository)) c.requires
    (omega (arith, c.loop-slot-test.false, ap length (slots_are g (goal.at.returns-clause-after g c).After-len), order_slots_long s c.requires)) c.loop-slot.invariant.annulled_so_far

pub invariant_of-self : goal.invariant_of-self
invariant_of-self g c =
    let kept : Kept c.args.self.now.state = subst (λ v. Kept v.state) c.self.view_is c.self.invariant in
    subst Kept (sym (after g c)) (kept_all c.args.self.now.state c.requires kept)

pub returns-clause-after : goal.returns-clause-after
returns-clause-after g c = after g c
