use Rattle.std.proofs.Common.{◌≡◌, [], ◌∷◌, length, sym, subst, arith}
use Rattle.market.specs.Runs.{Run}
use Rattle.market.proofs.Slips.{matched_call}
use Rattle.session.specs.Desks.{desk_of, calls_made}
use Rattle.tape.specs.Desks.{Matched}
use Rattle.tape.proofs.Floors.{one_call}
use Rattle.tape.proofs.desk.Desk.call.Goals as goal

-- the slip is handed on as it was held, so the call begins at this desk
pub invariant_of-self : goal.invariant_of-self
invariant_of-self c =
    let start = desk_of c.self.inside.session c.self.inside.slip in
    let end = desk_of c.run-slip.new.session c.run-slip.result in
    let long : length c.run-slip.new.answers ≡ 1 = omega arith in
    let made = subst (λ s. Run (desk_of c.self.inside.session s) (calls_made (c.args.call ∷ []) c.run-slip.new.answers) end) c.take-held.ensures.value c.run-slip.ensures.run in
    let one = one_call c.args.call c.run-slip.new.answers start end long made in
    subst Matched (sym one) (matched_call c.args.call start c.self.invariant)
