use Rattle.std.proofs.Common.{◌≡◌, ◌<◌, ◌≤◌, min, length, drop, subst, arith}
use Rattle.market.specs.Runs.{Run}
use Rattle.market.proofs.Laws.{law, sound_from}
use Rattle.session.specs.Desks.{desk_of, calls_made}
use Rattle.session.proofs.RunSteps.{run_next, made_all, behind_next}
use Rattle.session.proofs.runs.run.Goals as goal

pub loop-i-preserved : goal.loop-i-preserved
loop-i-preserved g c =
    let i = c.loop-i.i in
    let inv = c.loop-i.invariant in
    let low : i < length c.args.calls.now = omega arith in
    let room : i < length c.loop-i.answers = omega arith in
    let made = c.step-answer.ensures in
    record {
      run = run_next (desk_of c.args.session.now c.args.slip) c.args.calls.now c.loop-i.answers i _ (desk_of c.loop-i.session c.loop-i.held) _ c.step-answer.result.0 low room inv.run made.answer made.after;
      behind = behind_next c.loop-i.answers c.args.answers.now i c.step-answer.result.0 inv.behind;
      unspent = λ u. made.unspent (inv.unspent u);
    }

pub returns : goal.returns
returns g c =
    let start = desk_of c.args.session.now c.args.slip in
    let end = desk_of c.loop-i.session c.loop-i.held in
    let i = c.loop-i.i in
    let inv = c.loop-i.invariant in
    let all' : min (length c.args.calls.now) (length c.loop-i.answers) ≤ i = omega arith in
    let n : i ≡ min (length c.args.calls.now) (length c.args.answers.now) = omega arith in
    let made = calls_made c.args.calls.now c.loop-i.answers in
    let done : Run start made end = subst (λ x. Run start x end) (made_all i c.args.calls.now c.loop-i.answers all') inv.run in
    record {
      run = done;
      behind = subst (λ m. drop m c.loop-i.answers ≡ drop m c.args.answers.now) n inv.behind;
      unspent = inv.unspent;
      sound = sound_from start made end (λ _. done);
      law = law;
    }
