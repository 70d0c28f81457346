use Rattle.std.proofs.Common.{◌≡◌, take, drop}
use Rattle.market.specs.Runs.{Run}
use Rattle.session.specs.Desks.{desk_of, calls_made}
use Rattle.session.specs.Slips.{IsUnspent}
use Rattle.session.proofs.runs.run.Given as goal

-- the calls so far are a run, their answers are written, what lies behind is as it was, and a slip that is held is not spent
abbrev pub invariant-loop-i : goal.invariant-loop-i
invariant-loop-i g l = record {
  run : Run (desk_of l.initial.session l.initial.held) (calls_made (take l.i l.calls) (take l.i l.answers)) (desk_of l.session l.held);
  behind : drop l.i l.answers ≡ drop l.i l.initial.answers;
  unspent : IsUnspent l.initial.held → IsUnspent l.held;
}
