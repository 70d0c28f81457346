use Rattle.std.proofs.Common.{◌≡◌, ◌++◌, map, take, drop}
use Rattle.pricing.specs.Lines.{summary_of}
use Rattle.pricing.proofs.waiting.write_lines.Given as goal

-- the lines so far, and behind them the slice as it was
abbrev pub invariant-loop-i : goal.invariant-loop-i
invariant-loop-i l = l.lines ≡ map summary_of (take l.i l.walked) ++ drop l.i l.initial.lines
