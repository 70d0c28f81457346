use Rattle.std.proofs.Common.{◌≡◌, ◌++◌, take, string_bytes}
use Rattle.std.specs.List.{flat_map}
use Rattle.report.specs.Lines.{line_with, Prints}
use Rattle.report.proofs.text.append.Given as goal

-- the lines so far stand behind the text
abbrev pub invariant-loop-line : goal.invariant-loop-line
invariant-loop-line g l = Prints g.T.Display.output → string_bytes l.text ≡ string_bytes l.initial.text ++ flat_map (line_with g.T.Display.output) (take l.line-index l.lines)
