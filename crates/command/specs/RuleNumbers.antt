-- The numbers of the rules.
use Rattle.std.specs.Prelude.{ℕ, ◌==◌, cond, Ok, Err, Result}
use Rattle.command.specs.declared.rule.Rule.{Rule}
use Rattle.command.specs.declared.rule.Rule.TheVariants.{ByTime, ProRata}
use Rattle.command.specs.declared.rule.UnknownRule.{UnknownRule}

-- the rule that a number names: 0, by time, and 1, pro rata; any other is no rule's, and kept
abbrev pub rule_of : ℕ → Result Rule UnknownRule
rule_of n = cond (n == 0) (Ok ByTime) (cond (n == 1) (Ok ProRata) (Err (record { 0 = n })))
