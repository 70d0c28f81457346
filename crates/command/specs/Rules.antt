use Rattle.std.specs.Prelude.{Bool, true, Ok, Result, is_ok}
use Rattle.units.specs.Answers.{check}
use Rattle.command.specs.declared.command.Command.{Command}
use Rattle.command.specs.declared.command.Command.TheVariants.{PayIn, Open, Submit, Withdraw, Strike, Add, Deal, Annul, Close}
use Rattle.command.specs.declared.fault.TapeFault.{TapeFault}
use Rattle.command.specs.declared.fault.TapeFault.TheVariants.{NoSuchRule}

-- whether a rule that a command names is one of the two. Only a deal names one, so all others pass
abbrev pub names_no_unknown_rule : Command → Bool
names_no_unknown_rule (PayIn participant what) = true
names_no_unknown_rule Open = true
names_no_unknown_rule (Submit order) = true
names_no_unknown_rule (Withdraw participant order) = true
names_no_unknown_rule Strike = true
names_no_unknown_rule (Add participant side lots) = true
names_no_unknown_rule (Deal rule) = is_ok rule
names_no_unknown_rule Annul = true
names_no_unknown_rule Close = true

-- a command whose rule there is; else it is refused
abbrev pub checked_of : Command → Result Command TapeFault
checked_of command = check (names_no_unknown_rule command) NoSuchRule (Ok command)
