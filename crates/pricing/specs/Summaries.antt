-- What asking for the summary gives.
use Rattle.std.specs.Prelude.{ℕ, Bool, cond, List, ◌++◌, length, drop, Ok, Result, nat_le}
use Rattle.units.specs.Answers.{check}
use Rattle.market.specs.declared.order.Resting.{Resting}
use Rattle.market.specs.declared.summary.SummaryLine.{SummaryLine}
use Rattle.market.specs.declared.fault.SessionFault.{SessionFault}
use Rattle.market.specs.declared.fault.SessionFault.TheVariants.{SliceTooShort}
use Rattle.market.specs.Prices.{waiting_limits, summary}

-- how many lines the summary has: one for each waiting limit
abbrev pub line_count : List Resting → List Resting → ℕ
line_count sells buys = length (waiting_limits sells buys)

-- whether the caller's slice has room for them
abbrev pub fits : List Resting → List Resting → List SummaryLine → Bool
fits sells buys lines = nat_le (line_count sells buys) (length lines)

-- the answer: how many lines, or that the slice is too short
abbrev pub summary_answer : List Resting → List Resting → List SummaryLine → Result ℕ SessionFault
summary_answer sells buys lines = check (fits sells buys lines) SliceTooShort (Ok (line_count sells buys))

-- the caller's slice after it: the summary and then what lay behind, or as it was where it is too short
abbrev pub summary_after : List Resting → List Resting → List SummaryLine → List SummaryLine
summary_after sells buys lines = cond (fits sells buys lines) (summary sells buys ++ drop (line_count sells buys) lines) lines
