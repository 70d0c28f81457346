-- The answer to a command: where it stands, and what it came to.
use Rattle.std.specs.Prelude.{ℕ, List, [], ◌∷◌, Some, None, Ok, Err, Option, Result, decimal}
use Rattle.units.specs.declared.refusal.RefusalCode.{RefusalCode}
use Rattle.market.specs.declared.call.Outcome.{Outcome}
use Rattle.market.specs.declared.call.Outcome.TheVariants.{Accepted, Withdrawn, CutOff, Abandoned, Annulled}
use Rattle.command.specs.Refusals.{code_of}
use Rattle.command.specs.declared.fault.TapeFault.{TapeFault}
use Rattle.tape.specs.declared.answer.TapeAnswer.{TapeAnswer}
use Rattle.tape.specs.declared.line.Line.{Line}

-- what a command came to: what a call of the session answers, and nothing at a pay-in or the opening
abbrev pub Done : Type 0
Done = Result (Option Outcome) TapeFault

-- the answer of the command at this offset
abbrev pub line_of : ℕ → Done → TapeAnswer
line_of offset done = record { offset = offset; outcome = done }

-- what is shown of an accepted command: layer and number are 0
abbrev pub accepted : ℕ → ℕ → ℕ → Line
accepted offset order figure = record { offset = offset; layer = 0; number = 0; order = order; figure = figure }

-- and of a refused one: order and figure are 0
abbrev pub refused : ℕ → RefusalCode → Line
refused offset code = record { offset = offset; layer = code.layer; number = code.number; order = 0; figure = 0 }

-- an order's number where an order was taken or withdrawn, and the lots accepted or annulled, or the cut-off
abbrev pub figures_of : ℕ → Done → Line
figures_of offset (Ok None) = accepted offset 0 0
figures_of offset (Ok (Some (Accepted order lots))) = accepted offset order.0 lots.0
figures_of offset (Ok (Some (Withdrawn order lots))) = accepted offset order.0 lots.0
figures_of offset (Ok (Some (CutOff price))) = accepted offset 0 price.0
figures_of offset (Ok (Some Abandoned)) = accepted offset 0 0
figures_of offset (Ok (Some (Annulled lots))) = accepted offset 0 lots.0
figures_of offset (Err fault) = refused offset (code_of fault)

abbrev pub shown_of : TapeAnswer → Line
shown_of a = figures_of a.offset a.outcome

-- the figures of a line in decimal
abbrev pub fields_in : Line → List (List ℕ)
fields_in l = decimal l.offset ∷ decimal l.layer ∷ decimal l.number ∷ decimal l.order ∷ decimal l.figure ∷ []

abbrev pub answer_fields : TapeAnswer → List (List ℕ)
answer_fields a = fields_in (shown_of a)
