-- The lines of a result as text: fields in decimal, one space between, a line feed behind.
use Rattle.std.specs.Prelude.{◌≡◌, ℕ, List, [], ◌∷◌, ◌++◌, Some, Option, unwrap_or}
use Rattle.std.specs.List.{flat_map, join_with_byte}
use Rattle.units.specs.declared.refusal.RefusalCode.{RefusalCode}
use Rattle.market.specs.declared.deal.Deal.{Deal}
use Rattle.market.specs.declared.deal.Cancellation.{Cancellation}
use Rattle.market.specs.Texts.{deal_fields, cancellation_fields}
use Rattle.tape.specs.declared.answer.TapeAnswer.{TapeAnswer}
use Rattle.tape.specs.declared.played.Played.{Played}
use Rattle.tape.specs.Answers.{refused, fields_in, answer_fields}
use Rattle.tape.specs.Results.{answers_in, deals_in, cancellations_in}

-- fields with a space between them, and a line feed behind the last
abbrev pub line : List (List ℕ) → List ℕ
line fields = join_with_byte 32 fields ++ (10 ∷ [])

abbrev pub answer_line : TapeAnswer → List ℕ
answer_line a = line (answer_fields a)

abbrev pub deal_line : Deal → List ℕ
deal_line d = line (deal_fields d)

abbrev pub cancellation_line : Cancellation → List ℕ
cancellation_line c = line (cancellation_fields c)

-- a tape that was not run: one line, at offset 0
abbrev pub refusal_line : RefusalCode → List ℕ
refusal_line code = line (fields_in (refused 0 code))

-- answers, then deals, then cancellations
abbrev pub text_of : Played → List ℕ
text_of p = flat_map answer_line (answers_in p) ++ (flat_map deal_line (deals_in p) ++ flat_map cancellation_line (cancellations_in p))

-- PRINTING: of what states the text that it prints, the line with that text

abbrev pub Prints : {T : Type 0} → (T → Option (List ℕ)) → Type 0
Prints {T} output = (x : T) → output x ≡ Some (unwrap_or (output x) [])

abbrev pub line_with : {T : Type 0} → (T → Option (List ℕ)) → T → List ℕ
line_with output x = unwrap_or (output x) [] ++ (10 ∷ [])
