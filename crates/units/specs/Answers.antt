-- How answers are put together: checks one after the other, each with the refusal it gives.
use Rattle.std.specs.Prelude.{Bool, cond, Ok, Err, Result}

-- the answer `next` where the test holds, else this refusal
abbrev pub check : {T E : Type 0} → Bool → E → Result T E → Result T E
check test refusal next = cond test next (Err refusal)

-- what an accepted call makes of something, and what was there before where the call is refused
abbrev pub if_ok : {T E X : Type 0} → Result T E → X → X → X
if_ok (Ok answer) new old = new
if_ok (Err refusal) new old = old

-- where one answer is accepted, this value; its refusal otherwise
abbrev pub given : {S T E : Type 0} → Result S E → T → Result T E
given (Ok answer) x = Ok x
given (Err refusal) x = Err refusal

-- one call after another: a refusal of the first ends it
abbrev pub and_then : {S T E : Type 0} → Result S E → Result T E → Result T E
and_then (Ok answer) next = next
and_then (Err refusal) next = Err refusal

-- a refusal of the layer below, held whole in one of the layer above
abbrev pub raised : {T E F : Type 0} → (E → F) → Result T E → Result T F
raised up (Ok x) = Ok x
raised up (Err refusal) = Err (up refusal)

-- the answer with its value turned into another
abbrev pub answered : {S T E : Type 0} → (S → T) → Result S E → Result T E
answered turn (Ok x) = Ok (turn x)
answered turn (Err refusal) = Err refusal
