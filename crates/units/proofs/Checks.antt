-- What an answer that is put together by checks tells.
use Rattle.std.proofs.Common.{◌≡◌, Bool, true, false, Ok, Err, Result, refl, ap, arith}
use Rattle.units.specs.Answers.{check, if_ok}

-- an accepted answer: the test held, and the answer is the next one
pub checked_ok : {T E : Type 0} (test : Bool) (refusal : E) (next : Result T E) (x : T) → Ok x ≡ check test refusal next → (test ≡ true) × (Ok x ≡ next)
checked_ok true refusal next x e = (refl, e)
checked_ok false refusal next x e = absurd (grind arith)

-- the value in an accepted answer
pub ok_value : {T E : Type 0} (x y : T) → ◌≡◌ {A = Result T E} (Ok x) (Ok y) → x ≡ y
ok_value x y e = cc

-- a refused call leaves what was there, an accepted one what it makes
pub refused_leaves : {T E X : Type 0} (r : Result T E) (refusal : E) (new old : X) → Err refusal ≡ r → old ≡ if_ok r new old
refused_leaves {T} {E} r refusal new old e = ap (λ (x : Result T E). if_ok x new old) e

pub accepted_makes : {T E X : Type 0} (r : Result T E) (answer : T) (new old : X) → Ok answer ≡ r → new ≡ if_ok r new old
accepted_makes {T} {E} r answer new old e = ap (λ (x : Result T E). if_ok x new old) e

pub ok_not_err : {T E : Type 0} (r : Result T E) (x : T) (refusal : E) → r ≡ Ok x → r ≡ Err refusal → ⊥
ok_not_err r x refusal a b = grind arith
