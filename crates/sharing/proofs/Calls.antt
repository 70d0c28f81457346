-- What a call of any rule leaves, by what it answered.
use Rattle.std.proofs.Common.{◌≡◌, ℕ, List, length, Some, None, Ok, sum, Option, refl, ap, ◌∙◌}
use Rattle.std.proofs.lemmas.List.{length-map}
use Rattle.sharing.specs.declared.shares.Share.{Share}
use Rattle.sharing.specs.declared.fault.SharingFault.{SharingFault}
use Rattle.sharing.specs.Shares.{lots_of, shares_of, Accepted, fault_in, sharing_answer, filled, unless_fault, lines_after}
use Rattle.sharing.proofs.Faults.{fault_free, accepted, answered, no_fault, written}
use Rattle.sharing.proofs.Lines.{lots_filled, shares_filled}

-- a rule answers Ok exactly where lines and total can be shared out
pub ok_answer : (lots : List ℕ) (n : ℕ) → Accepted lots n → Ok tt ≡ sharing_answer lots n
ok_answer lots n a = answered (fault_in lots n) tt (no_fault lots n a)

pub answer_ok : (lots : List ℕ) (n : ℕ) (u : Unit {0}) → Ok u ≡ sharing_answer lots n → Accepted lots n
answer_ok lots n u e = accepted lots n (fault_free (fault_in lots n) tt u e).0

-- no call changes the lots
pub lots_after :
    (rule : List ℕ → ℕ → List ℕ) (lines : List Share) (n : ℕ) → lots_of (lines_after rule lines n) ≡ lots_of lines
lots_after rule lines n = by (fault_in (lots_of lines) n)
  where
    by :
        (o : Option SharingFault) →
        lots_of (unless_fault o lines (filled lines (rule (lots_of lines) n))) ≡ lots_of lines
    by None = lots_filled lines (rule (lots_of lines) n)
    by (Some f) = refl

-- where it is not refused, the shares that stand there are the rule's
pub shares_after :
    (rule : List ℕ → ℕ → List ℕ) (lines : List Share) (n : ℕ) → Accepted (lots_of lines) n →
    length (rule (lots_of lines) n) ≡ length (lots_of lines) → shares_of (lines_after rule lines n) ≡ rule (lots_of lines) n
shares_after rule lines n a e =
    ap shares_of (written rule lines n (no_fault (lots_of lines) n a)) ∙
    shares_filled lines (rule (lots_of lines) n) (e ∙ length-map lines (λ line. line.lots.0))

-- and add up to the total, by the rule's laws
pub adds_up :
    (rule : List ℕ → ℕ → List ℕ) (lines last : List Share) (n : ℕ) → Accepted (lots_of lines) n →
    length (rule (lots_of lines) n) ≡ length (lots_of lines) → sum (rule (lots_of lines) n) ≡ n →
    last ≡ lines_after rule lines n → sum (shares_of last) ≡ n
adds_up rule lines last n a e w l =
    ap (λ xs. sum (shares_of xs)) l ∙ ap sum (shares_after rule lines n a e) ∙ w
