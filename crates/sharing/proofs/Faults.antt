-- Which fault there is in lines and a total, and where there is none.
use Rattle.std.proofs.Common.{◌≡◌, ℕ, ◌*◌, ◌≤◌, false, List, [], ◌∷◌, length, Some, None, Ok, Err, sum, Option, sym, refl, ap, arith}
use Rattle.std.specs.List.{AllByRecursion}
use Rattle.std.proofs.ByRecursion.{sum_by_le}
use Rattle.std.proofs.lemmas.Bool.{cases_Bool}
use Rattle.std.proofs.lemmas.Bool.Decides.{nat_tests}
use Rattle.units.specs.declared.quantity.Lots.{Lots}
use Rattle.sharing.specs.declared.shares.Share.{Share}
use Rattle.sharing.specs.declared.fault.SharingFault.{SharingFault}
use Rattle.sharing.specs.Shares.{lots_of, most_lines, largest_line, Accepted, some_over, fault_in, or_fault, sum_or_fault, filled, unless_fault, lines_after}

-- an answer where there is no fault
pub answered : {A : Type 0} (o : Option SharingFault) (x : A) → o ≡ None → Ok x ≡ or_fault o x
answered o x e = sym (ap (λ p. or_fault p x) e)

-- and what an answer tells of the fault
pub fault_found : {A : Type 0} (o : Option SharingFault) (f : SharingFault) (x : A) → Err f ≡ or_fault o x → o ≡ Some f
fault_found None f x e = absurd (grind arith)
fault_found (Some g) f x e = cc

pub fault_free : {A : Type 0} (o : Option SharingFault) (x y : A) → Ok y ≡ or_fault o x → (o ≡ None) × (y ≡ x)
fault_free None x y e = (refl, cc)
fault_free (Some g) x y e = absurd (grind arith)

-- no line is too large where each is at most the largest
none_over : (lots : List ℕ) → AllByRecursion (λ x. x ≤ largest_line) lots → some_over lots ≡ false
none_over [] a = refl
none_over (x ∷ xs) a = grind (arith, nat_tests, a.0, none_over xs a.1)

-- and the other way round
all_small : (lots : List ℕ) → some_over lots ≡ false → AllByRecursion (λ x. x ≤ largest_line) lots
all_small [] e = tt
all_small (x ∷ xs) e = (grind (arith, nat_tests, cases_Bool), all_small xs (grind (arith, cases_Bool)))

-- what can be shared out has no fault
pub no_fault : (lots : List ℕ) (n : ℕ) → Accepted lots n → fault_in lots n ≡ None
no_fault lots n a = grind (arith, nat_tests, a.few, none_over lots a.small, a.reached)

-- and where there is no fault, all can be shared out
pub accepted : (lots : List ℕ) (n : ℕ) → fault_in lots n ≡ None → Accepted lots n
accepted lots n e = record {
  few = grind (arith, nat_tests, cases_Bool);
  small = all_small lots (grind (arith, cases_Bool));
  reached = grind (arith, nat_tests, cases_Bool);
}

-- what the check tells where it lets a call pass
pub check_passed :
    (lots : List ℕ) (n : ℕ) (all : Lots) → Ok all ≡ sum_or_fault lots n →
    (fault_in lots n ≡ None) × (all.0 ≡ sum lots) × Accepted lots n
check_passed lots n all e =
    let f = fault_free (fault_in lots n) (record { 0 = sum lots }) all e in
    (f.0, ap (λ k. k.0) f.1, accepted lots n f.0)

-- then a call writes the rule's shares
pub written :
    (rule : List ℕ → ℕ → List ℕ) (lines : List Share) (n : ℕ) → fault_in (lots_of lines) n ≡ None →
    lines_after rule lines n ≡ filled lines (rule (lots_of lines) n)
written rule lines n e = ap (λ o. unless_fault o lines (filled lines (rule (lots_of lines) n))) e

-- the sum of lots that pass the first two checks is at most the largest line times the most lines
pub sum-small : (lots : List ℕ) → length lots ≤ most_lines → some_over lots ≡ false → sum lots ≤ most_lines * largest_line
sum-small lots h e = omega (arith, h, sum_by_le (λ x. x) largest_line lots (all_small lots e))

-- and so is a total that can be shared out
pub total-small : (lots : List ℕ) (n : ℕ) → Accepted lots n → n ≤ most_lines * largest_line
total-small lots n a = omega (arith, a.reached, sum-small lots a.few (none_over lots a.small))
