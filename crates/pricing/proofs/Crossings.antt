-- Whether limits of two queues meet: the first orders decide it.
use Rattle.std.proofs.Common.{◌≡◌, ℕ, ◌<◌, ◌≤◌, Bool, false, leb, ◌⊎◌, List, [], ◌∷◌, length, get_or, sym, refl, ◌∙◌, inl, inr, arith}
use Rattle.std.specs.List.{AllByRecursion, list_any}
use Rattle.std.specs.Ordering.{is_le, nat_cmp}
use Rattle.std.proofs.ByRecursion.{All-weaker}
use Rattle.std.proofs.lemmas.List.Elements.{All-from_recursion}
use Rattle.std.proofs.lemmas.List.Folds.{list_any_none}
use Rattle.std.proofs.lemmas.Bool.Decides.{nat_tests}
use Rattle.std.proofs.lemmas.Bool.{cases_Bool, or_left, leb-false, lt-leb}
use Rattle.units.specs.declared.side.Side.TheVariants.{Sell, Buy}
use Rattle.market.specs.declared.order.Resting.{Resting}
use Rattle.market.specs.Orders.{limit_of}
use Rattle.market.specs.CutOff.{crosses}
use Rattle.market.specs.Queues.{Queues}
use Rattle.pricing.proofs.Blank.{nothing}
use Rattle.pricing.proofs.Each.{all_any}
use Rattle.pricing.proofs.Sides.{queue_sorted}

none_passes : {X : Type 0} (test : X → Bool) (xs : List X) → AllByRecursion (λ x. test x ≡ false) xs → list_any test xs ≡ false
none_passes test xs a = list_any_none test xs (All-from_recursion (λ x. test x ≡ false) xs a)

none_under : (s b : ℕ) (ss bs : List Resting) → b < s → AllByRecursion (λ x. s ≤ limit_of x) ss → AllByRecursion (λ y. limit_of y ≤ b) bs → crosses ss bs ≡ false
none_under s b ss bs l h k =
    none_passes (λ x. list_any (λ y. leb (limit_of x) (limit_of y)) bs) ss
    (All-weaker (λ x. s ≤ limit_of x) (λ x. list_any (λ y. leb (limit_of x) (limit_of y)) bs ≡ false)
    (λ x u. none_passes (λ y. leb (limit_of x) (limit_of y)) bs (All-weaker (λ y. limit_of y ≤ b) (λ y. leb (limit_of x) (limit_of y) ≡ false) (λ y v. lt-leb (limit_of x) (limit_of y) (omega arith)) bs k))
    ss h)

-- as the code compares limits
le_test : (a b : ℕ) → is_le (nat_cmp a b) ≡ leb a b
le_test a b = grind (arith, nat_tests)

-- both queues have an order
pub crosses_first : (sells buys : List Resting) → 0 < length sells → 0 < length buys → Queues sells buys →
    is_le (nat_cmp (limit_of (get_or sells 0 nothing)) (limit_of (get_or buys 0 nothing))) ≡ crosses sells buys
crosses_first [] buys l m q = absurd (omega arith)
crosses_first (s ∷ ss) [] l m q = absurd (omega arith)
crosses_first (s ∷ ss) (b ∷ bs) l m q =
    let u = queue_sorted Sell (s ∷ ss) q.of_sells in
    let v = queue_sorted Buy (b ∷ bs) q.of_buys in
    elim (cases_Bool (leb (limit_of s) (limit_of b))) [
      | inl e ↦ le_test (limit_of s) (limit_of b) ∙ e ∙ sym (or_left (list_any (λ y. leb (limit_of s) (limit_of y)) (b ∷ bs)) (crosses ss (b ∷ bs)) (or_left (leb (limit_of s) (limit_of b)) (list_any (λ y. leb (limit_of s) (limit_of y)) bs) e))
      | inr e ↦ le_test (limit_of s) (limit_of b) ∙ e ∙ sym (none_under (limit_of s) (limit_of b) (s ∷ ss) (b ∷ bs) (leb-false (limit_of s) (limit_of b) e) (omega arith, u.0) (omega arith, v.0))
    ]

-- one has none
pub crosses_none : (sells buys : List Resting) → (length sells ≡ 0) ⊎ (length buys ≡ 0) → false ≡ crosses sells buys
crosses_none [] buys h = refl
crosses_none (s ∷ ss) [] h = sym (none_passes (λ x. list_any (λ y. leb (limit_of x) (limit_of y)) []) (s ∷ ss) (all_any _ (λ x. refl) (s ∷ ss)))
crosses_none (s ∷ ss) (b ∷ bs) (inl h) = absurd (omega arith)
crosses_none (s ∷ ss) (b ∷ bs) (inr h) = absurd (omega arith)
