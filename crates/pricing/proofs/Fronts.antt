-- The level at the front of a sorted list of orders: none behind it has its limit.
use Rattle.std.proofs.Common.{◌≡◌, ℕ, ◌≤◌, Bool, false, eqb, Bor, List, [], ◌∷◌, length, take, drop, Option, refl, ◌∙◌, inl, inr, one-add, arith}
use Rattle.std.specs.Fn.{Called, CalledAt}
use Rattle.std.specs.Iterator.{Drains}
use Rattle.std.specs.Iterator.Adapters.{take_while_source, take_while_callee, take_while_done, take_while_steps}
use Rattle.std.specs.List.{AllByRecursion, FoldsTo, fold, prefix_len}
use Rattle.std.proofs.lemmas.Iterator.{YieldsList}
use Rattle.std.proofs.lemmas.Iterator.Consumers.{count_from_yields_List, fold_from_yields_List}
use Rattle.std.proofs.lemmas.Iterator.Search.{YieldsList-from_take_while}
use Rattle.std.proofs.lemmas.List.Folds.{length-prefix_len}
use denote.Param.Members.{Mut}
use Rattle.std.specs.declared.iter.TakeWhile.{TakeWhile}
use Rattle.std.proofs.ByRecursion.{All-weaker}
use Rattle.std.proofs.lemmas.Bool.{cases_Bool, eqb-true, eqb-false, ne_eqb}
use Rattle.units.specs.declared.side.Side.{Side}
use Rattle.units.specs.declared.side.Side.TheVariants.{Sell, Buy}
use Rattle.market.specs.declared.order.Resting.{Resting}
use Rattle.market.specs.Orders.{limit_of, lots_of, lots_in}
use Rattle.pricing.specs.Levels.{front_orders, front_lots}
use Rattle.pricing.specs.Best.{lots_at}
use Rattle.pricing.proofs.Sides.{Behind, Beyond, Sorted}
use Rattle.pricing.proofs.Totals.{total_none}

beyond_from : (side : Side) (p q : ℕ) → Behind side p q → (q ≡ p → ⊥) → Beyond side p q
beyond_from Sell p q b n = omega arith
beyond_from Buy p q b n = omega arith

beyond_behind : (side : Side) (p q r : ℕ) → Beyond side p q → Behind side q r → Beyond side p r
beyond_behind Sell p q r b h = omega arith
beyond_behind Buy p q r b h = omega arith

beyond_apart : (side : Side) (p q : ℕ) → Beyond side p q → q ≡ p → ⊥
beyond_apart Sell p q b e = omega arith
beyond_apart Buy p q b e = omega arith

-- all orders are beyond p where the first has another limit
all_beyond : (side : Side) (p : ℕ) (e : Resting) (es : List Resting) → Sorted side (e ∷ es) → Behind side p (limit_of e) → (limit_of e ≡ p → ⊥) →
    AllByRecursion (λ x. Beyond side p (limit_of x)) (e ∷ es)
all_beyond side p e es s b n =
    let f = beyond_from side p (limit_of e) b n in
    (f, All-weaker (λ x. Behind side (limit_of e) (limit_of x)) (λ x. Beyond side p (limit_of x)) (λ x h. beyond_behind side p (limit_of e) (limit_of x) f h) es s.0)

-- the front has the limit
pub front_at : (p : ℕ) (q : List Resting) → AllByRecursion (λ x. limit_of x ≡ p) (take (front_orders p q) q)
front_at p [] = tt
front_at p (e ∷ es) = elim (cases_Bool (eqb (limit_of e) p)) [
  | inl t ↦ rw (t, one-add) (eqb-true (limit_of e) p t, front_at p es)
  | inr t ↦ rw t tt
]

-- its lots
pub front_lots_lem : (p : ℕ) (q : List Resting) → front_lots p q ≡ lots_in (take (front_orders p q) q)
front_lots_lem p [] = refl
front_lots_lem p (e ∷ es) = elim (cases_Bool (eqb (limit_of e) p)) [
  | inl t ↦ rw (t, one-add) (omega (arith, front_lots_lem p es))
  | inr t ↦ rw t refl
]

-- what is behind it is beyond the limit, where p is no worse than any
pub rest_beyond : (side : Side) (p : ℕ) (q : List Resting) → Sorted side q → AllByRecursion (λ x. Behind side p (limit_of x)) q →
    AllByRecursion (λ x. Beyond side p (limit_of x)) (drop (front_orders p q) q)
rest_beyond side p [] s a = tt
rest_beyond side p (e ∷ es) s a = elim (cases_Bool (eqb (limit_of e) p)) [
  | inl t ↦ rw (t, one-add) (rest_beyond side p es s.1 a.1)
  | inr t ↦ rw t (all_beyond side p e es s a.0 (eqb-false (limit_of e) p t))
]

-- all lots at the limit stand in front
pub front-all : (side : Side) (p : ℕ) (q : List Resting) → Sorted side q → AllByRecursion (λ x. Behind side p (limit_of x)) q → lots_at p q ≡ front_lots p q
front-all side p [] s a = refl
front-all side p (e ∷ es) s a = elim (cases_Bool (eqb (limit_of e) p)) [
  | inl t ↦ rw t (omega (arith, front-all side p es s.1 a.1))
  | inr t ↦
      let b = all_beyond side p e es s a.0 (eqb-false (limit_of e) p t) in
      let n = total_none (λ x. eqb (limit_of x) p) lots_of es (All-weaker (λ x. Beyond side p (limit_of x)) (λ x. eqb (limit_of x) p ≡ false) (λ x h. ne_eqb (limit_of x) p (beyond_apart side p (limit_of x) h)) es b.1) in
      rw t (omega (arith, n))
]

-- they are no more than all lots
pub front_le : (p : ℕ) (q : List Resting) → front_lots p q ≤ lots_in q
front_le p [] = omega arith
front_le p (e ∷ es) = elim (cases_Bool (eqb (limit_of e) p)) [
  | inl t ↦ rw t (omega (arith, front_le p es))
  | inr t ↦ rw t (omega arith)
]

-- how many items `take_while` counts
pub count_leading : {S A B F : Type 0} {steps : S → Option A → S → Type 0} {v : A → B} {all : List B} {s : TakeWhile S F} {f : F} (g : Mut F (Bor A × Unit {0}) Bool) (test : B → Bool) (r : ℕ) →
    ((xs : List A) × Drains (take_while_steps steps g) s xs × (r ≡ length xs)) → YieldsList steps v (take_while_source s) all → take_while_callee s ≡ f → take_while_done s ≡ false →
    ((x : A) (b : Bool) (q : F) → CalledAt g f x b q → (q ≡ f) × (b ≡ test (v x))) → r ≡ prefix_len test all
count_leading {all = all} g test r ran y c d call = count_from_yields_List _ r ran (YieldsList-from_take_while g test y c d call) ∙ length-prefix_len test all

-- and what is folded over them
pub fold_leading : {S A B C F G : Type 0} {steps : S → Option A → S → Type 0} {v : A → B} {all : List B} {s : TakeWhile S F} {f : F} {e : G} (g : Mut F (Bor A × Unit {0}) Bool) (test : B → Bool) (k : Mut G (C × (A × Unit {0})) C) (h : C → B → C) (init r : C) →
    ((xs : List A) × (q : G) × Drains (take_while_steps steps g) s xs × FoldsTo {P = G × C} (λ a x b. Called k a.0 (a.1, (x, tt)) b.1 b.0) (e, init) xs (q, r)) →
    YieldsList steps v (take_while_source s) all → take_while_callee s ≡ f → take_while_done s ≡ false →
    ((x : A) (b : Bool) (q : F) → CalledAt g f x b q → (q ≡ f) × (b ≡ test (v x))) →
    ((a : C) (x : A) (b : C) (q : G) → Called k e (a, (x, tt)) b q → (q ≡ e) × (b ≡ h a (v x))) → r ≡ fold h init (take (prefix_len test all) all)
fold_leading g test k h init r ran y c d passes adds = fold_from_yields_List k h init r ran (YieldsList-from_take_while g test y c d passes) adds
