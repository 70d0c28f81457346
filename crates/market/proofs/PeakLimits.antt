-- The limits of waiting orders.
use Rattle.std.proofs.Common.{◌≡◌, ℕ, Bool, true, false, ◌||◌, eqb, ltb, List, [], ◌∷◌, get_or, All, sym, refl, ap, ◌∙◌, subst, inl, inr}
use Rattle.std.specs.List.{list_any}
use Rattle.std.proofs.lemmas.Bool.{cases_Bool, eqb-true, eq-eqb}
use Rattle.std.proofs.lemmas.List.Elements.{All-contains}
use Rattle.std.proofs.lemmas.List.Folds.{Any-from_list_any, list_any_at}
use Rattle.market.specs.declared.order.Resting.{Resting}
use Rattle.market.specs.Orders.{limit_of}
use Rattle.market.specs.Prices.{into, limits_of}

-- whether q is one of the prices, and whether it is the limit of one of the orders
abbrev pub among : ℕ → List ℕ → Bool
among q ps = list_any (λ p. eqb q p) ps

abbrev pub has_limit : ℕ → List Resting → Bool
has_limit q es = list_any (λ e. eqb q (limit_of e)) es

or_swapped : (a b c : Bool) → (a || (b || c)) ≡ (b || (a || c))
or_swapped true true c = refl
or_swapped true false c = refl
or_swapped false true c = refl
or_swapped false false c = refl

or_twice : (a b : Bool) → (a || b) ≡ (a || (a || b))
or_twice true b = refl
or_twice false b = refl

-- a price that goes in is there, and what was there stays
among_into : (q p : ℕ) (ps : List ℕ) → among q (into p ps) ≡ (eqb q p || among q ps)
among_into q p [] = refl
among_into q p (r ∷ rs) = elim (cases_Bool (eqb p r)) [
  | inl t ↦ rw (t, eqb-true p r t) (or_twice (eqb q r) (among q rs))
  | inr t ↦ elim (cases_Bool (ltb r p)) [
    | inl u ↦ rw (t, u) refl
    | inr u ↦ rw (t, u) (ap (λ b. eqb q r || b) (among_into q p rs) ∙ or_swapped (eqb q r) (eqb q p) (among q rs))
  ]
]

-- the limits are those of the orders
pub limits_among : (q : ℕ) (es : List Resting) → among q (limits_of es) ≡ has_limit q es
limits_among q [] = refl
limits_among q (e ∷ es) = among_into q (limit_of e) (limits_of es) ∙ ap (λ b. eqb q (limit_of e) || b) (limits_among q es)

pub limits_wait : (es : List Resting) → All (λ p. has_limit p es ≡ true) (limits_of es)
limits_wait es k d low =
    let p = get_or (limits_of es) k d in
    sym (limits_among p es) ∙ list_any_at (λ q. eqb p q) (limits_of es) k d low (eq-eqb p p refl)

-- so that what holds of each of the limits holds of each order's
pub limit_has : (P : ℕ → Type 0) (es : List Resting) → All P (limits_of es) → (p : ℕ) → has_limit p es ≡ true → P p
limit_has P es a p t =
    let one = Any-from_list_any (λ q. eqb p q) (limits_of es) (limits_among p es ∙ t) in
    subst P (sym (eqb-true p one.1 one.4)) (All-contains P (limits_of es) one.1 a (one.0, one.2, one.3))

-- and what holds of each order's limit, of each of the limits
pub has_limit_gives : (P : ℕ → Type 0) (es : List Resting) → All (λ e. P (limit_of e)) es → (p : ℕ) → has_limit p es ≡ true → P p
has_limit_gives P es a p t =
    let one = Any-from_list_any (λ e. eqb p (limit_of e)) es t in
    subst P (sym (eqb-true p (limit_of one.1) one.4)) (All-contains (λ e. P (limit_of e)) es one.1 a (one.0, one.2, one.3))
