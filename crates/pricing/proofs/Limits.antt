-- The limits of waiting orders, each once, price downward: they depend only on which limits there are.
use Rattle.std.proofs.Common.{◌≡◌, ℕ, ◌<◌, ◌≤◌, true, false, eqb, ltb, ◌⊎◌, List, [], ◌∷◌, ◌++◌, sym, refl, ◌∙◌, subst, inl, inr, arith}
use Rattle.std.specs.List.{AllByRecursion}
use Rattle.std.proofs.ByRecursion.{All-weaker}
use Rattle.std.proofs.lemmas.Bool.{cases_Bool, or_cases, or_left, or_right, both_ways, eqb-true, eqb-false, eq-eqb, ltb-true, ltb-false}
use Rattle.market.specs.declared.order.Resting.{Resting}
use Rattle.market.specs.Orders.{limit_of}
use Rattle.market.specs.Prices.{into, limits_of}
use Rattle.market.proofs.PeakLimits.{among, has_limit, limits_among}

-- prices that go strictly downward
abbrev pub Downward : List ℕ → Type 0
Downward [] = Unit {0}
Downward (p ∷ ps) = AllByRecursion (λ q. q < p) ps × Downward ps

all_among : (P : ℕ → Type 0) (ps : List ℕ) (q : ℕ) → AllByRecursion P ps → among q ps ≡ true → P q
all_among P [] q a e = absurd (both_ways false refl e)
all_among P (p ∷ ps) q a e = elim (or_cases (eqb q p) (among q ps) e) [
  | inl t ↦ subst P (sym (eqb-true q p t)) a.0
  | inr t ↦ all_among P ps q a.1 t
]

-- below the first it is one of the others
among_below : (p q : ℕ) (ps : List ℕ) → q < p → among q (p ∷ ps) ≡ true → among q ps ≡ true
among_below p q ps l e = elim (or_cases (eqb q p) (among q ps) e) [
  | inl t ↦ absurd (omega (arith, eqb-true q p t))
  | inr t ↦ t
]

among_first : (p : ℕ) (ps : List ℕ) → among p (p ∷ ps) ≡ true
among_first p ps = or_left (eqb p p) (among p ps) (eq-eqb p p refl)

-- no price is above the first
among_le : (p q : ℕ) (ps : List ℕ) → Downward (p ∷ ps) → among q (p ∷ ps) ≡ true → q ≤ p
among_le p q ps d e = elim (or_cases (eqb q p) (among q ps) e) [
  | inl t ↦ omega (arith, eqb-true q p t)
  | inr t ↦ let h = all_among (λ r. r < p) ps q d.0 t in omega arith
]

-- two lists of prices downward that have the same prices are one
pub same_downward : (ps qs : List ℕ) → Downward ps → Downward qs → ((r : ℕ) → among r ps ≡ true → among r qs ≡ true) →
    ((r : ℕ) → among r qs ≡ true → among r ps ≡ true) → ps ≡ qs
same_downward [] [] c d f g = refl
same_downward [] (q ∷ qs) c d f g = absurd (both_ways false refl (g q (among_first q qs)))
same_downward (p ∷ ps) [] c d f g = absurd (both_ways false refl (f p (among_first p ps)))
same_downward (p ∷ ps) (q ∷ qs) c d f g =
    let a = among_le q p qs d (f p (among_first p ps)) in
    let b = among_le p q ps c (g q (among_first q qs)) in
    let e : p ≡ q = omega arith in
    let t = same_downward ps qs c.1 d.1
    (λ r h. let l = all_among (λ x. x < p) ps r c.0 h in among_below q r qs (omega arith) (f r (or_right (eqb r p) (among r ps) h)))
    (λ r h. let l = all_among (λ x. x < q) qs r d.0 h in among_below p r ps (omega arith) (g r (or_right (eqb r q) (among r qs) h))) in
    cc

all-into : (P : ℕ → Type 0) (p : ℕ) (ps : List ℕ) → P p → AllByRecursion P ps → AllByRecursion P (into p ps)
all-into P p [] h a = (h, tt)
all-into P p (r ∷ rs) h a = elim (cases_Bool (eqb p r)) [
  | inl t ↦ rw t a
  | inr t ↦ elim (cases_Bool (ltb r p)) [
    | inl u ↦ rw (t, u) (h, a)
    | inr u ↦ rw (t, u) (a.0, all-into P p rs h a.1)
  ]
]

downward-into : (p : ℕ) (ps : List ℕ) → Downward ps → Downward (into p ps)
downward-into p [] d = (tt, tt)
downward-into p (r ∷ rs) d = elim (cases_Bool (eqb p r)) [
  | inl t ↦ rw t d
  | inr t ↦ elim (cases_Bool (ltb r p)) [
    | inl u ↦
        let l = ltb-true r p u in
        rw (t, u) ((l, All-weaker (λ q. q < r) (λ q. q < p) (λ q h. omega arith) rs d.0), d)
    | inr u ↦
        let l = ltb-false r p u in
        let n = eqb-false p r t in
        rw (t, u) (all-into (λ q. q < r) p rs (omega (arith, n)) d.0, downward-into p rs d.1)
  ]
]

-- limits go downward
pub limits_downward : (es : List Resting) → Downward (limits_of es)
limits_downward [] = tt
limits_downward (e ∷ es) = downward-into (limit_of e) (limits_of es) (limits_downward es)

-- the same limits in two lists of orders
pub limits_same : (xs ys : List Resting) → ((q : ℕ) → has_limit q xs ≡ has_limit q ys) → limits_of xs ≡ limits_of ys
limits_same xs ys f = same_downward (limits_of xs) (limits_of ys) (limits_downward xs) (limits_downward ys)
    (λ q h. limits_among q ys ∙ sym (f q) ∙ sym (limits_among q xs) ∙ h)
    (λ q h. limits_among q xs ∙ f q ∙ sym (limits_among q ys) ∙ h)

all_limits : (P : ℕ → Type 0) (es : List Resting) → AllByRecursion (λ e. P (limit_of e)) es → AllByRecursion P (limits_of es)
all_limits P [] a = tt
all_limits P (e ∷ es) a = all-into P (limit_of e) (limits_of es) a.0 (all_limits P es a.1)

-- the limit p on top of lower ones
pub limits_top : (p : ℕ) (xs ys : List Resting) → has_limit p xs ≡ true → AllByRecursion (λ e. limit_of e < p) ys →
    ((q : ℕ) → has_limit q xs ≡ true → (q ≡ p) ⊎ (has_limit q ys ≡ true)) → ((q : ℕ) → has_limit q ys ≡ true → has_limit q xs ≡ true) →
    limits_of xs ≡ p ∷ limits_of ys
limits_top p xs ys t l f g = same_downward (limits_of xs) (p ∷ limits_of ys) (limits_downward xs)
    (all_limits (λ q. q < p) ys l, limits_downward ys)
    (λ q h. elim (f q (sym (limits_among q xs) ∙ h)) [
      | inl e ↦ or_left (eqb q p) (among q (limits_of ys)) (eq-eqb q p e)
      | inr u ↦ or_right (eqb q p) (among q (limits_of ys)) (limits_among q ys ∙ u)
    ])
    (λ q h. limits_among q xs ∙ elim (or_cases (eqb q p) (among q (limits_of ys)) h) [
      | inl u ↦ rw (eqb-true q p u) t
      | inr u ↦ g q (sym (limits_among q ys) ∙ u)
    ])

-- above what stands behind, where prices go downward
pub downward_above : (qs : List ℕ) (p : ℕ) (ps : List ℕ) → Downward (qs ++ (p ∷ ps)) → AllByRecursion (λ q. p < q) qs
downward_above [] p ps d = tt
downward_above (q ∷ qs) p ps d = (behind qs d.0, downward_above qs p ps d.1)
  where
    behind : (rs : List ℕ) → AllByRecursion (λ r. r < q) (rs ++ (p ∷ ps)) → p < q
    behind [] a = a.0
    behind (r ∷ rs) a = behind rs a.1
