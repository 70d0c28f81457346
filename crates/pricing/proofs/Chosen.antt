-- The candidates among the walked lines are the candidates among the waiting limits.
use Rattle.std.proofs.Common.{◌≡◌, ℕ, ◌+◌, ◌-◌, ◌^◌, ◌<◌, ◌≤◌, Bool, true, ◌&&◌, eqb, leb, List, [], ◌∷◌, ◌++◌, map, filter, None, sym, refl, ap, ◌∙◌, arith}
use Rattle.std.specs.List.{AllByRecursion, last_or, list_all}
use Rattle.std.specs.Option.{unwrap_or}
use Rattle.std.proofs.ByRecursion.{All-weaker, all_kept_by}
use Rattle.std.proofs.lemmas.Simd.{map-map}
use Rattle.std.proofs.lemmas.Bool.{leb-true, le-leb, cond_both}
use Rattle.market.specs.declared.order.Resting.{Resting}
use Rattle.market.specs.Orders.{total_if, limit_of, lots_of, lots_in}
use Rattle.market.specs.Prices.{volume, imbalance, waiting_limits}
use Rattle.market.specs.CutOff.{highest, lowest, with_most, with_least, candidates}
use Rattle.market.specs.Queues.{Queues}
use Rattle.pricing.specs.declared.line.Line.{Line}
use Rattle.pricing.specs.Candidates.{volume_of, imbalance_of, least_of, least_imbalance, has_figures, candidate_lines}
use Rattle.pricing.specs.Lines.{price_of, line_at, lines_at}
use Rattle.pricing.proofs.Figures.{highest_above, highest_le, least_below, least_ge, lowest-last}
use Rattle.pricing.proofs.Keeping.{kept_both, kept_map, kept_best, all-every}
use Rattle.pricing.proofs.Limits.{Downward, limits_downward}
use Rattle.pricing.proofs.Each.{all_any}
use Rattle.pricing.proofs.Placing.{prices_lines}

-- the lines that the code keeps
pub candidates_kept : (lines : List Line) (v d : ℕ) → v ≡ highest (map volume_of lines) → d ≡ least_imbalance v lines → filter (has_figures v d) lines ≡ candidate_lines lines
candidates_kept lines v d e f = rw (f, e) refl

-- those with the most are those with the highest figure
most_kept : (f : ℕ → ℕ) (ps : List ℕ) → with_most f ps ≡ filter (λ p. eqb (f p) (highest (map f ps))) ps
most_kept f ps =
    kept_best leb f (highest (map f ps)) ps (λ m n a b. let u = leb-true m n a in let v = leb-true n m b in omega arith)
    (All-weaker (λ p. f p ≤ highest (map f ps)) (λ p. leb (f p) (highest (map f ps)) ≡ true) (λ p h. le-leb (f p) (highest (map f ps)) h) ps (highest_above f ps))
    (all_any (λ p. list_all (λ q. leb (f q) (f p)) ps ≡ true → leb (highest (map f ps)) (f p) ≡ true)
    (λ p e. le-leb (highest (map f ps)) (f p) (highest_le f (f p) ps (All-weaker (λ q. leb (f q) (f p) ≡ true) (λ q. f q ≤ f p) (λ q h. leb-true (f q) (f p) h) ps (all-every (λ q. leb (f q) (f p)) ps e)))) ps)

-- those with the least are those with the least figure
least_kept : (top : ℕ) (f : ℕ → ℕ) (ps : List ℕ) → AllByRecursion (λ p. f p ≤ top) ps → with_least f ps ≡ filter (λ p. eqb (f p) (least_of top (map f ps))) ps
least_kept top f ps t =
    kept_best (λ m n. leb n m) f (least_of top (map f ps)) ps (λ m n a b. let u = leb-true n m a in let v = leb-true m n b in omega arith)
    (All-weaker (λ p. least_of top (map f ps) ≤ f p) (λ p. leb (least_of top (map f ps)) (f p) ≡ true) (λ p h. le-leb (least_of top (map f ps)) (f p) h) ps (least_below top f ps))
    (All-weaker (λ p. f p ≤ top) (λ p. list_all (λ q. leb (f p) (f q)) ps ≡ true → leb (f p) (least_of top (map f ps)) ≡ true)
    (λ p l e. le-leb (f p) (least_of top (map f ps)) (least_ge top f (f p) ps l (All-weaker (λ q. leb (f p) (f q) ≡ true) (λ q. f p ≤ f q) (λ q h. leb-true (f p) (f q) h) ps (all-every (λ q. leb (f p) (f q)) ps e)))) ps t)

-- the candidates in one pass over the prices
candidates_passed : (top : ℕ) (f g : ℕ → ℕ) (ps : List ℕ) → AllByRecursion (λ p. g p ≤ top) ps →
    with_least g (with_most f ps) ≡
    filter (λ p. eqb (f p) (highest (map f ps)) && eqb (g p) (least_of top (map g (filter (λ q. eqb (f q) (highest (map f ps))) ps)))) ps
candidates_passed top f g ps t =
    let ms = filter (λ q. eqb (f q) (highest (map f ps))) ps in
    ap (with_least g) (most_kept f ps) ∙
    least_kept top g ms (all_kept_by (λ q. eqb (f q) (highest (map f ps))) (λ p. g p ≤ top) ps t) ∙
    kept_both (λ q. eqb (f q) (highest (map f ps))) (λ p. eqb (g p) (least_of top (map g ms))) ps

-- and over the lines at the prices
pub candidate_prices : (sells buys : List Resting) (ps : List ℕ) → AllByRecursion (λ p. imbalance sells buys p ≤ 2 ^ 64 - 1) ps →
    map price_of (candidate_lines (map (line_at sells buys) ps)) ≡ with_least (imbalance sells buys) (with_most (volume sells buys) ps)
candidate_prices sells buys ps t =
    let line = line_at sells buys in
    let f = volume sells buys in
    let g = imbalance sells buys in
    let v = highest (map f ps) in
    let ms = filter (λ p. eqb (f p) v) ps in
    let d = least_of (2 ^ 64 - 1) (map g ms) in
    let a : v ≡ highest (map volume_of (map line ps)) = sym (ap highest (map-map volume_of line ps)) in
    let b : d ≡ least_imbalance v (map line ps) =
    sym (ap (λ ls. least_of (2 ^ 64 - 1) (map imbalance_of ls)) (kept_map (λ l. eqb (volume_of l) v) line ps) ∙ ap (least_of (2 ^ 64 - 1)) (map-map imbalance_of line ms)) in
    sym (ap (map price_of) (candidates_kept (map line ps) v d a b)) ∙
    ap (map price_of) (kept_map (has_figures v d) line ps) ∙
    prices_lines sells buys (filter (λ p. has_figures v d (line p)) ps) ∙
    sym (candidates_passed (2 ^ 64 - 1) f g ps t)

-- a part of a sum is no more than the sum
part_le : (test : Resting → Bool) (q : List Resting) → total_if test lots_of q ≤ lots_in q
part_le test [] = omega arith
part_le test (e ∷ es) = cond_both (test e) (lots_of e) 0 (λ n. n + total_if test lots_of es ≤ lots_of e + lots_in es) (λ _. omega (arith, part_le test es)) (λ _. omega (arith, part_le test es))

-- no imbalance is more than a u64 holds
imbalance-fits : (sells buys : List Resting) → Queues sells buys → (p : ℕ) → imbalance sells buys p ≤ 2 ^ 64 - 1
imbalance-fits sells buys q p =
    omega (arith, part_le (λ e. leb (limit_of e) p) sells, part_le (λ e. leb p (limit_of e)) buys, q.of_sells.bounded, q.of_buys.bounded)

-- prices that go downward do so after a test
downward_kept : (test : ℕ → Bool) (ps : List ℕ) → Downward ps → Downward (filter test ps)
downward_kept test [] d = tt
downward_kept test (p ∷ ps) d =
    cond_both (test p) (p ∷ filter test ps) (filter test ps) Downward (λ _. (all_kept_by test (λ q. q < p) ps d.0, downward_kept test ps d.1)) (λ _. downward_kept test ps d.1)

-- what the code finds of the walked lines are the ends of the candidates
pub candidate_ends : (sells buys : List Resting) (lines : List Line) → Queues sells buys → lines ≡ lines_at sells buys →
    (unwrap_or (last_or None (map price_of (candidate_lines lines))) 0 ≡ lowest (candidates sells buys)) × (highest (map price_of (candidate_lines lines)) ≡ highest (candidates sells buys))
candidate_ends sells buys lines q e =
    let ps = waiting_limits sells buys in
    let c = ap (λ ls. map price_of (candidate_lines ls)) e ∙ candidate_prices sells buys ps (all_any (λ p. imbalance sells buys p ≤ 2 ^ 64 - 1) (imbalance-fits sells buys q) ps) in
    let d = downward_kept (λ p. list_all (λ r. leb (imbalance sells buys p) (imbalance sells buys r)) (with_most (volume sells buys) ps)) (with_most (volume sells buys) ps)
    (downward_kept (λ p. list_all (λ r. leb (volume sells buys r) (volume sells buys p)) ps) ps (limits_downward (sells ++ buys))) in
    (ap (λ ns. unwrap_or (last_or None ns) 0) c ∙ sym (lowest-last (candidates sells buys) d), ap highest c)
