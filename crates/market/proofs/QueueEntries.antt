-- Entries of queues: what holds of them as one comes in and as some go out.
use Rattle.std.proofs.Common.{◌≡◌, Bool, true, false, not, eqb, List, [], ◌∷◌, ◌++◌, filter, IsPermutation, sym, refl, arith}
use Rattle.std.specs.List.{IsDistinct, AllByRecursion}
use Rattle.std.proofs.ByRecursion.{All-weaker}
use Rattle.std.proofs.lemmas.Bool.{and_parts, and_from, cond_both, eqb-false, ne_eqb}
use Rattle.std.proofs.lemmas.Bool.Decides.{nat_tests}
use Rattle.std.proofs.lemmas.List.Kept.{AllPairs-filter}
use Rattle.std.proofs.lemmas.List.Sorted.{IsPermutation-append_left, IsPermutation-append_right, IsPermutation-insert, IsPermutation-middle, IsPermutation-sym, IsPermutation-trans}
use Rattle.std.proofs.lemmas.Map.Keys.{IsDistinct-IsPermutation, IsDistinct-from_apart, apart_from_distinct}
use Rattle.ordered_list.specs.Keys.{upward}
use Rattle.ordered_list.specs.Order.{after_none, in_order, position_of, placed}
use Rattle.ordered_list.proofs.Laws.{Lawful}
use Rattle.ordered_list.proofs.Keys.{upward-lawful, then_lawful}
use Rattle.units.specs.declared.side.Side.{Side}
use Rattle.units.specs.declared.side.Side.TheVariants.{Sell, Buy}
use Rattle.market.specs.declared.order.Resting.{Resting}
use Rattle.market.specs.Orders.{number_of, away_from_best, queue_after}
use Rattle.market.specs.Calls.{joined_by}
use Rattle.market.specs.Law.{Distinct}

-- what follows from two facts of each line
pub all_both : {X : Type 0} (P Q R : X → Type 0) → ((x : X) → P x → Q x → R x) → (xs : List X) → AllByRecursion P xs → AllByRecursion Q xs → AllByRecursion R xs
all_both P Q R f [] a b = tt
all_both P Q R f (x ∷ xs) a b = (f x a.0 b.0, all_both P Q R f xs a.1 b.1)

-- AN ENTRY COMES IN

-- one that joins the queue of its side joins all that waits
pub moved-joined : (side : Side) (e : Resting) (sells buys : List Resting) → IsPermutation (e ∷ (sells ++ buys)) (joined_by Sell side e sells ++ joined_by Buy side e buys)
moved-joined Sell e sells buys = IsPermutation-append_left buys (e ∷ sells) (placed queue_after e sells) (IsPermutation-insert sells (position_of queue_after e sells) e)
moved-joined Buy e sells buys =
    IsPermutation-trans (e ∷ (sells ++ buys)) (sells ++ (e ∷ buys)) (sells ++ placed queue_after e buys)
    (IsPermutation-sym (sells ++ (e ∷ buys)) (e ∷ (sells ++ buys)) (IsPermutation-middle sells e buys))
    (IsPermutation-append_right sells (e ∷ buys) (placed queue_after e buys) (IsPermutation-insert buys (position_of queue_after e buys) e))

-- what holds of a queue, and of it with the entry where that is of its side, holds of it then
pub joined_has : (P : List Resting → Type 0) (at side : Side) (e : Resting) (q : List Resting) → (side ≡ at → P (placed queue_after e q)) → P q → P (joined_by at side e q)
joined_has P Sell Sell e q in_place as_was = in_place refl
joined_has P Sell Buy e q in_place as_was = as_was
joined_has P Buy Sell e q in_place as_was = as_was
joined_has P Buy Buy e q in_place as_was = in_place refl

pub queue_lawful : Lawful queue_after
queue_lawful = then_lawful (upward away_from_best) (upward number_of) (upward-lawful away_from_best) (upward-lawful number_of)

-- ENTRIES OF DIFFERENT ORDERS

abbrev of_one : Resting → Resting → Bool
of_one x y = eqb (number_of x) (number_of y)

distinct_as : (q : List Resting) → Distinct q → IsDistinct of_one q
unfolding IsDistinct
distinct_as [] d = tt
distinct_as (e ∷ q) d = (All-weaker _ _ (λ x other. ne_eqb _ _ (λ same. other (sym same))) q d.0, distinct_as q d.1)

as_distinct : (q : List Resting) → IsDistinct of_one q → Distinct q
unfolding IsDistinct
as_distinct [] d = tt
as_distinct (e ∷ q) d = (All-weaker _ _ (λ x other same. eqb-false _ _ other (sym same)) q d.0, as_distinct q d.1)

-- stay so in another order, and as some go out
pub distinct_moved : (xs ys : List Resting) → IsPermutation xs ys → Distinct xs → Distinct ys
distinct_moved xs ys m d = as_distinct ys (IsDistinct-IsPermutation of_one (λ x y. grind (arith, nat_tests)) xs ys m (distinct_as xs d))

pub distinct_kept_by : (test : Resting → Bool) (xs : List Resting) → Distinct xs → Distinct (filter test xs)
distinct_kept_by test xs d =
    let apart = AllPairs-filter (λ x y. of_one x y ≡ false) test xs (λ i j z l m. apart_from_distinct of_one xs i j z (distinct_as xs d) l m) in
    as_distinct (filter test xs) (IsDistinct-from_apart of_one (filter test xs) (λ i j z l m. apart i j z l m))

-- ENTRIES GO OUT

-- what does not rank after any of a list does not rank after any that are left of it
none_kept_by : {X : Type 0} (after : X → X → Bool) (test : X → Bool) (x : X) (ys : List X) → after_none after x ys ≡ true → after_none after x (filter test ys) ≡ true
none_kept_by after test x [] n = refl
none_kept_by after test x (y ∷ ys) n =
    let p = and_parts (not (after x y)) (after_none after x ys) n in
    let rest = none_kept_by after test x ys p.1 in
    cond_both (test y) (y ∷ filter test ys) (filter test ys) (λ zs. after_none after x zs ≡ true) (λ _. and_from (not (after x y)) (after_none after x (filter test ys)) p.0 rest) (λ _. rest)

-- a list in order stays so
pub order_kept_by : {X : Type 0} (after : X → X → Bool) (test : X → Bool) (ys : List X) → in_order after ys ≡ true → in_order after (filter test ys) ≡ true
order_kept_by after test [] o = refl
order_kept_by after test (y ∷ ys) o =
    let p = and_parts (after_none after y ys) (in_order after ys) o in
    let rest = order_kept_by after test ys p.1 in
    cond_both (test y) (y ∷ filter test ys) (filter test ys) (λ zs. in_order after zs ≡ true)
    (λ _. and_from (after_none after y (filter test ys)) (in_order after (filter test ys)) (none_kept_by after test y ys p.0) rest) (λ _. rest)
