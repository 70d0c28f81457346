-- What sharing pro rata gives.
use Rattle.std.specs.Prelude.{◌≡◌, ℕ, ◌+◌, ◌-◌, ◌*◌, ◌/◌, ◌<◌, ◌≤◌, min, List, [], ◌∷◌, map, length, sum, refl}
use Rattle.std.proofs.Common.{ap, ◌∙◌, ⊎_elim, arith, mul_comm, mul-add, add-mul, mul-zero, zero-mul, mul-le-mul_left}
use Rattle.std.proofs.Math.Nat.{le_of_mul-le-mul_left, mul-div-le, lt-mul-div-succ, div-le_of_le-mul, div-zero}
use Rattle.std.specs.List.{AllZip}
use Rattle.std.proofs.lemmas.List.{length-map}
use Rattle.std.proofs.lemmas.List.Sums.{sum_by-cons}
use Rattle.std.proofs.lemmas.Bool.{cases_lt, lt-ltb}
use Rattle.std.proofs.lemmas.Bool.Decides.{eqb_tells, nat_tests}
use Rattle.sharing.specs.ByTime.{by_time}
use Rattle.sharing.specs.ProRata.{first_share, first_shares, room_for, linewise, topped_up, pro_rata}
use Rattle.sharing.specs.TimeLaws.{time_whole}

-- a quotient by 0 is 0 already
first_is : (n s x : ℕ) → first_share n s x ≡ x * n / s
first_is n s x =
    ⊎_elim
    (λ yes'. let z : x * n / s ≡ 0 = (ap (λ k. x * n / k) yes'.1 ∙ div-zero (x * n)) in rw (yes'.0, z))
    (λ no'. rw no'.0)
    (eqb_tells s 0)

-- a first share is within the line's lots, and the sum of lots times it within lots times total
first_within : (n s x : ℕ) → n ≤ s → first_share n s x ≤ x
first_within n s x h = rw first_is (div-le_of_le-mul s (omega (arith, mul-le-mul_left x h, mul_comm x s)))

first_below : (n s x : ℕ) → s * first_share n s x ≤ x * n
first_below n s x = rw first_is (mul-div-le (x * n) s)

-- with the room it reaches that
first_near : (n s x : ℕ) → n ≤ s → 0 < s → x * n ≤ s * (first_share n s x + room_for x (first_share n s x))
first_near n s x h p = ⊎_elim one none (cases_lt (first_share n s x) x)
  where
    one : first_share n s x < x → x * n ≤ s * (first_share n s x + room_for x (first_share n s x))
    one l = let e = lt-ltb (first_share n s x) x l in rw (e, first_is) (omega (arith, lt-mul-div-succ (x * n) p))

    none : x ≤ first_share n s x → x * n ≤ s * (first_share n s x + room_for x (first_share n s x))
    none l =
        let a = mul-add s (first_share n s x) (room_for x (first_share n s x)) in
        omega (arith, a, mul-le-mul_left s l, mul_comm x s, mul-le-mul_left x h)

-- the same of their sums
sum_below : (n s : ℕ) (xs : List ℕ) → s * sum (map (first_share n s) xs) ≤ sum xs * n
sum_below n s [] = omega (arith, mul-zero s, zero-mul n)
sum_below n s (x ∷ xs) =
    let y = first_share n s x in
    let ys = map (first_share n s) xs in
    let a = sum_by-cons (λ k. k) x xs in
    let b = sum_by-cons (λ k. k) y ys in
    rw (a, b) (omega (arith, mul-add s y (sum ys), add-mul x (sum xs) n, first_below n s x, sum_below n s xs))

sum_near :
    (n s : ℕ) (xs : List ℕ) → n ≤ s → 0 < s →
    sum xs * n ≤ s * (sum (map (first_share n s) xs) + sum (linewise room_for xs (map (first_share n s) xs)))
sum_near n s [] h p = omega (arith, zero-mul n)
sum_near n s (x ∷ xs) h p =
    let y = first_share n s x in
    let ys = map (first_share n s) xs in
    let r = room_for x y in
    let rs = linewise room_for xs ys in
    let a = sum_by-cons (λ k. k) x xs in
    let b = sum_by-cons (λ k. k) y ys in
    let c = sum_by-cons (λ k. k) r rs in
    rw (a, b, c) (omega (
      arith,
      mul-add s (y + sum ys) (r + sum rs),
      mul-add s y (sum ys),
      mul-add s r (sum rs),
      mul-add s y r,
      mul-add s (sum ys) (sum rs),
      add-mul x (sum xs) n,
      first_near n s x h p,
      sum_near n s xs h p,
    ))

-- where there are no lots, nothing is given
sum_none : (n : ℕ) (xs : List ℕ) → sum (map (first_share n 0) xs) ≡ 0
sum_none n [] = refl
sum_none n (x ∷ xs) = sum_none n xs

-- the first shares are within the total
pub first_shares_fit : (lots : List ℕ) (n : ℕ) → n ≤ sum lots → sum (first_shares lots n) ≤ n
first_shares_fit lots n h = ⊎_elim some none (cases_lt 0 (sum lots))
  where
    some : 0 < sum lots → sum (first_shares lots n) ≤ n
    some p = le_of_mul-le-mul_left {k = sum lots} (sum_below n (sum lots) lots) p

    none : sum lots ≤ 0 → sum (first_shares lots n) ≤ n
    none z =
        let e : sum lots ≡ 0 = omega arith in
        omega (arith, sum_none n lots, ap (λ k. sum (map (first_share n k) lots)) e)

-- and the lines have room for the rest
pub rest_has_room :
    (lots : List ℕ) (n : ℕ) → n ≤ sum lots →
    n - sum (first_shares lots n) ≤ sum (linewise room_for lots (first_shares lots n))
rest_has_room lots n h = ⊎_elim some none (cases_lt 0 (sum lots))
  where
    some : 0 < sum lots → n - sum (first_shares lots n) ≤ sum (linewise room_for lots (first_shares lots n))
    some p =
        let b = sum_near n (sum lots) lots h p in
        let a = le_of_mul-le-mul_left {m = n} {k = sum lots} b p in
        omega arith

    none : sum lots ≤ 0 → n - sum (first_shares lots n) ≤ sum (linewise room_for lots (first_shares lots n))
    none z = omega arith

-- topping up keeps shares within the lots
room_fits : (x y : ℕ) → y ≤ x → y + room_for x y ≤ x
room_fits x y h = grind (arith, nat_tests)

topped_within :
    (lots shares : List ℕ) (r : ℕ) → AllZip ◌≤◌ shares lots → AllZip ◌≤◌ (topped_up lots shares r) lots
topped_within [] [] r a = tt
topped_within [] (y ∷ ys) r a = absurd a
topped_within (x ∷ xs) [] r a = absurd a
topped_within (x ∷ xs) (y ∷ ys) r a =
    (omega (arith, room_fits x y a.0), topped_within xs ys (r - min (room_for x y) r) a.1)

-- and adds what goes out
topped_sum :
    (lots shares : List ℕ) (r : ℕ) → length shares ≡ length lots →
    sum (topped_up lots shares r) ≡ sum shares + sum (by_time (linewise room_for lots shares) r)
topped_sum [] [] r e = refl
topped_sum [] (y ∷ ys) r e = absurd (omega arith)
topped_sum (x ∷ xs) [] r e = absurd (omega arith)
topped_sum (x ∷ xs) (y ∷ ys) r e =
    let m = min (room_for x y) r in
    let i = topped_sum xs ys (r - m) (omega arith) in
    let a = sum_by-cons (λ k. k) (y + m) (topped_up xs ys (r - m)) in
    let b = sum_by-cons (λ k. k) y ys in
    let c = sum_by-cons (λ k. k) m (by_time (linewise room_for xs ys) (r - m)) in
    omega (arith, a, b, c, i)

-- no first share is above its lots
firsts_within : (n s : ℕ) (xs : List ℕ) → n ≤ s → AllZip ◌≤◌ (map (first_share n s) xs) xs
firsts_within n s [] h = tt
firsts_within n s (x ∷ xs) h = (first_within n s x h, firsts_within n s xs h)

-- no share is above its lots
pub rata_within : (lots : List ℕ) (n : ℕ) → n ≤ sum lots → AllZip ◌≤◌ (pro_rata lots n) lots
rata_within lots n h =
    let firsts = first_shares lots n in
    topped_within lots firsts (n - sum firsts) (firsts_within n (sum lots) lots h)

-- the shares make the total
pub rata_whole : (lots : List ℕ) (n : ℕ) → n ≤ sum lots → sum (pro_rata lots n) ≡ n
rata_whole lots n h =
    let firsts = first_shares lots n in
    let r = n - sum firsts in
    let t = topped_sum lots firsts r (length-map lots (first_share n (sum lots))) in
    let w = time_whole (linewise room_for lots firsts) r (rest_has_room lots n h) in
    omega (arith, t, w, first_shares_fit lots n h)
