-- What sharing by time gives.
use Rattle.std.specs.Prelude.{◌≡◌, ℕ, ◌-◌, ◌≤◌, min, List, [], ◌∷◌, sum, refl}
use Rattle.std.proofs.Common.{ap, arith}
use Rattle.std.specs.List.{AllZip}
use Rattle.std.proofs.lemmas.List.Sums.{sum_by-cons}
use Rattle.sharing.specs.declared.shares.Share.{Share}
use Rattle.sharing.specs.Shares.{lots_of, filled}
use Rattle.sharing.specs.ByTime.{by_time}
use Rattle.sharing.specs.Walks.{walk}

-- no share is above its lots
pub time_within : (lots : List ℕ) (n : ℕ) → AllZip ◌≤◌ (by_time lots n) lots
time_within [] n = tt
time_within (x ∷ xs) n = (omega arith, time_within xs (n - min x n))

-- the shares make the total, where the lots reach it
pub time_whole : (lots : List ℕ) (n : ℕ) → n ≤ sum lots → sum (by_time lots n) ≡ n
time_whole [] n h = omega arith
time_whole (x ∷ xs) n h =
    let s = sum_by-cons (λ y. y) x xs in
    let t = sum_by-cons (λ y. y) (min x n) (by_time xs (n - min x n)) in
    let r = time_whole xs (n - min x n) (omega arith) in
    omega (arith, t, r)

-- the pass that writes the shares: a line takes from what is left
abbrev pub time_write : ℕ → Share → Share
time_write left line = record { lots = line.lots; share = record { 0 = min line.lots.0 left } }

abbrev pub time_next : ℕ → Share → ℕ
time_next left line = left - min line.lots.0 left

-- the whole pass
pub time_walk : (lines : List Share) (n : ℕ) → walk time_write time_next n lines ≡ filled lines (by_time (lots_of lines) n)
time_walk [] n = refl
time_walk (x ∷ xs) n = ap (λ zs. time_write n x ∷ zs) (time_walk xs (time_next n x))
