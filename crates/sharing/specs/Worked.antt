-- Shares of small levels, worked out by hand.
use Rattle.std.specs.Prelude.{◌≡◌, [], ◌∷◌}
use Rattle.sharing.specs.ByTime.{by_time}
use Rattle.sharing.specs.ProRata.{pro_rata}

-- first shares of 2/3, so 0, and the two lots go to the two earliest
abbrev pub EvenZerosAreToppedUp : Type 0
EvenZerosAreToppedUp = pro_rata (1 ∷ (1 ∷ (1 ∷ []))) 2 ≡ 1 ∷ (1 ∷ (0 ∷ []))

-- first shares of 16.5, 9.9 and 6.6, and the two lots that rounding down leaves go to the two earliest
abbrev pub RoundingGoesToTheEarliest : Type 0
RoundingGoesToTheEarliest = pro_rata (50 ∷ (30 ∷ (20 ∷ []))) 33 ≡ 17 ∷ (10 ∷ (6 ∷ []))

-- the first line takes its 50 of 60, the second the 10 that are left
abbrev pub ByTimeTheLastGetsNothing : Type 0
ByTimeTheLastGetsNothing = by_time (50 ∷ (30 ∷ (20 ∷ []))) 60 ≡ 50 ∷ (10 ∷ (0 ∷ []))

abbrev pub WorkedShares : Type 0
WorkedShares = EvenZerosAreToppedUp × RoundingGoesToTheEarliest × ByTimeTheLastGetsNothing
