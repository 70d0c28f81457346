-- Cut-offs of small queues, worked out by hand. Orders are written limit × lots and numbered in the order written, sells are
-- of participant 1, buys of participant 2, and queues go from the best limit on.
use Rattle.std.specs.Prelude.{◌≡◌, ℕ, List, [], ◌∷◌, replicate, Some, None, Ok}
use Rattle.units.specs.declared.side.Side.{Side}
use Rattle.units.specs.declared.side.Side.TheVariants.{Sell, Buy}
use Rattle.depository.specs.Accounts.{account, empty}
use Rattle.depository.specs.declared.account.Account.{Account}
use Rattle.market.specs.declared.order.Resting.{Resting}
use Rattle.market.specs.declared.phase.Phase.TheVariants.{Gathering}
use Rattle.market.specs.CutOff.{cut_off_found}
use Rattle.market.specs.State.{State}
use Rattle.market.specs.Calls.{opened, submit_after, strike_answer, strike_after, cancellation_of}

-- an order of which all lots wait: whose it is, its side, number, limit and lots
abbrev pub whole : ℕ → Side → ℕ → ℕ → ℕ → Resting
whole participant side number limit lots = record {
  order = record {
    number = record { 0 = number };
    participant = record { 0 = participant };
    side = side;
    limit = record { 0 = limit };
    accepted = record { 0 = lots };
  };
  lots = record { 0 = lots };
}

-- a sell and a buy with this number, limit and lots
abbrev pub sell : ℕ → ℕ → ℕ → Resting
sell = whole 1 Sell

abbrev pub buy : ℕ → ℕ → ℕ → Resting
buy = whole 2 Buy

-- the iteration is abandoned, or has this cut-off
abbrev pub IsAbandoned : List Resting → List Resting → Type 0
IsAbandoned sells buys = cut_off_found sells buys ≡ None

abbrev pub CutOffAt : ℕ → List Resting → List Resting → Type 0
CutOffAt p sells buys = cut_off_found sells buys ≡ Some (record { 0 = p })

-- no orders
abbrev pub NoOrders : Type 0
NoOrders = IsAbandoned [] []

-- participant 1 has 100 lots, participant 2 has 1,000,000 of money, and the others have nothing
abbrev pub endowed : List Account
endowed = account 100 0 0 0 ∷ (account 0 0 1000000 0 ∷ replicate 62 empty)

-- with an order submitted: whose it is, its side, limit and lots
abbrev pub submitted : ℕ → Side → ℕ → ℕ → State → State
submitted participant side limit lots s = submit_after s (record { 0 = participant }) side (record { 0 = limit }) (record { 0 = lots })

-- sell 101 × 1, buy 100 × 1 in a new session
abbrev pub apart : State
apart = submitted 2 Buy 100 1 (submitted 1 Sell 101 1 (opened endowed))

-- the sell is above the buy: both orders are annulled, their cover is released, and Gathering goes on
abbrev pub SidesApart : Type 0
SidesApart =
    (strike_answer apart ≡ Ok None)
    × (strike_after apart ≡ record {
      phase = Gathering;
      orders = (sell 1 101 1).order ∷ ((buy 2 100 1).order ∷ []);
      sells = [];
      buys = [];
      deals = [];
      cancellations = cancellation_of (sell 1 101 1) ∷ (cancellation_of (buy 2 100 1) ∷ []);
      accounts = endowed;
    })

-- sell 100 × 5, buy 100 × 5: one candidate
abbrev pub OneLimit : Type 0
OneLimit = CutOffAt 100 (sell 1 100 5 ∷ []) (buy 2 100 5 ∷ [])

-- sell 100 × 10, buy 104 × 10: the mean of 100 and 104
abbrev pub WholeMean : Type 0
WholeMean = CutOffAt 102 (sell 1 100 10 ∷ []) (buy 2 104 10 ∷ [])

-- sells 100 × 40, 102 × 30, buys 103 × 50, 101 × 30: 102 and 103 remain, and all sells, 70, are less than all buys, 80
abbrev pub FewerSells : Type 0
FewerSells = CutOffAt 103 (sell 1 100 40 ∷ (sell 2 102 30 ∷ [])) (buy 3 103 50 ∷ (buy 4 101 30 ∷ []))

-- sells 10 × 1, 30 × 1, buys 20 × 1, 40 × 1: all four remain, and the mean of 10 and 40 is no order's limit
abbrev pub MeanThatNoneHas : Type 0
MeanThatNoneHas = CutOffAt 25 (sell 1 10 1 ∷ (sell 2 30 1 ∷ [])) (buy 4 40 1 ∷ (buy 3 20 1 ∷ []))

-- sell 100 × 4, then buy 101 × 4: 100 and 101 remain, all sells equal all buys, and order 1 is the earliest
abbrev pub EarliestDecides : Type 0
EarliestDecides = CutOffAt 100 (sell 1 100 4 ∷ []) (buy 2 101 4 ∷ [])

abbrev pub WorkedCases : Type 0
WorkedCases = NoOrders × SidesApart × OneLimit × WholeMean × FewerSells × MeanThatNoneHas × EarliestDecides
