-- Two states are the same if their parts are.
use Rattle.std.proofs.Common.{◌≡◌, List}
use Rattle.depository.specs.declared.account.Account.{Account}
use Rattle.market.specs.declared.order.Order.{Order}
use Rattle.market.specs.declared.order.Resting.{Resting}
use Rattle.market.specs.declared.deal.Deal.{Deal}
use Rattle.market.specs.declared.deal.Cancellation.{Cancellation}
use Rattle.market.specs.declared.phase.Phase.{Phase}
use Rattle.market.specs.State.{State}

state_from : Phase → List Order → List Resting → List Resting → List Deal → List Cancellation → List Account → State
state_from phase orders sells buys deals cancellations accounts = record { phase = phase; orders = orders; sells = sells; buys = buys; deals = deals; cancellations = cancellations; accounts = accounts }

alike : {a b : Phase} {c d : List Order} {e f g h : List Resting} {i j : List Deal} {k l : List Cancellation} {m n : List Account} →
    a ≡ b → c ≡ d → e ≡ f → g ≡ h → i ≡ j → k ≡ l → m ≡ n → state_from a c e g i k m ≡ state_from b d f h j l n
alike p q r s t u v = cc

pub same_state : (s t : State) → s.phase ≡ t.phase → s.orders ≡ t.orders → s.sells ≡ t.sells → s.buys ≡ t.buys → s.deals ≡ t.deals →
    s.cancellations ≡ t.cancellations → s.accounts ≡ t.accounts → s ≡ t
unfolding state_from
same_state s t p q r u v w x = alike p q r u v w x
