-- What is seen of a session.
use Rattle.market.specs.State.{State}

-- the depository that it holds, and what it means
pub record Seen (D : Type 0) : Type 0 where
  pub depository : D
  pub state : State
