-- The layout of the commands on the tape.
use Rattle.std.specs.Prelude.{ℕ, ◌+◌, cond, List, [], ◌∷◌, Some, None, Option, ◌==◌, slice_index}
use Rattle.units.specs.declared.participant.Participant.{Participant}
use Rattle.units.specs.declared.quantity.Price.{Price}
use Rattle.units.specs.declared.quantity.Lots.{Lots}
use Rattle.units.specs.declared.side.Side.{Side}
use Rattle.units.specs.declared.side.Side.TheVariants.{Sell, Buy}
use Rattle.depository.specs.declared.amount.Amount.TheVariants as amounts
use Rattle.market.specs.declared.order.NewOrder.{NewOrder}
use Rattle.command.specs.Operands.{as_participant, as_order_number, as_price, as_lots, as_money}
use Rattle.command.specs.RuleNumbers.{rule_of}
use Rattle.command.specs.declared.command.Command.{Command}
use Rattle.command.specs.declared.command.Command.TheVariants.{PayIn, Open, Submit, Withdraw, Strike, Add, Deal, Annul, Close}

-- a command's byte, the widths of its operands in bytes, and the command that its operands make, which are given as numbers
pub record Row : Type 0 where
  pub byte : ℕ
  pub widths : List ℕ
  pub command : List ℕ → Command

abbrev row : ℕ → List ℕ → (List ℕ → Command) → Row
row byte widths command = record { byte = byte; widths = widths; command = command }

abbrev order : Participant → Side → Price → Lots → NewOrder
order participant side limit lots = record { participant = participant; side = side; limit = limit; lots = lots }

-- the operand at this place, counted from 0
abbrev at : List ℕ → ℕ → ℕ
at operands i = slice_index operands i

-- the twelve commands
abbrev pub table : List Row
table =
    row 0x01 (2 ∷ 4 ∷ []) (λ ns. PayIn (as_participant (at ns 0)) (amounts.Lots (as_lots (at ns 1))))
    ∷ row 0x02 (2 ∷ 8 ∷ []) (λ ns. PayIn (as_participant (at ns 0)) (amounts.Money (as_money (at ns 1))))
    ∷ row 0x03 [] (λ ns. Open)
    ∷ row 0x10 (2 ∷ 4 ∷ 4 ∷ []) (λ ns. Submit (order (as_participant (at ns 0)) Sell (as_price (at ns 1)) (as_lots (at ns 2))))
    ∷ row 0x11 (2 ∷ 4 ∷ 4 ∷ []) (λ ns. Submit (order (as_participant (at ns 0)) Buy (as_price (at ns 1)) (as_lots (at ns 2))))
    ∷ row 0x12 (2 ∷ 2 ∷ []) (λ ns. Withdraw (as_participant (at ns 0)) (as_order_number (at ns 1)))
    ∷ row 0x20 [] (λ ns. Strike)
    ∷ row 0x21 (2 ∷ 4 ∷ []) (λ ns. Add (as_participant (at ns 0)) Sell (as_lots (at ns 1)))
    ∷ row 0x22 (2 ∷ 4 ∷ []) (λ ns. Add (as_participant (at ns 0)) Buy (as_lots (at ns 1)))
    ∷ row 0x23 (1 ∷ []) (λ ns. Deal (rule_of (at ns 0)))
    ∷ row 0x24 [] (λ ns. Annul)
    ∷ row 0x30 [] (λ ns. Close)
    ∷ []

-- the row of a byte
abbrev pub row_in : List Row → ℕ → Option Row
row_in [] b = None
row_in (r ∷ rs) b = cond (r.byte == b) (Some r) (row_in rs b)

abbrev pub total : List ℕ → ℕ
total [] = 0
total (w ∷ ws) = w + total ws

-- the bytes of a row's operands together
abbrev pub width : Row → ℕ
width r = total r.widths

abbrev width_of : Option Row → Option ℕ
width_of None = None
width_of (Some r) = Some (width r)

-- the operand bytes of a command byte
abbrev pub width_in : List Row → ℕ → Option ℕ
width_in rs b = width_of (row_in rs b)
