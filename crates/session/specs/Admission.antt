-- What submit checks before it blocks the cover.
use Rattle.std.specs.Prelude.{not, length, Ok, Result, nat_lt}
use Rattle.units.specs.Answers.{check}
use Rattle.units.specs.Ranges.{is_participant, is_price, is_order_size}
use Rattle.units.specs.declared.participant.Participant.{Participant}
use Rattle.units.specs.declared.quantity.Price.{Price}
use Rattle.units.specs.declared.quantity.Lots.{Lots}
use Rattle.units.specs.declared.side.Side.{Side}
use Rattle.market.specs.declared.order.Order.{Order}
use Rattle.market.specs.declared.fault.SessionFault.{SessionFault}
use Rattle.market.specs.declared.fault.SessionFault.TheVariants.{NoParticipant, PriceOutOfRange, LotsOutOfRange, SessionFull, OwnOrderInTheWay, WrongPhase}
use Rattle.market.specs.State.{State, is_gathering}
use Rattle.market.specs.Calls.{most_orders, next_order, own_in_the_way}

-- the ranges of what is handed in
abbrev pub ranges_answer : {T : Type 0} → Participant → Price → Lots → Result T SessionFault → Result T SessionFault
ranges_answer who limit lots next =
    check (is_participant who) NoParticipant
    (check (is_price limit) PriceOutOfRange
    (check (is_order_size lots) LotsOutOfRange next))

-- the record that the order will have
abbrev pub admit_answer : State → Participant → Side → Price → Lots → Result Order SessionFault
admit_answer s who side limit lots =
    check (is_gathering s.phase) WrongPhase
    (ranges_answer who limit lots
    (check (nat_lt (length s.orders) most_orders) SessionFull
    (check (not (own_in_the_way s who side limit)) OwnOrderInTheWay
    (Ok (next_order s who side limit lots)))))
