use Rattle.std.specs.Prelude.{◌-◌, Bool, List}
use Rattle.depository.specs.declared.account.Account.{Account}
use Rattle.units.specs.Worth.{worth}
use Rattle.units.specs.declared.quantity.Lots.{Lots}
use Rattle.units.specs.declared.quantity.Money.{Money}
use Rattle.units.specs.declared.quantity.Price.{Price}
use Rattle.ordered_list.specs.Keys.{upward, downward, then_by}
use Rattle.units.specs.Answers.{and_then, if_ok}
use Rattle.units.specs.declared.participant.Participant.{Participant}
use Rattle.depository.specs.Calls.{Done, deliver_answer, deliver_after, release_answer, release_after}
use Rattle.depository.specs.declared.amount.Amount.TheVariants.{Money as OfMoney}
use Rattle.allotment.specs.declared.bid.Bid.{Bid}

-- limits downward, and of one limit the numbers upward
abbrev pub queue_order : Bid → Bid → Bool
queue_order = then_by (downward (λ b. b.limit.0)) (upward (λ b. b.number))

-- what a deal at this price saves the bidder on its share
abbrev pub saved_by : Bid → Lots → Price → Money
saved_by bid share price = worth (record { 0 = bid.limit.0 - price.0 }) share

-- the cover of what a bid did not get
abbrev pub left_over : Bid → Lots → Money
left_over bid share = worth bid.limit (record { 0 = bid.lots.0 - share.0 })

-- the accounts after the delivery of a share, after the release of what it saved, and after that of what is left over
abbrev pub after_delivery : List Account → Participant → Bid → Lots → Price → List Account
after_delivery accounts seller bid share price = deliver_after accounts seller bid.who share (worth price share)

abbrev pub after_saving : List Account → Participant → Bid → Lots → Price → List Account
after_saving accounts seller bid share price = release_after (after_delivery accounts seller bid share price) bid.who (OfMoney (saved_by bid share price))

abbrev pub after_rest : List Account → Participant → Bid → Lots → Price → List Account
after_rest accounts seller bid share price = release_after (after_saving accounts seller bid share price) bid.who (OfMoney (left_over bid share))

-- settling makes these three calls one after the other, up to the first that is refused
abbrev pub settle_answer : List Account → Participant → Bid → Lots → Price → Done
settle_answer accounts seller bid share price =
    and_then (deliver_answer accounts seller bid.who share (worth price share))
    (and_then (release_answer (after_delivery accounts seller bid share price) bid.who (OfMoney (saved_by bid share price)))
    (release_answer (after_saving accounts seller bid share price) bid.who (OfMoney (left_over bid share))))

abbrev pub settle_after : List Account → Participant → Bid → Lots → Price → List Account
settle_after accounts seller bid share price =
    if_ok (deliver_answer accounts seller bid.who share (worth price share))
    (if_ok (release_answer (after_delivery accounts seller bid share price) bid.who (OfMoney (saved_by bid share price)))
    (after_rest accounts seller bid share price) (after_delivery accounts seller bid share price)) accounts
