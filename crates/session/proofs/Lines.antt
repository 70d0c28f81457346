-- The queues of a session are such as pricing asks for.
use Rattle.std.proofs.Common.{◌≡◌, ◌*◌, ◌≤◌, List, [], length, sym, refl, subst, arith}
use Rattle.units.specs.declared.side.Side.{Side}
use Rattle.units.specs.declared.side.Side.TheVariants.{Sell, Buy}
use Rattle.units.specs.Ranges.{is_price}
use Rattle.market.specs.declared.order.Resting.{Resting}
use Rattle.market.specs.declared.phase.Phase.{Phase}
use Rattle.market.specs.declared.phase.Phase.TheVariants.{Gathering, Struck, Continuous, Closed}
use Rattle.market.specs.Orders.{lots_in}
use Rattle.market.specs.Queues.{Queue, Queues}
use Rattle.market.specs.State.{State, queue_of}
use Rattle.market.specs.Law.{Books, KeptIn, Kept}
use Rattle.market.proofs.Totals.{all_first, all_second}
use Rattle.market.proofs.KeptBooks.{priced-waiting}
use Rattle.depository.specs.declared.account.Account.{Account}
use Rattle.session.specs.declared.book.Book.{Book}
use Rattle.session.specs.States.{state_of, queue_in}

-- the memory bounds how long they are and how much waits in them
abbrev Bounded : List Resting → Type 0
Bounded q = (length q ≤ 512) × (lots_in q ≤ 512 * 1000000)

books_queues : (s : State) → Books s → Bounded s.sells → Bounded s.buys → Queues s.sells s.buys
books_queues s b sells buys =
    let priced = priced-waiting s b in
    record {
      of_sells = record { sided = b.selling; sorted = b.sells_in_order; priced = all_first (λ e. is_price e.order.limit ≡ _) s.sells s.buys priced; short = sells.0; bounded = sells.1 };
      of_buys = record { sided = b.buying; sorted = b.buys_in_order; priced = all_second (λ e. is_price e.order.limit ≡ _) s.sells s.buys priced; short = buys.0; bounded = buys.1 };
    }

nobody_waits : (side : Side) (q : List Resting) → q ≡ [] → Queue side q
nobody_waits side q e = subst (Queue side) (sym e) (record { sided = tt; sorted = refl; priced = tt; short = omega arith; bounded = omega arith })

queues_in : (p : Phase) (s : State) → KeptIn p s → Bounded s.sells → Bounded s.buys → Queues s.sells s.buys
queues_in Gathering s k sells buys = books_queues s k sells buys
queues_in (Struck c) s k sells buys = books_queues s k.0 sells buys
queues_in Continuous s k sells buys = books_queues s k sells buys
queues_in Closed s k sells buys = record { of_sells = nobody_waits Sell s.sells k.0; of_buys = nobody_waits Buy s.buys k.1 }

pub kept_queues : (p : Phase) (b : Book) (accounts : List Account) → Kept (state_of p b accounts) → Queues b.sells b.buys
kept_queues p b accounts k = queues_in p (state_of p b accounts) k (omega arith, omega arith) (omega arith, omega arith)

-- the queue of a side
pub kept_queue : (side : Side) (p : Phase) (b : Book) (accounts : List Account) → Kept (state_of p b accounts) → Queue side (queue_in side b)
kept_queue Sell p b accounts k = (kept_queues p b accounts k).of_sells
kept_queue Buy p b accounts k = (kept_queues p b accounts k).of_buys

pub queue_of_side : (side : Side) (p : Phase) (b : Book) (accounts : List Account) → queue_in side b ≡ queue_of side (state_of p b accounts)
queue_of_side Sell p b accounts = refl
queue_of_side Buy p b accounts = refl

-- what is said of slices that hold the queues is said of the queues
pub at_queues : (P : List Resting → List Resting → Type 0) (x y sells buys : List Resting) → x ≡ sells → y ≡ buys → Queues sells buys → (Queues x y → P x y) → P sells buys
at_queues P x y sells buys e f q h =
    let moved : (u v : List Resting) → u ≡ sells → v ≡ buys → Queues u v = λ u v d g. subst (λ w. Queues u w) (sym g) (subst (λ w. Queues w buys) (sym d) q) in
    subst (λ w. P sells w) f (subst (λ w. P w y) e (h (moved x y e f)))
