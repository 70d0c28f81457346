use Rattle.std.proofs.Common.{sym, ◌∙◌, arith}
use Rattle.sharing.specs.Shares.{lots_of}
use Rattle.sharing.specs.ProRata.{pro_rata}
use Rattle.sharing.proofs.Faults.{answered, check_passed, total-small, written}
use Rattle.sharing.proofs.RataPasses.{first-within, both_passes}
use Rattle.sharing.proofs.pro_rata.ProRataSharingRule.share.Goals as goal

pub write_first_shares-requires : goal.write_first_shares-requires
write_first_shares-requires c =
    let p = check_passed (lots_of c.args.lines.now) c.args.total.0 c.in_ok-offered.offered c.in_ok-offered.ensures in
    record { accepted = p.2; all = p.1 }

pub sum_of_shares-given-requires : goal.sum_of_shares-given-requires
sum_of_shares-given-requires c =
    let lines = c.args.lines.now in
    let n = c.args.total.0 in
    let p = check_passed (lots_of lines) n c.in_ok-offered.offered c.in_ok-offered.ensures in
    omega (arith, first-within lines c.write_first_shares.new.lines n p.2.reached c.write_first_shares.ensures, total-small (lots_of lines) n p.2)

pub overflow_sub-total : goal.overflow_sub-total
overflow_sub-total c =
    let lines = c.args.lines.now in
    let n = c.args.total.0 in
    let p = check_passed (lots_of lines) n c.in_ok-offered.offered c.in_ok-offered.ensures in
    omega (arith, first-within lines c.write_first_shares.new.lines n p.2.reached c.write_first_shares.ensures, c.sum_of_shares-given.ensures)

pub returns : goal.returns
returns c =
    let lines = c.args.lines.now in
    let n = c.args.total.0 in
    let p = check_passed (lots_of lines) n c.in_ok-offered.offered c.in_ok-offered.ensures in
    let e = both_passes lines c.write_first_shares.new.lines c.hand_out.new.lines n c.sum_of_shares-given.result.0 p.2.reached c.write_first_shares.ensures c.sum_of_shares-given.ensures c.hand_out.ensures in
    record { answer = answered _ tt p.0; after = e ∙ sym (written pro_rata lines n p.0) }
