use Rattle.std.proofs.Common.{◌*◌, ◌≤◌, length, get_or, refl, arith}
use Rattle.std.proofs.lemmas.List.{take_all, drop_all, append-nil, length-map, get_or-map, get_or_default}
use Rattle.std.proofs.lemmas.List.Edits.{map_over_more}
use Rattle.std.proofs.lemmas.Nat.{mul-le}
use Rattle.std.proofs.ByRecursion.{All-get_or}
use Rattle.sharing.specs.Shares.{lots_of, most_lines, largest_line}
use Rattle.sharing.proofs.Faults.{total-small}
use Rattle.sharing.proofs.Lines.{blank, ahead}
use Rattle.sharing.proofs.RataPasses.{first-write, first_filled}
use Rattle.sharing.proofs.pro_rata.write_first_shares.Goals as goal

-- a line's lots, times the total of as many lines as there may be, fit 64 bits
pub first_share-line-requires : goal.first_share-line-requires
first_share-line-requires c =
    let xs = c.args.lines.now in
    let i = c.loop-line.line-index in
    let n = c.args.total.0 in
    let x = get_or xs i blank in
    let t = total-small (lots_of xs) n c.requires.accepted in
    let l = length-map xs (λ line. line.lots.0) in
    let a : get_or (lots_of xs) i 0 ≤ largest_line = All-get_or (λ k. k ≤ largest_line) (lots_of xs) i 0 (omega arith) c.requires.accepted.small in
    let s : x.lots.0 ≤ largest_line = omega (arith, a, get_or-map (λ line. line.lots.0) xs i blank 0 c.loop-line-test.true) in
    rw (ahead (first-write n c.args.offered.0) xs c.loop-line.lines i blank c.loop-line-test.true c.loop-line.invariant) (omega (arith, mul-le x.lots.0 n largest_line (most_lines * largest_line) s t))

pub loop-line-preserved : goal.loop-line-preserved
loop-line-preserved c =
    let ys = c.loop-line.lines in
    let i = c.loop-line.line-index in
    let x = get_or ys i blank in
    rw c.first_share-line.ensures (map_over_more (first-write c.args.total.0 c.args.offered.0) c.args.lines.now ys i x c.loop-line-test.true c.loop-line.invariant (get_or_default ys i blank x (omega arith)))

pub returns : goal.returns
returns c =
    let n = c.args.total.0 in
    let xs = c.args.lines.now in
    let done : length xs ≤ c.loop-line.line-index = omega arith in
    let a = c.loop-line.invariant in
    rw (a, take_all _ xs done, drop_all _ xs done, append-nil, first_filled, c.requires.all) refl
