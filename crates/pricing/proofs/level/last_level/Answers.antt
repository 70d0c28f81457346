use Rattle.std.proofs.Common.{◌≡◌, ◌-◌, eqb, reverse, length, take, drop, sym, ap, ◌∙◌, arith}
use Rattle.std.proofs.lemmas.Iterator.Adapters.{YieldsList-from_rev_slice}
use Rattle.std.proofs.lemmas.List.{length-reverse}
use Rattle.std.proofs.lemmas.List.Sums.{prefix_len-le-length}
use Rattle.market.specs.Orders.{limit_of, lots_of, lots_in}
use Rattle.pricing.specs.Levels.{front_orders}
use Rattle.pricing.proofs.Fronts.{front_lots_lem}
use Rattle.pricing.proofs.Reversed.{split_reversed, total-reverse}
use Rattle.pricing.proofs.level.last_level.Goals as goal

pub returns : goal.returns
returns c =
    let p = c.args.limit.0 in
    let q = c.args.queue.now in
    let n : c.leading-count.result ≡ front_orders p (reverse q) = c.leading-count.ensures.count (reverse q) (YieldsList-from_rev_slice q cc).runs in
    let le = prefix_len-le-length (λ e. eqb (limit_of e) p) (reverse q) in
    let k : length c.split_at.result.1.now ≡ front_orders p (reverse q) = omega (arith, n, le, length-reverse q, c.split_at.ensures.back_len) in
    let s = split_reversed q (length q - c.leading-count.result) c.split_at.result.0.now c.split_at.result.1.now c.split_at.ensures.front c.split_at.ensures.back in
    let t = ap lots_in (sym (ap (λ m. take m (reverse q)) k) ∙ s.0) in
    record {
      lots = omega (arith, c.lots_in.ensures, t, total-reverse lots_of c.split_at.result.1.now, front_lots_lem p (reverse q));
      rest = sym s.1 ∙ ap (λ m. drop m (reverse q)) k;
    }
