use Rattle.std.proofs.Common.{◌≡◌, ◌<◌, ◌⊎◌, length, ◌∙◌, rules}
use Rattle.pricing.proofs.Crossings.{crosses_first, crosses_none}
use Rattle.pricing.proofs.waiting.Waiting.crosses.Goals as goal

pub returns-in-len1-up-len1-up : goal.returns-in-len1-up-len1-up
returns-in-len1-up-len1-up c =
    let l : 0 < length c.args.self.sells.now = search rules in
    let m : 0 < length c.args.self.buys.now = search rules in
    λ q. c.le.ensures ∙ crosses_first c.args.self.sells.now c.args.self.buys.now l m q

pub returns-in_default-2 : goal.returns-in_default-2
returns-in_default-2 c =
    let h : (length c.args.self.sells.now ≡ 0) ⊎ (length c.args.self.buys.now ≡ 0) = search rules in
    λ _. crosses_none c.args.self.sells.now c.args.self.buys.now h
