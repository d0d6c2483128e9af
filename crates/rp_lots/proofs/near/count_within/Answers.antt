use Rattle.std.proofs.Common.{◌≡◌, ℕ, ◌+◌, List, map, ap, arith}
use Rattle.std.proofs.Math.ListN.{drop_of_length-le}
use Rattle.rp_model.specs.commands.Parts.{count_pairs}
use Rattle.rp_proximity.specs.Near.{may_meet}
use Rattle.rp_lots.proofs.Paired.{pairs_turned}
use Rattle.rp_lots.proofs.near.count_within.Goals as goal

-- nothing is left
ended : (n left all turned : ℕ) → left ≡ 0 → n + left ≡ all → all ≡ turned → n ≡ turned
ended n left all turned none h e = omega arith

pub returns : goal.returns
returns g c =
    let seen = g.T.Oracle.seen in
    let r = c.args.reach in
    let block = map seen c.args.block.now in
    let others = c.args.others.now in
    let pairs = λ (left : List _). count_pairs (λ q p. may_meet r p q) (map seen left) block in
    ended c.loop-other.count _ _ _ (ap pairs (drop_of_length-le others c.loop-other-test.false)) c.loop-other.invariant.0 (pairs_turned (may_meet r) block (map seen others))
