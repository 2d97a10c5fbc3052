-- `start_by` meets its contract, by those of what it calls.
-- Assumes nothing.
use mathlib.Core.Path.{◌≡◌, sym, ◌∙◌}
use native.Mathlib.Nat.{mod-lt}
use native.Mathlib.Omega.{arith}
use Rattle.bits.specs.Bits.{pick}
use Rattle.walk.specs.Ends.{faulted}
use Rattle.level.proofs.Signed.{few_below2}
use Rattle.regime.specs.Roots.{geometry2}
use Rattle.regime.proofs.Ready.{small2}
use Rattle.regime.proofs.Starts.{root2_is, within, tested, below_is}
use Rattle.regime.proofs.start_by.Goals as goal

pub returns-then-startless : goal.returns-then-startless
unfolding pick faulted
returns-then-startless c =
    let test = tested c.args.r _ _ c.granule2-k.ensures c.start2-start.ensures _ _ c.size_check.ensures c.startless.ensures in
    rw (← root2_is _, ← test, c.if-startless.true) c.nowhere.ensures

pub start_from-requires : goal.start_from-requires
start_from-requires c =
    let k = c.granule2-k.ensures in
    let level = c.start2-start.ensures in
    let test = tested c.args.r _ _ k level _ _ c.size_check.ensures c.startless.ensures in
    let below = below_is c.args.r _ _ k level _ c.levels_below-n.ensures in
    let p = within c.args.r (sym test ∙ c.if-startless.false) in (
      rw c.geometry.ensures (omega arith),
      rw c.levels_below-n.ensures (few_below2 _ _ _ k.1 (mod-lt _ (omega arith)) level),
      rw (c.geometry.ensures, c.t0sz.ensures, c.requires, k.0, below) (small2 c.args.r p.0 p.1),
    )

pub returns : goal.returns
unfolding pick faulted
returns c =
    let k = c.granule2-k.ensures in
    let level = c.start2-start.ensures in
    let test = tested c.args.r _ _ k level _ _ c.size_check.ensures c.startless.ensures in
    let below = below_is c.args.r _ _ k level _ c.levels_below-n.ensures in
    let geometry : c.geometry.result ≡ geometry2 c.args.r = c.geometry.ensures ∙ rw (c.t0sz.ensures, c.requires, k.0) in
    rw (← root2_is _, ← test, c.if-startless.false, ← below, ← geometry) c.start_from.ensures
