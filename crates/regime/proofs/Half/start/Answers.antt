-- `Half::start` meets its contract, by those of what it calls.
-- Assumes nothing.
use mathlib.Core.Path.{◌≡◌}
use Prim.Native.Nat.{◌-◌, ◌%◌}
use native.Mathlib.Omega.{arith}
use Rattle.bits.specs.Bits.{pick}
use Rattle.walk.specs.Ends.{faulted}
use Rattle.level.specs.Granule.{geometry_of}
use Rattle.level.specs.Level.{start1, levels_below}
use Rattle.regime.proofs.Ready.{small1}
use Rattle.regime.proofs.Half.start.Goals as goal

pub returns-then-self : goal.returns-then-self
unfolding pick faulted
returns-then-self c = rw c.if-self.true c.nowhere.ensures

pub start_from-requires : goal.start_from-requires
start_from-requires c =
    let below : (let a = c.args in c.below_start1-n.result ≡ levels_below (start1 (geometry_of a.self.granule (64 - a.self.tnsz) a.output))) = let whole : c.args.self.tnsz % 64 ≡ c.args.self.tnsz = omega (arith, c.requires.field) in
    rw whole at (c.below_start1-n.ensures.0 c.args.output) in (
      rw c.geometry.ensures (omega arith),
      omega (arith, c.below_start1-n.ensures.1),
      rw (c.geometry.ensures, below) (small1 c.args.self.granule (64 - c.args.self.tnsz) c.args.output c.args.self.ttbr c.requires.granule (c.requires.size c.if-self.false)),
    )

pub returns : goal.returns
unfolding pick faulted
returns c =
    let below : (let a = c.args in c.below_start1-n.result ≡ levels_below (start1 (geometry_of a.self.granule (64 - a.self.tnsz) a.output))) = let whole : c.args.self.tnsz % 64 ≡ c.args.self.tnsz = omega (arith, c.requires.field) in
    rw whole at (c.below_start1-n.ensures.0 c.args.output) in
    rw (c.if-self.false, ← below, ← c.geometry.ensures) c.start_from.ensures
