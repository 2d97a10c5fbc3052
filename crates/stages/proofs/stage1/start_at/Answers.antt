-- `start_at` meets its contract, by the range of the address.
-- Assumes nothing.
use Rattle.std.proofs.Common.{◌≡◌, true, sym, ap, ◌∙◌, ℕ, ◌<◌, ◌^◌}
use Rattle.walk.specs.Ends.{faulted}
use Rattle.stages.specs.Stage1.{root1_at}
use Rattle.stages.specs.Ranges.{range_at, root_at, bounds_of}
use Rattle.stages.specs.Prepared.{stage1_of}
use Rattle.stages.specs.declared.prepared.Prepared1.{Prepared1}
use Rattle.stages.specs.declared.range.Range.{Range}
use Rattle.stages.proofs.Ranges.{counting_of, root1_range}
use Rattle.stages.proofs.stage1.start_at.Goals as goal

-- the root for an address, by the range that the bounds tell
root : (p : Prepared1) (on : p.on ≡ true) (a : ℕ) (r : Range) → a < 2 ^ 64 → r ≡ range_at p.bounds a → root1_at (stage1_of p) a ≡ root_at (stage1_of p) r
unfolding bounds_of
root p on a r fits is = root1_range (stage1_of p) a fits (p.started on).0.1 (p.started on).1.1 ∙ ap (root_at (stage1_of p)) (ap (λ b. range_at b a) (sym p.bounded) ∙ sym is)

pub range_at-requires : goal.range_at-requires
unfolding bounds_of
range_at-requires c = counting_of (stage1_of c.args.p) _ c.args.p.bounded

pub returns-in-Lower : goal.returns-in-Lower
unfolding root_at
returns-in-Lower c = rw (root c.args.p c.requires c.args.address c.range_at.result c.ranges.address.fits c.range_at.ensures, c.in-Lower.is) (c.args.p.started c.requires).0.0

pub returns-in-Upper : goal.returns-in-Upper
unfolding root_at
returns-in-Upper c = rw (root c.args.p c.requires c.args.address c.range_at.result c.ranges.address.fits c.range_at.ensures, c.in-Upper.is) (c.args.p.started c.requires).1.0

pub returns-in-Neither : goal.returns-in-Neither
unfolding faulted root_at
returns-in-Neither c = rw (root c.args.p c.requires c.args.address c.range_at.result c.ranges.address.fits c.range_at.ensures, c.in-Neither.is) c.nowhere.ensures
