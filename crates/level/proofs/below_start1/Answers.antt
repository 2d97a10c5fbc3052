-- `below_start1` meets its contract: the strides are one more than those that the size passes.
-- Assumes nothing.
use mathlib.Core.Path.{◌≡◌, ◌∙◌}
use Prim.Native.Nat.{ℕ, suc, ◌+◌, ◌-◌, ◌*◌, ◌≤◌, ◌<◌}
use native.Mathlib.Omega.{arith}
use Rattle.level.specs.Granule.{stride_of, geometry_of, Granular}
use Rattle.level.specs.Level.{start1, levels_below}
use Rattle.level.specs.declared.granule.Granule.{Granule}
use Rattle.level.proofs.Signed.{below_four}
use Rattle.level.proofs.Rounded.{taken, more_than, at_most}
use Rattle.level.proofs.below_start1.Goals as goal

module _ (k : Granule) (g : Granular k) (s : ℕ) where
  some : 0 < stride_of k
  some = omega (arith, g.least)

  -- n strides and no more than one more
  below : (n : ℕ) → n ≤ 3 → n ≤ taken (s - k.log) (stride_of k) some - 1 → s ≤ k.log + suc n * stride_of k → (output : ℕ) → n ≡ levels_below (start1 (geometry_of k s output))
  unfolding start1
  below n few least most output =
      let c = taken (s - k.log) (stride_of k) some in
      let high : c ≤ suc n = at_most (s - k.log) (stride_of k) some (suc n) (omega arith) in
      let e : n ≡ c - 1 = omega arith in
      e ∙ below_four c (omega arith)

  passed : (n : ℕ) → k.log + n * stride_of k < s → n ≤ taken (s - k.log) (stride_of k) some - 1
  passed n more = omega (arith, more_than (s - k.log) (stride_of k) some n (omega arith))

pub returns-then-size-k : goal.returns-then-size-k
returns-then-size-k c = (below _ c.requires.0 _ 0 (omega arith) (omega arith) (omega (arith, c.if-size-k.true)), omega arith)

pub returns-then-size-k-2 : goal.returns-then-size-k-2
returns-then-size-k-2 c =
    (below _ c.requires.0 _ 1 (omega arith) (passed _ c.requires.0 _ 1 (omega (arith, c.if-size-k.false))) (omega (arith, c.if-size-k-2.true)), omega arith)

pub returns-then-size-k-3 : goal.returns-then-size-k-3
returns-then-size-k-3 c =
    (below _ c.requires.0 _ 2 (omega arith) (passed _ c.requires.0 _ 2 (omega (arith, c.if-size-k-2.false))) (omega (arith, c.if-size-k-3.true)), omega arith)

pub returns-else-size-k-3 : goal.returns-else-size-k-3
returns-else-size-k-3 c =
    (below _ c.requires.0 _ 3 (omega arith) (passed _ c.requires.0 _ 3 (omega (arith, c.if-size-k-3.false))) (omega (arith, c.requires.1)), omega arith)
