-- `size_check` meets its contract: at each start level all its sums fit. Assumes nothing.
use mathlib.Core.Path.{◌∙◌}
use Prim.Native.Nat.{◌-◌}
use native.Mathlib.Nat.{mod-lt}
use native.Mathlib.Omega.{arith}
use Rattle.level.specs.Granule.{stride_of}
use Rattle.level.specs.Level.{size_check}
use Rattle.level.proofs.Signed.{level_of, levels_fit, strides_fit, below_fits, left_fits, check_is}
use Rattle.level.proofs.size_check.Goals as goal

pub overflow_sub-result : goal.overflow_sub-result
overflow_sub-result c =
    let start = level_of _ _ _ c.requires (mod-lt _ (omega arith)) c.start2.ensures in
    levels_fit 64 0 0 _ start (omega arith) (omega arith) (omega arith)

pub overflow_mul-result : goal.overflow_mul-result
overflow_mul-result c =
    let start = level_of _ _ _ c.requires (mod-lt _ (omega arith)) c.start2.ensures in
    strides_fit 64 (stride_of c.args.k) 0 _ start (omega arith) (omega (arith, c.requires.most)) (omega arith)

pub overflow_add-result : goal.overflow_add-result
overflow_add-result c =
    let start = level_of _ _ _ c.requires (mod-lt _ (omega arith)) c.start2.ensures in
    below_fits 64 (stride_of c.args.k) c.args.k.log _ start (omega arith) (omega (arith, c.requires.most)) c.requires.most

pub overflow_sub-result-2 : goal.overflow_sub-result-2
overflow_sub-result-2 c =
    let start = level_of _ _ _ c.requires (mod-lt _ (omega arith)) c.start2.ensures in
    left_fits (64 - c.t0sz.result) (stride_of c.args.k) c.args.k.log _ start (omega arith) (omega (arith, c.requires.most)) c.requires.most

pub returns : goal.returns
unfolding size_check
returns c = λ output.
    let start = level_of _ _ _ c.requires (mod-lt _ (omega arith)) c.start2.ensures in
    check_is (64 - c.t0sz.result) (stride_of c.args.k) c.args.k.log _ start (omega arith) (omega (arith, c.requires.most)) c.requires.most
    ∙ rw (c.start2.ensures, c.t0sz.ensures)
