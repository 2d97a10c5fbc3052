-- Accepted registers always give stages that an access may be called with: their roots are small, so that no address of a walk leaves
-- 64 bits, and their VA ranges are of at most 48 bits or disabled.
-- Assumes nothing.
use mathlib.Core.Path.{◌≡◌, refl, sym, subst}
use mathlib.Core.Bool.{Bool, true, false}
use Prim.Native.Nat.{ℕ, suc, ◌+◌, ◌-◌, ◌*◌, ◌≤◌, ◌<◌, suc-le-suc}
use native.Mathlib.Nat.{mul-suc, mul-le-mul_left}
use native.Mathlib.Omega.{arith}
use lib.IntN.{ℤ, pos}
use lib.Signed.{lt_z}
use Rattle.bits.specs.Bits.{pick}
use Rattle.descriptor.specs.declared.entry.Geometry.{Geometry}
use Rattle.level.specs.declared.granule.Granule.{Granule}
use Rattle.level.specs.Granule.{stride_of, geometry_of, Granular}
use Rattle.level.specs.Level.{start1, size_check, levels_below}
use Rattle.level.proofs.Granules.{tg0_granular}
use Rattle.regime.specs.Roots.{granule2, start_level2, geometry2, table_of, range_of}
use Rattle.registers.specs.declared.El2.{El2}
use Rattle.regime.specs.declared.Half.{Half}
use Rattle.regime.specs.Calls.{Sized, SoundHalf, range_by}
use Rattle.regime.proofs.Roots.{start1_is, start2_most, not_before, start2_bits}
use Rattle.walk.specs.Calls.{Small}
use Rattle.stages.specs.Ranges.{Narrow}
use Rattle.descriptor.proofs.Masks.{upper_small}

small_table : (k : Granule) (s output n register : ℕ) → Granular k → n ≤ 3 → k.log + stride_of k * n < 48 → s - (k.log + stride_of k * n) ≤ 17 → Small (table_of (geometry_of k s output) n register)
small_table k s output n register g few low bits =
    record {
      some = omega arith;
      levels = suc-le-suc few;
      bits = bits;
      base = upper_small register _;
      grainsize = g.most;
      stride = omega (arith, g.most);
      block = omega (arith, g.first);
      shift = let e : suc n - 1 ≡ n = omega arith in rw e low;
    }

-- from a start level of 0 to 3
small_from : (k : Granule) (s output register : ℕ) (start : ℤ) (l : ℕ) → Granular k → start ≡ pos l → k.log + stride_of k * (3 - l) < 48 → s - (k.log + stride_of k * (3 - l)) ≤ 17 →
    Small (table_of (geometry_of k s output) (levels_below start) register)
unfolding levels_below
small_from k s output register start l g e low bits =
    subst (λ z. Small (table_of (geometry_of k s output) (levels_below z) register)) (sym e) (small_table k s output (3 - l) register g (omega arith) low bits)

-- a VA range of an accepted size
pub small1 : (k : Granule) (s output ttbr : ℕ) → Granular k → Sized s → (let g = geometry_of k s output in Small (table_of g (levels_below (start1 g)) ttbr))
small1 k s output ttbr g sized =
    let b = start1_is k s output g sized in
    let one : 4 - b.l ≡ suc (3 - b.l) = omega (arith, b.most) in
    let index : s ≤ k.log + stride_of k * suc (3 - b.l) = rw one at b.index in
    small_from k s output ttbr _ b.l g b.is b.shift (omega (arith, index, g.most, mul-suc (stride_of k) (3 - b.l)))

pub narrow1 : (g : Geometry) (epd : Bool) (ttbr : ℕ) → (epd ≡ false → Sized g.inputsize) → Narrow (range_of g epd ttbr)
unfolding pick
narrow1 g true ttbr h = λ more. refl
narrow1 g false ttbr h = λ more. absurd (omega (arith, (h refl).most, more))

-- stage 2 from a start level that is not before its granule's first, with at most 4 index bits over the stride
pub small2 : (r : El2) →
    (let k = granule2 r in let g = geometry2 r in let start = start_level2 r in
    lt_z start (pos k.first) ≡ false → lt_z (pos (g.stride + 4)) (size_check g start) ≡ false → Small (table_of g (levels_below start) r.vttbr))
small2 r some few =
    let k = granule2 r in
    let g : Granular k = tg0_granular _ in
    let p = not_before (start_level2 r) k.first some in
    let low : 3 - p.0 ≤ 3 - k.first = omega (arith, p.2) in
    let bits = start2_bits (geometry2 r) (stride_of k + 4) p.0 (start2_most r p.0 p.1) (rw p.1 at few) in
    small_from k _ _ r.vttbr _ p.0 g p.1 (omega (arith, g.shift, mul-le-mul_left (stride_of k) low)) (omega (arith, bits, g.most))

-- ---- stage 1 in words

pub range_narrow : (output : ℕ) (h : Half) → SoundHalf h → Narrow (range_by output h)
range_narrow output h s = narrow1 _ _ _ s.size
