-- Roots that registers give: how many levels they have, and that they are aligned.
-- Assumes nothing.
use Rattle.std.specs.Prelude.{Ok, Err}
use mathlib.Core.Path.{◌≡◌, refl, sym, ap, ◌∙◌, subst}
use mathlib.Core.Bool.{Bool, true, false, cond, true≢false}
use Prim.Native.Nat.{ℕ, zero, suc, ◌+◌, ◌-◌, ◌*◌, ◌^◌, ◌≤◌, ◌<◌, suc-le-suc}
use native.Mathlib.Nat.{mod-lt}
use native.Mathlib.Omega.{arith}
use lib.Dec.{ltb}
use lib.Pow.{pow-add}
use lib.IntN.{ℤ, pos, negsuc, ◌-ℤ◌}
use lib.Signed.{lt_z}
use borrow.Author.Tests.{ltb-true, ltb-false}
use Rattle.bits.specs.Bits.{beyond}
use Rattle.descriptor.specs.Entry.{shift}
use Rattle.descriptor.specs.declared.entry.Geometry.{Geometry}
use Rattle.descriptor.specs.declared.entry.FaultKind.{FaultKind}
use Rattle.bits.proofs.Tests.{by_pick, pick_true}
use Rattle.stages.specs.Stage1.{is_upper, in_range, va_range, root1_at}
use Rattle.walk.specs.Root.{Root, unusable}
use Rattle.stages.specs.declared.stage1.VaRange.{VaRange}
use Rattle.stages.specs.declared.stage1.Stage1.{Stage1}
use Rattle.stages.proofs.Accesses.{Aligned, upper_aligned}
use Rattle.registers.specs.Vtcr
use Rattle.settings.specs.Settings.{stage2_on}
use Rattle.level.specs.declared.granule.Granule.{Granule}
use Rattle.level.specs.Granule.{stride_of, geometry_of, Granular}
use Rattle.level.specs.Level.{start1, size_check, levels_below}
use Rattle.level.proofs.Granules.{tg0_granular, tg1_granular}
use Rattle.level.proofs.Rounded.{taken, room, no_room, at_least, at_most}
use Rattle.level.proofs.Signed.{by_start2}
use Rattle.regime.specs.Roots.{granule2, start_level2, table_size, geometry2, table_of, root_of, range_of, root2, stage1}
use Rattle.registers.specs.declared.El1.{El1}
use Rattle.registers.specs.declared.El2.{El2}
use Rattle.regime.specs.Calls.{Sized}

-- ---- start levels

-- 4 less a number of strides
four_less : (k : ℕ) → k ≤ 4 → pos 4 -ℤ pos k ≡ pos (4 - k)
four_less zero h = refl
four_less (suc zero) h = refl
four_less (suc (suc zero)) h = refl
four_less (suc (suc (suc zero))) h = refl
four_less (suc (suc (suc (suc zero)))) h = refl
four_less (suc (suc (suc (suc (suc k))))) h = absurd (omega arith)

-- an accepted input size starts at level 0 to 3, with an index of at most one stride, below bit 48
pub record Begins (k : Granule) (s : ℕ) (start : ℤ) : Type 0 where
  pub l : ℕ
  pub most : l ≤ 3
  pub is : start ≡ pos l
  pub index : s ≤ k.log + stride_of k * (4 - l)
  pub shift : k.log + stride_of k * (3 - l) < 48

pub start1_is : (k : Granule) (s output : ℕ) → Granular k → Sized s → Begins k s (start1 (geometry_of k s output))
unfolding start1
start1_is k s output g h =
    let x = s - k.log in
    let t = stride_of k in
    let wide : 0 < t = omega (arith, g.least) in
    let some : 0 < x = omega (arith, g.most, h.least) in
    let c = taken x t wide in
    let few : c ≤ 4 = at_most x t wide 4 (omega (arith, g.least, h.most)) in
    let one : 1 ≤ c = at_least x t wide some in
    let all : 4 - (4 - c) ≡ c = omega arith in
    let below : 3 - (4 - c) ≡ c - 1 = omega arith in
    record {
      l = 4 - c;
      most = omega arith;
      is = four_less c few;
      index = rw all (omega (arith, room x t wide));
      shift = rw below (omega (arith, no_room x t wide some, h.most));
    }

-- SL0 has two bits: stage 2 starts at level 3, 2, 1, 0 or -1
pub start2_most : (r : El2) (l : ℕ) → start_level2 r ≡ pos l → l ≤ 3
start2_most r =
    by_start2 (λ z. (l : ℕ) → z ≡ pos l → l ≤ 3)
    (λ l e. let z : 3 ≡ l = cc in omega arith)
    (λ l e. let z : 2 ≡ l = cc in omega arith)
    (λ l e. let z : 1 ≡ l = cc in omega arith)
    (λ l e. let z : 0 ≡ l = cc in omega arith)
    (λ l e. absurd (let z : ◌≡◌ {A = ℕ} 0 1 = cc in omega arith))
    (granule2 r) (Vtcr.sl0 r.vtcr) (tg0_granular _) (mod-lt _ (omega arith))

pub not_before : (z : ℤ) (f : ℕ) → lt_z z (pos f) ≡ false → (l : ℕ) × (z ≡ pos l) × (f ≤ l)
not_before (pos l) f e = (l, refl, ltb-false l f e)
not_before (negsuc l) f e = absurd (true≢false e)

-- at most m bits
few_bits : (m s c : ℕ) → lt_z (pos m) (pos s -ℤ pos c) ≡ false → s - c ≤ m
few_bits m s zero h = omega (arith, ltb-false m (s + 0) h)
few_bits m s (suc c) h = by_cond (ltb s (suc c)) refl h
  where
    by_cond : (b : Bool) → ltb s (suc c) ≡ b → lt_z (pos m) (cond b (negsuc (suc c - suc s)) (pos (s - suc c))) ≡ false → s - suc c ≤ m
    by_cond true e h = omega (arith, ltb-true s (suc c) e)
    by_cond false e h = ltb-false m (s - suc c) h

pub start2_bits : (g : Geometry) (m l : ℕ) → l ≤ 3 → lt_z (pos m) (size_check g (pos l)) ≡ false → g.inputsize - shift g (3 - l) ≤ m
unfolding size_check
start2_bits g m zero h e = omega (arith, few_bits m g.inputsize (3 * g.stride + g.grainsize) e)
start2_bits g m (suc zero) h e = omega (arith, few_bits m g.inputsize (2 * g.stride + g.grainsize) e)
start2_bits g m (suc (suc zero)) h e = omega (arith, few_bits m g.inputsize (1 * g.stride + g.grainsize) e)
start2_bits g m (suc (suc (suc zero))) h e = omega (arith, few_bits m g.inputsize (0 * g.stride + g.grainsize) e)
start2_bits g m (suc (suc (suc (suc l)))) h e = absurd (omega arith)

-- ---- roots, by what holds of them

module _ (Q : Root → Type 0) (on_fault : (k : FaultKind) (l : ℕ) → Q (unusable k l)) where
  by_root_of : (g : Geometry) (n register : ℕ) → Q (Ok (table_of g n register)) → Q (root_of g n register)
  unfolding root_of
  by_root_of g n register h = by_pick Q (beyond register g.outputsize) (unusable _ _) _ (λ _. on_fault _ _) (λ _. h)

  -- a VA range of stage 1 that is not disabled
  pub by_range : (g : Geometry) (epd : Bool) (ttbr : ℕ) → (epd ≡ false → Q (Ok (table_of g (levels_below (start1 g)) ttbr))) → Q (range_of g epd ttbr).root
  by_range g epd ttbr h = by_pick Q epd (unusable _ _) _ (λ _. on_fault _ _) (λ e. by_root_of _ _ _ (h e))

  -- stage 1's root for an address, by its VA range
  pub by_root1_at : (s : Stage1) (a : ℕ) → (is_upper s a ≡ true → Q s.upper.root) → (is_upper s a ≡ false → Q s.lower.root) → Q (root1_at s a)
  by_root1_at s a upper lower =
      by_pick Q (in_range s a) (va_range s a).root (unusable _ _) (λ _. by_pick (λ (h : VaRange). Q h.root) (is_upper s a) s.upper s.lower upper lower) (λ _. on_fault _ _)

  -- stage 2's root, from a start level that is not before its granule's first, with few index bits
  pub by_root2 : (r : El2) →
      (let k = granule2 r in let g = geometry2 r in let start = start_level2 r in
      (l : ℕ) → start ≡ pos l → k.first ≤ l → lt_z (pos (g.stride + 4)) (size_check g start) ≡ false → Q (Ok (table_of g (levels_below start) r.vttbr))) → Q (root2 r)
  unfolding root2
  by_root2 r h =
      by_pick Q _ (unusable _ _) _ (λ _. on_fault _ _)
      (λ e. by_pick Q _ (unusable _ _) _ (λ _. on_fault _ _)
      (λ _. by_pick Q _ (unusable _ _) _ (λ _. on_fault _ _)
      (λ _. by_pick Q _ (unusable _ _) _ (λ _. on_fault _ _)
      (λ small. by_root_of _ _ _ (let p = not_before (start_level2 r) (granule2 r).first e in h p.0 p.1 p.2 small)))))

-- ---- stage 2's geometry

-- of a usable root: tables of 4,096 bytes or more, and at most four levels
abbrev pub Sane : Root → Type 0
Sane (Err u) = Unit {0}
Sane (Ok t) = (12 ≤ t.geometry.grainsize) × (t.levels ≤ 4)

few_below : (z : ℤ) (l : ℕ) → z ≡ pos l → levels_below z ≤ 3
unfolding levels_below
few_below z l e = subst (λ y. levels_below y ≤ 3) (sym e) (omega arith)

pub root2_sane : (r : El2) → Sane (root2 r)
root2_sane r = by_root2 Sane (λ k l. tt) r (λ l e _ _. ((tg0_granular _).least, suc-le-suc (few_below _ l e)))

-- a table below the root has all of its granule's entries, and no other byte
pub table_size_lem : (r : El2) → stage2_on r ≡ true → table_size r ≡ 8 * 2 ^ (geometry2 r).stride
table_size_lem r on =
    let h : Granular (granule2 r) = tg0_granular _ in
    let e : (granule2 r).log ≡ 3 + stride_of (granule2 r) = omega (arith, h.least) in
    pick_true (stage2_on r) _ _ on ∙ ap (2 ^◌) e ∙ pow-add 2 3 (stride_of (granule2 r))

-- ---- alignment

range_aligned : (k : Granule) (s output : ℕ) (epd : Bool) (ttbr : ℕ) → Granular k → Aligned (range_of (geometry_of k s output) epd ttbr).root
range_aligned k s output epd ttbr h =
    let e : 3 + stride_of k ≡ k.log = omega (arith, h.least) in
    by_range Aligned (λ k l. tt) (geometry_of k s output) epd ttbr (λ _. (upper_aligned ttbr _, λ x. rw e at (upper_aligned x (stride_of k))))

pub root1_aligned : (r : El2) (g : El1) (a : ℕ) → Aligned (root1_at (stage1 r g) a)
unfolding stage1
root1_aligned r g a = by_root1_at Aligned (λ k l. tt) (stage1 r g) a (λ _. range_aligned _ _ _ _ _ (tg1_granular _)) (λ _. range_aligned _ _ _ _ _ (tg0_granular _))
