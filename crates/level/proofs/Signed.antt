-- Signed numbers of 64 bits: what fits, and what the machine reads back.
-- Assumes nothing.
use mathlib.Core.Path.{◌≡◌, refl, sym, subst, ap, ◌∙◌}
use mathlib.Core.Bool.{Bool, true, false, cond, true≢false}
use Prim.Native.Nat.{ℕ, zero, suc, ◌+◌, ◌-◌, ◌*◌, ◌^◌, ◌≤◌, ◌<◌}
use native.Mathlib.Nat.{mul-le-mul}
use native.Mathlib.Omega.{arith}
use lib.Dec.{ltb}
use lib.IntN.{ℤ, pos, negsuc, ◌+ℤ◌, ◌-ℤ◌, ◌*ℤ◌}
use lib.Signed.{mag, lt_z}
use mir.Syntax.{w64}
use mir.Val.{SFits, to_z, of_z}
use mir.Facts.{to_z_pos, to_z-of_z, sfits_lit}
use borrow.Author.Tests.{ltb-true, le-ltb}
use Rattle.level.specs.Granule.{stride_of, geometry_of, Granular}
use Rattle.level.specs.Level.{start2, size_check, levels_below}
use Rattle.level.specs.declared.granule.Granule.{Granule}

-- a number as the machine holds it
abbrev pub held : ℤ → ℤ
held z = to_z w64 (of_z w64 z)

mag_cond : (t : Bool) (x y n : ℕ) → x < n → y < n → mag (cond t (negsuc x) (pos y)) < n
mag_cond true x y n hx hy = hx
mag_cond false x y n hx hy = hy

pub difference_fits : (a b : ℕ) → a < 2 ^ 63 → b < 2 ^ 63 → SFits w64 (pos a -ℤ pos b)
difference_fits a zero ha hb = record { sfits = omega arith }
difference_fits a (suc b) ha hb = record { sfits = mag_cond (ltb a (suc b)) _ _ _ (omega arith) (omega arith) }

-- the difference of two numbers that were cast
module _ (a n : ℕ) (ha : a < 2 ^ 63) (hn : n < 2 ^ 63) where
  pub less_is : held (to_z w64 a -ℤ to_z w64 n) ≡ pos a -ℤ pos n
  less_is = rw (to_z_pos w64 ha, to_z_pos w64 hn) (to_z-of_z (difference_fits a n ha hn))

-- ---- a sign

module _ (z : ℤ) (fits : SFits w64 z) where
  pub negative : lt_z (held z) (pos 0) ≡ true → (l : ℕ) × (l < 2 ^ 63) × (z ≡ negsuc l)
  negative e = by_sign z fits (rw (to_z-of_z fits) at e)
    where
      by_sign : (y : ℤ) → SFits w64 y → lt_z y (pos 0) ≡ true → (l : ℕ) × (l < 2 ^ 63) × (y ≡ negsuc l)
      by_sign (pos l) f h = absurd (omega (arith, ltb-true l 0 h))
      by_sign (negsuc l) f h = (l, f.sfits, refl)

  pub natural : lt_z (held z) (pos 0) ≡ false → (l : ℕ) × (l < 2 ^ 63) × (z ≡ pos l)
  natural e = by_sign z fits (rw (to_z-of_z fits) at e)
    where
      by_sign : (y : ℤ) → SFits w64 y → lt_z y (pos 0) ≡ false → (l : ℕ) × (l < 2 ^ 63) × (y ≡ pos l)
      by_sign (pos l) f h = (l, f.sfits, refl)
      by_sign (negsuc l) f h = absurd (true≢false h)

-- -1 less a negative number
pub mirror : (l : ℕ) → negsuc 0 -ℤ negsuc l ≡ pos l
mirror l = let h : 1 ≤ suc l = omega arith in simp le-ltb (ap pos (omega arith))

-- ---- stage 2's start levels: what holds of each holds of any

module _ (P : ℤ → Type 0) (p3 : P (pos 3)) (p2 : P (pos 2)) (p1 : P (pos 1)) (p0 : P (pos 0)) (p_1 : P (negsuc 0)) where
  by_first : (f n : ℕ) → f ≤ 1 → n < 4 → P (pos (2 + f) -ℤ pos n)
  by_first zero zero g h = p2
  by_first zero (suc zero) g h = p1
  by_first zero (suc (suc zero)) g h = p0
  by_first zero (suc (suc (suc zero))) g h = p_1
  by_first (suc zero) zero g h = p3
  by_first (suc zero) (suc zero) g h = p2
  by_first (suc zero) (suc (suc zero)) g h = p1
  by_first (suc zero) (suc (suc (suc zero))) g h = p0
  by_first zero (suc (suc (suc (suc n)))) g h = absurd (omega arith)
  by_first (suc zero) (suc (suc (suc (suc n)))) g h = absurd (omega arith)
  by_first (suc (suc f)) n g h = absurd (omega arith)

  pub by_start2 : (k : Granule) (n : ℕ) → Granular k → n < 4 → P (start2 k n)
  unfolding start2
  by_start2 k n g h = by_first k.first n g.first h

-- a start level, as the machine holds it, with c levels below it
pub record Level (z : ℤ) : Type 0 where
  pub fits : SFits w64 z
  pub c : ℕ
  pub few : c ≤ 4
  pub below : pos 3 -ℤ z ≡ pos c

pub level_of : (k : Granule) (n : ℕ) (z : ℤ) → Granular k → n < 4 → z ≡ start2 k n → Level z
level_of k n z g h e =
    subst Level (sym e)
    (by_start2 Level
    (record { fits = sfits_lit tt; c = 0; few = omega arith; below = refl })
    (record { fits = sfits_lit tt; c = 1; few = omega arith; below = refl })
    (record { fits = sfits_lit tt; c = 2; few = omega arith; below = refl })
    (record { fits = sfits_lit tt; c = 3; few = omega arith; below = refl })
    (record { fits = sfits_lit tt; c = 4; few = omega arith; below = refl })
    k n g h)

-- ---- the size check of stage 2, as the machine holds it: a size of s bits, a stride of t and a granule of l

module _ (s t l : ℕ) (z : ℤ) (v : Level z) (most : s ≤ 64) (stride : t ≤ 13) (log : l ≤ 16) where
  abbrev levels : ℤ
  levels = pos 3 -ℤ held z

  abbrev strides : ℤ
  strides = held levels *ℤ to_z w64 t

  abbrev below : ℤ
  below = held strides +ℤ to_z w64 l

  few_strides : v.c * t ≤ 52
  few_strides = mul-le-mul v.few stride

  levels_is : levels ≡ pos v.c
  levels_is = rw (to_z-of_z v.fits) v.below

  pub levels_fit : SFits w64 levels
  levels_fit = rw levels_is (record { sfits = omega (arith, v.few) })

  strides_is : strides ≡ pos (v.c * t)
  strides_is = rw (to_z-of_z levels_fit, levels_is, to_z_pos w64 {n = t} (omega arith))

  pub strides_fit : SFits w64 strides
  strides_fit = rw strides_is (record { sfits = omega (arith, few_strides) })

  below_is : below ≡ pos (v.c * t + l)
  below_is = rw (to_z-of_z strides_fit, strides_is, to_z_pos w64 {n = l} (omega arith))

  pub below_fits : SFits w64 below
  below_fits = rw below_is (record { sfits = omega (arith, few_strides) })

  left_is : to_z w64 s -ℤ held below ≡ pos s -ℤ pos (v.c * t + l)
  left_is = rw (to_z-of_z below_fits, below_is, to_z_pos w64 {n = s} (omega arith))

  pub left_fits : SFits w64 (to_z w64 s -ℤ held below)
  left_fits = rw left_is (difference_fits s (v.c * t + l) (omega arith) (omega (arith, few_strides)))

  pub check_is : held (to_z w64 s -ℤ held below) ≡ pos s -ℤ ((pos 3 -ℤ z) *ℤ pos t +ℤ pos l)
  check_is = to_z-of_z left_fits ∙ left_is ∙ rw v.below

-- ---- what is read back of start levels and of a size check

pub start2_held : (k : Granule) (n : ℕ) (z : ℤ) → Granular k → n < 4 → z ≡ start2 k n → held z ≡ z
start2_held k n z g h e = to_z-of_z (level_of k n z g h e).fits

pub check_held : (k : Granule) (s output n : ℕ) (z : ℤ) → Granular k → s ≤ 64 → n < 4 → z ≡ size_check (geometry_of k s output) (start2 k n) → held z ≡ z
unfolding size_check
check_held k s output n z g most h e =
    let v = level_of k n (start2 k n) g h refl in
    let stride : stride_of k ≤ 13 = omega (arith, g.most) in
    let few : v.c * stride_of k ≤ 52 = mul-le-mul v.few stride in
    let is : z ≡ pos s -ℤ pos (v.c * stride_of k + k.log) = e ∙ rw v.below in
    to_z-of_z (subst (SFits w64) (sym is) (difference_fits s (v.c * stride_of k + k.log) (omega arith) (omega (arith, few, g.most))))

-- ---- how many levels lie below a start level

-- one fewer than the strides of stage 1
pub below_four : (k : ℕ) → k ≤ 6 → k - 1 ≡ levels_below (pos 4 -ℤ pos k)
unfolding levels_below
below_four zero h = refl
below_four (suc zero) h = refl
below_four (suc (suc zero)) h = refl
below_four (suc (suc (suc zero))) h = refl
below_four (suc (suc (suc (suc zero)))) h = refl
below_four (suc (suc (suc (suc (suc zero))))) h = refl
below_four (suc (suc (suc (suc (suc (suc zero)))))) h = refl
below_four (suc (suc (suc (suc (suc (suc (suc k))))))) h = absurd (omega arith)

pub few_below2 : (k : Granule) (n : ℕ) (z : ℤ) → Granular k → n < 4 → z ≡ start2 k n → levels_below (held z) ≤ 8
unfolding levels_below
few_below2 k n z g h e =
    subst (λ y. levels_below y ≤ 8) (sym (start2_held k n z g h e ∙ e))
    (by_start2 (λ y. levels_below y ≤ 8) (omega arith) (omega arith) (omega arith) (omega arith) (omega arith) k n g h)
