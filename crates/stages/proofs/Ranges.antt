-- The root for an address, by bit 55 and one comparison, is the definition's, by bit Top and all bits from the input size up, where each VA range has an input size of at most 48 or is disabled.
-- With TBI bit Top is bit 55. Without it bits 63 and 55 may differ: then the address lies in neither range.
-- Assumes nothing.
use mathlib.Core.Path.{◌≡◌, refl, sym, ap, ◌∙◌}
use mathlib.Core.Bool.{Bool, true, false, not}
use Prim.Native.Nat.{ℕ, suc, ◌+◌, ◌-◌, ◌*◌, ◌/◌, ◌%◌, ◌^◌, ◌≤◌, ◌<◌}
use native.Mathlib.Nat.{mod-eq_of_lt, div-eq_of_lt, lt_of_lt_of_le, le_trans, le_antisymm, le-div_iff_mul-le, div-lt_iff_lt-mul, lt-div-mul-add}
use native.Mathlib.Omega.{arith}
use lib.Dec.{eqb, leb, ltb, lit<, lit≤}
use lib.Bits.{bit_and, and_mask}
use lib.Pow.{pow_pos, pow_mono, shr_mono}
use borrow.Author.Tests.{ltb-true, ltb-false, leb-true, leb-false, eqb-true, eqb-false, lt-ltb, le-leb, lt-leb, eq-eqb, ne_eqb}
use Rattle.bits.specs.Bits.{pick, bit}
use Rattle.bits.proofs.Tests.{by_pick, pick_false}
use Rattle.bits.proofs.Shifts.{shifted_out}
use Rattle.descriptor.specs.declared.entry.FaultKind.TheVariants.{Translation}
use Rattle.walk.specs.Root.{Root, unusable}
use Rattle.stages.specs.Stage1.{root1_at}
use Rattle.std.proofs.Common.{inl, inr}
use Rattle.std.proofs.lemmas.Bool.{cases_lt}
use Rattle.stages.specs.Ranges.{counted, ones, within, bounds_of, Counting, range_at, root_at, Narrow}
use Rattle.stages.specs.declared.stage1.VaRange.{VaRange}
use Rattle.stages.specs.declared.stage1.Stage1.{Stage1}
use Rattle.stages.specs.declared.range.Bounds.{Bounds}
use Rattle.stages.specs.declared.range.Range.TheVariants.{Lower, Upper, Neither}

pub ones_64 : (tbi : Bool) → ones tbi < 2 ^ 64
ones_64 tbi = by_pick (λ x. x < 2 ^ 64) tbi (2 ^ 56 - 1) (2 ^ 64 - 1) (λ _. lit< tt) (λ _. lit< tt)

-- what the mask leaves of an address
pub and_ones : (a : ℕ) (tbi : Bool) → a < 2 ^ 64 → bit_and a (ones tbi) ≡ counted tbi a
unfolding pick
and_ones a true fits = and_mask a 56
and_ones a false fits = and_mask a 64 ∙ mod-eq_of_lt fits

-- a stage's bounds have the masks of its flags
pub counting_of : (s : Stage1) (b : Bounds) → b ≡ bounds_of s → Counting b
unfolding bounds_of
counting_of s b e = rw e (refl, refl)

-- ---- one comparison

-- the bits of x from n up are those of a larger y exactly where x is at least y with its bits below n cleared
same_above : (x y n : ℕ) → x ≤ y → eqb (x / 2 ^ n) (y / 2 ^ n) ≡ not (ltb x (y / 2 ^ n * 2 ^ n))
same_above x y n h = by_test (ltb x (y / 2 ^ n * 2 ^ n)) refl
  where
    by_test : (b : Bool) → ltb x (y / 2 ^ n * 2 ^ n) ≡ b → eqb (x / 2 ^ n) (y / 2 ^ n) ≡ not b
    by_test true e = let l : x / 2 ^ n < y / 2 ^ n = (div-lt_iff_lt-mul (pow_pos n)).1 (ltb-true _ _ e) in ne_eqb (x / 2 ^ n) (y / 2 ^ n) (λ q. omega arith)
    by_test false e = eq-eqb _ _ (le_antisymm (shr_mono n h) ((le-div_iff_mul-le (pow_pos n)).1 (ltb-false _ _ e)))

-- x has no bits from n up exactly where it is below 2 to the n
none_above : (x n : ℕ) → eqb (x / 2 ^ n) 0 ≡ not (leb (2 ^ n) x)
none_above x n = by_test (leb (2 ^ n) x) refl
  where
    by_test : (b : Bool) → leb (2 ^ n) x ≡ b → eqb (x / 2 ^ n) 0 ≡ not b
    by_test true e =
        let l : 1 ≤ x / 2 ^ n = (le-div_iff_mul-le (pow_pos n)).1 (omega (arith, leb-true (2 ^ n) x e)) in ne_eqb (x / 2 ^ n) 0 (λ q. omega arith)
    by_test false e = eq-eqb _ _ (div-eq_of_lt (leb-false (2 ^ n) x e))

-- the same by 2 to the n as a word, where x is not the largest word
none_within : (x n : ℕ) → x < 2 ^ 64 - 1 → eqb (x / 2 ^ n) 0 ≡ not (leb (within n) x)
none_within x n h =
    by_pick (λ y. eqb (x / 2 ^ n) 0 ≡ not (leb y x)) (ltb n 64) (2 ^ n) (2 ^ 64 - 1) (λ _. none_above x n)
    (λ e. eq-eqb _ _ (shifted_out (lt_of_lt_of_le h (lit≤ tt)) (ltb-false _ _ e)) ∙ sym (ap not (lt-leb _ _ h)))

-- ---- roots

abbrev none : Root
none = unusable Translation 0

upper_picked : (s : Stage1) (b : Bool) → pick (not b) s.upper.root none ≡ root_at s (pick b Neither Upper)
unfolding pick root_at
upper_picked s true = refl
upper_picked s false = refl

lower_picked : (s : Stage1) (b : Bool) → pick (not b) s.lower.root none ≡ root_at s (pick b Neither Lower)
unfolding pick root_at
lower_picked s true = refl
lower_picked s false = refl

upper_same : (s : Stage1) (x y : ℕ) → x ≤ y →
    (let n = s.upper.inputsize in pick (eqb (x / 2 ^ n) (y / 2 ^ n)) s.upper.root none ≡ root_at s (pick (ltb x (y / 2 ^ n * 2 ^ n)) Neither Upper))
upper_same s x y h = rw (same_above x y s.upper.inputsize h) (upper_picked s _)

lower_same : (s : Stage1) (x : ℕ) → x < 2 ^ 64 - 1 →
    (let n = s.lower.inputsize in pick (eqb (x / 2 ^ n) 0) s.lower.root none ≡ root_at s (pick (leb (within n) x) Neither Lower))
lower_same s x h = rw (none_within x s.lower.inputsize h) (lower_picked s _)

-- ---- where bits 63 and 55 differ

clear_55 : (a : ℕ) → a < 2 ^ 64 → bit a 55 ≡ false → a + 2 ^ 48 < 2 ^ 64
clear_55 a h e = omega (arith, eqb-false (a / 2 ^ 55 % 2) 1 e)

clear_63 : (a : ℕ) → a < 2 ^ 64 → bit a 63 ≡ false → a + 2 ^ 48 < 2 ^ 64
clear_63 a h e = omega (arith, eqb-false (a / 2 ^ 63 % 2) 1 e)

set_55 : (a : ℕ) → bit a 55 ≡ true → 2 ^ 48 ≤ a
set_55 a e = omega (arith, eqb-true (a / 2 ^ 55 % 2) 1 e)

set_63 : (a : ℕ) → bit a 63 ≡ true → 2 ^ 48 ≤ a
set_63 a e = omega (arith, eqb-true (a / 2 ^ 63 % 2) 1 e)

-- an address outside of a range. A disabled range has the same root
left_out : (r : VaRange) (b : Bool) → Narrow r → (r.inputsize ≤ 48 → b ≡ false) → pick b r.root none ≡ none
left_out r b narrow f =
    elim (cases_lt 48 r.inputsize) [
      | inl more ↦ by_pick (λ x. x ≡ none) b r.root none (λ _. narrow more) (λ _. refl)
      | inr few ↦ pick_false b _ _ (f few)
    ]

not_upper : (r : VaRange) (a : ℕ) → Narrow r → a + 2 ^ 48 < 2 ^ 64 → (let n = r.inputsize in pick (eqb (a / 2 ^ n) ((2 ^ 64 - 1) / 2 ^ n)) r.root none ≡ none)
not_upper r a narrow h =
    let n = r.inputsize in
    left_out r _ narrow
    (λ few. same_above a (2 ^ 64 - 1) n (omega arith) ∙ ap not (lt-ltb a ((2 ^ 64 - 1) / 2 ^ n * 2 ^ n) (omega (arith, lt-div-mul-add {a = 2 ^ 64 - 1} (pow_pos n), pow_mono few))))

not_lower : (r : VaRange) (a : ℕ) → Narrow r → 2 ^ 48 ≤ a → (let n = r.inputsize in pick (eqb (a / 2 ^ n) 0) r.root none ≡ none)
not_lower r a narrow h = left_out r _ narrow (λ few. none_above a r.inputsize ∙ ap not (le-leb _ _ (le_trans (pow_mono few) h)))

-- ---- the root for an address

module _ (s : Stage1) (a : ℕ) (fits : a < 2 ^ 64) (lower : Narrow s.lower) (upper : Narrow s.upper) where
  whole : a % 2 ^ 64 ≡ a
  whole = mod-eq_of_lt fits

  -- by bit 55, its TBI, and bit 63
  by_bits : (b t h : Bool) → bit a 55 ≡ b → pick b s.tbi1 s.tbi0 ≡ t → bit a 63 ≡ h → root1_at s a ≡ root_at s (range_at (bounds_of s) a)
  unfolding pick bounds_of range_at
  by_bits true true h p q r = simp (p, q) (upper_same s (a % 2 ^ 56) (2 ^ 56 - 1) (omega arith))
  by_bits false true h p q r = simp (p, q) (lower_same s (a % 2 ^ 56) (omega arith))
  by_bits true false true p q r = simp (p, q, r, whole) (upper_same s a (2 ^ 64 - 1) (omega arith))
  by_bits false false false p q r = simp (p, q, r, whole) (lower_same s a (omega (arith, clear_55 a fits p)))
  by_bits true false false p q r =
      simp (p, q, r, whole) (not_lower _ a lower (set_55 a p) ∙ sym (not_upper _ a upper (clear_63 a fits r)) ∙ upper_same s a (2 ^ 64 - 1) (omega arith))
  by_bits false false true p q r =
      simp (p, q, r, whole) (not_upper _ a upper (clear_55 a fits p) ∙ sym (not_lower _ a lower (set_63 a r)) ∙ lower_same s a (omega (arith, clear_55 a fits p)))

  pub root1_range : root1_at s a ≡ root_at s (range_at (bounds_of s) a)
  root1_range = by_bits (bit a 55) _ (bit a 63) refl refl refl

-- ---- with stage 1 off

-- the bits that count are those up to Top
counted_top : (a : ℕ) (tbi : Bool) → a < 2 ^ 64 → counted tbi a ≡ a % 2 ^ suc (pick {A = ℕ} tbi 55 63)
unfolding pick
counted_top a true fits = refl
counted_top a false fits = sym (mod-eq_of_lt fits)

pub below_ceiling : (a n : ℕ) {ceiling : ℕ} (tbi : Bool) → a < 2 ^ 64 → ceiling ≡ 2 ^ n → not (leb ceiling (counted tbi a)) ≡ eqb (a % 2 ^ suc (pick {A = ℕ} tbi 55 63) / 2 ^ n) 0
below_ceiling a n tbi fits e = rw (e, counted_top a tbi fits) (sym (none_above _ n))
