-- What accepted settings say of stage 1's sizes.
-- Assumes nothing.
use mathlib.Core.Path.{◌≡◌, refl, sym, ◌∙◌}
use mathlib.Core.Bool.{Bool, true, false, not, ◌&&◌, ◌||◌, true≢false, false≢true}
use Prim.Native.Nat.{ℕ, ◌≤◌, ◌<◌}
use native.Mathlib.Nat.{mod-lt}
use native.Mathlib.Omega.{arith}
use lib.Dec.{leb, eqb}
use borrow.Author.Tests.{leb-true, eqb-true}
use Rattle.bits.specs.Bits.{pick}
use Rattle.bits.proofs.Tests.{and_left, and_right}
use Rattle.registers.specs.Tcr
use Rattle.settings.specs.Settings.{stage1_on, implies, listed_pamax, listed_size_field, items, settings}
use Rattle.settings.proofs.Items.{holds_at, numbered, item_holds}
use Rattle.level.specs.Level.{input_size}
use Rattle.level.proofs.Granules.{tg0_granular, tg1_granular}
use Rattle.regime.specs.Calls.{Sized, left_out, lower_half, upper_half, half_of, SoundHalf}
use Rattle.registers.specs.declared.El1.{El1}
use Rattle.registers.specs.declared.El2.{El2}

asked : (a b s t : Bool) → implies (a && not b) (s && t) ≡ true → a ≡ true → b ≡ false → s ≡ true
asked true false true t h p q = refl
asked true false false t h p q = absurd (false≢true h)
asked true true s t h p q = absurd (true≢false q)
asked false b s t h p q = absurd (false≢true p)

sized : (n : ℕ) → listed_size_field n ≡ true → Sized (input_size n)
sized n e =
    let low : 16 ≤ n = leb-true _ _ (and_left (leb 16 n) _ e) in
    let high : n ≤ 39 = leb-true _ _ (and_right (leb 16 n) _ e) in
    record { least = omega arith; most = omega arith }

module _ (r : El2) (g : El1) (accepted : settings r g ≡ 0) (on : stage1_on r g ≡ true) where
  pub lower_sized : Tcr.epd0 g.tcr ≡ false → Sized (input_size (Tcr.t0sz g.tcr))
  unfolding settings holds_at numbered pick
  lower_sized epd = sized _ (asked _ _ _ _ (item_holds (items r g) refl accepted 6) on epd)

  pub upper_sized : Tcr.epd1 g.tcr ≡ false → Sized (input_size (Tcr.t1sz g.tcr))
  unfolding settings holds_at numbered pick
  upper_sized epd = sized _ (asked _ _ _ _ (item_holds (items r g) refl accepted 7) on epd)

-- ---- of a VA range that is not left out

kept : (on epd : Bool) → left_out on epd ≡ false → (on ≡ true) × (epd ≡ false)
unfolding pick
kept true epd e = (refl, e)
kept false epd e = absurd (true≢false e)

module _ (r : El2) (g : El1) (accepted : settings r g ≡ 0) {on : Bool} (is : on ≡ stage1_on r g) where
  pub lower_sound : SoundHalf (lower_half on g)
  lower_sound =
      record {
        granule = tg0_granular _;
        field = mod-lt _ (omega arith);
        size = λ e. let k = kept on _ e in lower_sized r g accepted (sym is ∙ k.0) k.1;
      }

  pub upper_sound : SoundHalf (upper_half on g)
  upper_sound =
      record {
        granule = tg1_granular _;
        field = mod-lt _ (omega arith);
        size = λ e. let k = kept on _ e in upper_sized r g accepted (sym is ∙ k.0) k.1;
      }

  pub half_sound : (upper : Bool) → SoundHalf (half_of upper on g)
  unfolding pick
  half_sound true = upper_sound
  half_sound false = lower_sound

-- ---- PAMax

listed_small : (n : ℕ) → listed_pamax n ≡ true → n < 64
listed_small n e = by_tests _ _ _ _ _ _ refl refl refl refl refl refl e
  where
    by_tests : (a b c d f g : Bool) → eqb n 32 ≡ a → eqb n 36 ≡ b → eqb n 40 ≡ c → eqb n 42 ≡ d → eqb n 44 ≡ f → eqb n 48 ≡ g → (a || b || c || d || f || g) ≡ true → n < 64
    by_tests true b c d f g p q r s t u e = omega (arith, eqb-true n 32 p)
    by_tests false true c d f g p q r s t u e = omega (arith, eqb-true n 36 q)
    by_tests false false true d f g p q r s t u e = omega (arith, eqb-true n 40 r)
    by_tests false false false true f g p q r s t u e = omega (arith, eqb-true n 42 s)
    by_tests false false false false true g p q r s t u e = omega (arith, eqb-true n 44 t)
    by_tests false false false false false true p q r s t u e = omega (arith, eqb-true n 48 u)
    by_tests false false false false false false p q r s t u e = absurd (false≢true e)

pub pamax_small : (r : El2) (g : El1) → settings r g ≡ 0 → r.pamax < 64
unfolding settings holds_at numbered pick
pamax_small r g accepted = listed_small _ (item_holds (items r g) refl accepted 1)
