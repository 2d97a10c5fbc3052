-- What tables impose, by the words of their entries or-ed: each bit of the words is or-ed.
-- Assumes nothing.
use mathlib.Core.Path.{◌≡◌, refl, ap, ◌∙◌}
use mathlib.Core.Bool.{◌||◌}
use Prim.Native.Nat.{ℕ, zero, suc, ◌/◌, ◌%◌, ◌^◌, ◌<◌}
use native.Mathlib.Nat.{mod-lt}
use native.Mathlib.Omega.{arith}
use lib.Dec.{eqb}
use lib.Pow.{pow_pos}
use lib.Bits.{bit_or, or_shr, or_mod}
use Rattle.bits.specs.Bits.{bit}
use Rattle.descriptor.specs.Entry.{nothing, inherit}
use Rattle.descriptor.specs.Turn.{imposed}

pub imposed_none : imposed 0 ≡ nothing
imposed_none = refl

-- one digit of each
or_digit : (p q : ℕ) → p < 2 → q < 2 → eqb (bit_or p q) 1 ≡ (eqb p 1 || eqb q 1)
or_digit zero q l h = refl
or_digit (suc zero) zero l h = refl
or_digit (suc zero) (suc zero) l h = refl
or_digit (suc zero) (suc (suc q)) l h = absurd (omega arith)
or_digit (suc (suc p)) q l h = absurd (omega arith)

pub bit_or_lem : (t x i : ℕ) → bit (bit_or t x) i ≡ (bit t i || bit x i)
bit_or_lem t x i =
    ap (λ (y : ℕ). eqb (y % 2) 1) (or_shr t x i) ∙ ap (λ (y : ℕ). eqb y 1) (or_mod (t / 2 ^ i) (x / 2 ^ i) 1)
    ∙ or_digit (t / 2 ^ i % 2) (x / 2 ^ i % 2) (mod-lt _ (pow_pos 1)) (mod-lt _ (pow_pos 1))

pub imposed_or : (t x : ℕ) → imposed (bit_or t x) ≡ inherit (imposed t) x
imposed_or t x = rw (bit_or_lem t x 62, bit_or_lem t x 61, bit_or_lem t x 60, bit_or_lem t x 59)
