-- A geometry's masks: what they keep of a word.
-- Assumes nothing.
use mathlib.Core.Path.{◌≡◌, refl, sym, ap, ◌∙◌, subst}
use mathlib.Core.Bool.{Bool, true, false, not, ◌&&◌}
use Prim.Native.Nat.{ℕ, zero, suc, ◌-◌, ◌*◌, ◌/◌, ◌%◌, ◌^◌, ◌≤◌, ◌<◌}
use native.Mathlib.Nat.{mod-lt, div-mul-le_self, sub-add_cancel, lt_of_le_of_lt}
use native.Mathlib.Omega.{arith}
use borrow.Author.Tests.{leb-true, leb-false, lt-ltb, eq-eqb, ne_eqb}
use lib.Dec.{leb, ltb, eqb}
use lib.Pow.{pow_pos, field}
use lib.Bits.{bit_and, and_high, and_zero_r}
use Rattle.bits.specs.Bits.{pick, bit, upper, beyond}
use Rattle.bits.proofs.Shifts.{shifted_out, low_48}
use Rattle.descriptor.specs.Turn.{above}

-- the mask of a table's address
pub and_table : (x k : ℕ) → k ≤ 48 → bit_and x (2 ^ 48 - 2 ^ k) ≡ upper x k
and_table x k h =
    subst (λ (w : ℕ). bit_and x (2 ^ w - 2 ^ k) ≡ x % 2 ^ w / 2 ^ k * 2 ^ k) (sub-add_cancel h)
    (and_high x (48 - k) k ∙ ap (λ (y : ℕ). y * 2 ^ k) (sym (field x (48 - k) k)))

-- a multiple of 2 ^ k is not 0 where there is one of it
some : (y k : ℕ) → not (eqb (y * 2 ^ k) 0) ≡ ltb 0 y
some zero k = rw (eq-eqb (0 * 2 ^ k) 0 (omega arith))
some (suc y) k = rw (ne_eqb (suc y * 2 ^ k) 0 (λ e. omega (arith, pow_pos k)), lt-ltb 0 (suc y) (omega arith))

-- an address has a bit beyond a size where the mask keeps one
pub beyond_above : (x k : ℕ) → not (eqb (bit_and x (above k)) 0) ≡ beyond x k
unfolding pick
beyond_above x k = by_test (leb k 48) refl
  where
    by_test : (b : Bool) → leb k 48 ≡ b → not (eqb (bit_and x (pick b (2 ^ 48 - 2 ^ k) 0)) 0) ≡ beyond x k
    by_test true e = rw (and_table x k (leb-true k 48 e)) (some (x % 2 ^ 48 / 2 ^ k) k)
    by_test false e =
        let far : 48 ≤ k = omega (arith, leb-false k 48 e) in
        rw (and_zero_r x, shifted_out (low_48 x) far)

-- a table's address is below 48 bits
pub upper_small : (x k : ℕ) → upper x k < 2 ^ 48
upper_small x k = lt_of_le_of_lt (div-mul-le_self (x % 2 ^ 48) (2 ^ k)) (low_48 x)

-- the contiguous bit by its mask, of the largest block (a) of a small input size (b)
pub and_contiguous : (x : ℕ) (a b : Bool) → (a && not (eqb (bit_and x (pick b (2 ^ 52) 0)) 0)) ≡ (a && b && bit x 52)
unfolding pick
and_contiguous x true true = rw (and_high x 1 52) (set (x / 2 ^ 52 % 2) (mod-lt _ (pow_pos 1)))
  where
    set : (d : ℕ) → d < 2 → not (eqb (d * 2 ^ 52) 0) ≡ eqb d 1
    set zero h = refl
    set (suc zero) h = refl
    set (suc (suc d)) h = absurd (omega arith)
and_contiguous x true false = rw (and_zero_r x)
and_contiguous x false b = refl
