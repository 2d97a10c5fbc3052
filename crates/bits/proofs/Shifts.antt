-- Shifts of words: what lies past the word's end, and shifts left that lose no bit.
-- Assumes nothing.
use mathlib.Core.Path.{◌≡◌, ◌∙◌}
use Prim.Native.Nat.{ℕ, ◌*◌, ◌/◌, ◌%◌, ◌^◌, ◌≤◌, ◌<◌}
use native.Mathlib.Nat.{one-mul, mod-lt, mod-eq_of_lt, div-eq_of_lt, lt_of_lt_of_le}
use native.Mathlib.Omega.{arith}
use lib.Dec.{lit<}
use lib.Pow.{shl_exact, pow_pos, pow_mono}

-- no bit at or past the end
pub shifted_out : {x k i : ℕ} → x < 2 ^ k → k ≤ i → x / 2 ^ i ≡ 0
shifted_out h e = div-eq_of_lt (lt_of_lt_of_le h (pow_mono e))

-- every bit below the end
pub kept : {x k i : ℕ} → x < 2 ^ k → k ≤ i → x % 2 ^ i ≡ x
kept h e = mod-eq_of_lt (lt_of_lt_of_le h (pow_mono e))

pub one_shl : (n : ℕ) → n < 64 → (1 * 2 ^ n) % 2 ^ 64 ≡ 2 ^ n
one_shl n h = shl_exact {a = 1} 1 n 64 (lit< tt) (omega arith) ∙ one-mul (2 ^ n)

pub low_48 : (x : ℕ) → x % 2 ^ 48 < 2 ^ 48
low_48 x = mod-lt x (pow_pos 48)
