-- Fields of a word, and choice by a test.
-- Assumes nothing.
use Rattle.std.specs.Prelude.{Bool, true, false, ℕ, ◌*◌, ◌/◌, ◌%◌, ◌^◌, eqb, ltb}

-- the first where the test holds, else the second
unfoldable pub pick : {A : Type 0} → Bool → A → A → A
pick true a b = a
pick false a b = b

-- n bits of x, from bit low up
abbrev pub field : ℕ → ℕ → ℕ → ℕ
field x low n = x / 2 ^ low % 2 ^ n

-- bit i of x is set
abbrev pub bit : ℕ → ℕ → Bool
bit x i = eqb (x / 2 ^ i % 2) 1

-- bits 47 down to low of x, in their places
abbrev pub upper : ℕ → ℕ → ℕ
upper x low = x % 2 ^ 48 / 2 ^ low * 2 ^ low

-- some bit of x from low up to 47 is set
abbrev pub beyond : ℕ → ℕ → Bool
beyond x low = ltb 0 (x % 2 ^ 48 / 2 ^ low)
