-- How many strides of t bits x bits take, rounded up.
-- Assumes nothing.
use mathlib.Core.Path.{◌≡◌}
use Prim.Native.Nat.{ℕ, zero, suc, ◌+◌, ◌-◌, ◌*◌, ◌/◌, ◌≤◌, ◌<◌}
use native.Mathlib.Nat.{suc-mul, mul_comm, div-mul-le_self, div-lt_iff_lt-mul, le-div_iff_mul-le, lt-suc_self}
use native.Mathlib.Omega.{arith}

-- one fewer of what is more than x by less than one
one_fewer : (t x c : ℕ) → 0 < x → c * t < x + t → (c - 1) * t < x
one_fewer t x zero some h = omega arith
one_fewer t x (suc c) some h = let e : suc c - 1 ≡ c = omega arith in rw e (omega (arith, suc-mul c t))

module _ (x t : ℕ) (some : 0 < t) where
  abbrev pub taken : ℕ
  taken = (x + (t - 1)) / t

  -- they have room for the bits
  pub room : x ≤ t * taken
  room = omega (arith, (div-lt_iff_lt-mul some).0 (lt-suc_self taken), suc-mul taken t, mul_comm taken t)

  -- and one fewer would not
  pub no_room : 0 < x → t * (taken - 1) < x
  no_room h = let few : taken * t < x + t = omega (arith, div-mul-le_self (x + (t - 1)) t) in omega (arith, one_fewer t x taken h few, mul_comm (taken - 1) t)

  pub more_than : (m : ℕ) → m * t < x → m < taken
  more_than m h = let p : suc m * t ≤ x + (t - 1) = omega (arith, suc-mul m t) in (le-div_iff_mul-le some).1 p

  pub at_least : 0 < x → 1 ≤ taken
  at_least h = more_than 0 (omega arith)

  pub at_most : (m : ℕ) → x ≤ m * t → taken ≤ m
  at_most m h = let p : x + (t - 1) < suc m * t = omega (arith, suc-mul m t) in omega (arith, (div-lt_iff_lt-mul some).1 p)
