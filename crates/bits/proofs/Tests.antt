-- Tests and choices by them.
-- Assumes nothing.
use mathlib.Core.Path.{◌≡◌, refl, sym, ◌∙◌}
use mathlib.Core.Bool.{Bool, true, false, ◌&&◌, true≢false, false≢true}
use Prim.Native.Nat.{ℕ, ◌≤◌, ◌<◌}
use lib.Dec.{leb}
use borrow.Author.Tests.{lt-ltb, le-ltb, le-leb, lt-leb, eq-eqb, ne_eqb}
use Rattle.bits.specs.Bits.{pick}

-- a test's value from the fact on its numbers
pub ruleset tests = (lt-ltb, le-ltb, le-leb, lt-leb, eq-eqb, ne_eqb)

pub and_left : (a b : Bool) → (a && b) ≡ true → a ≡ true
and_left true b e = refl
and_left false b e = absurd (false≢true e)

pub and_right : (a b : Bool) → (a && b) ≡ true → b ≡ true
and_right true b e = e
and_right false b e = absurd (false≢true e)

-- what holds of both choices, each under its test, holds of the choice
pub by_pick : {A : Type 0} (P : A → Type 0) (b : Bool) (p q : A) → (b ≡ true → P p) → (b ≡ false → P q) → P (pick b p q)
unfolding pick
by_pick P true p q f g = f refl
by_pick P false p q f g = g refl

pub pick_true : {A : Type 0} (b : Bool) (p q : A) → b ≡ true → pick b p q ≡ p
unfolding pick
pick_true true p q e = refl
pick_true false p q e = absurd (false≢true e)

pub pick_false : {A : Type 0} (b : Bool) (p q : A) → b ≡ false → pick b p q ≡ q
unfolding pick
pick_false true p q e = absurd (true≢false e)
pick_false false p q e = refl

-- ---- what code returns at the end of nested tests

-- what a choice is, by its test
pub then : {A : Type 0} (b : Bool) (x p q : A) → b ≡ true → x ≡ p → x ≡ pick b p q
then b x p q e h = h ∙ sym (pick_true b p q e)

pub else : {A : Type 0} (b : Bool) (x p q : A) → b ≡ false → x ≡ q → x ≡ pick b p q
else b x p q e h = h ∙ sym (pick_false b p q e)

-- a test's value, where a call answered r for it
pub told : {r b v : Bool} → r ≡ b → r ≡ v → b ≡ v
told p q = sym p ∙ q

-- a test's value, where calls answered m and n for its two numbers
pub told_le : {m n p q : ℕ} → m ≡ p → n ≡ q → m ≤ n → leb p q ≡ true
told_le {m} {n} e f h = rw (← e, ← f) (le-leb m n h)

pub told_lt : {m n p q : ℕ} → m ≡ p → n ≡ q → n < m → leb p q ≡ false
told_lt {m} {n} e f h = rw (← e, ← f) (lt-leb m n h)

pub ruleset choices = (then, else, told, told_le, told_lt, tests)
