-- Kinds of access, by the caller's numbers (01, What one question holds).
-- Assumes nothing.
use Rattle.std.specs.Prelude.{Bool, not, ◌&&◌, ◌||◌, ℕ, ◌%◌, leb, eqb}
use Rattle.access.specs.declared.Access.{Access}

abbrev pub is_read : Access → Bool
is_read a = eqb a.kind 0

abbrev pub is_write : Access → Bool
is_write a = eqb a.kind 1

abbrev pub is_fetch : Access → Bool
is_fetch a = eqb a.kind 2

abbrev pub at_el0 : Access → Bool
at_el0 a = eqb a.el 0

-- the numbers that a question may hold; others are refusal 13
abbrev pub listed_size : ℕ → Bool
listed_size n = eqb n 1 || eqb n 2 || eqb n 4 || eqb n 8 || eqb n 16

abbrev pub listed : (kind el size : ℕ) → Bool
listed kind el size = leb kind 2 && leb el 1 && listed_size size

-- a data access that is not a multiple of its size (01, Checks)
abbrev pub unaligned : Access → Bool
unaligned a = not (is_fetch a) && not (eqb (a.address % a.size) 0)
