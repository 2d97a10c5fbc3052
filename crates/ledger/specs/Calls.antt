-- For the proofs of code: how many numbers are below a bound.
-- Assumes nothing.
use Rattle.std.specs.Prelude.{List, ℕ, ltb}
use Rattle.ledger.specs.Ledger.{count}

-- how many of some numbers are below k
abbrev pub below : (k : ℕ) → List ℕ → ℕ
below k l = count (λ n. ltb n k) l
