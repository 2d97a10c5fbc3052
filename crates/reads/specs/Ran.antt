-- For the contracts of code: a call that ran a program of reads. Its outcome, its count and its log are the program's.
-- Assumes nothing.
use Rattle.std.specs.Prelude.{◌≡◌, List, map, ℕ, ◌+◌, length, Option}
use Rattle.std.proofs.lemmas.List.Edits.{sets}
use Rattle.reads.specs.Program.{Request, Outcome, Program, run, reads}

-- the addresses read go into the log one after the other, from the count on; every other word is kept
pub record Ran {E A : Type 0} (m : Request → Option ℕ) (p : Program Request E A) (log : List ℕ) (count : ℕ) (o : Outcome E A) (end : ℕ) (log' : List ℕ) : Type 0 where
  pub outcome : o ≡ run m p
  pub counted : end ≡ count + length (reads m p)
  pub logged : log' ≡ sets log count (map (λ q. q.address) (reads m p))
