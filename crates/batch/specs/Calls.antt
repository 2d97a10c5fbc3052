-- For the proof of the batch: filled lists.
-- Assumes nothing.
use Rattle.std.specs.Prelude.{◌≡◌, List, map, ℕ}
use Rattle.answers.specs.Answers.{number}
use Rattle.answers.specs.Entries.{output_of}
use Rattle.answers.specs.declared.Answer.{Answer}
use Rattle.ledger.specs.declared.Ledger.{Ledger}
use Rattle.ledger.specs.Ledger.{ledger}

-- each address's answer is f's: both lists, and their ledger
pub record Filled (f : ℕ → Answer) (addresses : List ℕ) (l : Ledger) (outputs numbers : List ℕ) : Type 0 where
  pub figures : l ≡ ledger (map number (map f addresses))
  pub placed : outputs ≡ map output_of (map f addresses)
  pub numbered : numbers ≡ map number (map f addresses)
