-- What is promised of a batch beyond that it gives what its definition says. Proved in proofs/Promises.antt.
-- Assumes nothing.
use Rattle.ledger.specs.declared.Ledger.{Ledger}
use Rattle.answers.specs.declared.Refusal.{Refusal}
use Rattle.std.specs.Prelude.{◌≡◌, List, ℕ, ◌+◌, ◌≤◌, length, Result, Ok, Err}
use Rattle.reads.specs.Program.{All}
use Rattle.capture.specs.Capture.{SameBytes}
use Rattle.layout.specs.Layout.{Form, parts_of, captured, SameBounds}
use Rattle.answers.specs.Refusals.{log_words, verdict, accepts}
use Rattle.answers.specs.Question.{common, ask}
use Rattle.answers.specs.Counts.{Counts}
use Rattle.batch.specs.Batch.{Shared, access_to, answer_to, BatchTold, batch}

-- a call that gave what a batch gives: its answer, and both lists afterwards
pub record BatchTells (t : BatchTold) (answer : Result Ledger Refusal) (outputs numbers : List ℕ) : Type 0 where
  pub answered : answer ≡ t.answer
  pub placed : outputs ≡ t.outputs
  pub numbered : numbers ≡ t.numbers

-- every address asked is translated, faulted, absent or unsettled
abbrev pub Balanced : Result Ledger Refusal → Type 0
Balanced (Ok l) = l.asked ≡ l.translated + l.faulted + l.absent + l.unsettled
Balanced (Err r) = Unit {0}

pub record Promised (form : Form) (file : List ℕ) (s : Shared) (addresses outputs numbers : List ℕ) : Type 0 where
  pub balanced : Balanced (batch form file s addresses outputs numbers).answer
  -- an entry is what the question gives for that address, whatever log of 24 words or more it has
  pub asks : verdict (common form file s.el2 s.el1 s.kind s.el s.size) ≡ accepts → (log : List ℕ) → log_words ≤ length log → (address : ℕ) →
      Ok (answer_to (captured form file) s address) ≡ (ask form file s.el2 s.el1 (access_to s address) log).answer
  -- so it has the question's number of reads
  pub counted : (log : List ℕ) (address : ℕ) → Counts form file s.el2 s.el1 (access_to s address) log
  -- two files of the same bounds, with the same bytes in each descriptor that the questions read from the first: the same batch
  pub framed : (file' log : List ℕ) → log_words ≤ length log → SameBounds form file file' →
      All (λ a. All (λ q. SameBytes (parts_of form file) file file' q.address 8) (ask form file s.el2 s.el1 (access_to s a) log).reads) addresses →
      batch form file' s addresses outputs numbers ≡ batch form file s addresses outputs numbers
