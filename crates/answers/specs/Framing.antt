-- Demand 3, what an answer depends on (01, Demand 3 in full). Proved in proofs/Framing.antt.
-- Assumes nothing.
use Rattle.std.specs.Prelude.{◌≡◌, List, ℕ}
use Rattle.reads.specs.Program.{All}
use Rattle.access.specs.declared.Access.{Access}
use Rattle.capture.specs.Capture.{SameBytes}
use Rattle.layout.specs.Layout.{Form, parts_of, SameBounds}
use Rattle.registers.specs.declared.El1.{El1}
use Rattle.registers.specs.declared.El2.{El2}
use Rattle.answers.specs.Question.{ask}

-- two files of the same bounds, with the same bytes in each descriptor that the question reads from the first:
-- the same answer, count, log, reads and ends
pub record Framing (form : Form) (file file' : List ℕ) (r : El2) (g : El1) (a : Access) (log : List ℕ) : Type 0 where
  pub framed : SameBounds form file file' →
      All (λ q. SameBytes (parts_of form file) file file' q.address 8) (ask form file r g a log).reads →
      ask form file' r g a log ≡ ask form file r g a log
