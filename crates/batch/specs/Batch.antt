-- A batch: one kind, EL and size, many addresses (01, What one question holds).
-- Assumes nothing.
use Rattle.ledger.specs.declared.Ledger.{Ledger}
use Rattle.answers.specs.declared.Refusal.{Refusal}
use Rattle.std.specs.Prelude.{Bool, not, ◌||◌, List, [], ◌∷◌, map, ℕ, ltb, eqb, length, Option, Result, Ok, Err}
use Rattle.reads.specs.Program.{Request}
use Rattle.access.specs.declared.Access.{Access}
use Rattle.capture.specs.Capture.{any_high}
use Rattle.layout.specs.Layout.{Form, layout, captured}
use Rattle.registers.specs.declared.El1.{El1}
use Rattle.registers.specs.declared.El2.{El2}
use Rattle.regime.specs.Roots.{stage1, stage2}
use Rattle.answers.specs.Answers.{number, refusal_number, item_of}
use Rattle.answers.specs.Refusals.{Ground, refuse, core_file, shared}
use Rattle.answers.specs.Entries.{answer_of, output_of}
use Rattle.answers.specs.declared.Refusal.TheVariants.{BatchLists}
use Rattle.answers.specs.declared.Answer.{Answer}
use Rattle.ledger.specs.Ledger.{ledger}

-- what all addresses of a batch share
pub record Shared : Type 0 where
  pub el2 : El2
  pub el1 : El1
  pub kind : ℕ
  pub el : ℕ
  pub size : ℕ

abbrev pub sharing : El2 → El1 → (kind el size : ℕ) → Shared
sharing r g kind el size = record { el2 = r; el1 = g; kind = kind; el = el; size = size }

-- the access to one address
abbrev pub access_to : Shared → (address : ℕ) → Access
access_to s a = record { address = a; kind = s.kind; el = s.el; size = s.size }

abbrev pub answer_to : (Request → Option ℕ) → Shared → (address : ℕ) → Answer
answer_to m s a = answer_of m (stage1 s.el2 s.el1) (stage2 s.el2) (access_to s a)

-- ---- the batch's own answer: its number and its values. The table of answers has no number for a batch that ran; 0 is ours.

abbrev pub batch_number : Result Ledger Refusal → ℕ
batch_number (Ok l) = 0
batch_number (Err r) = refusal_number r

-- the ledger's figures, or a settings refusal's item
abbrev pub batch_carries : Result Ledger Refusal → List ℕ
batch_carries (Ok l) = l.asked ∷ l.translated ∷ l.faulted ∷ l.absent ∷ l.unsettled ∷ []
batch_carries (Err r) = item_of r

-- ---- the batch

-- 14
abbrev pub unequal : (asked outputs numbers : ℕ) → Bool
unequal asked outputs numbers = not (eqb asked outputs) || not (eqb asked numbers) || ltb 4096 asked

-- 17, 14 in 10's place, and then what a question is refused for too
abbrev pub batch_grounds : (unreadable high : Bool) → Shared → (asked outputs numbers : ℕ) → List Ground
batch_grounds unreadable high s asked outputs numbers =
    core_file unreadable
    ∷ record { holds = unequal asked outputs numbers; refusal = BatchLists }
    ∷ shared high s.el2 s.el1 s.kind s.el s.size

-- what a batch gives: its answer, and the two lent lists afterwards
pub record BatchTold : Type 0 where
  pub answer : Result Ledger Refusal
  pub outputs : List ℕ
  pub numbers : List ℕ

unfoldable pub answered : List Answer → BatchTold
answered l = record { answer = Ok (ledger (map number l)); outputs = map output_of l; numbers = map number l }

-- the batch over a memory, that of a file that may be unreadable or have a bank that ends too high; a refused one writes nothing
unfoldable pub batch_over : (Request → Option ℕ) → (unreadable high : Bool) → Shared → (addresses outputs numbers : List ℕ) → BatchTold
batch_over m unreadable high s addresses outputs numbers =
    refuse (λ why. record { answer = Err why; outputs = outputs; numbers = numbers })
    (batch_grounds unreadable high s (length addresses) (length outputs) (length numbers))
    (answered (map (answer_to m s) addresses))

-- the batch over a file
unfoldable pub batch : Form → (file : List ℕ) → Shared → (addresses outputs numbers : List ℕ) → BatchTold
batch form file = batch_over (captured form file) (layout form file).unreadable (any_high (layout form file).banks)
