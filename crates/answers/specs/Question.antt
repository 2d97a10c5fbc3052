-- The question: its answer, its log, and the level at which each walk ended.
-- Assumes nothing.
use Rattle.std.specs.Prelude.{◌≡◌, Bool, List, [], ◌∷◌, map, ℕ, length, Option, Err, Result, Ok}
use Rattle.std.proofs.lemmas.List.Edits.{sets}
use Rattle.reads.specs.Program.{Request, run, reads, ends}
use Rattle.access.specs.declared.Access.{Access}
use Rattle.capture.specs.Capture.{any_high}
use Rattle.layout.specs.Layout.{Form, layout, captured}
use Rattle.walk.specs.Walk.{Reading}
use Rattle.stages.specs.Stages.{access}
use Rattle.stages.specs.declared.both.Translation.{Translation}
use Rattle.registers.specs.declared.El1.{El1}
use Rattle.registers.specs.declared.El2.{El2}
use Rattle.regime.specs.Roots.{stage1, stage2}
use Rattle.answers.specs.declared.Refusal.{Refusal}
use Rattle.answers.specs.declared.Answer.{Answer}
use Rattle.answers.specs.Answers.{answer}
use Rattle.answers.specs.Refusals.{Ground, refuse, verdict, core_file, short_log, shared, Verdict}

-- 17, and 10 to 13, in their order
abbrev pub grounds : (words : ℕ) (unreadable high : Bool) → El2 → El1 → Access → List Ground
grounds words unreadable high r g a = core_file unreadable ∷ short_log words ∷ shared high r g a.kind a.el a.size

-- whether a question with a log of so many words over a file is refused
abbrev pub refusal : (words : ℕ) → Form → (file : List ℕ) → El2 → El1 → Access → Verdict
refusal words form file r g a = verdict (grounds words (layout form file).unreadable (any_high (layout form file).banks) r g a)

-- what a question and a batch over a file are refused for alike
abbrev pub common : Form → (file : List ℕ) → El2 → El1 → (kind el size : ℕ) → List Ground
common form file r g kind el size = core_file (layout form file).unreadable ∷ shared (any_high (layout form file).banks) r g kind el size

-- what a question gives: its answer, the descriptors read in order, the log afterwards, and the level at which each walk ended
pub record Told : Type 0 where
  pub answer : Result Answer Refusal
  pub reads : List Request
  pub log : List ℕ
  pub ends : List ℕ

-- the addresses read go into the log in order from word 0, the words past their number are kept
unfoldable pub told : (Request → Option ℕ) → (log : List ℕ) → Reading Translation → Told
told m log p =
    record {
      answer = Ok (answer (length (reads m p)) (run m p));
      reads = reads m p;
      log = sets log 0 (map (λ q. q.address) (reads m p));
      ends = ends m p;
    }

-- a refused question reads nothing and keeps the log
unfoldable pub turned_away : (log : List ℕ) → Refusal → Told
turned_away log why = record { answer = Err why; reads = []; log = log; ends = [] }

-- the question over a memory, that of a file that may be unreadable or have a bank that ends too high
unfoldable pub ask_over : (Request → Option ℕ) → (unreadable high : Bool) → El2 → El1 → Access → (log : List ℕ) → Told
ask_over m unreadable high r g a log =
    refuse (turned_away log) (grounds (length log) unreadable high r g a) (told m log (access (stage1 r g) (stage2 r) a))

-- the question over a file, with a lent log
unfoldable pub ask : Form → (file : List ℕ) → El2 → El1 → Access → (log : List ℕ) → Told
ask form file = ask_over (captured form file) (layout form file).unreadable (any_high (layout form file).banks)

-- a call that gave what a question gives: its answer, and the log's words afterwards
pub record Tells (t : Told) (answer : Result Answer Refusal) (log : List ℕ) : Type 0 where
  pub answered : answer ≡ t.answer
  pub logged : log ≡ t.log
