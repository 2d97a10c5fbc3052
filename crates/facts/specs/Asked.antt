-- Questions and audits over a sparse capture, and what 01's tables say of their answers.
-- Assumes nothing.
use Rattle.std.specs.Prelude.{false, List, map, ℕ, replicate}
use Rattle.access.specs.declared.Access.{Access}
use Rattle.capture.specs.Capture.{ends_high}
use Rattle.capture.specs.Sparse.{sparse}
use Rattle.answers.specs.Answers.{Value, number_of, carries_of}
use Rattle.registers.specs.declared.El1.{El1}
use Rattle.registers.specs.declared.El2.{El2}
use Rattle.answers.specs.Question.{Told, ask_over}
use Rattle.audit.specs.Audit.{audit_over}
use Rattle.audit.specs.Audit.{AuditAnswer}

-- a capture of length bytes at base, zero but for some words
pub record Image : Type 0 where
  pub base : ℕ
  pub length : ℕ
  pub words : List (ℕ × ℕ)

-- a row of 01's table of answers, and the log
pub record Row : Type 0 where
  pub number : ℕ
  pub values : List Value
  pub log : List ℕ

abbrev pub row : Told → Row
row t = record { number = number_of t.answer; values = carries_of t.answer; log = t.log }

-- a lent log holds this in each word before a question
abbrev pub before : ℕ
before = 0x5A5A

-- a question with a log of so many words
unfoldable pub asked : Image → El2 → El1 → Access → (words : ℕ) → Row
asked c r g a words =
    row (ask_over (sparse c.base c.length c.words) false (ends_high c.base c.length) r g a (replicate words before))

unfoldable pub audited : Image → El2 → (grants counts tables levels : List ℕ) → AuditAnswer
audited c = audit_over (sparse c.base c.length c.words) false (ends_high c.base c.length)

-- with its lists pair by pair: grants (address, byte count), tables (address, level)
abbrev pub audited_pairs : Image → El2 → (grants tables : List (ℕ × ℕ)) → AuditAnswer
audited_pairs c r grants tables = audited c r (map (λ e. e.0) grants) (map (λ e. e.1) grants) (map (λ e. e.0) tables) (map (λ e. e.1) tables)
