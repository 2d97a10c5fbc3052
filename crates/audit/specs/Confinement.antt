-- Demand 3, confinement (01, Demand 3 in full). Proved in proofs/Confinement.antt.
-- Assumes nothing.
use Rattle.std.specs.Prelude.{◌≡◌, true, List, ℕ, ◌+◌, ◌*◌, ◌%◌, ◌^◌, ◌≤◌, None, Ok, Err, Result}
use Rattle.reads.specs.Program.{Reader, stage_1, stage_2, All}
use Rattle.access.specs.declared.Access.{Access}
use Rattle.capture.specs.Capture.{SameBytes}
use Rattle.layout.specs.Layout.{Form, parts_of, SameBounds}
use Rattle.walk.specs.declared.stop.Stage.{Stage}
use Rattle.walk.specs.declared.stop.Stage.TheVariants.{One, Two}
use Rattle.answers.specs.declared.Refusal.{Refusal}
use Rattle.answers.specs.declared.Answer.{Answer}
use Rattle.answers.specs.declared.Answer.TheVariants as A
use Rattle.walk.specs.Root.{Root}
use Rattle.walk.specs.declared.table.Table.{Table}
use Rattle.regime.specs.Roots.{root2}
use Rattle.registers.specs.declared.El1.{El1}
use Rattle.registers.specs.declared.El2.{El2}
use Rattle.answers.specs.Question.{Told, ask}
use Rattle.lists.specs.Lists.{zip}
use Rattle.lists.specs.Search.{granted, is_listed}
use Rattle.audit.specs.Audit.{audit}

-- n bytes from an address lie in a granted frame: an aligned 4,096 bytes inside one grant
pub record InFrame (grants : List (ℕ × ℕ)) (n address : ℕ) : Type 0 where
  pub frame : ℕ
  pub aligned : frame % 4096 ≡ 0
  pub inside : granted grants frame 4096 ≡ true
  pub from : frame ≤ address
  pub to : address + n ≤ frame + 4096

-- the audited tables, by address and size in bytes: the root, and each listed table with all of its granule's entries
pub data Audited (root : Root) (tables : List (ℕ × ℕ)) : (table size : ℕ) → Type 0 where
  the_root : {t : Table} → root ≡ Ok t → Audited root tables t.base (8 * 2 ^ t.bits)
  listed : {t : Table} {table : ℕ} → root ≡ Ok t → (level : ℕ) → is_listed tables table level ≡ true → Audited root tables table (8 * 2 ^ t.geometry.stride)

-- a descriptor lies in an audited table, with all its bytes
pub record InTables (root : Root) (tables : List (ℕ × ℕ)) (address : ℕ) : Type 0 where
  pub table : ℕ
  pub size : ℕ
  pub of : Audited root tables table size
  pub from : table ≤ address
  pub to : address + 8 ≤ table + size

-- where a descriptor may be read: stage 1's in a granted frame, stage 2's in the audited tables
abbrev pub ReadIn : Root → (grants tables : List (ℕ × ℕ)) → Reader → ℕ → Type 0
ReadIn root grants tables stage_1 address = InFrame grants 8 address
ReadIn root grants tables stage_2 address = InTables root tables address

-- the descriptor of an answer 6
abbrev pub MissingIn : (grants : List (ℕ × ℕ)) → Stage → ℕ → Type 0
MissingIn grants One address = InFrame grants 8 address
MissingIn grants (Two ipa w) address = Unit {0}

-- where an answer's translated address lies: answer 0's own, or the descriptor's in answer 6 of stage 1
abbrev pub AnswerIn : (grants : List (ℕ × ℕ)) → Answer → Type 0
AnswerIn grants (A.Translated to n) = InFrame grants 1 to.address
AnswerIn grants (A.Fault f n) = Unit {0}
AnswerIn grants (A.Misaligned s n) = Unit {0}
AnswerIn grants (A.Absent m n) = MissingIn grants m.stage m.address
AnswerIn grants (A.Unsettled o n) = Unit {0}

-- and where that of a question's that may be refused lies
abbrev pub ToldIn : (grants : List (ℕ × ℕ)) → Result Answer Refusal → Type 0
ToldIn grants (Ok a) = AnswerIn grants a
ToldIn grants (Err why) = Unit {0}

pub record Confined (root : Root) (grants tables : List (ℕ × ℕ)) (t : Told) : Type 0 where
  pub reads : All (λ q. ReadIn root grants tables q.reader q.address) t.reads
  pub answer : ToldIn grants t.answer

-- two files have the same bytes in the audited tables
abbrev pub SameTables : Form → (file file' : List ℕ) → Root → (tables : List (ℕ × ℕ)) → Type 0
SameTables form file file' root tables = (table size : ℕ) → Audited root tables table size → SameBytes (parts_of form file) file file' table size

-- After a clean audit of one file, every question over another with the same bounds and the same bytes in the audited tables is
-- confined: PAMax and the EL2 registers are the audit's, the guest's registers, the access, the log and all other bytes are free.
pub record Confinement (form : Form) (file file' : List ℕ) (r : El2) (grants counts tables levels : List ℕ) : Type 0 where
  pub confined : audit form file r grants counts tables levels ≡ Ok None → SameBounds form file file' →
      SameTables form file file' (root2 r) (zip tables levels) →
      (g : El1) (a : Access) (log : List ℕ) → Confined (root2 r) (zip grants counts) (zip tables levels) (ask form file' r g a log)
