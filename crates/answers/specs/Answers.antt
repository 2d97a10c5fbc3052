-- The answer of an outcome, and the table of answers: each answer's number and the values it carries (01, Answer numbers).
-- Assumes nothing.
use Rattle.std.specs.Prelude.{Bool, false, List, [], ◌∷◌, map, ℕ, Err, Result, Ok}
use Rattle.reads.specs.Program.{Outcome, reached, stopped}
use Rattle.descriptor.specs.declared.entry.FaultKind.{FaultKind}
use Rattle.descriptor.specs.declared.entry.FaultKind.TheVariants as F
use Rattle.attributes.specs.declared.Attributes.{Attributes}
use Rattle.walk.specs.declared.stop.Stage.{Stage}
use Rattle.walk.specs.declared.stop.Stage.TheVariants.{One, Two}
use Rattle.answers.specs.declared.Refusal.{Refusal}
use Rattle.answers.specs.declared.Refusal.TheVariants.{ShortLog, HighCapture, Settings, Unlisted, BatchLists, AuditLists, NoRoot, CoreFile}
use Rattle.walk.specs.declared.stop.Stop.{Stop}
use Rattle.walk.specs.declared.stop.Stop.TheVariants as S
use Rattle.walk.specs.declared.end.Ending.{Ending}
use Rattle.walk.specs.declared.end.Ending.TheVariants as E
use Rattle.stages.specs.declared.both.Translation.{Translation}
use Rattle.answers.specs.declared.Answer.{Answer}
use Rattle.answers.specs.declared.Answer.TheVariants as A

-- the answer of an outcome after n reads
unfoldable pub answer : (n : ℕ) → Outcome Stop Translation → Answer
answer n (reached t) = A.Translated t n
answer n (stopped (S.Fault f)) = A.Fault f n
answer n (stopped (S.Misaligned s)) = A.Misaligned s n
answer n (stopped (S.Absent m)) = A.Absent m n
answer n (stopped (S.Unsettled o)) = A.Unsettled o n

-- ---- numbers

abbrev pub fault_number : FaultKind → ℕ
fault_number F.Translation = 1
fault_number F.AddressSize = 2
fault_number F.AccessFlag = 3
fault_number F.Permission = 4

abbrev pub refusal_number : Refusal → ℕ
refusal_number ShortLog = 10
refusal_number HighCapture = 11
refusal_number (Settings item) = 12
refusal_number Unlisted = 13
refusal_number BatchLists = 14
refusal_number AuditLists = 15
refusal_number NoRoot = 16
refusal_number CoreFile = 17

-- of a question that is answered, and of one that may be refused
unfoldable pub number : Answer → ℕ
number (A.Translated t n) = 0
number (A.Fault f n) = fault_number f.kind
number (A.Misaligned s n) = 5
number (A.Absent m n) = 6
number (A.Unsettled o n) = 7

unfoldable pub number_of : Result Answer Refusal → ℕ
number_of (Ok a) = number a
number_of (Err why) = refusal_number why

-- the number of an end in plain words, for the contracts of code
abbrev pub ending_number : Ending → ℕ
ending_number E.Passed = 0
ending_number E.Translation = 1
ending_number E.AddressSize = 2
ending_number E.AccessFlag = 3
ending_number E.Permission = 4
ending_number E.Misaligned = 5
ending_number E.Absent = 6
ending_number E.Unsettled = 7

-- ---- values

pub data Value : Type 0 where
  address : ℕ → Value
  attributes : Attributes → Value
  stage : ℕ → Value
  level : ℕ → Value
  level1 : ℕ → Value
  level2 : ℕ → Value
  on_walk : Bool → Value
  ipa : ℕ → Value
  reads : ℕ → Value
  item : ℕ → Value

abbrev pub stage_number : Stage → ℕ
stage_number One = 1
stage_number (Two i w) = 2

abbrev pub is_on_walk : Stage → Bool
is_on_walk One = false
is_on_walk (Two i w) = w

abbrev pub ipa_of : Stage → List Value
ipa_of One = []
ipa_of (Two i w) = ipa i ∷ []

-- the item of a settings refusal; no other refusal carries anything
abbrev pub item_of : Refusal → List ℕ
item_of ShortLog = []
item_of HighCapture = []
item_of (Settings n) = n ∷ []
item_of Unlisted = []
item_of BatchLists = []
item_of AuditLists = []
item_of NoRoot = []
item_of CoreFile = []

-- the table's last column
unfoldable pub carries : Answer → List Value
carries (A.Translated t n) = address t.address ∷ attributes t.attributes ∷ level1 t.level1 ∷ level2 t.level2 ∷ reads n ∷ []
carries (A.Fault f n) = stage (stage_number f.stage) ∷ level f.level ∷ on_walk (is_on_walk f.stage) ∷ reads n ∷ ipa_of f.stage
carries (A.Misaligned s n) = stage (stage_number s) ∷ reads n ∷ ipa_of s
carries (A.Absent m n) = address m.address ∷ stage (stage_number m.stage) ∷ level m.level ∷ on_walk (is_on_walk m.stage) ∷ reads n ∷ []
carries (A.Unsettled o n) = stage (stage_number o.stage) ∷ level o.level ∷ on_walk (is_on_walk o.stage) ∷ reads n ∷ []

unfoldable pub carries_of : Result Answer Refusal → List Value
carries_of (Ok a) = carries a
carries_of (Err why) = map item (item_of why)
