-- An address of a list: what it is answered, and its word in the list of outputs (01, What one question holds).
-- Assumes nothing.
use Rattle.std.specs.Prelude.{ℕ, length, Option}
use Rattle.reads.specs.Program.{Request, run, reads}
use Rattle.access.specs.declared.Access.{Access}
use Rattle.walk.specs.declared.stage2.Stage2.{Stage2}
use Rattle.stages.specs.Stages.{access}
use Rattle.stages.specs.declared.stage1.Stage1.{Stage1}
use Rattle.answers.specs.Answers.{answer}
use Rattle.answers.specs.declared.Answer.{Answer}
use Rattle.answers.specs.declared.Answer.TheVariants as A

-- the answer of an access. A list has a working log of its own, and no answer depends on what a log holds.
unfoldable pub answer_of : (Request → Option ℕ) → Stage1 → Stage2 → Access → Answer
answer_of m s1 s2 a = answer (length (reads m (access s1 s2 a))) (run m (access s1 s2 a))

-- 0 for an address that is not translated
unfoldable pub output_of : Answer → ℕ
output_of (A.Translated t n) = t.address
output_of (A.Fault f n) = 0
output_of (A.Misaligned s n) = 0
output_of (A.Absent m n) = 0
output_of (A.Unsettled o n) = 0
