-- The answers of a list depend on nothing of the stages but the accesses to its addresses.
-- Assumes nothing.
use mathlib.Core.Path.{◌≡◌, refl, ap, ap₂}
use mathlib.Core.List.{List, [], ◌∷◌, map}
use Prim.Native.Nat.{ℕ, zero, suc, ◌<◌, suc-le-suc}
use native.Mathlib.Omega.{arith}
use lib.ListN.{length, get_or}
use Rattle.reads.specs.Program.{Request, run, reads}
use Rattle.std.specs.Prelude.{Option}
use Rattle.access.specs.declared.Access.{Access}
use Rattle.walk.specs.declared.stage2.Stage2.{Stage2}
use Rattle.stages.specs.Stages.{access}
use Rattle.stages.specs.declared.stage1.Stage1.{Stage1}
use Rattle.answers.specs.Answers.{answer}
use Rattle.answers.specs.Entries.{answer_of}
use Rattle.answers.specs.declared.Answer.{Answer}

module _ (m : Request → Option ℕ) (s1 r1 : Stage1) (s2 r2 : Stage2) (to : ℕ → Access) (f : Answer → ℕ) where
  pub answers_same : (l : List ℕ) → ((i : ℕ) → i < length l → access s1 s2 (to (get_or l i 0)) ≡ access r1 r2 (to (get_or l i 0))) →
      map (λ x. f (answer_of m s1 s2 (to x))) l ≡ map f (map (λ x. answer_of m r1 r2 (to x)) l)
  unfolding answer_of
  answers_same [] e = refl
  answers_same (x ∷ l) e = ap₂ ◌∷◌ (ap (λ p. f (answer (length (reads m p)) (run m p))) (e zero (omega arith))) (answers_same l (λ i less. e (suc i) (suc-le-suc less)))
