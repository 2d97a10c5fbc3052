-- The verdict on a question, where its own ground does not decide; and where the grounds after one decide.
-- Assumes nothing.
use Rattle.std.specs.Prelude.{Err}
use mathlib.Core.Path.{◌≡◌, ap}
use mathlib.Core.Bool.{Bool, true, false}
use mathlib.Core.List.{List, ◌∷◌}
use Prim.Native.Nat.{ℕ, ◌≤◌}
use native.Mathlib.Omega.{arith}
use borrow.Author.Tests.{le-ltb}
use Rattle.bits.specs.Bits.{pick}
use Rattle.bits.proofs.Tests.{pick_false}
use Rattle.access.specs.declared.Access.{Access}
use Rattle.registers.specs.declared.El1.{El1}
use Rattle.registers.specs.declared.El2.{El2}
use Rattle.layout.specs.Layout.{Form, layout}
use Rattle.answers.specs.declared.Refusal.TheVariants.{CoreFile}
use Rattle.answers.specs.Refusals.{Ground, refuse, verdict, log_words, accepts}
use Rattle.answers.specs.Question.{refusal, common}

-- with a log that is long enough, a question's verdict is what a batch is told too
pub long_log : (words : ℕ) (form : Form) (file : List ℕ) (r : El2) (g : El1) (a : Access) → log_words ≤ words →
    refusal words form file r g a ≡ verdict (common form file r g a.kind a.el a.size)
unfolding refuse
long_log words form file r g a long = ap (pick (layout form file).unreadable (Err CoreFile)) (pick_false _ _ _ (le-ltb _ _ long))

-- where a list of grounds accepts, so do those after the first
pub later_accepted : (g : Ground) (l : List Ground) → verdict (g ∷ l) ≡ accepts → verdict l ≡ accepts
unfolding refuse pick
later_accepted g l e = by_test g.holds e
  where
    by_test : (b : Bool) → pick b (Err g.refusal) (verdict l) ≡ accepts → verdict l ≡ accepts
    by_test true h = absurd (let z : ◌≡◌ {A = ℕ} 0 1 = cc in omega arith)
    by_test false h = h

-- and so do those around the second
pub common_accepted : (g h : Ground) (l : List Ground) → verdict (g ∷ h ∷ l) ≡ accepts → verdict (g ∷ l) ≡ accepts
unfolding refuse pick
common_accepted g h l e = by_tests g.holds e
  where
    by_tests : (b : Bool) → pick b (Err g.refusal) (verdict (h ∷ l)) ≡ accepts → pick b (Err g.refusal) (verdict l) ≡ accepts
    by_tests true k = k
    by_tests false k = later_accepted h l k
