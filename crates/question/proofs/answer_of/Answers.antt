-- `answer_of` meets its contract: of the stages, attributes go by nothing but what `memory` takes from the registers.
-- Assumes nothing.
use mathlib.Core.Path.{◌≡◌, ap, ◌∙◌}
use Rattle.access.specs.declared.Access.{Access}
use Rattle.walk.specs.declared.stage2.Stage2.{Stage2}
use Rattle.stages.specs.Calls.{arrived, memory1, memory2, memory_of}
use Rattle.stages.specs.declared.stage1.Stage1.{Stage1}
use Rattle.stages.specs.declared.both.Arrival.{Arrival}
use Rattle.stages.specs.declared.both.AttributeControls.{AttributeControls}
use Rattle.answers.specs.Answers.{answer}
use Rattle.question.proofs.answer_of.Goals as goal

-- attributes go by nothing else of the stages
remembered : (s1 : Stage1) (s2 : Stage2) (a : Access) (r : Arrival) (m : AttributeControls) → m ≡ memory_of s1 s2 → arrived (memory1 m) (memory2 m) a r ≡ arrived s1 s2 a r
unfolding arrived
remembered s1 s2 a r m e = ap (λ x. arrived (memory1 x) (memory2 x) a r) e

pub returns : goal.returns
returns c =
    c.answered.ensures ∙ ap (answer _) (c.reached_by-reached.ensures ∙ remembered _ _ _ _ _ c.memory.ensures)
