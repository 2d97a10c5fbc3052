-- `each` meets its contract: what is stored from an address on is what is stored from the first.
-- Assumes nothing.
use Prim.Native.Nat.{ℕ}
use Rattle.access.specs.declared.Access.{Access}
use Rattle.walk.specs.Prepared.{stage2_of}
use Rattle.walk.specs.declared.end.End.{End}
use Rattle.stages.specs.Prepared.{stage1_of}
use Rattle.stages.specs.declared.both.Arrival.{Arrival}
use Rattle.stages.specs.declared.both.By.TheVariants.{First}
use Rattle.answers.specs.Answers.{number}
use Rattle.answers.specs.Entries.{answer_of, output_of}
use Rattle.accesses.proofs.Filling.{Filling}
use Rattle.accesses.proofs.Runs.{Runs}
use Rattle.accesses.proofs.each.Given as goal

-- the access to an address
abbrev pub to : (kind el size address : ℕ) → Access
to kind el size address = record { address = address; kind = kind; el = el; size = size }

-- no access yet, but for how it ended
abbrev pub unasked : End → Arrival
unasked e = record { by = First; end = e; ipa = 0; left1 = 0; word1 = 0 }

abbrev pub invariant-loop-i : goal.invariant-loop-i
invariant-loop-i g l =
    Filling (λ x. output_of (answer_of (g.M.Memory.finds l.memory) (stage1_of l.p) (stage2_of l.q) (to l.kind l.el l.size x))) l.addresses l.initial.outputs l.outputs l.i
    × Filling (λ x. number (answer_of (g.M.Memory.finds l.memory) (stage1_of l.p) (stage2_of l.q) (to l.kind l.el l.size x))) l.addresses l.initial.numbers l.numbers l.i
    × Runs (g.M.Memory.finds l.memory) (stage1_of l.p) (stage2_of l.q) (to l.kind l.el l.size) l.addresses l.initial.log l.log l.last l.i
