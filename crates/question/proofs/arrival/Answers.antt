-- `arrival` meets its contract: the access is that by the address's own VA range.
-- Assumes nothing.
use mathlib.Core.Path.{◌≡◌}
use mathlib.Core.List.{List}
use Prim.Native.Nat.{ℕ, ◌^◌, ◌<◌}
use Rattle.bits.specs.Bits.{bit}
use Rattle.reads.specs.Program.{Request}
use Rattle.reads.specs.Ran.{Ran}
use Rattle.std.specs.Prelude.{Option}
use Rattle.access.specs.declared.Access.{Access}
use Rattle.walk.specs.declared.stage2.Stage2.{Stage2}
use Rattle.stages.specs.Stages.{access}
use Rattle.stages.specs.Calls.{arrived}
use Rattle.stages.specs.declared.stage1.Stage1.{Stage1}
use Rattle.stages.specs.declared.both.Arrival.{Arrival}
use Rattle.registers.specs.declared.El1.{El1}
use Rattle.registers.specs.declared.El2.{El2}
use Rattle.settings.specs.Settings.{settings}
use Rattle.regime.specs.Roots.{stage1, stage2}
use Rattle.regime.specs.Calls.{sided1, narrowed2}
use Rattle.regime.proofs.Narrowed.{access_sided, arrived_ranged}
use Rattle.question.proofs.arrival.Goals as goal

-- the access by the stages as they were prepared is the access
ran_by : (m : Request → Option ℕ) (r : El2) (g : El1) (a : Access) (log log' : List ℕ) (last : Arrival) (s1 : Stage1) (s2 : Stage2) →
    settings r g ≡ 0 → a.address < 2 ^ 64 → s1 ≡ sided1 (bit a.address 55) r g → s2 ≡ narrowed2 r →
    Ran m (access s1 s2 a) log 0 (arrived s1 s2 a last) last.end.count log' →
    Ran m (access (stage1 r g) (stage2 r) a) log 0 (arrived (stage1 r g) (stage2 r) a last) last.end.count log'
ran_by m r g a log log' last s1 s2 accepted fits one two ran =
    let s = sided1 (bit a.address 55) r g in
    rw (← access_sided r g accepted a fits, ← arrived_ranged r g s.lower s.upper a last) (rw (one, two) at ran)

pub returns : goal.returns
returns g c =
    ran_by _ _ _ c.args.a.access _ _ _ _ _ c.requires.0 c.prepared1_at-p.ensures.1 c.prepared1_at-p.ensures.0 c.prepared2-q.ensures c.access.ensures.0
