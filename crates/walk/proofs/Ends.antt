-- Ends in plain words, and what they stand for.
-- Assumes nothing.
use mathlib.Core.Path.{◌≡◌, refl, sym, ◌∙◌}
use mathlib.Core.Bool.{Bool, true, false, true≢false}
use mathlib.Core.List.{List}
use Prim.Native.Nat.{ℕ}
use native.Mathlib.Omega.{arith}
use Rattle.bits.specs.Bits.{pick}
use Rattle.bits.proofs.Tests.{pick_true, pick_false}
use Rattle.reads.specs.Program.{Request, reached, stopped}
use Rattle.reads.specs.Ran.{Ran}
use Rattle.std.specs.Prelude.{Option, Ok, Err, Some, None}
use Rattle.reads.proofs.Ran.{ran_done, ran_stop}
use Rattle.attributes.specs.Attributes.{is_device, class_of, settled_part}
use Rattle.attributes.specs.declared.Attributes.{Attributes}
use Rattle.attributes.specs.declared.MemoryClass.{MemoryClass}
use Rattle.attributes.specs.declared.MemoryClass.TheVariants as M
use Rattle.descriptor.specs.Entry.{output_address}
use Rattle.descriptor.specs.declared.entry.FaultKind.{FaultKind}
use Rattle.descriptor.specs.declared.entry.FaultKind.TheVariants as F
use Rattle.walk.specs.Walk.{Reading, fault, unsettled}
use Rattle.walk.specs.Checks.{unless, settled, permitted, give}
use Rattle.descriptor.specs.declared.entry.Turn.{Turn}
use Rattle.descriptor.specs.declared.entry.Turn.TheVariants as T
use Rattle.walk.specs.Ends.{passed, faulted, stopped_by, stop_by, outcome, ended, leads_down, is_leaf, over, tested, verdict}
use Rattle.walk.specs.declared.table.Table.{Table}
use Rattle.walk.specs.Calls.{checked, Fit, Within, Starts, table_of, root_by, root_of}
use Rattle.walk.specs.declared.stop.Stage.{Stage}
use Rattle.walk.specs.declared.table.Leaf.{Leaf}
use Rattle.walk.specs.Root.{Root, unusable}
use Rattle.walk.specs.declared.check.Output.{Output}
use Rattle.walk.specs.Checked.{Checked}
use Rattle.walk.specs.declared.end.Ending.{Ending}
use Rattle.walk.specs.declared.end.Ending.TheVariants as E
use Rattle.walk.specs.declared.end.End.{End}
use Rattle.walk.specs.declared.start.Start.{Start}

pub outcome_passed : {A : Type 0} (s : Stage) (v : A) (e : End) → passed e.ending ≡ true → outcome s v e ≡ reached v
unfolding outcome
outcome_passed s v e p = pick_true _ _ _ p

pub outcome_stopped : {A : Type 0} (s : Stage) (v : A) (e : End) → passed e.ending ≡ false → outcome s v e ≡ stopped (stop_by s e.address e.level e.ending)
unfolding outcome
outcome_stopped s v e p = pick_false _ _ _ p

-- ---- a fault that every walk meets

pub fault_stops : (kind : FaultKind) → passed (faulted kind) ≡ false
unfolding faulted
fault_stops F.Translation = refl
fault_stops F.AddressSize = refl
fault_stops F.AccessFlag = refl
fault_stops F.Permission = refl

pub fault_stop : (s : Stage) (address level : ℕ) (kind : FaultKind) → stop_by s address level (faulted kind) ≡ fault kind s level
unfolding stop_by faulted
fault_stop s address level F.Translation = refl
fault_stop s address level F.AddressSize = refl
fault_stop s address level F.AccessFlag = refl
fault_stop s address level F.Permission = refl

-- a turn that leads neither down nor to a leaf
pub over_stops : (t : Turn) → leads_down t ≡ false → is_leaf t ≡ false → passed (over t) ≡ false
over_stops T.Down down leaf = absurd (true≢false down)
over_stops T.Leaf down leaf = absurd (true≢false leaf)
over_stops T.Translation down leaf = refl
over_stops T.AddressSize down leaf = refl
over_stops T.AccessFlag down leaf = refl
over_stops T.Permission down leaf = refl
over_stops T.Unsettled down leaf = refl

pub ran_over : (s : Stage) (decoded : ℕ → Option Attributes) (t : Turn) (level count : ℕ) {e : Ending} {m : Request → Option ℕ} {p : Reading Output} {log l : List ℕ} {k end : ℕ} →
    e ≡ over t → leads_down t ≡ false → is_leaf t ≡ false →
    Ran m p log k (stopped (stop_by s 0 level (over t))) end l → Ran m p log k (ended s decoded (stopped_by e level count)) end l
ran_over s decoded t level count q down leaf r = rw (q, outcome_stopped {A = Output} s (record { address = 0; attributes = settled_part (decoded 0); level = level }) (stopped_by (over t) level count) (over_stops t down leaf)) r

-- ---- starts

passes : {e : Ending} → e ≡ E.Passed → passed e ≡ true
passes e = rw e

pub starts_within : (p : Start) (r : Root) → Starts p r → Within p
starts_within p (Err u) w = w.2
starts_within p (Ok t) w =
    let f = w.2 in
    record { shift = omega (arith, f.shift, f.small.shift); some = f.small.some; bits = f.small.bits; base = f.small.base }

pub starts_usable : (p : Start) (r : Root) → Starts p r → passed p.ending ≡ true → (r ≡ Ok (table_of p)) × Fit p
starts_usable p (Err u) w e = absurd (true≢false (sym e ∙ rw w.0 (fault_stops u.kind)))
starts_usable p (Ok t) w e = (rw w.1, w.2)

pub starts_unusable : (p : Start) (r : Root) → Starts p r → passed p.ending ≡ false → (kind : FaultKind) × (r ≡ unusable kind p.level) × (p.ending ≡ faulted kind)
starts_unusable p (Err u) w e = (u.kind, rw w.1, w.0)
starts_unusable p (Ok t) w e = absurd (true≢false (sym (passes w.0) ∙ e))

faulted_root : (kind : FaultKind) (level : ℕ) (t : Table) → root_by (faulted kind) level t ≡ unusable kind level
unfolding faulted root_by
faulted_root F.Translation level t = refl
faulted_root F.AddressSize level t = refl
faulted_root F.AccessFlag level t = refl
faulted_root F.Permission level t = refl

-- a start for a root stands for it
pub starts_root : (p : Start) (r : Root) → Starts p r → root_of p ≡ r
unfolding root_by
starts_root p (Err u) w = rw (w.0, w.1) (faulted_root u.kind u.level (table_of p))
starts_root p (Ok t) w = rw (w.0, w.1)

-- ---- the checks after a walk

pub ran_give : (m : Request → Option ℕ) (c : Checked) (log : List ℕ) (count : ℕ) → Ran m (give c) log count (checked c) count log
unfolding give checked
ran_give m (Ok o) log count = ran_done m o log count
ran_give m (Err e) log count = ran_stop m e log count

-- the two tests
permitted_tested : (s : Stage) (input : ℕ) (l : Leaf) (misaligned denied : Bool) (t : Attributes) (e : End) →
    e.address ≡ output_address l.word l.shift input → e.level ≡ l.level → e.ending ≡ tested misaligned denied →
    checked (permitted s input l misaligned denied t) ≡ outcome s (record { address = e.address; attributes = t; level = e.level }) e
unfolding pick unless permitted checked outcome stop_by
permitted_tested s input l true denied t e a v q = rw q
permitted_tested s input l false true t e a v q = rw (q, v)
permitted_tested s input l false false t e a v q = rw (q, a, v)

module _ (s : Stage) (input : ℕ) (l : Leaf) (misaligned denied : Bool → Bool) where
  -- what code leaves of a leaf, by the class of its memory, is what the definitions leave
  pub verdict_checked : (decoded : ℕ → Option Attributes) (e : End) →
      e.address ≡ output_address l.word l.shift input → e.word ≡ l.word → e.level ≡ l.level → e.ending ≡ verdict misaligned denied (class_of (decoded l.word)) →
      checked (settled (unsettled s l.level) (λ t. permitted s input l (misaligned (is_device t.memory)) (denied (is_device t.memory)) t) (decoded l.word)) ≡ ended s decoded e
  unfolding class_of verdict pick settled settled_part checked outcome stop_by
  verdict_checked decoded e a w v q = rw w (by_decoded (decoded l.word) q)
    where
      by_device : (t : Attributes) (b : Bool) → is_device t.memory ≡ b → e.ending ≡ verdict misaligned denied (class_of (Some t)) → e.ending ≡ tested (misaligned b) (denied b)
      by_device t true d z = rw d at z
      by_device t false d z = rw d at z

      by_decoded : (d : Option Attributes) → e.ending ≡ verdict misaligned denied (class_of d) →
          checked (settled (unsettled s l.level) (λ t. permitted s input l (misaligned (is_device t.memory)) (denied (is_device t.memory)) t) d)
          ≡ outcome s (record { address = e.address; attributes = settled_part d; level = e.level }) e
      by_decoded (Some t) z = permitted_tested s input l _ _ t e a v (by_device t _ refl z)
      by_decoded None z = rw (z, v)

-- checks leave no absent descriptor: their stop has no address
tested_anywhere : (s : Stage) (u v level : ℕ) (misaligned denied : Bool) → stop_by s u level (tested misaligned denied) ≡ stop_by s v level (tested misaligned denied)
unfolding pick stop_by
tested_anywhere s u v level true denied = refl
tested_anywhere s u v level false true = refl
tested_anywhere s u v level false false = refl

pub verdict_anywhere : (s : Stage) (u v level : ℕ) (misaligned denied : Bool → Bool) (c : MemoryClass) → stop_by s u level (verdict misaligned denied c) ≡ stop_by s v level (verdict misaligned denied c)
unfolding verdict stop_by
verdict_anywhere s u v level misaligned denied M.Unsettled = refl
verdict_anywhere s u v level misaligned denied M.Device = tested_anywhere s u v level (misaligned true) (denied true)
verdict_anywhere s u v level misaligned denied M.Normal = tested_anywhere s u v level (misaligned false) (denied false)
