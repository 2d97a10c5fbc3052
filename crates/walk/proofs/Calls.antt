-- Calls that ran stage 2's translation.
-- Assumes nothing.
use mathlib.Core.Path.{◌≡◌, sym, subst, ◌∙◌}
use mathlib.Core.Bool.{Bool, true, false}
use mathlib.Core.List.{List}
use Prim.Native.Nat.{ℕ}
use Rattle.attributes.specs.declared.Attributes.{Attributes}
use Rattle.bits.specs.Bits.{beyond}
use Rattle.bits.proofs.Tests.{pick_true, pick_false}
use Rattle.reads.specs.Program.{Request, Outcome, done, bind}
use Rattle.reads.specs.Ran.{Ran}
use Rattle.std.specs.Prelude.{Option, Ok}
use Rattle.reads.proofs.Ran.{ran_stop, ran_stopped}
use Rattle.access.specs.declared.Access.{Access}
use Rattle.attributes.specs.Attributes.{settled_part}
use Rattle.descriptor.specs.declared.entry.FaultKind.{FaultKind}
use Rattle.descriptor.specs.declared.entry.FaultKind.TheVariants as F
use Rattle.walk.specs.Walk.{walk_from}
use Rattle.walk.specs.Checks.{give}
use Rattle.walk.specs.Stage2.{root2_at, check2, translate2}
use Rattle.walk.specs.Ends.{faulted, stopped_by, ended}
use Rattle.walk.specs.declared.stop.Stage.TheVariants.{Two}
use Rattle.walk.specs.declared.stop.Stop.{Stop}
use Rattle.walk.specs.declared.table.Table.{Table}
use Rattle.walk.specs.Root.{Root, unusable}
use Rattle.walk.specs.declared.check.Output.{Output}
use Rattle.walk.specs.declared.end.Ending.{Ending}
use Rattle.walk.specs.declared.stage2.Stage2.{Stage2}
use Rattle.walk.proofs.Ends.{outcome_stopped, fault_stops, fault_stop}

module _ (m : Request → Option ℕ) (s : Stage2) (a : Access) (w : Bool) (ipa : ℕ) {log : List ℕ} {count : ℕ} where
  -- a fault before the first read
  faults : (decoded : ℕ → Option Attributes) (kind : FaultKind) (level : ℕ) → Ran m (bind (walk_from done (Two ipa w) ipa (unusable kind level)) (λ l. give (check2 s a w ipa l))) log count (ended (Two ipa w) decoded (stopped_by (faulted kind) level count)) count log
  unfolding walk_from
  faults decoded kind level =
      rw (outcome_stopped {A = Output} (Two ipa w) (record { address = 0; attributes = settled_part (decoded 0); level = level }) (stopped_by (faulted kind) level count) (fault_stops kind), fault_stop (Two ipa w) 0 level kind)
      (ran_stopped m _ (ran_stop m _ _ _))

  -- the walk from the root for the IPA
  by_root : {r : Root} {o : Outcome Stop Output} {end : ℕ} {l : List ℕ} → root2_at s ipa ≡ r →
      Ran m (bind (walk_from done (Two ipa w) ipa r) (λ l. give (check2 s a w ipa l))) log count o end l → Ran m (translate2 s a w ipa) log count o end l
  unfolding translate2
  by_root {o} {end} {l} e q = subst (λ z. Ran m (bind (walk_from done (Two ipa w) ipa z) (λ k. give (check2 s a w ipa k))) log count o end l) (sym e) q

  pub ran_outside : (decoded : ℕ → Option Attributes) → beyond ipa s.inputsize ≡ true → Ran m (translate2 s a w ipa) log count (ended (Two ipa w) decoded (stopped_by (faulted F.Translation) 0 count)) count log
  ran_outside decoded e = by_root (pick_true _ _ _ e) (faults decoded F.Translation 0)

  module _ (inside : beyond ipa s.inputsize ≡ false) where
    pub ran_unusable : (decoded : ℕ → Option Attributes) (kind : FaultKind) (level : ℕ) {e : Ending} → s.root ≡ unusable kind level → e ≡ faulted kind →
        Ran m (translate2 s a w ipa) log count (ended (Two ipa w) decoded (stopped_by e level count)) count log
    ran_unusable decoded kind level r q = rw q (by_root (pick_false (beyond ipa s.inputsize) _ s.root inside ∙ r) (faults decoded kind level))

    pub ran_usable : {t : Table} {o : Outcome Stop Output} {end : ℕ} {l : List ℕ} → s.root ≡ Ok t →
        Ran m (bind (walk_from done (Two ipa w) ipa (Ok t)) (λ l. give (check2 s a w ipa l))) log count o end l → Ran m (translate2 s a w ipa) log count o end l
    ran_usable r q = by_root (pick_false (beyond ipa s.inputsize) _ s.root inside ∙ r) q
