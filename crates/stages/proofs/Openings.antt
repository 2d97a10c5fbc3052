-- Where an access begins.
-- Assumes nothing.
use mathlib.Core.Path.{◌≡◌, refl, sym, subst, ◌∙◌}
use mathlib.Core.Bool.{Bool, true, false, true≢false, not, ◌&&◌}
use mathlib.Core.List.{List}
use Prim.Native.Nat.{ℕ, suc, ◌-◌, ◌/◌, ◌%◌, ◌^◌}
use native.Mathlib.Omega.{arith}
use lib.Dec.{eqb}
use Rattle.bits.specs.Bits.{pick}
use Rattle.bits.proofs.Tests.{pick_false}
use Rattle.reads.specs.Program.{Request, Outcome}
use Rattle.reads.specs.Ran.{Ran}
use Rattle.std.specs.Prelude.{Option, Ok}
use Rattle.reads.proofs.Ran.{ran_stop, ran_stopped, ran_false}
use Rattle.access.specs.Access.{is_fetch, unaligned}
use Rattle.access.specs.declared.Access.{Access}
use Rattle.attributes.specs.Attributes.{is_device, reported, stage1_off_attributes}
use Rattle.descriptor.proofs.Imposed.{imposed_none}
use Rattle.descriptor.specs.declared.entry.FaultKind.TheVariants as F
use Rattle.walk.specs.Walk.{fault, entry_address, walk_from}
use Rattle.walk.specs.Checks.{unless}
use Rattle.walk.specs.Ends.{passed, stopped_by, stop_by, outcome}
use Rattle.walk.specs.Calls.{checked, Fit, Within, table_of}
use Rattle.walk.specs.declared.stop.Stage.TheVariants.{One}
use Rattle.walk.specs.declared.stop.Stop.TheVariants as S
use Rattle.walk.specs.declared.stop.Stop.{Stop}
use Rattle.walk.specs.declared.table.Leaf.{Leaf}
use Rattle.walk.specs.Root.{Root}
use Rattle.walk.specs.declared.check.Output.{Output}
use Rattle.walk.specs.declared.end.Ending.TheVariants as E
use Rattle.walk.specs.declared.stage2.Stage2.{Stage2}
use Rattle.walk.proofs.Ends.{outcome_passed, outcome_stopped, fault_stop, starts_within, starts_usable, starts_unusable, ran_give}
use Rattle.walk.proofs.Turns.{from_enters}
use Rattle.stages.specs.Stage1.{top, place1, root1_at, stage1_off, translate1}
use Rattle.stages.specs.Stages.{finish, access}
use Rattle.stages.specs.Calls.{arrived, at_first, off_device, off_ending}
use Rattle.stages.specs.Prepared.{stage1_of, Opens, walks, passes}
use Rattle.stages.specs.declared.stage1.Stage1.{Stage1}
use Rattle.stages.specs.declared.prepared.Prepared1.{Prepared1}
use Rattle.stages.specs.declared.stage1.Opening.{Opening}
use Rattle.stages.proofs.Calls as Calls
use Rattle.stages.proofs.Calls.{Going, stopped_walk, first_stopped}

-- ---- stage 1 off

off_device_lem : (dc fetch i : Bool) → is_device (stage1_off_attributes dc fetch i).memory ≡ (not dc && not fetch)
unfolding stage1_off_attributes pick reported is_device
off_device_lem true fetch i = refl
off_device_lem false true true = refl
off_device_lem false true false = refl
off_device_lem false false i = refl

-- what stage 1 makes of an address where it is off
abbrev off_output : Stage1 → Access → Output
off_output s a = record { address = a.address % 2 ^ 48; attributes = stage1_off_attributes s.dc (is_fetch a) s.i; level = 0 }

off_tested : (o : Output) (inside misaligned : Bool) →
    checked (unless (not inside) (fault F.AddressSize One 0) (unless misaligned (S.Misaligned One) (Ok o))) ≡ outcome One o (stopped_by (pick inside (pick misaligned E.Misaligned E.Passed) E.AddressSize) 0 0)
unfolding unless checked outcome stop_by pick
off_tested o true true = refl
off_tested o true false = refl
off_tested o false misaligned = refl

off_checked : (s : Stage1) (a : Access) → checked (stage1_off s a) ≡ outcome One (off_output s a) (stopped_by (off_ending s a) 0 0)
unfolding stage1_off
off_checked s a =
    rw (off_device_lem s.dc (is_fetch a) s.i) (off_tested (off_output s a) (eqb (a.address % 2 ^ suc (top s a.address) / 2 ^ s.pamax) 0) (off_device s a && unaligned a))

module _ (m : Request → Option ℕ) (s1 : Stage1) (s2 : Stage2) (a : Access) (log : List ℕ) (off : s1.on ≡ false) where
  ran_off : Ran m (translate1 s1 (root1_at s1 a.address) s2 a) log 0 (outcome One (off_output s1 a) (stopped_by (off_ending s1 a) 0 0)) 0 log
  unfolding translate1
  ran_off = ran_false m _ off (rw (← off_checked s1 a) (ran_give m (stage1_off s1 a) log 0))

-- ---- both

by_root : (m : Request → Option ℕ) (s2 : Stage2) (a : Access) {r r' : Root} {log l : List ℕ} {k end : ℕ} {o : Outcome Stop Leaf} → r ≡ r' →
    Ran m (walk_from (place1 s2 a) One a.address r') log k o end l → Ran m (walk_from (place1 s2 a) One a.address r) log k o end l
by_root m s2 a {log = log} {l} {k} {end} {o} e q = subst (λ z. Ran m (walk_from (place1 s2 a) One a.address z) log k o end l) (sym e) q

module _ (p : Prepared1) (a : Access) (o : Opening) where
  -- a walk starts at a root that is of use
  pub opens_fit : Opens p a o → passed o.ending ≡ true → p.on ≡ true → (root1_at (stage1_of p) a.address ≡ Ok (table_of o.start)) × Fit o.start
  opens_fit (walks on w e l starts ipa) q one = starts_usable o.start (root1_at (stage1_of p) a.address) starts (rw e at q)
  opens_fit (passes off w e l within ipa) q one = absurd (true≢false (sym one ∙ off))

  pub opens_within : Opens p a o → Within o.start
  opens_within (walks on w e l starts ipa) = starts_within o.start (root1_at (stage1_of p) a.address) starts
  opens_within (passes off w e l within ipa) = within

module _ (m : Request → Option ℕ) (s2 : Stage2) (p : Prepared1) (a : Access) (o : Opening) (log : List ℕ) where
  pub opens_going : Opens p a o → passed o.ending ≡ true →
      Going m (stage1_of p) s2 a o.start.geometry log log o.walking (o.start.levels - 1) o.start.shift o.ipa 0 0 0
  opens_going (walks on w e l starts ipa) q =
      let u = starts_usable o.start (root1_at (stage1_of p) a.address) starts (rw e at q) in
      let f = u.1 in
      let g = o.start.geometry in
      let n = o.start.levels - 1 in
      let first : o.ipa ≡ entry_address g n o.start.bits o.start.base a.address = rw f.shift at ipa in
      Calls.walks w on
      (record {
        few = omega (arith, f.small.levels);
        shifted = f.shift;
        low = omega (arith, f.shift, f.small.shift);
        same = refl;
        rest = λ r. by_root m s2 a u.0 (rw (from_enters m (place1 s2 a) g One a.address (table_of o.start) refl f.small.some, ← first, ← imposed_none) r);
      })
      (omega (arith, f.small.levels))
  opens_going (passes off w e l within ipa) q =
      Calls.ends w
      (rw (ipa, pick_false p.on _ (stage1_off_attributes p.dc (is_fetch a) p.i) off, pick_false p.on (3 - (o.start.levels - 1)) 0 off)
      (rw (outcome_passed One (off_output (stage1_of p) a) (stopped_by (off_ending (stage1_of p) a) 0 0) (rw e at q)) at (ran_off m (stage1_of p) s2 a log off)))
      (omega arith)

  -- or no access begins
  pub opens_stopped : Opens p a o → passed o.ending ≡ false → Ran m (access (stage1_of p) s2 a) log 0 (arrived (stage1_of p) s2 a (at_first (stopped_by o.ending o.level 0))) 0 log
  unfolding access walk_from
  opens_stopped (walks on w e l starts ipa) q =
      let u = starts_unusable o.start (root1_at (stage1_of p) a.address) starts (rw e at q) in
      first_stopped m (stage1_of p) s2 a (stopped_by o.ending o.level 0) q
      (rw (e, l, u.2, fault_stop One 0 o.start.level u.0) (stopped_walk m (stage1_of p) s2 a on (by_root m s2 a u.1 (ran_stop m _ _ _))))
  opens_stopped (passes off w e l within ipa) q =
      first_stopped m (stage1_of p) s2 a (stopped_by o.ending o.level 0) q
      (rw (e, l) (ran_stopped m (finish s2 a) (rw (outcome_stopped One (off_output (stage1_of p) a) (stopped_by (off_ending (stage1_of p) a) 0 0) (rw e at q)) at (ran_off m (stage1_of p) s2 a log off))))
