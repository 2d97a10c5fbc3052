-- Of an access's stages only what is wanted counts: the VA range that the address picks, and roots of stages that are on.
-- Assumes nothing.
use mathlib.Core.Path.{◌≡◌, refl, sym, ap, ap₂, fun_ext, ◌∙◌}
use mathlib.Core.Bool.{Bool, true, false}
use Prim.Native.Nat.{ℕ, ◌<◌, ◌^◌}
use lib.Dec.{ltb, leb}
use Rattle.bits.specs.Bits.{pick, bit}
use Rattle.bits.proofs.Tests.{pick_true, pick_false}
use Rattle.access.specs.declared.Access.{Access}
use Rattle.descriptor.specs.declared.entry.FaultKind.TheVariants.{Translation}
use Rattle.reads.specs.Program.{bind}
use Rattle.walk.specs.Walk.{walk_from}
use Rattle.walk.specs.Checks.{give}
use Rattle.walk.specs.declared.stop.Stage.TheVariants.{One}
use Rattle.walk.specs.Root.{Root, unusable}
use Rattle.walk.specs.declared.stage2.Stage2.{Stage2}
use Rattle.stages.specs.Stage1.{place1, root1_at, check1, stage1_off, translate1}
use Rattle.stages.specs.Stages.{finish, access}
use Rattle.stages.specs.Calls.{arrived}
use Rattle.stages.specs.Ranges.{counted, within, floor, bounds_of, range_at, root_at, Narrow}
use Rattle.stages.specs.declared.stage1.VaRange.{VaRange}
use Rattle.stages.specs.declared.stage1.Stage1.{Stage1}
use Rattle.stages.specs.declared.both.Arrival.{Arrival}
use Rattle.stages.specs.declared.range.Range.TheVariants.{Lower, Upper, Neither}
use Rattle.stages.proofs.Ranges.{root1_range}
use Rattle.registers.specs.Tcr
use Rattle.registers.specs.declared.El1.{El1}
use Rattle.registers.specs.declared.El2.{El2}
use Rattle.settings.specs.Settings.{stage1_on, stage2_on, settings}
use Rattle.regime.specs.Roots.{lower_geometry, upper_geometry, range_of, stage1, stage2}
use Rattle.regime.specs.Calls.{lower_half, upper_half, range_by, output1, ranged1, narrowed1, sided1, narrowed2}
use Rattle.regime.proofs.Settings.{lower_sized, upper_sized, lower_sound, upper_sound, half_sound}
use Rattle.regime.proofs.Ready.{narrow1, range_narrow}

-- ---- stage 2

-- a stage of which the root counts only where it is on
module _ (inputsize : ℕ) (root : Root) (cd id ptw : Bool) (a : Access) where
  abbrev whole : Bool → Stage2
  whole on = record { on = on; inputsize = inputsize; root = root; cd = cd; id = id; ptw = ptw }

  abbrev part : Bool → Stage2
  part on = record { on = on; inputsize = inputsize; root = pick on root (unusable Translation 0); cd = cd; id = id; ptw = ptw }

  place_same : (on : Bool) → place1 (part on) a ≡ place1 (whole on) a
  unfolding pick place1
  place_same true = refl
  place_same false = fun_ext (λ _. refl)

  finish_same : (on : Bool) → finish (part on) a ≡ finish (whole on) a
  unfolding pick finish
  finish_same true = refl
  finish_same false = fun_ext (λ _. refl)

second_same : (s : Stage1) (r : El2) (a : Access) → access s (narrowed2 r) a ≡ access s (stage2 r) a
unfolding access translate1 stage2
second_same s r a =
    ap₂ (λ p f. bind (pick s.on (bind (walk_from p One a.address (root1_at s a.address)) (λ l. give (check1 s a l))) (give (stage1_off s a))) f)
    (place_same _ _ _ _ _ a (stage2_on r)) (finish_same _ _ _ _ _ a (stage2_on r))

-- ---- stage 1

-- the root for an address of each VA range, if it lies in it
abbrev upper_root : (tbi : Bool) → VaRange → ℕ → Root
upper_root tbi u a = pick (ltb (counted tbi a) (floor tbi u.inputsize)) (unusable Translation 0) u.root

abbrev lower_root : (tbi : Bool) → VaRange → ℕ → Root
lower_root tbi l a = pick (leb (within l.inputsize) (counted tbi a)) (unusable Translation 0) l.root

-- bit 55 tells which of them counts
root_by : (s : Stage1) (a : ℕ) → root_at s (range_at (bounds_of s) a) ≡ pick (bit a 55) (upper_root s.tbi1 s.upper a) (lower_root s.tbi0 s.lower a)
unfolding range_at bounds_of pick root_at
root_by s a =
    by_tests (bit a 55) (ltb (counted s.tbi1 a) (floor s.tbi1 s.upper.inputsize)) (leb (within s.lower.inputsize) (counted s.tbi0 a))
  where
    by_tests : (b x y : Bool) → root_at s (pick b (pick x Neither Upper) (pick y Neither Lower)) ≡ pick b (pick x (unusable Translation 0) s.upper.root) (pick y (unusable Translation 0) s.lower.root)
    by_tests true true y = refl
    by_tests true false y = refl
    by_tests false x true = refl
    by_tests false x false = refl

-- two stages that differ in their VA ranges, of which the address picks one that is the same
module _ (r : El2) (g : El1) (accepted : settings r g ≡ 0) (l u : VaRange) (narrow : Narrow l × Narrow u) (a : Access) (fits : a.address < 2 ^ 64)
    (picked : stage1_on r g ≡ true → (bit a.address 55 ≡ true → u ≡ (stage1 r g).upper) × (bit a.address 55 ≡ false → l ≡ (stage1 r g).lower)) where
  by_bit : (b : Bool) → (b ≡ true → u ≡ (stage1 r g).upper) × (b ≡ false → l ≡ (stage1 r g).lower) →
      pick b (upper_root (Tcr.tbi1 g.tcr) u a.address) (lower_root (Tcr.tbi0 g.tcr) l a.address)
      ≡ pick b (upper_root (Tcr.tbi1 g.tcr) (stage1 r g).upper a.address) (lower_root (Tcr.tbi0 g.tcr) (stage1 r g).lower a.address)
  unfolding pick
  by_bit true p = ap (λ z. upper_root (Tcr.tbi1 g.tcr) z a.address) (p.0 refl)
  by_bit false p = ap (λ z. lower_root (Tcr.tbi0 g.tcr) z a.address) (p.1 refl)

  root_same : stage1_on r g ≡ true → root1_at (ranged1 l u r g) a.address ≡ root1_at (stage1 r g) a.address
  unfolding stage1
  root_same on =
      root1_range (ranged1 l u r g) a.address fits narrow.0 narrow.1
      ∙ root_by (ranged1 l u r g) a.address
      ∙ by_bit (bit a.address 55) (picked on)
      ∙ sym (root_by (stage1 r g) a.address)
      ∙ sym (root1_range (stage1 r g) a.address fits (narrow1 _ _ _ (lower_sized r g accepted on)) (narrow1 _ _ _ (upper_sized r g accepted on)))

  first_same : (on : Bool) → stage1_on r g ≡ on → (s2 : Stage2) → access (ranged1 l u r g) s2 a ≡ access (stage1 r g) s2 a
  unfolding access translate1 stage1 check1 stage1_off pick
  first_same true e s2 = ap (λ z. bind (translate1 (stage1 r g) z s2 a) (finish s2 a)) (root_same e)
  first_same false e s2 = rw e

  access_ranged : access (ranged1 l u r g) (narrowed2 r) a ≡ access (stage1 r g) (stage2 r) a
  access_ranged = first_same (stage1_on r g) refl (narrowed2 r) ∙ second_same (stage1 r g) r a

-- ---- the stages that code prepares

-- a VA range is left out only where stage 1 is off
lower_kept : (r : El2) (g : El1) → stage1_on r g ≡ true → range_by (output1 r g) (lower_half (stage1_on r g) g) ≡ (stage1 r g).lower
unfolding stage1
lower_kept r g on = ap (λ z. range_of (lower_geometry r g) z g.ttbr0) (pick_true _ _ _ on)

upper_kept : (r : El2) (g : El1) → stage1_on r g ≡ true → range_by (output1 r g) (upper_half (stage1_on r g) g) ≡ (stage1 r g).upper
unfolding stage1
upper_kept r g on = ap (λ z. range_of (upper_geometry r g) z g.ttbr1) (pick_true _ _ _ on)

module _ (r : El2) (g : El1) (accepted : settings r g ≡ 0) (a : Access) (fits : a.address < 2 ^ 64) where
  -- the access by ranges that are left out where they are not wanted is the access
  pub access_narrowed : access (narrowed1 r g) (narrowed2 r) a ≡ access (stage1 r g) (stage2 r) a
  access_narrowed =
      access_ranged r g accepted _ _ (range_narrow _ _ (lower_sound r g accepted refl), range_narrow _ _ (upper_sound r g accepted refl)) a fits
      (λ on. (λ _. upper_kept r g on, λ _. lower_kept r g on))

  -- and so is that by the address's own range in the place of both
  pub access_sided : access (sided1 (bit a.address 55) r g) (narrowed2 r) a ≡ access (stage1 r g) (stage2 r) a
  access_sided =
      let n = range_narrow (output1 r g) _ (half_sound r g accepted refl (bit a.address 55)) in
      access_ranged r g accepted _ _ (n, n) a fits
      (λ on. (
        λ e. ap (range_by (output1 r g)) (pick_true _ _ _ e) ∙ upper_kept r g on,
        λ e. ap (range_by (output1 r g)) (pick_false _ _ _ e) ∙ lower_kept r g on,
      ))

-- VA ranges show in no end of an access, nor does a root of stage 2
pub arrived_ranged : (r : El2) (g : El1) (l u : VaRange) (a : Access) (last : Arrival) → arrived (ranged1 l u r g) (narrowed2 r) a last ≡ arrived (stage1 r g) (stage2 r) a last
unfolding arrived stage1 stage2
arrived_ranged r g l u a last = refl
