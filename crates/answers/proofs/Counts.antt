-- The number of reads of a question.
-- Assumes nothing.
use mathlib.Core.Path.{◌≡◌, refl, ap, sym, ◌∙◌, subst}
use mathlib.Core.Bool.{Bool, true, false}
use mathlib.Core.List.{List, []}
use Prim.Native.Nat.{ℕ, suc, ◌+◌, ◌*◌, ◌≤◌}
use native.Mathlib.Nat.{mul-le-mul}
use native.Mathlib.Numerals.{add-one}
use native.Mathlib.Omega.{arith}
use lib.IntN.{ℤ, pos}
use lib.ListN.{length}
use borrow.Author.Tests.{eqb-true, not-false}
use Rattle.bits.specs.Bits.{pick}
use Rattle.reads.specs.Program.{Request, Outcome, reached, stopped, run}
use Rattle.access.specs.declared.Access.{Access}
use Rattle.descriptor.specs.declared.entry.Geometry.{Geometry}
use Rattle.std.specs.Prelude.{Option, Ok, Err}
use Rattle.bits.proofs.Tests.{by_pick, pick_true, pick_false}
use Rattle.reads.proofs.Tally.{Tally, Tight, AllThree}
use Rattle.capture.specs.Capture.{any_high}
use Rattle.layout.specs.Layout.{Form, layout, captured}
use Rattle.walk.specs.Walk.{Reading}
use Rattle.stages.specs.Stage1.{is_upper, root1_at}
use Rattle.stages.specs.Stages.{access}
use Rattle.answers.specs.Refusals.{Verdict, accepts}
use Rattle.answers.specs.Answers.{answer}
use Rattle.answers.specs.declared.Refusal.{Refusal}
use Rattle.walk.specs.declared.stop.Stop.{Stop}
use Rattle.walk.specs.declared.stop.Stop.TheVariants as S
use Rattle.stages.specs.declared.both.Translation.{Translation}
use Rattle.answers.specs.declared.Answer.TheVariants.{Translated}
use Rattle.walk.specs.Root.{Root}
use Rattle.walk.proofs.Counts.{HasLevels}
use Rattle.stages.proofs.Counts.{tight_access}
use Rattle.registers.specs.Tcr
use Rattle.settings.specs.Settings.{stage1_on, stage2_on, settings}
use Rattle.level.specs.declared.granule.Granule.{Granule}
use Rattle.level.specs.Granule.{geometry_of, Granular}
use Rattle.level.specs.Level.{start1, levels_below}
use Rattle.level.proofs.Granules.{tg0_granular, tg1_granular}
use Rattle.regime.specs.Roots.{start_level2, lower_geometry, upper_geometry, range_of, root2, stage1, stage2}
use Rattle.registers.specs.declared.El1.{El1}
use Rattle.registers.specs.declared.El2.{El2}
use Rattle.regime.specs.Calls.{Sized}
use Rattle.regime.proofs.Settings.{lower_sized, upper_sized}
use Rattle.regime.proofs.Roots.{start1_is, start2_most, by_range, by_root1_at, by_root2, Sane, root2_sane}
use Rattle.answers.specs.Question.{grounds, refusal, turned_away, told, ask_over, ask}
use Rattle.answers.specs.Counts.{levels_from, range_levels, n1, n2, limit, Counted, Counts}
use Rattle.answers.proofs.Tried.{same_ok}
use Rattle.answers.proofs.Refusals.{refuse_refused, refuse_accepted, holds_for, is_settings, is_high, none_holds}

-- ---- levels

levels_from_lem : (z : ℤ) (l : ℕ) → l ≤ 3 → z ≡ pos l → (suc (levels_below z) ≡ levels_from z) × (levels_from z ≤ 4)
unfolding levels_below levels_from
levels_from_lem z l h e = subst (λ y. (suc (levels_below y) ≡ levels_from y) × (levels_from y ≤ 4)) (sym e) (omega arith, omega arith)

-- a root's levels, none where it is unusable
levels_of : Root → ℕ
levels_of (Err u) = 0
levels_of (Ok t) = t.levels

has_levels : (root : Root) → HasLevels (levels_of root) root
unfolding levels_of
has_levels (Err u) = tt
has_levels (Ok t) = refl

-- ---- stage 2

root2_levels : (r : El2) (l : ℕ) → start_level2 r ≡ pos l → (HasLevels (n2 r) (root2 r)) × (n2 r ≤ 4)
root2_levels r l e =
    let h = levels_from_lem (start_level2 r) l (start2_most r l e) e in
    (by_root2 (HasLevels (n2 r)) (λ k l'. tt) r (λ l' e' _ _. h.0), h.1)

few_levels : (root : Root) → Sane root → levels_of root ≤ 4
unfolding levels_of
few_levels (Err u) h = omega arith
few_levels (Ok t) h = h.1

root2_few : (r : El2) → levels_of (root2 r) ≤ 4
root2_few r = few_levels (root2 r) (root2_sane r)

-- ---- stage 1

module _ (k : Granule) (granular : Granular k) (s output : ℕ) where
  abbrev geometry : Geometry
  geometry = geometry_of k s output

  start1_levels : Sized s → (suc (levels_below (start1 geometry)) ≡ levels_from (start1 geometry)) × (levels_from (start1 geometry) ≤ 4)
  start1_levels h = let b = start1_is k s output granular h in levels_from_lem (start1 geometry) b.l b.most b.is

  range_levels_lem : (epd : Bool) (ttbr : ℕ) → (epd ≡ false → Sized s) → (HasLevels (range_levels geometry epd) (range_of geometry epd ttbr).root) × (range_levels geometry epd ≤ 4)
  range_levels_lem epd ttbr sized = (
    by_range (HasLevels (range_levels geometry epd)) (λ k l. tt) geometry epd ttbr (λ e. (start1_levels (sized e)).0 ∙ sym (pick_false epd 0 _ e)),
    by_pick (λ n. n ≤ 4) epd 0 _ (λ _. omega arith) (λ e. (start1_levels (sized e)).1),
  )

-- accepted settings bound the levels of the VA range that an address picks
module _ (r : El2) (g : El1) (a : ℕ) (accepted : settings r g ≡ 0) (on : stage1_on r g ≡ true) where
  abbrev lower : ℕ
  lower = range_levels (lower_geometry r g) (Tcr.epd0 g.tcr)

  abbrev upper : ℕ
  upper = range_levels (upper_geometry r g) (Tcr.epd1 g.tcr)

  root1_levels : HasLevels (pick (is_upper (stage1 r g) a) upper lower) (root1_at (stage1 r g) a)
  unfolding stage1
  root1_levels =
      by_root1_at (HasLevels (pick (is_upper (stage1 r g) a) upper lower)) (λ k l. tt) (stage1 r g) a
      (λ e. rw (pick_true (is_upper (stage1 r g) a) upper lower e) (range_levels_lem _ (tg1_granular _) _ _ _ _ (upper_sized r g accepted on)).0)
      (λ e. rw (pick_false (is_upper (stage1 r g) a) upper lower e) (range_levels_lem _ (tg0_granular _) _ _ _ _ (lower_sized r g accepted on)).0)

  root1_few : pick (is_upper (stage1 r g) a) upper lower ≤ 4
  root1_few = by_pick (λ n. n ≤ 4) (is_upper (stage1 r g) a) upper lower (λ _. (range_levels_lem _ (tg1_granular _) _ _ _ g.ttbr1 (upper_sized r g accepted on)).1) (λ _. (range_levels_lem _ (tg0_granular _) _ _ _ g.ttbr0 (lower_sized r g accepted on)).1)

n1_few : (r : El2) (g : El1) (a : ℕ) → settings r g ≡ 0 → n1 r g a ≤ 4
n1_few r g a accepted = by_pick (λ n. n ≤ 4) (stage1_on r g) _ 0 (λ on. root1_few r g a accepted on) (λ _. omega arith)

-- ---- the access

-- with k levels in stage 2's root
access_tight : (m : Request → Option ℕ) (r : El2) (g : El1) (a : Access) (k : ℕ) → settings r g ≡ 0 → HasLevels k (root2 r) →
    Tight m (n1 r g a.address * suc (pick (stage2_on r) k 0) + pick (stage2_on r) k 0) (access (stage1 r g) (stage2 r) a)
unfolding stage1 stage2
access_tight m r g a k accepted levels = by_test (stage1_on r g) refl
  where
    bound : ℕ → ℕ
    bound n = n * suc (pick (stage2_on r) k 0) + pick (stage2_on r) k 0

    by_test : (b : Bool) → stage1_on r g ≡ b → Tight m (n1 r g a.address * suc (pick (stage2_on r) k 0) + pick (stage2_on r) k 0) (access (stage1 r g) (stage2 r) a)
    by_test true on = tight_access m (stage2 r) a k levels (stage1 r g) _ (root1_levels r g a.address accepted on)
    by_test false off =
        subst (λ z. Tight m (bound z) (access (stage1 r g) (stage2 r) a)) (pick_false (stage1_on r g) _ 0 off ∙ sym (pick_false (stage1_on r g) _ 0 off))
        (tight_access m (stage2 r) a k levels (stage1 r g) (levels_of (root1_at (stage1 r g) a.address)) (has_levels (root1_at (stage1 r g) a.address)))

at_most_24 : (n k : ℕ) → n ≤ 4 → k ≤ 4 → n * (k + 1) + k ≤ 24
at_most_24 n k h l =
    let p : k + 1 ≤ 5 = omega arith in
    omega (arith, mul-le-mul h p)

-- ---- the question

-- a translated access is one whose program reached its end
exact_of : (c : ℕ) (o : Outcome Stop Translation) (k : ℕ) (l : List ℕ) → Tally c o k l → (to : Translation) (n : ℕ) → answer k o ≡ Translated to n →
    (k ≡ c → AllThree l) × (AllThree l → k ≡ c)
unfolding answer
exact_of c (reached t) k l h to n e = h.exact
exact_of c (stopped (S.Fault f)) k l h to n e = absurd (let z : ◌≡◌ {A = ℕ} 0 1 = cc in omega arith)
exact_of c (stopped (S.Misaligned s)) k l h to n e = absurd (let z : ◌≡◌ {A = ℕ} 0 1 = cc in omega arith)
exact_of c (stopped (S.Absent a)) k l h to n e = absurd (let z : ◌≡◌ {A = ℕ} 0 1 = cc in omega arith)
exact_of c (stopped (S.Unsettled o)) k l h to n e = absurd (let z : ◌≡◌ {A = ℕ} 0 1 = cc in omega arith)

counted_of : (m : Request → Option ℕ) (log : List ℕ) (p : Reading Translation) (c : ℕ) → Tight m c p → Counted c (told m log p)
unfolding told
counted_of m log p c h = record { within = h.tally.most; exact = λ to n e. exact_of c (run m p) _ _ h.tally to n (same_ok e) }

module _ (form : Form) (file : List ℕ) (r : El2) (g : El1) (a : Access) (log : List ℕ) where
  abbrev m : Request → Option ℕ
  m = captured form file

  abbrev pub p : Reading Translation
  p = access (stage1 r g) (stage2 r) a

  abbrev pub why : Verdict
  why = refusal (length log) form file r g a

  -- without a refusal the settings are accepted, and the question is the access
  accepted : why ≡ accepts → settings r g ≡ 0
  unfolding holds_for pick
  accepted e = eqb-true _ _ (not-false _ (none_holds is_settings (grounds (length log) (layout form file).unreadable (any_high (layout form file).banks) r g a) e))

  -- and no bank ends high
  pub low : why ≡ accepts → any_high (layout form file).banks ≡ false
  unfolding holds_for pick
  low e = none_holds is_high (grounds (length log) (layout form file).unreadable (any_high (layout form file).banks) r g a) e

  pub is_access : why ≡ accepts → ask form file r g a log ≡ told m log p
  unfolding ask ask_over
  is_access e = refuse_accepted _ _ _ e

  pub is_refused : (w : Refusal) → why ≡ Err w → ask form file r g a log ≡ record { answer = Err w; reads = []; log = log; ends = [] }
  unfolding ask ask_over turned_away
  is_refused w e = refuse_refused _ _ _ w e

  tight : (k : ℕ) → HasLevels k (root2 r) → why ≡ accepts → Tight m (n1 r g a.address * suc (pick (stage2_on r) k 0) + pick (stage2_on r) k 0) p
  tight k levels e = access_tight m r g a k (accepted e) levels

  few : (v : Verdict) → why ≡ v → length (ask form file r g a log).reads ≤ 24
  unfolding told
  few (Ok tt) e =
      let h = tight (levels_of (root2 r)) (has_levels (root2 r)) e in
      let k = pick (stage2_on r) (levels_of (root2 r)) 0 in
      let small : k ≤ 4 = by_pick (λ n. n ≤ 4) (stage2_on r) _ 0 (λ _. root2_few r) (λ _. omega arith) in
      let bound : n1 r g a.address * (k + 1) + k ≤ 24 = at_most_24 _ k (n1_few r g a.address (accepted e)) small in
      rw (ap (λ t. t.reads) (is_access e)) (omega (arith, h.tally.most, rw add-one at bound))
  few (Err w) e = rw (ap (λ t. t.reads) (is_refused w e)) (omega arith)

  pub counts : Counts form file r g a log
  unfolding told
  counts =
      record {
        counted = λ on l start e.
            let h = root2_levels r l start in
            let t : Tight m (limit r g a.address) p =
            subst (λ z. Tight m z p) (rw (pick_true (stage2_on r) (n2 r) 0 on, add-one)) (tight (n2 r) h.0 e) in
            (subst (Counted (limit r g a.address)) (sym (is_access e)) (counted_of m log p _ t), at_most_24 _ _ (n1_few r g a.address (accepted e)) h.1);
        alone = λ off e.
            let t : Tight m (n1 r g a.address) p =
            subst (λ z. Tight m z p) (rw (pick_false (stage2_on r) (levels_of (root2 r)) 0 off) (omega arith)) (tight (levels_of (root2 r)) (has_levels (root2 r)) e) in
            ((subst (Counted (n1 r g a.address)) (sym (is_access e)) (counted_of m log p _ t)).within, n1_few r g a.address (accepted e));
        refused = is_refused;
        suffices = few why refl;
      }
