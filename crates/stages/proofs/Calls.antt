-- Calls that ran an access: from what stage 2 gave for one address, through the levels of stage 1, to the end.
-- Assumes nothing.
use mathlib.Core.Path.{◌≡◌, refl, sym, ◌∙◌}
use Rattle.std.proofs.Common.{Bool, true, false, true≢false, not, ◌||◌}
use mathlib.Core.List.{List}
use Prim.Native.Nat.{ℕ, suc, ◌+◌, ◌-◌, ◌*◌, ◌≤◌, ◌<◌}
use native.Mathlib.Omega.{arith}
use Rattle.std.proofs.lemmas.Bool.{not-true}
use lib.Bits.{bit_or}
use lib.ListN.{length, set}
use Rattle.bits.specs.Bits.{pick, field, upper}
use Rattle.bits.proofs.Tests.{pick_true, pick_false}
use Rattle.reads.specs.Program.{Request, reached, stopped, done, bind}
use Rattle.reads.specs.Ran.{Ran}
use Rattle.std.specs.Prelude.{Option, Some, None}
use Rattle.reads.proofs.Ran.{ran_done, ran_then, ran_stopped, ran_true, ran_false, ran_length}
use Rattle.access.specs.declared.Access.{Access}
use Rattle.attributes.specs.Attributes.{class_of, settled_part, stage1_attributes, stage2_attributes, combine}
use Rattle.descriptor.specs.Entry.{shift, decode, output_address}
use Rattle.descriptor.specs.Turn.{turn_of, imposed}
use Rattle.descriptor.specs.declared.entry.Geometry.{Geometry}
use Rattle.descriptor.proofs.Imposed.{imposed_or}
use Rattle.walk.specs.Walk.{Reading, walk_from}
use Rattle.walk.specs.Checks.{misaligned, give}
use Rattle.walk.specs.Stage2.{uncached2, translate2}
use Rattle.walk.specs.Ends.{passed, stopped_by, stop_by, outcome, ended, leads_down, is_leaf, over, verdict}
use Rattle.walk.specs.declared.stop.Stage.{Stage}
use Rattle.walk.specs.declared.stop.Stage.TheVariants.{One, Two}
use Rattle.walk.specs.declared.stop.Stop.{Stop}
use Rattle.walk.specs.declared.table.Leaf.{Leaf}
use Rattle.walk.specs.declared.end.Ending.{Ending}
use Rattle.walk.specs.declared.end.Ending.TheVariants as E
use Rattle.walk.specs.declared.end.End.{End}
use Rattle.walk.specs.declared.stage2.Stage2.{Stage2}
use Rattle.walk.proofs.Ends.{outcome_passed, outcome_stopped, over_stops, ran_give, verdict_checked, verdict_anywhere}
use Rattle.walk.proofs.Turns.{leaf_at, req, Walking, walking_stopped, walking_absent, walking_leaf, walking_over, walking_down}
use Rattle.stages.specs.Stage1.{place1, root1_at, uncached1, denied1, check1, translate1}
use Rattle.stages.specs.Stages.{finish, access}
use Rattle.stages.specs.Calls.{finished_at, output_of, leaf_level, stage_by, arrived, at_first, as_it_is, ending1, Seconded}
use Rattle.stages.specs.declared.stage1.Stage1.{Stage1}
use Rattle.stages.specs.declared.both.Translation.{Translation}
use Rattle.stages.specs.declared.both.By.{By}
use Rattle.stages.specs.declared.both.By.TheVariants.{OnWalk, Second}

both_true : (w p : Bool) → (not w || not p) ≡ false → (w ≡ true) × (p ≡ true)
both_true true true e = (refl, refl)
both_true true false e = absurd (true≢false e)
both_true false p e = absurd (true≢false e)

-- an end, and what follows where it passed
ran_outcome : {A B : Type 0} (m : Request → Option ℕ) {p : Reading A} (f : A → Reading B) (s : Stage) (v : A) (w : B) (e : End) {log l : List ℕ} {k end : ℕ} →
    Ran m (f v) l end (reached w) end l → Ran m p log k (outcome s v e) end l → Ran m (bind p f) log k (outcome s w e) end l
ran_outcome {A} {B} m {p} f s v w e {log} {l} {k} {end} q = by_passed (passed e.ending) refl
  where
    by_passed : (b : Bool) → passed e.ending ≡ b → Ran m p log k (outcome s v e) end l → Ran m (bind p f) log k (outcome s w e) end l
    by_passed true t r = rw (outcome_passed s w e t) (ran_then m f (rw (outcome_passed s v e t) at r) q)
    by_passed false t r = rw (outcome_stopped s w e t) (ran_stopped m f (rw (outcome_stopped s v e t) at r))

-- ---- stage 2

-- where it puts a stage 1 descriptor, or the IPA as it is where it is off
pub record Placed (m : Request → Option ℕ) (s : Stage2) (a : Access) (walking : Bool) (ipa : ℕ) (log : List ℕ) (count place count' : ℕ) (log' : List ℕ) : Type 0 where
  pub walks : walking ≡ true
  pub run : Ran m (place1 s a ipa) log count (reached place) count' log'
  pub few : count' ≤ count + 4

module _ (m : Request → Option ℕ) (s : Stage2) (a : Access) (ipa : ℕ) {log : List ℕ} {count : ℕ} where
  pub seconded_off : (w : Bool) → s.on ≡ false → Seconded m s a w ipa log count (as_it_is ipa count) log
  unfolding place1 finish outcome pick
  seconded_off w off =
      record {
        placed = λ _. ran_false m _ off (ran_done m ipa log count);
        finished = λ _ o e. ran_false m _ off (rw (e, pick_false s.on (combine o.attributes (settled_part (stage2_attributes (uncached2 s a false) 0))) o.attributes off) (ran_done m _ log count));
      }

  module _ (on : s.on ≡ true) {log' : List ℕ} where
    pub seconded_on : (w : Bool) (r : End) → Ran m (translate2 s a w ipa) log count (ended (Two ipa w) (stage2_attributes (uncached2 s a w)) r) r.count log' → Seconded m s a w ipa log count r log'
    unfolding place1 finish
    seconded_on w r q =
        record {
          placed = λ e. ran_true m _ on (ran_outcome m (λ o. done o.address) (Two ipa true) _ r.address r (ran_done m _ _ _) (rw e at q));
          finished =
              λ e o i. ran_true m _ on
              (rw (i, pick_true s.on (combine o.attributes (settled_part (stage2_attributes (uncached2 s a false) r.word))) o.attributes on)
              (ran_outcome m (λ p. done (record { address = p.address; attributes = combine o.attributes p.attributes; level1 = o.level; level2 = p.level })) (Two ipa false) _ _ r (ran_done m _ _ _) (rw e at q)));
        }

-- ---- stage 1, and the whole access

module _ (m : Request → Option ℕ) (s1 : Stage1) (s2 : Stage2) (a : Access) where
  -- the walk for the address
  abbrev pub whole : Reading Leaf
  whole = walk_from (place1 s2 a) One a.address (root1_at s1 a.address)

  module _ {log l : List ℕ} {k end : ℕ} where
    -- a walk that stops, stops the access
    pub stopped_walk : {e : Stop} → s1.on ≡ true → Ran m whole log k (stopped e) end l → Ran m (access s1 s2 a) log k (stopped e) end l
    unfolding access translate1
    stopped_walk on r = ran_stopped m (finish s2 a) (ran_true m _ on (ran_stopped m (λ l. give (check1 s1 a l)) r))

    -- the checks of a leaf
    checked_leaf : (x : Leaf) (e : End) → s1.on ≡ true → Ran m whole log k (reached x) end l →
        e.address ≡ output_address x.word x.shift a.address → e.word ≡ x.word → e.level ≡ x.level →
        e.ending ≡ verdict (λ d. misaligned a d) (λ d. denied1 s1 a d x) (class_of (stage1_attributes s1.mair (uncached1 s1 a) x.word)) →
        Ran m (translate1 s1 (root1_at s1 a.address) s2 a) log k (ended One (stage1_attributes s1.mair (uncached1 s1 a)) e) end l
    unfolding translate1 check1
    checked_leaf x e on r address word level ending =
        ran_true m _ on
        (ran_then m (λ l. give (check1 s1 a l)) r
        (rw (← verdict_checked One a.address x (λ d. misaligned a d) (λ d. denied1 s1 a d x) (stage1_attributes s1.mair (uncached1 s1 a)) e address word level ending) (ran_give m _ _ _)))

    -- an end at stage 1 that did not pass
    pub first_stopped : (e : End) → passed e.ending ≡ false → Ran m (access s1 s2 a) log k (stopped (stop_by One e.address e.level e.ending)) end l → Ran m (access s1 s2 a) log k (arrived s1 s2 a (at_first e)) end l
    unfolding arrived stage_by
    first_stopped e p r = rw (outcome_stopped {A = Translation} One (finished_at s2 a (output_of s1 a 0 (leaf_level s1 0) 0) e) e p) r

-- where an access stands: at an entry of stage 1's walk, or at stage 1's output
pub data Going (m : Request → Option ℕ) (s1 : Stage1) (s2 : Stage2) (a : Access) (g : Geometry) (log₀ log : List ℕ) (walking : Bool) (left t ipa tables word1 k : ℕ) : Type 0 where
  walks : walking ≡ true → s1.on ≡ true → Walking m (place1 s2 a) g One a.address (whole m s1 s2 a) log₀ 0 log k left t ipa (imposed tables) → k + 5 * suc left ≤ 20 →
      Going m s1 s2 a g log₀ log walking left t ipa tables word1 k
  ends : walking ≡ false → Ran m (translate1 s1 (root1_at s1 a.address) s2 a) log₀ 0 (reached (output_of s1 a ipa (leaf_level s1 left) word1)) k log → k ≤ 20 →
      Going m s1 s2 a g log₀ log walking left t ipa tables word1 k

module _ {m : Request → Option ℕ} {s1 : Stage1} {s2 : Stage2} {a : Access} {g : Geometry} {log₀ log : List ℕ} {walking : Bool} {left t ipa tables word1 k : ℕ} where
  at_entry : Going m s1 s2 a g log₀ log walking left t ipa tables word1 k → walking ≡ true →
      (s1.on ≡ true) × Walking m (place1 s2 a) g One a.address (whole m s1 s2 a) log₀ 0 log k left t ipa (imposed tables) × (k + 5 * suc left ≤ 20)
  at_entry (walks w on i few) e = (on, i, few)
  at_entry (ends w r few) e = absurd (true≢false (sym e ∙ w))

  at_output_lem : Going m s1 s2 a g log₀ log walking left t ipa tables word1 k → walking ≡ false →
      Ran m (translate1 s1 (root1_at s1 a.address) s2 a) log₀ 0 (reached (output_of s1 a ipa (leaf_level s1 left) word1)) k log
  at_output_lem (walks w on i few) e = absurd (true≢false (sym w ∙ e))
  at_output_lem (ends w r few) e = r

  pub going_on : Going m s1 s2 a g log₀ log walking left t ipa tables word1 k → walking ≡ true → s1.on ≡ true
  going_on now e = (at_entry now e).0

  pub going_entry : Going m s1 s2 a g log₀ log walking left t ipa tables word1 k → walking ≡ true → (left ≤ 3) × (t ≡ shift g left) × (t < 48) × (k + 5 * suc left ≤ 20)
  going_entry now e = let i = at_entry now e in (i.1.few, i.1.shifted, i.1.low, i.2)

  pub going_few : Going m s1 s2 a g log₀ log walking left t ipa tables word1 k → k ≤ 20
  going_few (walks w on i few) = omega arith
  going_few (ends w r few) = few

  pub going_same : Going m s1 s2 a g log₀ log walking left t ipa tables word1 k → length log ≡ length log₀
  going_same (walks w on i few) = i.same
  going_same (ends w r few) = ran_length r

-- ---- with what stage 2 gave

module _ {m : Request → Option ℕ} {s1 : Stage1} {s2 : Stage2} {a : Access} {g : Geometry} {log₀ log : List ℕ} {walking : Bool} {left t ipa tables word1 k : ℕ}
    (now : Going m s1 s2 a g log₀ log walking left t ipa tables word1 k) {r : End} {log₁ : List ℕ} (x : Seconded m s2 a walking ipa log k r log₁) where
  abbrev Arrives : By → Type 0
  Arrives b = Ran m (access s1 s2 a) log₀ 0 (arrived s1 s2 a (record { by = b; end = r; ipa = ipa; left1 = left; word1 = word1 })) r.count log₁

  ends_at : walking ≡ false → Arrives Second
  unfolding access arrived stage_by
  ends_at e = ran_then m (finish s2 a) (at_output_lem now e) (x.finished e (output_of s1 a ipa (leaf_level s1 left) word1) refl)

  -- an access whose walk is over, or that stage 2 stopped
  pub going_ends : (not walking || not (passed r.ending)) ≡ true → Arrives (pick walking OnWalk Second)
  unfolding arrived stage_by pick
  going_ends h = by_walking walking refl
    where
      by_walking : (b : Bool) → walking ≡ b → Arrives (pick b OnWalk Second)
      by_walking true e =
          let i = at_entry now e in
          let p = not-true _ (rw e at h) in
          rw (outcome_stopped {A = Translation} (Two ipa true) (finished_at s2 a (output_of s1 a ipa (leaf_level s1 left) word1) r) r p)
          (stopped_walk m s1 s2 a i.0 (walking_stopped i.1 (rw (outcome_stopped (Two ipa true) r.address r p) at (x.placed e))))
      by_walking false e = ends_at e

  -- or that goes on
  pub going_placed : (not walking || not (passed r.ending)) ≡ false → r.count ≤ k + 4 → Placed m s2 a walking ipa log k r.address r.count log₁
  going_placed h few =
      let both = both_true walking (passed r.ending) h in
      record { walks = both.0; run = rw (outcome_passed (Two ipa true) r.address r both.1) at (x.placed both.0); few = few }

-- ---- at an entry that is placed

module _ {m : Request → Option ℕ} {s1 : Stage1} {s2 : Stage2} {a : Access} {g : Geometry} {log₀ log : List ℕ} {walking : Bool} {left t ipa tables word1 k : ℕ}
    (now : Going m s1 s2 a g log₀ log walking left t ipa tables word1 k) {place k' : ℕ} {log₁ : List ℕ} (x : Placed m s2 a walking ipa log k place k' log₁) where
  abbrev At : Option ℕ → Type 0
  At f = m (req m (place1 s2 a) g One a.address place) ≡ f

  pub going_absent : (e : End) → e.ending ≡ E.Absent → e.address ≡ place → e.level ≡ 3 - left → At None → Ran m (access s1 s2 a) log₀ 0 (arrived s1 s2 a (at_first e)) k' log₁
  unfolding stop_by
  going_absent e q u v f =
      let i = at_entry now x.walks in
      first_stopped m s1 s2 a e (rw q) (rw (q, u, v) (stopped_walk m s1 s2 a i.0 (walking_absent i.1 x.run f)))

  module _ {y : ℕ} (f : At (Some y)) where
    abbrev Log : List ℕ
    Log = set log₁ k' place

    pub going_down : leads_down (turn_of (decode g left y)) ≡ true → 0 < left →
        Going m s1 s2 a g log₀ Log walking (left - 1) (t - g.stride) (upper y g.grainsize + 8 * field a.address (t - g.stride) g.stride) (bit_or tables y) word1 (k' + 1)
    going_down d more =
        let i = at_entry now x.walks in
        walks x.walks i.0 (rw (imposed_or tables y) (walking_down i.1 x.run f d more)) (omega (arith, i.2, x.few))

    module _ (not-down : leads_down (turn_of (decode g left y)) ≡ false) (e : Ending) (is : e ≡ pick (is_leaf (turn_of (decode g left y))) (ending1 s1 a tables y) (over (turn_of (decode g left y)))) where
      -- the end at a leaf
      abbrev reading : ℕ → End
      reading z = record { ending = e; address = output_address z t a.address; word = z; level = 3 - left; count = 0 }

      leaf_ended : is_leaf (turn_of (decode g left y)) ≡ true → Ran m (translate1 s1 (root1_at s1 a.address) s2 a) log₀ 0 (ended One (stage1_attributes s1.mair (uncached1 s1 a)) (reading y)) (k' + 1) Log
      unfolding pick
      leaf_ended l =
          let i = at_entry now x.walks in
          checked_leaf m s1 s2 a (leaf_at g left y (imposed tables)) (reading y) i.0 (walking_leaf i.1 x.run f l) (rw i.1.shifted) refl refl (rw l at is)

      -- a leaf that passes
      pub going_leaf : passed e ≡ true → Going m s1 s2 a g log₀ Log false left t (output_address y t a.address) tables y (k' + 1)
      unfolding pick
      going_leaf q = by_leaf (is_leaf (turn_of (decode g left y))) refl
        where
          by_leaf : (b : Bool) → is_leaf (turn_of (decode g left y)) ≡ b → Going m s1 s2 a g log₀ Log false left t (output_address y t a.address) tables y (k' + 1)
          by_leaf true l =
              let i = at_entry now x.walks in
              ends refl
              (rw (pick_true s1.on (settled_part (stage1_attributes s1.mair (uncached1 s1 a) y)) _ i.0, pick_true s1.on (3 - left) 0 i.0)
              (rw (outcome_passed One _ (reading y) q) at (leaf_ended l)))
              (omega (arith, i.2, x.few))
          by_leaf false l = absurd (true≢false (sym q ∙ rw (is, l) (over_stops (turn_of (decode g left y)) not-down l)))

      -- a leaf that does not, or no leaf
      pub going_over : passed e ≡ false → Ran m (access s1 s2 a) log₀ 0 (arrived s1 s2 a (at_first (stopped_by e (3 - left) (k' + 1)))) (k' + 1) Log
      unfolding access pick
      going_over q = first_stopped m s1 s2 a (stopped_by e (3 - left) (k' + 1)) q (by_leaf (is_leaf (turn_of (decode g left y))) refl)
        where
          by_leaf : (b : Bool) → is_leaf (turn_of (decode g left y)) ≡ b → Ran m (access s1 s2 a) log₀ 0 (stopped (stop_by One 0 (3 - left) e)) (k' + 1) Log
          by_leaf true l =
              let anywhere : stop_by One 0 (3 - left) e ≡ stop_by One (output_address y t a.address) (3 - left) e = rw (is, l) (verdict_anywhere One 0 (output_address y t a.address) (3 - left) _ _ _) in
              rw anywhere (ran_stopped m (finish s2 a) (rw (outcome_stopped One _ (reading y) q) at (leaf_ended l)))
          by_leaf false l =
              let i = at_entry now x.walks in
              rw (is, l) (stopped_walk m s1 s2 a i.0 (walking_over i.1 x.run f 0 not-down l))
