-- `walk2` meets its contract: whatever finishes the walk from an entry finishes the whole.
-- Assumes nothing.
use mathlib.Core.Path.{◌≡◌, refl, sym, ◌∙◌}
use mathlib.Core.Bool.{Bool, not, ◌&&◌}
use mathlib.Core.List.{List}
use Prim.Native.Nat.{ℕ, ◌+◌, ◌-◌, ◌*◌, ◌≤◌, ◌<◌}
use native.Mathlib.Nat.{le_refl, mul-le-mul}
use native.Mathlib.Omega.{arith}
use Rattle.reads.specs.Program.{Request, stage_2, done}
use Rattle.reads.specs.Ran.{Ran}
use Rattle.std.specs.Prelude.{Option}
use Rattle.access.specs.declared.Access.{Access}
use Rattle.reads.proofs.Ran.{ran_done}
use Rattle.descriptor.specs.Entry.{decode, output_address}
use Rattle.descriptor.specs.Turn.{turn_of}
use Rattle.descriptor.proofs.Turns.{down_more}
use Rattle.reads.proofs.Logs.{log_kept, log_set}
use Rattle.bits.specs.Bits.{pick}
use Rattle.walk.specs.declared.stop.Stage.TheVariants.{Two}
use Rattle.walk.specs.Walk.{entry_address}
use Rattle.attributes.specs.Attributes.{class_of, stage2_attributes}
use Rattle.walk.specs.Checks.{misaligned, give}
use Rattle.walk.specs.Stage2.{uncached2, denied2, check2}
use Rattle.walk.specs.Ends.{stop_by, outcome, ended, verdict}
use Rattle.walk.specs.Calls.{table_of}
use Rattle.walk.specs.Prepared.{stage2_of}
use Rattle.walk.specs.declared.table.Leaf.{Leaf}
use Rattle.walk.specs.declared.end.End.{End}
use Rattle.walk.specs.declared.stage2.Stage2.{Stage2}
use Rattle.walk.proofs.Ends.{ran_over, ran_give, verdict_checked}
use Rattle.walk.proofs.Turns.{from_stopped, from_leaf, is_down, walking_absent, walking_leaf, walking_over, walking_down}
use Rattle.walk.proofs.stage2.walk2.Goals as goal

-- the checks of a leaf
leaf_checked : (m : Request → Option ℕ) (s : Stage2) (a : Access) (w : Bool) (ipa : ℕ) (l : Leaf) (e : End) (log : List ℕ) (k : ℕ) →
    e.address ≡ output_address l.word l.shift ipa → e.word ≡ l.word → e.level ≡ l.level →
    e.ending ≡ verdict (λ d. not w && misaligned a d) (λ d. denied2 s a w d l.word) (class_of (stage2_attributes (uncached2 s a w) l.word)) →
    Ran m (give (check2 s a w ipa l)) log k (ended (Two ipa w) (stage2_attributes (uncached2 s a w)) e) k log
unfolding check2
leaf_checked m s a w ipa l e log k address word level ending =
    rw (← verdict_checked (Two ipa w) ipa l (λ d. not w && misaligned a d) (λ d. denied2 s a w d l.word) (stage2_attributes (uncached2 s a w)) e address word level ending)
    (ran_give m _ log k)

pub returns-in-None : goal.returns-in-None
unfolding pick outcome stop_by
returns-in-None g c =
    let first : (let z = c.args in
    c.first_entry-at.result ≡ entry_address z.p.start.geometry (z.p.start.levels - 1) z.p.start.bits z.p.start.base z.ipa) = rw c.requires.0.shift at c.first_entry-at.ensures in
    let p = c.requires in
    rw (log_kept _ _ _ _ _ c.read_logged.ensures.noted c.in-None.is)
    ((
      from_stopped _ done _ _ _ (table_of c.args.p.start) refl p.0.small.some _ first
          (walking_absent c.loop-x.invariant.0 (ran_done _ _ _ _) (sym (c.read_logged.ensures.found stage_2) ∙ c.in-None.is)),
      omega (arith, c.loop-x.invariant.1),
    ))

pub overflow_sub-left-then-leads_down : goal.overflow_sub-left-then-leads_down
overflow_sub-left-then-leads_down g c =
    let more : (0 < c.loop-x.left) = down_more _ _ _ (sym c.turn-turn.ensures ∙ is_down _ (sym c.leads_down.ensures ∙ c.if-leads_down.true)) in
    more

pub overflow_sub-shift : goal.overflow_sub-shift
overflow_sub-shift g c =
    let more : (0 < c.loop-x.left) = down_more _ _ _ (sym c.turn-turn.ensures ∙ is_down _ (sym c.leads_down.ensures ∙ c.if-leads_down.true)) in
    let once : c.args.p.start.geometry.stride * 1 ≤ c.args.p.start.geometry.stride * c.loop-x.left = mul-le-mul (le_refl _) more in
    omega (arith, c.loop-x.invariant.0.shifted)

pub loop-x-smaller : goal.loop-x-smaller
loop-x-smaller g c =
    let more : (0 < c.loop-x.left) = down_more _ _ _ (sym c.turn-turn.ensures ∙ is_down _ (sym c.leads_down.ensures ∙ c.if-leads_down.true)) in
    omega (arith, more)

pub loop-x-preserved : goal.loop-x-preserved
loop-x-preserved g c =
    let more : (0 < c.loop-x.left) = down_more _ _ _ (sym c.turn-turn.ensures ∙ is_down _ (sym c.leads_down.ensures ∙ c.if-leads_down.true)) in
    rw (c.next_entry-at.ensures, log_set _ _ _ _ _ c.read_logged.ensures.noted c.in-Some.is)
    ((
      walking_down c.loop-x.invariant.0 (ran_done _ _ _ _) (sym (c.read_logged.ensures.found stage_2) ∙ c.in-Some.is) (rw c.turn-turn.ensures at (sym c.leads_down.ensures ∙ c.if-leads_down.true)) more,
      omega (arith, more, c.loop-x.invariant.1),
      omega (arith, more, c.loop-x.invariant.1, c.requires.1, c.requires.0.small.some),
    ))

pub returns-then-is_leaf : goal.returns-then-is_leaf
returns-then-is_leaf g c =
    let first : (let z = c.args in
    c.first_entry-at.result ≡ entry_address z.p.start.geometry (z.p.start.levels - 1) z.p.start.bits z.p.start.base z.ipa) = rw c.requires.0.shift at c.first_entry-at.ensures in
    let z = c.args in
    let p = c.requires in
    rw (log_set _ _ _ _ _ c.read_logged.ensures.noted c.in-Some.is)
    ((
      from_leaf _ done _ _ _ (table_of z.p.start) refl p.0.small.some _ first
          (walking_leaf c.loop-x.invariant.0 (ran_done _ _ _ _) (sym (c.read_logged.ensures.found stage_2) ∙ c.in-Some.is) (rw c.turn-turn.ensures at (sym c.is_leaf.ensures ∙ c.if-is_leaf.true)))
          (leaf_checked _ _ _ _ _ _ _ _ _ (rw c.loop-x.invariant.0.shifted at c.output_address-address.ensures) refl refl c.check2.ensures),
      omega (arith, c.loop-x.invariant.1),
    ))

pub returns-else-is_leaf : goal.returns-else-is_leaf
returns-else-is_leaf g c =
    let first : (let z = c.args in
    c.first_entry-at.result ≡ entry_address z.p.start.geometry (z.p.start.levels - 1) z.p.start.bits z.p.start.base z.ipa) = rw c.requires.0.shift at c.first_entry-at.ensures in
    let z = c.args in
    let p = c.requires in
    let down = rw c.turn-turn.ensures at (sym c.leads_down.ensures ∙ c.if-leads_down.false) in
    let leaf = rw c.turn-turn.ensures at (sym c.is_leaf.ensures ∙ c.if-is_leaf.false) in
    rw (c.stopped.ensures, log_set _ _ _ _ _ c.read_logged.ensures.noted c.in-Some.is)
    ((
      ran_over _ (stage2_attributes (uncached2 (stage2_of z.p) z.a.access z.onwalk)) (turn_of (decode _ _ _)) _ (c.loop-x.k + 1) (rw c.turn-turn.ensures at c.over.ensures) down leaf
          (from_stopped _ done _ _ _ (table_of z.p.start) refl p.0.small.some _ first
          (walking_over c.loop-x.invariant.0 (ran_done _ _ _ _) (sym (c.read_logged.ensures.found stage_2) ∙ c.in-Some.is) 0 down leaf)),
      omega (arith, c.loop-x.invariant.1),
    ))
