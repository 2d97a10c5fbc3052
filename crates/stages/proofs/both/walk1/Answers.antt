-- `walk1` meets its contract: whatever finishes the access from where it stands finishes the whole.
-- Assumes nothing.
use Rattle.std.proofs.Common.{refl, sym, ◌∙◌, ◌*◌, ◌≤◌, ◌<◌, arith}
use native.Mathlib.Nat.{le_refl, mul-le-mul}
use Rattle.bits.specs.Bits.{pick}
use Rattle.reads.specs.Program.{stage_1}
use Rattle.descriptor.proofs.Turns.{down_more}
use Rattle.reads.proofs.Logs.{log_kept, log_set}
use Rattle.walk.proofs.Turns.{is_down}
use Rattle.stages.proofs.Calls.{going_few, going_ends, going_placed, going_on, going_entry, going_absent, going_down, going_leaf, going_over}
use Rattle.stages.proofs.Openings.{opens_fit, opens_within, opens_going}
use Rattle.stages.proofs.both.walk1.Goals as goal

pub overflow_sub-left : goal.overflow_sub-left
overflow_sub-left g c = (opens_within _ _ _ c.requires.1).some

pub loop-walking-init : goal.loop-walking-init
loop-walking-init g c = opens_going _ _ _ _ _ _ c.requires.1 c.requires.2

pub returns-then-walking-passed : goal.returns-then-walking-passed
returns-then-walking-passed g c =
    rw c.by_stage2.ensures
    ((
      going_ends c.loop-walking.invariant c.second-r.ensures.0 (rw c.passed.ensures at c.if-walking-passed.true),
      omega (arith, c.second-r.ensures.1, going_few c.loop-walking.invariant),
    ))

pub returns-in-None : goal.returns-in-None
returns-in-None g c =
    let placed = going_placed c.loop-walking.invariant c.second-r.ensures.0 (rw c.passed.ensures at c.if-walking-passed.false) c.second-r.ensures.1 in
    let absent = c.in-None.is in
    rw (c.first.ensures, log_kept _ _ _ _ _ c.read_logged.ensures.noted absent)
    ((
      going_absent c.loop-walking.invariant placed _ refl refl refl (sym (c.read_logged.ensures.found stage_1) ∙ absent),
      omega (arith, placed.few, (going_entry c.loop-walking.invariant placed.walks).3),
    ))

pub invariant_of-decoder : goal.invariant_of-decoder
invariant_of-decoder g c =
    let placed = going_placed c.loop-walking.invariant c.second-r.ensures.0 (rw c.passed.ensures at c.if-walking-passed.false) c.second-r.ensures.1 in
    let fit = (opens_fit _ _ _ c.requires.1 c.requires.2 (going_on c.loop-walking.invariant placed.walks)).1 in
    record { small = (fit.small.grainsize, fit.small.stride); made = fit.masks }

pub turn-turn-requires : goal.turn-turn-requires
turn-turn-requires g c =
    let placed = going_placed c.loop-walking.invariant c.second-r.ensures.0 (rw c.passed.ensures at c.if-walking-passed.false) c.second-r.ensures.1 in
    let fit = (opens_fit _ _ _ c.requires.1 c.requires.2 (going_on c.loop-walking.invariant placed.walks)).1 in
    fit.small.block

-- ---- an entry that leads down

pub overflow_sub-left-then-leads_down : goal.overflow_sub-left-then-leads_down
overflow_sub-left-then-leads_down g c = down_more _ _ _ (sym c.turn-turn.ensures ∙ is_down _ (sym c.leads_down.ensures ∙ c.if-leads_down.true))

pub overflow_sub-shift : goal.overflow_sub-shift
overflow_sub-shift g c =
    let placed = going_placed c.loop-walking.invariant c.second-r.ensures.0 (rw c.passed.ensures at c.if-walking-passed.false) c.second-r.ensures.1 in
    let more : (0 < c.loop-walking.left) = down_more _ _ _ (sym c.turn-turn.ensures ∙ is_down _ (sym c.leads_down.ensures ∙ c.if-leads_down.true)) in
    let stride = c.args.o.start.geometry.stride in
    let once : stride * 1 ≤ stride * c.loop-walking.left = mul-le-mul (le_refl _) more in
    omega (arith, (going_entry c.loop-walking.invariant placed.walks).1)

pub next_entry-ipa-requires : goal.next_entry-ipa-requires
next_entry-ipa-requires g c =
    let placed = going_placed c.loop-walking.invariant c.second-r.ensures.0 (rw c.passed.ensures at c.if-walking-passed.false) c.second-r.ensures.1 in
    omega (arith, (going_entry c.loop-walking.invariant placed.walks).2)

pub loop-walking-smaller-then-leads_down : goal.loop-walking-smaller-then-leads_down
unfolding pick
loop-walking-smaller-then-leads_down g c =
    let placed = going_placed c.loop-walking.invariant c.second-r.ensures.0 (rw c.passed.ensures at c.if-walking-passed.false) c.second-r.ensures.1 in
    let more : (0 < c.loop-walking.left) = down_more _ _ _ (sym c.turn-turn.ensures ∙ is_down _ (sym c.leads_down.ensures ∙ c.if-leads_down.true)) in
    rw placed.walks (omega (arith, more))

pub loop-walking-preserved-then-leads_down : goal.loop-walking-preserved-then-leads_down
loop-walking-preserved-then-leads_down g c =
    let placed = going_placed c.loop-walking.invariant c.second-r.ensures.0 (rw c.passed.ensures at c.if-walking-passed.false) c.second-r.ensures.1 in
    let more : (0 < c.loop-walking.left) = down_more _ _ _ (sym c.turn-turn.ensures ∙ is_down _ (sym c.leads_down.ensures ∙ c.if-leads_down.true)) in
    rw (c.next_entry-ipa.ensures, log_set _ _ _ _ _ c.read_logged.ensures.noted c.in-Some.is)
    (going_down c.loop-walking.invariant placed (sym (c.read_logged.ensures.found stage_1) ∙ c.in-Some.is)
    (rw c.turn-turn.ensures at (sym c.leads_down.ensures ∙ c.if-leads_down.true)) more)

-- ---- an entry that does not

pub returns-then-not-passed : goal.returns-then-not-passed
returns-then-not-passed g c =
    let placed = going_placed c.loop-walking.invariant c.second-r.ensures.0 (rw c.passed.ensures at c.if-walking-passed.false) c.second-r.ensures.1 in
    rw (c.first-then-not-passed.ensures, c.stopped.ensures, log_set _ _ _ _ _ c.read_logged.ensures.noted c.in-Some.is)
    ((
      going_over c.loop-walking.invariant placed (sym (c.read_logged.ensures.found stage_1) ∙ c.in-Some.is)
          (rw c.turn-turn.ensures at (sym c.leads_down.ensures ∙ c.if-leads_down.false)) _ (rw c.turn-turn.ensures at c.at_entry-ended.ensures)
          (sym c.passed-else-leads_down.ensures ∙ c.if-not-passed.true),
      omega (arith, placed.few, (going_entry c.loop-walking.invariant placed.walks).3),
    ))

pub loop-walking-smaller : goal.loop-walking-smaller
unfolding pick
loop-walking-smaller g c =
    let placed = going_placed c.loop-walking.invariant c.second-r.ensures.0 (rw c.passed.ensures at c.if-walking-passed.false) c.second-r.ensures.1 in
    rw placed.walks (omega arith)

pub loop-walking-preserved : goal.loop-walking-preserved
loop-walking-preserved g c =
    let placed = going_placed c.loop-walking.invariant c.second-r.ensures.0 (rw c.passed.ensures at c.if-walking-passed.false) c.second-r.ensures.1 in
    rw (c.output_address-ipa.ensures, log_set _ _ _ _ _ c.read_logged.ensures.noted c.in-Some.is)
    (going_leaf c.loop-walking.invariant placed (sym (c.read_logged.ensures.found stage_1) ∙ c.in-Some.is)
    (rw c.turn-turn.ensures at (sym c.leads_down.ensures ∙ c.if-leads_down.false)) _ (rw c.turn-turn.ensures at c.at_entry-ended.ensures)
    (sym c.passed-else-leads_down.ensures ∙ c.if-not-passed.false))
