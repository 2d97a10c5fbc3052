-- `off` meets its contract.
-- Assumes nothing.
use Rattle.std.proofs.Common.{◌≡◌, refl, ap, ◌∙◌, Bool, true, false, not, ◌&&◌, ◌^◌}
use borrow.Author.Tests.{lt-ltb}
use Rattle.bits.specs.Bits.{pick}
use Rattle.bits.proofs.Tests.{pick_true}
use Rattle.walk.specs.declared.end.Ending.{Ending}
use Rattle.stages.specs.Ranges.{bounds_of}
use Rattle.stages.specs.Prepared.{stage1_of}
use Rattle.stages.specs.declared.prepared.Prepared1.{Prepared1}
use Rattle.stages.proofs.Ranges.{counting_of}
use Rattle.stages.proofs.stage1.off.Goals as goal

-- no fetch is unaligned
device_tested : (dc fetch off : Bool) (e d : Ending) → pick ((not dc && not fetch) && (not fetch && off)) e d ≡ pick dc d (pick (not fetch && off) e d)
unfolding pick
device_tested true fetch off e d = refl
device_tested false true off e d = refl
device_tested false false off e d = refl

-- the ceiling is 2 to PAMax
ceiling : (p : Prepared1) → p.bounds.ceiling ≡ 2 ^ p.pamax
ceiling p = ap (λ b. b.ceiling) p.bounded ∙ pick_true _ _ _ (lt-ltb _ _ p.few)

pub in_pamax-requires : goal.in_pamax-requires
unfolding bounds_of
in_pamax-requires c = counting_of (stage1_of c.args.p) _ c.args.p.bounded

pub returns-then-not-in_pamax : goal.returns-then-not-in_pamax
unfolding pick
returns-then-not-in_pamax c = rw (← c.in_pamax.ensures _ (ceiling c.args.p), c.if-not-in_pamax.true)

pub returns-then-dc : goal.returns-then-dc
unfolding pick
returns-then-dc c = rw (← c.in_pamax.ensures _ (ceiling c.args.p), c.if-not-in_pamax.false, device_tested, c.if-dc.true)

pub returns-then-unaligned : goal.returns-then-unaligned
unfolding pick
returns-then-unaligned c =
    rw (← c.in_pamax.ensures _ (ceiling c.args.p), c.if-not-in_pamax.false, device_tested, c.if-dc.false, ← c.unaligned.ensures, c.if-unaligned.true)

pub returns-else-unaligned : goal.returns-else-unaligned
unfolding pick
returns-else-unaligned c =
    rw (← c.in_pamax.ensures _ (ceiling c.args.p), c.if-not-in_pamax.false, device_tested, c.if-dc.false, ← c.unaligned.ensures, c.if-unaligned.false)
