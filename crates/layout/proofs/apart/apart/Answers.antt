-- `apart` meets its contract: banks in order share no byte, and else one that shares none with those after it leaves the verdict to them.
-- Assumes nothing.
use mathlib.Core.Path.{sym}
use Prim.Native.Nat.{◌+◌}
use native.Mathlib.Omega.{arith}
use lib.ListN.{length}
use Rattle.std.proofs.lemmas.List.{drop_all}
use Rattle.std.proofs.lemmas.Slice.{between_to_end}
use Rattle.bits.proofs.Tests.{told}
use Rattle.layout.specs.Elf as Elf
use Rattle.layout.proofs.InOrder.{in_order_apart}
use Rattle.layout.proofs.apart.apart.Invariants.{step}
use Rattle.layout.proofs.apart.apart.Goals as goal

pub returns-then-in_order : goal.returns-then-in_order
returns-then-in_order c = sym (in_order_apart _ c.args.banks.now 0 (told c.in_order.ensures c.if-in_order.true))

pub returns-then-not-clear : goal.returns-then-not-clear
returns-then-not-clear c =
    step _ _ _ _ c.loop-i-test.true c.loop-i.invariant c.part-p.ensures
    (rw (between_to_end c.args.banks.now (c.loop-i.i + 1) (length c.args.banks.now) (omega arith)) at c.clear.ensures) c.if-not-clear.true

pub loop-i-preserved : goal.loop-i-preserved
loop-i-preserved c =
    step _ _ _ _ c.loop-i-test.true c.loop-i.invariant c.part-p.ensures
    (rw (between_to_end c.args.banks.now (c.loop-i.i + 1) (length c.args.banks.now) (omega arith)) at c.clear.ensures) c.if-not-clear.false

pub returns : goal.returns
unfolding Elf.apart
returns c = rw (drop_all _ _ c.loop-i-test.false) at c.loop-i.invariant
