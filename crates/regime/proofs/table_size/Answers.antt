-- `table_size` meets its contract. Assumes nothing.
use mathlib.Core.Path.{◌≡◌, refl, sym, ◌∙◌}
use Prim.Native.Nat.{◌*◌, ◌%◌, ◌^◌, ◌<◌}
use native.Mathlib.Omega.{arith}
use lib.Pow.{pow_pos}
use Rattle.bits.proofs.Tests.{then, else}
use Rattle.bits.proofs.Shifts.{one_shl}
use Rattle.regime.proofs.table_size.Goals as goal

pub returns-then-stage2_on : goal.returns-then-stage2_on
returns-then-stage2_on c =
    let g = c.granule2-k in
    let low : g.result.log < 64 = omega (arith, g.ensures.1.most) in
    let is : (1 * 2 ^ g.result.log) % 2 ^ 64 ≡ 2 ^ g.result.log = one_shl _ low in
    (then _ _ _ _ (sym c.stage2_on.ensures ∙ c.if-stage2_on.true) (is ∙ rw g.ensures.0), rw is (pow_pos g.result.log))

pub returns-else-stage2_on : goal.returns-else-stage2_on
returns-else-stage2_on c = (else _ _ _ _ (sym c.stage2_on.ensures ∙ c.if-stage2_on.false) (refl), omega arith)
