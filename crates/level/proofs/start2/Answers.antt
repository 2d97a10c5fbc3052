-- `start2` meets its contract: SL0 has two bits. Assumes nothing.
use mathlib.Core.Path.{ap, ◌∙◌}
use Prim.Native.Nat.{◌+◌}
use native.Mathlib.Omega.{arith}
use lib.IntN.{pos, ◌-ℤ◌}
use Rattle.level.specs.Level.{start2}
use Rattle.level.proofs.Signed.{less_is}
use Rattle.level.proofs.start2.Goals as goal

pub returns : goal.returns
unfolding start2
returns c = less_is (2 + c.args.k.first) c.sl0.result (omega (arith, c.requires.first)) (omega arith) ∙ ap (λ n. pos (2 + c.args.k.first) -ℤ pos n) c.sl0.ensures
