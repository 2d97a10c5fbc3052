-- `touches` looks for a grant that shares a byte.
-- Assumes nothing.
use mathlib.Core.Bool.{◌&&◌}
use Prim.Native.Nat.{◌+◌}
use lib.Dec.{ltb}
use Rattle.lists.proofs.search.Grants.touches.Given as goal

abbrev pub ghost-any : goal.ghost-any
ghost-any a = λ e. ltb a.passes.0.now (e.0 + e.1) && ltb e.0 a.passes.1.now
