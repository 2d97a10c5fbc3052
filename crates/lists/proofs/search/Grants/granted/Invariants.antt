-- `granted` looks for a grant around the bytes.
-- Assumes nothing.
use mathlib.Core.Bool.{◌&&◌}
use Prim.Native.Nat.{◌+◌}
use lib.Dec.{leb}
use Rattle.lists.proofs.search.Grants.granted.Given as goal

abbrev pub ghost-any : goal.ghost-any
ghost-any a = λ e. leb e.0 a.passes.0.now && leb a.passes.1.now (e.0 + e.1)
