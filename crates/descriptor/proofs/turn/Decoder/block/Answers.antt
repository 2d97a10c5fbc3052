-- `Decoder::block` meets its contract.
-- Assumes nothing.
use Prim.Native.Nat.{◌<◌, ◌≤◌}
use native.Mathlib.Omega.{arith}
use borrow.Author.Tests.{eq-eqb, ne_eqb, lt-leb, le-leb}
use Rattle.bits.specs.Bits.{pick}
use Rattle.descriptor.specs.Entry.{descriptor_type, decode_as}
use Rattle.descriptor.specs.Turn.{turn_of}
use Rattle.descriptor.proofs.turn.Decoder.block.Goals as goal
use Rattle.descriptor.proofs.turn.Decoder.block.Goals.{then-n-eq0, else-n-eq0}

pub returns-then-self-n : goal.returns-then-self-n
unfolding pick descriptor_type decode_as turn_of
returns-then-self-n c =
    elim c.if-n-eq0.branch [
      | then-n-eq0 w ↦ rw (c.requires.0, c.requires.1, eq-eqb _ _ w.if-n-eq0.true)
      | else-n-eq0 w ↦ grind (arith, eq-eqb, ne_eqb, lt-leb)
    ]

pub returns-then-contiguous : goal.returns-then-contiguous
unfolding pick descriptor_type decode_as turn_of
returns-then-contiguous c =
    let some : 0 < c.args.n = grind arith in
    let few : c.args.n ≤ c.args.self.now.geometry.block = grind arith in
    rw (c.requires.0, c.requires.1, ne_eqb c.args.n 0 (λ e. omega arith), le-leb _ _ few, ← c.contiguous.ensures, c.if-contiguous.true)

pub returns-else-contiguous : goal.returns-else-contiguous
unfolding pick descriptor_type decode_as turn_of
returns-else-contiguous c =
    let some : 0 < c.args.n = grind arith in
    let few : c.args.n ≤ c.args.self.now.geometry.block = grind arith in
    rw (c.requires.0, c.requires.1, ne_eqb c.args.n 0 (λ e. omega arith), le-leb _ _ few) c.leaf.ensures
