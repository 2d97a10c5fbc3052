-- Fields of SCTLR_EL1 and SCTLR_EL2 that 01 names.
-- Assumes nothing.
use Rattle.std.specs.Prelude.{Bool}
use Rattle.bits.specs.Bits.{bit}
use Rattle.registers.specs.declared.sctlr.Sctlr.{Sctlr}

abbrev pub m : Sctlr → Bool
m r = bit r.0 0

abbrev pub c : Sctlr → Bool
c r = bit r.0 2

abbrev pub i : Sctlr → Bool
i r = bit r.0 12

abbrev pub wxn : Sctlr → Bool
wxn r = bit r.0 19

abbrev pub ee : Sctlr → Bool
ee r = bit r.0 25
