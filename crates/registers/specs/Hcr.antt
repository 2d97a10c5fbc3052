-- Fields of HCR_EL2 that 01 names.
-- Assumes nothing.
use Rattle.std.specs.Prelude.{Bool}
use Rattle.bits.specs.Bits.{bit}
use Rattle.registers.specs.declared.hcr.Hcr.{Hcr}

abbrev pub vm : Hcr → Bool
vm r = bit r.0 0

abbrev pub ptw : Hcr → Bool
ptw r = bit r.0 2

abbrev pub dc : Hcr → Bool
dc r = bit r.0 12

abbrev pub tge : Hcr → Bool
tge r = bit r.0 27

abbrev pub rw : Hcr → Bool
rw r = bit r.0 31

abbrev pub cd : Hcr → Bool
cd r = bit r.0 32

abbrev pub id : Hcr → Bool
id r = bit r.0 33
