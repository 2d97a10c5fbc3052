-- Fields of TCR_EL1 that 01 names.
-- Assumes nothing.
use Rattle.std.specs.Prelude.{Bool, ℕ}
use Rattle.bits.specs.Bits.{field, bit}
use Rattle.registers.specs.declared.tcr.Tcr.{Tcr}

abbrev pub t0sz : Tcr → ℕ
t0sz r = field r.0 0 6

abbrev pub epd0 : Tcr → Bool
epd0 r = bit r.0 7

abbrev pub tg0 : Tcr → ℕ
tg0 r = field r.0 14 2

abbrev pub t1sz : Tcr → ℕ
t1sz r = field r.0 16 6

abbrev pub epd1 : Tcr → Bool
epd1 r = bit r.0 23

abbrev pub tg1 : Tcr → ℕ
tg1 r = field r.0 30 2

abbrev pub ips : Tcr → ℕ
ips r = field r.0 32 3

abbrev pub tbi0 : Tcr → Bool
tbi0 r = bit r.0 37

abbrev pub tbi1 : Tcr → Bool
tbi1 r = bit r.0 38
