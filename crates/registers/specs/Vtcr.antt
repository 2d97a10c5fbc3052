-- Fields of VTCR_EL2 that 01 names.
-- Assumes nothing.
use Rattle.std.specs.Prelude.{ℕ}
use Rattle.bits.specs.Bits.{field}
use Rattle.registers.specs.declared.vtcr.Vtcr.{Vtcr}

abbrev pub t0sz : Vtcr → ℕ
t0sz r = field r.0 0 6

abbrev pub sl0 : Vtcr → ℕ
sl0 r = field r.0 6 2

abbrev pub tg0 : Vtcr → ℕ
tg0 r = field r.0 14 2

abbrev pub ps : Vtcr → ℕ
ps r = field r.0 16 3
