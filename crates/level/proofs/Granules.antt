-- Each granule is granular, and so is what any code says.
-- Assumes nothing.
use Prim.Native.Nat.{ℕ}
use native.Mathlib.Omega.{arith}
use lib.Dec.{eqb}
use Rattle.bits.proofs.Tests.{by_pick}
use Rattle.level.specs.Granule.{four_k, sixteen_k, sixty_four_k, tg0_granule, tg1_granule, Granular}

four : Granular four_k
four = record { least = omega arith; most = omega arith; first = omega arith; shift = omega arith }

sixteen : Granular sixteen_k
sixteen = record { least = omega arith; most = omega arith; first = omega arith; shift = omega arith }

sixty_four : Granular sixty_four_k
sixty_four = record { least = omega arith; most = omega arith; first = omega arith; shift = omega arith }

pub tg0_granular : (code : ℕ) → Granular (tg0_granule code)
unfolding tg0_granule
tg0_granular code = by_pick Granular (eqb code 1) sixty_four_k _ (λ _. sixty_four) (λ _. by_pick Granular (eqb code 2) sixteen_k four_k (λ _. sixteen) (λ _. four))

pub tg1_granular : (code : ℕ) → Granular (tg1_granule code)
unfolding tg1_granule
tg1_granular code = by_pick Granular (eqb code 1) sixteen_k _ (λ _. sixteen) (λ _. by_pick Granular (eqb code 3) sixty_four_k four_k (λ _. sixty_four) (λ _. four))
