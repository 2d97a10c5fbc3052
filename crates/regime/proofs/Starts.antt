-- Stage 2's start: the code's one test is each of the definition's four, and what it goes by is the definition's.
-- Assumes nothing.
use mathlib.Core.Path.{◌≡◌, refl, ◌∙◌}
use mathlib.Core.Bool.{Bool, true, false, ◌&&◌, ◌||◌, true≢false}
use Prim.Native.Nat.{ℕ, ◌+◌}
use native.Mathlib.Nat.{mod-lt}
use native.Mathlib.Omega.{arith}
use lib.Dec.{leb}
use lib.IntN.{ℤ, pos}
use lib.Signed.{lt_z}
use Rattle.bits.specs.Bits.{pick}
use Rattle.descriptor.specs.declared.entry.FaultKind.TheVariants.{Translation}
use Rattle.walk.specs.Root.{Root, unusable}
use Rattle.level.specs.Granule.{stride_of, geometry_of, Granular}
use Rattle.level.specs.Level.{input_size, start2, size_check, levels_below}
use Rattle.level.specs.declared.granule.Granule.{Granule}
use Rattle.level.proofs.Signed.{held, start2_held, check_held}
use Rattle.registers.specs.Vtcr
use Rattle.registers.specs.declared.El2.{El2}
use Rattle.regime.specs.Roots.{granule2, start_level2, geometry2, root_of, root2}

pick_any : (a b c d : Bool) (p q : Root) → pick (a || b || c || d) p q ≡ pick a p (pick b p (pick c p (pick d p q)))
unfolding pick
pick_any true b c d p q = refl
pick_any false true c d p q = refl
pick_any false false true d p q = refl
pick_any false false false true p q = refl
pick_any false false false false p q = refl

-- where none of four tests holds, neither the first nor the last does
none_of : (a b c d : Bool) → (a || b || c || d) ≡ false → (a ≡ false) × (d ≡ false)
none_of true b c d e = absurd (true≢false e)
none_of false true c d e = absurd (true≢false e)
none_of false false true d e = absurd (true≢false e)
none_of false false false true e = absurd (true≢false e)
none_of false false false false e = (refl, refl)

-- the definition's size check
abbrev bits_of : El2 → ℤ
bits_of r = size_check (geometry2 r) (start_level2 r)

-- its four tests
abbrev before : El2 → Bool
before r = lt_z (start_level2 r) (pos (granule2 r).first)

abbrev unreached : El2 → Bool
unreached r = lt_z (start_level2 r) (pos ((granule2 r).first + 1)) && leb r.pamax (granule2 r).over

abbrev none : El2 → Bool
none r = lt_z (bits_of r) (pos 1)

abbrev many : El2 → Bool
many r = lt_z (pos ((geometry2 r).stride + 4)) (bits_of r)

abbrev pub any : El2 → Bool
any r = before r || unreached r || none r || many r

pub root2_is : (r : El2) → pick (any r) (unusable Translation 0) (root_of (geometry2 r) (levels_below (start_level2 r)) r.vttbr) ≡ root2 r
unfolding root2
root2_is r = pick_any _ _ _ _ _ _

pub within : (r : El2) → any r ≡ false → (before r ≡ false) × (many r ≡ false)
within r e = none_of (before r) (unreached r) (none r) (many r) e

-- ---- what the code works out, by the granule k that it found, the start level s and the size check b

module _ (r : El2) (k : Granule) (s : ℤ) (g : (k ≡ granule2 r) × Granular k) (level : s ≡ start2 k (Vtcr.sl0 r.vtcr)) where
  pub tested : (b : ℤ) (t : Bool) → ((output : ℕ) → b ≡ size_check (geometry_of k (input_size (Vtcr.t0sz r.vtcr)) output) (start2 k (Vtcr.sl0 r.vtcr))) →
      t ≡ (lt_z (held s) (pos k.first) || (lt_z (held s) (pos (k.first + 1)) && leb r.pamax k.over) || lt_z (held b) (pos 1) || lt_z (pos (stride_of k + 4)) (held b)) →
      t ≡ any r
  tested b t check e =
      let exact = check (geometry2 r).outputsize in
      e
      ∙ rw (
        start2_held k _ s g.1 (mod-lt _ (omega arith)) level,
        check_held k _ _ _ b g.1 (omega arith) (mod-lt _ (omega arith)) exact,
        level,
        exact,
        g.0,
      )

  pub below_is : (n : ℕ) → n ≡ levels_below (held s) → n ≡ levels_below (start_level2 r)
  below_is n e = e ∙ rw (start2_held k _ s g.1 (mod-lt _ (omega arith)) level, level, g.0)
