-- For the contracts of code: stages with what is wanted of them alone. The access to an address is the same (proofs/Narrowed.antt).
-- Assumes nothing.
use Rattle.std.specs.Prelude.{◌≡◌, Bool, true, false, ℕ, ◌≤◌, ◌<◌}
use Rattle.bits.specs.Bits.{pick}
use Rattle.descriptor.specs.declared.entry.FaultKind.TheVariants.{Translation}
use Rattle.walk.specs.Root.{unusable}
use Rattle.walk.specs.declared.stage2.Stage2.{Stage2}
use Rattle.stages.specs.declared.stage1.VaRange.{VaRange}
use Rattle.stages.specs.declared.stage1.Stage1.{Stage1}
use Rattle.level.specs.Granule.{tg0_granule, tg1_granule, geometry_of, Granular}
use Rattle.level.specs.Level.{input_size, output_size}
use Rattle.registers.specs.Tcr
use Rattle.registers.specs.Vtcr
use Rattle.registers.specs.Hcr
use Rattle.registers.specs.Sctlr
use Rattle.registers.specs.declared.El1.{El1}
use Rattle.registers.specs.declared.El2.{El2}
use Rattle.settings.specs.Settings.{stage1_on, stage2_on}
use Rattle.regime.specs.declared.Half.{Half}
use Rattle.regime.specs.Roots.{range_of, root2}

-- an input size in bits that 01 accepts
pub record Sized (s : ℕ) : Type 0 where
  pub least : 25 ≤ s
  pub most : s ≤ 48

-- with stage 1 off a VA range is left out as if it were disabled
abbrev pub left_out : (on epd : Bool) → Bool
left_out on epd = pick on epd true

-- what registers say of each VA range, and of the one that is picked
abbrev pub lower_half : (on : Bool) → El1 → Half
lower_half on g =
    record { granule = tg0_granule (Tcr.tg0 g.tcr); tnsz = Tcr.t0sz g.tcr; epd = left_out on (Tcr.epd0 g.tcr); ttbr = g.ttbr0 }

abbrev pub upper_half : (on : Bool) → El1 → Half
upper_half on g =
    record { granule = tg1_granule (Tcr.tg1 g.tcr); tnsz = Tcr.t1sz g.tcr; epd = left_out on (Tcr.epd1 g.tcr); ttbr = g.ttbr1 }

abbrev pub half_of : (upper on : Bool) → El1 → Half
half_of upper on g = pick upper (upper_half on g) (lower_half on g)

-- a VA range that is not left out has an accepted size
pub record SoundHalf (h : Half) : Type 0 where
  pub granule : Granular h.granule
  pub field : h.tnsz < 64
  pub size : h.epd ≡ false → Sized (input_size h.tnsz)

-- the range that it is, by its output size
abbrev pub range_by : (output : ℕ) → Half → VaRange
range_by output h = range_of (geometry_of h.granule (input_size h.tnsz) output) h.epd h.ttbr

abbrev pub output1 : El2 → El1 → ℕ
output1 r g = output_size r.pamax (Tcr.ips g.tcr)

-- stage 1 with other VA ranges
abbrev pub ranged1 : (lower upper : VaRange) → El2 → El1 → Stage1
ranged1 lower upper r g =
    record {
      on = stage1_on r g;
      pamax = r.pamax;
      dc = Hcr.dc r.hcr;
      tbi0 = Tcr.tbi0 g.tcr;
      tbi1 = Tcr.tbi1 g.tcr;
      lower = lower;
      upper = upper;
      mair = g.mair;
      c = Sctlr.c g.sctlr;
      i = Sctlr.i g.sctlr;
      wxn = Sctlr.wxn g.sctlr;
    }

-- with none where it is off
abbrev pub narrowed1 : El2 → El1 → Stage1
narrowed1 r g =
    let on = stage1_on r g in
    ranged1 (range_by (output1 r g) (lower_half on g)) (range_by (output1 r g) (upper_half on g)) r g

-- and with one in the place of both
abbrev pub sided1 : (upper : Bool) → El2 → El1 → Stage1
sided1 upper r g =
    let range = range_by (output1 r g) (half_of upper (stage1_on r g) g) in
    ranged1 range range r g

-- stage 2, with no root where it is off
abbrev pub narrowed2 : El2 → Stage2
narrowed2 r =
    record {
      on = stage2_on r;
      inputsize = input_size (Vtcr.t0sz r.vtcr);
      root = pick (stage2_on r) (root2 r) (unusable Translation 0);
      cd = Hcr.cd r.hcr;
      id = Hcr.id r.hcr;
      ptw = Hcr.ptw r.hcr;
    }
