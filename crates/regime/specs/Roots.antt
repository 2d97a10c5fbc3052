-- From registers to the two stages: roots, and what else each stage goes by (01, Walk).
-- Assumes nothing.
use Rattle.std.specs.Prelude.{Bool, ◌&&◌, ℕ, suc, ◌+◌, ◌-◌, ◌^◌, leb, ℤ, pos, Ok}
use Rattle.std.specs.Int.Signed.{lt_z}
use Rattle.bits.specs.Bits.{pick, upper, beyond}
use Rattle.descriptor.specs.Entry.{shift}
use Rattle.descriptor.specs.declared.entry.Geometry.{Geometry}
use Rattle.descriptor.specs.declared.entry.FaultKind.TheVariants.{Translation, AddressSize}
use Rattle.walk.specs.declared.table.Table.{Table}
use Rattle.walk.specs.Root.{Root, unusable}
use Rattle.stages.specs.declared.stage1.VaRange.{VaRange}
use Rattle.stages.specs.declared.stage1.Stage1.{Stage1}
use Rattle.walk.specs.declared.stage2.Stage2.{Stage2}
use Rattle.level.specs.declared.granule.Granule.{Granule}
use Rattle.level.specs.Granule.{tg0_granule, tg1_granule, geometry_of}
use Rattle.level.specs.Level.{input_size, output_size, start1, start2, size_check, levels_below}
use Rattle.registers.specs.Tcr
use Rattle.registers.specs.Vtcr
use Rattle.registers.specs.Hcr
use Rattle.registers.specs.Sctlr
use Rattle.settings.specs.Settings.{stage1_on, stage2_on}
use Rattle.registers.specs.declared.El1.{El1}
use Rattle.registers.specs.declared.El2.{El2}

-- ---- granules and geometries

-- of stage 2
abbrev pub granule2 : El2 → Granule
granule2 r = tg0_granule (Vtcr.tg0 r.vtcr)

abbrev pub geometry2 : El2 → Geometry
geometry2 r = geometry_of (granule2 r) (input_size (Vtcr.t0sz r.vtcr)) (output_size r.pamax (Vtcr.ps r.vtcr))

-- its start level, signed
abbrev pub start_level2 : El2 → ℤ
start_level2 r = start2 (granule2 r) (Vtcr.sl0 r.vtcr)

-- of stage 1's VA ranges, which may differ in their granules too (02, §3)
abbrev pub geometry1 : El2 → El1 → Granule → (tnsz : ℕ) → Geometry
geometry1 r g k tnsz = geometry_of k (input_size tnsz) (output_size r.pamax (Tcr.ips g.tcr))

abbrev pub lower_geometry : El2 → El1 → Geometry
lower_geometry r g = geometry1 r g (tg0_granule (Tcr.tg0 g.tcr)) (Tcr.t0sz g.tcr)

abbrev pub upper_geometry : El2 → El1 → Geometry
upper_geometry r g = geometry1 r g (tg1_granule (Tcr.tg1 g.tcr)) (Tcr.t1sz g.tcr)

-- the bytes of a table below stage 2's root: one granule, and 4,096 with stage 2 off (02, §3)
abbrev pub table_size : El2 → ℕ
table_size r = pick (stage2_on r) (2 ^ (granule2 r).log) 4096

-- ---- roots

-- the root table at a base register, with n levels below it.
-- 3 + the index bits is b (01, Walk, base): a base is aligned to its table's size, however many entries it has.
abbrev pub table_of : Geometry → (n register : ℕ) → Table
table_of g n register =
    record { geometry = g; levels = suc n; bits = g.inputsize - shift g n; base = upper register (3 + (g.inputsize - shift g n)) }

-- no bit of a base register may lie beyond the output size (01, Walk, output size)
unfoldable pub root_of : Geometry → (n register : ℕ) → Root
root_of g n register = pick (beyond register g.outputsize) (unusable AddressSize 0) (Ok (table_of g n register))

-- a VA range of stage 1, by its geometry, EPD and TTBR (01, Walk, input size)
abbrev pub range_of : Geometry → (epd : Bool) (ttbr : ℕ) → VaRange
range_of g epd ttbr = record { inputsize = g.inputsize; root = pick epd (unusable Translation 0) (root_of g (levels_below (start1 g)) ttbr) }

-- stage 2 (01, Walk, start level; 02, §3) starts at no level before its granule's first, there only where PAMax is over a limit, and with 1
-- to the stride and 4 index bits
unfoldable pub root2 : El2 → Root
root2 r =
    let k = granule2 r in
    let g = geometry2 r in
    let start = start_level2 r in
    pick (lt_z start (pos k.first)) (unusable Translation 0)
    (pick (lt_z start (pos (k.first + 1)) && leb r.pamax k.over) (unusable Translation 0)
    (pick (lt_z (size_check g start) (pos 1)) (unusable Translation 0)
    (pick (lt_z (pos (g.stride + 4)) (size_check g start)) (unusable Translation 0)
    (root_of g (levels_below start) r.vttbr))))

-- ---- the stages

unfoldable pub stage1 : El2 → El1 → Stage1
stage1 r g =
    record {
      on = stage1_on r g;
      pamax = r.pamax;
      dc = Hcr.dc r.hcr;
      tbi0 = Tcr.tbi0 g.tcr;
      tbi1 = Tcr.tbi1 g.tcr;
      lower = range_of (lower_geometry r g) (Tcr.epd0 g.tcr) g.ttbr0;
      upper = range_of (upper_geometry r g) (Tcr.epd1 g.tcr) g.ttbr1;
      mair = g.mair;
      c = Sctlr.c g.sctlr;
      i = Sctlr.i g.sctlr;
      wxn = Sctlr.wxn g.sctlr;
    }

unfoldable pub stage2 : El2 → Stage2
stage2 r =
    record {
      on = stage2_on r;
      inputsize = input_size (Vtcr.t0sz r.vtcr);
      root = root2 r;
      cd = Hcr.cd r.hcr;
      id = Hcr.id r.hcr;
      ptw = Hcr.ptw r.hcr;
    }
