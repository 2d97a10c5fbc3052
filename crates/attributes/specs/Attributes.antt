-- Memory attributes: decoding, combining, reporting (01, Attributes).
-- Assumes nothing.
use Rattle.std.specs.Prelude.{Bool, true, false, ◌&&◌, ℕ, ◌*◌, ◌/◌, ◌%◌, leb, eqb, Option, Some, None}
use Rattle.bits.specs.Bits.{pick, field}
use Rattle.attributes.specs.declared.DeviceType.{DeviceType}
use Rattle.attributes.specs.declared.DeviceType.TheVariants.{NGnRnE, NGnRE, NGRE, GRE}
use Rattle.attributes.specs.declared.Cacheability.{Cacheability}
use Rattle.attributes.specs.declared.Cacheability.TheVariants.{NonCacheable, WriteThrough, WriteBack}
use Rattle.attributes.specs.declared.MemoryType.{MemoryType}
use Rattle.attributes.specs.declared.MemoryType.TheVariants.{Device, Normal}
use Rattle.attributes.specs.declared.Shareability.{Shareability}
use Rattle.attributes.specs.declared.Shareability.TheVariants.{NonShareable, OuterShareable, InnerShareable}
use Rattle.attributes.specs.declared.Attributes.{Attributes}
use Rattle.attributes.specs.declared.MemoryClass.{MemoryClass}
use Rattle.attributes.specs.declared.MemoryClass.TheVariants as Class

-- ---- codes

-- Device memory by two bits, in the order of the list
unfoldable pub device_of : ℕ → DeviceType
device_of v = pick (eqb v 0) NGnRnE (pick (eqb v 1) NGnRE (pick (eqb v 2) NGRE GRE))

-- a nibble of a MAIR byte, from 1 up
unfoldable pub mair_nibble : ℕ → Cacheability
mair_nibble v = pick (leb v 3) WriteThrough (pick (eqb v 4) NonCacheable (pick (leb v 7) WriteBack (pick (leb v 11) WriteThrough WriteBack)))

-- stage 2's two bits, from 1 up
unfoldable pub stage2_bits : ℕ → Cacheability
stage2_bits v = pick (eqb v 1) NonCacheable (pick (eqb v 2) WriteThrough WriteBack)

-- SH; 1 is no code
unfoldable pub shareability_of : ℕ → Shareability
shareability_of v = pick (eqb v 2) OuterShareable (pick (eqb v 3) InnerShareable NonShareable)

-- ---- reporting

unfoldable pub is_device : MemoryType → Bool
is_device (Device d) = true
is_device (Normal o i) = false

unfoldable pub is_non_cacheable : Cacheability → Bool
is_non_cacheable NonCacheable = true
is_non_cacheable WriteThrough = false
is_non_cacheable WriteBack = false

-- Device, and Normal Non-cacheable both ways, are outer shareable (01, Attributes, combining; MemAttrDefaults)
unfoldable pub reported : MemoryType → Shareability → Attributes
reported (Device d) s = record { memory = Device d; shareability = OuterShareable }
reported (Normal o i) s =
    record { memory = Normal o i; shareability = pick (is_non_cacheable o && is_non_cacheable i) OuterShareable s }

-- Normal memory with caching off is Non-cacheable; SH 1 is unsettled on Normal memory (01, Attributes, SH)
unfoldable pub normal : (uncached : Bool) (sh : ℕ) → Cacheability → Cacheability → Option Attributes
normal uncached sh o i =
    pick (eqb sh 1) None
    (Some (reported (pick uncached (Normal NonCacheable NonCacheable) (Normal o i)) (shareability_of sh)))

abbrev pub device : DeviceType → Option Attributes
device d = Some (reported (Device d) OuterShareable)

-- ---- decoding

-- stage 1: a byte of MAIR, and SH (01, Attributes, stage 1)
unfoldable pub mair_byte : (uncached : Bool) (sh byte : ℕ) → Option Attributes
mair_byte uncached sh byte =
    pick (eqb (byte / 16) 0)
    (pick (eqb (byte % 4) 0) (device (device_of (byte / 4))) None)
    (pick (eqb (byte % 16) 0) None
    (normal uncached sh (mair_nibble (byte / 16)) (mair_nibble (byte % 16))))

-- stage 1's descriptor x: bits 4:2 pick the byte, bits 9:8 are SH (01, Attributes, stage 1; AArch64.S1AttrDecode)
abbrev pub stage1_attributes : (mair : ℕ) (uncached : Bool) (x : ℕ) → Option Attributes
stage1_attributes mair uncached x = mair_byte uncached (field x 8 2) (field mair (8 * field x 2 3) 8)

-- stage 2's codes in bits 5:4 (outer) and 3:2 (inner) (01, Attributes, stage 2; S2AttrDecode)
unfoldable pub stage2_codes : (uncached : Bool) (sh outer inner : ℕ) → Option Attributes
stage2_codes uncached sh outer inner =
    pick (eqb outer 0) (device (device_of inner))
    (pick (eqb inner 0) None
    (normal uncached sh (stage2_bits outer) (stage2_bits inner)))

abbrev pub stage2_attributes : (uncached : Bool) (x : ℕ) → Option Attributes
stage2_attributes uncached x = stage2_codes uncached (field x 8 2) (field x 4 2) (field x 2 2)

-- ---- what decides whether an access passes

unfoldable pub class_of : Option Attributes → MemoryClass
class_of (Some a) = pick (is_device a.memory) Class.Device Class.Normal
class_of None = Class.Unsettled

-- the attributes, for who has found them settled; else the strictest
unfoldable pub settled_part : Option Attributes → Attributes
settled_part (Some a) = a
settled_part None = reported (Device NGnRnE) OuterShareable

-- ---- stage 1 off

-- by HCR_EL2.DC, by whether the access is a fetch, and by SCTLR_EL1.I (01, Attributes, stage 1 off; AArch64.TranslateAddressS1Off)
unfoldable pub stage1_off_attributes : (dc fetch i : Bool) → Attributes
stage1_off_attributes dc fetch i =
    pick dc (reported (Normal WriteBack WriteBack) NonShareable)
    (pick fetch
    (pick i (reported (Normal WriteThrough WriteThrough) OuterShareable) (reported (Normal NonCacheable NonCacheable) OuterShareable))
    (reported (Device NGnRnE) OuterShareable))

-- ---- combining (01, Attributes, combining; CombineS1S2Desc): of two the one with the lower rank wins, and Device memory over Normal

unfoldable pub device_rank : DeviceType → ℕ
device_rank NGnRnE = 0
device_rank NGnRE = 1
device_rank NGRE = 2
device_rank GRE = 3

unfoldable pub cache_rank : Cacheability → ℕ
cache_rank NonCacheable = 0
cache_rank WriteThrough = 1
cache_rank WriteBack = 2

unfoldable pub share_rank : Shareability → ℕ
share_rank OuterShareable = 0
share_rank InnerShareable = 1
share_rank NonShareable = 2

abbrev pub combine_device : DeviceType → DeviceType → DeviceType
combine_device a b = pick (leb (device_rank a) (device_rank b)) a b

abbrev pub combine_cache : Cacheability → Cacheability → Cacheability
combine_cache a b = pick (leb (cache_rank a) (cache_rank b)) a b

abbrev pub combine_shareability : Shareability → Shareability → Shareability
combine_shareability a b = pick (leb (share_rank a) (share_rank b)) a b

unfoldable pub combine_memory : MemoryType → MemoryType → MemoryType
combine_memory (Device a) (Device b) = Device (combine_device a b)
combine_memory (Device a) (Normal o i) = Device a
combine_memory (Normal o i) (Device b) = Device b
combine_memory (Normal o i) (Normal p j) = Normal (combine_cache o p) (combine_cache i j)

abbrev pub combine : Attributes → Attributes → Attributes
combine a b = reported (combine_memory a.memory b.memory) (combine_shareability a.shareability b.shareability)
