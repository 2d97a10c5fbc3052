-- The class of a leaf's memory by the bits that decide it. Caching off does not change it.
-- Assumes nothing.
use mathlib.Core.Path.{◌≡◌, refl}
use mathlib.Core.Bool.{Bool, true, false}
use Rattle.std.specs.Prelude.{ℕ, ◌/◌, ◌%◌, Option}
use lib.Dec.{eqb}
use Rattle.bits.specs.Bits.{pick}
use Rattle.attributes.specs.Attributes.{is_device, reported, normal, mair_byte, stage2_codes, class_of}
use Rattle.attributes.specs.declared.Cacheability.{Cacheability}
use Rattle.attributes.specs.declared.Attributes.{Attributes}
use Rattle.attributes.specs.declared.MemoryClass.{MemoryClass}
use Rattle.attributes.specs.declared.MemoryClass.TheVariants.{Unsettled, Device, Normal}

class_pick : (b : Bool) (p q : Option Attributes) → class_of (pick b p q) ≡ pick b (class_of p) (class_of q)
unfolding pick
class_pick true p q = refl
class_pick false p q = refl

-- of Normal memory only SH decides
abbrev normal_class : ℕ → MemoryClass
normal_class sh = pick (eqb sh 1) Unsettled Normal

normal_class_lem : (u : Bool) (sh : ℕ) (o i : Cacheability) → class_of (normal u sh o i) ≡ normal_class sh
unfolding normal reported is_device class_of pick
normal_class_lem true sh o i = simp class_pick
normal_class_lem false sh o i = simp class_pick

pub mair_class : (u : Bool) (sh byte : ℕ) →
    class_of (mair_byte u sh byte)
    ≡ pick (eqb (byte / 16) 0) (pick (eqb (byte % 4) 0) Device Unsettled) (pick (eqb (byte % 16) 0) Unsettled (normal_class sh))
unfolding mair_byte reported is_device class_of pick
mair_class u sh byte = simp (class_pick, normal_class_lem)

pub codes_class : (u : Bool) (sh outer inner : ℕ) →
    class_of (stage2_codes u sh outer inner) ≡ pick (eqb outer 0) Device (pick (eqb inner 0) Unsettled (normal_class sh))
unfolding stage2_codes reported is_device class_of pick
codes_class u sh outer inner = simp (class_pick, normal_class_lem)
