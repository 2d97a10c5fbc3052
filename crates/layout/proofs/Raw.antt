-- A raw capture: one part, the whole of it, that may be read where it does not end high.
-- Assumes nothing.
use mathlib.Core.Path.{◌≡◌, refl, ap, ap₂}
use mathlib.Core.Bool.{false}
use mathlib.Core.List.{List, [], ◌∷◌}
use Prim.Native.Nat.{ℕ, ◌+◌, ◌^◌, ◌≤◌}
use native.Mathlib.Omega.{arith}
use lib.ListN.{length}
use borrow.Author.Tests.{ltb-false}
use Rattle.capture.specs.Capture.{least, part, ends_high, any_high, memory}
use Rattle.capture.specs.Calls.{ahead, Held}
use Rattle.capture.specs.declared.Front.{Front}
use Rattle.capture.specs.declared.Part.{Part}
use Rattle.capture.proofs.Lesser.{least_min}
use Rattle.layout.specs.Layout.{raw, layout, parts_of, captured}
use Rattle.layout.proofs.Parts.{one_high}

abbrev all : (base : ℕ) (file : List ℕ) → Part
all base file = record { address = base; from = 0; to = length file }

-- as the part in front
abbrev pub whole : (base : ℕ) (file : List ℕ) → Front
whole base file = ahead (all base file)

pub raw_parts : (base : ℕ) (file : List ℕ) → parts_of (raw base) file ≡ all base file ∷ []
unfolding part layout
raw_parts base file =
    let from : least 0 (length file) ≡ 0 = omega (arith, least_min 0 (length file)) in
    let to : least (0 + length file) (length file) ≡ length file = omega (arith, least_min (0 + length file) (length file)) in
    ap₂ (λ a b. record { address = base; from = a; to = b } ∷ []) from to

-- code reads it as one part
pub raw_captured : (base : ℕ) (file : List ℕ) → captured (raw base) file ≡ memory ((whole base file).part ∷ []) file
raw_captured base file = ap (λ l. memory l file) (raw_parts base file)

pub raw_high : (base : ℕ) (file : List ℕ) → any_high (layout (raw base) file).banks ≡ ends_high base (length file)
unfolding layout
raw_high base file = one_high _

-- what may be read of it, as reading asks for it: the part in front, with no others
pub raw_held : (base : ℕ) (file : List ℕ) → ends_high base (length file) ≡ false → Held (whole base file) [] file
raw_held base file low =
    let top : base + length file ≤ 2 ^ 48 = ltb-false _ _ low in
    record {
      leads = record { lies = record { order = omega arith; inside = omega arith; fits = omega (arith, top) }; back = refl };
      ascending = record { lie = λ i d h. absurd (omega (arith, h)); order = λ i j d less h. absurd (omega (arith, h)) };
    }
