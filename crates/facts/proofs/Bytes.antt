-- A question or an audit over a sparse capture is that over the capture's bytes.
-- Assumes nothing.
use mathlib.Core.Path.{◌≡◌, refl, ap}
use mathlib.Core.List.{List}
use Prim.Native.Nat.{ℕ, zero, suc}
use lib.ListN.{length, replicate, length-replicate}
use Rattle.access.specs.declared.Access.{Access}
use Rattle.capture.specs.Sparse.{image}
use Rattle.capture.proofs.Sparse.{sparse_memory}
use Rattle.layout.specs.Layout.{raw, layout}
use Rattle.layout.proofs.Raw.{raw_parts, raw_high}
use Rattle.registers.specs.declared.El1.{El1}
use Rattle.registers.specs.declared.El2.{El2}
use Rattle.answers.specs.Question.{ask_over, ask}
use Rattle.audit.specs.Audit.{audit}
use Rattle.facts.specs.Asked.{Image, row, before, asked, audited}

-- the bytes of a sparse capture
abbrev pub bytes : Image → List ℕ
bytes c = image c.words c.base c.length

length_image : (ws : List (ℕ × ℕ)) (a n : ℕ) → length (image ws a n) ≡ n
unfolding image
length_image ws a zero = refl
length_image ws a (suc n) = ap suc (length_image ws (suc a) n)

pub asked_of_bytes : (c : Image) (r : El2) (g : El1) (a : Access) (words : ℕ) →
    asked c r g a words ≡ row (ask (raw c.base) (bytes c) r g a (replicate words before))
unfolding asked ask ask_over layout
asked_of_bytes c r g a words =
    rw (
      raw_parts c.base (bytes c),
      raw_high c.base (bytes c),
      length_image c.words c.base c.length,
      length-replicate words before,
      sparse_memory c.base c.length c.words,
    )

pub audited_of_bytes : (c : Image) (r : El2) (grants counts tables levels : List ℕ) →
    audited c r grants counts tables levels ≡ audit (raw c.base) (bytes c) r grants counts tables levels
unfolding audited audit layout
audited_of_bytes c r grants counts tables levels =
    rw (
      raw_parts c.base (bytes c),
      raw_high c.base (bytes c),
      length_image c.words c.base c.length,
      sparse_memory c.base c.length c.words,
    )
