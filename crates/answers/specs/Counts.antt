-- Demand 3, the number of reads (01, Demand 3 in full). Proved in proofs/Counts.antt.
-- Assumes nothing.
use Rattle.std.specs.Prelude.{◌≡◌, Bool, true, false, List, [], ℕ, ◌+◌, ◌-◌, ◌*◌, ◌≤◌, ℤ, pos, negsuc, length, Err, Ok}
use Rattle.bits.specs.Bits.{pick}
use Rattle.reads.specs.Program.{All}
use Rattle.access.specs.declared.Access.{Access}
use Rattle.layout.specs.Layout.{Form}
use Rattle.stages.specs.Stage1.{is_upper}
use Rattle.answers.specs.Refusals.{accepts}
use Rattle.answers.specs.declared.Refusal.{Refusal}
use Rattle.stages.specs.declared.both.Translation.{Translation}
use Rattle.answers.specs.declared.Answer.TheVariants.{Translated}
use Rattle.registers.specs.Tcr
use Rattle.settings.specs.Settings.{stage1_on, stage2_on}
use Rattle.descriptor.specs.declared.entry.Geometry.{Geometry}
use Rattle.level.specs.Level.{start1}
use Rattle.regime.specs.Roots.{start_level2, lower_geometry, upper_geometry, stage1}
use Rattle.registers.specs.declared.El1.{El1}
use Rattle.registers.specs.declared.El2.{El2}
use Rattle.answers.specs.Question.{Told, refusal, ask}

-- 4 less a start level
unfoldable pub levels_from : ℤ → ℕ
levels_from (pos l) = 4 - l
levels_from (negsuc l) = 5 + l

-- the levels of a VA range, 0 where it is disabled
abbrev pub range_levels : Geometry → (epd : Bool) → ℕ
range_levels g epd = pick epd 0 (levels_from (start1 g))

-- n1: 0 with stage 1 off or the address's VA range disabled
abbrev pub n1 : El2 → El1 → (address : ℕ) → ℕ
n1 r g a =
    pick (stage1_on r g)
    (pick (is_upper (stage1 r g) a)
    (range_levels (upper_geometry r g) (Tcr.epd1 g.tcr))
    (range_levels (lower_geometry r g) (Tcr.epd0 g.tcr)))
    0

abbrev pub n2 : El2 → ℕ
n2 r = levels_from (start_level2 r)

abbrev pub limit : El2 → El1 → (address : ℕ) → ℕ
limit r g a = n1 r g a * (n2 r + 1) + n2 r

-- each walk ended at level 3
abbrev pub AllAt3 : List ℕ → Type 0
AllAt3 = All (λ level. level ≡ 3)

-- at most so many reads, and for a translated access just so many exactly when each of its walks ends at level 3
pub record Counted (most : ℕ) (t : Told) : Type 0 where
  pub within : length t.reads ≤ most
  pub exact : (to : Translation) (n : ℕ) → t.answer ≡ Ok (Translated to n) → (length t.reads ≡ most → AllAt3 t.ends) × (AllAt3 t.ends → length t.reads ≡ most)

-- every question that is not refused, with stage 2 on and its start at level 0 to 3
pub record Counts (form : Form) (file : List ℕ) (r : El2) (g : El1) (a : Access) (log : List ℕ) : Type 0 where
  pub counted : stage2_on r ≡ true → (l : ℕ) → start_level2 r ≡ pos l → refusal (length log) form file r g a ≡ accepts →
      Counted (limit r g a.address) (ask form file r g a log) × (limit r g a.address ≤ 24)
  -- with stage 2 off, stage 1's own
  pub alone : stage2_on r ≡ false → refusal (length log) form file r g a ≡ accepts →
      (length (ask form file r g a log).reads ≤ n1 r g a.address) × (n1 r g a.address ≤ 4)
  -- a refused question reads nothing, and keeps the log
  pub refused : (why : Refusal) → refusal (length log) form file r g a ≡ Err why →
      ask form file r g a log ≡ record { answer = Err why; reads = []; log = log; ends = [] }
  -- so a log of 24 words always suffices
  pub suffices : length (ask form file r g a log).reads ≤ 24
