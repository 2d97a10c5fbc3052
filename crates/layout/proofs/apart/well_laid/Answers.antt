-- `well_laid` meets its contract: its tests are those of the definition, in its order.
-- Assumes nothing.
use mathlib.Core.Path.{sym, ◌∙◌}
use mathlib.Core.Bool.{true≢false}
use Rattle.bits.proofs.Tests.{told}
use Rattle.layout.specs.Elf as Elf
use Rattle.layout.proofs.apart.well_laid.Goals as goal
use Rattle.layout.proofs.apart.well_laid.Goals.{then-ascend, else-ascend, then-apart, else-apart}

pub returns-then-clear : goal.returns-then-clear
unfolding Elf.well_laid
returns-then-clear c = elim c.if-apart.branch [
  | then-apart w ↦ elim c.if-ascend.branch [
    | then-ascend v ↦ rw (
      told c.ascend.ensures v.if-ascend.true,
      told v.apart.ensures (sym v.value-is ∙ w.if-apart.true),
      told w.clear.ensures (sym w.value-is ∙ c.if-clear.true),
    ) c.clear-then-clear.ensures
    | else-ascend v ↦ absurd (true≢false (sym w.if-apart.true ∙ v.value-is ∙ v.if-ascend.false))
  ]
  | else-apart w ↦ absurd (true≢false (sym c.if-clear.true ∙ w.value-is ∙ w.if-apart.false))
]

pub returns-else-clear : goal.returns-else-clear
unfolding Elf.well_laid
returns-else-clear c = elim c.if-apart.branch [
  | then-apart w ↦ elim c.if-ascend.branch [
    | then-ascend v ↦ rw (
      told c.ascend.ensures v.if-ascend.true,
      told v.apart.ensures (sym v.value-is ∙ w.if-apart.true),
      told w.clear.ensures (sym w.value-is ∙ c.if-clear.false),
    ) c.if-clear.false
    | else-ascend v ↦ absurd (true≢false (sym w.if-apart.true ∙ v.value-is ∙ v.if-ascend.false))
  ]
  | else-apart w ↦ elim c.if-ascend.branch [
    | then-ascend v ↦ rw (told c.ascend.ensures v.if-ascend.true, told v.apart.ensures (sym v.value-is ∙ w.if-apart.false)) c.if-clear.false
    | else-ascend v ↦ rw (told c.ascend.ensures v.if-ascend.false) c.if-clear.false
  ]
]
