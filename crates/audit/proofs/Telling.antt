-- What an audit is told: each refusal where its ground is the first that holds, else what the tables say.
-- Assumes nothing.
use mathlib.Core.Path.{◌≡◌}
use mathlib.Core.Bool.{Bool, true, false}
use mathlib.Core.List.{List}
use Prim.Native.Nat.{ℕ}
use Rattle.bits.specs.Bits.{pick}
use Rattle.reads.specs.Program.{Request}
use Rattle.capture.specs.Capture.{any_high}
use Rattle.layout.specs.Elf.{is_core, banks}
use Rattle.layout.specs.Layout.{raw, core, layout, captured}
use Rattle.settings.specs.Settings.{stage2_on, audit_settings, number}
use Rattle.settings.specs.declared.Item.{Item}
use Rattle.settings.proofs.Items.{number_some}
use Rattle.regime.specs.Roots.{table_size, root2}
use Rattle.registers.specs.declared.El2.{El2}
use Rattle.answers.specs.Refusals.{refuse}
use Rattle.answers.specs.declared.Refusal.TheVariants.{HighCapture, Settings, AuditLists, NoRoot, CoreFile}
use Rattle.lists.specs.Lists.{zip, well_formed}
use Rattle.audit.specs.Audit.{AuditAnswer, audit_from, audit_over, audit}
use Rattle.std.specs.Prelude.{Err, Option}

module _ (m : Request → Option ℕ) (high : Bool) (r : El2) (grants counts tables levels : List ℕ) where
  abbrev answer : AuditAnswer
  answer = audit_over m false high r grants counts tables levels

  pub told_high : high ≡ true → Err HighCapture ≡ answer
  unfolding audit_over refuse pick
  told_high e = rw e

  module _ (low : high ≡ false) where
    pub told_item : (item : Item) → audit_settings r ≡ number item → Err (Settings (number item)) ≡ answer
    unfolding audit_over refuse pick
    told_item item is = rw (low, is, number_some item)

    module _ (set : audit_settings r ≡ 0) where
      pub told_lists : well_formed (table_size r) grants counts tables levels ≡ false → Err AuditLists ≡ answer
      unfolding audit_over refuse pick
      told_lists e = rw (low, set, e)

      module _ (formed : well_formed (table_size r) grants counts tables levels ≡ true) where
        pub told_off : stage2_on r ≡ false → Err NoRoot ≡ answer
        unfolding audit_over refuse pick
        told_off e = rw (low, set, formed, e)

        pub told_from : stage2_on r ≡ true → audit_from m (zip grants counts) (zip tables levels) (root2 r) ≡ answer
        unfolding audit_over refuse pick
        told_from e = rw (low, set, formed, e)

-- ---- the audit over a file, as code runs it

module _ (r : El2) (grants counts tables levels : List ℕ) {x : AuditAnswer} {high : Bool} where
  pub raw_told : (base : ℕ) (file : List ℕ) → high ≡ any_high (layout (raw base) file).banks →
      x ≡ audit_over (captured (raw base) file) false high r grants counts tables levels → x ≡ audit (raw base) file r grants counts tables levels
  unfolding audit layout
  raw_told base file h t = rw h at t

  pub core_told : (file : List ℕ) → is_core file ≡ true → high ≡ any_high (banks file) →
      x ≡ audit_over (captured core file) false high r grants counts tables levels → x ≡ audit core file r grants counts tables levels
  unfolding audit layout
  core_told file e h t = rw e (rw h at t)

-- one that is not accepted
pub core_refused : (file : List ℕ) (r : El2) (grants counts tables levels : List ℕ) → is_core file ≡ false → Err CoreFile ≡ audit core file r grants counts tables levels
unfolding audit audit_over layout refuse pick
core_refused file r grants counts tables levels e = rw e
