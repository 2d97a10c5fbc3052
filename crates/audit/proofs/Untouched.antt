-- Where finding 2 was looked for and not found, no grant touches the table.
-- Assumes nothing.
use mathlib.Core.Path.{◌≡◌, refl, sym, subst, ◌∙◌}
use mathlib.Core.Bool.{Bool, true, false}
use mathlib.Core.List.{List}
use Prim.Native.Nat.{ℕ, ◌-◌, ◌*◌, ◌^◌}
use Rattle.bits.specs.Bits.{pick}
use Rattle.reads.specs.Program.{Request}
use Rattle.descriptor.specs.declared.entry.Geometry.{Geometry}
use Rattle.layout.specs.Layout.{Form, captured}
use Rattle.walk.specs.Root.{Root}
use Rattle.regime.specs.Roots.{root2}
use Rattle.registers.specs.declared.El2.{El2}
use Rattle.answers.proofs.Refusals.{refuse_accepted}
use Rattle.lists.specs.Lists.{zip}
use Rattle.lists.specs.Search.{touches}
use Rattle.audit.specs.Audit.{found, audit_table, audit_from, audit_over, audit}
use Rattle.audit.specs.Confinement.{Audited, the_root, listed}
use Rattle.audit.specs.Untouched.{Untouched}
use Rattle.audit.specs.declared.FindingKind.{FindingKind}
use Rattle.std.specs.Prelude.{None, Ok, Err, Option}
use Rattle.audit.proofs.Findings.{not_clean, clean_left, clean_right, listed_clean}
use Rattle.audit.proofs.Confinement.{unrefused}

-- a test with which there would be a finding
failed : (b : Bool) (kind : FindingKind) (address : ℕ) → pick b (found kind address) (Ok None) ≡ Ok None → b ≡ false
unfolding pick
failed true kind address e = not_clean kind address e
failed false kind address e = refl

module _ (m : Request → Option ℕ) (grants tables : List (ℕ × ℕ)) where
  table_untouched : (g : Geometry) (n j table : ℕ) → audit_table m g grants tables n j table ≡ Ok None → touches grants table (8 * 2 ^ j) ≡ false
  unfolding audit_table
  table_untouched g n j table clean = failed _ _ _ (clean_left _ _ (clean_right _ _ clean))

  untouched_from : (root : Root) (table size : ℕ) → audit_from m grants tables root ≡ Ok None → Audited root tables table size → touches grants table size ≡ false
  unfolding audit_from
  untouched_from root table size clean (the_root {t} e) =
      table_untouched _ (t.levels - 1) t.bits _ (clean_left _ _ (subst (λ z. audit_from m grants tables z ≡ Ok None) e clean))
  untouched_from root table size clean (listed {t} e level h) =
      table_untouched _ (3 - level) t.geometry.stride table
      (listed_clean m grants tables t tables table level h (clean_right _ _ (subst (λ z. audit_from m grants tables z ≡ Ok None) e clean)))

pub untouched : (form : Form) (file : List ℕ) (r : El2) (grants counts tables levels : List ℕ) → Untouched form file r grants counts tables levels
unfolding audit audit_over
untouched form file r grants counts tables levels =
    record {
      untouched = λ clean table size.
          untouched_from (captured form file) (zip grants counts) (zip tables levels) (root2 r) table size (sym (refuse_accepted Err _ _ (unrefused _ _ clean)) ∙ clean);
    }
