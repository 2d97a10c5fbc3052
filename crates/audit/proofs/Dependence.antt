-- Where every read of an audited table's entry is the same, so is the audit.
-- Assumes nothing.
use mathlib.Core.Path.{◌≡◌, refl, sym, subst, ap, ap₂, ◌∙◌}
use mathlib.Core.Bool.{Bool, true, false, or-true}
use mathlib.Core.List.{List, [], ◌∷◌}
use Prim.Native.Nat.{ℕ, zero, suc, ◌+◌, ◌-◌, ◌*◌, ◌^◌, ◌<◌}
use native.Mathlib.Omega.{arith}
use lib.ListN.{length, get_or}
use borrow.Author.Tests.{eq-eqb}
use Rattle.bits.specs.Bits.{pick}
use Rattle.reads.specs.Program.{Request}
use Rattle.reads.proofs.Laws.{all_map}
use Rattle.descriptor.specs.declared.entry.Geometry.{Geometry}
use Rattle.capture.specs.Capture.{any_high, memory, SameBytes}
use Rattle.layout.specs.Layout.{Form, layout, parts_of, captured, SameBounds}
use Rattle.layout.proofs.Bounds.{same_parts}
use Rattle.layout.proofs.Parts.{all_inside}
use Rattle.capture.proofs.Bytewise.{same_word}
use Rattle.walk.specs.Root.{Root}
use Rattle.regime.specs.Roots.{root2}
use Rattle.registers.specs.declared.El2.{El2}
use Rattle.answers.specs.Refusals.{refuse}
use Rattle.lists.specs.Lists.{zip}
use Rattle.lists.specs.Search.{is_listed}
use Rattle.audit.specs.Audit.{AuditAnswer, or_else, stage2_read, each_entry, missing, examine, audit_table, audit_listed, audit_from, audit_grounds, audit_over, audit}
use Rattle.audit.specs.Confinement.{the_root, listed, SameTables}
use Rattle.audit.specs.Dependence.{Dependence}
use Rattle.std.specs.Prelude.{Err, Option, Ok}

-- ---- over two memories

-- the same at each entry, so the same over all
same_each : (f f' : ℕ → AuditAnswer) (entries a : ℕ) → ((i : ℕ) → i < entries → f (a + 8 * i) ≡ f' (a + 8 * i)) → each_entry f entries a ≡ each_entry f' entries a
unfolding each_entry
same_each f f' zero a same = refl
same_each f f' (suc n) a same =
    ap₂ or_else (subst (λ z. f z ≡ f' z) (omega arith) (same 0 (omega arith)))
    (same_each f f' n (a + 8) (λ i less. subst (λ z. f z ≡ f' z) (omega arith) (same (suc i) (omega arith))))

-- what stands in a list is listed in it, at its head or further on
listed_here : (t : ℕ × ℕ) (l : List (ℕ × ℕ)) → is_listed (t ∷ l) t.0 t.1 ≡ true
unfolding is_listed
listed_here t l = rw (eq-eqb t.0 t.0 refl, eq-eqb t.1 t.1 refl)

listed_on : (t : ℕ × ℕ) (l : List (ℕ × ℕ)) (table level : ℕ) → is_listed l table level ≡ true → is_listed (t ∷ l) table level ≡ true
unfolding is_listed
listed_on t l table level h = rw (h, or-true)

module _ (m m' : Request → Option ℕ) (g : Geometry) (grants tables : List (ℕ × ℕ)) where
  -- the entries of a table of 2 ^ j
  abbrev SameTable : (j table : ℕ) → Type 0
  SameTable j table = (i : ℕ) → i < 2 ^ j → m (stage2_read (table + 8 * i)) ≡ m' (stage2_read (table + 8 * i))

  same_table : (n j table : ℕ) → SameTable j table → audit_table m g grants tables n j table ≡ audit_table m' g grants tables n j table
  unfolding audit_table
  same_table n j table same =
      ap₂ or_else (same_each _ _ (2 ^ j) table (λ i less. ap (missing table) (same i less)))
      (ap (or_else _) (same_each _ _ (2 ^ j) table (λ i less. ap (examine g grants tables n (table + 8 * i)) (same i less))))

  same_listed : (l : List (ℕ × ℕ)) → ((table level : ℕ) → is_listed l table level ≡ true → SameTable g.stride table) →
      audit_listed m g grants tables l ≡ audit_listed m' g grants tables l
  unfolding audit_listed
  same_listed [] same = refl
  same_listed (t ∷ l) same =
      ap₂ or_else (same_table (3 - t.1) g.stride t.0 (same t.0 t.1 (listed_here t l)))
      (same_listed l (λ table level h. same table level (listed_on t l table level h)))

-- ---- over two files

module _ (form : Form) (file file' : List ℕ) (bounds : SameBounds form file file') (low : any_high (layout form file).banks ≡ false) where
  -- an entry of a table with the same bytes
  pub same_entry : (j table : ℕ) → SameBytes (parts_of form file) file file' table (8 * 2 ^ j) → (i : ℕ) → i < 2 ^ j →
      captured form file (stage2_read (table + 8 * i)) ≡ captured form file' (stage2_read (table + 8 * i))
  same_entry j table same i less =
      sym (same_word file file' bounds.length (parts_of form file) (all_inside (length file) (layout form file).banks low) (stage2_read (table + 8 * i))
      (all_map
      (λ p h k inside from to.
      let at : table + (8 * i + k) ≡ table + 8 * i + k = omega arith in
      subst (λ z. get_or file' (p.from + (z - p.address)) 0 ≡ get_or file (p.from + (z - p.address)) 0) at (h (8 * i + k) (omega arith) (omega arith) (omega arith)))
      same))
      ∙ ap (λ l. memory l file' (stage2_read (table + 8 * i))) (same_parts form file file' bounds)

  same_from : (grants tables : List (ℕ × ℕ)) (root : Root) → SameTables form file file' root tables →
      audit_from (captured form file) grants tables root ≡ audit_from (captured form file') grants tables root
  unfolding audit_from
  same_from grants tables (Err u) same = refl
  same_from grants tables (Ok t) same =
      ap₂ or_else (same_table _ _ t.geometry grants tables (t.levels - 1) t.bits t.base (same_entry t.bits t.base (same _ _ (the_root refl))))
      (same_listed _ _ t.geometry grants tables tables (λ table level h. same_entry t.geometry.stride table (same _ _ (listed refl level h))))

-- where a bank ends high the tables do not count
by_high : (unreadable high : Bool) (r : El2) (grants counts tables levels : List ℕ) (x y : AuditAnswer) → (high ≡ false → x ≡ y) →
    refuse Err (audit_grounds unreadable high r grants counts tables levels) x ≡ refuse Err (audit_grounds unreadable high r grants counts tables levels) y
unfolding refuse pick
by_high unreadable true r grants counts tables levels x y e = refl
by_high unreadable false r grants counts tables levels x y e = ap (refuse Err (audit_grounds unreadable false r grants counts tables levels)) (e refl)

pub dependence : (form : Form) (file file' : List ℕ) (r : El2) (grants counts tables levels : List ℕ) → Dependence form file file' r grants counts tables levels
unfolding audit audit_over
dependence form file file' r grants counts tables levels =
    record {
      depends = λ bounds same.
          by_high _ _ r grants counts tables levels _ _ (λ low. same_from form file file' bounds low (zip grants counts) (zip tables levels) (root2 r) same)
          ∙ ap (λ l. refuse Err (audit_grounds l.unreadable (any_high l.banks) r grants counts tables levels) (audit_from (captured form file') (zip grants counts) (zip tables levels) (root2 r))) bounds.layout;
    }
