-- What a clean audit says of each entry of each audited table.
-- Assumes nothing.
use mathlib.Core.Path.{◌≡◌, refl, subst, subst₂}
use mathlib.Core.Bool.{Bool, true, false, ◌&&◌, ◌||◌, false≢true}
use mathlib.Core.List.{List, [], ◌∷◌}
use Prim.Native.Nat.{ℕ, zero, suc, ◌+◌, ◌-◌, ◌*◌, ◌^◌, ◌≤◌, ◌<◌}
use native.Mathlib.Nat.{not-suc-le-zero, le_of_suc-le-suc}
use native.Mathlib.Omega.{arith}
use lib.Dec.{eqb}
use borrow.Author.Tests.{eqb-true}
use Rattle.bits.specs.Bits.{pick}
use Rattle.reads.specs.Program.{Request}
use Rattle.descriptor.specs.Entry.{descriptor_type}
use Rattle.descriptor.specs.declared.entry.Geometry.{Geometry}
use Rattle.descriptor.specs.declared.entry.DescriptorType.{DescriptorType}
use Rattle.bits.proofs.Tests.{and_left, and_right}
use Rattle.walk.specs.declared.table.Table.{Table}
use Rattle.walk.proofs.Walks.{Says}
use Rattle.lists.specs.Search.{is_listed}
use Rattle.audit.specs.Audit.{AuditAnswer, found, or_else, stage2_read, each_entry, examine_as, examine, audit_table, audit_listed}
use Rattle.audit.specs.declared.FindingKind.{FindingKind}
use Rattle.std.specs.Prelude.{Some, None, Ok, Err, Option, Some}
use Rattle.audit.proofs.Frames.{GrantedLeaf}

-- ---- clean answers

pub not_clean : {X : Type 0} (kind : FindingKind) (address : ℕ) → found kind address ≡ Ok None → X
not_clean kind address e = absurd (let z : ◌≡◌ {A = ℕ} 0 1 = cc in omega arith)

pub clean_left : (a b : AuditAnswer) → or_else a b ≡ Ok None → a ≡ Ok None
unfolding or_else
clean_left (Ok None) b e = refl
clean_left (Ok (Some f)) b e = e
clean_left (Err r) b e = e

pub clean_right : (a b : AuditAnswer) → or_else a b ≡ Ok None → b ≡ Ok None
unfolding or_else
clean_right (Ok None) b e = e
clean_right (Ok (Some f)) b e = absurd (let z : ◌≡◌ {A = ℕ} 0 1 = cc in omega arith)
clean_right (Err r) b e = absurd (let z : ◌≡◌ {A = ℕ} 0 1 = cc in omega arith)

-- a test without which there would be a finding
passed : (b : Bool) (kind : FindingKind) (address : ℕ) → pick b (Ok None) (found kind address) ≡ Ok None → b ≡ true
unfolding pick
passed true kind address e = refl
passed false kind address e = not_clean kind address e

entry_clean : (f : ℕ → AuditAnswer) (entries a : ℕ) → each_entry f entries a ≡ Ok None → (i : ℕ) → i < entries → f (a + 8 * i) ≡ Ok None
unfolding each_entry
entry_clean f zero a e i h = absurd (not-suc-le-zero h)
entry_clean f (suc n) a e zero h = subst (λ z. f z ≡ Ok None) (omega arith) (clean_left (f a) _ e)
entry_clean f (suc n) a e (suc i) h = subst (λ z. f z ≡ Ok None) (omega arith) (entry_clean f n (a + 8) (clean_right (f a) _ e) i (le_of_suc-le-suc h))

-- ---- audited tables

-- a table of 2 ^ j entries with k levels, itself included: the root, or a listed one
pub data Tables (root : Table) (tables : List (ℕ × ℕ)) : (k j table : ℕ) → Type 0 where
  top : Tables root tables root.levels root.bits root.base
  low : {k table : ℕ} → k ≤ 3 → is_listed tables table (4 - k) ≡ true → Tables root tables k root.geometry.stride table

module _ (m : Request → Option ℕ) (grants tables : List (ℕ × ℕ)) (root : Table) where
  abbrev g : Geometry
  g = root.geometry

  pub listed_clean : (l : List (ℕ × ℕ)) (a level : ℕ) → is_listed l a level ≡ true → audit_listed m g grants tables l ≡ Ok None →
      audit_table m g grants tables (3 - level) g.stride a ≡ Ok None
  unfolding is_listed audit_listed
  listed_clean [] a level h e = absurd (false≢true h)
  listed_clean (t ∷ l) a level h e = by_test (eqb t.0 a && eqb t.1 level) refl h (λ q. listed_clean l a level q (clean_right _ _ e))
    where
      by_test : (b : Bool) → (eqb t.0 a && eqb t.1 level) ≡ b → (b || is_listed l a level) ≡ true →
          (is_listed l a level ≡ true → audit_table m g grants tables (3 - level) g.stride a ≡ Ok None) → audit_table m g grants tables (3 - level) g.stride a ≡ Ok None
      by_test true q h' rest =
          subst₂ (λ x y. audit_table m g grants tables (3 - y) g.stride x ≡ Ok None) (eqb-true _ _ (and_left _ _ q)) (eqb-true _ _ (and_right (eqb t.0 a) _ q)) (clean_left _ _ e)
      by_test false q h' rest = rest h'

  -- what is needed of a root: frames, at most four levels; and both parts of its audit are clean
  module _ (frames : 12 ≤ g.grainsize) (few : root.levels ≤ 4)
      (top-clean : audit_table m g grants tables (root.levels - 1) root.bits root.base ≡ Ok None) (list-clean : audit_listed m g grants tables tables ≡ Ok None) where
    abbrev T : ℕ → ℕ → ℕ → Type 0
    T = Tables root tables

    table_clean : {k j table : ℕ} → T k j table → (n : ℕ) → k ≡ suc n → audit_table m g grants tables n j table ≡ Ok None
    table_clean top n e = subst (λ z. audit_table m g grants tables z root.bits root.base ≡ Ok None) (omega arith) top-clean
    table_clean (low {k} {table} h l) n e =
        subst (λ z. audit_table m g grants tables z g.stride table ≡ Ok None) (omega arith) (listed_clean tables table (4 - k) l list-clean)

    few_below : {k j table : ℕ} → T k j table → (n : ℕ) → k ≡ suc n → n ≤ 3
    few_below top n e = omega arith
    few_below (low h l) n e = omega arith

    says_as : (n at x : ℕ) (s : DescriptorType) → n ≤ 3 → examine_as g grants tables n at x s ≡ Ok None → Says T (GrantedLeaf grants) g n x s
    unfolding examine_as
    says_as n at x DescriptorType.Invalid h e = tt
    says_as n at x DescriptorType.Table h e = low h (passed _ _ _ e)
    says_as n at x DescriptorType.Leaf h e = record { frames = omega arith; range = passed _ _ _ e }

    -- each entry leads to a listed table one level on, or maps a granted range, or is invalid
    pub entry_says_lem : (n j table i x : ℕ) → T (suc n) j table → i < 2 ^ j → m (stage2_read (table + 8 * i)) ≡ Some x → Says T (GrantedLeaf grants) g n x (descriptor_type g n x)
    unfolding audit_table examine
    entry_says_lem n j table i x t h e =
        let entries = clean_right _ _ (clean_right _ _ (table_clean t n refl)) in
        let entry : examine g grants tables n (table + 8 * i) (m (stage2_read (table + 8 * i))) ≡ Ok None = entry_clean _ (2 ^ j) table entries i h in
        says_as n (table + 8 * i) x (descriptor_type g n x) (few_below t n refl) (subst (λ f. examine g grants tables n (table + 8 * i) f ≡ Ok None) e entry)
