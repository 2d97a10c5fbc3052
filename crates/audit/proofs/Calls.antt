-- Answers one after the other: entries of a table, and listed tables.
-- Assumes nothing.
use mathlib.Core.Path.{◌≡◌, refl, sym, subst, ◌∙◌}
use mathlib.Core.Bool.{true, false, ◌&&◌}
use mathlib.Core.List.{List, [], ◌∷◌}
use Prim.Native.Nat.{ℕ, zero, suc, ◌+◌, ◌-◌, ◌*◌, ◌^◌, ◌≤◌, ◌<◌}
use native.Mathlib.Omega.{arith}
use lib.Dec.{leb}
use borrow.Author.Tests.{le-leb, leb-true}
use lib.ListN.{length, get_or, drop, drop_of_length-le}
use lib.Seq.{drop-cons}
use Rattle.std.specs.Prelude.{Some, None, Result, Ok, Err, Option}
use Rattle.std.specs.Result.{result_err}
use Rattle.lists.specs.Search.{touches}
use Rattle.reads.specs.Program.{Request}
use Rattle.bits.specs.Bits.{pick}
use Rattle.bits.proofs.Tests.{and_left, and_right}
use Rattle.capture.specs.Capture.{kept, within, memory}
use Rattle.capture.specs.declared.Part.{Part}
use Rattle.descriptor.specs.declared.entry.Geometry.{Geometry}
use Rattle.audit.specs.Audit.{AuditAnswer, found, or_else, each_entry, audit_table, audit_listed, missing}
use Rattle.audit.specs.Calls.{answered, entry_says, entry_lies}
use Rattle.audit.specs.declared.Finding.{Finding}
use Rattle.audit.specs.declared.FindingKind.TheVariants.{TouchesGrant}

-- ---- the first that is not clean

pub or_clean : (a b : AuditAnswer) → Ok None ≡ a → or_else a b ≡ b
unfolding or_else
or_clean a b e = rw (← e)

pub or_found : (a b : AuditAnswer) (f : Finding) → Ok (Some f) ≡ a → or_else a b ≡ Ok (Some f)
unfolding or_else
or_found a b f e = rw (← e)

-- a finding, if there is one, is the answer
pub carried : (r : Result (Unit {0}) Finding) → ◌≡◌ {A = AuditAnswer} (Ok (result_err r)) (answered r)
carried (Ok u) = refl
carried (Err f) = refl

-- ---- entries

-- the entries from the i-th on decide
pub record Left (f : ℕ → AuditAnswer) (entries table i : ℕ) : Type 0 where
  pub rest : each_entry f (entries - i) (table + 8 * i) ≡ each_entry f entries table

module _ (f : ℕ → AuditAnswer) (entries table : ℕ) where
  pub left_all : Left f entries table 0
  left_all = let n : entries - 0 ≡ entries = omega arith in let t : table + 8 * 0 ≡ table = omega arith in record { rest = rw (n, t) }

  module _ (i : ℕ) (w : Left f entries table i) where
    step : i < entries → or_else (f (table + 8 * i)) (each_entry f (entries - (i + 1)) (table + 8 * (i + 1))) ≡ each_entry f entries table
    unfolding each_entry
    step less =
        let n : entries - i ≡ suc (entries - (i + 1)) = omega arith in
        let a : table + 8 * i + 8 ≡ table + 8 * (i + 1) = omega arith in
        rw (n, a) at w.rest

    pub left_next : i < entries → Ok None ≡ f (table + 8 * i) → Left f entries table (i + 1)
    left_next less clean = record { rest = sym (or_clean _ _ clean) ∙ step less }

    pub left_found : i < entries → (x : Finding) → Ok (Some x) ≡ f (table + 8 * i) → Ok (Some x) ≡ each_entry f entries table
    left_found less x dirty = sym (or_found _ _ x dirty) ∙ step less

    pub left_none : entries ≤ i → Ok None ≡ each_entry f entries table
    unfolding each_entry
    left_none over = let z : entries - i ≡ 0 = omega arith in rw z at w.rest

-- the entries that the first of some parts has are all there
module _ (p : Part) (l : List Part) (file : List ℕ) (table : ℕ) where
  lies_from : (n a : ℕ) → p.address ≤ a → a + 8 * n ≤ p.address + kept p → Ok None ≡ each_entry (entry_lies (memory (p ∷ l) file) table) n a
  unfolding each_entry or_else missing memory within pick
  lies_from zero a low high = refl
  lies_from (suc n) a low high =
      let room : a + 8 ≤ p.address + kept p = omega (arith, high) in
      rw (le-leb _ _ low, le-leb _ _ room) (lies_from n (a + 8) (omega (arith, low)) (omega (arith, high)))

  pub all_lie : (n a : ℕ) → (leb p.address a && leb (a + 8 * n) (p.address + kept p)) ≡ true → Ok None ≡ each_entry (entry_lies (memory (p ∷ l) file) table) n a
  all_lie n a e = lies_from n a (leb-true _ _ (and_left _ _ e)) (leb-true _ _ (and_right _ _ e))

-- ---- a table

module _ (m : Request → Option ℕ) (g : Geometry) (grants tables : List (ℕ × ℕ)) (n j table : ℕ) where
  abbrev lies : AuditAnswer
  lies = each_entry (entry_lies m table) (2 ^ j) table

  pub table_missing : (f : Finding) → Ok (Some f) ≡ lies → Ok (Some f) ≡ audit_table m g grants tables n j table
  unfolding audit_table
  table_missing f dirty = sym (or_found lies _ f dirty)

  pub table_touched : Ok None ≡ lies → touches grants table (8 * 2 ^ j) ≡ true → found TouchesGrant table ≡ audit_table m g grants tables n j table
  unfolding audit_table pick or_else
  table_touched clean e = sym (or_clean lies _ clean ∙ rw e)

  pub table_said : Ok None ≡ lies → touches grants table (8 * 2 ^ j) ≡ false → each_entry (entry_says m g grants tables n) (2 ^ j) table ≡ audit_table m g grants tables n j table
  unfolding audit_table pick or_else
  table_said clean e = sym (or_clean lies _ clean ∙ rw e)

-- ---- listed tables

-- those from the i-th on decide
pub record Listing (m : Request → Option ℕ) (g : Geometry) (grants tables : List (ℕ × ℕ)) (i : ℕ) : Type 0 where
  pub rest : audit_listed m g grants tables (drop i tables) ≡ audit_listed m g grants tables tables

module _ {m : Request → Option ℕ} {g : Geometry} {grants tables : List (ℕ × ℕ)} {i : ℕ} (w : Listing m g grants tables i) where
  pub listing_over : i ≡ length tables → Ok None ≡ audit_listed m g grants tables tables
  unfolding audit_listed
  listing_over over = let e : drop i tables ≡ [] = drop_of_length-le tables {i = i} (omega arith) in rw e at w.rest

  module _ (t : ℕ × ℕ) (less : i < length tables) (is : t ≡ get_or tables i t) (n : ℕ) (below : n ≡ 3 - t.1) where
    abbrev one : AuditAnswer
    one = audit_table m g grants tables n g.stride t.0

    turn : or_else one (audit_listed m g grants tables (drop (i + 1) tables)) ≡ audit_listed m g grants tables tables
    unfolding audit_listed
    turn =
        let k : i + 1 ≡ suc i = omega arith in
        let p : drop i tables ≡ get_or tables i t ∷ drop (suc i) tables = drop-cons tables i t less in
        let here : drop i tables ≡ t ∷ drop (i + 1) tables = cc in
        rw below (rw here at w.rest)

    pub listing_next : (k : ℕ) → k ≡ i + 1 → Ok None ≡ one → Listing m g grants tables k
    listing_next k next clean = subst (Listing m g grants tables) (sym next) (record { rest = sym (or_clean one _ clean) ∙ turn })

    pub listing_found : (f : Finding) → Ok (Some f) ≡ one → Ok (Some f) ≡ audit_listed m g grants tables tables
    listing_found f dirty = sym (or_found one _ f dirty) ∙ turn
