-- The audit of stage 2's tables against the granted frames (01, The audit).
-- Assumes nothing.
use Rattle.std.specs.Prelude.{Bool, not, List, [], ◌∷◌, ℕ, zero, suc, ◌+◌, ◌-◌, ◌*◌, ◌^◌, Option, Some, None, Result, Ok, Err, Option, Some, None}
use Rattle.bits.specs.Bits.{pick, upper}
use Rattle.reads.specs.Program.{Request, stage_2}
use Rattle.descriptor.specs.Entry.{shift, descriptor_type}
use Rattle.descriptor.specs.declared.entry.Geometry.{Geometry}
use Rattle.descriptor.specs.declared.entry.DescriptorType.{DescriptorType}
use Rattle.capture.specs.Capture.{any_high}
use Rattle.layout.specs.Layout.{Form, layout, captured}
use Rattle.answers.specs.declared.Refusal.{Refusal}
use Rattle.answers.specs.declared.Refusal.TheVariants.{AuditLists, NoRoot}
use Rattle.walk.specs.Root.{Root}
use Rattle.settings.specs.Settings.{stage2_on, audit_settings}
use Rattle.regime.specs.Roots.{table_size, root2}
use Rattle.registers.specs.declared.El2.{El2}
use Rattle.answers.specs.Answers.{refusal_number, item_of}
use Rattle.answers.specs.Refusals.{Ground, refuse, core_file, high_capture, failing}
use Rattle.lists.specs.Lists.{zip, well_formed}
use Rattle.lists.specs.Search.{granted, touches, is_listed}
use Rattle.audit.specs.declared.Finding.{Finding}
use Rattle.audit.specs.declared.FindingKind.{FindingKind}
use Rattle.audit.specs.declared.FindingKind.TheVariants.{NotCaptured, TouchesGrant, UnlistedTable, OutsideGrants}

-- ---- the audit's answer: clean is `Ok None`; its number and its values. A finding has its own number, a refusal that of the table of answers; 0 for
-- clean is ours.

abbrev pub AuditAnswer : Type 0
AuditAnswer = Result (Option Finding) Refusal

abbrev pub finding_number : FindingKind → ℕ
finding_number NotCaptured = 1
finding_number TouchesGrant = 2
finding_number UnlistedTable = 3
finding_number OutsideGrants = 4

abbrev pub audit_number : AuditAnswer → ℕ
audit_number (Ok None) = 0
audit_number (Ok (Some f)) = finding_number f.kind
audit_number (Err r) = refusal_number r

-- the finding's address, or a settings refusal's item
abbrev pub audit_carries : AuditAnswer → List ℕ
audit_carries (Ok None) = []
audit_carries (Ok (Some f)) = f.address ∷ []
audit_carries (Err r) = item_of r

-- ---- findings

abbrev pub found : FindingKind → ℕ → AuditAnswer
found kind address = Ok (Some (record { kind = kind; address = address }))

-- the first that is not clean
unfoldable pub or_else : AuditAnswer → AuditAnswer → AuditAnswer
or_else (Ok None) b = b
or_else (Ok (Some f)) b = Ok (Some f)
or_else (Err r) b = Err r

-- ---- one table

-- a stage 2 descriptor's read
abbrev pub stage2_read : ℕ → Request
stage2_read a = record { reader = stage_2; address = a }

-- f at each of some entries from a on, ascending
unfoldable pub each_entry : (ℕ → AuditAnswer) → (entries a : ℕ) → AuditAnswer
each_entry f zero a = Ok None
each_entry f (suc n) a = or_else (f a) (each_entry f n (a + 8))

-- an entry that is not in the capture: finding 1, of the table
unfoldable pub missing : (table : ℕ) → Option ℕ → AuditAnswer
missing table None = found NotCaptured table
missing table (Some x) = Ok None

-- an entry x at an address, with n levels below it: its next table is listed one level on, or its range is inside a grant.
-- Addresses count with all bits to 47, whatever else the entry holds.
unfoldable pub examine_as : Geometry → (grants tables : List (ℕ × ℕ)) → (n at x : ℕ) → DescriptorType → AuditAnswer
examine_as g grants tables n at x DescriptorType.Invalid = Ok None
examine_as g grants tables n at x DescriptorType.Table = pick (is_listed tables (upper x g.grainsize) (4 - n)) (Ok None) (found UnlistedTable at)
examine_as g grants tables n at x DescriptorType.Leaf = pick (granted grants (upper x (shift g n)) (2 ^ shift g n)) (Ok None) (found OutsideGrants at)

unfoldable pub examine : Geometry → (grants tables : List (ℕ × ℕ)) → (n at : ℕ) → Option ℕ → AuditAnswer
examine g grants tables n at None = Ok None
examine g grants tables n at (Some x) = examine_as g grants tables n at x (descriptor_type g n x)

-- a table of 2 ^ j entries with n levels below them: 1, then 2, then the entries
unfoldable pub audit_table : (Request → Option ℕ) → Geometry → (grants tables : List (ℕ × ℕ)) → (n j table : ℕ) → AuditAnswer
audit_table m g grants tables n j table =
    or_else (each_entry (λ a. missing table (m (stage2_read a))) (2 ^ j) table)
    (or_else (pick (touches grants table (8 * 2 ^ j)) (found TouchesGrant table) (Ok None))
    (each_entry (λ a. examine g grants tables n a (m (stage2_read a))) (2 ^ j) table))

-- ---- all tables

-- a listed table has all of the granule's entries
unfoldable pub audit_listed : (Request → Option ℕ) → Geometry → (grants tables : List (ℕ × ℕ)) → List (ℕ × ℕ) → AuditAnswer
audit_listed m g grants tables [] = Ok None
audit_listed m g grants tables (t ∷ l) =
    or_else (audit_table m g grants tables (3 - t.1) g.stride t.0) (audit_listed m g grants tables l)

-- the root, and then each listed table
unfoldable pub audit_from : (Request → Option ℕ) → (grants tables : List (ℕ × ℕ)) → Root → AuditAnswer
audit_from m grants tables (Err u) = Err NoRoot
audit_from m grants tables (Ok t) =
    or_else (audit_table m t.geometry grants tables (t.levels - 1) t.bits t.base)
    (audit_listed m t.geometry grants tables tables)

-- ---- the audit

-- 17, 11, 12, 15, 16 in their order; 16 for a root that faults every IPA is `audit_from`'s
abbrev pub audit_grounds : (unreadable high : Bool) → El2 → (grants counts tables levels : List ℕ) → List Ground
audit_grounds unreadable high r grants counts tables levels =
    core_file unreadable
    ∷ high_capture high
    ∷ failing (audit_settings r)
    ∷ record { holds = not (well_formed (table_size r) grants counts tables levels); refusal = AuditLists }
    ∷ record { holds = not (stage2_on r); refusal = NoRoot }
    ∷ []

unfoldable pub audit_over : (Request → Option ℕ) → (unreadable high : Bool) → El2 → (grants counts tables levels : List ℕ) → AuditAnswer
audit_over m unreadable high r grants counts tables levels =
    refuse Err (audit_grounds unreadable high r grants counts tables levels)
    (audit_from m (zip grants counts) (zip tables levels) (root2 r))

-- the audit over a file
unfoldable pub audit : Form → (file : List ℕ) → El2 → (grants counts tables levels : List ℕ) → AuditAnswer
audit form file = audit_over (captured form file) (layout form file).unreadable (any_high (layout form file).banks)
