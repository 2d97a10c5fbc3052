-- The cases of document 01, each as a fact of the definitions.
-- Assumes nothing.
use Rattle.std.specs.Prelude.{◌≡◌, refl, true, false, List, [], ◌∷◌, ◌++◌, ℕ, ◌-◌, pos, negsuc, length, replicate, Ok, Err, None, Some, None}
use Rattle.access.specs.declared.Access.{Access}
use Rattle.attributes.specs.declared.DeviceType.TheVariants.{NGnRnE}
use Rattle.attributes.specs.declared.Cacheability.TheVariants.{WriteBack}
use Rattle.attributes.specs.declared.MemoryType.TheVariants.{Device, Normal}
use Rattle.attributes.specs.declared.Shareability.TheVariants.{OuterShareable, InnerShareable}
use Rattle.capture.specs.Capture.{ends_high}
use Rattle.capture.specs.Sparse.{sparse}
use Rattle.answers.specs.Answers.{Value, address, attributes, stage, level, level1, level2, on_walk, ipa, reads, item}
use Rattle.registers.specs.declared.El1.{El1}
use Rattle.registers.specs.declared.El2.{El2}
use Rattle.settings.specs.Settings.{settings}
use Rattle.level.specs.Granule.{four_k, geometry_of}
use Rattle.level.specs.Level.{start2, size_check}
use Rattle.answers.specs.Question.{ask_over}
use Rattle.batch.specs.Batch.{Shared, unequal, batch_over}
use Rattle.ledger.specs.Ledger.{ledger, ascii, line}
use Rattle.ledger.specs.Line.{line_into}
use Rattle.ledger.specs.declared.Ledger.{Ledger}
use Rattle.answers.specs.declared.Refusal.TheVariants.{BatchLists, Settings}
use Rattle.audit.specs.declared.FindingKind.TheVariants.{NotCaptured, TouchesGrant, UnlistedTable, OutsideGrants}
use Rattle.audit.specs.Audit.{found}
use Rattle.facts.specs.Open.{opened}
use Rattle.facts.specs.Asked.{Image, before, asked, audited, audited_pairs}

-- ---- the capture and the registers that all cases start from

abbrev pub words : List (ℕ × ℕ)
words =
    (0x40000000, 0x40001003) ∷ (0x40001000, 0x40002003)
    ∷ (0x40002008, 0x400037FF) ∷ (0x40002010, 0x400047FF) ∷ (0x40002018, 0x400057FF) ∷ (0x40002280, 0x907FF)
    ∷ (0x40003000, 0x2003) ∷ (0x40004000, 0x3003) ∷ (0x40005008, 0x50743) ∷ []

-- with some words written over
abbrev pub image : (changed : List (ℕ × ℕ)) → Image
image changed = record { base = 0x40000000; length = 0x8000; words = changed ++ words }

-- cut to some length
abbrev pub cut : (length : ℕ) → Image
cut length = record { base = 0x40000000; length = length; words = words }

abbrev pub registers : (pamax hcr vtcr vttbr sctlr : ℕ) → El2
registers pamax hcr vtcr vttbr sctlr = record { pamax = pamax; hcr = record { 0 = hcr }; vtcr = record { 0 = vtcr }; vttbr = vttbr; sctlr = record { 0 = sctlr } }

abbrev pub el2 : (vtcr : ℕ) → El2
el2 vtcr = registers 40 0x80000001 vtcr 0x40000000 0

abbrev pub el1 : (sctlr tcr : ℕ) → El1
el1 sctlr tcr = record { sctlr = record { 0 = sctlr }; tcr = record { 0 = tcr }; ttbr0 = 0x1000; ttbr1 = 0; mair = 0xFF }

abbrev pub access : (at kind el : ℕ) → Access
access at kind el = record { address = at; kind = kind; el = el; size = 8 }

-- the registers as the cases give them
abbrev pub host : El2
host = el2 0x20059

abbrev pub guest : El1
guest = el1 5 0x200800019

-- stage 2's three reads, the last of entry e
abbrev pub down : (e : ℕ) → List ℕ
down e = 0x40000000 ∷ 0x40001000 ∷ e ∷ []

-- a log of 24 words after some reads
abbrev pub logged : List ℕ → List ℕ
logged l = l ++ replicate (24 - length l) before

-- the reads of case A: stage 1's three descriptors, each after stage 2's of its address, then those of the output
abbrev pub one : List ℕ
one = down 0x40002008

abbrev pub two : List ℕ
two = one ++ 0x40003000 ∷ down 0x40002010

abbrev pub three : List ℕ
three = two ++ 0x40004000 ∷ down 0x40002018

abbrev pub stage1_reads : List ℕ
stage1_reads = three ++ 0x40005008 ∷ []

abbrev pub all_reads : List ℕ
all_reads = stage1_reads ++ down 0x40002280

abbrev pub write_back : Value
write_back = attributes (record { memory = Normal WriteBack WriteBack; shareability = InnerShareable })

abbrev pub strict_device : Value
strict_device = attributes (record { memory = Device NGnRnE; shareability = OuterShareable })

-- ---- A to K

case_a : asked (image []) host guest (access 0x1008 0 0) 24
    ≡ record { number = 0; values = address 0x90008 ∷ write_back ∷ level1 3 ∷ level2 3 ∷ reads 15 ∷ []; log = logged (all_reads) }
unfolding opened asked
case_a = refl

-- each of A's walks ends at level 3: three on-walk, stage 1's own before the last
case_a_ends : (ask_over (sparse 0x40000000 0x8000 words) false (ends_high 0x40000000 0x8000) host guest (access 0x1008 0 0) (replicate 24 before)).ends ≡ 3 ∷ 3 ∷ 3 ∷ 3 ∷ 3 ∷ []
unfolding opened
case_a_ends = refl

-- A at the next word: no constant address will do
case_a_next : asked (image []) host guest (access 0x1010 0 0) 24
    ≡ record { number = 0; values = address 0x90010 ∷ write_back ∷ level1 3 ∷ level2 3 ∷ reads 15 ∷ []; log = logged (all_reads) }
unfolding opened asked
case_a_next = refl

-- A as a write, its stage 1 tables read-only at stage 2: a stage 1 walk reads, whatever the access
case_a_write : asked (image ((0x40002008, 0x4000377F) ∷ (0x40002010, 0x4000477F) ∷ (0x40002018, 0x4000577F) ∷ [])) host guest (access 0x1008 1 0) 24
    ≡ record { number = 0; values = address 0x90008 ∷ write_back ∷ level1 3 ∷ level2 3 ∷ reads 15 ∷ []; log = logged (all_reads) }
unfolding opened asked
case_a_write = refl

case_b : asked (image ((0x40002280, 0x9077F) ∷ [])) host guest (access 0x1008 1 0) 24
    ≡ record { number = 4; values = stage 2 ∷ level 3 ∷ on_walk false ∷ reads 15 ∷ ipa 0x50008 ∷ []; log = logged (all_reads) }
unfolding opened asked
case_b = refl

case_c : asked (image ((0x40002010, 0) ∷ [])) host guest (access 0x1008 0 0) 24
    ≡ record { number = 1; values = stage 2 ∷ level 3 ∷ on_walk true ∷ reads 7 ∷ ipa 0x2000 ∷ []; log = logged (two) }
unfolding opened asked
case_c = refl

case_d : asked (image ((0x40005008, 0x50343) ∷ [])) host guest (access 0x1008 0 0) 24
    ≡ record { number = 3; values = stage 1 ∷ level 3 ∷ on_walk false ∷ reads 12 ∷ []; log = logged (stage1_reads) }
unfolding opened asked
case_d = refl

case_e : asked (cut 0x4000) host guest (access 0x1008 0 0) 24
    ≡ record { number = 6; values = address 0x40004000 ∷ stage 1 ∷ level 2 ∷ on_walk false ∷ reads 7 ∷ []; log = logged (two) }
unfolding opened asked
case_e = refl

case_f : asked (image []) host guest (access 0x8000000000 0 0) 24
    ≡ record { number = 1; values = stage 1 ∷ level 0 ∷ on_walk false ∷ reads 0 ∷ []; log = logged ([]) }
unfolding opened asked
case_f = refl

case_g : asked (image []) host guest (access 0x7FFFFFFFFF 0 0) 24
    ≡ record { number = 1; values = stage 1 ∷ level 1 ∷ on_walk false ∷ reads 4 ∷ []; log = logged (one ++ 0x40003FF8 ∷ []) }
unfolding opened asked
case_g = refl

case_h : asked (image []) host guest (access 0x1008 2 1) 24
    ≡ record { number = 4; values = stage 1 ∷ level 3 ∷ on_walk false ∷ reads 12 ∷ []; log = logged (stage1_reads) }
unfolding opened asked
case_h = refl

-- SL0 is 3: the start level is -1
case_i : asked (image []) (el2 0x200D9) guest (access 0x1008 0 0) 24
    ≡ record { number = 1; values = stage 2 ∷ level 0 ∷ on_walk true ∷ reads 0 ∷ ipa 0x1000 ∷ []; log = logged ([]) }
unfolding opened asked
case_i = refl

case_j : asked (image []) host (el1 0 0x200800019) (access 0x50008 0 0) 24
    ≡ record { number = 0; values = address 0x90008 ∷ strict_device ∷ level1 0 ∷ level2 3 ∷ reads 3 ∷ []; log = logged (down 0x40002280) }
unfolding opened asked
case_j = refl

case_k : asked (image []) host (el1 0 0x200800019) (access 0x50009 0 0) 24
    ≡ record { number = 5; values = stage 1 ∷ reads 0 ∷ []; log = logged ([]) }
unfolding opened asked
case_k = refl

-- ---- L

case_l : asked (image []) host (el1 5 0x200800028) (access 0x1008 0 0) 24
    ≡ record { number = 12; values = item 6 ∷ []; log = logged ([]) }
unfolding opened asked
case_l = refl

-- the other side
case_l_passes : settings host (el1 5 0x200800027) ≡ 0
unfolding opened
case_l_passes = refl

case_l_walks : asked (image []) host (el1 5 0x200800027) (access 0x1008 0 0) 24
    ≡ record { number = 1; values = stage 1 ∷ level 3 ∷ on_walk false ∷ reads 8 ∷ []; log = logged (two ++ 0x40004008 ∷ []) }
unfolding opened asked
case_l_walks = refl

-- ---- M

-- (address, byte count)
abbrev pub grants : List (ℕ × ℕ)
grants = (0x90000, 0x1000) ∷ (0x40003000, 0x3000) ∷ []

-- (address, level)
abbrev pub tables : List (ℕ × ℕ)
tables = (0x40001000, 2) ∷ (0x40002000, 3) ∷ []

case_m : audited_pairs (image []) host grants tables ≡ Ok None
unfolding opened audited
case_m = refl

-- without the first grant
case_m_found : audited_pairs (image []) host ((0x40003000, 0x3000) ∷ []) tables ≡ found OutsideGrants 0x40002280
unfolding opened audited
case_m_found = refl

-- finding 1: the last entry of the level 3 table is cut off
case_m_cut : audited_pairs (cut 0x2FF8) host grants tables ≡ found NotCaptured 0x40002000
unfolding opened audited
case_m_cut = refl

-- finding 2: a grant holds that table
case_m_touched : audited_pairs (image []) host ((0x90000, 0x1000) ∷ (0x40002000, 0x4000) ∷ []) tables ≡ found TouchesGrant 0x40002000
unfolding opened audited
case_m_touched = refl

-- finding 3: that table is not listed
case_m_unlisted : audited_pairs (image []) host grants ((0x40001000, 2) ∷ []) ≡ found UnlistedTable 0x40001000
unfolding opened audited
case_m_unlisted = refl

-- ---- a concatenated root

-- input size 40 from level 1: ten index bits, 513 here; the entry that nine bits would pick is zero
case_root : asked (record { base = 0x40000000; length = 0x8000; words = (0x40001008, 0x800007FD) ∷ [] }) (el2 0x20058) (el1 0 0) (access 0x8040000008 0 0) 24
    ≡ record { number = 0; values = address 0x80000008 ∷ strict_device ∷ level1 0 ∷ level2 1 ∷ reads 1 ∷ []; log = logged (0x40001008 ∷ []) }
unfolding opened asked
case_root = refl

-- ---- signed corners: start levels and size checks below 0

corner_start : start2 four_k 3 ≡ negsuc 0
unfolding opened
corner_start = refl

-- 25 bits from level 0 would leave 25 - 39 index bits, from level -1 25 - 48; 48 bits from level -1 leave none
corner_level_0 : size_check (geometry_of four_k 25 48) (pos 0) ≡ negsuc 13
unfolding opened
corner_level_0 = refl

corner_level_minus_1 : size_check (geometry_of four_k 25 48) (start2 four_k 3) ≡ negsuc 22
unfolding opened
corner_level_minus_1 = refl

corner_none : size_check (geometry_of four_k 48 48) (start2 four_k 3) ≡ pos 0
unfolding opened
corner_none = refl

-- ---- the batch and its ledger

abbrev pub shared : Shared
shared = record { el2 = host; el1 = guest; kind = 0; el = 0; size = 8 }

abbrev pub figures : Ledger
figures = record { asked = 2; translated = 1; faulted = 1; absent = 0; unsettled = 0 }

case_batch : batch_over (sparse 0x40000000 0x8000 words) false (ends_high 0x40000000 0x8000) shared (0x1008 ∷ 0x2000 ∷ []) (before ∷ before ∷ []) (before ∷ before ∷ [])
    ≡ record { answer = Ok figures; outputs = 0x90008 ∷ 0 ∷ []; numbers = 0 ∷ 1 ∷ [] }
unfolding opened
case_batch = refl

case_line : line figures ≡ ascii "asked 2 translated 1 faulted 1 absent 0 unsettled 0"
unfolding opened
case_line = refl

-- a buffer of the line's 51 bytes holds it whole
case_line_written : line_into figures (replicate 51 0x5A) ≡ record { answer = Some 51; buffer = line figures }
unfolding opened
case_line_written = refl

-- with a byte less: nothing is written
case_line_short : line_into figures (replicate 50 0x5A) ≡ record { answer = None; buffer = replicate 50 0x5A }
unfolding opened
case_line_short = refl

-- an empty batch is accepted
case_batch_empty : batch_over (sparse 0x40000000 0x8000 words) false (ends_high 0x40000000 0x8000) shared [] [] []
    ≡ record { answer = Ok (record { asked = 0; translated = 0; faulted = 0; absent = 0; unsettled = 0 }); outputs = []; numbers = [] }
unfolding opened
case_batch_empty = refl

-- lists of unequal length: nothing is written
case_batch_refused : batch_over (sparse 0x40000000 0x8000 words) false (ends_high 0x40000000 0x8000) shared (0x1008 ∷ 0x2000 ∷ []) (before ∷ []) (before ∷ before ∷ [])
    ≡ record { answer = Err BatchLists; outputs = before ∷ []; numbers = before ∷ before ∷ [] }
unfolding opened
case_batch_refused = refl

-- lists of unequal length are refused before the settings, and a refusal of the settings writes nothing either
abbrev pub strange : Shared
strange = record { el2 = registers 41 0 0 0 0; el1 = guest; kind = 0; el = 0; size = 8 }

case_batch_order : (batch_over (sparse 0x40000000 0x8000 words) false (ends_high 0x40000000 0x8000) strange (0x1008 ∷ []) [] []).answer ≡ Err BatchLists
unfolding opened
case_batch_order = refl

case_batch_settings : batch_over (sparse 0x40000000 0x8000 words) false (ends_high 0x40000000 0x8000) strange (0x1008 ∷ []) (before ∷ []) (before ∷ [])
    ≡ record { answer = Err (Settings 1); outputs = before ∷ []; numbers = before ∷ [] }
unfolding opened
case_batch_settings = refl

-- 4,096 addresses are not too many, one more is
case_batch_most : unequal 4096 4096 4096 ≡ false
case_batch_most = refl

case_batch_over : unequal 4097 4097 4097 ≡ true
case_batch_over = refl

-- faults are answers 1 to 5; each answer is counted once
case_figures : ledger (0 ∷ 1 ∷ 2 ∷ 3 ∷ 4 ∷ 5 ∷ 6 ∷ 7 ∷ []) ≡ record { asked = 8; translated = 1; faulted = 5; absent = 1; unsettled = 1 }
unfolding opened
case_figures = refl
