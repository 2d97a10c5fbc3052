-- The audit's rules, each as facts of the definitions: case M's neighbours.
-- Assumes nothing.
use Rattle.std.specs.Prelude.{◌≡◌, refl, List, [], ◌∷◌, ◌++◌, ℕ, zero, suc, ◌+◌, Ok, None, Err}
use Rattle.registers.specs.declared.El2.{El2}
use Rattle.answers.specs.declared.Refusal.TheVariants.{HighCapture, Settings, AuditLists, NoRoot}
use Rattle.audit.specs.Audit.{found}
use Rattle.audit.specs.declared.FindingKind.TheVariants.{NotCaptured, TouchesGrant, UnlistedTable, OutsideGrants}
use Rattle.audit.specs.Audit.{AuditAnswer}
use Rattle.facts.specs.Open.{opened}
use Rattle.facts.specs.Asked.{Image, audited, audited_pairs}
use Rattle.facts.specs.Cases.{words, image, cut, registers, el2, host, grants, tables}

-- ---- case M, but for some words, grants or tables

-- over the whole capture, with some words written over
abbrev pub audit_with : (changed grants tables : List (ℕ × ℕ)) → AuditAnswer
audit_with changed = audited_pairs (image changed) host

-- over the start of the capture
abbrev pub audit_cut : (length : ℕ) → AuditAnswer
audit_cut length = audited_pairs (cut length) host grants tables

-- with another word in place of 0x907FF, the leaf of frame 0x90000
abbrev pub leaf : (word : ℕ) → (grants : List (ℕ × ℕ)) → AuditAnswer
leaf word grants = audit_with ((0x40002280, word) ∷ []) grants tables

-- with another word in place of 0x40002003, the entry whose table is at 0x40002000
abbrev pub next : (word : ℕ) → AuditAnswer
next word = audit_with ((0x40001000, word) ∷ []) grants tables

-- with a block as the second entry of the level 2 table
abbrev pub block : (word : ℕ) → (grants : List (ℕ × ℕ)) → AuditAnswer
block word grants = audit_with ((0x40001008, word) ∷ []) grants tables

-- the second grant alone: frame 0x90000 is not granted
abbrev pub last_grant : List (ℕ × ℕ)
last_grant = (0x40003000, 0x3000) ∷ []

-- a grant between the two
abbrev pub with_grant : (address count : ℕ) → List (ℕ × ℕ)
with_grant address count = (0x90000, 0x1000) ∷ (address, count) ∷ last_grant

-- ---- finding 1: a table is not whole in the capture

-- the capture ends with the last table
case_m_whole : audit_cut 0x3000 ≡ Ok None
unfolding opened audited
case_m_whole = refl

-- a byte less
case_m_cut_byte : audit_cut 0x2FFF ≡ found NotCaptured 0x40002000
unfolding opened audited
case_m_cut_byte = refl

-- the root without its last entry
case_m_cut_root : audit_cut 0xFF8 ≡ found NotCaptured 0x40000000
unfolding opened audited
case_m_cut_root = refl

-- without its first
case_m_cut_first : audited_pairs (record { base = 0x40000008; length = 0x7FF8; words = words }) host grants tables ≡ found NotCaptured 0x40000000
unfolding opened audited
case_m_cut_first = refl

-- ---- finding 2: a table shares a byte with a grant

case_m_touched_root : audit_with [] (with_grant 0x40000000 0x1000) tables ≡ found TouchesGrant 0x40000000
unfolding opened audited
case_m_touched_root = refl

-- a grant that ends where the root starts; case M has one that starts where the last table ends
case_m_beside : audit_with [] (with_grant 0x3FFFF000 0x1000) tables ≡ Ok None
unfolding opened audited
case_m_beside = refl

-- input size 40 from level 1: the root has two pages, and the second is granted
case_m_wide : audited_pairs (image []) (el2 0x20058) ((0x40001000, 0x1000) ∷ []) [] ≡ found TouchesGrant 0x40000000
unfolding opened audited
case_m_wide = refl

-- a capture of n zeros
abbrev pub zeros : (base n : ℕ) → Image
zeros base n = record { base = base; length = n; words = [] }

-- input size 31 from level 1: the root is two entries, here the last of a page
abbrev pub narrow : El2
narrow = registers 40 0x80000001 0x20061 0x40000FF0 0

case_m_narrow_touched : audited_pairs (image []) narrow ((0x40000000, 0x1000) ∷ []) [] ≡ found TouchesGrant 0x40000FF0
unfolding opened audited
case_m_narrow_touched = refl

-- the rest of its page need not be captured, and the next may be granted
case_m_narrow : audited_pairs (zeros 0x40000FF0 16) narrow ((0x40001000, 0x1000) ∷ []) [] ≡ Ok None
unfolding opened audited
case_m_narrow = refl

-- ---- finding 3: an entry's next table is not listed one level lower down

case_m_unlisted_root : audit_with [] grants [] ≡ found UnlistedTable 0x40000000
unfolding opened audited
case_m_unlisted_root = refl

-- listed, but at another level: the root's next table
case_m_level_root : audit_with [] grants ((0x40001000, 3) ∷ (0x40002000, 3) ∷ []) ≡ found UnlistedTable 0x40000000
unfolding opened audited
case_m_level_root = refl

-- and a listed table's
case_m_level : audit_with [] grants ((0x40001000, 2) ∷ (0x40002000, 2) ∷ []) ≡ found UnlistedTable 0x40001000
unfolding opened audited
case_m_level = refl

-- ---- finding 4: a leaf's range is not inside one grant

-- frames 0x90000 and 0x91000, in place of the first grant
abbrev pub two_frames : List (ℕ × ℕ)
two_frames = (0x90000, 0x2000) ∷ last_grant

-- the leaf ends where the grant ends
case_m_end : leaf 0x917FF two_frames ≡ Ok None
unfolding opened audited
case_m_end = refl

-- it starts there
case_m_past : leaf 0x927FF two_frames ≡ found OutsideGrants 0x40002280
unfolding opened audited
case_m_past = refl

-- it ends where the grant starts
case_m_before : leaf 0x8F7FF two_frames ≡ found OutsideGrants 0x40002280
unfolding opened audited
case_m_before = refl

-- a block of 2MB
case_m_block : block 0x2007FD (with_grant 0x200000 0x200000) ≡ Ok None
unfolding opened audited
case_m_block = refl

-- its address is bits 47 down to 21
case_m_block_low : block 0x3FF7FD (with_grant 0x200000 0x200000) ≡ Ok None
unfolding opened audited
case_m_block_low = refl

-- without its last frame
case_m_block_end : block 0x2007FD (with_grant 0x200000 0x1FF000) ≡ found OutsideGrants 0x40001008
unfolding opened audited
case_m_block_end = refl

-- without its first
case_m_block_start : block 0x2007FD (with_grant 0x201000 0x1FF000) ≡ found OutsideGrants 0x40001008
unfolding opened audited
case_m_block_start = refl

-- its first alone
case_m_block_frame : block 0x2007FD (with_grant 0x200000 0x1000) ≡ found OutsideGrants 0x40001008
unfolding opened audited
case_m_block_frame = refl

-- all but one in its middle: two grants
case_m_block_gap : block 0x2007FD ((0x90000, 0x1000) ∷ (0x200000, 0x100000) ∷ (0x301000, 0xFF000) ∷ last_grant) ≡ found OutsideGrants 0x40001008
unfolding opened audited
case_m_block_gap = refl

-- a block of 1GB in the root
case_m_gigabyte : audit_with ((0x40000008, 0x800007FD) ∷ []) (grants ++ (0x80000000, 0x40000000) ∷ []) tables ≡ Ok None
unfolding opened audited
case_m_gigabyte = refl

-- without its last frame
case_m_gigabyte_end : audit_with ((0x40000008, 0x800007FD) ∷ []) (grants ++ (0x80000000, 0x3FFFF000) ∷ []) tables ≡ found OutsideGrants 0x40000008
unfolding opened audited
case_m_gigabyte_end = refl

-- ---- entries that are passed over: frame 0x90000 is not granted, or no table is listed

-- type 01 at level 3
case_m_type_01 : leaf 0x907FD last_grant ≡ Ok None
unfolding opened audited
case_m_type_01 = refl

-- bit 0 clear
case_m_bit_0 : leaf 0x907FE last_grant ≡ Ok None
unfolding opened audited
case_m_bit_0 = refl

case_m_bit_0_root : audit_with ((0x40000000, 0x40001002) ∷ []) grants [] ≡ Ok None
unfolding opened audited
case_m_bit_0_root = refl

-- with another PAMax
abbrev pub sized : (pamax vtcr : ℕ) → El2
sized pamax vtcr = registers pamax 0x80000001 vtcr 0x40000000 0

-- input size 40 from level 0: the root is two entries
abbrev pub from_level0 : (pamax : ℕ) → El2
from_level0 pamax = sized pamax 0x20098

-- type 01 at level 0
case_m_type_01_level_0 : audited_pairs (image ((0x40000000, 0x40001001) ∷ [])) (from_level0 44) grants [] ≡ Ok None
unfolding opened audited
case_m_type_01_level_0 = refl

-- type 11 there
case_m_type_11_level_0 : audited_pairs (image []) (from_level0 44) grants [] ≡ found UnlistedTable 0x40000000
unfolding opened audited
case_m_type_11_level_0 = refl

-- with its table listed at level 1, that table's entry is the first
case_m_level_1 : audited_pairs (image []) (from_level0 44) grants ((0x40001000, 1) ∷ []) ≡ found UnlistedTable 0x40001000
unfolding opened audited
case_m_level_1 = refl

-- ---- leaves and tables count whatever their flags, and with all bits to 47; the output size is 40

-- access flag clear
case_m_flag : leaf 0x903FF last_grant ≡ found OutsideGrants 0x40002280
unfolding opened audited
case_m_flag = refl

-- neither read nor write
case_m_denied : leaf 0x9073F last_grant ≡ found OutsideGrants 0x40002280
unfolding opened audited
case_m_denied = refl

case_m_bit_47 : leaf 0x8000000907FF grants ≡ found OutsideGrants 0x40002280
unfolding opened audited
case_m_bit_47 = refl

case_m_bit_47_granted : leaf 0x8000000907FF (last_grant ++ (0x800000090000, 0x1000) ∷ []) ≡ Ok None
unfolding opened audited
case_m_bit_47_granted = refl

case_m_bit_48 : leaf 0x10000000907FF grants ≡ Ok None
unfolding opened audited
case_m_bit_48 = refl

case_m_table_47 : next 0x800040002003 ≡ found UnlistedTable 0x40001000
unfolding opened audited
case_m_table_47 = refl

case_m_table_48 : next 0x1000040002003 ≡ Ok None
unfolding opened audited
case_m_table_48 = refl

-- ---- the order of findings

case_m_1_before_2 : audited_pairs (cut 0x2FF8) host ((0x90000, 0x1000) ∷ (0x40002000, 0x1000) ∷ []) tables ≡ found NotCaptured 0x40002000
unfolding opened audited
case_m_1_before_2 = refl

case_m_2_before_3 : audit_with [] (with_grant 0x40000000 0x1000) [] ≡ found TouchesGrant 0x40000000
unfolding opened audited
case_m_2_before_3 = refl

case_m_2_before_4 : audit_with [] ((0x40002000, 0x4000) ∷ []) tables ≡ found TouchesGrant 0x40002000
unfolding opened audited
case_m_2_before_4 = refl

-- entries ascending, whichever finding is the first
case_m_3_then_4 : audit_with ((0x40001008, 0x2007FD) ∷ []) grants ((0x40001000, 2) ∷ []) ≡ found UnlistedTable 0x40001000
unfolding opened audited
case_m_3_then_4 = refl

case_m_4_then_3 : audit_with ((0x40001000, 0x2007FD) ∷ (0x40001008, 0x40002003) ∷ []) grants ((0x40001000, 2) ∷ []) ≡ found OutsideGrants 0x40001000
unfolding opened audited
case_m_4_then_3 = refl

-- the root before a listed table, though that lies before it and is not captured
case_m_root_first : audit_with [] grants ((0x3FFFF000, 3) ∷ []) ≡ found UnlistedTable 0x40000000
unfolding opened audited
case_m_root_first = refl

-- a listed table's last entry before the next table, though that is not whole
case_m_first_table : audited_pairs (record { base = 0x40000000; length = 0x2FF8; words = (0x40001FF8, 0x2007FD) ∷ words }) host grants tables ≡ found OutsideGrants 0x40001FF8
unfolding opened audited
case_m_first_table = refl

-- ---- what is listed is examined

-- no entry leads to the table
case_m_unreached : audit_with ((0x40006000, 0xA07FF) ∷ []) grants (tables ++ (0x40006000, 3) ∷ []) ≡ found OutsideGrants 0x40006000
unfolding opened audited
case_m_unreached = refl

case_m_unreached_cut : audit_with [] grants (tables ++ (0x40008000, 3) ∷ []) ≡ found NotCaptured 0x40008000
unfolding opened audited
case_m_unreached_cut = refl

-- a table at two levels
abbrev pub twice : (word : ℕ) → (grants : List (ℕ × ℕ)) → AuditAnswer
twice word grants = audit_with ((0x40006000, word) ∷ []) grants (tables ++ (0x40006000, 2) ∷ (0x40006000, 3) ∷ [])

-- a granted block at level 2, passed over at level 3
case_m_twice : twice 0x2007FD (with_grant 0x200000 0x200000) ≡ Ok None
unfolding opened audited
case_m_twice = refl

-- a table that is not listed at level 2, a granted page at level 3
case_m_twice_2 : twice 0x907FF grants ≡ found UnlistedTable 0x40006000
unfolding opened audited
case_m_twice_2 = refl

-- a listed table at level 2, a page outside the grants at level 3
case_m_twice_3 : twice 0x40002003 grants ≡ found OutsideGrants 0x40006000
unfolding opened audited
case_m_twice_3 = refl

-- ---- refusals: over an empty capture an audit that is not refused has finding 1 at its root

abbrev pub accepted : AuditAnswer
accepted = found NotCaptured 0x40000000

-- 15
abbrev pub malformed : AuditAnswer
malformed = Err AuditLists

-- 16
abbrev pub rootless : AuditAnswer
rootless = Err NoRoot

-- the lists alone
abbrev pub lists : (grants tables : List (ℕ × ℕ)) → AuditAnswer
lists = audited_pairs (cut 0) host

-- a grant after another, a table after another
abbrev pub next_grant : (address count : ℕ) → AuditAnswer
next_grant address count = lists ((0x90000, 0x1000) ∷ (address, count) ∷ []) []

abbrev pub next_table : (address level : ℕ) → AuditAnswer
next_table address level = lists [] ((0x40001000, 2) ∷ (address, level) ∷ [])

-- the registers alone
abbrev pub on_el2 : El2 → AuditAnswer
on_el2 r = audited_pairs (cut 0) r grants tables

-- ---- answer 15: lengths

-- n grants or tables, a step from each to the next
unfoldable pub ladder : (n address step second : ℕ) → List (ℕ × ℕ)
ladder zero address step second = []
ladder (suc n) address step second = (address, second) ∷ ladder n (address + step) step second

case_m_none : lists [] [] ≡ accepted
unfolding opened audited
case_m_none = refl

case_m_grants_256 : lists (ladder 256 0 0x2000 0x1000) [] ≡ accepted
unfolding opened audited ladder
case_m_grants_256 = refl

case_m_grants_257 : lists (ladder 257 0 0x2000 0x1000) [] ≡ malformed
unfolding opened audited ladder
case_m_grants_257 = refl

case_m_tables_1024 : lists [] (ladder 1024 0 0x1000 3) ≡ accepted
unfolding opened audited ladder
case_m_tables_1024 = refl

case_m_tables_1025 : lists [] (ladder 1025 0 0x1000 3) ≡ malformed
unfolding opened audited ladder
case_m_tables_1025 = refl

-- paired lists of unequal length
case_m_grant_alone : audited (cut 0) host (0x90000 ∷ 0x92000 ∷ []) (0x1000 ∷ []) [] [] ≡ malformed
unfolding opened audited
case_m_grant_alone = refl

case_m_count_alone : audited (cut 0) host (0x90000 ∷ []) (0x1000 ∷ 0x1000 ∷ []) [] [] ≡ malformed
unfolding opened audited
case_m_count_alone = refl

case_m_table_alone : audited (cut 0) host [] [] (0x40001000 ∷ 0x40002000 ∷ []) (2 ∷ []) ≡ malformed
unfolding opened audited
case_m_table_alone = refl

case_m_level_alone : audited (cut 0) host [] [] (0x40001000 ∷ []) (2 ∷ 3 ∷ []) ≡ malformed
unfolding opened audited
case_m_level_alone = refl

-- ---- answer 15: grants

-- one frame lies between them
case_m_gap : next_grant 0x92000 0x1000 ≡ accepted
unfolding opened audited
case_m_gap = refl

-- none, between the last two
case_m_no_gap : lists ((0x90000, 0x1000) ∷ (0x92000, 0x1000) ∷ (0x93000, 0x1000) ∷ []) [] ≡ malformed
unfolding opened audited
case_m_no_gap = refl

case_m_grants_descend : next_grant 0x8E000 0x1000 ≡ malformed
unfolding opened audited
case_m_grants_descend = refl

case_m_grant_twice : next_grant 0x90000 0x1000 ≡ malformed
unfolding opened audited
case_m_grant_twice = refl

-- no multiple of 4,096
case_m_grant_address : next_grant 0x92800 0x1000 ≡ malformed
unfolding opened audited
case_m_grant_address = refl

case_m_count : next_grant 0x92000 0x1800 ≡ malformed
unfolding opened audited
case_m_count = refl

case_m_count_0 : next_grant 0x92000 0 ≡ malformed
unfolding opened audited
case_m_count_0 = refl

-- it ends at 2^48, a frame past it, and past 2^64
case_m_grant_top : next_grant 0xFFFFFFFFF000 0x1000 ≡ accepted
unfolding opened audited
case_m_grant_top = refl

case_m_grant_over : next_grant 0xFFFFFFFFF000 0x2000 ≡ malformed
unfolding opened audited
case_m_grant_over = refl

case_m_grant_wraps : next_grant 0xFFFFFFFFFFFFF000 0x2000 ≡ malformed
unfolding opened audited
case_m_grant_wraps = refl

-- one grant of all addresses
case_m_grant_all : lists ((0, 0x1000000000000) ∷ []) [] ≡ accepted
unfolding opened audited
case_m_grant_all = refl

-- ---- answer 15: tables

case_m_table_address : next_table 0x40002800 3 ≡ malformed
unfolding opened audited
case_m_table_address = refl

-- it ends at 2^48, a frame past it, and at 2^64
case_m_table_top : next_table 0xFFFFFFFFF000 3 ≡ accepted
unfolding opened audited
case_m_table_top = refl

case_m_table_over : next_table 0x1000000000000 3 ≡ malformed
unfolding opened audited
case_m_table_over = refl

case_m_table_wraps : next_table 0xFFFFFFFFFFFFF000 3 ≡ malformed
unfolding opened audited
case_m_table_wraps = refl

-- by address, whatever the level
case_m_tables_descend : next_table 0x40000000 3 ≡ malformed
unfolding opened audited
case_m_tables_descend = refl

-- at one address by level
case_m_table_twice : next_table 0x40001000 2 ≡ malformed
unfolding opened audited
case_m_table_twice = refl

case_m_levels_ascend : next_table 0x40001000 3 ≡ accepted
unfolding opened audited
case_m_levels_ascend = refl

case_m_levels_descend : next_table 0x40001000 1 ≡ malformed
unfolding opened audited
case_m_levels_descend = refl

-- levels 1 to 3
case_m_listed_0 : next_table 0x40002000 0 ≡ malformed
unfolding opened audited
case_m_listed_0 = refl

case_m_listed_1 : next_table 0x40002000 1 ≡ accepted
unfolding opened audited
case_m_listed_1 = refl

case_m_listed_3 : next_table 0x40002000 3 ≡ accepted
unfolding opened audited
case_m_listed_3 = refl

case_m_listed_4 : next_table 0x40002000 4 ≡ malformed
unfolding opened audited
case_m_listed_4 = refl

-- ---- answer 16

-- by HCR_EL2, and by VTTBR_EL2
abbrev pub on_hcr : (hcr : ℕ) → AuditAnswer
on_hcr hcr = on_el2 (registers 40 hcr 0x20059 0x40000000 0)

abbrev pub on_base : (vttbr : ℕ) → AuditAnswer
on_base vttbr = on_el2 (registers 40 0x80000001 0x20059 vttbr 0)

-- neither VM nor DC; VM is case M's
case_m_off : on_hcr 0x80000000 ≡ rootless
unfolding opened audited
case_m_off = refl

-- DC alone
case_m_dc : on_hcr 0x80001000 ≡ accepted
unfolding opened audited
case_m_dc = refl

-- start level -1
case_m_sl0_3 : on_el2 (el2 0x200D9) ≡ rootless
unfolding opened audited
case_m_sl0_3 = refl

-- start level 0, by PAMax
case_m_level_0_42 : on_el2 (from_level0 42) ≡ rootless
unfolding opened audited
case_m_level_0_42 = refl

case_m_level_0_44 : on_el2 (from_level0 44) ≡ accepted
unfolding opened audited
case_m_level_0_44 = refl

-- size checks: -14 from level 0, 0 and 1 from level 1, 13 and 14 from level 2
case_m_check_minus_14 : on_el2 (sized 44 0x200A7) ≡ rootless
unfolding opened audited
case_m_check_minus_14 = refl

case_m_check_0 : on_el2 (el2 0x20062) ≡ rootless
unfolding opened audited
case_m_check_0 = refl

case_m_check_1 : on_el2 (el2 0x20061) ≡ accepted
unfolding opened audited
case_m_check_1 = refl

case_m_check_13 : on_el2 (el2 0x2001E) ≡ accepted
unfolding opened audited
case_m_check_13 = refl

case_m_check_14 : on_el2 (el2 0x2001D) ≡ rootless
unfolding opened audited
case_m_check_14 = refl

-- the output size is 40: bit 39 of the base register, 40, 47 and, past the address, 48
case_m_base_39 : on_base 0x8040000000 ≡ found NotCaptured 0x8040000000
unfolding opened audited
case_m_base_39 = refl

case_m_base_40 : on_base 0x10040000000 ≡ rootless
unfolding opened audited
case_m_base_40 = refl

case_m_base_47 : on_base 0x800040000000 ≡ rootless
unfolding opened audited
case_m_base_47 = refl

case_m_base_48 : on_base 0x1000040000000 ≡ accepted
unfolding opened audited
case_m_base_48 = refl

-- bits below the root's size do not count
case_m_base_low : on_base 0x40000FFF ≡ accepted
unfolding opened audited
case_m_base_low = refl

-- ---- answer 12: each item with all later ones failing too. Items 5 to 7 and SCTLR_EL1's EE are the guest's, which no audit is given.

-- items 4, 8 and 9 fail if stage 2 is on
abbrev pub late : (pamax hcr : ℕ) → AuditAnswer
late pamax hcr = on_el2 (registers pamax hcr 0x60028 0x40000000 0x2000000)

case_m_item_1 : late 41 0x8000001 ≡ Err (Settings 1)
unfolding opened audited
case_m_item_1 = refl

case_m_item_2 : late 40 0x8000001 ≡ Err (Settings 2)
unfolding opened audited
case_m_item_2 = refl

case_m_item_3 : late 40 1 ≡ Err (Settings 3)
unfolding opened audited
case_m_item_3 = refl

-- EE of SCTLR_EL2
case_m_item_4 : late 40 0x80000001 ≡ Err (Settings 4)
unfolding opened audited
case_m_item_4 = refl

-- PS is 6; 5 passes
case_m_item_8 : on_el2 (el2 0x60028) ≡ Err (Settings 8)
unfolding opened audited
case_m_item_8 = refl

case_m_item_8_passes : on_el2 (el2 0x50059) ≡ accepted
unfolding opened audited
case_m_item_8_passes = refl

-- T0SZ is 40; 39 passes
case_m_item_9 : on_el2 (el2 0x20028) ≡ Err (Settings 9)
unfolding opened audited
case_m_item_9 = refl

case_m_item_9_passes : on_el2 (el2 0x20027) ≡ accepted
unfolding opened audited
case_m_item_9_passes = refl

-- T0SZ is 15; 16 passes
case_m_size_15 : on_el2 (sized 48 0x2008F) ≡ Err (Settings 9)
unfolding opened audited
case_m_size_15 = refl

case_m_size_16 : on_el2 (sized 48 0x20090) ≡ accepted
unfolding opened audited
case_m_size_16 = refl

-- TG0 is 3, which is reserved
case_m_granule : on_el2 (el2 0x2C059) ≡ Err (Settings 9)
unfolding opened audited
case_m_granule = refl

-- input size 41, by PAMax
case_m_pamax : on_el2 (el2 0x20057) ≡ Err (Settings 9)
unfolding opened audited
case_m_pamax = refl

case_m_pamax_passes : on_el2 (sized 42 0x20057) ≡ accepted
unfolding opened audited
case_m_pamax_passes = refl

-- with stage 2 off, 4, 8 and 9 do not count
case_m_items_off : late 40 0x80000000 ≡ rootless
unfolding opened audited
case_m_items_off = refl

-- ---- answer 11, and the order of refusals: each with all later ones

-- stage 2 is off, and a count is 0
abbrev pub wrong : Image → (pamax : ℕ) → AuditAnswer
wrong c pamax = audited_pairs c (registers pamax 0x80000000 0x20059 0x40000000 0) ((0x90000, 0) ∷ []) tables

-- the capture ends at 2^48, a byte past it, and at 2^64
case_m_high : audited_pairs (zeros 0xFFFFFFFFFFF8 8) host grants tables ≡ accepted
unfolding opened audited
case_m_high = refl

case_m_too_high : audited_pairs (zeros 0xFFFFFFFFFFF8 9) host grants tables ≡ Err HighCapture
unfolding opened audited
case_m_too_high = refl

case_m_wraps : audited_pairs (zeros 0xFFFFFFFFFFFFFFF8 8) host grants tables ≡ Err HighCapture
unfolding opened audited
case_m_wraps = refl

case_m_11_before_12 : wrong (zeros 0xFFFFFFFFFFF8 9) 41 ≡ Err HighCapture
unfolding opened audited
case_m_11_before_12 = refl

case_m_12_before_15 : wrong (cut 0) 41 ≡ Err (Settings 1)
unfolding opened audited
case_m_12_before_15 = refl

case_m_15_before_16 : wrong (cut 0) 40 ≡ malformed
unfolding opened audited
case_m_15_before_16 = refl

-- 16 for an unusable root comes as late
case_m_15_before_root : audited_pairs (cut 0) (el2 0x200D9) ((0x90000, 0) ∷ []) tables ≡ malformed
unfolding opened audited
case_m_15_before_root = refl
