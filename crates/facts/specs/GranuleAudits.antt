-- The audit with each granule of stage 2 (02, §3).
-- Assumes nothing.
use Rattle.std.specs.Prelude.{◌≡◌, refl, List, [], ◌∷◌, map, ℕ, ◌+◌, ◌-◌, ◌*◌, ◌^◌, Ok, None}
use Rattle.audit.specs.Audit.{found}
use Rattle.audit.specs.declared.FindingKind.TheVariants.{NotCaptured, TouchesGrant, UnlistedTable, OutsideGrants}
use Rattle.audit.specs.Audit.{AuditAnswer}
use Rattle.registers.specs.declared.El2.{El2}
use Rattle.facts.specs.Open.{opened}
use Rattle.facts.specs.Asked.{audited_pairs, audited}
use Rattle.facts.specs.Cases.{cut, registers}
use Rattle.facts.specs.Audits.{zeros, accepted, malformed, rootless}
use Rattle.facts.specs.Granules.{Grain, g4kb, g16kb, g64kb, each, bytes, next, host_from}

-- ---- a root of level 2, and a listed table of level 3 one granule after it

-- 30 bits: the root has 512, 32 or 2 entries
abbrev pub registers2 : Grain → El2
registers2 k = host_from k 48 2 30

-- the table's address, and that of its last entry: of 512, 2,048 or 8,192
abbrev pub table : Grain → ℕ
table k = 0x40000000 + bytes k

abbrev pub last_entry : Grain → ℕ
last_entry k = table k + bytes k - 8

-- a block of level 2
abbrev pub block_bytes : Grain → ℕ
block_bytes k = 2 ^ (2 * k.log - 3)

-- the root's first entries are the table and a block, the table's last entry is a page
abbrev pub words : Grain → List (ℕ × ℕ)
words k = (0x40000000, next k 1) ∷ (0x40000008, 0x600007FD) ∷ (last_entry k, 0x907FF) ∷ []

-- a grant of the page, and one of the block
abbrev pub page_grant : Grain → ℕ × ℕ
page_grant k = (0x90000, bytes k)

abbrev pub block_grant : Grain → ℕ × ℕ
block_grant k = (0x60000000, block_bytes k)

abbrev pub grants : Grain → List (ℕ × ℕ)
grants k = page_grant k ∷ block_grant k ∷ []

-- over some words and so many bytes
abbrev pub audit_of : Grain → (length : ℕ) → (words grants tables : List (ℕ × ℕ)) → AuditAnswer
audit_of k length words = audited_pairs (record { base = 0x40000000; length = length; words = words }) (registers2 k)

-- the same with root and table captured and the table listed
abbrev pub audit : Grain → (words grants : List (ℕ × ℕ)) → AuditAnswer
audit k words grants = audit_of k (2 * bytes k) words grants ((table k, 3) ∷ [])

abbrev pub clean : List AuditAnswer
clean = each (λ k. (Ok None))

audit_clean : each (λ k. audit k (words k) (grants k)) ≡ clean
unfolding opened audited
audit_clean = refl

-- bits from 12 up, below the granule in a table's entry and a page's, and below the block's size in a block's, do not count
abbrev pub low_words : Grain → List (ℕ × ℕ)
low_words k =
    (0x40000000, next k 2 - 0x1000) ∷ (0x40000008, 0x600007FD + block_bytes k - 0x1000) ∷ (last_entry k, 0x907FF + bytes k - 0x1000) ∷ []

audit_low : each (λ k. audit k (low_words k) (grants k)) ≡ clean
unfolding opened audited
audit_low = refl

-- finding 1: the table's last entry is cut off
audit_cut_case : each (λ k. audit_of k (2 * bytes k - 8) (words k) (grants k) ((table k, 3) ∷ []))
    ≡ each (λ k. found NotCaptured (table k))
unfolding opened audited
audit_cut_case = refl

-- the root's
audit_cut_root : audit_of g4kb 0xFF8 [] [] [] ∷ audit_of g16kb 0xF8 [] [] [] ∷ audit_of g64kb 8 [] [] [] ∷ [] ≡ each (λ k. found NotCaptured 0x40000000)
unfolding opened audited
audit_cut_root = refl

-- finding 2: the table's last frame is granted
audit_touched : each (λ k. audit k (words k) (page_grant k ∷ (table k + bytes k - 0x1000, 0x1000) ∷ block_grant k ∷ []))
    ≡ each (λ k. found TouchesGrant (table k))
unfolding opened audited
audit_touched = refl

-- the frame after it
audit_beside : each (λ k. audit k (words k) (page_grant k ∷ (table k + bytes k, 0x1000) ∷ block_grant k ∷ [])) ≡ clean
unfolding opened audited
audit_beside = refl

-- a root of two tables, the second one's last frame granted
abbrev pub two_tables : Grain → (level s : ℕ) → AuditAnswer
two_tables k l s = audited_pairs (zeros 0x40000000 (2 * bytes k)) (host_from k 48 l s) ((table k + bytes k - 0x1000, 0x1000) ∷ []) []

audit_concatenated : two_tables g4kb 1 40 ∷ two_tables g16kb 2 37 ∷ two_tables g64kb 2 43 ∷ [] ≡ each (λ k. found TouchesGrant 0x40000000)
unfolding opened audited
audit_concatenated = refl

-- finding 3: the table is not listed, or at another level
audit_unlisted : each (λ k. map (audit_of k (2 * bytes k) (words k) []) ([] ∷ ((table k, 2) ∷ []) ∷ []))
    ≡ each (λ k. found UnlistedTable 0x40000000 ∷ found UnlistedTable 0x40000000 ∷ [])
unfolding opened audited
audit_unlisted = refl

-- finding 4: the page's grant lies a frame before it. The page stands in the table's last entry.
audit_page : each (λ k. audit k (words k) ((0x8F000, bytes k) ∷ block_grant k ∷ [])) ≡ each (λ k. found OutsideGrants (last_entry k))
unfolding opened audited
audit_page = refl

-- the block's grant lacks its last frame
audit_block : each (λ k. audit k (words k) (page_grant k ∷ (0x60000000, block_bytes k - 0x1000) ∷ [])) ≡ each (λ k. found OutsideGrants 0x40000008)
unfolding opened audited
audit_block = refl

-- ---- type 01 at level 1, nothing granted: a block with 4KB, passed over with 16KB and 64KB

-- in a root of two entries
abbrev pub in_root : (word : ℕ) → Grain → (s : ℕ) → AuditAnswer
in_root word k s = audited_pairs (record { base = 0x40000000; length = 16; words = (0x40000008, word) ∷ [] }) (host_from k 48 1 s) [] []

abbrev pub in_roots : (word : ℕ) → List AuditAnswer
in_roots word = in_root word g4kb 31 ∷ in_root word g16kb 37 ∷ in_root word g64kb 43 ∷ []

audit_level_1 : in_roots 0xC00007FD ≡ found OutsideGrants 0x40000008 ∷ (Ok None) ∷ (Ok None) ∷ []
unfolding opened audited
audit_level_1 = refl

-- type 11 there
audit_level_1_table : in_roots 0xC00007FF ≡ each (λ k. found UnlistedTable 0x40000008)
unfolding opened audited
audit_level_1_table = refl

-- in a listed table
audit_listed_1 : each (λ k. audit_of k (2 * bytes k) ((table k, 0xC00007FD) ∷ []) [] ((table k, 1) ∷ []))
    ≡ found OutsideGrants (table g4kb) ∷ (Ok None) ∷ (Ok None) ∷ []
unfolding opened audited
audit_listed_1 = refl

-- ---- answer 15: over an empty capture, as in Audits

-- a table, with stage 2 on
abbrev pub table_at : Grain → (address : ℕ) → AuditAnswer
table_at k at = audit_of k 0 [] [] ((at, 3) ∷ [])

-- with stage 2 off
abbrev pub table_off : Grain → (address : ℕ) → AuditAnswer
table_off k at = audited_pairs (cut 0) (registers 48 0x80000000 (k.tg0 * 0x4000) 0 0) [] ((at, 3) ∷ [])

-- multiples of 4,096 up to the granule
audit_aligned : each (λ k. map (table_at k) (0x1000 ∷ 0x2000 ∷ 0x4000 ∷ 0x8000 ∷ 0x10000 ∷ []))
    ≡ (accepted ∷ accepted ∷ accepted ∷ accepted ∷ accepted ∷ [])
    ∷ (malformed ∷ malformed ∷ accepted ∷ accepted ∷ accepted ∷ [])
    ∷ (malformed ∷ malformed ∷ malformed ∷ malformed ∷ accepted ∷ [])
    ∷ []
unfolding opened audited
audit_aligned = refl

-- the last granule below 2^48, and the first past it
audit_top : each (λ k. map (table_at k) ((2 ^ 48 - bytes k) ∷ 2 ^ 48 ∷ [])) ≡ each (λ k. accepted ∷ malformed ∷ [])
unfolding opened audited
audit_top = refl

-- with stage 2 off a table has 4,096 bytes, whatever VTCR_EL2's TG0 is
audit_off : each (λ k. map (table_off k) (0x1000 ∷ 0x1800 ∷ (2 ^ 48 - 0x1000) ∷ 2 ^ 48 ∷ []))
    ≡ each (λ k. rootless ∷ malformed ∷ rootless ∷ malformed ∷ [])
unfolding opened audited
audit_off = refl

-- grants stay in 4,096 bytes
audit_grant : each (λ k. map (λ g. audit_of k 0 [] (g ∷ []) []) ((0x91000, 0x1000) ∷ (0x91800, 0x1000) ∷ (0x91000, 0x1800) ∷ []))
    ≡ each (λ k. accepted ∷ malformed ∷ malformed ∷ [])
unfolding opened audited
audit_grant = refl

-- ---- answer 16: over an empty capture

abbrev pub root_from : Grain → (pamax level s : ℕ) → AuditAnswer
root_from k pamax l s = audited_pairs (cut 0) (host_from k pamax l s) [] []

-- 0 and 1 index bits, 16 tables and a bit more
audit_bits : map (root_from g4kb 48 1) (30 ∷ 31 ∷ 43 ∷ 44 ∷ [])
    ∷ map (root_from g16kb 48 2) (25 ∷ 26 ∷ 40 ∷ 41 ∷ [])
    ∷ map (root_from g64kb 48 2) (29 ∷ 30 ∷ 46 ∷ 47 ∷ [])
    ∷ []
    ≡ each (λ k. rootless ∷ accepted ∷ accepted ∷ rootless ∷ [])
unfolding opened audited
audit_bits = refl

-- PAMax on both sides
audit_pamax : (root_from g4kb 42 0 40 ∷ root_from g4kb 44 0 40 ∷ [])
    ∷ (root_from g16kb 40 1 40 ∷ root_from g16kb 42 1 40 ∷ [])
    ∷ (root_from g64kb 42 1 42 ∷ root_from g64kb 44 1 43 ∷ [])
    ∷ []
    ≡ each (λ k. rootless ∷ accepted ∷ [])
unfolding opened audited
audit_pamax = refl

-- SL0 is 3
audit_level_0 : map (λ k. root_from k 48 0 48) (g16kb ∷ g64kb ∷ []) ≡ rootless ∷ rootless ∷ []
unfolding opened audited
audit_level_0 = refl
