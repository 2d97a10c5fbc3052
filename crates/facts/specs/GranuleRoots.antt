-- The roots of each granule (02, §3): the two entries of 16KB, concatenated tables, PAMax; the contiguous rule, of leaves that stand in a
-- root; and the reserved granule codes.
-- Assumes nothing.
use Rattle.std.specs.Prelude.{◌≡◌, refl, false, List, [], ◌∷◌, ◌++◌, map, ℕ, ◌+◌, ◌-◌, ◌*◌, ◌^◌, replicate, Err}
use Rattle.answers.specs.Answers.{address, stage, level, level1, level2, on_walk, reads, item}
use Rattle.answers.specs.declared.Refusal.TheVariants.{Settings}
use Rattle.descriptor.specs.declared.entry.FaultKind.TheVariants.{Translation}
use Rattle.lists.specs.Lists.{zip}
use Rattle.regime.specs.Roots.{root2}
use Rattle.registers.specs.declared.El1.{El1}
use Rattle.registers.specs.declared.El2.{El2}
use Rattle.settings.specs.Settings.{settings, audit_settings}
use Rattle.walk.specs.Root.{unusable}
use Rattle.facts.specs.Open.{opened}
use Rattle.facts.specs.Asked.{Image, Row, asked, audited_pairs, audited}
use Rattle.facts.specs.Cases.{image, registers, el1, el2, host, guest, access, logged, write_back, grants, tables}
use Rattle.facts.specs.Granules as G
use Rattle.facts.specs.Granules.{Grain, g4kb, g16kb, g64kb, next, guest_of, lower_guest, host_at, host_from, no_host, no_guest}
use Rattle.facts.specs.Granules.{translated1, translated2, fault1, fault2, away, moved, mapped, all_of}

-- ---- the root of 16KB and 48 bits, at level 0 of stage 1: two entries before the three tables

-- the first or the second, by the address's bit 47
abbrev pub root_of_two : (bit entry : ℕ) → Row
root_of_two bit entry =
    asked
    (record {
      base = 0x3FFFFFF0;
      length = 0xC010;
      words = zip ((0x3FFFFFF0 + 8 * bit) ∷ g16kb.entries) (entry ∷ next g16kb 1 ∷ next g16kb 2 ∷ 0x907FF ∷ []);
    })
    no_host
    (lower_guest g16kb 48 0x3FFFFFF0)
    (access (bit * 2 ^ 47 + g16kb.address) 0 0)
    24

two_entries : map (λ bit. root_of_two bit (next g16kb 0)) (0 ∷ 1 ∷ [])
    ≡ translated1 0x93FF8 3 (0x3FFFFFF0 ∷ g16kb.entries)
    ∷ translated1 0x93FF8 3 (0x3FFFFFF8 ∷ g16kb.entries)
    ∷ []
unfolding opened asked
two_entries = refl

-- type 01 there
two_entries_block : map (λ bit. root_of_two bit 0x7FD) (0 ∷ 1 ∷ []) ≡ fault1 0 (0x3FFFFFF0 ∷ []) ∷ fault1 0 (0x3FFFFFF8 ∷ []) ∷ []
unfolding opened asked
two_entries_block = refl

-- over a 4KB stage 2 from level 0, the root after the three tables: as many reads as there can be
abbrev pub ipas : List ℕ
ipas = 0x4000C008 ∷ g16kb.entries

abbrev pub steps : (ipa : ℕ) → List ℕ
steps x = 0x3FFFF000 ∷ G.steps g4kb x

two_entries_deep : asked
    (record {
      base = 0x3FFFF000;
      length = 0x20000000;
      words =
          zip (moved ipas) (next g16kb 0 ∷ next g16kb 1 ∷ next g16kb 2 ∷ 0x400907FF ∷ [])
          ++ (0x3FFFF000, next g4kb 0) ∷ all_of (map (mapped g4kb) (ipas ++ 0x40093FF8 ∷ []));
    })
    (host_at 0x3FFFF000 g4kb 48 0 48)
    (lower_guest g16kb 48 0x4000C000)
    (access (2 ^ 47 + g16kb.address) 0 0)
    24
    ≡ record {
      number = 0;
      values = address 0x50093FF8 ∷ write_back ∷ level1 3 ∷ level2 3 ∷ reads 24 ∷ [];
      log = all_of (map (λ e. steps e ++ (e + away) ∷ []) ipas) ++ steps 0x40093FF8;
    }
unfolding opened asked
two_entries_deep = refl

-- ---- the last entry of a root, of each stage alone

-- the bytes of a root, by its level and the input size
abbrev pub root_bytes : Grain → (level s : ℕ) → ℕ
root_bytes k l s = 8 * 2 ^ (s - (k.log + (k.log - 3) * (3 - l)))

-- aligned to no more than them
abbrev pub root_at : Grain → (level s : ℕ) → ℕ
root_at k l s = 0x40000000 + root_bytes k l s

-- its last entry is a word
abbrev pub root_only : Grain → (level s word : ℕ) → Image
root_only k l s word = record { base = root_at k l s; length = root_bytes k l s; words = (root_at k l s + root_bytes k l s - 8, word) ∷ [] }

-- the last word of the input range
abbrev pub last1 : Grain → (level s word : ℕ) → Row
last1 k l s word = asked (root_only k l s word) no_host (lower_guest k s (root_at k l s)) (access (2 ^ s - 8) 0 0) 24

abbrev pub last2 : Grain → (pamax level s word : ℕ) → Row
last2 k pamax l s word = asked (root_only k l s word) (host_at (root_at k l s) k pamax l s) no_guest (access (2 ^ s - 8) 0 0) 24

-- type 01 at level 0 of 4KB, of each stage
walk_block_0 : last1 g4kb 0 48 0xC00007FD ∷ last2 g4kb 48 0 48 0xC00007FD ∷ []
    ≡ fault1 0 (0x40001FF8 ∷ []) ∷ fault2 0xFFFFFFFFFFF8 0 (0x40001FF8 ∷ []) ∷ []
unfolding opened asked
walk_block_0 = refl

-- ---- concatenated roots of stage 2, PAMax 48

-- 1GB, 32MB and 512MB blocks
abbrev pub blocks : (s4 s16 s64 : ℕ) → List Row
blocks s4 s16 s64 = last2 g4kb 48 1 s4 0xC00007FD ∷ last2 g16kb 48 2 s16 0xC00007FD ∷ last2 g64kb 48 2 s64 0xC00007FD ∷ []

-- found in these entries
abbrev pub blocks_in : (e4 e16 e64 : ℕ) → List Row
blocks_in e4 e16 e64 = translated2 0xFFFFFFF8 1 (e4 ∷ []) ∷ translated2 0xC1FFFFF8 2 (e16 ∷ []) ∷ translated2 0xDFFFFFF8 2 (e64 ∷ []) ∷ []

-- 16 tables: 13, 15 and 17 index bits. The entry that 9, 11 or 13 bits would pick is zero.
concatenated : blocks 43 40 46 ≡ blocks_in 0x4001FFF8 0x4007FFF8 0x401FFFF8
unfolding opened asked
concatenated = refl

-- a bit more
concatenated_over : blocks 44 41 47 ≡ fault2 0xFFFFFFFFFF8 0 [] ∷ fault2 0x1FFFFFFFFF8 0 [] ∷ fault2 0x7FFFFFFFFFF8 0 [] ∷ []
unfolding opened asked
concatenated_over = refl

-- one index bit
root_smallest : blocks 31 26 30 ≡ blocks_in 0x40000018 0x40000018 0x40000018
unfolding opened asked
root_smallest = refl

-- none
root_under : blocks 30 25 29 ≡ fault2 0x3FFFFFF8 0 [] ∷ fault2 0x1FFFFF8 0 [] ∷ fault2 0x1FFFFFF8 0 [] ∷ []
unfolding opened asked
root_under = refl

-- from level 3, where 16KB and 64KB alone start
abbrev pub pages : (s16 s64 : ℕ) → List Row
pages s16 s64 = last2 g16kb 48 3 s16 0x907FF ∷ last2 g64kb 48 3 s64 0x907FF ∷ []

-- 16 tables
concatenated_3 : pages 29 33 ≡ translated2 0x93FF8 3 (0x4007FFF8 ∷ []) ∷ translated2 0x9FFF8 3 (0x401FFFF8 ∷ []) ∷ []
unfolding opened asked
concatenated_3 = refl

-- a bit more
concatenated_3_over : pages 30 34 ≡ fault2 0x3FFFFFF8 0 [] ∷ fault2 0x3FFFFFFF8 0 [] ∷ []
unfolding opened asked
concatenated_3_over = refl

-- ---- PAMax and stage 2's first level: a root that is walked has its entry, which is zero, read

-- 4KB at level 0: 42 and 44
pamax_4kb : map (λ pamax. last2 g4kb pamax 0 40 0) (42 ∷ 44 ∷ []) ≡ fault2 0xFFFFFFFFF8 0 [] ∷ fault2 0xFFFFFFFFF8 0 (0x40000018 ∷ []) ∷ []
unfolding opened asked
pamax_4kb = refl

-- 16KB at level 1: 40 and 42
pamax_16kb : map (λ pamax. last2 g16kb pamax 1 40 0) (40 ∷ 42 ∷ []) ≡ fault2 0xFFFFFFFFF8 0 [] ∷ fault2 0xFFFFFFFFF8 1 (0x400000F8 ∷ []) ∷ []
unfolding opened asked
pamax_16kb = refl

-- 64KB at level 1: 42, which leaves no input size that its size check takes, and 44
pamax_64kb : last2 g64kb 42 1 42 0 ∷ last2 g64kb 44 1 43 0 ∷ [] ≡ fault2 0x3FFFFFFFFF8 0 [] ∷ fault2 0x7FFFFFFFFF8 1 (0x40000018 ∷ []) ∷ []
unfolding opened asked
pamax_64kb = refl

-- so the rule alone, with a size of 43 bits that settings refuse
pamax_64kb_rule : root2 (host_from g64kb 42 1 43) ≡ unusable Translation 0
unfolding opened
pamax_64kb_rule = refl

-- the level after: 16KB with 40, 64KB with 42
pamax_level_2 : last2 g16kb 40 2 40 0 ∷ last2 g64kb 42 2 42 0 ∷ []
    ≡ fault2 0xFFFFFFFFF8 2 (0x4007FFF8 ∷ []) ∷ fault2 0x3FFFFFFFFF8 2 (0x4001FFF8 ∷ []) ∷ []
unfolding opened asked
pamax_level_2 = refl

-- SL0 is 3, PAMax 48: level 0 of 16KB, which has an index bit, and of 64KB
level_0 : last2 g16kb 48 0 48 0 ∷ last2 g64kb 48 0 48 0 ∷ [] ≡ fault2 0xFFFFFFFFFFF8 0 [] ∷ fault2 0xFFFFFFFFFFF8 0 [] ∷ []
unfolding opened asked
level_0 = refl

-- ---- the contiguous bit, 52, of a leaf in a root of each stage

abbrev pub in_root : Grain → (level s leaf : ℕ) → Row × Row
in_root k l s leaf = (last1 k l s (2 ^ 52 + leaf), last2 k 48 l s (2 ^ 52 + leaf))

abbrev pub leaf_to : (output level entry : ℕ) → Row × Row
leaf_to output l entry = (translated1 output l (entry ∷ []), translated2 output l (entry ∷ []))

-- answer 7
abbrev pub unsettled : (level entry : ℕ) → Row × Row
unsettled l entry = (
  record { number = 7; values = stage 1 ∷ level l ∷ on_walk false ∷ reads 1 ∷ []; log = logged (entry ∷ []) },
  record { number = 7; values = stage 2 ∷ level l ∷ on_walk false ∷ reads 1 ∷ []; log = logged (entry ∷ []) },
)

-- 1GB, and 33 or 34 bits
contiguous_4kb : map (λ s. in_root g4kb 1 s 0xC00007FD) (33 ∷ 34 ∷ []) ≡ unsettled 1 0x40000078 ∷ leaf_to 0xFFFFFFF8 1 0x400000F8 ∷ []
unfolding opened asked
contiguous_4kb = refl

-- 32MB, and 29 or 30 bits
contiguous_16kb : map (λ s. in_root g16kb 2 s 0xC00007FD) (29 ∷ 30 ∷ []) ≡ unsettled 2 0x400000F8 ∷ leaf_to 0xC1FFFFF8 2 0x400001F8 ∷ []
unfolding opened asked
contiguous_16kb = refl

-- 512MB, and 33 or 34 bits
contiguous_64kb : map (λ s. in_root g64kb 2 s 0xC00007FD) (33 ∷ 34 ∷ []) ≡ unsettled 2 0x400000F8 ∷ leaf_to 0xDFFFFFF8 2 0x400001F8 ∷ []
unfolding opened asked
contiguous_64kb = refl

-- a smaller leaf, whatever the input size: 2MB, and a page of 16KB or 64KB
contiguous_small : in_root g4kb 2 30 0xC00007FD ∷ in_root g16kb 3 25 0x907FF ∷ in_root g64kb 3 29 0x907FF ∷ []
    ≡ leaf_to 0xC01FFFF8 2 0x40001FF8 ∷ leaf_to 0x93FF8 3 0x40007FF8 ∷ leaf_to 0x9FFF8 3 0x4001FFF8 ∷ []
unfolding opened asked
contiguous_small = refl

-- ---- reserved granule codes: what settings say of codes 0, 1, 2 and 3

abbrev pub codes : (ℕ → ℕ) → List ℕ
codes f = map f (0 ∷ 1 ∷ 2 ∷ 3 ∷ [])

-- TG0 and TG1 of TCR_EL1, the other half disabled; both halves have 39 bits
abbrev pub with_tg0 : (epd0 code : ℕ) → El1
with_tg0 epd0 code = guest_of (0x800000 + epd0 * 0x80 + code * 0x4000 + 25) 0 0

abbrev pub with_tg1 : (epd1 code : ℕ) → El1
with_tg1 epd1 code = guest_of (0x80 + epd1 * 0x800000 + code * 0x40000000 + 25 * 0x10000) 0 0

-- TG0 of VTCR_EL2
abbrev pub with_tg : (code : ℕ) → El2
with_tg code = el2 (0x20059 + code * 0x4000)

reserved_tg0 : codes (λ c. settings no_host (with_tg0 0 c)) ≡ 0 ∷ 0 ∷ 0 ∷ 6 ∷ []
unfolding opened
reserved_tg0 = refl

reserved_tg1 : codes (λ c. settings no_host (with_tg1 0 c)) ≡ 7 ∷ 0 ∷ 0 ∷ 0 ∷ []
unfolding opened
reserved_tg1 = refl

reserved_vtcr : codes (λ c. settings (with_tg c) guest) ≡ 0 ∷ 0 ∷ 0 ∷ 9 ∷ []
unfolding opened
reserved_vtcr = refl

-- the audit's
reserved_audit : codes (λ c. audit_settings (with_tg c)) ≡ 0 ∷ 0 ∷ 0 ∷ 9 ∷ []
unfolding opened
reserved_audit = refl

-- refused before anything is read
reserved_asked : asked (image []) host (with_tg0 0 3) (access 8 0 0) 24
    ∷ asked (image []) host (with_tg1 0 0) (access 8 0 0) 24
    ∷ asked (image []) (with_tg 3) guest (access 8 0 0) 24
    ∷ []
    ≡ map (λ n. record { number = 12; values = item n ∷ []; log = logged [] }) (6 ∷ 7 ∷ 9 ∷ [])
unfolding opened asked
reserved_asked = refl

reserved_audited : audited_pairs (image []) (with_tg 3) grants tables ≡ Err (Settings 9)
unfolding opened audited
reserved_audited = refl

-- the code of a half that is disabled does not count
reserved_disabled : codes (λ c. settings no_host (with_tg0 1 c)) ++ codes (λ c. settings no_host (with_tg1 1 c)) ≡ replicate 8 0
unfolding opened
reserved_disabled = refl

-- an address of it
reserved_faults : asked (image []) no_host (with_tg0 1 3) (access 8 0 0) 24 ∷ asked (image []) no_host (with_tg1 1 0) (access (2 ^ 64 - 8) 0 0) 24 ∷ []
    ≡ fault1 0 [] ∷ fault1 0 [] ∷ []
unfolding opened asked
reserved_faults = refl

-- nor does that of a stage that is off: TCR_EL1 with TG0 3 and TG1 0, VTCR_EL2 with TG0 3
abbrev pub off : El2
off = registers 48 0x80000000 0xC000 0 0

reserved_off : settings host (el1 0 0xC000) ∷ settings off no_guest ∷ audit_settings off ∷ [] ≡ 0 ∷ 0 ∷ 0 ∷ []
unfolding opened
reserved_off = refl
