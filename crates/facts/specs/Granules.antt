-- The granules (02, §3): their codes and levels, and walks of each stage alone, of stage 1's halves and of both stages.
-- Assumes nothing.
use Rattle.std.specs.Prelude.{◌≡◌, refl, false, ℕ, ◌+◌, ◌-◌, ◌*◌, ◌/◌, ◌%◌, ◌^◌, ℤ, pos, negsuc, length, take, replicate}
use mathlib.Core.List.{List, [], ◌∷◌, ◌++◌, map, foldr}
use Rattle.answers.specs.Answers.{address, stage, level, level1, level2, on_walk, ipa, reads}
use Rattle.level.specs.declared.granule.Granule.{Granule}
use Rattle.level.specs.Granule.{four_k, sixteen_k, sixty_four_k, tg0_granule, tg1_granule, geometry_of}
use Rattle.level.specs.Level.{start1, start2, size_check}
use Rattle.lists.specs.Lists.{zip}
use Rattle.registers.specs.declared.El1.{El1}
use Rattle.registers.specs.declared.El2.{El2}
use Rattle.facts.specs.Open.{opened}
use Rattle.facts.specs.Asked.{Image, Row, asked}
use Rattle.facts.specs.Cases.{image, registers, el1, el2, host, guest, access, down, logged, one, write_back, strict_device}

-- ---- codes

-- TG0 of 0, 1, 2
codes_tg0 : map tg0_granule (0 ∷ 1 ∷ 2 ∷ []) ≡ four_k ∷ sixty_four_k ∷ sixteen_k ∷ []
unfolding opened
codes_tg0 = refl

-- TG1 of 1, 2, 3
codes_tg1 : map tg1_granule (1 ∷ 2 ∷ 3 ∷ []) ≡ sixteen_k ∷ four_k ∷ sixty_four_k ∷ []
unfolding opened
codes_tg1 = refl

-- ---- start levels of stage 1, for each input size

abbrev pub starts : Granule → List ℤ
starts k =
    map (λ s. start1 (geometry_of k s 48))
    (25 ∷ 26 ∷ 27 ∷ 28 ∷ 29 ∷ 30 ∷ 31 ∷ 32 ∷ 33 ∷ 34 ∷ 35 ∷ 36 ∷ 37 ∷ 38 ∷ 39 ∷ 40 ∷ 41 ∷ 42 ∷ 43 ∷ 44 ∷ 45 ∷ 46 ∷ 47 ∷ 48 ∷ [])

-- 25 to 30, 31 to 39, 40 to 48
starts_4kb : starts four_k ≡ replicate 6 (pos 2) ++ replicate 9 (pos 1) ++ replicate 9 (pos 0)
unfolding opened
starts_4kb = refl

-- 25, 26 to 36, 37 to 47, 48
starts_16kb : starts sixteen_k ≡ pos 3 ∷ replicate 11 (pos 2) ++ replicate 11 (pos 1) ++ pos 0 ∷ []
unfolding opened
starts_16kb = refl

-- 25 to 29, 30 to 42, 43 to 48
starts_64kb : starts sixty_four_k ≡ replicate 5 (pos 3) ++ replicate 13 (pos 2) ++ replicate 6 (pos 1)
unfolding opened
starts_64kb = refl

-- ---- start levels of stage 2, for each SL0, and its size check

abbrev pub starts2 : Granule → List ℤ
starts2 k = map (start2 k) (0 ∷ 1 ∷ 2 ∷ 3 ∷ [])

starts2_4kb : starts2 four_k ≡ pos 2 ∷ pos 1 ∷ pos 0 ∷ negsuc 0 ∷ []
unfolding opened
starts2_4kb = refl

starts2_16kb : starts2 sixteen_k ≡ pos 3 ∷ pos 2 ∷ pos 1 ∷ pos 0 ∷ []
unfolding opened
starts2_16kb = refl

starts2_64kb : starts2 sixty_four_k ≡ pos 3 ∷ pos 2 ∷ pos 1 ∷ pos 0 ∷ []
unfolding opened
starts2_64kb = refl

-- of the least and the largest input size, from levels 0 to 3
abbrev pub checks : Granule → (s : ℕ) → List ℤ
checks k s = map (size_check (geometry_of k s 48)) (pos 0 ∷ pos 1 ∷ pos 2 ∷ pos 3 ∷ [])

-- 25 and 48, less 47, 36, 25, 14
checks_16kb : map (checks sixteen_k) (25 ∷ 48 ∷ [])
    ≡ (negsuc 21 ∷ negsuc 10 ∷ pos 0 ∷ pos 11 ∷ [])
    ∷ (pos 1 ∷ pos 12 ∷ pos 23 ∷ pos 34 ∷ [])
    ∷ []
unfolding opened
checks_16kb = refl

-- 25 and 48, less 55, 42, 29, 16
checks_64kb : map (checks sixty_four_k) (25 ∷ 48 ∷ [])
    ≡ (negsuc 29 ∷ negsuc 16 ∷ negsuc 3 ∷ pos 9 ∷ [])
    ∷ (negsuc 6 ∷ pos 6 ∷ pos 19 ∷ pos 32 ∷ [])
    ∷ []
unfolding opened
checks_64kb = refl

-- ---- each stage alone, over three tables that lie one after the other, of levels 1, 2 and 3

-- a granule: its log and codes, what SL0 is for level 0, and a walk from level 1: its input size, an address in whose indices the highest and
-- the lowest bit alone are set, and the entries that these pick
pub record Grain : Type 0 where
  pub log : ℕ
  pub tg0 : ℕ
  pub tg1 : ℕ
  pub sl0 : ℕ
  pub size : ℕ
  pub address : ℕ
  pub entries : List ℕ

-- index bits 38:30, 29:21, 20:12
abbrev pub g4kb : Grain
g4kb = record { log = 12; tg0 = 0; tg1 = 2; sl0 = 2; size = 39; address = 0x4060301FF8; entries = 0x40000808 ∷ 0x40001808 ∷ 0x40002808 ∷ [] }

-- 46:36, 35:25, 24:14
abbrev pub g16kb : Grain
g16kb = record { log = 14; tg0 = 2; tg1 = 1; sl0 = 3; size = 47; address = 0x401803007FF8; entries = 0x40002008 ∷ 0x40006008 ∷ 0x4000A008 ∷ [] }

-- 47:42, 41:29, 28:16
abbrev pub g64kb : Grain
g64kb = record { log = 16; tg0 = 1; tg1 = 3; sl0 = 3; size = 48; address = 0x86003001FFF8; entries = 0x40000108 ∷ 0x40018008 ∷ 0x40028008 ∷ [] }

abbrev pub each : {A : Type 0} → (Grain → A) → List A
each f = f g4kb ∷ f g16kb ∷ f g64kb ∷ []

-- the granule's bytes
abbrev pub bytes : Grain → ℕ
bytes k = 2 ^ k.log

-- what an entry holds whose next table is the n-th after the root
abbrev pub next : Grain → (n : ℕ) → ℕ
next k n = 0x40000003 + n * bytes k

-- the tables, all captured, with words in the entries of the walk
abbrev pub tables : Grain → (words : List ℕ) → Image
tables k words = record { base = 0x40000000; length = 3 * bytes k; words = zip k.entries words }

-- granule and size fields: of TCR_EL1's lower half and of VTCR_EL2, and of TCR_EL1's upper half
abbrev pub lower_fields : Grain → (s : ℕ) → ℕ
lower_fields k s = k.tg0 * 0x4000 + (64 - s)

abbrev pub upper_fields : Grain → (s : ℕ) → ℕ
upper_fields k s = k.tg1 * 0x40000000 + (64 - s) * 0x10000

-- IPS is 5, every attribute index Normal Write-Back
abbrev pub guest_of : (tcr ttbr0 ttbr1 : ℕ) → El1
guest_of tcr ttbr0 ttbr1 =
    record { sctlr = record { 0 = 5 }; tcr = record { 0 = 0x500000000 + tcr }; ttbr0 = ttbr0; ttbr1 = ttbr1; mair = 0xFFFFFFFFFFFFFFFF }

-- stage 1 with the lower half alone
abbrev pub lower_guest : Grain → (s ttbr : ℕ) → El1
lower_guest k s ttbr = guest_of (0x800000 + lower_fields k s) ttbr 0

-- stage 2 from a level, PS 5
abbrev pub host_at : (vttbr : ℕ) → Grain → (pamax level s : ℕ) → El2
host_at vttbr k pamax l s = registers pamax 0x80000001 (0x50000 + (k.sl0 - l) * 0x40 + lower_fields k s) vttbr 0

abbrev pub host_from : Grain → (pamax level s : ℕ) → El2
host_from = host_at 0x40000000

-- no stage 2, and no stage 1
abbrev pub no_host : El2
no_host = registers 48 0x80000000 0 0 0

abbrev pub no_guest : El1
no_guest = el1 0 0

-- the walk of stage 1, and of stage 2
abbrev pub alone : Grain → (words : List ℕ) → Row × Row
alone k words = (
  asked (tables k words) no_host (lower_guest k k.size 0x40000000) (access k.address 0 0) 24,
  asked (tables k words) (host_from k 48 1 k.size) no_guest (access k.address 0 0) 24,
)

-- a stage translates by a leaf of a level, after these reads
abbrev pub translated1 : (output level : ℕ) → (entries : List ℕ) → Row
translated1 output l entries =
    record { number = 0; values = address output ∷ write_back ∷ level1 l ∷ level2 0 ∷ reads (length entries) ∷ []; log = logged entries }

abbrev pub translated2 : (output level : ℕ) → (entries : List ℕ) → Row
translated2 output l entries =
    record { number = 0; values = address output ∷ strict_device ∷ level1 0 ∷ level2 l ∷ reads (length entries) ∷ []; log = logged entries }

-- both, the reads being as many as the level
abbrev pub to : (level : ℕ) → (output : ℕ) → Grain → Row × Row
to l output k = (translated1 output l (take l k.entries), translated2 output l (take l k.entries))

-- a translation fault of a level, after these reads
abbrev pub fault1 : (level : ℕ) → (entries : List ℕ) → Row
fault1 l entries = record { number = 1; values = stage 1 ∷ level l ∷ on_walk false ∷ reads (length entries) ∷ []; log = logged entries }

abbrev pub fault2 : (ipa level : ℕ) → (entries : List ℕ) → Row
fault2 i l entries = record { number = 1; values = stage 2 ∷ level l ∷ on_walk false ∷ reads (length entries) ∷ ipa i ∷ []; log = logged entries }

abbrev pub faults : (level : ℕ) → Grain → Row × Row
faults l k = (fault1 l (take l k.entries), fault2 k.address l (take l k.entries))

-- two table steps and a page: the index bits, and the bits below them
abbrev pub paged : List (Row × Row)
paged = to 3 0x90FF8 g4kb ∷ to 3 0x93FF8 g16kb ∷ to 3 0x9FFF8 g64kb ∷ []

walk_page : each (λ k. alone k (next k 1 ∷ next k 2 ∷ 0x907FF ∷ [])) ≡ paged
unfolding opened asked
walk_page = refl

-- bits 12 and up, below the granule's log, are dropped: of tables, and of the page
walk_page_low : each (λ k. alone k (map (λ w. w + bytes k - 0x1000) (next k 1 ∷ next k 2 ∷ 0x907FF ∷ []))) ≡ paged
unfolding opened asked
walk_page_low = refl

-- a table step and a block of 2MB, 32MB, 512MB
abbrev pub blocked : List (Row × Row)
blocked = to 2 0x60101FF8 g4kb ∷ to 2 0x61007FF8 g16kb ∷ to 2 0x7001FFF8 g64kb ∷ []

walk_block : each (λ k. alone k (next k 1 ∷ 0x600007FD ∷ [])) ≡ blocked
unfolding opened asked
walk_block = refl

-- bits 12 and up, below the block's size, are dropped
walk_block_low : each (λ k. alone k (next k 1 ∷ (0x600007FD + 2 ^ (2 * k.log - 3) - 0x1000) ∷ [])) ≡ blocked
unfolding opened asked
walk_block_low = refl

-- type 01 at level 1: a block of 1GB, and none for 16KB and 64KB
walk_block_1 : each (λ k. alone k (0xC00007FD ∷ [])) ≡ to 1 0xE0301FF8 g4kb ∷ faults 1 g16kb ∷ faults 1 g64kb ∷ []
unfolding opened asked
walk_block_1 = refl

-- type 01 at level 3
walk_block_3 : each (λ k. alone k (next k 1 ∷ next k 2 ∷ 0x907FD ∷ [])) ≡ each (faults 3)
unfolding opened asked
walk_block_3 = refl

-- ---- stage 1's two halves, each with its own granule

-- another place for the same tables
abbrev pub away : ℕ
away = 0x10000000

abbrev pub moved : List ℕ → List ℕ
moved = map (λ a. a + away)

-- the lower half's tables at 0x40000000, the upper half's at 0x50000000
abbrev pub halves_with : Grain → Grain → (address : ℕ) → Row
halves_with k j at =
    asked
    (record {
      base = 0x40000000;
      length = 0x20000000;
      words =
          zip k.entries (next k 1 ∷ next k 2 ∷ 0x907FF ∷ [])
          ++ zip (moved j.entries) (moved (next j 1 ∷ next j 2 ∷ 0x907FF ∷ []));
    })
    no_host
    (guest_of (lower_fields k k.size + upper_fields j j.size) 0x40000000 0x50000000)
    (access at 0 0)
    24

-- an address of each
abbrev pub halves : Grain → Grain → Row × Row
halves k j = (halves_with k j k.address, halves_with k j (2 ^ 64 - 2 ^ j.size + j.address))

abbrev pub halves_to : (lower upper : ℕ) → Grain → Grain → Row × Row
halves_to lower upper k j = (translated1 lower 3 k.entries, translated1 upper 3 (moved j.entries))

-- codes 0 and 3, 2 and 2, 1 and 1
two_halves : halves g4kb g64kb ∷ halves g16kb g4kb ∷ halves g64kb g16kb ∷ []
    ≡ halves_to 0x90FF8 0x1009FFF8 g4kb g64kb ∷ halves_to 0x93FF8 0x10090FF8 g16kb g4kb ∷ halves_to 0x9FFF8 0x10093FF8 g64kb g16kb ∷ []
unfolding opened asked
two_halves = refl

-- ---- both stages, each with its own granule

-- stage 2's entries for an IPA, by the number of levels below them
abbrev pub step : Grain → (ipa n : ℕ) → ℕ
step k x n = 0x40000000 + (2 - n) * bytes k + 8 * (x / 2 ^ (k.log + (k.log - 3) * n) % 2 ^ (k.log - 3))

abbrev pub steps : Grain → (ipa : ℕ) → List ℕ
steps k x = map (step k x) (2 ∷ 1 ∷ 0 ∷ [])

-- of the second table of a 64KB stage 1
steps_taken : each (λ k. steps k 0x40018008)
    ≡ (0x40000008 ∷ 0x40001000 ∷ 0x400020C0 ∷ [])
    ∷ (0x40000000 ∷ 0x40004100 ∷ 0x40008030 ∷ [])
    ∷ (0x40000000 ∷ 0x40010010 ∷ 0x40020008 ∷ [])
    ∷ []
steps_taken = refl

-- stage 2 puts each of its pages away
abbrev pub mapped : Grain → (ipa : ℕ) → List (ℕ × ℕ)
mapped k x = zip (steps k x) (next k 1 ∷ next k 2 ∷ (x / bytes k * bytes k + away + 0x7FF) ∷ [])

-- stage 1's entries and its page, as IPAs
abbrev pub ipas : Grain → List ℕ
ipas k = k.entries ++ (0x40090000 + bytes k - 8) ∷ []

abbrev pub all_of : {A : Type 0} → List (List A) → List A
all_of = foldr ◌++◌ []

-- the first granule over the second
abbrev pub over : Grain → Grain → Row
over k j =
    asked
    (record {
      base = 0x40000000;
      length = 0x20000000;
      words = zip (moved k.entries) (next k 1 ∷ next k 2 ∷ 0x400907FF ∷ []) ++ all_of (map (mapped j) (ipas k));
    })
    (host_from j 48 1 j.size)
    (lower_guest k k.size 0x40000000)
    (access k.address 0 0)
    24

-- stage 2's three reads before each of stage 1's, and for the page
abbrev pub over_to : Grain → Grain → Row
over_to k j =
    record {
      number = 0;
      values = address (0x50090000 + bytes k - 8) ∷ write_back ∷ level1 3 ∷ level2 3 ∷ reads 15 ∷ [];
      log = logged (all_of (map (λ e. steps j e ++ (e + away) ∷ []) k.entries) ++ steps j (0x40090000 + bytes k - 8));
    }

abbrev pub pairs : {A : Type 0} → (Grain → Grain → A) → List (List A)
pairs f = each (λ k. each (f k))

-- all nine pairs of granules
both_stages : pairs over ≡ pairs over_to
unfolding opened asked
both_stages = refl

-- case A with a 64KB stage 1 of 25 bits, whose root is a table of level 3
abbrev pub case_a_64kb : (at : ℕ) → Row
case_a_64kb at = asked (image ((0x40003000, 0x50743) ∷ [])) host (el1 5 0x200804027) (access at 0 0) 24

mixed_a : case_a_64kb 8
    ≡ record { number = 0; values = address 0x90008 ∷ write_back ∷ level1 3 ∷ level2 3 ∷ reads 7 ∷ []; log = logged (one ++ 0x40003000 ∷ down 0x40002280) }
unfolding opened asked
mixed_a = refl

-- the next 4,096 bytes of stage 1's page, which stage 2 does not map
mixed_a_next : case_a_64kb 0x1008
    ≡ record { number = 1; values = stage 2 ∷ level 3 ∷ on_walk false ∷ reads 7 ∷ ipa 0x51008 ∷ []; log = logged (one ++ 0x40003000 ∷ down 0x40002288) }
unfolding opened asked
mixed_a_next = refl

-- case A over a 16KB stage 2 from level 2, whose first page holds stage 1's tables
mixed_a_16kb : asked
    (record {
      base = 0x40000000;
      length = 0xC000;
      words =
          (0x40000000, 0x40004003) ∷ (0x40004000, 0x400087FF) ∷ (0x400040A0, 0x907FF)
          ∷ (0x40009000, 0x2003) ∷ (0x4000A000, 0x3003) ∷ (0x4000B008, 0x50743) ∷ [];
    })
    (el2 0x28059)
    guest
    (access 0x1008 0 0)
    24
    ≡ record {
      number = 0;
      values = address 0x90008 ∷ write_back ∷ level1 3 ∷ level2 3 ∷ reads 11 ∷ [];
      log =
          logged
          (0x40000000 ∷ 0x40004000 ∷ 0x40009000 ∷ 0x40000000 ∷ 0x40004000 ∷ 0x4000A000 ∷ 0x40000000 ∷ 0x40004000 ∷ 0x4000B008 ∷ 0x40000000 ∷ 0x400040A0 ∷ []);
    }
unfolding opened asked
mixed_a_16kb = refl
