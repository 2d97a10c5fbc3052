-- Core files (02, §1), each rule as facts of the definitions over made files.
-- Assumes nothing.
use Rattle.std.specs.Prelude.{◌≡◌, refl, Bool, true, false, List, [], ◌∷◌, ◌++◌, map, ℕ, zero, suc, ◌+◌, ◌*◌, ◌/◌, ◌%◌, ltb, length, take, replicate, Option, Some, None, Ok, Err}
use Rattle.std.proofs.lemmas.List.Edits.{sets}
use Rattle.access.specs.declared.Access.{Access}
use Rattle.capture.specs.Capture.{part, kept, any_high}
use Rattle.capture.specs.declared.Bank.{Bank}
use Rattle.layout.specs.Elf.{headers_end, headed, banks, parts, is_core}
use Rattle.layout.specs.Layout.{raw, core, captured}
use Rattle.registers.specs.declared.El1.{El1}
use Rattle.registers.specs.declared.El2.{El2}
use Rattle.answers.specs.Answers.{address, stage, level, level1, level2, on_walk, reads}
use Rattle.answers.specs.Question.{ask}
use Rattle.answers.specs.declared.Refusal.TheVariants.{HighCapture, BatchLists, CoreFile}
use Rattle.batch.specs.Batch.{batch}
use Rattle.audit.specs.Audit.{stage2_read, found, audit}
use Rattle.audit.specs.declared.FindingKind.TheVariants.{NotCaptured, OutsideGrants}
use Rattle.audit.specs.Audit.{AuditAnswer}
use Rattle.facts.specs.Open.{opened}
use Rattle.facts.specs.Asked.{Row, row, before, asked}
use Rattle.facts.specs.Cases.{image, host, guest, el1, access, logged, one, two, three, all_reads, write_back, strict_device, shared, strange}
use Rattle.facts.specs.Audits.{narrow}

-- ---- made files

-- a number in n bytes, little-endian
unfoldable pub bytes : (n x : ℕ) → List ℕ
bytes zero x = []
bytes (suc n) x = x % 256 ∷ bytes n (x / 256)

-- the ELF header of a core file with so many program headers at a place
unfoldable pub elf : (phoff phnum : ℕ) → List ℕ
elf phoff phnum =
    bytes 4 0x464C457F ++ bytes 1 2 ++ bytes 1 1 ++ bytes 10 1
    ++ bytes 2 4 ++ bytes 2 183 ++ bytes 4 1 ++ bytes 8 0 ++ bytes 8 phoff ++ bytes 8 0 ++ bytes 4 0
    ++ bytes 2 64 ++ bytes 2 56 ++ bytes 2 phnum ++ bytes 6 0

abbrev pub bank : (at offset size : ℕ) → Bank
bank at offset size = record { address = at; offset = offset; size = size }

-- a program header of type 1
unfoldable pub load : Bank → List ℕ
load b = bytes 4 1 ++ bytes 4 6 ++ bytes 8 b.offset ++ bytes 8 0 ++ bytes 8 b.address ++ bytes 8 b.size ++ bytes 8 b.size ++ bytes 8 0

unfoldable pub loads : List Bank → List ℕ
loads [] = []
loads (b ∷ l) = load b ++ loads l

-- ELF header, program headers, and the rest of the file
unfoldable pub made : List Bank → (rest : List ℕ) → List ℕ
made l rest = elf 64 (length l) ++ loads l ++ rest

unfoldable pub making : Unit {0}
unfolding opened bytes elf load loads made
making = tt

-- a field of n bytes written over
abbrev pub changed : (at n x : ℕ) → (file : List ℕ) → List ℕ
changed at n x file = sets file at (bytes n x)

-- n bytes of a bank
abbrev pub filled : (n : ℕ) → List ℕ
filled n = replicate n 0xA5

-- the bytes that the file has of each bank, and whether these are fewer than its header says
abbrev pub kept_of : (file : List ℕ) → List ℕ
kept_of file = map kept (parts file)

abbrev pub shorts : (file : List ℕ) → List Bool
shorts file = map (λ b. ltb (kept (part (length file) b)) b.size) (banks file)

-- ---- a file that is accepted

-- one bank of eight bytes behind the headers
abbrev pub small : List ℕ
small = made (bank 0x1000 120 8 ∷ []) (filled 8)

-- 02, §1: a good file
core_one : is_core small ≡ true
unfolding making
core_one = refl

-- 02, §1: physical address, file offset, file size
core_one_banks : banks small ≡ bank 0x1000 120 8 ∷ []
unfolding making
core_one_banks = refl

-- 02, §1: all of its bytes are kept
core_one_parts : parts small ≡ record { address = 0x1000; from = 120; to = 128 } ∷ []
unfolding making
core_one_parts = refl

-- 02, §1: and it is not marked short
core_one_whole : shorts small ≡ false ∷ []
unfolding making
core_one_whole = refl

-- ---- the ELF header

-- an ELF header alone
abbrev pub bare : List ℕ
bare = elf 64 0

-- 02, §1: a header wholly in the file: all its 64 bytes
core_header_64 : is_core bare ≡ true
unfolding making
core_header_64 = refl

-- 02, §1: one byte less, though the last field that is read ends at 58
core_header_63 : is_core (take 63 bare) ≡ false
unfolding making
core_header_63 = refl

-- 02, §1: an empty file has no header
core_nothing : is_core [] ≡ false
unfolding making
core_nothing = refl

-- with some values of a field in turn
abbrev pub each : (at n : ℕ) → (file xs : List ℕ) → List Bool
each at n file xs = map (λ x. is_core (changed at n x file)) xs

-- 02, §1: the magic as it is, and with each of its bytes one off
core_magic : each 0 4 bare (0x464C457F ∷ 0x464C457E ∷ 0x464C447F ∷ 0x464D457F ∷ 0x474C457F ∷ []) ≡ true ∷ false ∷ false ∷ false ∷ false ∷ []
unfolding making
core_magic = refl

-- 02, §1: class 2, 64 bits: one less, one more, and with its top bit
core_class : each 4 1 bare (2 ∷ 1 ∷ 3 ∷ 0x82 ∷ []) ≡ true ∷ false ∷ false ∷ false ∷ []
unfolding making
core_class = refl

-- 02, §1: byte order 1, little-endian, likewise
core_order : each 5 1 bare (1 ∷ 0 ∷ 2 ∷ 0x81 ∷ []) ≡ true ∷ false ∷ false ∷ false ∷ []
unfolding making
core_order = refl

-- 02, §1: type 4, a core file, likewise
core_type : each 16 2 bare (4 ∷ 3 ∷ 5 ∷ 0x8004 ∷ []) ≡ true ∷ false ∷ false ∷ false ∷ []
unfolding making
core_type = refl

-- 02, §1: machine 183, likewise
core_machine : each 18 2 bare (183 ∷ 182 ∷ 184 ∷ 0x80B7 ∷ []) ≡ true ∷ false ∷ false ∷ false ∷ []
unfolding making
core_machine = refl

-- 02, §1: program headers of 56 bytes, tested also where there are none
core_entries : each 54 2 bare (56 ∷ 55 ∷ 57 ∷ 0x8038 ∷ []) ≡ true ∷ false ∷ false ∷ false ∷ []
unfolding making
core_entries = refl

-- 02, §1: and where there is one
core_entries_one : each 54 2 small (56 ∷ 55 ∷ 57 ∷ []) ≡ true ∷ false ∷ false ∷ []
unfolding making
core_entries_one = refl

-- fields that are not tested. Of the ELF header: e_ident from 6, e_version, e_entry, e_shoff, e_flags, e_ehsize, and those of sections;
-- of a program header: p_flags, p_vaddr, p_memsz, p_align
abbrev pub others : List (ℕ × ℕ)
others = (6, 1) ∷ (7, 1) ∷ (8, 8) ∷ (20, 4) ∷ (24, 8) ∷ (40, 8) ∷ (48, 4) ∷ (52, 2) ∷ (58, 2) ∷ (60, 2) ∷ (62, 2) ∷ (68, 4) ∷ (80, 8) ∷ (104, 8) ∷ (112, 8) ∷ []

-- 02, §1: no other field is tested
core_untested : map (λ f. is_core (changed f.0 f.1 0xF7F6F5F4F3F2F1F8 small)) others ≡ replicate 15 true
unfolding making
core_untested = refl

-- 02, §1: nor read
core_unread : map (λ f. parts (changed f.0 f.1 0xF7F6F5F4F3F2F1F8 small)) others ≡ replicate 15 (parts small)
unfolding making
core_unread = refl

-- 02, §1: e_ehsize 8 too, though the header has 64 bytes
core_ehsize : is_core (changed 52 2 8 small) ≡ true
unfolding making
core_ehsize = refl

-- ---- program headers

-- 02, §1: the program headers end where the file ends
core_headers_end : is_core (made (bank 0x1000 0 0 ∷ []) []) ≡ true
unfolding making
core_headers_end = refl

-- 02, §1: they end a byte past it
core_headers_past : is_core (take 119 (made (bank 0x1000 0 0 ∷ []) [])) ≡ false
unfolding making
core_headers_past = refl

-- behind the bank
abbrev pub behind : Bank → List ℕ
behind b = elf 72 1 ++ filled 8 ++ load b

-- 02, §1: they may stand anywhere, here behind the bank, which ends where they start
core_behind : is_core (behind (bank 0x1000 64 8)) ≡ true
unfolding making
core_behind = refl

-- 02, §1: and are to be wholly in the file there too
core_behind_past : is_core (take 127 (behind (bank 0x1000 64 8))) ≡ false
unfolding making
core_behind_past = refl

-- 02, §1: with none there is none missing, wherever they would stand
core_none : is_core (elf 0xFFFFFFFFFFFFFFFF 0) ≡ true
unfolding making
core_none = refl

-- 02, §1: and no bank
core_none_banks : banks (elf 0xFFFFFFFFFFFFFFFF 0) ≡ []
unfolding making
core_none_banks = refl

-- 02, §1: one that would start at 2^64 - 1, and one that would end at 2^64, are not in the file
core_far : each 32 8 small (64 ∷ 0xFFFFFFFFFFFFFFFF ∷ 0xFFFFFFFFFFFFFFC8 ∷ []) ≡ true ∷ false ∷ false ∷ []
unfolding making
core_far = refl

-- 02, §1: their count is as written: 0xFFFF is 65,535 of them
core_count : headers_end (elf 64 0xFFFF) ≡ 64 + 56 * 65535
unfolding making
core_count = refl

-- 02, §1: and these are not in a file of 64 bytes
core_count_past : headed (elf 64 0xFFFF) ≡ false
unfolding making
core_count_past = refl

-- 02, §1: a bank is of type 1, by all four bytes
core_types : map (λ x. banks (changed 64 4 x small)) (0 ∷ 2 ∷ 4 ∷ 0x101 ∷ 0x10001 ∷ 0x1000001 ∷ []) ≡ replicate 6 []
unfolding making
core_types = refl

-- 02, §1: headers of other types are no ground to refuse
core_types_accepted : each 64 4 small (0 ∷ 2 ∷ 4 ∷ 0x101 ∷ 0x10001 ∷ 0x1000001 ∷ []) ≡ replicate 6 true
unfolding making
core_types_accepted = refl

-- 02, §1: between banks they are passed over
core_between : banks (changed 120 4 4 (made (bank 0x1000 232 4 ∷ bank 0 0 8 ∷ bank 0x2000 236 4 ∷ []) (filled 8))) ≡ bank 0x1000 232 4 ∷ bank 0x2000 236 4 ∷ []
unfolding making
core_between = refl

-- ---- the order of addresses

-- two banks of eight bytes side by side in the file
abbrev pub two_banks : (first second : ℕ) → List ℕ
two_banks first second = made (bank first 176 8 ∷ bank second 184 8 ∷ []) (filled 16)

-- 02, §1: a bank starts at the end of the one before
core_touching : is_core (two_banks 0x1000 0x1008) ≡ true
unfolding making
core_touching = refl

-- 02, §1: a byte past it
core_gap : is_core (two_banks 0x1000 0x1009) ≡ true
unfolding making
core_gap = refl

-- 02, §1: a byte before it
core_overlapping : is_core (two_banks 0x1000 0x1007) ≡ false
unfolding making
core_overlapping = refl

-- 02, §1: the second lies below the first
core_descending : is_core (two_banks 0x1000 0xFF8) ≡ false
unfolding making
core_descending = refl

-- 02, §1: no sum wraps: the first ends past 2^64
core_wrapping : is_core (two_banks 0xFFFFFFFFFFFFFFFC 0x1000) ≡ false
unfolding making
core_wrapping = refl

-- the first keeps eight bytes of 0x100
abbrev pub after_short : (second : ℕ) → List ℕ
after_short second = made (bank 0x1000 184 0x100 ∷ bank second 176 8 ∷ []) (filled 16)

-- 02, §1: by the headers' sizes: the first keeps eight bytes of 0x100, and the second starts at their end
core_after_short : is_core (after_short 0x1100) ≡ true
unfolding making
core_after_short = refl

-- 02, §1: a byte before that end, far past what is kept
core_within_short : is_core (after_short 0x10FF) ≡ false
unfolding making
core_within_short = refl

-- 02, §1: what the two keep
core_after_short_parts : parts (after_short 0x1100)
    ≡ record { address = 0x1000; from = 184; to = 192 } ∷ record { address = 0x1100; from = 176; to = 184 } ∷ []
unfolding making
core_after_short_parts = refl

-- a bank of size 0 between two others
abbrev pub between : (at : ℕ) → Bool
between at = is_core (made (bank 0x1000 232 8 ∷ bank at 0 0 ∷ bank 0x1010 240 8 ∷ []) (filled 16))

-- 02, §1: a bank of size 0 keeps the order too: a byte before the end of the one before, there, where the next starts, a byte past that
core_between_0 : map between (0x1007 ∷ 0x1008 ∷ 0x1010 ∷ 0x1011 ∷ []) ≡ false ∷ true ∷ true ∷ false ∷ []
unfolding making
core_between_0 = refl

-- ---- bytes of the file

-- two banks far apart, by where they stand in the file
abbrev pub standing : (first second : ℕ × ℕ) → Bool
standing first second = is_core (made (bank 0x1000 first.0 first.1 ∷ bank 0x2000 second.0 second.1 ∷ []) (filled 16))

-- 02, §1: no byte of the file lies in two banks: here they touch in the file
core_apart : standing (176, 8) (184, 8) ≡ true
unfolding making
core_apart = refl

-- 02, §1: here they share a byte
core_shared : standing (176, 8) (183, 8) ≡ false
unfolding making
core_shared = refl

-- 02, §1: they touch, and the second stands first in the file
core_apart_turned : standing (184, 8) (176, 8) ≡ true
unfolding making
core_apart_turned = refl

-- 02, §1: they share a byte, and the second stands first
core_shared_turned : standing (184, 8) (176, 9) ≡ false
unfolding making
core_shared_turned = refl

-- 02, §1: one inside the other
core_inside : standing (176, 16) (180, 4) ≡ false
unfolding making
core_inside = refl

-- 02, §1: the same bytes twice
core_twice : standing (176, 8) (176, 8) ≡ false
unfolding making
core_twice = refl

-- 02, §1: a bank of size 0 has no byte, and so meets nothing: inside another
core_empty_inside : standing (176, 16) (180, 0) ≡ true
unfolding making
core_empty_inside = refl

-- 02, §1: and inside the ELF header and a program header
core_empty_headers : standing (10, 0) (100, 0) ≡ true
unfolding making
core_empty_headers = refl

-- 02, §1: from the end of the file on neither has a byte to share
core_past_shared : standing (192, 8) (192, 8) ≡ true
unfolding making
core_past_shared = refl

-- 02, §1: nor has the first there, though by its header it goes on past all of the second
core_past_within : standing (184, 0x100) (200, 8) ≡ true
unfolding making
core_past_within = refl

-- 02, §1: no byte lies in a bank and the ELF header: the bank starts where that ends
core_elf_touched : is_core (behind (bank 0x1000 64 1)) ≡ true
unfolding making
core_elf_touched = refl

-- 02, §1: it starts a byte before
core_elf_met : is_core (behind (bank 0x1000 63 1)) ≡ false
unfolding making
core_elf_met = refl

-- 02, §1: it is the header's first byte
core_elf_first : is_core (behind (bank 0x1000 0 1)) ≡ false
unfolding making
core_elf_first = refl

-- 02, §1: no byte lies in a bank and a program header, here from 72 to 128: the bank ends a byte past their start (`core_behind`: there)
core_program_met : is_core (behind (bank 0x1000 64 9)) ≡ false
unfolding making
core_program_met = refl

-- 02, §1: it is their last byte
core_program_last : is_core (behind (bank 0x1000 127 1) ++ filled 1) ≡ false
unfolding making
core_program_last = refl

-- 02, §1: it is the byte after them
core_program_after : is_core (behind (bank 0x1000 128 1) ++ filled 1) ≡ true
unfolding making
core_program_after = refl

-- 02, §1: a header of another type is a program header too
core_other_met : is_core (changed 120 4 4 (made (bank 0x1000 175 8 ∷ bank 0 0 0 ∷ []) (filled 8))) ≡ false
unfolding making
core_other_met = refl

-- 02, §1: ELF header and program headers may share bytes: here e_ident's last bytes are p_type 1, and e_phoff is p_paddr
core_headers_met : is_core (changed 8 4 1 (elf 8 1)) ≡ true
unfolding making
core_headers_met = refl

-- 02, §1: its bank is what those bytes say
core_headers_met_banks : banks (changed 8 4 1 (elf 8 1)) ≡ bank 8 0x100B70004 0 ∷ []
unfolding making
core_headers_met_banks = refl

-- ---- banks cut by the end of the file

-- two banks of eight bytes, of which the second stands last, cut to some bytes
abbrev pub cut_to : (n : ℕ) → List ℕ
cut_to n = take (176 + n) (two_banks 0x1000 0x2000)

-- 02, §1: two banks that are wholly there
core_whole : kept_of (cut_to 16) ≡ 8 ∷ 8 ∷ []
unfolding making
core_whole = refl

-- 02, §1: neither is marked short
core_whole_shorts : shorts (cut_to 16) ≡ false ∷ false ∷ []
unfolding making
core_whole_shorts = refl

-- 02, §1: a byte less: the second is kept to what is there
core_cut : kept_of (cut_to 15) ≡ 8 ∷ 7 ∷ []
unfolding making
core_cut = refl

-- 02, §1: and it alone is marked short
core_cut_shorts : shorts (cut_to 15) ≡ false ∷ true ∷ []
unfolding making
core_cut_shorts = refl

-- 02, §1: the second starts where the file ends, and keeps nothing
core_cut_end : kept_of (cut_to 8) ≡ 8 ∷ 0 ∷ []
unfolding making
core_cut_end = refl

-- 02, §1: it starts past the end, and the first is cut too
core_cut_past : kept_of (cut_to 7) ≡ 7 ∷ 0 ∷ []
unfolding making
core_cut_past = refl

-- 02, §1: both are marked short
core_cut_past_shorts : shorts (cut_to 7) ≡ true ∷ true ∷ []
unfolding making
core_cut_past_shorts = refl

-- 02, §1: a cut bank is no ground to refuse
core_cut_accepted : map (λ n. is_core (cut_to n)) (16 ∷ 15 ∷ 8 ∷ 7 ∷ 0 ∷ []) ≡ replicate 5 true
unfolding making
core_cut_accepted = refl

-- 02, §1: the first alone is short, as it stands last in the file
core_first_short : shorts (after_short 0x1100) ≡ true ∷ false ∷ []
unfolding making
core_first_short = refl

-- 02, §1: of size 0 none is short, past the end either
core_empty_whole : shorts (made (bank 0x1000 121 0 ∷ []) []) ≡ false ∷ []
unfolding making
core_empty_whole = refl

-- ---- sizes and offsets to 2^64

abbrev pub huge : List ℕ
huge = made (bank 0x1000 120 0xFFFFFFFFFFFFFFFF ∷ []) (filled 8)

-- 02, §1: a size of 2^64 - 1
core_huge : is_core huge ≡ true
unfolding making
core_huge = refl

-- 02, §1: what is there is kept
core_huge_parts : parts huge ≡ record { address = 0x1000; from = 120; to = 128 } ∷ []
unfolding making
core_huge_parts = refl

-- 02, §1: and it is marked short
core_huge_short : shorts huge ≡ true ∷ []
unfolding making
core_huge_short = refl

-- 02, §1: 11 reads the header's size
core_huge_high : any_high (banks huge) ≡ true
unfolding making
core_huge_high = refl

-- offset and size of 2^64 - 1
abbrev pub distant : List ℕ
distant = made (bank 0x1000 0xFFFFFFFFFFFFFFFF 0xFFFFFFFFFFFFFFFF ∷ []) (filled 8)

-- 02, §1: an offset of 2^64 - 1: nothing wraps into the headers
core_distant : is_core distant ≡ true
unfolding making
core_distant = refl

-- 02, §1: and nothing is kept
core_distant_kept : kept_of distant ≡ 0 ∷ []
unfolding making
core_distant_kept = refl

-- ---- descriptors

-- banks by their bytes: their addresses, and what stands in each, one after another from a place on
unfoldable pub placed : (at : ℕ) → List (ℕ × List ℕ) → List Bank
placed at [] = []
placed at (p ∷ l) = bank p.0 at (length p.1) ∷ placed (at + length p.1) l

unfoldable pub contents : List (ℕ × List ℕ) → List ℕ
contents [] = []
contents (p ∷ l) = p.1 ++ contents l

unfoldable pub core_of : List (ℕ × List ℕ) → List ℕ
core_of l = made (placed (64 + 56 * length l) l) (contents l)

-- the bytes of some words
unfoldable pub spelt : List ℕ → List ℕ
spelt [] = []
spelt (w ∷ l) = bytes 8 w ++ spelt l

-- a question over a core file, with a log of so many words
unfoldable pub core_asked : (file : List ℕ) → El2 → El1 → Access → (words : ℕ) → Row
core_asked file r g a words = row (ask core file r g a (replicate words before))

unfoldable pub asking : Unit {0}
unfolding making placed contents core_of spelt core_asked asked
asking = tt

-- case A's descriptors and no other byte but one entry, with the level 3 table of stage 2 and the level 2 table of stage 1 in some banks
abbrev pub around : (lower upper : List (ℕ × List ℕ)) → List ℕ
around lower upper =
    core_of ((0x40000000, spelt (0x40001003 ∷ [])) ∷ (0x40001000, spelt (0x40002003 ∷ []))
    ∷ lower ++ (0x40003000, spelt (0x2003 ∷ [])) ∷ upper ++ (0x40005008, spelt (0x50743 ∷ [])) ∷ [])

-- the one in three banks, of which two touch; the other in one
abbrev pub three_banks : List (ℕ × List ℕ)
three_banks = (0x40002008, spelt (0x400037FF ∷ 0x400047FF ∷ [])) ∷ (0x40002018, spelt (0x400057FF ∷ 0 ∷ [])) ∷ (0x40002280, spelt (0x907FF ∷ [])) ∷ []

abbrev pub one_bank : List (ℕ × List ℕ)
one_bank = (0x40004000, spelt (0x3003 ∷ [])) ∷ []

abbrev pub file_a : List ℕ
file_a = around three_banks one_bank

abbrev pub ask_a : (file : List ℕ) → Row
ask_a file = core_asked file host guest (access 0x1008 0 0) 24

abbrev pub answer_a : Row
answer_a = record { number = 0; values = address 0x90008 ∷ write_back ∷ level1 3 ∷ level2 3 ∷ reads 15 ∷ []; log = logged all_reads }

-- 02, §1: the banks of the file that case A is asked over
core_a_banks : parts file_a
    ≡ record { address = 0x40000000; from = 512; to = 520 } ∷ record { address = 0x40001000; from = 520; to = 528 }
    ∷ record { address = 0x40002008; from = 528; to = 544 } ∷ record { address = 0x40002018; from = 544; to = 560 }
    ∷ record { address = 0x40002280; from = 560; to = 568 } ∷ record { address = 0x40003000; from = 568; to = 576 }
    ∷ record { address = 0x40004000; from = 576; to = 584 } ∷ record { address = 0x40005008; from = 584; to = 592 } ∷ []
unfolding asking
core_a_banks = refl

-- 02, §1: case A's answer, reads and log
core_a : ask_a file_a ≡ answer_a
unfolding asking
core_a = refl

-- 02, §1: they are those of the raw capture
core_a_raw : ask_a file_a ≡ asked (image []) host guest (access 0x1008 0 0) 24
unfolding asking
core_a_raw = refl

-- the same with the banks the other way round in the file, before each a byte that lies in none
abbrev pub turned : List ℕ
turned =
    made
    (bank 0x40000000 592 8 ∷ bank 0x40001000 583 8 ∷ bank 0x40002008 566 16 ∷ bank 0x40002018 549 16
    ∷ bank 0x40002280 540 8 ∷ bank 0x40003000 531 8 ∷ bank 0x40004000 522 8 ∷ bank 0x40005008 513 8 ∷ [])
    (filled 1 ++ spelt (0x50743 ∷ []) ++ filled 1 ++ spelt (0x3003 ∷ []) ++ filled 1 ++ spelt (0x2003 ∷ []) ++ filled 1 ++ spelt (0x907FF ∷ [])
    ++ filled 1 ++ spelt (0x400057FF ∷ 0 ∷ []) ++ filled 1 ++ spelt (0x400037FF ∷ 0x400047FF ∷ []) ++ filled 1 ++ spelt (0x40002003 ∷ []) ++ filled 1 ++ spelt (0x40001003 ∷ []))

-- 02, §1: the same however the banks stand in the file
core_a_turned : ask_a turned ≡ answer_a
unfolding asking
core_a_turned = refl

-- the last descriptor of stage 1 is absent
abbrev pub without_last : Row
without_last = record { number = 6; values = address 0x40005008 ∷ stage 1 ∷ level 3 ∷ on_walk false ∷ reads 11 ∷ []; log = logged three }

-- 02, §1: a descriptor lying half in a bank is absent: the last bank is cut by a byte
core_a_cut : ask_a (take 591 file_a) ≡ without_last
unfolding asking
core_a_cut = refl

-- 02, §1: it is cut to nothing
core_a_cut_bank : ask_a (take 584 file_a) ≡ without_last
unfolding asking
core_a_cut_bank = refl

-- that of level 2 is absent
abbrev pub without_level2 : Row
without_level2 = record { number = 6; values = address 0x40004000 ∷ stage 1 ∷ level 2 ∷ on_walk false ∷ reads 7 ∷ []; log = logged two }

-- 02, §1: across two banks that touch in memory and in the file it is absent
core_a_across : ask_a (around three_banks ((0x40004000, bytes 4 0x3003) ∷ (0x40004004, bytes 4 0) ∷ [])) ≡ without_level2
unfolding asking
core_a_across = refl

-- 02, §1: all but its last byte in one bank, which starts before it
core_a_across_end : ask_a (around three_banks ((0x40003FF8, bytes 8 0 ++ bytes 7 0x3003) ∷ (0x40004007, bytes 1 0) ∷ [])) ≡ without_level2
unfolding asking
core_a_across_end = refl

-- 02, §1: a stage 2 descriptor, on the walk of stage 1
core_a_across_2 : ask_a (around ((0x40002008, bytes 8 0x400037FF ++ bytes 4 0x400047FF) ∷ (0x40002014, bytes 4 0 ++ bytes 8 0x400057FF) ∷ []) one_bank)
    ≡ record { number = 6; values = address 0x40002010 ∷ stage 2 ∷ level 3 ∷ on_walk true ∷ reads 6 ∷ []; log = logged (one ++ 0x40003000 ∷ 0x40000000 ∷ 0x40001000 ∷ []) }
unfolding asking
core_a_across_2 = refl

-- 02, §1: a byte of it lies in no bank
core_a_gap : ask_a (around three_banks ((0x40004000, bytes 3 0x3003) ∷ (0x40004004, bytes 4 0) ∷ [])) ≡ without_level2
unfolding asking
core_a_gap = refl

-- 02, §1: none of its bytes lies in a bank, between two that end and start there
core_a_missing : ask_a (around three_banks ((0x40003FF8, bytes 8 0) ∷ (0x40004008, bytes 8 0) ∷ [])) ≡ without_level2
unfolding asking
core_a_missing = refl

-- 02, §1: a file without banks is like an empty capture
core_a_none : ask_a bare ≡ record { number = 6; values = address 0x40000000 ∷ stage 2 ∷ level 1 ∷ on_walk true ∷ reads 0 ∷ []; log = logged [] }
unfolding asking
core_a_none = refl

-- raw or as a bank, one root of two entries, bits 30 and up of an IPA picking a block of 1GB
abbrev pub root_bytes : List ℕ
root_bytes = spelt (0x800007FD ∷ 0xC00007FD ∷ [])

abbrev pub as_bank : List ℕ
as_bank = core_of ((0x40000FF0, root_bytes) ∷ [])

-- 02, §1: raw or as a bank, the same bytes give the same answer, reads and log
core_raw : ask core as_bank narrow (el1 0 0) (access 0x40000008 0 0) (replicate 24 before)
    ≡ ask (raw 0x40000FF0) root_bytes narrow (el1 0 0) (access 0x40000008 0 0) (replicate 24 before)
unfolding asking
core_raw = refl

-- 02, §1: and these are the walk's
core_raw_asked : core_asked as_bank narrow (el1 0 0) (access 0x40000008 0 0) 24
    ≡ record { number = 0; values = address 0xC0000008 ∷ strict_device ∷ level1 0 ∷ level2 1 ∷ reads 1 ∷ []; log = logged (0x40000FF8 ∷ []) }
unfolding asking
core_raw_asked = refl

-- ---- a bank's bytes are its own

-- what a core file holds at some addresses
abbrev pub held : (file addresses : List ℕ) → List (Option ℕ)
held file addresses = map (λ a. captured core file (stage2_read a)) addresses

-- 02, §1: banks side by side in the file, apart in memory: bytes of the headers before the first, and of the second after it, are not its own
core_neighbours : held (core_of ((0x1000, spelt (0x11 ∷ [])) ∷ (0x2000, spelt (0x22 ∷ [])) ∷ [])) (0xFFF ∷ 0x1000 ∷ 0x1001 ∷ 0x1008 ∷ 0x1FFF ∷ 0x2000 ∷ 0x2001 ∷ [])
    ≡ None ∷ Some 0x11 ∷ None ∷ None ∷ None ∷ Some 0x22 ∷ None ∷ []
unfolding asking
core_neighbours = refl

-- 02, §1: side by side in memory too
core_neighbours_touching : held (core_of ((0x1000, spelt (0x11 ∷ [])) ∷ (0x1008, spelt (0x22 ∷ [])) ∷ [])) (0xFFF ∷ 0x1000 ∷ 0x1001 ∷ 0x1007 ∷ 0x1008 ∷ 0x1009 ∷ [])
    ≡ None ∷ Some 0x11 ∷ None ∷ None ∷ Some 0x22 ∷ None ∷ []
unfolding asking
core_neighbours_touching = refl

-- 02, §1: inside one bank a descriptor may stand anywhere
core_unaligned : held (core_of ((0x1001, spelt (0x11 ∷ 0x22 ∷ [])) ∷ [])) (0x1000 ∷ 0x1001 ∷ 0x1008 ∷ 0x1009 ∷ 0x100A ∷ [])
    ≡ None ∷ Some 0x11 ∷ Some 0x2200 ∷ Some 0x22 ∷ None ∷ []
unfolding asking
core_unaligned = refl

-- 02, §1: the first is cut after eight of its 16 bytes, and the second stands before it in the file
core_neighbours_cut : held (made (bank 0x1000 184 16 ∷ bank 0x2000 176 8 ∷ []) (spelt (0x22 ∷ 0x11 ∷ []))) (0x1000 ∷ 0x1001 ∷ 0x1008 ∷ 0x2000 ∷ 0x2001 ∷ [])
    ≡ Some 0x11 ∷ None ∷ None ∷ Some 0x22 ∷ None ∷ []
unfolding asking
core_neighbours_cut = refl

-- ---- the order of refusals

-- a file that 17 refuses and, were it accepted, 11 would: a bank past 2^48 that meets the ELF header
abbrev pub strange_file : List ℕ
strange_file = made (bank 0x1000000000000 0 8 ∷ []) []

-- 02, §1: nothing is read, and the log is kept
core_17 : ask_a strange_file ≡ record { number = 17; values = []; log = logged [] }
unfolding asking
core_17 = refl

-- 02, §1: 17 before 10, with 11, 12 and 13 too
core_17_before_10 : core_asked strange_file strange.el2 guest (access 0x1008 3 0) 23 ≡ record { number = 17; values = []; log = replicate 23 before }
unfolding asking
core_17_before_10 = refl

-- 02, §1: 10 before 11, as over a raw capture
core_10_before_11 : core_asked huge strange.el2 guest (access 0x1008 3 0) 23 ≡ record { number = 10; values = []; log = replicate 23 before }
unfolding asking
core_10_before_11 = refl

-- 02, §1: 11 by the size that the header says
core_11 : ask_a huge ≡ record { number = 11; values = []; log = logged [] }
unfolding asking
core_11 = refl

-- the second of two banks, of which the file has eight bytes, ends at 2^48 with a size of 0x100
abbrev pub ending : (size : ℕ) → List ℕ
ending size = made (bank 0x1000 0 0 ∷ bank 0xFFFFFFFFFF00 176 size ∷ []) (filled 8)

-- 02, §1: a bank that ends at 2^48 by its header
core_11_at : ask_a (ending 0x100) ≡ ask_a bare
unfolding asking
core_11_at = refl

-- 02, §1: a byte past it, though the file has only eight of its bytes
core_11_past : ask_a (ending 0x101) ≡ record { number = 11; values = []; log = logged [] }
unfolding asking
core_11_past = refl

-- 02, §1: 17 before 14; nothing is written
core_17_before_14 : batch core strange_file strange (0x1008 ∷ []) (before ∷ []) [] ≡ record { answer = Err CoreFile; outputs = before ∷ []; numbers = [] }
unfolding asking
core_17_before_14 = refl

-- 02, §1: 14 before 11, as over a raw capture
core_14_before_11 : (batch core huge strange (0x1008 ∷ []) (before ∷ []) []).answer ≡ Err BatchLists
unfolding asking
core_14_before_11 = refl

-- 02, §1: 11 for a batch, before 12
core_batch_11 : (batch core huge strange (0x1008 ∷ []) (before ∷ []) (before ∷ [])).answer ≡ Err HighCapture
unfolding asking
core_batch_11 = refl

-- 02, §1: case A, and an address whose last descriptor lies in no bank
core_batch : batch core file_a shared (0x1008 ∷ 0x2000 ∷ []) (before ∷ before ∷ []) (before ∷ before ∷ [])
    ≡ record {
      answer = Ok (record { asked = 2; translated = 1; faulted = 0; absent = 1; unsettled = 0 });
      outputs = 0x90008 ∷ 0 ∷ [];
      numbers = 0 ∷ 6 ∷ [];
    }
unfolding asking
core_batch = refl

-- ---- the audit

-- over a core file, with its lists pair by pair
abbrev pub core_audit : (file : List ℕ) → El2 → (grants tables : List (ℕ × ℕ)) → AuditAnswer
core_audit file r grants tables = audit core file r (map (λ e. e.0) grants) (map (λ e. e.1) grants) (map (λ e. e.0) tables) (map (λ e. e.1) tables)

-- 02, §1: 17 before 11
core_audit_17 : core_audit strange_file narrow [] [] ≡ Err CoreFile
unfolding asking
core_audit_17 = refl

-- 02, §1: 11 for the audit
core_audit_11 : core_audit huge narrow [] [] ≡ Err HighCapture
unfolding asking
core_audit_11 = refl

-- a root of two entries in two banks: blocks of 1GB
abbrev pub split : List ℕ
split = core_of ((0x40000FF0, spelt (0x800007FD ∷ [])) ∷ (0x40000FF8, spelt (0xC00007FD ∷ [])) ∷ [])

-- 02, §1: a root whose entries lie in two banks
core_audit_clean : core_audit split narrow ((0x80000000, 0x80000000) ∷ []) [] ≡ Ok None
unfolding asking
core_audit_clean = refl

-- 02, §1: the second bank's entry is examined too
core_audit_found : core_audit split narrow ((0x80000000, 0x40000000) ∷ []) [] ≡ found OutsideGrants 0x40000FF8
unfolding asking
core_audit_found = refl

-- 02, §1: finding 1 is any entry absent: in no bank
core_audit_gap : core_audit (core_of ((0x40000FF0, spelt (0 ∷ [])) ∷ [])) narrow [] [] ≡ found NotCaptured 0x40000FF0
unfolding asking
core_audit_gap = refl

-- 02, §1: and across two
core_audit_across : core_audit (core_of ((0x40000FF0, bytes 12 0) ∷ (0x40000FFC, bytes 4 0) ∷ [])) narrow [] [] ≡ found NotCaptured 0x40000FF0
unfolding asking
core_audit_across = refl

-- with a listed table in some banks
abbrev pub listing : (table : List (ℕ × List ℕ)) → AuditAnswer
listing table = core_audit (core_of ((0x40000FF0, spelt (0x40001003 ∷ 0 ∷ [])) ∷ table)) narrow [] ((0x40001000, 2) ∷ [])

-- 02, §1: the second entry of a listed table in no bank
core_audit_listed_gap : listing ((0x40001000, spelt (0 ∷ [])) ∷ (0x40001010, spelt (0 ∷ [])) ∷ []) ≡ found NotCaptured 0x40001000
unfolding asking
core_audit_listed_gap = refl

-- 02, §1: and across two
core_audit_listed_across : listing ((0x40001000, bytes 12 0) ∷ (0x4000100C, bytes 12 0) ∷ []) ≡ found NotCaptured 0x40001000
unfolding asking
core_audit_listed_across = refl

-- a listed table in two banks, of which the first has 256 entries
abbrev pub in_two : (at n : ℕ) → AuditAnswer
in_two at n = listing ((0x40001000, replicate 0x800 0) ∷ (at, replicate n 0) ∷ [])

-- 02, §1: all 512 entries in two banks
core_audit_listed_clean : in_two 0x40001800 0x800 ≡ Ok None
unfolding asking
core_audit_listed_clean = refl

-- 02, §1: the second bank without its last byte
core_audit_listed_cut : in_two 0x40001800 0x7FF ≡ found NotCaptured 0x40001000
unfolding asking
core_audit_listed_cut = refl

-- 02, §1: the second bank without its first entry
core_audit_listed_middle : in_two 0x40001808 0x7F8 ≡ found NotCaptured 0x40001000
unfolding asking
core_audit_listed_middle = refl
