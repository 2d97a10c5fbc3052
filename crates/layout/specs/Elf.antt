-- ELF64 core files, little-endian: their headers, the banks that these say, and which files are accepted (02, §1).
-- Offsets in the headers are those of the ELF-64 object file format.
-- Assumes nothing.
use Rattle.std.specs.Prelude.{Bool, true, not, ◌&&◌, ◌||◌, List, [], ◌∷◌, map, ℕ, zero, suc, ◌+◌, ◌*◌, leb, ltb, eqb, length, take, drop}
use Rattle.bits.specs.Bits.{pick}
use Rattle.capture.specs.Capture.{little, least, part}
use Rattle.capture.specs.declared.Bank.{Bank}
use Rattle.capture.specs.declared.Part.{Part}

-- the number in n bytes of a file, from one place on
abbrev pub number : (n at : ℕ) → (file : List ℕ) → ℕ
number n at file = little (take n (drop at file))

-- ---- the ELF header

abbrev pub header_size : ℕ
header_size = 64

-- magic, class 64 (2), little-endian (1), a core file (4), machine 183, program headers of 56 bytes. No other field is tested.
unfoldable pub of_kind : (file : List ℕ) → Bool
of_kind file =
    eqb (number 4 0 file) 0x464c457f
    && eqb (number 1 4 file) 2
    && eqb (number 1 5 file) 1
    && eqb (number 2 16 file) 4
    && eqb (number 2 18 file) 183
    && eqb (number 2 54 file) 56

-- where the program headers stand (e_phoff), how many there are, as written (e_phnum), and where they end
abbrev pub headers_at : (file : List ℕ) → ℕ
headers_at file = number 8 32 file

abbrev pub header_count : (file : List ℕ) → ℕ
header_count file = number 2 56 file

abbrev pub headers_end : (file : List ℕ) → ℕ
headers_end file = headers_at file + 56 * header_count file

-- both kinds of headers are wholly in the file. Where there are no program headers none is missing, wherever they would stand.
unfoldable pub headed : (file : List ℕ) → Bool
headed file = leb header_size (length file) && of_kind file && (eqb (header_count file) 0 || leb (headers_end file) (length file))

-- ---- program headers

-- a program header at a place is a bank if its type is 1: its physical address (p_paddr), offset (p_offset) and size (p_filesz)
abbrev pub is_bank : (at : ℕ) → (file : List ℕ) → Bool
is_bank at file = eqb (number 4 at file) 1

abbrev pub bank_at : (at : ℕ) → (file : List ℕ) → Bank
bank_at at file = record { address = number 8 (at + 24) file; offset = number 8 (at + 8) file; size = number 8 (at + 32) file }

-- the banks of n program headers from one place on
unfoldable pub banks_from : (n at : ℕ) → (file : List ℕ) → List Bank
banks_from zero at file = []
banks_from (suc n) at file = pick (is_bank at file) (bank_at at file ∷ banks_from n (at + 56) file) (banks_from n (at + 56) file)

abbrev pub banks : (file : List ℕ) → List Bank
banks file = banks_from (header_count file) (headers_at file) file

-- ---- what is accepted

abbrev pub most_banks : ℕ
most_banks = 64

-- each bank starts at or past the end of the one before it, by the sizes that the headers say
unfoldable pub follows : Bank → List Bank → Bool
follows b [] = true
follows b (c ∷ l) = leb (b.address + b.size) c.address

unfoldable pub ascend : List Bank → Bool
ascend [] = true
ascend (b ∷ l) = follows b l && ascend l

abbrev pub greatest : ℕ → ℕ → ℕ
greatest a b = pick (leb a b) b a

-- a part and the bytes of the file from one place to before another share a byte
abbrev pub meets : (from to : ℕ) → Part → Bool
meets from to p = ltb (greatest from p.from) (least to p.to)

-- no part has a byte of the file from one place to before another
unfoldable pub clear : (from to : ℕ) → List Part → Bool
clear from to [] = true
clear from to (p ∷ l) = not (meets from to p) && clear from to l

-- no byte of the file lies in two parts
unfoldable pub apart : List Part → Bool
apart [] = true
apart (p ∷ l) = clear p.from p.to l && apart l

-- what the file has of its banks
abbrev pub parts : (file : List ℕ) → List Part
parts file = map (part (length file)) (banks file)

-- banks that a file of so many bytes may have, with program headers from one place to before another: in order, and with no byte of the
-- file in two of them, or in one and a header
unfoldable pub well_laid : (length : ℕ) → List Bank → (at end : ℕ) → Bool
well_laid length l at end =
    ascend l
    && apart (map (part length) l)
    && clear 0 header_size (map (part length) l)
    && clear at end (map (part length) l)

-- a core file that is accepted; any other is refused by 17
unfoldable pub is_core : (file : List ℕ) → Bool
is_core file = headed file && leb (length (banks file)) most_banks && well_laid (length file) (banks file) (headers_at file) (headers_end file)
