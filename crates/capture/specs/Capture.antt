-- A capture as a memory of descriptors: a file's bytes, of which banks stand at physical addresses (02, §1).
-- A raw capture is one bank that is the whole file.
-- Assumes nothing.
use Rattle.std.specs.Prelude.{◌≡◌, ℕ, ◌+◌, ◌-◌, ◌*◌, ◌^◌, ◌<◌, ◌≤◌, Bool, false, ◌&&◌, ◌||◌, List, [], ◌∷◌, length, take, drop, nat_le, nat_lt, slice_index, Option, Some, None}
use Rattle.bits.specs.Bits.{pick}
use Rattle.reads.specs.Program.{Request, All}
use Rattle.capture.specs.declared.Part.{Part}
use Rattle.capture.specs.declared.Bank.{Bank}

-- the number that bytes spell, little-endian (01, Walk, descriptors)
unfoldable pub little : List ℕ → ℕ
little [] = 0
little (b ∷ l) = b + 256 * little l

-- ---- banks

abbrev pub least : ℕ → ℕ → ℕ
least a b = pick (nat_le a b) a b

-- what a file of so many bytes has of a bank
unfoldable pub part : (length : ℕ) → Bank → Part
part length b = record { address = b.address; from = least b.offset length; to = least (b.offset + b.size) length }

-- its bytes are the file's from one place to before another
abbrev pub kept : Part → ℕ
kept p = p.to - p.from

abbrev pub bytes_of : Part → (file : List ℕ) → List ℕ
bytes_of p file = take (kept p) (drop p.from file)

-- a bank ends past 2^48, by its header (01, Answer numbers, 11). The sum is one of unbounded numbers.
abbrev pub ends_high : (address size : ℕ) → Bool
ends_high address size = nat_lt (2 ^ 48) (address + size)

unfoldable pub any_high : List Bank → Bool
any_high [] = false
any_high (b ∷ l) = ends_high b.address b.size || any_high l

-- ---- descriptors

-- the eight bytes of a descriptor lie in the length bytes from base
unfoldable pub within : (base length address : ℕ) → Bool
within base length a = nat_le base a && nat_le (a + 8) (base + length)

-- the descriptor at an address of the bytes that stand at base: a word, or absent unless all its eight bytes are there
-- (01, Answer numbers, 6; README, demand 2)
abbrev pub word_at : (base : ℕ) → List ℕ → (address : ℕ) → ℕ
word_at base bytes a = little (take 8 (drop (a - base) bytes))

abbrev pub found : (base : ℕ) → List ℕ → (address : ℕ) → Option ℕ
found base bytes a = pick (within base (length bytes) a) (Some (word_at base bytes a)) None

-- in parts of a file: in the first that has all of it, absent if none has (02, §1)
unfoldable pub memory : List Part → (file : List ℕ) → Request → Option ℕ
memory [] file q = None
memory (p ∷ l) file q =
    pick (within p.address (kept p) q.address) (Some (word_at p.address (bytes_of p file) q.address)) (memory l file q)

-- two files have the same bytes from an address on, n of them, as far as a part has them
abbrev pub SameIn : (file file' : List ℕ) (address n : ℕ) → Part → Type 0
SameIn file file' a n p =
    (k : ℕ) → k < n → p.address ≤ a + k → a + k < p.address + kept p →
    slice_index file' (p.from + (a + k - p.address)) ≡ slice_index file (p.from + (a + k - p.address))

abbrev pub SameBytes : List Part → (file file' : List ℕ) (address n : ℕ) → Type 0
SameBytes parts file file' a n = All (SameIn file file' a n) parts
