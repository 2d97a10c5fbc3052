-- How a file is read as a capture: where its banks lie (01, What one question holds; 02, §1).
-- Assumes nothing.
use Rattle.std.specs.Prelude.{◌≡◌, Bool, false, not, List, [], ◌∷◌, map, ℕ, ◌+◌, ◌<◌, length, get_or, Option}
use Rattle.reads.specs.Program.{Request}
use Rattle.capture.specs.Capture.{part, memory}
use Rattle.capture.specs.declared.Bank.{Bank}
use Rattle.capture.specs.declared.Part.{Part}
use Rattle.layout.specs.Elf.{is_core, banks, headers_at, headers_end, header_size}

-- a raw capture is one run of bytes, of which the first lies at base; a core file says itself where its bytes lie
pub data Form : Type 0 where
  raw : (base : ℕ) → Form
  core : Form

-- all that a call is told by a file beside its bytes: whether 17 refuses it, and its banks
pub record Layout : Type 0 where
  pub unreadable : Bool
  pub banks : List Bank

-- a raw capture of so many bytes
abbrev pub whole : (base length : ℕ) → Layout
whole base length = record { unreadable = false; banks = record { address = base; offset = 0; size = length } ∷ [] }

unfoldable pub layout : Form → (file : List ℕ) → Layout
layout (raw base) file = whole base (length file)
layout core file = record { unreadable = not (is_core file); banks = banks file }

-- what the file has of its banks
abbrev pub parts_of : Form → (file : List ℕ) → List Part
parts_of form file = map (part (length file)) (layout form file).banks

-- what a capture holds. Every contract and every promise speaks of this memory.
abbrev pub captured : Form → (file : List ℕ) → Request → Option ℕ
captured form file = memory (parts_of form file) file

-- two files have the same bounds: the same length, and the same banks
pub record SameBounds (form : Form) (file file' : List ℕ) : Type 0 where
  pub length : length file ≡ length file'
  pub layout : layout form file ≡ layout form file'

-- two files have the same bytes from one place to before another
abbrev pub SameFrom : (file file' : List ℕ) (from to : ℕ) → Type 0
SameFrom file file' from to = (k : ℕ) → from + k < to → get_or file' (from + k) 0 ≡ get_or file (from + k) 0

-- two core files have the same headers, as the first says where they are
pub record SameHeaders (file file' : List ℕ) : Type 0 where
  pub elf : SameFrom file file' 0 header_size
  pub program : SameFrom file file' (headers_at file) (headers_end file)

-- A file's headers and length fix its banks. Proved in proofs/Headers.antt.
pub record Fixed (file file' : List ℕ) : Type 0 where
  pub of_raw : (base : ℕ) → length file ≡ length file' → SameBounds (raw base) file file'
  pub of_core : length file ≡ length file' → SameHeaders file file' → SameBounds core file file'
