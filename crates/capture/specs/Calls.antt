-- For the contracts of code: which parts of a file may be read, and where a descriptor stands in them.
-- Assumes nothing.
use Rattle.std.specs.Prelude.{◌≡◌, ℕ, ◌+◌, ◌-◌, ◌%◌, ◌^◌, ◌<◌, ◌≤◌, List, ◌∷◌, length, take, drop, nat_lt, Option, Some, None, option_map, All, AllPairs}
use Rattle.std.specs.List.Sorted.{IsNonDecreasingBy, IsPartitionPoint}
use Rattle.bits.specs.Bits.{pick}
use Rattle.reads.specs.Program.{Request, Reader}
use Rattle.capture.specs.Capture.{little, kept, memory}
use Rattle.capture.specs.declared.Part.{Part}
use Rattle.capture.specs.declared.Front.{Front}
use Rattle.capture.specs.declared.Spot.{Spot}

-- a part that is tried first: beside it what an address is taken back by, 64 bits wide, to its place in the part
abbrev pub back_of : (address : ℕ) → ℕ
back_of a = (2 ^ 64 - a) % 2 ^ 64

abbrev pub ahead : Part → Front
ahead p = record { part = p; back = back_of p.address }

-- what code reads: the part in front, and then the others
abbrev pub captured : (front : Front) → (parts : List Part) → (file : List ℕ) → Request → Option ℕ
captured front parts file = memory (front.part ∷ parts) file

-- a part lies in a file of so many bytes, and no address in it wraps
pub record Lies (length : ℕ) (p : Part) : Type 0 where
  pub order : p.from ≤ p.to
  pub inside : p.to ≤ length
  pub fits : p.address + kept p ≤ 2 ^ 64

-- a part ends by the start of another
abbrev pub Before : Part → Part → Type 0
Before p q = p.address + kept p ≤ q.address

-- parts lie in a file of so many bytes and ascend
pub record Ascending (parts : List Part) (length : ℕ) : Type 0 where
  pub lie : All (Lies length) parts
  pub order : AllPairs Before parts

-- what a search goes by: no part starts below one that comes before it
abbrev pub Rising : (parts : List Part) → Type 0
Rising parts = IsNonDecreasingBy (λ p. p.address) parts

-- the part in front lies in a file of so many bytes
pub record Leads (length : ℕ) (front : Front) : Type 0 where
  pub lies : Lies length front.part
  pub back : front.back ≡ back_of front.part.address

-- what may be read
pub record Held (front : Front) (parts : List Part) (file : List ℕ) : Type 0 where
  pub leads : Leads (length file) front
  pub ascending : Ascending parts (length file)

-- how many parts start at or below an address
pub record StartingBy (parts : List Part) (address k : ℕ) : Type 0 where
  pub within : k ≤ length parts
  pub split : IsPartitionPoint (λ p. p.address ≤ address) (λ p. address < p.address) parts k

-- eight bytes lie in a file of so many, so far from the start of a part of it
pub record Inside (length : ℕ) (s : Spot) : Type 0 where
  pub order : s.from ≤ s.to
  pub within : s.to ≤ length
  pub room : s.at + 8 ≤ s.to - s.from

-- the descriptor that they spell
abbrev pub spelled : (file : List ℕ) → Spot → ℕ
spelled file s = little (take 8 (drop s.at (take (s.to - s.from) (drop s.from file))))

-- where a part has the descriptor at an address, if all of it is there
abbrev pub spot_in : Part → (address : ℕ) → Option Spot
spot_in p a = pick (nat_lt (a - p.address) (kept p - 7)) (Some (record { from = p.from; to = p.to; at = a - p.address })) None

-- a place is where parts have the descriptor at an address
pub record Placed (parts : List Part) (file : List ℕ) (address : ℕ) (p : Option Spot) : Type 0 where
  pub inside : (s : Spot) → p ≡ Some s → Inside (length file) s
  pub holds : (reader : Reader) → option_map (spelled file) p ≡ memory parts file (record { reader = reader; address = address })
