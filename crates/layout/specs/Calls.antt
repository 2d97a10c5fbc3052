-- For the contracts of code: what a call over a core file's headers found, and what it wrote.
-- Assumes nothing.
use Rattle.std.specs.Prelude.{◌≡◌, Bool, true, false, ◌&&◌, List, [], ◌∷◌, ℕ, ◌+◌, ◌*◌, ◌≤◌, ◌<◌, leb, eqb, length, take, Option, Some, None, is_some, IfSome}
use Rattle.std.proofs.lemmas.List.Edits.{sets}
use Rattle.bits.specs.Bits.{pick}
use Rattle.capture.specs.Capture.{kept, any_high}
use Rattle.capture.specs.declared.Bank.{Bank}
use Rattle.capture.specs.Calls.{ahead}
use Rattle.capture.specs.declared.Part.{Part}
use Rattle.layout.specs.declared.Laid.{Laid}
use Rattle.layout.specs.declared.Lone.{Lone}
use Rattle.layout.specs.declared.elf.Headers.{Headers}
use Rattle.layout.specs.declared.elf.Tally.{Tally}
use Rattle.layout.specs.Elf.{headed, headers_at, header_count, bank_at, banks_from, banks, most_banks, is_core, parts}

-- each part stands in the file at or past the end of the one before it, the first at or past a place
unfoldable pub in_order : (end : ℕ) → List Part → Bool
in_order end [] = true
in_order end (p ∷ l) = leb end p.from && in_order p.to l

-- the program headers of a file that wholly has both kinds of headers
pub record Heads (file : List ℕ) (h : Headers) : Type 0 where
  pub whole : headed file ≡ true
  pub at : h.at ≡ headers_at file
  pub count : h.count ≡ header_count file

-- program headers lie in a file of so many bytes
abbrev pub There : Headers → (length : ℕ) → Type 0
There h length = (i : ℕ) → i < h.count → h.at + 56 * i + 56 ≤ length

-- a call that counted the banks of program headers. Where there is one alone it is at the place that is told.
pub record Tallies (file : List ℕ) (h : Headers) (t : Tally) : Type 0 where
  pub count : t.count ≡ length (banks_from h.count h.at file)
  pub there : 0 < t.count → t.last + 56 ≤ length file
  pub sole : t.count ≡ 1 → banks_from h.count h.at file ≡ bank_at t.last file ∷ []

-- the larger of two parts, the first of those that are alike
abbrev pub larger : Part → Part → Part
larger p q = pick (leb (kept q) (kept p)) p q

-- the largest part, or no byte where there is none
unfoldable pub front_of : List Part → Part
front_of [] = record { address = 0; from = 0; to = 0 }
front_of (p ∷ l) = larger p (front_of l)

-- a call that read the headers of a file: how many banks it has, if it is accepted, and these over the first of the lent ones.
-- They are written where the headers are there and say no more banks than there may be.
pub record Reads (file : List ℕ) (lent : List Bank) (r : Option ℕ) (lent' : List Bank) : Type 0 where
  pub count : r ≡ pick (is_core file) (Some (length (banks file))) None
  pub written : lent' ≡ pick (headed file && leb (length (banks file)) most_banks) (sets lent 0 (banks file)) lent

-- a call that laid out an accepted core file: whether a bank ends past 2^48, how many there are, the largest part, and all parts, over
-- the first of the lent ones. Where the file is refused these stay.
pub record Lays (file : List ℕ) (lent : List Part) (r : Option Laid) (lent' : List Part) : Type 0 where
  pub readable : is_some r ≡ is_core file
  pub high : IfSome r (λ l. l.high ≡ any_high (banks file))
  pub front : IfSome r (λ l. l.front ≡ ahead (front_of (parts file)))
  pub count : IfSome r (λ l. l.count ≡ length (banks file))
  pub written : is_core file ≡ true → take (length (banks file)) lent' ≡ parts file
  pub refused : is_core file ≡ false → lent' ≡ lent

-- a call that looked for the bank of an accepted core file that has one alone: whether the bank ends past 2^48, and what the file has of it
pub record Alone (file : List ℕ) (r : Option Lone) : Type 0 where
  pub found : is_some r ≡ (is_core file && eqb (length (banks file)) 1)
  pub high : IfSome r (λ l. l.high ≡ any_high (banks file))
  pub front : IfSome r (λ l. l.front ≡ ahead (front_of (parts file)))
