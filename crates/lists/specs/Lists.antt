-- The audit's lists: grants (address, byte count) and tables (address, level), each as two 64-bit lists (01, The audit).
-- Assumes nothing.
use Rattle.std.specs.Prelude.{Bool, true, ◌&&◌, ◌||◌, List, [], ◌∷◌, ◌≡◌, ℕ, ◌+◌, ◌%◌, ◌^◌, ◌<◌, ltb, leb, eqb, length}

-- two lists, pair by pair, as far as both go
unfoldable pub zip : List ℕ → List ℕ → List (ℕ × ℕ)
zip [] l = []
zip (a ∷ k) [] = []
zip (a ∷ k) (b ∷ l) = (a, b) ∷ zip k l

-- a test of each, and of each with the one after it
unfoldable pub all : (ℕ × ℕ → Bool) → List (ℕ × ℕ) → Bool
all f [] = true
all f (e ∷ l) = f e && all f l

-- an element and the first of those after it, if there is one
unfoldable pub leads : (ℕ × ℕ → ℕ × ℕ → Bool) → ℕ × ℕ → List (ℕ × ℕ) → Bool
leads f e [] = true
leads f e (d ∷ l) = f e d

unfoldable pub ascends : (ℕ × ℕ → ℕ × ℕ → Bool) → List (ℕ × ℕ) → Bool
ascends f [] = true
ascends f (e ∷ l) = leads f e l && ascends f l

abbrev pub most_grants : ℕ
most_grants = 256

abbrev pub most_tables : ℕ
most_tables = 1024

abbrev pub is_multiple : (n size : ℕ) → Bool
is_multiple n size = eqb (n % size) 0

abbrev pub whole_frames : ℕ → Bool
whole_frames n = is_multiple n 4096

-- a grant of one frame or more, ending by 2^48
unfoldable pub grant_fits : ℕ × ℕ → Bool
grant_fits e = whole_frames e.0 && whole_frames e.1 && leb 4096 e.1 && leb (e.0 + e.1) (2 ^ 48)

-- a gap lies between a grant and the next
unfoldable pub grant_before : ℕ × ℕ → ℕ × ℕ → Bool
grant_before e d = ltb (e.0 + e.1) d.0

-- a table of some bytes, aligned to them and ending by 2^48, at level 1 to 3 (02, §3: a table is one granule)
unfoldable pub table_fits : (size : ℕ) → ℕ × ℕ → Bool
table_fits size e = is_multiple e.0 size && leb (e.0 + size) (2 ^ 48) && leb 1 e.1 && leb e.1 3

-- by address, then level
unfoldable pub table_before : ℕ × ℕ → ℕ × ℕ → Bool
table_before e d = ltb e.0 d.0 || (eqb e.0 d.0 && ltb e.1 d.1)

unfoldable pub grants_formed : (grants counts : List ℕ) → Bool
grants_formed grants counts =
    eqb (length grants) (length counts) && leb (length grants) most_grants && all grant_fits (zip grants counts) && ascends grant_before (zip grants counts)

unfoldable pub tables_formed : (size : ℕ) (tables levels : List ℕ) → Bool
tables_formed size tables levels =
    eqb (length tables) (length levels) && leb (length tables) most_tables && all (table_fits size) (zip tables levels) && ascends table_before (zip tables levels)

-- the four lists are well formed, with tables of some bytes; otherwise 15
unfoldable pub well_formed : (size : ℕ) (grants counts tables levels : List ℕ) → Bool
well_formed size grants counts tables levels = grants_formed grants counts && tables_formed size tables levels

-- For the contracts of searches: tables that are well formed, of whatever size
pub record Tables (tables levels : List ℕ) : Type 0 where
  pub size : ℕ
  pub some : 0 < size
  pub formed : tables_formed size tables levels ≡ true
