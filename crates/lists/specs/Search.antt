-- What is looked for in the audit's lists: a grant around some bytes, one that shares a byte with them, and a table at a level (01, The audit).
-- Assumes nothing.
use Rattle.std.specs.Prelude.{Bool, false, ◌&&◌, ◌||◌, List, [], ◌∷◌, ℕ, ◌+◌, ltb, leb, eqb}

-- n bytes from a lie inside one grant
unfoldable pub granted : List (ℕ × ℕ) → (a n : ℕ) → Bool
granted [] a n = false
granted (g ∷ l) a n = (leb g.0 a && leb (a + n) (g.0 + g.1)) || granted l a n

-- n bytes from a share a byte with some grant
unfoldable pub touches : List (ℕ × ℕ) → (a n : ℕ) → Bool
touches [] a n = false
touches (g ∷ l) a n = (ltb a (g.0 + g.1) && ltb g.0 (a + n)) || touches l a n

unfoldable pub is_listed : List (ℕ × ℕ) → (table level : ℕ) → Bool
is_listed [] table level = false
is_listed (t ∷ l) table level = (eqb t.0 table && eqb t.1 level) || is_listed l table level
