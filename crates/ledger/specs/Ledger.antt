-- The ledger of a batch: its figures, and its line as bytes (01, What one question holds).
-- Assumes nothing.
use Rattle.std.specs.Prelude.{Bool, ◌&&◌, List, [], ◌∷◌, ◌++◌, ℕ, zero, suc, ◌+◌, ◌/◌, ◌%◌, ltb, leb, eqb, length}
use Prim.Native.Char.{code}
use Prim.Native.String.{String, [] as end, ◌∷◌ as before}
use Rattle.bits.specs.Bits.{pick}
use Rattle.ledger.specs.declared.Ledger.{Ledger}

-- ---- figures

-- how many of some numbers pass a test
unfoldable pub count : (ℕ → Bool) → List ℕ → ℕ
count f [] = 0
count f (n ∷ l) = pick (f n) 1 0 + count f l

-- the figures of a list of answer numbers
unfoldable pub ledger : List ℕ → Ledger
ledger l =
    record {
      asked = length l;
      translated = count (λ n. eqb n 0) l;
      faulted = count (λ n. leb 1 n && leb n 5) l;
      absent = count (λ n. eqb n 6) l;
      unsettled = count (λ n. eqb n 7) l;
    }

-- ---- the line

-- the bytes of an ASCII text
unfoldable pub ascii : String → List ℕ
ascii end = []
ascii (before c s) = code c ∷ ascii s

-- a number's decimal digits before l; twenty digits are enough for 64 bits
unfoldable pub digits : (most : ℕ) → ℕ → List ℕ → List ℕ
digits zero n l = l
digits (suc k) n l = pick (ltb n 10) ((48 + n) ∷ l) (digits k (n / 10) ((48 + n % 10) ∷ l))

unfoldable pub decimal : ℕ → List ℕ
decimal n = digits 20 n []

unfoldable pub line : Ledger → List ℕ
line l =
    ascii "asked " ++ decimal l.asked ++ ascii " translated " ++ decimal l.translated ++ ascii " faulted " ++ decimal l.faulted
    ++ ascii " absent " ++ decimal l.absent ++ ascii " unsettled " ++ decimal l.unsettled
