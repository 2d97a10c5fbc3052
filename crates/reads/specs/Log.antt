-- A log of reads: the words that a caller lends for the addresses of the descriptors read.
-- Assumes nothing.
use Rattle.std.specs.Prelude.{List, ℕ, slice_set, Option, Some, None}

-- a log after a read: the k-th word is the address of a descriptor that is there
unfoldable pub logged : Option ℕ → (log : List ℕ) → (k address : ℕ) → List ℕ
logged None log k a = log
logged (Some x) log k a = slice_set log k a
