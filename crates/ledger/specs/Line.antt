-- The ledger's line in a lent buffer, and what the code's steps to it give.
-- Assumes nothing.
use Rattle.std.specs.Prelude.{◌≡◌, List, ◌++◌, ℕ, ◌+◌, ◌≤◌, ltb, length, drop, Option, Some, None}
use Rattle.std.proofs.lemmas.List.Edits.{sets}
use Rattle.bits.specs.Bits.{pick}
use Rattle.ledger.specs.declared.Ledger.{Ledger}
use Rattle.ledger.specs.Ledger.{ascii, decimal, line}

-- what writing the line gives: its answer, and the lent buffer afterwards
pub record LineTold : Type 0 where
  pub answer : Option ℕ
  pub buffer : List ℕ

-- the line over a buffer's first bytes, and the bytes past it as they were; a buffer that is too short is left whole
unfoldable pub line_into : Ledger → List ℕ → LineTold
line_into l buffer =
    pick (ltb (length buffer) (length (line l)))
    (record { answer = None; buffer = buffer })
    (record { answer = Some (length (line l)); buffer = sets buffer 0 (line l) })

-- a call that gave what writing the line gives
pub record LineTells (t : LineTold) (answer : Option ℕ) (buffer : List ℕ) : Type 0 where
  pub answered : answer ≡ t.answer
  pub written : buffer ≡ t.buffer

-- ---- for the contracts between the code's own functions

-- a page before and after: some bytes now stand from r on, before what stood from at on
pub record Put (bytes before : List ℕ) (at : ℕ) (after : List ℕ) (r : ℕ) : Type 0 where
  pub stands : drop r after ≡ bytes ++ drop at before
  pub placed : r + length bytes ≡ at

-- the same of a figure with its name before it; no figure has more than twenty digits
pub record Field (name : List ℕ) (n : ℕ) (before : List ℕ) (at : ℕ) (after : List ℕ) (r : ℕ) : Type 0 where
  pub put : Put (name ++ decimal n) before at after r
  pub room : at ≤ r + (length name + 20)

-- the line's figures after the first
abbrev pub sorts : Ledger → List ℕ
sorts l =
    ascii " translated " ++ decimal l.translated ++ ascii " faulted " ++ decimal l.faulted ++ ascii " absent " ++ decimal l.absent
    ++ ascii " unsettled " ++ decimal l.unsettled
