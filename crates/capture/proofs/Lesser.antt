-- The lesser of two numbers, and what a file has of a bank.
-- Assumes nothing.
use Rattle.std.proofs.Common.{◌≡◌, ℕ, ◌+◌, ◌<◌, ◌≤◌, min, Bool, true, false, leb, refl, arith, leb-false, leb-true}
use Rattle.bits.specs.Bits.{pick}
use Rattle.capture.specs.Capture.{least, part, kept}
use Rattle.capture.specs.declared.Bank.{Bank}

pub least_min : (a b : ℕ) → least a b ≡ min a b
unfolding pick
least_min a b = by_test (leb a b) refl
  where
    by_test : (t : Bool) → leb a b ≡ t → pick t a b ≡ min a b
    by_test true e =
        let k : a ≤ b = leb-true _ _ e in
        omega arith
    by_test false e =
        let k : b < a = leb-false _ _ e in
        omega arith

-- a part starts by its end, ends by the file's end, and has no more bytes than the bank
pub part_lies : (length : ℕ) (b : Bank) → ((part length b).from ≤ (part length b).to) × ((part length b).to ≤ length) × (kept (part length b) ≤ b.size)
unfolding part
part_lies length b =
    let from = least_min b.offset length in
    let to = least_min (b.offset + b.size) length in
    (omega (arith, from, to), omega (arith, to), omega (arith, from, to))
