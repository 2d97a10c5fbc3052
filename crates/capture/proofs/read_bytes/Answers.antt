-- `read_bytes` meets its contract: the test on the wrapped difference picks the case of `found`.
-- Assumes nothing.
use Rattle.std.proofs.Common.{◌≡◌, ℕ, ◌+◌, ◌-◌, ◌%◌, ◌^◌, ◌<◌, ◌≤◌, Bool, true, false, leb, length, refl, ap, ◌∙◌, arith, le-leb, leb-true}
use borrow.Author.Tests.{lt-leb}
use Rattle.bits.specs.Bits.{pick}
use Rattle.std.specs.Prelude.{Some}
use Rattle.capture.specs.Capture.{within}
use Rattle.capture.proofs.Spelled.{eight}
use Rattle.capture.proofs.read_bytes.Goals as goal

-- a difference past the places is that of an address below base, or too near the end
outside : (base n address at : ℕ) → (at + base) % 2 ^ 64 ≡ address → at < 2 ^ 64 → n - 7 ≤ at → within base n address ≡ false
unfolding within
outside base n address at e fits past = by_test (leb base address) refl
  where
    by_test : (b : Bool) → leb base address ≡ b → within base n address ≡ false
    by_test true t =
        let h : base ≤ address = leb-true _ _ t in
        let k : base + n < address + 8 = omega arith in
        simp (t, lt-leb)
    by_test false t = rw t

pub returns-then-at-room : goal.returns-then-at-room
unfolding within pick
returns-then-at-room c =
    let a = c.args in
    let past : length a.bytes.now - 7 ≤ (a.address + (2 ^ 64 - a.base)) % 2 ^ 64 = omega arith in
    simp (outside a.base (length a.bytes.now) a.address _ (omega arith) (omega arith) past)

pub returns : goal.returns
unfolding within pick
returns c =
    let a = c.args in
    let h : a.base ≤ a.address = omega arith in
    let k : a.address + 8 ≤ a.base + length a.bytes.now = omega arith in
    let e : (a.address + a.back) % 2 ^ 64 ≡ a.address - a.base = omega arith in
    simp le-leb (ap Some (c.word.ensures ∙ rw e (eight (a.address - a.base) a.bytes.now (omega arith))))
