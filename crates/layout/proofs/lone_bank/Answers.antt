-- `lone_bank` meets its contract: of the tests of `is_core` those that a single bank can fail are left, in their order.
-- Assumes nothing.
use borrow.Author.Tests.{ne_eqb}
use mathlib.Core.Path.{◌≡◌, refl, sym, ap, ◌∙◌}
use mathlib.Core.Bool.{Bool, true, false, not, ◌&&◌, and-false}
use mathlib.Core.List.{List, [], ◌∷◌}
use Prim.Native.Nat.{ℕ, ◌+◌, ◌*◌}
use native.Mathlib.Omega.{arith}
use lib.Dec.{eqb}
use lib.ListN.{length}
use Rattle.std.specs.Prelude.{None}
use Rattle.bits.proofs.Tests.{told}
use Rattle.capture.specs.Capture.{part}
use Rattle.capture.specs.Calls.{ahead}
use Rattle.capture.specs.declared.Bank.{Bank}
use Rattle.capture.specs.declared.Part.{Part}
use Rattle.layout.specs.declared.elf.Headers.{Headers}
use Rattle.layout.specs.declared.elf.Tally.{Tally}
use Rattle.layout.specs.Elf.{headed, headers_at, headers_end, bank_at, banks, follows, ascend, meets, clear, apart, well_laid, is_core}
use Rattle.layout.specs.Calls.{Heads, Tallies, Alone}
use Rattle.layout.proofs.Headed.{there, fits, banks_are}
use Rattle.layout.proofs.Front.{front_sole}
use Rattle.layout.proofs.Parts.{one_high}
use Rattle.layout.proofs.lone_bank.Goals as goal

module _ (file : List ℕ) where
  -- the file is accepted and has one bank
  abbrev Sole : Bool → Type 0
  Sole v = (is_core file && eqb (length (banks file)) 1) ≡ v

  refused : Sole false → Alone file None
  refused e = record { found = sym e; high = tt; front = tt }

  unheaded : headed file ≡ false → Sole false
  unfolding is_core
  unheaded e = rw e

  module _ {h : Headers} (heads : Heads file h) where
    module _ {t : Tally} (tallied : Tallies file h t) where
      another_count : (t.count ≡ 1 → ⊥) → Sole false
      another_count n = let many = tallied.count ∙ ap length (banks_are heads) in rw (← many, ne_eqb t.count 1 n) (and-false (is_core file))

      only : {b : Bank} → t.count ≡ 1 → b ≡ bank_at t.last file → banks file ≡ b ∷ []
      only one r = sym (banks_are heads) ∙ rw r (tallied.sole one)

    -- one bank is in order, and apart from the others
    judged : {b : Bank} {o : Part} {v w : Bool} → banks file ≡ b ∷ [] → o ≡ part (length file) b →
        meets 0 64 o ≡ v → meets h.at (h.at + 56 * h.count) o ≡ w → Sole (not v && not w)
    unfolding is_core well_laid follows ascend clear apart
    judged {b} {o} {v} {w} one u x y = by_test v w (rw u at x) (rw (u, heads.at, heads.count) at y)
      where
        by_test : (v w : Bool) → meets 0 64 (part (length file) b) ≡ v → meets (headers_at file) (headers_end file) (part (length file) b) ≡ w → Sole (not v && not w)
        by_test true w x y = rw (heads.whole, one, x)
        by_test false true x y = rw (heads.whole, one, x, y)
        by_test false false x y = rw (heads.whole, one, x, y)

pub returns-in_err-headers : goal.returns-in_err-headers
returns-in_err-headers c = rw c.from_residual.ensures (refused _ (unheaded _ c.in_err-headers.ensures))

pub count_banks-banks-requires : goal.count_banks-banks-requires
count_banks-banks-requires c = there c.in_ok-headers.ensures

pub returns-then-banks-ne1 : goal.returns-then-banks-ne1
returns-then-banks-ne1 c = refused _ (another_count _ c.in_ok-headers.ensures c.count_banks-banks.ensures (λ e. c.if-banks-ne1.true (omega (arith, e))))

pub returns-then-meets : goal.returns-then-meets
returns-then-meets c =
    let heads = c.in_ok-headers.ensures in
    let one = only _ heads c.count_banks-banks.ensures (omega (arith, c.if-banks-ne1.false)) c.bank_at-bank.ensures in
    refused _ (judged _ heads one c.part-part.ensures (told c.meets.ensures c.if-meets.true) refl)

pub end-requires : goal.end-requires
end-requires c = fits c.in_ok-headers.ensures (omega arith) (omega arith)

pub returns-then-meets-2 : goal.returns-then-meets-2
returns-then-meets-2 c =
    let heads = c.in_ok-headers.ensures in
    let one = only _ heads c.count_banks-banks.ensures (omega (arith, c.if-banks-ne1.false)) c.bank_at-bank.ensures in
    refused _ (judged _ heads one c.part-part.ensures (told c.meets.ensures c.if-meets.false) (told (rw c.end.ensures at c.meets-2.ensures) c.if-meets-2.true))

pub returns : goal.returns
returns c =
    let heads = c.in_ok-headers.ensures in
    let one = only _ heads c.count_banks-banks.ensures (omega (arith, c.if-banks-ne1.false)) c.bank_at-bank.ensures in
    record {
      found = sym (judged _ heads one c.part-part.ensures (told c.meets.ensures c.if-meets.false) (told (rw c.end.ensures at c.meets-2.ensures) c.if-meets-2.false));
      high = rw one (c.ends_high.ensures ∙ sym (one_high _));
      front = rw one (c.new.ensures ∙ ap ahead (c.part-part.ensures ∙ sym (front_sole _)));
    }
