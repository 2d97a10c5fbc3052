-- `read` meets its contract: its tests are those of `headed`, in their order.
-- Assumes nothing.
use borrow.Author.Tests.{le-leb, lt-leb}
use mathlib.Core.Path.{◌≡◌}
use mathlib.Core.Bool.{Bool, true, false, ◌||◌, and-false}
use mathlib.Core.List.{List}
use Prim.Native.Nat.{ℕ, ◌+◌, ◌*◌, ◌≤◌, ◌<◌}
use native.Mathlib.Omega.{arith}
use lib.Dec.{leb, eqb}
use lib.ListN.{length}
use Rattle.std.specs.Prelude.{Option, MatchOption}
use Rattle.std.specs.Bool.{then_some}
use Rattle.bits.proofs.Tests.{told}
use Rattle.layout.specs.Calls.{Heads}
use Rattle.layout.specs.declared.elf.Headers.{Headers}
use Rattle.layout.specs.Elf.{of_kind, headed, header_count, headers_at}
use Rattle.layout.proofs.elf.Headers.read.Goals as goal
use Rattle.layout.proofs.elf.Headers.read.Goals.{then-file-lt64-via-then-file-lt64, then-file-lt64-via-else-file-lt64+then-not-is_of_kind}

module _ (file : List ℕ) where
  short : length file < 64 → headed file ≡ false
  unfolding headed
  short h = rw (lt-leb 64 (length file) h)

  other : of_kind file ≡ false → headed file ≡ false
  unfolding headed
  other e = rw (e, and-false (leb 64 (length file)))

  -- where the last test decides
  placed : 64 ≤ length file → of_kind file ≡ true → {h : Headers} → h.at ≡ headers_at file → h.count ≡ header_count file →
      {b : Bool} → b ≡ leb (h.at + 56 * h.count) (length file) → {r : Option Headers} → r ≡ then_some (eqb h.count 0 || b) h →
      MatchOption r (headed file ≡ false) (λ h. Heads file h)
  unfolding headed
  placed long e {h} p q {b} t {r} u = rw u (by_test (eqb h.count 0 || b) (rw (decides, ← p, ← q, ← t)))
    where
      decides : headed file ≡ (eqb (header_count file) 0 || leb (headers_at file + 56 * header_count file) (length file))
      decides = rw (le-leb 64 (length file) long, e)

      by_test : (v : Bool) → headed file ≡ v → MatchOption (then_some v h) (headed file ≡ false) (λ h. Heads file h)
      by_test true w = record { whole = w; at = p; count = q }
      by_test false w = w

pub returns-then-file-lt64 : goal.returns-then-file-lt64
returns-then-file-lt64 c = elim c.then-file-lt64.branch [
  | then-file-lt64-via-then-file-lt64 w ↦ short _ (omega (arith, w.if-file-lt64.true))
  | then-file-lt64-via-else-file-lt64+then-not-is_of_kind w ↦ other _ (told w.is_of_kind.ensures w.if-not-is_of_kind.true)
]

pub returns : goal.returns
returns c =
    placed _ (omega (arith, c.if-file-lt64.false)) (told c.is_of_kind.ensures c.if-not-is_of_kind.false) c.number.ensures.value c.number-2.ensures.value c.ends_by.ensures
    c.then_some.ensures
