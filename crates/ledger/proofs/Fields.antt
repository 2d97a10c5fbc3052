-- The line's fields on a page, and the line in a buffer.
-- Assumes nothing.
use mathlib.Core.Path.{◌≡◌, refl, ◌∙◌}
use mathlib.Core.Bool.{true, false}
use mathlib.Core.List.{List, ◌++◌, append_assoc, append-nil}
use Prim.Native.Nat.{ℕ, ◌+◌, ◌≤◌, ◌<◌}
use native.Mathlib.Omega.{arith}
use borrow.Author.Tests.{lt-ltb, le-ltb}
use lib.Dec.{ltb}
use lib.ListN.{drop_of_length-le, length, drop, length-append}
use lib.Seq.{sets-eq}
use Rattle.bits.proofs.Tests.{pick_true, pick_false}
use Rattle.ledger.specs.declared.Ledger.{Ledger}
use Rattle.std.specs.Prelude.{Some, None}
use Rattle.ledger.specs.Ledger.{ascii, decimal, line}
use Rattle.ledger.specs.Line.{Put, Field, sorts, line_into, LineTells}
use Rattle.ledger.proofs.Page.{put_before}
use Rattle.ledger.proofs.Digits.{decimal_most}

pub field_put : {name p q s : List ℕ} {n at m r : ℕ} → Put (decimal n) p at q m → Put name q m s r → Field name n p at s r
field_put {name} {p} {q} {s} {n} a b = record { put = put_before a b; room = omega (arith, a.placed, b.placed, decimal_most n) }

pub sorts_put : (l : Ledger) {p q s t u : List ℕ} {at m n k r : ℕ}
    → Field (ascii " unsettled ") l.unsettled p at q m → Field (ascii " absent ") l.absent q m s n
    → Field (ascii " faulted ") l.faulted s n t k → Field (ascii " translated ") l.translated t k u r
    → Put (sorts l) p at u r
sorts_put l a b d e = simp append_assoc (simp append_assoc at (put_before (put_before (put_before a.put b.put) d.put) e.put))

pub line_put : (l : Ledger) {p q s : List ℕ} {at m r : ℕ} → Put (sorts l) p at q m → Field (ascii "asked ") l.asked q m s r → Put (line l) p at s r
unfolding line
line_put l a b = simp append_assoc (simp append_assoc at (put_before a b.put))

pub sorts_most : (l : Ledger) → length (sorts l) ≤ 120
unfolding ascii
sorts_most l =
    simp length-append
    (omega (arith, decimal_most l.translated, decimal_most l.faulted, decimal_most l.absent, decimal_most l.unsettled))

-- ---- the line in a buffer, by the page that ends with it

-- what stands at the page's end is the line
pub whole : (l : Ledger) {page₀ page : List ℕ} {at start : ℕ} → length page₀ ≤ at → Put (line l) page₀ at page start → drop start page ≡ line l
whole l {page₀} {at = at} end put = put.stands ∙ rw (drop_of_length-le page₀ {i = at} end, append-nil (line l))

module _ (l : Ledger) (buffer : List ℕ) where
  pub tells_short : length buffer < length (line l) → LineTells (line_into l buffer) None buffer
  unfolding line_into
  tells_short short =
      let test : ltb (length buffer) (length (line l)) ≡ true = lt-ltb (length buffer) (length (line l)) short in
      record { answered = rw (pick_true _ _ _ test) refl; written = rw (pick_true _ _ _ test) refl }

  pub tells_written : length (line l) ≤ length buffer
      → LineTells (line_into l buffer) (Some (length (line l))) (line l ++ drop (length (line l)) buffer)
  unfolding line_into
  tells_written long =
      let test : ltb (length buffer) (length (line l)) ≡ false = le-ltb (length buffer) (length (line l)) long in
      let from_0 : 0 + length (line l) ≡ length (line l) = omega arith in
      record { answered = rw (pick_false _ _ _ test) refl; written = rw (pick_false _ _ _ test, sets-eq (line l) buffer 0 (omega arith), from_0) refl }
