-- The figures of a list of answer numbers, by how many of them are below the bounds between the sorts; and that they add up.
-- Assumes nothing.
use mathlib.Core.Path.{◌≡◌, refl}
use mathlib.Core.Bool.{Bool, true, false, ◌&&◌}
use mathlib.Core.List.{List, [], ◌∷◌}
use Prim.Native.Nat.{ℕ, zero, suc, ◌+◌, ◌-◌, ◌≤◌, ◌<◌}
use native.Mathlib.Numerals.{add-one}
use native.Mathlib.Omega.{arith}
use borrow.Author.Tests.{leb-true, leb-false, eqb-true, eqb-false, le-leb}
use lib.Dec.{ltb, leb, eqb}
use mir.Val.{bool_byte}
use lib.ListN.{length, take, get_or}
use lib.Seq.{take_all}
use Rattle.bits.specs.Bits.{pick}
use Rattle.bits.proofs.Tests.{by_pick}
use Rattle.reads.specs.Program.{All, nil, cons}
use Rattle.ledger.specs.Ledger.{count, ledger}
use Rattle.ledger.specs.Calls.{below}

-- ---- one number

-- what a comparison counts, as arithmetic
one_le : (m n : ℕ) → pick (leb m n) 1 0 ≡ 1 - (m - n)
one_le m n = by_pick (λ x. x ≡ 1 - (m - n)) (leb m n) 1 0 (λ e. omega (arith, leb-true m n e)) (λ e. omega (arith, leb-false m n e))

-- between the bounds k and k + 1 lies k alone
one_eq : (n k : ℕ) → pick (ltb n (suc k)) 1 0 ≡ pick (ltb n k) 1 0 + pick (eqb n k) 1 0
one_eq n k =
    by_pick (λ x. pick (ltb n (suc k)) 1 0 ≡ pick (ltb n k) 1 0 + x) (eqb n k) 1 0
    (λ e. omega (arith, eqb-true n k e, one_le (suc n) (suc k), one_le (suc n) k))
    (λ e. omega (arith, eqb-false n k e, one_le (suc n) (suc k), one_le (suc n) k))

-- between the bounds 1 and 6 lie the faults
one_fault : (n : ℕ) → pick (ltb n 6) 1 0 ≡ pick (ltb n 1) 1 0 + pick (leb 1 n && leb n 5) 1 0
unfolding pick
one_fault zero = refl
one_fault (suc n) = rw (le-leb 1 (suc n) (omega arith)) (omega (arith, one_le (suc (suc n)) 6, one_le (suc (suc n)) 1, one_le (suc n) 5))

-- ---- the counts of a list's first numbers

-- a count of the numbers below k has come to the first i of a list
pub record Counted (k : ℕ) (l : List ℕ) (i counted : ℕ) : Type 0 where
  pub few : counted ≤ i
  pub exact : counted ≡ below k (take i l)

below_suc : (k i : ℕ) (l : List ℕ) → i < length l → below k (take (suc i) l) ≡ below k (take i l) + pick (ltb (get_or l i 0) k) 1 0
unfolding count
below_suc k i [] h = absurd (omega arith)
below_suc k zero (n ∷ l) h = omega arith
below_suc k (suc i) (n ∷ l) h = omega (arith, below_suc k i l (omega arith))

pub counted_start : (k : ℕ) (l : List ℕ) → Counted k l 0 0
unfolding count
counted_start k l = record { few = omega arith; exact = refl }

-- a test as a number
one_for : (b : Bool) → (bool_byte b ≡ pick b 1 0) × (bool_byte b ≤ 1)
unfolding pick
one_for true = (refl, omega arith)
one_for false = (refl, omega arith)

pub counted_next : {k : ℕ} {l : List ℕ} {i counted one : ℕ} → i < length l → Counted k l i counted → one ≡ bool_byte (ltb (get_or l i 0) k) →
    Counted k l (i + 1) (counted + one)
counted_next {k} {l} {i} h w e =
    let o = one_for (ltb (get_or l i 0) k) in
    record { few = omega arith; exact = rw add-one (omega (arith, below_suc k i l h)) }

-- ---- the figures of a whole list

-- a sort's figure is how many numbers are below its end and not below its start
pub record Between (l : List ℕ) (below1 below6 below7 below8 : ℕ) : Type 0 where
  pub translated : below1 ≡ (ledger l).translated
  pub faulted : below6 ≡ below1 + (ledger l).faulted
  pub absent : below7 ≡ below6 + (ledger l).absent
  pub unsettled : below8 ≡ below7 + (ledger l).unsettled

between : (l : List ℕ) → Between l (below 1 l) (below 6 l) (below 7 l) (below 8 l)
unfolding ledger count
between [] = record { translated = refl; faulted = refl; absent = refl; unsettled = refl }
between (n ∷ l) =
    let rest : Between l (below 1 l) (below 6 l) (below 7 l) (below 8 l) = between l in
    record {
      translated = omega (arith, rest.translated, one_eq n 0, one_le (suc n) 0);
      faulted = omega (arith, rest.faulted, one_fault n);
      absent = omega (arith, rest.absent, one_eq n 6);
      unsettled = omega (arith, rest.unsettled, one_eq n 7);
    }

-- the four counts have come to the first i numbers
pub record Counting (l : List ℕ) (below1 below6 below7 below8 i : ℕ) : Type 0 where
  pub to1 : Counted 1 l i below1
  pub to6 : Counted 6 l i below6
  pub to7 : Counted 7 l i below7
  pub to8 : Counted 8 l i below8

pub counting_done : {l : List ℕ} {a b c d i : ℕ} → length l ≤ i → Counting l a b c d i → Between l a b c d
counting_done {l} {i = i} over w =
    rw (w.to1.exact, w.to6.exact, w.to7.exact, w.to8.exact, take_all i l over) (between l)

pub differences : {l : List ℕ} {a b c d : ℕ} → Between l a b c d →
    record { asked = length l; translated = a; faulted = b - a; absent = c - b; unsettled = d - c } ≡ ledger l
unfolding ledger
differences {l} {a} {b} {c} {d} w =
    let faulted : b - a ≡ (ledger l).faulted = omega (arith, w.faulted) in
    let absent : c - b ≡ (ledger l).absent = omega (arith, w.absent) in
    let unsettled : d - c ≡ (ledger l).unsettled = omega (arith, w.unsettled) in
    rw (faulted, absent, unsettled, w.translated)

-- ---- the figures add up

-- a number of an answer that is not a refusal
abbrev pub Sorted : ℕ → Type 0
Sorted n = (pick (eqb n 0) 1 0 + pick (leb 1 n && leb n 5) 1 0 + pick (eqb n 6) 1 0 + pick (eqb n 7) 1 0) ≡ 1

pub adds_up : (ns : List ℕ) → All Sorted ns → (ledger ns).asked ≡ (ledger ns).translated + (ledger ns).faulted + (ledger ns).absent + (ledger ns).unsettled
unfolding ledger count
adds_up [] nil = refl
adds_up (n ∷ ns) (cons s h) = let e = adds_up ns h in omega (arith, e, s)
