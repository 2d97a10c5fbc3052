-- The largest part, which is tried before the others: it is one of them, so that trying it first changes nothing where they ascend.
-- Assumes nothing.
use mathlib.Core.Path.{◌≡◌, refl, sym, ◌∙◌}
use mathlib.Core.Bool.{Bool, true, false, and-false}
use mathlib.Core.List.{List, [], ◌∷◌}
use Prim.Native.Nat.{ℕ, ◌+◌, ◌≤◌, ◌<◌}
use native.Mathlib.Omega.{arith}
use lib.Dec.{leb}
use borrow.Author.Tests.{le-leb, lt-leb, leb-true, leb-false}
use Rattle.bits.specs.Bits.{pick}
use Rattle.bits.proofs.Tests.{by_pick, pick_true, pick_false}
use Rattle.reads.specs.Program.{Request, All, cons}
use Rattle.std.specs.Prelude.{Option, fold, unwrap_or}
use Rattle.std.specs.List.{reduce}
use Rattle.capture.specs.Capture.{kept, within, memory}
use Rattle.capture.specs.Calls.{Lies, Before}
use Rattle.capture.specs.declared.Part.{Part}
use Rattle.capture.proofs.Bytewise.{in_bounds}
use Rattle.layout.specs.Calls.{larger, front_of}

-- what holds of each part, and of no byte, holds of the largest
front_each : (P : Part → Type 0) (l : List Part) → P (record { address = 0; from = 0; to = 0 }) → All P l → P (front_of l)
unfolding front_of
front_each P [] z a = z
front_each P (p ∷ l) z (cons x a) = by_pick P (leb (kept (front_of l)) (kept p)) p (front_of l) (λ e. x) (λ e. front_each P l z a)

pub front_lies : (total : ℕ) (l : List Part) → All (Lies total) l → Lies total (front_of l)
front_lies total l = front_each (Lies total) l (record { order = omega arith; inside = omega arith; fits = omega arith })

pub front_sole : (p : Part) → front_of (p ∷ []) ≡ p
unfolding front_of
front_sole p = pick_true (leb 0 (kept p)) p _ (le-leb 0 (kept p) (omega arith))

-- ---- the largest, from the first part on

larger_none : (p : Part) → larger p (front_of []) ≡ p
unfolding front_of
larger_none p = pick_true (leb 0 (kept p)) p _ (le-leb 0 (kept p) (omega arith))

larger_assoc : (p q r : Part) → larger (larger p q) r ≡ larger p (larger q r)
unfolding pick
larger_assoc p q r = by_tests (leb (kept q) (kept p)) (leb (kept r) (kept q)) refl refl
  where
    by_tests : (s t : Bool) → leb (kept q) (kept p) ≡ s → leb (kept r) (kept q) ≡ t → larger (pick s p q) r ≡ larger p (pick t q r)
    by_tests true true e f = rw (e, le-leb (kept r) (kept p) (omega (arith, leb-true _ _ e, leb-true _ _ f)))
    by_tests true false e f = refl
    by_tests false true e f = rw (e, f)
    by_tests false false e f = rw (f, lt-leb (kept r) (kept p) (omega (arith, leb-false _ _ e, leb-false _ _ f)))

folded : (p : Part) (l : List Part) → fold larger p l ≡ larger p (front_of l)
unfolding front_of
folded p [] = sym (larger_none p)
folded p (q ∷ l) = folded (larger p q) l ∙ larger_assoc p q (front_of l)

pub reduced : (l : List Part) → unwrap_or (reduce larger l) (record { address = 0; from = 0; to = 0 }) ≡ front_of l
unfolding front_of
reduced [] = refl
reduced (p ∷ l) = folded p l

-- ---- a part that is tried twice

-- each part ends by the start of all after it
unfoldable pub Rows : List Part → Type 0
Rows [] = Unit {0}
Rows (p ∷ l) = All (Before p) l × Rows l

front_past : (p : Part) (l : List Part) → All (Before p) l → 0 < kept (front_of l) → Before p (front_of l)
unfolding front_of
front_past p [] a = λ h. absurd (omega (arith, h))
front_past p (x ∷ l) (cons b a) =
    by_pick (λ f. 0 < kept f → Before p f) (leb (kept (front_of l)) (kept x)) x (front_of l) (λ e h. b) (λ e. front_past p l a)

abbrev has : Part → Request → Bool
has p q = within p.address (kept p) q.address

-- a descriptor in a part is in none that ends by its start
passed_by : (p f : Part) (q : Request) → (0 < kept f → Before p f) → has f q ≡ true → has p q ≡ false
unfolding within
passed_by p f q past e =
    let b = in_bounds f.address (kept f) q.address e in
    let start = past (omega (arith, b.0, b.1)) in
    let far : leb (q.address + 8) (p.address + kept p) ≡ false = lt-leb (q.address + 8) (p.address + kept p) (omega (arith, b.0, start)) in
    rw far (and-false (leb p.address q.address))

-- no byte has no descriptor
misses_all : (a : ℕ) → within 0 0 a ≡ false
unfolding within
misses_all a =
    let first : 0 ≤ a = omega arith in
    let past : 0 < a + 8 = omega arith in
    rw (le-leb 0 a first, lt-leb (a + 8) 0 past)

-- ways to find a word twice: in a part tried again, and in one that the part between them does not hide
twice : (b : Bool) (x y : Option ℕ) → pick b x (pick b x y) ≡ pick b x y
unfolding pick
twice true x y = refl
twice false x y = refl

over : (b c : Bool) (x y z : Option ℕ) → (b ≡ true → c ≡ false) → pick b x z ≡ z → pick b x (pick c y z) ≡ pick c y z
unfolding pick
over false c x y z hides e = refl
over true c x y z hides e = e ∙ sym (pick_false c y z (hides refl))

pub front_spare : (l : List Part) (file : List ℕ) (q : Request) → Rows l → memory (front_of l ∷ l) file q ≡ memory l file q
unfolding front_of memory Rows
front_spare [] file q r = pick_false _ _ _ (misses_all q.address)
front_spare (p ∷ l) file q r =
    by_pick (λ f. memory (f ∷ p ∷ l) file q ≡ memory (p ∷ l) file q) (leb (kept (front_of l)) (kept p)) p (front_of l)
    (λ e. twice (has p q) _ _)
    (λ e. over (has (front_of l) q) (has p q) _ _ _ (passed_by p (front_of l) q (front_past p l r.0)) (front_spare l file q r.1))
