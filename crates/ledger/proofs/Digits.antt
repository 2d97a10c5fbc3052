-- A number's decimal digits, written from the last to the first.
-- Assumes nothing.
use mathlib.Core.Path.{◌≡◌, refl, sym, ap, ◌∙◌}
use mathlib.Core.Bool.{Bool, true, false}
use mathlib.Core.List.{List, [], ◌∷◌, ◌++◌}
use Prim.Native.Nat.{ℕ, zero, suc, ◌+◌, ◌-◌, ◌/◌, ◌%◌, ◌^◌, ◌≤◌, ◌<◌}
use native.Mathlib.Nat.{pow-suc}
use native.Mathlib.Omega.{arith}
use borrow.Author.Tests.{lt-ltb, le-ltb}
use lib.Dec.{ltb}
use lib.ListN.{length, set, drop, length-set, length-append, length-drop}
use lib.Seq.{append_snoc}
use Rattle.bits.specs.Bits.{pick}
use Rattle.bits.proofs.Tests.{by_pick, pick_true, pick_false}
use Rattle.ledger.specs.Ledger.{digits, decimal}
use Rattle.ledger.specs.Line.{Put}
use Rattle.ledger.proofs.Page.{set_before}

pick_before : (b : Bool) (x y x' y' l : List ℕ) → x ≡ x' ++ l → y ≡ y' ++ l → pick b x y ≡ pick b x' y' ++ l
unfolding pick
pick_before true x y x' y' l e f = e
pick_before false x y x' y' l e f = f

-- the digits do not depend on what they are written before
digits_before : (k n : ℕ) (l : List ℕ) → digits k n l ≡ digits k n [] ++ l
unfolding digits
digits_before zero n l = refl
digits_before (suc k) n l =
    let d : ℕ = 48 + n % 10 in
    pick_before (ltb n 10) _ _ _ _ _ refl
    (digits_before k (n / 10) (d ∷ l) ∙ sym (append_snoc (digits k (n / 10) []) d l) ∙ ap (λ (x : List ℕ). x ++ l) (sym (digits_before k (n / 10) (d ∷ []))))

digits_most : (k n : ℕ) (l : List ℕ) → length (digits k n l) ≤ k + length l
unfolding digits
digits_most zero n l = omega arith
digits_most (suc k) n l =
    by_pick (λ (x : List ℕ). length x ≤ suc k + length l) (ltb n 10) _ _ (λ _. omega arith)
    (λ _. omega (arith, digits_most k (n / 10) ((48 + n % 10) ∷ l)))

pub decimal_most : (n : ℕ) → length (decimal n) ≤ 20
unfolding decimal
decimal_most n = omega (arith, digits_most 20 n [])

-- the digits of rest are still to be written: the next one, and at most so many more
pub record Numbering (n at : ℕ) (page₀ page : List ℕ) (here rest : ℕ) : Type 0 where
  pub more : ℕ
  pub few : more ≤ 19
  pub room : here + 19 ≡ at + more
  pub fits : rest < 10 ^ suc more
  pub same : length page ≡ length page₀
  pub stands : digits (suc more) rest (drop here page) ≡ digits 20 n (drop at page₀)

-- a number of two digits or more has one after the next
one_more : (k rest : ℕ) → 10 ≤ rest → rest < 10 ^ suc k → k ≡ suc (k - 1)
one_more zero rest big h = absurd (omega (arith, h))
one_more (suc k) rest big h = omega arith

-- 64 bits are at most twenty digits
pub numbering_start : (n at : ℕ) (page₀ : List ℕ) → n < 2 ^ 64 → Numbering n at page₀ page₀ at n
numbering_start n at page₀ h = record { more = 19; few = omega arith; room = refl; fits = omega arith; same = refl; stands = refl }

module _ (n at : ℕ) (page₀ : List ℕ) (from : 20 ≤ at) (within : at ≤ length page₀) where
  pub numbering_next : (page : List ℕ) (here rest v : ℕ) → 10 ≤ rest → v ≡ 48 + rest % 10 → Numbering n at page₀ page here rest →
      Numbering n at page₀ (set page (here - 1) v) (here - 1) (rest / 10)
  unfolding digits
  numbering_next page here rest v big e w =
      let next : w.more ≡ suc (w.more - 1) = one_more w.more rest big w.fits in
      let below : rest < 10 ^ suc (suc (w.more - 1)) = rw next at w.fits in
      let whole = rw next at w.stands in
      record {
        more = w.more - 1;
        few = omega (arith, w.few);
        room = omega (arith, w.room, next);
        fits = omega (arith, pow-suc 10 (suc (w.more - 1)), below);
        same = length-set page (here - 1) v ∙ w.same;
        stands =
            rw (set_before page here v (omega (arith, w.room)) (omega (arith, w.few, w.room, w.same)), e)
            (sym (pick_false (ltb rest 10) _ _ (le-ltb rest 10 big)) ∙ whole);
      }

  pub numbering_done : (page : List ℕ) (here rest v : ℕ) → rest < 10 → v ≡ 48 + rest → Numbering n at page₀ page here rest →
      Put (decimal n) page₀ at (set page (here - 1) v) (here - 1)
  unfolding digits decimal
  numbering_done page here rest v small e w =
      let written : drop (here - 1) (set page (here - 1) v) ≡ decimal n ++ drop at page₀ =
      set_before page here v (omega (arith, w.few, w.room)) (omega (arith, w.few, w.room, w.same))
      ∙ rw e (sym (pick_true (ltb rest 10) _ _ (lt-ltb rest 10 small)) ∙ w.stands ∙ digits_before 20 n (drop at page₀)) in
      record {
        stands = written;
        placed =
            omega (
              arith,
              w.few,
              w.room,
              w.same,
              simp (length-append, length-drop) at (ap length written),
              length-set page (here - 1) v,
            );
      }
