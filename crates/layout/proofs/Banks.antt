-- The banks of program headers, one header after the other: what a header adds to those after it.
-- Assumes nothing.
use mathlib.Core.Path.{◌≡◌, ap, ◌∙◌}
use mathlib.Core.Bool.{true, false}
use mathlib.Core.List.{List, ◌∷◌}
use Prim.Native.Nat.{ℕ, suc, ◌+◌, ◌-◌, ◌*◌, ◌≤◌, ◌<◌}
use native.Mathlib.Omega.{arith}
use lib.ListN.{length, set, length-set}
use lib.Seq.{sets}
use Rattle.bits.specs.Bits.{pick}
use Rattle.bits.proofs.Tests.{pick_true, pick_false}
use Rattle.capture.specs.declared.Bank.{Bank}
use Rattle.layout.specs.Elf.{is_bank, bank_at, banks_from}
use Rattle.layout.specs.Calls.{Tallies}
use Rattle.layout.specs.declared.elf.Headers.{Headers}

module _ (file : List ℕ) (h : Headers) where
  abbrev n : ℕ
  n = h.count

  -- the place of a header
  abbrev pub place : ℕ → ℕ
  place i = h.at + 56 * i

  abbrev pub all : List Bank
  all = banks_from h.count h.at file

  -- the banks of the headers from one on
  abbrev pub rest : ℕ → List Bank
  rest i = banks_from (n - i) (place i) file

  rest_next : (i : ℕ) → i < n → rest i ≡ pick (is_bank (place i) file) (bank_at (place i) file ∷ rest (i + 1)) (rest (i + 1))
  unfolding banks_from
  rest_next i less =
      let more : n - i ≡ suc (n - (i + 1)) = omega arith in
      let after : h.at + 56 * (i + 1) ≡ h.at + 56 * i + 56 = omega arith in
      rw (more, after)

  rest_bank : (i : ℕ) → i < n → is_bank (place i) file ≡ true → rest i ≡ bank_at (place i) file ∷ rest (i + 1)
  rest_bank i less e = rest_next i less ∙ pick_true _ _ _ e

  rest_other : (i : ℕ) → i < n → is_bank (place i) file ≡ false → rest i ≡ rest (i + 1)
  rest_other i less e = rest_next i less ∙ pick_false _ _ _ e

  -- ---- how many there are

  -- of the first i headers so many are banks, and the last of those stands at a place
  pub record Counting (count last i : ℕ) : Type 0 where
    pub few : count ≤ i
    pub sum : count + length (rest i) ≡ length all
    pub there : 0 < count → last + 56 ≤ length file
    pub none : count ≡ 0 → all ≡ rest i
    pub sole : count ≡ 1 → all ≡ bank_at last file ∷ rest i

  module _ {count last i : ℕ} (w : Counting count last i) (less : i < n) where
    pub counting_bank : is_bank (place i) file ≡ true → place i + 56 ≤ length file → Counting (count + 1) (place i) (i + 1)
    counting_bank e inside =
        record {
          few = omega (arith, w.few);
          sum = omega (arith, w.sum, ap length (rest_bank i less e));
          there = λ h. inside;
          none = λ z. absurd (omega (arith, z));
          sole = λ z. w.none (omega (arith, z)) ∙ rest_bank i less e;
        }

    pub counting_other : is_bank (place i) file ≡ false → Counting count last (i + 1)
    counting_other e =
        record {
          few = omega (arith, w.few);
          sum = omega (arith, w.sum, ap length (rest_other i less e));
          there = w.there;
          none = λ z. w.none z ∙ rest_other i less e;
          sole = λ z. w.sole z ∙ ap (λ l. bank_at last file ∷ l) (rest_other i less e);
        }

  pub counting_done : {count last i : ℕ} → Counting count last i → n ≤ i → Tallies file h (record { count = count; last = last })
  unfolding banks_from
  counting_done {i = i} w over =
      let none : n - i ≡ 0 = omega arith in
      record { count = omega (arith, rw none at w.sum); there = w.there; sole = λ z. rw none at (w.sole z) }

  -- ---- they are written

  -- the banks from a header on are still to be written: what is stored from here is what is stored from the start
  pub record Writing (lent₀ lent : List Bank) (k i : ℕ) : Type 0 where
    pub same : length lent ≡ length lent₀
    pub few : k ≤ i
    pub room : k + length (rest i) ≤ length lent
    pub left : sets lent k (rest i) ≡ sets lent₀ 0 all

  module _ {lent₀ lent : List Bank} {k i : ℕ} (w : Writing lent₀ lent k i) where
    pub bank_fits : i < n → is_bank (place i) file ≡ true → k < length lent
    bank_fits less e = omega (arith, w.room, ap length (rest_bank i less e))

    pub writing_bank : (b : Bank) → i < n → is_bank (place i) file ≡ true → b ≡ bank_at (place i) file → Writing lent₀ (set lent k b) (k + 1) (i + 1)
    writing_bank b less e p =
        let one : k + 1 ≡ suc k = omega arith in
        record {
          same = length-set lent k b ∙ w.same;
          few = omega (arith, w.few);
          room = omega (arith, length-set lent k b, w.room, ap length (rest_bank i less e));
          left = rw (p, one) (rw (rest_bank i less e) at w.left);
        }

    pub writing_other : i < n → is_bank (place i) file ≡ false → Writing lent₀ lent k (i + 1)
    writing_other less e =
        record { same = w.same; few = omega (arith, w.few); room = omega (arith, w.room, ap length (rest_other i less e)); left = rw (rest_other i less e) at w.left }

    pub writing_done : n ≤ i → lent ≡ sets lent₀ 0 all
    unfolding banks_from
    writing_done over = let none : n - i ≡ 0 = omega arith in rw none at w.left
