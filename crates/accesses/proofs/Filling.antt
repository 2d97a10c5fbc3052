-- A list filled word by word, from its start on.
-- Assumes nothing.
use mathlib.Core.Path.{◌≡◌, refl, ◌∙◌}
use mathlib.Core.List.{List, [], map, append-nil}
use Prim.Native.Nat.{ℕ, ◌+◌, ◌≤◌, ◌<◌}
use native.Mathlib.Numerals.{add-one}
use native.Mathlib.Omega.{arith}
use lib.ListN.{length, set, drop, get_or, length-set, length-map, drop_of_length-le}
use lib.Seq.{sets, sets-eq, drop-cons}

-- the words from i on are still to be stored: what is stored from here is what is stored from the start
pub record Filling (f : ℕ → ℕ) (addresses out₀ out : List ℕ) (i : ℕ) : Type 0 where
  pub same : length out ≡ length out₀
  pub rest : sets out i (map f (drop i addresses)) ≡ sets out₀ 0 (map f addresses)

-- all words of a list stored over it
pub sets_all : (l xs : List ℕ) → length l ≡ length xs → sets l 0 xs ≡ xs
sets_all l xs e =
    let over : drop (0 + length xs) l ≡ [] = drop_of_length-le l {i = 0 + length xs} (omega arith) in
    sets-eq xs l 0 (omega arith) ∙ rw over (append-nil xs)

module _ (f : ℕ → ℕ) (addresses out₀ : List ℕ) where
  pub filling_start : Filling f addresses out₀ out₀ 0
  filling_start = record { same = refl; rest = refl }

  pub filling_next : (out : List ℕ) (i x : ℕ) → i < length addresses → x ≡ f (get_or addresses i 0) → Filling f addresses out₀ out i → Filling f addresses out₀ (set out i x) (i + 1)
  filling_next out i x less e w =
      record {
        same = length-set out i x ∙ w.same;
        rest = rw (add-one, e) (rw (drop-cons addresses i 0 less) at w.rest);
      }

  pub filling_done : (out : List ℕ) (i : ℕ) → length addresses ≤ i → length out₀ ≡ length addresses → Filling f addresses out₀ out i → out ≡ map f addresses
  filling_done out i over long w =
      let none : drop i addresses ≡ [] = drop_of_length-le addresses {i = i} over in
      rw none at w.rest ∙ sets_all out₀ (map f addresses) (long ∙ simp length-map)
