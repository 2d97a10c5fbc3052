-- Captures of the same bounds lack the same descriptors, and the same eight bytes are the same descriptor.
-- Assumes nothing.
use Rattle.std.proofs.Common.{◌≡◌, ℕ, zero, suc, ◌+◌, ◌-◌, ◌<◌, ◌≤◌, Bool, true, false, leb, List, [], ◌∷◌, length, get_or, take, drop, sym, refl, ap, ◌∙◌, subst, ap₂, arith, get_or-drop, drop-cons, get_or-take, leb-true}
use Rattle.bits.specs.Bits.{pick}
use Rattle.reads.specs.Program.{Request, All, nil, cons}
use Rattle.std.specs.Prelude.{Option, Some, None}
use Rattle.bits.proofs.Tests.{and_left, and_right}
use Rattle.reads.proofs.Laws.{SameGaps}
use Rattle.capture.specs.Capture.{little, kept, bytes_of, within, word_at, memory, SameIn, SameBytes}
use Rattle.capture.specs.Calls.{Lies}
use Rattle.capture.proofs.Searches.{kept_bytes}
use Rattle.capture.specs.declared.Part.{Part}

-- n bytes from i on are the same in both
same_part : (n i : ℕ) (l l' : List ℕ) → length l ≡ length l' → i + n ≤ length l → ((k : ℕ) → k < n → get_or l' (i + k) 0 ≡ get_or l (i + k) 0) →
    take n (drop i l') ≡ take n (drop i l)
same_part zero i l l' e h same = refl
same_part (suc n) i l l' e h same =
    let first : i + 0 ≡ i = omega arith in
    rw (drop-cons l i 0 (omega arith), drop-cons l' i 0 (omega arith))
    (ap₂ ◌∷◌ (subst (λ z. get_or l' z 0 ≡ get_or l z 0) first (same 0 (omega arith)))
    (same_part n (suc i) l l' e (omega arith)
    (λ k less.
    let next : i + suc k ≡ suc i + k = omega arith in
    subst (λ z. get_or l' z 0 ≡ get_or l z 0) next (same (suc k) (omega arith)))))

pub in_bounds : (base length a : ℕ) → within base length a ≡ true → (base ≤ a) × (a + 8 ≤ base + length)
unfolding within
in_bounds base length a h = (leb-true _ _ (and_left _ _ h), leb-true _ _ (and_right (leb base a) _ h))

gap_on : (b : Bool) (x y : ℕ) (r r' : Option ℕ) → (r ≡ None → r' ≡ None) → pick b (Some x) r ≡ None → pick b (Some y) r' ≡ None
unfolding pick
gap_on true x y r r' rest h = cc
gap_on false x y r r' rest h = rest h

word_on : (b : Bool) (x y : ℕ) (r r' : Option ℕ) → r ≡ r' → (b ≡ true → x ≡ y) → pick b (Some x) r ≡ pick b (Some y) r'
unfolding pick
word_on true x y r r' rest h = ap Some (h refl)
word_on false x y r r' rest h = rest

-- ---- the same parts of two files

-- a byte of a part
byte_of : (p : Part) (file : List ℕ) (j : ℕ) → j < kept p → get_or (bytes_of p file) j 0 ≡ get_or file (p.from + j) 0
byte_of p file j less = get_or-take (kept p) (drop p.from file) j 0 less ∙ get_or-drop p.from file j 0

module _ (file file' : List ℕ) (bounds : length file ≡ length file') where
  pub same_gaps : (l : List Part) → SameGaps (memory l file) (memory l file')
  unfolding memory
  same_gaps [] q h = refl
  same_gaps (p ∷ l) q h = gap_on (within p.address (kept p) q.address) _ _ _ _ (same_gaps l q) h

  same_bytes : (p : Part) → Lies (length file) p → (q : Request) → SameIn file file' q.address 8 p →
      (p.address ≤ q.address) × (q.address + 8 ≤ p.address + kept p) →
      word_at p.address (bytes_of p file') q.address ≡ word_at p.address (bytes_of p file) q.address
  same_bytes p lies q same h =
      let n = kept_bytes p file lies in
      let n' = kept_bytes p file' (rw (← bounds) lies) in
      ap little
      (same_part 8 (q.address - p.address) (bytes_of p file) (bytes_of p file') (n ∙ sym n') (omega (arith, n, h.0, h.1))
      (λ k less.
      let j : q.address - p.address + k < kept p = omega (arith, h.0, h.1, less) in
      let at : q.address + k - p.address ≡ q.address - p.address + k = omega (arith, h.0) in
      let byte = subst (λ z. get_or file' (p.from + z) 0 ≡ get_or file (p.from + z) 0) at (same k less (omega (arith, h.0)) (omega (arith, h.1, less))) in
      byte_of p file' _ j ∙ byte ∙ sym (byte_of p file _ j)))

  pub same_word : (l : List Part) → All (Lies (length file)) l → (q : Request) → SameBytes l file file' q.address 8 → memory l file' q ≡ memory l file q
  unfolding memory
  same_word [] nil q nil = refl
  same_word (p ∷ l) (cons lies rest) q (cons same others) =
      word_on (within p.address (kept p) q.address) _ _ _ _ (same_word l rest q others) (λ e. same_bytes p lies q same (in_bounds _ _ _ e))
