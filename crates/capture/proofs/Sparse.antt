-- A sparse memory is the memory of its bytes.
-- Assumes nothing.
use Rattle.std.proofs.Common.{◌≡◌, ℕ, zero, suc, ◌+◌, ◌-◌, ◌*◌, ◌/◌, ◌%◌, ◌^◌, ◌<◌, ◌≤◌, Bool, true, false, eqb, List, [], ◌∷◌, take, drop, sym, refl, ap, ◌∙◌, ap₂, add-zero, pow-suc, div-one, arith, eqb-true}
use mathlib.Core.Path.{fun_ext}
use native.Mathlib.Nat.{div-div-eq-div-mul, mod-one}
use lib.Arith.{mod-mul}
use Rattle.bits.specs.Bits.{pick}
use Rattle.reads.specs.Program.{Request}
use Rattle.std.specs.Prelude.{Some, None}
use Rattle.capture.specs.Capture.{little, within, memory}
use Rattle.capture.proofs.Bytewise.{in_bounds}
use Rattle.capture.specs.declared.Part.{Part}
use Rattle.capture.specs.Sparse.{word_at, byte_at, image, descriptor_at, sparse}

drop_image : (ws : List (ℕ × ℕ)) (k a n : ℕ) → k ≤ n → drop k (image ws a n) ≡ image ws (a + k) (n - k)
unfolding image
drop_image ws zero a n h =
    let p : a ≡ a + 0 = omega arith in
    let q : n ≡ n - 0 = omega arith in
    ap₂ (image ws) p q
drop_image ws (suc k) a zero h = absurd (omega arith)
drop_image ws (suc k) a (suc n) h =
    let p : suc a + k ≡ a + suc k = omega arith in
    let q : n - k ≡ suc n - suc k = omega arith in
    drop_image ws k (suc a) n (omega arith) ∙ ap₂ (image ws) p q

take_image : (ws : List (ℕ × ℕ)) (k a n : ℕ) → k ≤ n → take k (image ws a n) ≡ image ws a k
unfolding image
take_image ws zero a n h = refl
take_image ws (suc k) a zero h = absurd (omega arith)
take_image ws (suc k) a (suc n) h = ap (byte_at ws a ∷◌) (take_image ws k (suc a) n (omega arith))

power_pos : (n : ℕ) → 0 < 256 ^ n
power_pos zero = omega arith
power_pos (suc n) =
    let h = power_pos n in
    rw pow-suc (omega arith)

-- the last n of the eight bytes of a word that stands at a multiple of eight
spelled : (ws : List (ℕ × ℕ)) (a : ℕ) → a % 8 ≡ 0 → (n i : ℕ) → i + n ≡ 8 → little (image ws (a + i) n) ≡ word_at ws a / 256 ^ i % 256 ^ n
unfolding little image byte_at
spelled ws a even zero i e = sym (mod-one _)
spelled ws a even (suc n) i e =
    let w = word_at ws a in
    let at : (a + i) / 8 * 8 ≡ a = omega arith in
    let digit : (a + i) % 8 ≡ i = omega arith in
    let next : suc (a + i) ≡ a + suc i = omega arith in
    let tail : little (image ws (suc (a + i)) n) ≡ w / 256 ^ i / 256 % 256 ^ n =
    rw next (spelled ws a even n (suc i) (omega arith)) ∙ ap (λ z. z % 256 ^ n) (ap (w /◌) (pow-suc 256 i) ∙ sym (div-div-eq-div-mul w (256 ^ i) 256)) in
    let whole : w / 256 ^ i % 256 ^ suc n ≡ (w / 256 ^ i / 256 % 256 ^ n) * 256 + w / 256 ^ i % 256 =
    ap (w / 256 ^ i %◌) (pow-suc 256 n) ∙ mod-mul (w / 256 ^ i) (power_pos n) (omega arith) in
    rw (at, digit, tail, whole) (omega arith)

word_spelled : (ws : List (ℕ × ℕ)) (a : ℕ) → descriptor_at ws a ≡ little (image ws a 8)
unfolding descriptor_at pick
word_spelled ws a = by_test (eqb (a % 8) 0) refl
  where
    by_test : (b : Bool) → eqb (a % 8) 0 ≡ b → pick b (word_at ws a % 2 ^ 64) (little (image ws a 8)) ≡ little (image ws a 8)
    by_test true e = sym (ap (λ z. little (image ws z 8)) (sym (add-zero a)) ∙ spelled ws a (eqb-true _ _ e) 8 0 refl ∙ ap (◌% 2 ^ 64) (div-one _))
    by_test false e = refl

-- a part that is the whole of some bytes
abbrev pub whole : (base length : ℕ) → Part
whole base length = record { address = base; from = 0; to = length }

pub sparse_memory : (base length : ℕ) (ws : List (ℕ × ℕ)) → sparse base length ws ≡ memory (whole base length ∷ []) (image ws base length)
unfolding sparse memory pick
sparse_memory base length ws = fun_ext (λ q. let e : length - 0 ≡ length = omega arith in rw e (by_test q (within base length q.address) refl))
  where
    by_test : (q : Request) (b : Bool) → within base length q.address ≡ b →
        pick b (Some (descriptor_at ws q.address)) None
        ≡ pick b (Some (little (take 8 (drop (q.address - base) (take length (image ws base length)))))) None
    by_test q true e =
        let h = in_bounds base length q.address e in
        let k : q.address - base ≤ length = omega arith in
        let room : 8 ≤ length - (q.address - base) = omega arith in
        let at : base + (q.address - base) ≡ q.address = omega arith in
        rw (take_image ws length base length (omega arith))
        (ap Some (word_spelled ws q.address ∙ sym (ap (λ l. little (take 8 l)) (drop_image ws (q.address - base) base length k)
        ∙ ap little (take_image ws 8 (base + (q.address - base)) (length - (q.address - base)) room) ∙ ap (λ z. little (image ws z 8)) at)))
    by_test q false e = refl
