-- Numbers that bytes spell: past the bytes zeros add nothing, and so many bytes bound them.
-- Assumes nothing.
use mathlib.Core.Path.{◌≡◌, refl, ap, ◌∙◌}
use mathlib.Core.List.{List, [], ◌∷◌, ◌++◌}
use Prim.Native.Nat.{ℕ, zero, suc, ◌+◌, ◌*◌, ◌^◌, ◌≤◌, ◌<◌}
use native.Mathlib.Nat.{pow-suc}
use native.Mathlib.Omega.{arith}
use lib.ListN.{length, get_or, take, drop, length-append, length-drop}
use Rattle.capture.specs.Capture.{little}
use Rattle.capture.proofs.Spelled.{eight}
use Rattle.std.proofs.lemmas.List.{take_all}

abbrev pub zeros : List ℕ
zeros = 0 ∷ 0 ∷ 0 ∷ 0 ∷ 0 ∷ 0 ∷ 0 ∷ 0 ∷ []

-- the end of bytes that spell 0 does
none : (l : List ℕ) (n : ℕ) → little l ≡ 0 → little (drop n l) ≡ 0
unfolding little
none l zero e = e
none [] (suc n) e = refl
none (b ∷ l) (suc n) e = none l n (omega arith)

before : (xs ys : List ℕ) → little ys ≡ 0 → little (xs ++ ys) ≡ little xs
unfolding little
before [] ys e = e
before (x ∷ xs) ys e = let h = before xs ys e in omega arith

-- eight bytes, of which the first are given and the others are 0
pub padded : (xs : List ℕ) (n : ℕ) → length xs ≡ n → n ≤ 8 → let byte = get_or (xs ++ drop n zeros) in
    byte 0 0 + byte 1 0 * 256 + byte 2 0 * 65536 + byte 3 0 * 16777216 + byte 4 0 * 4294967296 + byte 5 0 * 1099511627776
    + byte 6 0 * 281474976710656 + byte 7 0 * 72057594037927936 ≡ little xs
unfolding little
padded xs n e small =
    let long : length (xs ++ drop n zeros) ≡ 8 = omega (arith, length-append xs (drop n zeros), length-drop n zeros) in
    eight 0 (xs ++ drop n zeros) (omega arith) ∙ ap little (take_all 8 (xs ++ drop n zeros) (omega arith)) ∙ before xs (drop n zeros) (none zeros n refl)

-- bytes from some on are bytes
pub small_part : (at n : ℕ) (l : List ℕ) → ((i : ℕ) → get_or l i 0 < 256) → (i : ℕ) → get_or (take n (drop at l)) i 0 < 256
small_part at zero l h i = omega arith
small_part (suc at) (suc n) [] h i = omega arith
small_part (suc at) (suc n) (b ∷ l) h i = small_part at (suc n) l (λ j. h (suc j)) i
small_part zero (suc n) [] h i = omega arith
small_part zero (suc n) (b ∷ l) h zero = h zero
small_part zero (suc n) (b ∷ l) h (suc i) = small_part zero n l (λ j. h (suc j)) i

pub bounded : (l : List ℕ) → ((i : ℕ) → get_or l i 0 < 256) → little l < 256 ^ length l
unfolding little
bounded [] h = omega arith
bounded (b ∷ l) h =
    let first : b < 256 = h 0 in
    let rest = bounded l (λ i. h (suc i)) in
    rw pow-suc (omega arith)
