-- The library's tests of a list, and the definitions that they decide.
-- Assumes nothing.
use mathlib.Core.Path.{◌≡◌, refl, ap₂, sym}
use mathlib.Core.Bool.{Bool, true, false, not, ◌&&◌, ◌||◌, and-false}
use mathlib.Core.List.{List, [], ◌∷◌, map}
use Prim.Native.Nat.{ℕ, zero, suc, ◌+◌, ◌<◌}
use native.Mathlib.Omega.{arith}
use lib.Dec.{leb}
use lib.ListN.{length, get_or}
use Rattle.std.specs.List.{list_all, list_any, IsAllAdjacentAnswer}
use Rattle.capture.specs.Capture.{part, ends_high, any_high}
use Rattle.capture.specs.declared.Bank.{Bank}
use Rattle.layout.specs.Elf.{follows, ascend, meets, clear}

-- one bank ends by the start of the next
abbrev pub ends : Bank → Bank → Bool
ends b c = leb (b.address + b.size) c.address

rises : (l : List Bank) → ((k : ℕ) (d : Bank) → k + 1 < length l → true ≡ ends (get_or l k d) (get_or l (k + 1) d)) → ascend l ≡ true
unfolding ascend follows
rises [] h = refl
rises (b ∷ []) h = refl
rises (b ∷ c ∷ l) h = rw (← h 0 b (omega arith)) (rises (c ∷ l) (λ k d less. let e : suc k + 1 ≡ suc (k + 1) = omega arith in rw e at (h (suc k) d (omega (arith, less)))))

falls : (l : List Bank) (k : ℕ) → k + 1 < length l → ((d : Bank) → false ≡ ends (get_or l k d) (get_or l (k + 1) d)) → ascend l ≡ false
unfolding ascend follows
falls [] k less h = absurd (omega (arith, less))
falls (b ∷ []) k less h = absurd (omega (arith, less))
falls (b ∷ c ∷ l) zero less h = rw (← h b)
falls (b ∷ c ∷ l) (suc k) less h = let e : suc k + 1 ≡ suc (k + 1) = omega arith in rw (falls (c ∷ l) k (omega (arith, less)) (λ d. rw e at (h d))) (and-false (ends b c))

pub ascend_is : (l : List Bank) (r : Bool) → IsAllAdjacentAnswer (λ x y b. b ≡ ends x y) l r → r ≡ ascend l
ascend_is l true h = sym (rises l h)
ascend_is l false h = sym (falls l h.0 h.1 h.2)

pub clear_is : (from to total : ℕ) (l : List Bank) → list_all (λ b. not (meets from to (part total b))) l ≡ clear from to (map (part total) l)
unfolding clear
clear_is from to total [] = refl
clear_is from to total (b ∷ l) = ap₂ ◌&&◌ refl (clear_is from to total l)

pub any_high_is : (l : List Bank) → list_any (λ b. ends_high b.address b.size) l ≡ any_high l
unfolding any_high
any_high_is [] = refl
any_high_is (b ∷ l) = ap₂ ◌||◌ refl (any_high_is l)
