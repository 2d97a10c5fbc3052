-- Banks that stand in the file in order share no byte of it.
-- Assumes nothing.
use mathlib.Core.Path.{◌≡◌, refl}
use mathlib.Core.Bool.{true, false}
use mathlib.Core.List.{List, [], ◌∷◌, map}
use Prim.Native.Nat.{ℕ, ◌≤◌, ◌<◌, max}
use native.Mathlib.Omega.{arith}
use lib.Dec.{leb}
use borrow.Author.Tests.{leb-true, leb-false, le-ltb}
use Rattle.bits.proofs.Tests.{and_left, and_right, by_pick}
use Rattle.capture.specs.Capture.{least, part}
use Rattle.capture.specs.declared.Bank.{Bank}
use Rattle.capture.specs.declared.Part.{Part}
use Rattle.capture.proofs.Lesser.{least_min, part_lies}
use Rattle.layout.specs.Elf.{greatest, meets, clear, apart}
use Rattle.layout.specs.Calls.{in_order}

pub greatest_max : (a b : ℕ) → greatest a b ≡ max a b
greatest_max a b = by_pick (λ n. n ≡ max a b) (leb a b) b a (λ e. let h : a ≤ b = leb-true a b e in omega arith) (λ e. let h : b < a = leb-false a b e in omega arith)

-- a part at or past the end of a range has no byte of it
missed : (from to : ℕ) (p : Part) → to ≤ p.from → meets from to p ≡ false
missed from to p h =
    let low = least_min to p.to in
    let high = greatest_max from p.from in
    le-ltb (greatest from p.from) (least to p.to) (omega (arith, low, high, h))

module _ (total : ℕ) where
  -- the first bank's start, and what it leaves to the others
  split : (b : Bank) (l : List Bank) (end : ℕ) → in_order end (map (part total) (b ∷ l)) ≡ true →
      (end ≤ (part total b).from) × (in_order (part total b).to (map (part total) l) ≡ true)
  unfolding in_order
  split b l end e =
      let stands = leb end (part total b).from in
      let others = in_order (part total b).to (map (part total) l) in
      (leb-true end (part total b).from (and_left stands others e), and_right stands others e)

  clear_past_lem : (l : List Bank) (from to end : ℕ) → to ≤ end → in_order end (map (part total) l) ≡ true → clear from to (map (part total) l) ≡ true
  unfolding clear
  clear_past_lem [] from to end h e = refl
  clear_past_lem (b ∷ l) from to end h e =
      let s = split b l end e in
      let lies = (part_lies total b).0 in
      rw (missed from to (part total b) (omega (arith, h, s.0)), clear_past_lem l from to (part total b).to (omega (arith, h, s.0, lies)) s.1)

  pub in_order_apart : (l : List Bank) (end : ℕ) → in_order end (map (part total) l) ≡ true → apart (map (part total) l) ≡ true
  unfolding apart
  in_order_apart [] end e = refl
  in_order_apart (b ∷ l) end e =
      let p = part total b in
      let rest = (split b l end e).1 in
      rw (clear_past_lem l p.from p.to p.to (omega arith) rest, in_order_apart l p.to rest)
