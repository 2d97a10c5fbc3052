-- Items in their order: the first that fails decides, and where none fails, each holds.
-- Assumes nothing.
use mathlib.Core.Path.{◌≡◌, refl, sym, ◌∙◌}
use mathlib.Core.Bool.{Bool, true, false, true≢false, false≢true}
use mathlib.Core.List.{List, [], ◌∷◌, ◌++◌}
use Prim.Native.Nat.{ℕ}
use native.Mathlib.Omega.{arith}
use lib.Dec.{eqb}
use borrow.Author.Tests.{eq-eqb, not-true, not-false}
use Rattle.bits.specs.Bits.{pick}
use Rattle.bits.proofs.Tests.{choices}
use Rattle.settings.specs.Settings.{first_failing, number}
use Rattle.settings.specs.declared.Item.{Item}

-- whether the item of a number holds; one that is not in the list does
unfoldable pub holds_at : ℕ → List (ℕ × Bool) → Bool
holds_at n [] = true
holds_at n (i ∷ l) = pick (eqb i.0 n) i.1 (holds_at n l)

-- no item has the number 0, which stands for no failing item
unfoldable pub numbered : List (ℕ × Bool) → Bool
numbered [] = true
numbered (i ∷ l) = pick (eqb i.0 0) false (numbered l)

-- asked for by its number, wherever it stands in the list
pub item_holds : (l : List (ℕ × Bool)) → numbered l ≡ true → first_failing l ≡ 0 → (n : ℕ) → holds_at n l ≡ true
unfolding pick first_failing holds_at numbered
item_holds [] q e n = refl
item_holds (i ∷ l) q e n = by_tests (eqb i.0 0) i.1 (eqb i.0 n) refl q e (λ p d. item_holds l p d n)
  where
    by_tests : (zero holds here : Bool) → eqb i.0 0 ≡ zero → pick zero false (numbered l) ≡ true → pick holds (first_failing l) i.0 ≡ 0 →
        (numbered l ≡ true → first_failing l ≡ 0 → holds_at n l ≡ true) → pick here holds (holds_at n l) ≡ true
    by_tests true holds here z p d others = absurd (false≢true p)
    by_tests false true true z p d others = refl
    by_tests false true false z p d others = others p d
    by_tests false false here z p d others = absurd (true≢false (sym (eq-eqb _ _ d) ∙ z))

-- the first items decide where one of them fails, else those after them
pub in_order : (l others : List (ℕ × Bool)) → numbered l ≡ true →
    first_failing (l ++ others) ≡ pick (eqb (first_failing l) 0) (first_failing others) (first_failing l)
unfolding pick first_failing numbered
in_order [] others q = refl
in_order (i ∷ l) others q = by_tests (eqb i.0 0) i.1 refl q (in_order l others)
  where
    by_tests : (zero holds : Bool) → eqb i.0 0 ≡ zero → pick zero false (numbered l) ≡ true →
        (numbered l ≡ true → first_failing (l ++ others) ≡ pick (eqb (first_failing l) 0) (first_failing others) (first_failing l)) →
        pick holds (first_failing (l ++ others)) i.0 ≡
        pick (eqb (pick holds (first_failing l) i.0) 0) (first_failing others) (pick holds (first_failing l) i.0)
    by_tests true holds z p after = absurd (false≢true p)
    by_tests false true z p after = after p
    by_tests false false z p after = rw z

-- no item has the number 0
pub number_some : (i : Item) → eqb (number i) 0 ≡ false
number_some i = grind arith

-- and no two have one number
pub number_injective : (i j : Item) → number i ≡ number j → i ≡ j
number_injective i j e = grind arith

-- an item that fails among the first stays the first that fails
pub first_fails : (i : Item) (l others : List (ℕ × Bool)) → numbered l ≡ true → number i ≡ first_failing l → number i ≡ first_failing (l ++ others)
unfolding pick
first_fails i l others q e = rw (in_order l others q, ← e, number_some i)

-- where the first hold, the others decide
pub first_hold : (l others : List (ℕ × Bool)) → numbered l ≡ true → 0 ≡ first_failing l → first_failing (l ++ others) ≡ first_failing others
unfolding pick
first_hold l others q e = rw (in_order l others q, ← e)

-- what a return after tests of items says of them
pub ruleset returned = (choices, not-true, not-false)
