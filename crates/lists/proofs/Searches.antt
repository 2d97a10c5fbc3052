-- A search of a list is whether some element passes a test.
-- Assumes nothing.
use mathlib.Core.Path.{◌≡◌, refl, ap}
use mathlib.Core.Bool.{Bool, true, false, ◌&&◌, ◌||◌}
use mathlib.Core.List.{List, [], ◌∷◌}
use Prim.Native.Nat.{ℕ, suc, ◌+◌, ◌≤◌, ◌<◌}
use native.Mathlib.Omega.{arith}
use lib.ListN.{length, get_or, drop, drop_of_length-le}
use lib.Seq.{drop-cons}
use lib.Dec.{ltb, leb, eqb}
use Rattle.std.specs.List.{list_any}
use Rattle.lists.specs.Search.{granted, touches, is_listed}

pub granted_any : (l : List (ℕ × ℕ)) (a n : ℕ) → list_any (λ e. leb e.0 a && leb (a + n) (e.0 + e.1)) l ≡ granted l a n
unfolding granted
granted_any [] a n = refl
granted_any (e ∷ l) a n = ap (λ b. (leb e.0 a && leb (a + n) (e.0 + e.1)) || b) (granted_any l a n)

pub touches_any : (l : List (ℕ × ℕ)) (a n : ℕ) → list_any (λ e. ltb a (e.0 + e.1) && ltb e.0 (a + n)) l ≡ touches l a n
unfolding touches
touches_any [] a n = refl
touches_any (e ∷ l) a n = ap (λ b. (ltb a (e.0 + e.1) && ltb e.0 (a + n)) || b) (touches_any l a n)

pub listed_any : (l : List (ℕ × ℕ)) (table level : ℕ) → list_any (λ e. eqb e.0 table && eqb e.1 level) l ≡ is_listed l table level
unfolding is_listed
listed_any [] table level = refl
listed_any (e ∷ l) table level = ap (λ b. (eqb e.0 table && eqb e.1 level) || b) (listed_any l table level)

-- those from i on decide whether some element passes
pub record Searching (test : ℕ × ℕ → Bool) (l : List (ℕ × ℕ)) (i : ℕ) : Type 0 where
  pub rest : list_any test (drop i l) ≡ list_any test l

module _ (test : ℕ × ℕ → Bool) (l : List (ℕ × ℕ)) (i : ℕ) (w : Searching test l i) where
  pub search_over : length l ≤ i → false ≡ list_any test l
  search_over over = let e : drop i l ≡ [] = drop_of_length-le l {i = i} over in rw e at w.rest

  module _ (e : ℕ × ℕ) (less : i < length l) (is : e ≡ get_or l i e) where
    step : (test e || list_any test (drop (i + 1) l)) ≡ list_any test l
    step =
        let n : i + 1 ≡ suc i = omega arith in
        let p : drop i l ≡ get_or l i e ∷ drop (suc i) l = drop-cons l i e less in
        let here : drop i l ≡ e ∷ drop (i + 1) l = cc in
        rw here at w.rest

    pub search_next : false ≡ test e → Searching test l (i + 1)
    search_next none = record { rest = rw (← none) at step }

    pub search_found : true ≡ test e → true ≡ list_any test l
    search_found some = rw (← some) at step
