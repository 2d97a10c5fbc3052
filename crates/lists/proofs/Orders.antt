-- A list whose elements all fit and ascend, from a place on: what an element decides, and what it leaves to those after it.
-- Assumes nothing.
use mathlib.Core.Path.{◌≡◌, refl, sym, subst, ◌∙◌}
use mathlib.Core.Bool.{Bool, true, false, true≢false, false≢true, ◌&&◌}
use mathlib.Core.List.{List, [], ◌∷◌}
use Prim.Native.Nat.{ℕ, suc, ◌+◌, ◌<◌}
use native.Mathlib.Omega.{arith}
use lib.ListN.{length, get_or, drop, drop_of_length-le}
use lib.Seq.{drop-cons}
use Rattle.std.specs.Prelude.{Option, Some, None, MatchOption}
use Rattle.lists.specs.Lists.{all, leads, ascends}

false_left : (x y z w : Bool) → x ≡ false → ((x && y) && (z && w)) ≡ false
false_left true y z w e = absurd (true≢false e)
false_left false y z w e = refl

false_right : (x y z w : Bool) → z ≡ false → ((x && y) && (z && w)) ≡ false
false_right x y true w e = absurd (true≢false e)
false_right true true false w e = refl
false_right true false false w e = refl
false_right false y false w e = refl

both_true : (x y z w : Bool) → x ≡ true → z ≡ true → ((x && y) && (z && w)) ≡ (y && w)
both_true true y true w p q = refl
both_true true y false w p q = absurd (false≢true q)
both_true false y z w p q = absurd (false≢true p)

-- the last element, if there is one, leads the first of those after it
abbrev pub follows : (ℕ × ℕ → ℕ × ℕ → Bool) → Option (ℕ × ℕ) → List (ℕ × ℕ) → Bool
follows b None l = true
follows b (Some e) l = leads b e l

abbrev pub ordered : (ℕ × ℕ → Bool) → (ℕ × ℕ → ℕ × ℕ → Bool) → List (ℕ × ℕ) → Bool
ordered f b l = all f l && ascends b l

-- the last element fits, and those from i on decide
pub record Deciding (f : ℕ × ℕ → Bool) (b : ℕ × ℕ → ℕ × ℕ → Bool) (l : List (ℕ × ℕ)) (last : Option (ℕ × ℕ)) (i : ℕ) : Type 0 where
  pub fit : MatchOption last (Unit {0}) (λ e. f e ≡ true)
  pub rest : (all f (drop i l) && (follows b last (drop i l) && ascends b (drop i l))) ≡ ordered f b l

module _ (f : ℕ × ℕ → Bool) (b : ℕ × ℕ → ℕ × ℕ → Bool) (l : List (ℕ × ℕ)) where
  pub from_start : Deciding f b l None 0
  from_start = record { fit = tt; rest = refl }

  module _ (last : Option (ℕ × ℕ)) (i : ℕ) (w : Deciding f b l last i) where
    -- at the end
    pub all_ordered : i ≡ length l → true ≡ ordered f b l
    unfolding all ascends leads
    all_ordered end = let e : drop i l ≡ [] = drop_of_length-le l {i = i} (omega arith) in by_last last (rw e at w.rest)
      where
        by_last : (last : Option (ℕ × ℕ)) → (true && (follows b last [] && true)) ≡ ordered f b l → true ≡ ordered f b l
        by_last None h = h
        by_last (Some d) h = h

    module _ (e : ℕ × ℕ) (less : i < length l) (is : e ≡ get_or l i e) where
      abbrev after : List (ℕ × ℕ)
      after = drop (i + 1) l

      here : drop i l ≡ e ∷ after
      here =
          let n : i + 1 ≡ suc i = omega arith in
          let p : drop i l ≡ get_or l i e ∷ drop (suc i) l = drop-cons l i e less in
          cc

      step : ((f e && all f after) && (follows b last (e ∷ after) && (leads b e after && ascends b after))) ≡ ordered f b l
      unfolding all ascends
      step = rw here at w.rest

      pub unfit : f e ≡ false → false ≡ ordered f b l
      unfit q = sym (false_left (f e) (all f after) (follows b last (e ∷ after)) (leads b e after && ascends b after) q) ∙ step

      pub unled : (d : ℕ × ℕ) → last ≡ Some d → b d e ≡ false → false ≡ ordered f b l
      unfolding leads
      unled d was q = sym (false_right (f e) (all f after) (follows b last (e ∷ after)) (leads b e after && ascends b after) (rw was q)) ∙ step

      module _ (j : ℕ) (next : j ≡ i + 1) (fits : f e ≡ true) where
        -- an element that fits, and that the last leads
        goes : follows b last (e ∷ after) ≡ true → Deciding f b l (Some e) j
        goes q = subst (Deciding f b l (Some e)) (sym next) (record { fit = fits; rest = sym (both_true (f e) (all f after) (follows b last (e ∷ after)) (leads b e after && ascends b after) fits q) ∙ step })

        pub goes_first : last ≡ None → Deciding f b l (Some e) j
        goes_first was = goes (rw was)

        pub goes_on : (d : ℕ × ℕ) → last ≡ Some d → b d e ≡ true → Deciding f b l (Some e) j
        unfolding leads
        goes_on d was q = goes (rw was q)
