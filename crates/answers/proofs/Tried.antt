-- What `accepted` gives: the memory where no ground holds, else the refusal of the first that does.
-- Assumes nothing.
use Rattle.std.proofs.Common.{◌≡◌, refl, Bool, true, false, List, [], ◌∷◌, ℕ}
use Rattle.std.specs.Prelude.{Option, Some, None, Result, Ok, Err}
use Rattle.std.specs.Option.{is_none, ok_or}
use Rattle.bits.specs.Bits.{pick}
use Rattle.registers.specs.declared.El1.{El1}
use Rattle.registers.specs.declared.El2.{El2}
use Rattle.answers.specs.declared.Refusal.{Refusal}
use Rattle.answers.specs.declared.Refusal.TheVariants.{HighCapture}
use Rattle.answers.specs.Refusals.{Ground, refuse, verdict, shared, accepts}
use Rattle.answers.proofs.Refusals.{accepted_capture}

-- a value that was asked for, there or not
pub had : {A E : Type 0} (o : Option A) (e : E) (x : A) → ok_or o e ≡ Ok x → o ≡ Some x
had (Some y) e x h = cc
had None e x h = cc

pub lacked : {A E : Type 0} (o : Option A) (e e' : E) → ok_or o e ≡ Err e' → (o ≡ None) × (e' ≡ e)
lacked (Some y) e e' h = cc
lacked None e e' h = (refl, cc)

pub same_ok : {E A : Type 0} {x y : A} → ◌≡◌ {A = Result A E} (Ok x) (Ok y) → x ≡ y
same_ok e = cc

refuse_ok : {A : Type 0} (l : List Ground) (m : Result A Refusal) (v : A) → refuse Err l m ≡ Ok v → (verdict l ≡ accepts) × (m ≡ Ok v)
unfolding refuse pick
refuse_ok [] m v e = (refl, e)
refuse_ok {A} (g ∷ l) m v e = by_test g.holds e (refuse_ok l m v)
  where
    by_test : (b : Bool) → ◌≡◌ {A = Result A Refusal} (pick b (Err g.refusal) (refuse Err l m)) (Ok v) →
        (refuse Err l m ≡ Ok v → (verdict l ≡ accepts) × (m ≡ Ok v)) → (pick b (Err g.refusal) (verdict l) ≡ accepts) × (m ≡ Ok v)
    by_test true h rest = cc
    by_test false h rest = rest h

refuse_err : {A : Type 0} (l : List Ground) (x : A) (why : Refusal) → ◌≡◌ {A = Result A Refusal} (refuse Err l (Ok x)) (Err why) → verdict l ≡ Err why
unfolding refuse pick
refuse_err [] x why e = cc
refuse_err {A} (g ∷ l) x why e = by_test g.holds e (refuse_err l x why)
  where
    by_test : (b : Bool) → ◌≡◌ {A = Result A Refusal} (pick b (Err g.refusal) (refuse Err l (Ok x))) (Err why) →
        (◌≡◌ {A = Result A Refusal} (refuse Err l (Ok x)) (Err why) → verdict l ≡ Err why) → pick b (Err g.refusal) (verdict l) ≡ Err why
    by_test true h rest = let z : g.refusal ≡ why = cc in cc
    by_test false h rest = rest h

module _ {A : Type 0} (r : El2) (g : El1) (kind el size : ℕ) where
  -- where nothing is refused no bank ends high, and the memory is there
  pub tried_ok : (o : Option A) {v : A} → refuse Err (shared (is_none o) r g kind el size) (ok_or o HighCapture) ≡ Ok v →
      (o ≡ Some v) × (verdict (shared false r g kind el size) ≡ accepts)
  tried_ok o {v} e =
      let z = refuse_ok (shared (is_none o) r g kind el size) (ok_or o HighCapture) v e in
      (had o HighCapture v z.1, rw (accepted_capture (is_none o) r g kind el size z.0) at z.0)

  pub tried_err : (o : Option A) {why : Refusal} → refuse Err (shared (is_none o) r g kind el size) (ok_or o HighCapture) ≡ Err why →
      verdict (shared (is_none o) r g kind el size) ≡ Err why
  unfolding refuse pick
  tried_err (Some x) {why} e = refuse_err (shared false r g kind el size) x why e
  tried_err None {why} e = let z : HighCapture ≡ why = cc in cc
