-- What a verdict says of a call, and of each ground.
-- Assumes nothing.
use Rattle.std.specs.Prelude.{Err}
use mathlib.Core.Path.{◌≡◌, refl, sym, ap}
use mathlib.Core.Bool.{Bool, true, false, true≢false, ◌&&◌}
use mathlib.Core.List.{List, [], ◌∷◌}
use Prim.Native.Nat.{ℕ}
use native.Mathlib.Omega.{arith}
use borrow.Author.Tests.{eqb-true, not-false}
use lib.Dec.{leb}
use Rattle.bits.specs.Bits.{pick}
use Rattle.bits.proofs.Tests.{by_pick}
use Rattle.answers.specs.declared.Refusal.{Refusal}
use Rattle.answers.specs.declared.Refusal.TheVariants.{ShortLog, HighCapture, Settings, Unlisted, BatchLists, AuditLists, NoRoot, CoreFile}
use Rattle.registers.specs.declared.El1.{El1}
use Rattle.registers.specs.declared.El2.{El2}
use Rattle.access.specs.Access.{listed_size}
use Rattle.settings.specs.Settings.{settings}
use Rattle.answers.specs.Refusals.{Ground, refuse, verdict, shared, accepts}

-- a refusal decides
pub refuse_refused : {A : Type 0} (f : Refusal → A) (l : List Ground) (x : A) (why : Refusal) → verdict l ≡ Err why → refuse f l x ≡ f why
unfolding refuse pick
refuse_refused f [] x why e = absurd (let z : ◌≡◌ {A = ℕ} 0 1 = cc in omega arith)
refuse_refused f (g ∷ l) x why e = by_test g.holds e (refuse_refused f l x why)
  where
    by_test : (b : Bool) → pick b (Err g.refusal) (verdict l) ≡ Err why → (verdict l ≡ Err why → refuse f l x ≡ f why) →
        pick b (f g.refusal) (refuse f l x) ≡ f why
    by_test true h rest =
        let z : g.refusal ≡ why = cc in
        ap f z
    by_test false h rest = rest h

-- without one, the call goes on
pub refuse_accepted : {A : Type 0} (f : Refusal → A) (l : List Ground) (x : A) → verdict l ≡ accepts → refuse f l x ≡ x
unfolding refuse pick
refuse_accepted f [] x e = refl
refuse_accepted f (g ∷ l) x e = by_test g.holds e (refuse_accepted f l x)
  where
    by_test : (b : Bool) → pick b (Err g.refusal) (verdict l) ≡ accepts → (verdict l ≡ accepts → refuse f l x ≡ x) →
        pick b (f g.refusal) (refuse f l x) ≡ x
    by_test true h rest = absurd (let z : ◌≡◌ {A = ℕ} 0 1 = cc in omega arith)
    by_test false h rest = rest h

-- what holds of every refusal and of the call that goes on holds of what is told
pub by_refuse : {A : Type 0} (P : A → Type 0) (f : Refusal → A) (l : List Ground) (x : A) → ((why : Refusal) → P (f why)) → P x → P (refuse f l x)
unfolding refuse
by_refuse P f [] x h k = k
by_refuse P f (g ∷ l) x h k = by_pick P g.holds (f g.refusal) (refuse f l x) (λ _. h g.refusal) (λ _. by_refuse P f l x h k)

-- ---- one ground, found by its refusal and not by its place

-- whether the ground for such a refusal holds; one that is not in the list does not
unfoldable pub holds_for : (Refusal → Bool) → List Ground → Bool
holds_for f [] = false
holds_for f (g ∷ l) = pick (f g.refusal) g.holds (holds_for f l)

abbrev pub is_settings : Refusal → Bool
is_settings ShortLog = false
is_settings HighCapture = false
is_settings (Settings item) = true
is_settings Unlisted = false
is_settings BatchLists = false
is_settings AuditLists = false
is_settings NoRoot = false
is_settings CoreFile = false

abbrev pub is_high : Refusal → Bool
is_high ShortLog = false
is_high HighCapture = true
is_high (Settings item) = false
is_high Unlisted = false
is_high BatchLists = false
is_high AuditLists = false
is_high NoRoot = false
is_high CoreFile = false

abbrev is_unlisted : Refusal → Bool
is_unlisted ShortLog = false
is_unlisted HighCapture = false
is_unlisted (Settings item) = false
is_unlisted Unlisted = true
is_unlisted BatchLists = false
is_unlisted AuditLists = false
is_unlisted NoRoot = false
is_unlisted CoreFile = false

abbrev pub is_no_root : Refusal → Bool
is_no_root ShortLog = false
is_no_root HighCapture = false
is_no_root (Settings item) = false
is_no_root Unlisted = false
is_no_root BatchLists = false
is_no_root AuditLists = false
is_no_root NoRoot = true
is_no_root CoreFile = false

-- an accepted call meets no ground
pub none_holds : (f : Refusal → Bool) (l : List Ground) → verdict l ≡ accepts → holds_for f l ≡ false
unfolding refuse holds_for pick
none_holds f [] e = refl
none_holds f (g ∷ l) e = by_tests g.holds (f g.refusal) e (none_holds f l)
  where
    by_tests : (holds here : Bool) → pick holds (Err g.refusal) (verdict l) ≡ accepts → (verdict l ≡ accepts → holds_for f l ≡ false) →
        pick here holds (holds_for f l) ≡ false
    by_tests true here h rest = absurd (let z : ◌≡◌ {A = ℕ} 0 1 = cc in omega arith)
    by_tests false true h rest = refl
    by_tests false false h rest = rest h

-- a part of a conjunction
last_holds : (a b c : Bool) → (a && b && c) ≡ true → c ≡ true
last_holds true true c e = e
last_holds true false c e = absurd (true≢false (sym e))
last_holds false b c e = absurd (true≢false (sym e))

-- where what a question and a batch share does not refuse
module _ (high : Bool) (r : El2) (g : El1) (kind el size : ℕ) (accepted : verdict (shared high r g kind el size) ≡ accepts) where
  -- the settings are accepted
  pub accepted_settings : settings r g ≡ 0
  unfolding holds_for pick
  accepted_settings = eqb-true _ _ (not-false _ (none_holds is_settings (shared high r g kind el size) accepted))

  -- no bank ends high
  pub accepted_capture : high ≡ false
  unfolding holds_for pick
  accepted_capture = none_holds is_high (shared high r g kind el size) accepted

  -- the size is listed
  pub accepted_size : listed_size size ≡ true
  unfolding holds_for pick
  accepted_size = last_holds (leb kind 2) (leb el 1) (listed_size size) (not-false _ (none_holds is_unlisted (shared high r g kind el size) accepted))
