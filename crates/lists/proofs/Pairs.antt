-- Two lists as one list of pairs: what holds of each pair, and a walk over them.
-- Assumes nothing.
use mathlib.Core.Path.{◌≡◌, refl, sym, subst, ap, ◌∙◌}
use mathlib.Core.Bool.{Bool, true, ◌&&◌}
use mathlib.Core.List.{List, [], ◌∷◌}
use Prim.Native.Nat.{ℕ, zero, suc, ◌+◌, ◌≤◌, ◌<◌, ◌^◌}
use native.Mathlib.Omega.{arith}
use native.Mathlib.Nat.{not-suc-le-zero, le_of_suc-le-suc}
use lib.Dec.{leb, eqb}
use lib.ListN.{length, get_or}
use borrow.Author.Tests.{leb-true, eqb-true}
use Rattle.std.proofs.Math.Nat.{ℕ_set}
use Rattle.std.proofs.lemmas.Slice.Zip.{length-zip}
use mathlib.Core.HLevel.{×₃_prop}
use Rattle.std.specs.Coded.{le_prop}
use Rattle.std.proofs.Math.Logic.{∥∥₁_elim}
use denote.Ref.{Bor}
use Rattle.std.specs.Iterator.{Yields}
use Rattle.std.specs.Prelude.{Option, Some, None}
use Rattle.std.specs.List as Std
use Rattle.std.specs.Iterator.Adapters.{zip_first, zip_second}
use Rattle.std.specs.Slice.Iter.{iter_rest}
use Rattle.std.specs.declared.iter.Zip.{Zip}
use Rattle.std.proofs.Common.{Iter}
use Rattle.std.proofs.iter.Yields.{fronts}
use Rattle.std.proofs.lemmas.Iterator.{YieldsList, YieldsList-from_slice, YieldsList-from_zip, zips}
use Rattle.std.proofs.lemmas.Iterator.Consumers.{YieldsList-at, YieldsList-turn, YieldsList-end}
use Rattle.bits.proofs.Tests.{and_left, and_right}
use Rattle.lists.specs.Lists.{zip, all, is_multiple, whole_frames, grant_fits, table_fits, grants_formed, tables_formed, Tables}

-- ---- a walk over two slices at once

same_zip : (xs ys : List ℕ) → Std.zip xs ys ≡ zip xs ys
unfolding zip
same_zip [] ys = refl
same_zip (x ∷ xs) [] = refl
same_zip (x ∷ xs) (y ∷ ys) = ap (λ l. (x, y) ∷ l) (same_zip xs ys)

-- it yields their pairs
pub walks : {s : Zip (Iter ℕ) (Iter ℕ)} {a : Iter ℕ} {xs ys : List ℕ} → zip_first s ≡ a → iter_rest a ≡ xs → iter_rest (zip_second s) ≡ ys →
    YieldsList (zips fronts fronts) (λ p. (p.0.now, p.1.now)) s (zip xs ys)
walks {s} {a} {xs} {ys} first rest second =
    subst (λ l. YieldsList (zips fronts fronts) (λ p. (p.0.now, p.1.now)) s l) (same_zip xs ys)
    (YieldsList-from_zip (YieldsList-at first (YieldsList-from_slice xs rest)) (YieldsList-from_slice ys second))

-- in a `for`, where the walk before the loop is s₀: this turn's pair
module _ {s₀ s : Zip (Iter ℕ) (Iter ℕ)} {a : Iter ℕ} {xs ys : List ℕ} (same : s₀ ≡ s) (first : zip_first s ≡ a) (rest : iter_rest a ≡ xs) (second : iter_rest (zip_second s) ≡ ys)
    (yielded : List (Bor ℕ × Bor ℕ)) (t : Zip (Iter ℕ) (Iter ℕ)) (so_far : Yields (zips fronts fronts) s₀ yielded t) (r : Option (Bor ℕ × Bor ℕ)) (u : Zip (Iter ℕ) (Iter ℕ)) (steps : zips fronts fronts t r u) where
  pub turn : (e : Bor ℕ × Bor ℕ) → r ≡ Some e → (length yielded < length (zip xs ys)) × ((e.0.now, e.1.now) ≡ get_or (zip xs ys) (length yielded) (e.0.now, e.1.now))
  turn e is = YieldsList-turn (YieldsList-at same (walks first rest second)) yielded t so_far r u e is steps

  -- and the end, after all pairs
  pub over : r ≡ None → length yielded ≡ length (zip xs ys)
  over is = (YieldsList-end (YieldsList-at same (walks first rest second)) yielded t so_far r u is steps).1

-- ---- what holds of each pair

pub all_at : (f : ℕ × ℕ → Bool) (l : List (ℕ × ℕ)) → all f l ≡ true → (i : ℕ) (d : ℕ × ℕ) → i < length l → f (get_or l i d) ≡ true
unfolding all
all_at f [] every i d less = absurd (not-suc-le-zero less)
all_at f (e ∷ l) every zero d less = and_left (f e) (all f l) every
all_at f (e ∷ l) every (suc i) d less = all_at f l (and_right (f e) (all f l) every) i d (le_of_suc-le-suc less)

-- a grant ends by 2^48
pub grant_ends : (e : ℕ × ℕ) → grant_fits e ≡ true → e.0 + e.1 ≤ 2 ^ 48
unfolding grant_fits
grant_ends e h = leb-true (e.0 + e.1) (2 ^ 48) (and_right (whole_frames e.0 && whole_frames e.1 && leb 4096 e.1) _ h)

-- each of well-formed grants does
pub grants_end : (grants counts : List ℕ) → grants_formed grants counts ≡ true → (e : ℕ × ℕ) (i : ℕ) → i < length (zip grants counts) → e ≡ get_or (zip grants counts) i e → e.0 + e.1 ≤ 2 ^ 48
unfolding grants_formed
grants_end grants counts formed e i less is =
    let every = and_right (eqb (length grants) (length counts) && leb (length grants) 256) _ (and_left (eqb (length grants) (length counts) && leb (length grants) 256 && all grant_fits (zip grants counts)) _ formed) in
    grant_ends e (subst (λ z. grant_fits z ≡ true) (sym is) (all_at grant_fits (zip grants counts) every i e less))

-- a table lies below 2^48, at level 1 to 3
pub record Within (e : ℕ × ℕ) : Type 0 where
  pub low : e.0 < 2 ^ 48
  pub above : 1 ≤ e.1
  pub below : e.1 ≤ 3

within : (size : ℕ) (e : ℕ × ℕ) → 0 < size → table_fits size e ≡ true → Within e
unfolding table_fits
within size e some h =
    let whole = and_left (is_multiple e.0 size && leb (e.0 + size) (2 ^ 48) && leb 1 e.1) (leb e.1 3) h in
    let ends = leb-true (e.0 + size) (2 ^ 48) (and_right (is_multiple e.0 size) _ (and_left (is_multiple e.0 size && leb (e.0 + size) (2 ^ 48)) (leb 1 e.1) whole)) in
    record {
      low = omega (arith, ends);
      above = leb-true 1 e.1 (and_right (is_multiple e.0 size && leb (e.0 + size) (2 ^ 48)) _ whole);
      below = leb-true e.1 3 (and_right (is_multiple e.0 size && leb (e.0 + size) (2 ^ 48) && leb 1 e.1) _ h);
    }

-- each of well-formed tables does, whatever their size
pub tables_within : (tables levels : List ℕ) → ∥ Tables tables levels ∥₁ → (e : ℕ × ℕ) (i : ℕ) → i < length (zip tables levels) → e ≡ get_or (zip tables levels) i e →
    (e.0 < 2 ^ 48) × (1 ≤ e.1) × (e.1 ≤ 3)
unfolding tables_formed
tables_within tables levels formed e i less is =
    ∥∥₁_elim formed (×₃_prop le_prop le_prop le_prop)
    (λ t.
    let every = and_right (eqb (length tables) (length levels) && leb (length tables) 1024) _ (and_left (eqb (length tables) (length levels) && leb (length tables) 1024 && all (table_fits t.size) (zip tables levels)) _ t.formed) in
    let w = within t.size e t.some (subst (λ z. table_fits t.size z ≡ true) (sym is) (all_at (table_fits t.size) (zip tables levels) every i e less)) in
    (w.low, w.above, w.below))

-- ---- by an index

-- the pair at a place of both lists
pub pair_at : (xs ys : List ℕ) (i : ℕ) → i < length xs → i < length ys → (d : ℕ × ℕ) → (get_or xs i 0, get_or ys i 0) ≡ get_or (zip xs ys) i d
unfolding zip
pair_at [] ys i less also d = absurd (not-suc-le-zero less)
pair_at (x ∷ xs) [] i less also d = absurd (not-suc-le-zero also)
pair_at (x ∷ xs) (y ∷ ys) zero less also d = refl
pair_at (x ∷ xs) (y ∷ ys) (suc i) less also d = pair_at xs ys i (le_of_suc-le-suc less) (le_of_suc-le-suc also) d

pub pairs_long : (xs ys : List ℕ) → length ys ≡ length xs → length (zip xs ys) ≡ length xs
pairs_long xs ys same = rw (← same_zip xs ys) (length-zip xs ys ∙ omega arith)

-- well-formed lists have one length
pub grants_same : (grants counts : List ℕ) → grants_formed grants counts ≡ true → length counts ≡ length grants
unfolding grants_formed
grants_same grants counts formed =
    let paired = and_left (eqb (length grants) (length counts) && leb (length grants) 256) _ (and_left (eqb (length grants) (length counts) && leb (length grants) 256 && all grant_fits (zip grants counts)) _ formed) in
    sym (eqb-true _ _ (and_left _ (leb (length grants) 256) paired))

pub tables_same : (tables levels : List ℕ) → ∥ Tables tables levels ∥₁ → length levels ≡ length tables
unfolding tables_formed
tables_same tables levels formed =
    ∥∥₁_elim formed (ℕ_set _ _)
    (λ t.
    let paired = and_left (eqb (length tables) (length levels) && leb (length tables) 1024) _ (and_left (eqb (length tables) (length levels) && leb (length tables) 1024 && all (table_fits t.size) (zip tables levels)) _ t.formed) in
    sym (eqb-true _ _ (and_left _ (leb (length tables) 1024) paired)))

-- a grant at a place ends by 2^48
pub grant_end_at : (grants counts : List ℕ) → grants_formed grants counts ≡ true → (i : ℕ) → i < length grants → get_or grants i 0 + get_or counts i 0 ≤ 2 ^ 48
grant_end_at grants counts formed i less =
    let same = grants_same grants counts formed in
    grants_end grants counts formed (get_or grants i 0, get_or counts i 0) i (omega (arith, pairs_long grants counts same)) (pair_at grants counts i less (omega (arith, same)) _)
