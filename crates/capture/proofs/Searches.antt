-- A search among parts that ascend: only the last that starts at or below an address may have a descriptor there.
-- Assumes nothing.
use Rattle.std.proofs.Common.{◌≡◌, ℕ, zero, suc, ◌+◌, ◌-◌, ◌<◌, ◌≤◌, Bool, true, false, ◌&&◌, ltb, leb, List, [], ◌∷◌, length, get_or, drop, sym, refl, ◌∙◌, arith, length-drop, length-take-le, ltb-false, ltb-true, le-leb, All, AllPairs}
use Rattle.std.specs.List.{AllWithin}
use Rattle.std.proofs.lemmas.Option.{none-some, same_Some}
use borrow.Author.Tests.{lt-leb}
use Rattle.bits.specs.Bits.{pick}
use Rattle.reads.specs.Program.{Request, Reader}
use Rattle.std.specs.Prelude.{Option, Some, None}
use Rattle.capture.specs.Capture.{kept, bytes_of, within, word_at, found, memory}
use Rattle.capture.specs.Calls.{Lies, Before, Ascending, Rising, StartingBy, spelled, spot_in, Placed}
use Rattle.capture.specs.declared.Part.{Part}
use Rattle.capture.specs.declared.Spot.{Spot}

-- a part has no descriptor at an address
abbrev Misses : Part → ℕ → Type 0
Misses p a = within p.address (kept p) a ≡ false

-- one that starts above it, and one that ends by it
starts_above : (p : Part) (a : ℕ) → a < p.address → Misses p a
unfolding within
starts_above p a h = rw (lt-leb _ _ h)

ends_by : (p : Part) (a : ℕ) → p.address + kept p ≤ a → Misses p a
unfolding within
ends_by p a h =
    let k : p.address + kept p < a + 8 = omega (arith, h) in
    by_test (leb p.address a)
  where
    by_test : (b : Bool) → b && leb (a + 8) (p.address + kept p) ≡ false
    by_test true = let k : p.address + kept p < a + 8 = omega (arith, h) in lt-leb _ _ k
    by_test false = refl

module _ (file : List ℕ) (q : Request) where
  abbrev a : ℕ
  a = q.address

  -- where no part has it, and where only one may
  none : (l : List Part) → All (λ p. Misses p a) l → memory l file q ≡ None
  unfolding memory pick
  none [] misses = refl
  none (p ∷ l) misses = rw (misses 0 p (omega arith)) (none l (λ j d h. misses (suc j) d (omega (arith, h))))

  only : (l : List Part) (k : ℕ) (d : Part) → k < length l → AllWithin (λ p. Misses p a) l 0 k → AllWithin (λ p. Misses p a) l (suc k) (length l) →
      memory l file q ≡ memory (get_or l k d ∷ []) file q
  unfolding memory pick
  only [] k d h before after = absurd (omega (arith, h))
  only (p ∷ l) zero d h before after = rw (none l (λ j e h. after (suc j) e (omega arith) (omega (arith, h))))
  only (p ∷ l) (suc k) d h before after =
      rw (before 0 p (omega arith) (omega arith))
      (only l k d (omega (arith, h)) (λ j e u v. before (suc j) e (omega arith) (omega (arith, v))) (λ j e u v. after (suc j) e (omega (arith, u)) (omega (arith, v))))

  module _ (l : List Part) (k : ℕ) (s : StartingBy l a k) where
    none_starts : k ≡ 0 → memory l file q ≡ None
    none_starts e = none l (λ j d h. starts_above (get_or l j d) a (s.split.1 j d (omega (arith, e)) h))

    -- the last that starts at or below it
    last_starts : AllPairs Before l → 0 < k → (d : Part) → memory l file q ≡ memory (get_or l (k - 1) d ∷ []) file q
    last_starts o some d =
        let inside : k - 1 < length l = omega (arith, s.within, some) in
        only l (k - 1) d inside
        (λ j e u less. ends_by (get_or l j e) a
        (let x = o j (k - 1) e less inside in
        let y = s.split.0 (k - 1) e (omega arith) (omega (arith, some)) in
        omega (arith, x, y)))
        (λ j e h less. starts_above (get_or l j e) a (s.split.1 j e (omega (arith, h, some)) less))

-- the bytes of a part are as many as it keeps
pub kept_bytes : (p : Part) (file : List ℕ) → Lies (length file) p → length (bytes_of p file) ≡ kept p
kept_bytes p file l = length-take-le (kept p) (drop p.from file) (rw (length-drop p.from file) (omega (arith, l.inside)))

pub alone : (p : Part) (file : List ℕ) → Lies (length file) p → (q : Request) →
    found p.address (bytes_of p file) q.address ≡ memory (p ∷ []) file q
unfolding memory
alone p file l q = rw (kept_bytes p file l)

-- a descriptor that the first part has, and one that it has not
module _ (p : Part) (l : List Part) (file : List ℕ) (q : Request) where
  has_by : (b : Bool) (x y : ℕ) (elsewhere : Option ℕ) → pick b (Some y) None ≡ Some x → Some x ≡ pick b (Some y) elsewhere
  unfolding pick
  has_by true x y elsewhere h = sym h
  has_by false x y elsewhere h = cc

  lacks_by : (b : Bool) (y : ℕ) (elsewhere : Option ℕ) → pick b (Some y) None ≡ None → elsewhere ≡ pick b (Some y) elsewhere
  unfolding pick
  lacks_by true y elsewhere h = cc
  lacks_by false y elsewhere h = refl

  pub front_has : {x : ℕ} → memory (p ∷ []) file q ≡ Some x → Some x ≡ memory (p ∷ l) file q
  unfolding memory
  front_has {x} h = has_by (within p.address (kept p) q.address) x _ _ h

  pub front_lacks : memory (p ∷ []) file q ≡ None → memory l file q ≡ memory (p ∷ l) file q
  unfolding memory
  front_lacks h = lacks_by (within p.address (kept p) q.address) _ _ h

-- a part that starts at or below an address has the descriptor there if enough of it is left
module _ (p : Part) (file : List ℕ) (q : Request) (starts : p.address ≤ q.address) where
  pub part_has : q.address - p.address + 8 ≤ kept p → Some (word_at p.address (bytes_of p file) q.address) ≡ memory (p ∷ []) file q
  unfolding memory within pick
  part_has room =
      let ends : q.address + 8 ≤ p.address + kept p = omega (arith, starts, room) in
      rw (le-leb _ _ starts, le-leb _ _ ends)

  pub part_lacks : kept p < q.address - p.address + 8 → None ≡ memory (p ∷ []) file q
  unfolding memory within pick
  part_lacks short =
      let ends : p.address + kept p < q.address + 8 = omega (arith, starts, short) in
      rw (le-leb _ _ starts, lt-leb _ _ ends)

-- ---- where a descriptor stands

-- of parts of which only one may have it
placed_in : (parts : List Part) (file : List ℕ) (address : ℕ) (p : Part) → Lies (length file) p → p.address ≤ address →
    ((reader : Reader) → memory parts file (record { reader = reader; address = address }) ≡ memory (p ∷ []) file (record { reader = reader; address = address })) →
    Placed parts file address (spot_in p address)
unfolding pick
placed_in parts file address p lies starts only = by_test (ltb (address - p.address) (kept p - 7)) refl
  where
    by_test : (t : Bool) → ltb (address - p.address) (kept p - 7) ≡ t →
        Placed parts file address (pick t (Some (record { from = p.from; to = p.to; at = address - p.address })) None)
    by_test true e =
        let room : address - p.address + 8 ≤ kept p = omega (arith, ltb-true _ _ e) in
        record {
          inside = λ s i. rw (← same_Some _ _ i) (record { order = lies.order; within = lies.inside; room = room });
          holds = λ reader. part_has p file _ starts room ∙ sym (only reader);
        }
    by_test false e =
        record {
          inside = λ s n. absurd (none-some _ n);
          holds = λ reader. part_lacks p file _ starts (omega (arith, ltb-false _ _ e)) ∙ sym (only reader);
        }

module _ {parts : List Part} {address k : ℕ} (s : StartingBy parts address k) (file : List ℕ) (o : Ascending parts (length file)) where
  pub none_placed : k ≡ 0 → Placed parts file address None
  none_placed e = record { inside = λ s n. absurd (none-some _ n); holds = λ reader. sym (none_starts file _ parts k s e) }

  -- by the last part that starts at or below the address
  pub last_placed : 0 < k → (d : Part) → Placed parts file address (spot_in (get_or parts (k - 1) d) address)
  last_placed some d =
      placed_in parts file address (get_or parts (k - 1) d) (o.lie (k - 1) d (omega (arith, s.within, some)))
      (s.split.0 (k - 1) d (omega arith) (omega (arith, some)))
      (λ reader. last_starts file _ parts k s o.order some d)

-- parts that ascend may be searched
pub rising : {parts : List Part} {n : ℕ} → Ascending parts n → Rising parts
rising {parts} o = λ i j d at inside. by_place i j d inside (ltb i j) refl at
  where
    by_place : (i j : ℕ) (d : Part) → j < length parts → (t : Bool) → ltb i j ≡ t → i ≤ j → (get_or parts i d).address ≤ (get_or parts j d).address
    by_place i j d inside true e at = omega (arith, o.order i j d (ltb-true _ _ e) inside)
    by_place i j d inside false e at =
        let same : i ≡ j = omega (arith, ltb-false _ _ e) in
        rw same (omega arith)

-- what a place says of the parts
module _ {parts : List Part} {file : List ℕ} {address : ℕ} {p : Option Spot} (placed : Placed parts file address p) where
  pub nowhere : p ≡ None → (reader : Reader) → None ≡ memory parts file (record { reader = reader; address = address })
  nowhere e reader = rw e at (placed.holds reader)

  pub at_spot : {s : Spot} → p ≡ Some s → (reader : Reader) → Some (spelled file s) ≡ memory parts file (record { reader = reader; address = address })
  at_spot e reader = rw e at (placed.holds reader)
