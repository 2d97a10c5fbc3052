-- One level of a walk, as a call goes through it.
-- Assumes nothing.
use mathlib.Core.Path.{◌≡◌, refl, sym, ap, ◌∙◌}
use mathlib.Core.Bool.{true, false, true≢false}
use mathlib.Core.List.{List}
use Prim.Native.Nat.{ℕ, zero, suc, ◌+◌, ◌-◌, ◌*◌, ◌≤◌, ◌<◌}
use native.Mathlib.Omega.{arith}
use lib.ListN.{length, set, length-set}
use Rattle.bits.specs.Bits.{field, upper}
use Rattle.reads.specs.Program.{Request, Outcome, reached, stopped, bind, ask}
use Rattle.reads.specs.Ran.{Ran}
use Rattle.std.specs.Prelude.{Option, Some, None, Ok}
use Rattle.reads.proofs.Ran.{ran_done, ran_stop, ran_note, ran_absent, ran_word, ran_then, ran_stopped, ran_length}
use Rattle.descriptor.specs.Entry.{shift, decode, nothing}
use Rattle.descriptor.specs.Turn.{turn_of}
use Rattle.descriptor.specs.declared.entry.Geometry.{Geometry}
use Rattle.descriptor.specs.declared.entry.Entry.TheVariants as E
use Rattle.descriptor.specs.declared.entry.Inherited.{Inherited}
use Rattle.descriptor.specs.declared.entry.Turn.{Turn}
use Rattle.descriptor.specs.declared.entry.Turn.TheVariants as T
use Rattle.descriptor.proofs.Turns.{entry_of, turn_entry, turn_down, turn_leaf}
use Rattle.walk.specs.Walk.{Reading, reader_of, absent, entry_address, inherit_at, if_present, follow, walk, walk_from}
use Rattle.walk.specs.Ends.{stop_by, leads_down, is_leaf, over}
use Rattle.walk.specs.declared.stop.Stage.{Stage}
use Rattle.walk.specs.declared.stop.Stop.{Stop}
use Rattle.walk.specs.declared.table.Leaf.{Leaf}
use Rattle.walk.specs.declared.table.Table.{Table}

-- a turn that leads down, or to a leaf
pub is_down : (t : Turn) → leads_down t ≡ true → t ≡ T.Down
is_down T.Down e = refl
is_down T.Leaf e = absurd (true≢false (sym e))
is_down T.Translation e = absurd (true≢false (sym e))
is_down T.AddressSize e = absurd (true≢false (sym e))
is_down T.AccessFlag e = absurd (true≢false (sym e))
is_down T.Permission e = absurd (true≢false (sym e))
is_down T.Unsettled e = absurd (true≢false (sym e))

pub is_leaf_lem : (t : Turn) → is_leaf t ≡ true → t ≡ T.Leaf
is_leaf_lem T.Down e = absurd (true≢false (sym e))
is_leaf_lem T.Leaf e = refl
is_leaf_lem T.Translation e = absurd (true≢false (sym e))
is_leaf_lem T.AddressSize e = absurd (true≢false (sym e))
is_leaf_lem T.AccessFlag e = absurd (true≢false (sym e))
is_leaf_lem T.Permission e = absurd (true≢false (sym e))
is_leaf_lem T.Unsettled e = absurd (true≢false (sym e))

-- the leaf that a word is, with n levels below it
abbrev pub leaf_at : Geometry → (n x : ℕ) → Inherited → Leaf
leaf_at g n x h = record { word = x; shift = shift g n; level = 3 - n; inherited = h }

module _ (m : Request → Option ℕ) (place : ℕ → Reading ℕ) (g : Geometry) (s : Stage) (input : ℕ) where
  -- a read by this stage
  abbrev pub req : ℕ → Request
  req at = record { reader = reader_of s; address = at }

  abbrev deeper : (n : ℕ) → ℕ → Inherited → Reading Leaf
  deeper n t i = walk place g s input n g.stride t i

  -- the walk with n levels below, where its entry lies at an address
  abbrev here : (n at : ℕ) → Inherited → Reading Leaf
  here n at h = ask (req at) (if_present (absent at s (3 - n)) (λ x. follow g s n x h (deeper n) (decode g n x)))

  -- the same where the entry is still to be placed
  abbrev pub entering : (n address : ℕ) → Inherited → Reading Leaf
  entering n address h = bind (place address) (λ at. here n at h)

  -- a walk of one level or more starts at an entry
  pub walk_enters : (n j table : ℕ) (h : Inherited) → walk place g s input (suc n) j table h ≡ entering n (entry_address g n j table input) h
  unfolding walk
  walk_enters n j table h = refl

  -- and so does a walk from a table
  module _ (t : Table) (geometry : g ≡ t.geometry) (some : 1 ≤ t.levels) where
    pub from_enters : walk_from place s input (Ok t) ≡ entering (t.levels - 1) (entry_address g (t.levels - 1) t.bits t.base input) nothing
    unfolding walk_from
    from_enters =
        let e : t.levels ≡ suc (t.levels - 1) = omega (arith, some) in
        rw (← geometry) (ap (λ k. walk place g s input k t.bits t.base nothing) e ∙ walk_enters (t.levels - 1) t.bits t.base nothing)

    module _ {A : Type 0} (f : Leaf → Reading A) {at : ℕ} (first : at ≡ entry_address g (t.levels - 1) t.bits t.base input) {log l : List ℕ} {k end : ℕ} where
      pub from_stopped : {e : Stop} → Ran m (entering (t.levels - 1) at nothing) log k (stopped e) end l → Ran m (bind (walk_from place s input (Ok t)) f) log k (stopped e) end l
      from_stopped r = ran_stopped m f (rw (from_enters, ← first) r)

      pub from_leaf : {x : Leaf} {o : Outcome Stop A} {end₂ : ℕ} {l₂ : List ℕ} → Ran m (entering (t.levels - 1) at nothing) log k (reached x) end l → Ran m (f x) l end o end₂ l₂ →
          Ran m (bind (walk_from place s input (Ok t)) f) log k o end₂ l₂
      from_leaf r q = ran_then m f (rw (from_enters, ← first) r) q

  -- ---- by what is read

  module _ (n : ℕ) (h : Inherited) {at k : ℕ} {log : List ℕ} where
    here_absent : m (req at) ≡ None → Ran m (here n at h) log k (stopped (absent at s (3 - n))) k log
    unfolding if_present
    here_absent e = ran_absent m e (ran_stop m _ _ _)

    module _ {x : ℕ} (found : m (req at) ≡ Some x) where
      here_leaf : decode g n x ≡ E.Final → Ran m (here n at h) log k (reached (leaf_at g n x h)) (k + 1) (set log k at)
      unfolding if_present follow
      here_leaf e = ran_word m found (rw e (ran_note m (ran_done m _ _ _)))

      here_next : {t end : ℕ} {o : Outcome Stop Leaf} {l : List ℕ} → decode g n x ≡ E.Next t → Ran m (deeper n t (inherit_at s h x)) (set log k at) (k + 1) o end l → Ran m (here n at h) log k o end l
      unfolding if_present follow
      here_next e r = ran_word m found (rw e r)

      -- a turn that is neither
      here_over : (address : ℕ) (t : Turn) → turn_of (decode g n x) ≡ t → leads_down t ≡ false → is_leaf t ≡ false →
          Ran m (here n at h) log k (stopped (stop_by s address (3 - n) (over t))) (k + 1) (set log k at)
      unfolding if_present follow entry_of stop_by
      here_over address T.Down e down leaf = absurd (true≢false down)
      here_over address T.Leaf e down leaf = absurd (true≢false leaf)
      here_over address T.Translation e down leaf = ran_word m found (rw (turn_entry g n x e) (ran_stop m _ _ _))
      here_over address T.AddressSize e down leaf = ran_word m found (rw (turn_entry g n x e) (ran_stop m _ _ _))
      here_over address T.AccessFlag e down leaf = ran_word m found (rw (turn_entry g n x e) (ran_stop m _ _ _))
      here_over address T.Permission e down leaf = ran_word m found (rw (turn_entry g n x e) (ran_stop m _ _ _))
      here_over address T.Unsettled e down leaf = ran_word m found (rw (turn_entry g n x e) (ran_stop m _ _ _))

-- ---- a loop over the levels

-- at an entry with n levels below it, which is still to be placed: whatever finishes the walk from here finishes the whole
pub record Walking (m : Request → Option ℕ) (place : ℕ → Reading ℕ) (g : Geometry) (s : Stage) (input : ℕ) (whole : Reading Leaf)
    (log₀ : List ℕ) (count : ℕ) (log : List ℕ) (k n t address : ℕ) (h : Inherited) : Type 0 where
  pub few : n ≤ 3
  pub shifted : t ≡ shift g n
  pub low : t < 48
  pub same : length log ≡ length log₀
  pub rest : {o : Outcome Stop Leaf} {end : ℕ} {l : List ℕ} → Ran m (entering m place g s input n address h) log k o end l → Ran m whole log₀ count o end l

-- one level down
module _ {m : Request → Option ℕ} {place : ℕ → Reading ℕ} {g : Geometry} {s : Stage} {input : ℕ} {whole : Reading Leaf}
    {log₀ : List ℕ} {count : ℕ} {log : List ℕ} {k t address : ℕ} {h : Inherited}
    {at k₁ x : ℕ} {log₁ : List ℕ} (placed : Ran m (place address) log k (reached at) k₁ log₁) (found : m (req m place g s input at) ≡ Some x) where
  down_from : (n : ℕ) → 0 < n → Walking m place g s input whole log₀ count log k n t address h → decode g n x ≡ E.Next (upper x g.grainsize) →
      Walking m place g s input whole log₀ count (set log₁ k₁ at) (k₁ + 1) (n - 1) (t - g.stride) (upper x g.grainsize + 8 * field input (t - g.stride) g.stride) (inherit_at s h x)
  down_from zero more w next = absurd (omega arith)
  down_from (suc n) more w next =
      let less : suc n - 1 ≡ n = omega arith in
      let below : t - g.stride ≡ shift g n = omega (arith, w.shifted) in
      rw (less, below)
      (record {
        few = omega (arith, w.few);
        shifted = refl;
        low = omega (arith, w.shifted, w.low);
        same = length-set log₁ k₁ at ∙ ran_length placed ∙ w.same;
        rest = λ r. w.rest (ran_then m _ placed (here_next m place g s input (suc n) h found next (rw (walk_enters m place g s input n g.stride (upper x g.grainsize) (inherit_at s h x)) r)));
      })

module _ {m : Request → Option ℕ} {place : ℕ → Reading ℕ} {g : Geometry} {s : Stage} {input : ℕ} {whole : Reading Leaf}
    {log₀ : List ℕ} {count : ℕ} {log : List ℕ} {k n t address : ℕ} {h : Inherited} (w : Walking m place g s input whole log₀ count log k n t address h) where
  -- the entry cannot be placed
  pub walking_stopped : {e : Stop} {end : ℕ} {log₁ : List ℕ} → Ran m (place address) log k (stopped e) end log₁ → Ran m whole log₀ count (stopped e) end log₁
  walking_stopped p = w.rest (ran_stopped m _ p)

  module _ {at k₁ : ℕ} {log₁ : List ℕ} (placed : Ran m (place address) log k (reached at) k₁ log₁) where
    pub walking_absent : m (req m place g s input at) ≡ None → Ran m whole log₀ count (stopped (absent at s (3 - n))) k₁ log₁
    walking_absent e = w.rest (ran_then m _ placed (here_absent m place g s input n h e))

    module _ {x : ℕ} (found : m (req m place g s input at) ≡ Some x) where
      pub walking_leaf : is_leaf (turn_of (decode g n x)) ≡ true → Ran m whole log₀ count (reached (leaf_at g n x h)) (k₁ + 1) (set log₁ k₁ at)
      walking_leaf e = w.rest (ran_then m _ placed (here_leaf m place g s input n h found (turn_leaf g n x (is_leaf_lem _ e))))

      pub walking_over : (z : ℕ) → leads_down (turn_of (decode g n x)) ≡ false → is_leaf (turn_of (decode g n x)) ≡ false →
          Ran m whole log₀ count (stopped (stop_by s z (3 - n) (over (turn_of (decode g n x))))) (k₁ + 1) (set log₁ k₁ at)
      walking_over z down leaf = w.rest (ran_then m _ placed (here_over m place g s input n h found z _ refl down leaf))

      pub walking_down : leads_down (turn_of (decode g n x)) ≡ true → 0 < n →
          Walking m place g s input whole log₀ count (set log₁ k₁ at) (k₁ + 1) (n - 1) (t - g.stride) (upper x g.grainsize + 8 * field input (t - g.stride) g.stride) (inherit_at s h x)
      walking_down e more = down_from placed found n more w (turn_down g n x (is_down _ e))
