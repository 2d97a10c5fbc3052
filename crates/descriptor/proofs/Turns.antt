-- Where an entry leads: the turn by its tests, and what a turn says of the entry.
-- Assumes nothing.
use mathlib.Core.Path.{◌≡◌, refl}
use mathlib.Core.Bool.{Bool, true, false}
use Prim.Native.Nat.{ℕ, zero, suc, ◌≤◌, ◌<◌}
use native.Mathlib.Omega.{arith}
use borrow.Author.Tests.{eqb-true, ne_eqb}
use lib.Dec.{eqb}
use Rattle.bits.specs.Bits.{pick, bit, upper, beyond}
use Rattle.descriptor.specs.Entry.{descriptor_type, contiguous, decode_as, decode}
use Rattle.descriptor.specs.Turn.{turn_of}
use Rattle.descriptor.specs.declared.entry.Geometry.{Geometry}
use Rattle.descriptor.specs.declared.entry.DescriptorType.{DescriptorType}
use Rattle.descriptor.specs.declared.entry.DescriptorType.TheVariants.{Invalid, Table, Leaf}
use Rattle.descriptor.specs.declared.entry.FaultKind.TheVariants.{Translation, AddressSize, AccessFlag, Permission}
use Rattle.descriptor.specs.declared.entry.Entry.{Entry}
use Rattle.descriptor.specs.declared.entry.Turn.{Turn}

-- the entry that leads somewhere, its table being at an address
unfoldable pub entry_of : (table : ℕ) → Turn → Entry
entry_of table Turn.Down = Entry.Next table
entry_of table Turn.Leaf = Entry.Final
entry_of table Turn.Translation = Entry.Fault Translation
entry_of table Turn.AddressSize = Entry.Fault AddressSize
entry_of table Turn.AccessFlag = Entry.Fault AccessFlag
entry_of table Turn.Permission = Entry.Fault Permission
entry_of table Turn.Unsettled = Entry.Unsettled

-- a leaf's entry, by its three tests
abbrev leaf_by : Bool → Bool → Bool → Entry
leaf_by a b c = pick a Entry.Unsettled (pick b (Entry.Fault AddressSize) (pick c Entry.Final (Entry.Fault AccessFlag)))

module _ (g : Geometry) (n x : ℕ) where
  -- ---- the turn, by its tests
  pub settled_leaf : contiguous g n x ≡ false
      → turn_of (decode_as g n x Leaf) ≡ pick (beyond x g.outputsize) Turn.AddressSize (pick (bit x 10) Turn.Leaf Turn.AccessFlag)
  unfolding decode_as turn_of pick
  settled_leaf e = rw e (by_tests (beyond x g.outputsize) (bit x 10))
    where
      by_tests : (b c : Bool) → turn_of (leaf_by false b c) ≡ pick b Turn.AddressSize (pick c Turn.Leaf Turn.AccessFlag)
      by_tests true c = refl
      by_tests false true = refl
      by_tests false false = refl

  table_turn : turn_of (decode_as g n x Table) ≡ pick (beyond x g.outputsize) Turn.AddressSize Turn.Down
  unfolding decode_as turn_of pick
  table_turn = by_test (beyond x g.outputsize) (upper x g.grainsize)
    where
      by_test : (b : Bool) (t : ℕ) → turn_of (pick b (Entry.Fault AddressSize) (Entry.Next t)) ≡ pick b Turn.AddressSize Turn.Down
      by_test true t = refl
      by_test false t = refl

  -- of type 11: a page lies below every block, so its contiguous bit leaves nothing open
  pub type_11 : bit x 0 ≡ true → bit x 1 ≡ true → 1 ≤ g.block
      → turn_of (decode g n x)
      ≡ pick (beyond x g.outputsize) Turn.AddressSize (pick (eqb n 0) (pick (bit x 10) Turn.Leaf Turn.AccessFlag) Turn.Down)
  unfolding descriptor_type pick
  type_11 low high h = rw (low, high) (by_test (eqb n 0) refl)
    where
      by_test : (b : Bool) → eqb n 0 ≡ b
          → turn_of (decode_as g n x (pick b Leaf Table))
          ≡ pick (beyond x g.outputsize) Turn.AddressSize (pick b (pick (bit x 10) Turn.Leaf Turn.AccessFlag) Turn.Down)
      by_test true e =
          let page : n ≡ 0 = eqb-true n 0 e in
          settled_leaf (rw (ne_eqb n g.block (λ q. omega arith)))
      by_test false e = table_turn

  -- ---- what a turn says of the entry
  entry_as : (d : DescriptorType) → decode_as g n x d ≡ entry_of (upper x g.grainsize) (turn_of (decode_as g n x d))
  unfolding decode_as turn_of entry_of pick
  entry_as Invalid = refl
  entry_as Table = by_test (beyond x g.outputsize) (upper x g.grainsize)
    where
      by_test : (b : Bool) (t : ℕ) → pick b (Entry.Fault AddressSize) (Entry.Next t) ≡ entry_of t (turn_of (pick b (Entry.Fault AddressSize) (Entry.Next t)))
      by_test true t = refl
      by_test false t = refl
  entry_as Leaf = by_tests (contiguous g n x) (beyond x g.outputsize) (bit x 10) (upper x g.grainsize)
    where
      by_tests : (a b c : Bool) (t : ℕ) → leaf_by a b c ≡ entry_of t (turn_of (leaf_by a b c))
      by_tests true b c t = refl
      by_tests false true c t = refl
      by_tests false false true t = refl
      by_tests false false false t = refl

  pub turn_entry : {t : Turn} → turn_of (decode g n x) ≡ t → decode g n x ≡ entry_of (upper x g.grainsize) t
  turn_entry e = rw e at (entry_as (descriptor_type g n x))

  pub turn_down : turn_of (decode g n x) ≡ Turn.Down → decode g n x ≡ Entry.Next (upper x g.grainsize)
  unfolding entry_of
  turn_down e = turn_entry e

  pub turn_leaf : turn_of (decode g n x) ≡ Turn.Leaf → decode g n x ≡ Entry.Final
  unfolding entry_of
  turn_leaf e = turn_entry e

  -- only a table's entry leads down
  down_table : (d : DescriptorType) → turn_of (decode_as g n x d) ≡ Turn.Down → d ≡ Table
  unfolding decode_as turn_of pick
  down_table Invalid e = absurd (let z : ◌≡◌ {A = ℕ} 0 1 = cc in omega arith)
  down_table Table e = refl
  down_table Leaf e = absurd (never (contiguous g n x) (beyond x g.outputsize) (bit x 10) e)
    where
      never : (a b c : Bool) → turn_of (leaf_by a b c) ≡ Turn.Down → ⊥
      never true b c q = let z : ◌≡◌ {A = ℕ} 0 1 = cc in omega arith
      never false true c q = let z : ◌≡◌ {A = ℕ} 0 1 = cc in omega arith
      never false false true q = let z : ◌≡◌ {A = ℕ} 0 1 = cc in omega arith
      never false false false q = let z : ◌≡◌ {A = ℕ} 0 1 = cc in omega arith

-- an entry of the last level leads to no table
table_more : (g : Geometry) (n x : ℕ) → descriptor_type g n x ≡ Table → 0 < n
unfolding descriptor_type pick
table_more g zero x e = absurd (never (bit x 0) (bit x 1) e)
  where
    never : (a b : Bool) → pick a (pick b Leaf Invalid) Invalid ≡ Table → ⊥
    never true true q = let z : ◌≡◌ {A = ℕ} 0 1 = cc in omega arith
    never true false q = let z : ◌≡◌ {A = ℕ} 0 1 = cc in omega arith
    never false b q = let z : ◌≡◌ {A = ℕ} 0 1 = cc in omega arith
table_more g (suc n) x e = omega arith

pub down_more : (g : Geometry) (n x : ℕ) → turn_of (decode g n x) ≡ Turn.Down → 0 < n
down_more g n x e = table_more g n x (down_table g n x (descriptor_type g n x) e)
