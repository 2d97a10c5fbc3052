-- A core file: what code reads of an accepted one.
-- Assumes nothing.
use mathlib.Core.Path.{◌≡◌, sym, ap, fun_ext, ◌∙◌}
use mathlib.Core.Bool.{true, false, ◌&&◌}
use mathlib.Core.List.{List, [], ◌∷◌}
use Prim.Native.Nat.{ℕ, ◌≤◌}
use native.Mathlib.Omega.{arith}
use lib.Dec.{leb, eqb}
use lib.ListN.{length, take, length-map}
use borrow.Author.Tests.{leb-true, eqb-true}
use Rattle.std.specs.Prelude.{Option, Some, is_some}
use Rattle.bits.proofs.Tests.{and_left, and_right}
use Rattle.capture.specs.Capture.{part, any_high, memory}
use Rattle.capture.specs.Calls as Calls
use Rattle.capture.specs.Calls.{ahead, Leads, Held}
use Rattle.capture.specs.declared.Part.{Part}
use Rattle.layout.specs.Elf.{headed, banks, parts, is_core}
use Rattle.layout.specs.Layout.{core, layout, captured}
use Rattle.layout.specs.Calls.{front_of, Lays, Alone}
use Rattle.layout.specs.declared.Laid.{Laid}
use Rattle.layout.specs.declared.Lone.{Lone}
use Rattle.layout.proofs.Parts.{laid_held, core_spare, sole_captured}

core_captured : (file : List ℕ) → is_core file ≡ true → captured core file ≡ Calls.captured (ahead (front_of (parts file))) (parts file) file
unfolding layout
core_captured file e = sym (fun_ext (core_spare file e))

core_readable : (file : List ℕ) → is_core file ≡ true → false ≡ (layout core file).unreadable
unfolding layout
core_readable file e = rw e

-- ---- a call that laid out a file that is accepted

module _ {file : List ℕ} {lent' lent : List Part} {r : Option Laid} (s : Lays file lent r lent') {l : Laid} (laid : r ≡ Some l) where
  pub accepted : is_core file ≡ true
  accepted = sym s.readable ∙ ap is_some laid

  count : l.count ≡ length (banks file)
  count = rw laid at s.count

  pub few : l.count ≤ 64
  unfolding is_core
  few = omega (arith, count, leb-true (length (banks file)) 64 (and_right (headed file) _ (and_left (headed file && leb (length (banks file)) 64) _ accepted)))

  -- the parts that are lent on, and what is read of them
  abbrev pub used : List Part
  used = take l.count lent'

  used_parts : used ≡ parts file
  used_parts = rw count (s.written accepted)

  pub held : l.high ≡ false → Held l.front used file
  held low = rw (rw laid at s.front, used_parts) (laid_held file accepted (sym (rw laid at s.high) ∙ low))

  pub laid_captured : Calls.captured l.front used file ≡ captured core file
  laid_captured = rw (rw laid at s.front, used_parts) (sym (core_captured file accepted))

  pub laid_high : l.high ≡ any_high (layout core file).banks
  unfolding layout
  laid_high = rw laid at s.high

  pub laid_readable : false ≡ (layout core file).unreadable
  laid_readable = core_readable file accepted

-- ---- a call that found one bank alone

module _ {file : List ℕ} {r : Option Lone} (s : Alone file r) {l : Lone} (found : r ≡ Some l) where
  both : (is_core file && eqb (length (banks file)) 1) ≡ true
  both = sym s.found ∙ ap is_some found

  pub lone_accepted : is_core file ≡ true
  lone_accepted = and_left _ _ both

  pub lone_leads : l.high ≡ false → Leads (length file) l.front
  lone_leads low = rw (rw found at s.front) (laid_held file lone_accepted (sym (rw found at s.high) ∙ low)).leads

  pub lone_captured : memory (l.front.part ∷ []) file ≡ captured core file
  unfolding layout
  lone_captured =
      let n : length (parts file) ≡ 1 = length-map (banks file) (part (length file)) ∙ eqb-true _ _ (and_right (is_core file) _ both) in
      rw (rw found at s.front) (sole_captured (parts file) file n)

  pub lone_high : l.high ≡ any_high (layout core file).banks
  unfolding layout
  lone_high = rw found at s.high

  pub lone_readable : false ≡ (layout core file).unreadable
  lone_readable = core_readable file lone_accepted
