-- `keep` meets its contract: with the other banks' parts written too, the parts are as they are wanted.
-- Assumes nothing.
use mathlib.Core.Path.{◌≡◌}
use mathlib.Core.List.{map}
use lib.ListN.{length, drop}
use lib.Seq.{sets}
use Rattle.capture.specs.Capture.{part}
use Rattle.layout.proofs.keep.Given as goal

abbrev pub invariant-loop-i : goal.invariant-loop-i
invariant-loop-i l =
    (length l.parts ≡ length l.initial.parts)
    × (sets l.parts l.i (map (part l.total) (drop l.i l.banks)) ≡ sets l.initial.parts 0 (map (part l.total) l.banks))
