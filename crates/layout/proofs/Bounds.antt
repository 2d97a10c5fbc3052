-- Files of the same bounds have the same parts.
-- Assumes nothing.
use mathlib.Core.Path.{◌≡◌, ap₂}
use mathlib.Core.List.{List, map}
use Prim.Native.Nat.{ℕ}
use Rattle.capture.specs.Capture.{part}
use Rattle.layout.specs.Layout.{Form, parts_of, SameBounds}

pub same_parts : (form : Form) (file file' : List ℕ) → SameBounds form file file' → parts_of form file ≡ parts_of form file'
same_parts form file file' bounds = ap₂ (λ n l. map (part n) l.banks) bounds.length bounds.layout
