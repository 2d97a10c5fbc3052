-- What an audit's answer depends on (01, The audit). Proved in proofs/Dependence.antt.
-- Assumes nothing.
use Rattle.std.specs.Prelude.{◌≡◌, List, ℕ}
use Rattle.layout.specs.Layout.{Form, SameBounds}
use Rattle.regime.specs.Roots.{root2}
use Rattle.registers.specs.declared.El2.{El2}
use Rattle.lists.specs.Lists.{zip}
use Rattle.audit.specs.Audit.{audit}
use Rattle.audit.specs.Confinement.{SameTables}

-- Two files with the same bounds and the same bytes in the audited tables have the same audit, whatever it finds or refuses:
-- PAMax, the EL2 registers and the lists are the same, all other bytes are free.
pub record Dependence (form : Form) (file file' : List ℕ) (r : El2) (grants counts tables levels : List ℕ) : Type 0 where
  pub depends : SameBounds form file file' →
      SameTables form file file' (root2 r) (zip tables levels) →
      audit form file r grants counts tables levels ≡ audit form file' r grants counts tables levels
