-- A log after a read.
-- Assumes nothing.
use Rattle.std.proofs.Common.{◌≡◌, ℕ, List, set}
use Rattle.std.specs.Prelude.{Option, Some, None}
use Rattle.reads.specs.Log.{logged}

module _ (r : Option ℕ) (log log' : List ℕ) (k address : ℕ) (l : log' ≡ logged r log k address) where
  pub log_kept : r ≡ None → log' ≡ log
  unfolding logged
  log_kept e = rw e at l

  pub log_set : {x : ℕ} → r ≡ Some x → log' ≡ set log k address
  unfolding logged
  log_set e = rw e at l
