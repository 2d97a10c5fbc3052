-- Accesses one after the other: the log from an address on is the log from the first, and the end is that of the last one so far.
-- Assumes nothing.
use mathlib.Core.Path.{◌≡◌, refl, ◌∙◌}
use mathlib.Core.List.{List, []}
use Prim.Native.Nat.{ℕ, ◌+◌, ◌≤◌, ◌<◌}
use native.Mathlib.Numerals.{add-one}
use native.Mathlib.Omega.{arith}
use lib.ListN.{length, drop, get_or, drop_of_length-le}
use lib.Seq.{drop-cons}
use Rattle.reads.specs.Program.{Request}
use Rattle.reads.specs.Ran.{Ran}
use Rattle.std.specs.Prelude.{Option}
use Rattle.reads.proofs.Ran.{ran_length}
use Rattle.access.specs.declared.Access.{Access}
use Rattle.walk.specs.declared.stage2.Stage2.{Stage2}
use Rattle.stages.specs.Stages.{access}
use Rattle.stages.specs.Calls.{arrived}
use Rattle.stages.specs.declared.stage1.Stage1.{Stage1}
use Rattle.stages.specs.declared.both.Arrival.{Arrival}
use Rattle.accesses.specs.Calls.{no_arrival, logged_all, Ended}

module _ (m : Request → Option ℕ) (s1 : Stage1) (s2 : Stage2) (to : ℕ → Access) (addresses log₀ : List ℕ) where
  -- after i addresses
  pub record Runs (log : List ℕ) (last : Arrival) (i : ℕ) : Type 0 where
    pub few : i ≤ length addresses
    pub same : length log ≡ length log₀
    pub rest : logged_all m s1 s2 to (drop i addresses) log ≡ logged_all m s1 s2 to addresses log₀
    pub ended : (n : ℕ) → i ≡ n + 1 → Ended m s1 s2 (to (get_or addresses n 0)) last
    pub none : i ≡ 0 → last ≡ no_arrival

  pub runs_start : {last : Arrival} → last ≡ no_arrival → Runs log₀ last 0
  runs_start e = record { few = omega arith; same = refl; rest = refl; ended = λ n z. absurd (omega (arith, z)); none = λ _. e }

  pub runs_next : {log log' : List ℕ} {last last' : Arrival} {i : ℕ} → Runs log last i → i < length addresses →
      Ran m (access s1 s2 (to (get_or addresses i 0))) log 0 (arrived s1 s2 (to (get_or addresses i 0)) last') last'.end.count log' → Runs log' last' (i + 1)
  unfolding logged_all
  runs_next {i = i} w less r =
      record {
        few = omega (arith, less);
        same = ran_length r ∙ w.same;
        rest = rw (add-one, r.logged) (rw (drop-cons addresses i 0 less) at w.rest);
        ended = λ n e. let z : n ≡ i = omega (arith, e) in rw z (record { outcome = r.outcome; counted = omega (arith, r.counted) });
        none = λ e. absurd (omega (arith, e));
      }

  -- after all of them
  module _ {log : List ℕ} {last : Arrival} {i : ℕ} (w : Runs log last i) (over : length addresses ≤ i) where
    pub runs_left : log ≡ logged_all m s1 s2 to addresses log₀
    unfolding logged_all
    runs_left =
        let none : drop i addresses ≡ [] = drop_of_length-le addresses {i = i} over in
        rw none at w.rest

    pub runs_ended : (n : ℕ) → length addresses ≡ n + 1 → Ended m s1 s2 (to (get_or addresses n 0)) last
    runs_ended n e = w.ended n (omega (arith, w.few, over, e))

    pub runs_none : length addresses ≡ 0 → last ≡ no_arrival
    runs_none e = w.none (omega (arith, w.few, e))
