-- Laws of calls that ran a program.
-- Assumes nothing.
use mathlib.Core.Path.{◌≡◌, refl, sym, ap, ◌∙◌}
use mathlib.Core.List.{List, [], ◌∷◌, ◌++◌, map-append, append-nil}
use Prim.Native.Nat.{ℕ, suc, ◌+◌}
use native.Mathlib.Numerals.{add-one}
use native.Mathlib.Omega.{arith}
use lib.ListN.{length, set, length-append, length-map}
use lib.Seq.{sets, length-sets}
use mathlib.Core.Bool.{Bool, true, false}
use Rattle.bits.specs.Bits.{pick}
use Rattle.reads.specs.Program.{Request, Outcome, reached, stopped, Program, done, stop, note, ask, bind, run, reads}
use Rattle.std.specs.Prelude.{Option, Some, None}
use Rattle.reads.proofs.Laws.{on, run_bind, reads_bind}
use Rattle.reads.specs.Ran.{Ran}

sets_append : (l : List ℕ) (k : ℕ) (u v : List ℕ) → sets l k (u ++ v) ≡ sets (sets l k u) (k + length u) v
sets_append l k [] v = let z : k + 0 ≡ k = omega arith in rw z
sets_append l k (a ∷ u) v =
    let z : suc k + length u ≡ k + suc (length u) = omega arith in
    sets_append (set l k a) (suc k) u v ∙ rw z

module _ {E : Type 0} (m : Request → Option ℕ) where
  pub ran_done : {A : Type 0} (a : A) (log : List ℕ) (count : ℕ) → Ran {E = E} m (done a) log count (reached a) count log
  unfolding run reads
  ran_done a log count = record { outcome = refl; counted = omega arith; logged = refl }

  pub ran_stop : {A : Type 0} (e : E) (log : List ℕ) (count : ℕ) → Ran {A = A} m (stop e) log count (stopped e) count log
  unfolding run reads
  ran_stop e log count = record { outcome = refl; counted = omega arith; logged = refl }

  pub ran_note : {A : Type 0} {n : ℕ} {p : Program Request E A} {log log' : List ℕ} {count end : ℕ} {o : Outcome E A} → Ran m p log count o end log' → Ran m (note n p) log count o end log'
  unfolding run reads
  ran_note r = record { outcome = r.outcome; counted = r.counted; logged = r.logged }

  pub ran_absent : {A : Type 0} {q : Request} {k : Option ℕ → Program Request E A} {log log' : List ℕ} {count end : ℕ} {o : Outcome E A} →
      m q ≡ None → Ran m (k None) log count o end log' → Ran m (ask q k) log count o end log'
  unfolding run reads
  ran_absent e r = record { outcome = rw e r.outcome; counted = rw e r.counted; logged = rw e r.logged }

  pub ran_word : {A : Type 0} {q : Request} {k : Option ℕ → Program Request E A} {x : ℕ} {log log' : List ℕ} {count end : ℕ} {o : Outcome E A} →
      m q ≡ Some x → Ran m (k (Some x)) (set log count q.address) (count + 1) o end log' → Ran m (ask q k) log count o end log'
  unfolding run reads
  ran_word {count} e r =
      record { outcome = rw e r.outcome; counted = rw e (omega (arith, r.counted)); logged = rw e (rw add-one at r.logged) }

  pub ran_then : {A B : Type 0} {p : Program Request E A} (f : A → Program Request E B) {a : A} {log log₁ log₂ : List ℕ} {count end end₂ : ℕ} {o : Outcome E B} →
      Ran m p log count (reached a) end log₁ → Ran m (f a) log₁ end o end₂ log₂ → Ran m (bind p f) log count o end₂ log₂
  ran_then {p} f {a} {log} {count} {o} r s =
      let went : run m p ≡ reached a = sym r.outcome in
      let all : reads m (bind p f) ≡ reads m p ++ reads m (f a) = reads_bind m p f ∙ ap (λ z. reads m p ++ on z (λ b. reads m (f b)) (λ e. [])) went in
      record {
        outcome = s.outcome ∙ sym (run_bind m p f ∙ ap (λ z. on z (λ b. run m (f b)) stopped) went);
        counted = rw (all, length-append (reads m p)) (omega (arith, r.counted, s.counted));
        logged = rw (all, map-append) (s.logged ∙ rw (r.logged, r.counted, sets_append, length-map));
      }

  pub ran_stopped : {A B : Type 0} {p : Program Request E A} (f : A → Program Request E B) {e : E} {log log₁ : List ℕ} {count end : ℕ} →
      Ran m p log count (stopped e) end log₁ → Ran m (bind p f) log count (stopped e) end log₁
  ran_stopped {p} f {e} r =
      let went : run m p ≡ stopped e = sym r.outcome in
      let all : reads m (bind p f) ≡ reads m p ++ [] = reads_bind m p f ∙ ap (λ z. reads m p ++ on z (λ b. reads m (f b)) (λ e. [])) went in
      record {
        outcome = sym (run_bind m p f ∙ ap (λ z. on z (λ b. run m (f b)) stopped) went);
        counted = rw (all, append-nil) r.counted;
        logged = rw (all, append-nil) r.logged;
      }

  -- a choice whose test is known
  pub ran_true : {A : Type 0} {p : Program Request E A} (q : Program Request E A) {log log' : List ℕ} {count end : ℕ} {o : Outcome E A} {b : Bool} → b ≡ true → Ran m p log count o end log' → Ran m (pick b p q) log count o end log'
  unfolding pick
  ran_true q e r = rw e r

  pub ran_false : {A : Type 0} (p : Program Request E A) {q : Program Request E A} {log log' : List ℕ} {count end : ℕ} {o : Outcome E A} {b : Bool} → b ≡ false → Ran m q log count o end log' → Ran m (pick b p q) log count o end log'
  unfolding pick
  ran_false p e r = rw e r

-- a log keeps its length
pub ran_length : {E A : Type 0} {m : Request → Option ℕ} {p : Program Request E A} {log log' : List ℕ} {count end : ℕ} {o : Outcome E A} → Ran m p log count o end log' → length log' ≡ length log
ran_length r = rw r.logged (simp length-sets)
