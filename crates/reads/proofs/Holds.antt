-- What holds of a program over a memory: P of each request, S of the answer with which it stops, R of its value.
-- Assumes nothing.
use mathlib.Core.Path.{◌≡◌, refl}
use mathlib.Core.Bool.{Bool, true, false}
use Prim.Native.Nat.{ℕ}
use Rattle.bits.specs.Bits.{pick}
use Rattle.reads.specs.Program.{Outcome, reached, stopped, Program, done, stop, note, ask, All, nil, bind, run, reads}
use Rattle.std.specs.Prelude.{Option}
use Rattle.reads.proofs.Laws.{all_counted}

abbrev pub OnOutcome : {E A : Type 0} → (A → Type 0) → (E → Type 0) → Outcome E A → Type 0
OnOutcome R S (reached a) = R a
OnOutcome R S (stopped e) = S e

module _ {Q E : Type 0} (m : Q → Option ℕ) (P : Q → Type 0) (S : E → Type 0) where
  pub data Holds {A : Type 0} (R : A → Type 0) : Program Q E A → Type 0 where
    on_done : {a : A} → R a → Holds R (done a)
    on_stop : {e : E} → S e → Holds R (stop e)
    on_note : {n : ℕ} {p : Program Q E A} → Holds R p → Holds R (note n p)
    on_ask : {q : Q} {k : Option ℕ → Program Q E A} → P q → Holds R (k (m q)) → Holds R (ask q k)

  pub holds_reads : {A : Type 0} {R : A → Type 0} {p : Program Q E A} → Holds R p → All P (reads m p)
  unfolding reads
  holds_reads (on_done h) = nil
  holds_reads (on_stop h) = nil
  holds_reads (on_note h) = holds_reads h
  holds_reads (on_ask p h) = all_counted (m _) _ _ p (holds_reads h)

  pub holds_run : {A : Type 0} {R : A → Type 0} {p : Program Q E A} → Holds R p → OnOutcome R S (run m p)
  unfolding run
  holds_run (on_done h) = h
  holds_run (on_stop h) = h
  holds_run (on_note h) = holds_run h
  holds_run (on_ask p h) = holds_run h

  pub holds_bind : {A B : Type 0} {R : A → Type 0} {R' : B → Type 0} {p : Program Q E A} (f : A → Program Q E B) →
      Holds R p → ((a : A) → R a → Holds R' (f a)) → Holds R' (bind p f)
  unfolding bind
  holds_bind f (on_done h) k = k _ h
  holds_bind f (on_stop h) k = on_stop h
  holds_bind f (on_note h) k = on_note (holds_bind f h k)
  holds_bind f (on_ask p h) k = on_ask p (holds_bind f h k)

  pub holds_pick : {A : Type 0} {R : A → Type 0} {p q : Program Q E A} (b : Bool) → (b ≡ true → Holds R p) → (b ≡ false → Holds R q) → Holds R (pick b p q)
  unfolding pick
  holds_pick true hp hq = hp refl
  holds_pick false hp hq = hq refl
