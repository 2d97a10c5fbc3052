-- How many reads: a bound that adds up under `bind`, and when it is met.
-- Assumes nothing.
use mathlib.Core.Path.{◌≡◌, refl, ap, ap₂}
use mathlib.Core.Bool.{Bool, true, false}
use mathlib.Core.List.{List, [], ◌++◌}
use Prim.Native.Nat.{ℕ, suc, ◌+◌, ◌≤◌, zero-le}
use native.Mathlib.Omega.{arith}
use lib.ListN.{length, length-append}
use Rattle.bits.specs.Bits.{pick}
use Rattle.reads.specs.Program.{Outcome, reached, stopped, Program, done, stop, ask, All, nil, counted, bind, run, reads, ends}
use Rattle.std.specs.Prelude.{Option, Some, None}
use Rattle.reads.proofs.Laws.{all_append, all_left, all_right, on, run_bind, reads_bind, ends_bind}

-- each walk ended at level 3
abbrev pub AllThree : List ℕ → Type 0
AllThree = All (λ n. n ≡ 3)

abbrev IfReached : {E A : Type 0} → Outcome E A → Type 0 → Type 0
IfReached (reached a) X = X
IfReached (stopped e) X = Unit {0}

-- of an outcome, n reads and the ends l: at most c reads, and where a value was reached exactly c if each end is at level 3
pub record Tally {E A : Type 0} (c : ℕ) (o : Outcome E A) (n : ℕ) (l : List ℕ) : Type 0 where
  pub most : n ≤ c
  pub exact : IfReached o ((n ≡ c → AllThree l) × (AllThree l → n ≡ c))

pub record Tight {Q E A : Type 0} (m : Q → Option ℕ) (c : ℕ) (p : Program Q E A) : Type 0 where
  pub tally : Tally c (run m p) (length (reads m p)) (ends m p)

join : {E A B : Type 0} {a : A} {c d n n' : ℕ} {l l' : List ℕ} (o : Outcome E B) → Tally {E = E} c (reached a) n l → Tally d o n' l' → Tally (c + d) o (n + n') (l ++ l')
join {l} {l'} (reached b) h k =
    record {
      most = omega (arith, h.most, k.most);
      exact = (
        λ e. all_append (h.exact.0 (omega (arith, h.most, k.most))) (k.exact.0 (omega (arith, h.most, k.most))),
        λ t. ap₂ ◌+◌ (h.exact.1 (all_left l l' t)) (k.exact.1 (all_right l l' t)),
      );
    }
join (stopped e) h k = record { most = omega (arith, h.most, k.most); exact = tt }

one_more : {E B : Type 0} {d n : ℕ} {l : List ℕ} (o : Outcome E B) → Tally d o n l → Tally (suc d) o (suc n) l
one_more (reached b) h = record { most = omega (arith, h.most); exact = (λ e. h.exact.0 (omega arith), λ t. ap suc (h.exact.1 t)) }
one_more (stopped e) h = record { most = omega (arith, h.most); exact = tt }

module _ {Q E : Type 0} (m : Q → Option ℕ) where
  pub tight_stop : {A : Type 0} (c : ℕ) (e : E) → Tight {A = A} m c (stop e)
  unfolding run reads ends
  tight_stop c e = record { tally = record { most = zero-le; exact = tt } }

  pub tight_done : {A : Type 0} (a : A) → Tight {E = E} m 0 (done a)
  unfolding run reads ends
  tight_done a = record { tally = record { most = zero-le; exact = (λ e. nil, λ t. refl) } }

  pub tight_bind : {A B : Type 0} (c d : ℕ) (p : Program Q E A) (f : A → Program Q E B) → Tight m c p →
      ((a : A) → Tight m d (f a)) → Tight m (c + d) (bind p f)
  tight_bind {A} {B} c d p f hp hf =
      record { tally = rw (run_bind m p f, reads_bind m p f, ends_bind m p f, length-append (reads m p) _) (by_outcome (run m p) hp.tally) }
    where
      by_outcome : (o : Outcome E A) → Tally c o (length (reads m p)) (ends m p) →
          Tally (c + d) (on o (λ a. run m (f a)) stopped) (length (reads m p) + length (on o (λ a. reads m (f a)) (λ e. []))) (ends m p ++ on o (λ a. ends m (f a)) (λ e. []))
      by_outcome (reached a) h = join (run m (f a)) h (hf a).tally
      by_outcome (stopped e) h = record { most = omega (arith, h.most); exact = tt }

  pub tight_pick : {A : Type 0} {c : ℕ} {p q : Program Q E A} (b : Bool) → (b ≡ true → Tight m c p) → (b ≡ false → Tight m c q) → Tight m c (pick b p q)
  unfolding pick
  tight_pick true hp hq = hp refl
  tight_pick false hp hq = hq refl

  -- a choice, with the bound of what is chosen
  pub tight_choice : {A : Type 0} {p q : Program Q E A} (f : ℕ → ℕ) (b : Bool) (c d : ℕ) → Tight m (f c) p → Tight m (f d) q → Tight m (f (pick b c d)) (pick b p q)
  unfolding pick
  tight_choice f true c d hp hq = hp
  tight_choice f false c d hp hq = hq

  -- a read, and at most c more where it finds a word
  pub tight_ask : {A : Type 0} (c : ℕ) (q : Q) (k : Option ℕ → Program Q E A) (e : E) → k None ≡ stop e → ((x : ℕ) → Tight m c (k (Some x))) → Tight m (suc c) (ask q k)
  unfolding run reads ends
  tight_ask c q k e gap h = record { tally = by_read (m q) }
    where
      by_read : (f : Option ℕ) → Tally (suc c) (run m (k f)) (length (counted f q (reads m (k f)))) (ends m (k f))
      by_read None = rw gap (record { most = zero-le; exact = tt })
      by_read (Some x) = one_more (run m (k (Some x))) (h x).tally
