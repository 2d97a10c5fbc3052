-- Laws of all programs of reads: what `bind` does, and framing.
-- Assumes nothing.
use mathlib.Core.Path.{◌≡◌, refl, ap, sym, ◌∙◌}
use mathlib.Core.List.{List, [], ◌∷◌, ◌++◌}
use Rattle.reads.specs.Program.{Outcome, reached, stopped, Program, done, stop, note, ask, All, nil, cons, counted, bind, run, reads, ends}
use Rattle.std.specs.Prelude.{Option, Some, None, ℕ}

-- ---- lists

pub all_append : {Q : Type 0} {P : Q → Type 0} {a b : List Q} → All P a → All P b → All P (a ++ b)
all_append nil k = k
all_append (cons p h) k = cons p (all_append h k)

pub all_left : {Q : Type 0} {P : Q → Type 0} (a b : List Q) → All P (a ++ b) → All P a
all_left [] b h = nil
all_left (q ∷ a) b (cons p h) = cons p (all_left a b h)

pub all_right : {Q : Type 0} {P : Q → Type 0} (a b : List Q) → All P (a ++ b) → All P b
all_right [] b h = h
all_right (q ∷ a) b (cons p h) = all_right a b h

pub all_map : {Q : Type 0} {P R : Q → Type 0} {a : List Q} → ((q : Q) → P q → R q) → All P a → All R a
all_map f nil = nil
all_map f (cons p h) = cons (f _ p) (all_map f h)

pub all_counted : {Q : Type 0} {P : Q → Type 0} (f : Option ℕ) (q : Q) (l : List Q) → P q → All P l → All P (counted f q l)
all_counted None q l p h = h
all_counted (Some w) q l p h = cons p h

all_tail : {Q : Type 0} {P : Q → Type 0} (f : Option ℕ) (q : Q) (l : List Q) → All P (counted f q l) → All P l
all_tail None q l h = h
all_tail (Some w) q l (cons p h) = h

counted_append : {Q : Type 0} (f : Option ℕ) (q : Q) (a b : List Q) → counted f q a ++ b ≡ counted f q (a ++ b)
counted_append None q a b = refl
counted_append (Some w) q a b = refl

-- ---- bind

-- what an outcome goes on to
abbrev pub on : {E A X : Type 0} → Outcome E A → (A → X) → (E → X) → X
on (reached a) f g = f a
on (stopped e) f g = g e

module _ {Q E : Type 0} where
  pub run_bind : {A B : Type 0} (m : Q → Option ℕ) (p : Program Q E A) (f : A → Program Q E B) →
      run m (bind p f) ≡ on (run m p) (λ a. run m (f a)) stopped
  unfolding bind run
  run_bind m (done a) f = refl
  run_bind m (stop e) f = refl
  run_bind m (note n p) f = run_bind m p f
  run_bind m (ask q k) f = run_bind m (k (m q)) f

  pub reads_bind : {A B : Type 0} (m : Q → Option ℕ) (p : Program Q E A) (f : A → Program Q E B) →
      reads m (bind p f) ≡ reads m p ++ on (run m p) (λ a. reads m (f a)) (λ e. [])
  unfolding bind run reads
  reads_bind m (done a) f = refl
  reads_bind m (stop e) f = refl
  reads_bind m (note n p) f = reads_bind m p f
  reads_bind m (ask q k) f = ap (counted (m q) q) (reads_bind m (k (m q)) f) ∙ sym (counted_append (m q) q _ _)

  pub ends_bind : {A B : Type 0} (m : Q → Option ℕ) (p : Program Q E A) (f : A → Program Q E B) →
      ends m (bind p f) ≡ ends m p ++ on (run m p) (λ a. ends m (f a)) (λ e. [])
  unfolding bind run ends
  ends_bind m (done a) f = refl
  ends_bind m (stop e) f = refl
  ends_bind m (note n p) f = ap (n ∷◌) (ends_bind m p f)
  ends_bind m (ask q k) f = ends_bind m (k (m q)) f

-- ---- framing

-- the second memory lacks what the first lacks
abbrev pub SameGaps : {Q : Type 0} → (Q → Option ℕ) → (Q → Option ℕ) → Type 0
SameGaps {Q} m m' = (q : Q) → m q ≡ None → m' q ≡ None

-- a memory that lacks what the first lacks and has what the first read gives what the first gave
same_read : {Q : Type 0} (m m' : Q → Option ℕ) → SameGaps m m' → (q : Q) (l : List Q) (f : Option ℕ) → m q ≡ f → All (λ r. m' r ≡ m r) (counted f q l) → m' q ≡ m q
same_read m m' g q l None e h = g q e ∙ sym e
same_read m m' g q l (Some w) e (cons p h) = p

pub record Same {Q E A : Type 0} (m m' : Q → Option ℕ) (p : Program Q E A) : Type 0 where
  pub same_run : run m' p ≡ run m p
  pub same_reads : reads m' p ≡ reads m p
  pub same_ends : ends m' p ≡ ends m p

pub frame : {Q E A : Type 0} (m m' : Q → Option ℕ) → SameGaps m m' → (p : Program Q E A) → All (λ q. m' q ≡ m q) (reads m p) → Same m m' p
unfolding run reads ends
frame m m' g (done a) h = record { same_run = refl; same_reads = refl; same_ends = refl }
frame m m' g (stop e) h = record { same_run = refl; same_reads = refl; same_ends = refl }
frame m m' g (note n p) h =
    let s = frame m m' g p h in
    record { same_run = s.same_run; same_reads = s.same_reads; same_ends = ap (n ∷◌) s.same_ends }
frame m m' g (ask q k) h =
    let e : m' q ≡ m q = same_read m m' g q _ (m q) refl h in
    let s = frame m m' g (k (m q)) (all_tail (m q) q _ h) in
    record {
      same_run = ap (λ f. run m' (k f)) e ∙ s.same_run;
      same_reads = ap (λ f. counted f q (reads m' (k f))) e ∙ ap (counted (m q) q) s.same_reads;
      same_ends = ap (λ f. ends m' (k f)) e ∙ s.same_ends;
    }
