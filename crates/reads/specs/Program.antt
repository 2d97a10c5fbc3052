-- A program of descriptor reads, as a tree. Over a memory it has an outcome, the reads that found a word, and the levels at which walks ended.
-- Assumes nothing.
use Rattle.std.specs.Prelude.{List, [], ◌∷◌, ℕ, Option, Some, None}

-- the stage that reads
pub data Reader : Type 0 where
  stage_1 : Reader
  stage_2 : Reader

-- a read of one descriptor, at its physical address
pub record Request : Type 0 where
  pub reader : Reader
  pub address : ℕ

-- a value, or the stop that came before it
pub data Outcome (E A : Type 0) : Type 0 where
  reached : A → Outcome E A
  stopped : E → Outcome E A

-- done: a value. stop: a final answer. note: a walk ended at this level. ask: a read, and what follows by what it finds.
pub data Program (Q E A : Type 0) : Type 0 where
  done : A → Program Q E A
  stop : E → Program Q E A
  note : ℕ → Program Q E A → Program Q E A
  ask : Q → (Option ℕ → Program Q E A) → Program Q E A

-- each of a list
pub data All {Q : Type 0} (P : Q → Type 0) : List Q → Type 0 where
  nil : All P []
  cons : {q : Q} {l : List Q} → P q → All P l → All P (q ∷ l)

-- a read that found nothing is neither counted nor logged (01, Answer numbers)
abbrev pub counted : {Q : Type 0} → Option ℕ → Q → List Q → List Q
counted None q l = l
counted (Some w) q l = q ∷ l

module _ {Q E : Type 0} where
  -- p, and then what its value leads to
  unfoldable pub bind : {A B : Type 0} → Program Q E A → (A → Program Q E B) → Program Q E B
  bind (done a) f = f a
  bind (stop e) f = stop e
  bind (note n p) f = note n (bind p f)
  bind (ask q k) f = ask q (λ w. bind (k w) f)

  unfoldable pub run : {A : Type 0} → (Q → Option ℕ) → Program Q E A → Outcome E A
  run m (done a) = reached a
  run m (stop e) = stopped e
  run m (note n p) = run m p
  run m (ask q k) = run m (k (m q))

  unfoldable pub reads : {A : Type 0} → (Q → Option ℕ) → Program Q E A → List Q
  reads m (done a) = []
  reads m (stop e) = []
  reads m (note n p) = reads m p
  reads m (ask q k) = counted (m q) q (reads m (k (m q)))

  unfoldable pub ends : {A : Type 0} → (Q → Option ℕ) → Program Q E A → List ℕ
  ends m (done a) = []
  ends m (stop e) = []
  ends m (note n p) = n ∷ ends m p
  ends m (ask q k) = ends m (k (m q))
