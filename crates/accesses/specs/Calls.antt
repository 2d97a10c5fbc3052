-- For the contract of code: each address of a list is answered.
-- Assumes nothing.
use Rattle.std.specs.Prelude.{◌≡◌, List, [], ◌∷◌, map, ℕ, ◌+◌, length, get_or, Option}
use Rattle.std.proofs.lemmas.List.Edits.{sets}
use Rattle.reads.specs.Program.{Request, run, reads}
use Rattle.access.specs.declared.Access.{Access}
use Rattle.walk.specs.Ends.{stopped_by}
use Rattle.walk.specs.declared.end.Ending.TheVariants.{Unsettled}
use Rattle.walk.specs.declared.stage2.Stage2.{Stage2}
use Rattle.stages.specs.Stages.{access}
use Rattle.stages.specs.Calls.{arrived}
use Rattle.stages.specs.declared.stage1.Stage1.{Stage1}
use Rattle.stages.specs.declared.both.Arrival.{Arrival}
use Rattle.stages.specs.declared.both.By.TheVariants.{First}
use Rattle.answers.specs.Answers.{number}
use Rattle.answers.specs.Entries.{answer_of, output_of}

-- what is told of the last access where there is none
abbrev pub no_arrival : Arrival
no_arrival = record { by = First; end = stopped_by Unsettled 0 0; ipa = 0; left1 = 0; word1 = 0 }

module _ (m : Request → Option ℕ) (s1 : Stage1) (s2 : Stage2) where
  -- a log after an access: the addresses that it read over the first words
  abbrev pub logged : Access → (log : List ℕ) → List ℕ
  logged a log = sets log 0 (map (λ q. q.address) (reads m (access s1 s2 a)))

  -- and after the accesses to all addresses, one after the other
  unfoldable pub logged_all : (to : ℕ → Access) → (addresses log : List ℕ) → List ℕ
  logged_all to [] log = log
  logged_all to (x ∷ l) log = logged_all to l (logged (to x) log)

  -- how an access ended, and how many descriptors it read
  pub record Ended (a : Access) (last : Arrival) : Type 0 where
    pub outcome : arrived s1 s2 a last ≡ run m (access s1 s2 a)
    pub counted : last.end.count ≡ length (reads m (access s1 s2 a))

  -- both written lists have each address's answer, `to` being the access to an address. The log is what all accesses leave in it, and the
  -- end is the last one's.
  pub record Each (to : ℕ → Access) (addresses log : List ℕ) (last : Arrival) (outputs numbers log' : List ℕ) : Type 0 where
    pub placed : outputs ≡ map (λ x. output_of (answer_of m s1 s2 (to x))) addresses
    pub numbered : numbers ≡ map (λ x. number (answer_of m s1 s2 (to x))) addresses
    pub left : log' ≡ logged_all to addresses log
    pub ended : (n : ℕ) → length addresses ≡ n + 1 → Ended (to (get_or addresses n 0)) last
    pub none : length addresses ≡ 0 → last ≡ no_arrival
