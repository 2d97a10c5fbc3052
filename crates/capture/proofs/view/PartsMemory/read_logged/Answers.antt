-- `read_logged` meets its contract: as `read`, and the log has the address of what was there.
-- Assumes nothing.
use Rattle.std.proofs.Common.{refl, sym, ap, ◌∙◌}
use Rattle.std.specs.Prelude.{Some}
use Rattle.reads.specs.Log.{logged}
use Rattle.capture.proofs.Searches.{rising, front_has, front_lacks, nowhere, at_spot}
use Rattle.capture.proofs.view.PartsMemory.read_logged.Goals as goal

pub returns-in-Some : goal.returns-in-Some
unfolding logged
returns-in-Some c = record { found = λ reader. front_has _ _ _ _ (sym (c.read_front.ensures reader) ∙ c.in-Some.is); noted = refl }

pub find-requires : goal.find-requires
find-requires c = rising c.args.self.now.held.ascending

pub returns-in_err-spot-in-None-clause-found : goal.returns-in_err-spot-in-None-clause-found
returns-in_err-spot-in-None-clause-found c = λ reader.
    c.from_residual.ensures ∙ nowhere (c.find.ensures _ c.args.self.now.held.ascending) c.in_err-spot-in-None.was reader
    ∙ front_lacks _ _ _ _ (sym (c.read_front.ensures reader) ∙ c.in-None.is)

pub returns-in_err-spot-in-None-clause-noted : goal.returns-in_err-spot-in-None-clause-noted
unfolding logged
returns-in_err-spot-in-None-clause-noted c = rw c.from_residual.ensures

pub word_at-requires : goal.word_at-requires
word_at-requires c = (c.find.ensures _ c.args.self.now.held.ascending).inside _ c.in_ok-spot-in-None.was

pub returns-in_ok-spot-in-None : goal.returns-in_ok-spot-in-None
unfolding logged
returns-in_ok-spot-in-None c = record {
  found = λ reader.
      ap Some c.word_at.ensures ∙ at_spot (c.find.ensures _ c.args.self.now.held.ascending) c.in_ok-spot-in-None.was reader
      ∙ front_lacks _ _ _ _ (sym (c.read_front.ensures reader) ∙ c.in-None.is);
  noted = refl;
}
