-- Answer, count and log depend on nothing but the descriptors read.
-- Assumes nothing.
use mathlib.Core.Path.{◌≡◌, refl, sym, subst, ap, ◌∙◌}
use mathlib.Core.List.{List}
use Prim.Native.Nat.{ℕ}
use lib.ListN.{length}
use Rattle.reads.specs.Program.{Request, All, reads}
use Rattle.access.specs.declared.Access.{Access}
use Rattle.std.specs.Prelude.{Option, Err, Ok}
use Rattle.reads.proofs.Laws.{Same, frame, all_map}
use Rattle.capture.specs.Capture.{memory, SameBytes}
use Rattle.capture.specs.Calls.{Lies}
use Rattle.capture.specs.declared.Part.{Part}
use Rattle.layout.specs.Layout.{Form, layout, parts_of, captured, SameBounds}
use Rattle.layout.proofs.Bounds.{same_parts}
use Rattle.layout.proofs.Parts.{all_inside}
use Rattle.capture.proofs.Bytewise.{same_gaps, same_word}
use Rattle.walk.specs.Walk.{Reading}
use Rattle.stages.specs.Stages.{access}
use Rattle.regime.specs.Roots.{stage1, stage2}
use Rattle.stages.specs.declared.both.Translation.{Translation}
use Rattle.registers.specs.declared.El1.{El1}
use Rattle.registers.specs.declared.El2.{El2}
use Rattle.answers.specs.Refusals.{Verdict}
use Rattle.answers.specs.Question.{refusal, told, ask}
use Rattle.answers.proofs.Counts.{is_access, is_refused, low}
use Rattle.answers.specs.Framing.{Framing}

-- the same run, reads and ends tell the same
pub same_told : (m m' : Request → Option ℕ) (log : List ℕ) (p : Reading Translation) → Same m m' p → told m' log p ≡ told m log p
unfolding told
same_told m m' log p s = rw (s.same_run, s.same_reads, s.same_ends)

framed_access : (parts : List Part) (file file' : List ℕ) (p : Reading Translation) (log : List ℕ) → length file ≡ length file' → All (Lies (length file)) parts →
    All (λ q. SameBytes parts file file' q.address 8) (reads (memory parts file) p) → told (memory parts file') log p ≡ told (memory parts file) log p
framed_access parts file file' p log bounds lie same =
    same_told _ _ log p (frame _ _ (same_gaps file file' bounds parts) p (all_map (λ q h. same_word file file' bounds parts lie q h) same))

module _ (form : Form) (file file' : List ℕ) (r : El2) (g : El1) (a : Access) (log : List ℕ) where
  -- both files have the same bounds, so the verdict is the same
  by_verdict : SameBounds form file file' → (v : Verdict) → refusal (length log) form file r g a ≡ v →
      All (λ q. SameBytes (parts_of form file) file file' q.address 8) (ask form file r g a log).reads → ask form file' r g a log ≡ ask form file r g a log
  unfolding told
  by_verdict bounds (Ok tt) e same =
      is_access form file' r g a log (rw bounds.layout at e)
      ∙ subst (λ parts. told (memory parts file') log (access (stage1 r g) (stage2 r) a) ≡ told (captured form file) log (access (stage1 r g) (stage2 r) a))
      (same_parts form file file' bounds)
      (framed_access (parts_of form file) file file' _ log bounds.length (all_inside (length file) (layout form file).banks (low form file r g a log e))
      (rw (ap (λ t. t.reads) (is_access form file r g a log e)) at same))
      ∙ sym (is_access form file r g a log e)
  by_verdict bounds (Err why) e same = is_refused form file' r g a log why (rw bounds.layout at e) ∙ sym (is_refused form file r g a log why e)

  pub framing : Framing form file file' r g a log
  framing = record { framed = λ bounds same. by_verdict bounds (refusal (length log) form file r g a) refl same }
