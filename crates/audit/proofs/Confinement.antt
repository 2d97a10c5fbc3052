-- After a clean audit every question is confined.
-- Assumes nothing.
use mathlib.Core.Path.{◌≡◌, refl, sym, subst, ◌∙◌}
use mathlib.Core.Bool.{Bool, true, false}
use mathlib.Core.List.{List}
use Prim.Native.Nat.{ℕ, ◌-◌, ◌*◌, ◌%◌, ◌^◌}
use native.Mathlib.Omega.{arith}
use borrow.Author.Tests.{not-false}
use Rattle.reads.specs.Program.{Request, Outcome, reached, stopped, run, nil}
use Rattle.access.specs.declared.Access.{Access}
use Rattle.reads.proofs.Holds.{OnOutcome, Holds, holds_reads, holds_run}
use Rattle.capture.specs.Capture.{any_high}
use Rattle.layout.specs.Layout.{Form, layout, captured, SameBounds}
use Rattle.answers.specs.Answers.{answer}
use Rattle.answers.specs.declared.Refusal.{Refusal}
use Rattle.walk.specs.declared.stop.Stop.{Stop}
use Rattle.walk.specs.declared.stop.Stop.TheVariants as S
use Rattle.stages.specs.declared.both.Translation.{Translation}
use Rattle.walk.specs.Root.{Root}
use Rattle.walk.specs.declared.table.Table.{Table}
use Rattle.stages.specs.Stages.{access}
use Rattle.stages.proofs.Accesses.{Spot, Hit, Around, holds_access}
use Rattle.settings.specs.Settings.{stage2_on}
use Rattle.regime.specs.Roots.{root2, stage1, stage2}
use Rattle.registers.specs.declared.El1.{El1}
use Rattle.registers.specs.declared.El2.{El2}
use Rattle.regime.proofs.Roots.{Sane, root2_sane, root1_aligned}
use Rattle.answers.specs.Refusals.{Ground, refuse, verdict, Verdict, accepts}
use Rattle.answers.specs.Question.{turned_away, told, ask_over, ask}
use Rattle.bits.specs.Bits.{pick}
use Rattle.answers.proofs.Refusals.{refuse_refused, refuse_accepted, by_refuse, holds_for, is_high, is_no_root, none_holds}
use Rattle.lists.specs.Lists.{zip}
use Rattle.audit.specs.Audit.{AuditAnswer, audit_from, audit_grounds, audit_over, audit}
use Rattle.audit.specs.Confinement.{InFrame, Audited, the_root, listed, InTables, ReadIn, MissingIn, AnswerIn, SameTables, Confined, Confinement}
use Rattle.std.specs.Prelude.{None, Ok, Err, Option}
use Rattle.audit.proofs.Frames.{GrantedLeaf, address_in_frame, descriptor_in_frame}
use Rattle.audit.proofs.Findings.{clean_left, clean_right, Tables, top, low, entry_says_lem}
use Rattle.audit.proofs.Dependence.{same_entry}

-- ---- what a clean audit says

not_clean : {X : Type 0} (why : Refusal) → ◌≡◌ {A = AuditAnswer} (Err why) (Ok None) → X
not_clean why e = absurd (let z : ◌≡◌ {A = ℕ} 0 1 = cc in omega arith)

-- it met no refusal
pub unrefused : (l : List Ground) (x : AuditAnswer) → refuse Err l x ≡ Ok None → verdict l ≡ accepts
unrefused l x e = by_verdict (verdict l) refl
  where
    by_verdict : (v : Verdict) → verdict l ≡ v → verdict l ≡ accepts
    by_verdict (Ok tt) q = q
    by_verdict (Err why) q = not_clean why (sym (refuse_refused Err l x why q) ∙ e)

-- ---- stops that name no stage 1 descriptor, or one in a granted frame

abbrev StopIn : List (ℕ × ℕ) → Stop → Type 0
StopIn grants (S.Fault f) = Unit {0}
StopIn grants (S.Misaligned s) = Unit {0}
StopIn grants (S.Absent m) = MissingIn grants m.stage m.address
StopIn grants (S.Unsettled o) = Unit {0}

answer_in : (grants : List (ℕ × ℕ)) (n : ℕ) (o : Outcome Stop Translation) → OnOutcome (λ t. InFrame grants 1 t.address) (StopIn grants) o → AnswerIn grants (answer n o)
unfolding answer
answer_in grants n (reached t) h = h
answer_in grants n (stopped (S.Fault f)) h = tt
answer_in grants n (stopped (S.Misaligned s)) h = tt
answer_in grants n (stopped (S.Absent m)) h = h
answer_in grants n (stopped (S.Unsettled o)) h = tt

-- ---- two files

module _ (form : Form) (file file' : List ℕ) (bounds : SameBounds form file file') (low' : any_high (layout form file).banks ≡ false) (r : El2) (grants tables : List (ℕ × ℕ)) where
  abbrev m : Request → Option ℕ
  m = captured form file

  abbrev m' : Request → Option ℕ
  m' = captured form file'

  module _ (root : Table) (rooted : root2 r ≡ Ok root) (sane : Sane (Ok root)) (clean : audit_from m grants tables (Ok root) ≡ Ok None)
      (same : SameTables form file file' (root2 r) tables) (on : stage2_on r ≡ true) where
    abbrev T : ℕ → ℕ → ℕ → Type 0
    T = Tables root tables

    audited : {k j table : ℕ} → T k j table → Audited (root2 r) tables table (8 * 2 ^ j)
    audited top = the_root rooted
    audited (low {k} h l) = listed rooted (4 - k) l

    in_tables : (n at : ℕ) → Spot T n at → InTables (root2 r) tables at
    in_tables n at p =
        record { table = p.table; size = 8 * 2 ^ p.bits; of = audited p.of; from = omega (arith, p.is); to = omega (arith, p.is, p.less) }

    lies : (ipa o : ℕ) → ipa % 8 ≡ 0 → Hit (GrantedLeaf grants) ipa o → InFrame grants 8 o
    lies ipa o even h = subst (InFrame grants 8) (sym h.is) (descriptor_in_frame grants h.word h.shift ipa h.leaf even)

    abbrev ReadAt : Request → Type 0
    ReadAt q = ReadIn (root2 r) grants tables q.reader q.address

    around : Around m' ReadAt (StopIn grants) (InFrame grants 8) T (GrantedLeaf grants) root
    unfolding audit_from
    around =
        record {
          faults = λ s kind level. tt;
          opens = λ s level. tt;
          misaligned = λ s. tt;
          gap1 = λ at level f. f;
          gap2 = λ at ipa w level. tt;
          read1 = λ at f. f;
          read2 = in_tables;
          top = top;
          says = λ n j table i x t less e.
              entry_says_lem m grants tables root sane.0 sane.1 (clean_left _ _ clean) (clean_right _ _ clean) n j table i x t less
              (same_entry form file file' bounds low' j table (same _ _ (audited t)) i less ∙ e);
          lies = lies;
        }

    module _ (g : El1) (a : Access) where
      holds : Holds m' ReadAt (StopIn grants) (λ t. (ipa : ℕ) × Hit (GrantedLeaf grants) ipa t.address) (access (stage1 r g) (stage2 r) a)
      unfolding stage2
      holds = holds_access m' ReadAt (StopIn grants) (InFrame grants 8) T (GrantedLeaf grants) root around (stage2 r) rooted a on (stage1 r g) (root1_aligned r g a.address)

      landed : (o : Outcome Stop Translation) → OnOutcome (λ t. (ipa : ℕ) × Hit (GrantedLeaf grants) ipa t.address) (StopIn grants) o →
          OnOutcome (λ t. InFrame grants 1 t.address) (StopIn grants) o
      landed (reached t) (ipa, h) = subst (InFrame grants 1) (sym h.is) (address_in_frame grants h.word h.shift ipa h.leaf)
      landed (stopped e) h = h

      -- a refused question reads nothing
      pub confined_by : (log : List ℕ) → Confined (root2 r) grants tables (ask form file' r g a log)
      unfolding ask ask_over turned_away told
      confined_by log =
          by_refuse (Confined (root2 r) grants tables) _ _ _ (λ why. record { reads = nil; answer = tt })
          (record { reads = holds_reads m' _ _ holds; answer = answer_in grants _ (run m' _) (landed (run m' _) (holds_run m' _ _ holds)) })

  -- a clean audit has a usable root
  by_root : (root : Root) → root2 r ≡ root → Sane root → audit_from m grants tables root ≡ Ok None →
      SameTables form file file' (root2 r) tables → stage2_on r ≡ true →
      (g : El1) (a : Access) (log : List ℕ) → Confined (root2 r) grants tables (ask form file' r g a log)
  unfolding audit_from
  by_root (Err u) e sane clean same on g a log = not_clean _ clean
  by_root (Ok t) e sane clean same on g a log = confined_by t e sane clean same on g a log

-- stage 2 is on where the audit is not refused
stage2_on_lem : (unreadable high : Bool) (r : El2) (grants counts tables levels : List ℕ) → verdict (audit_grounds unreadable high r grants counts tables levels) ≡ accepts → stage2_on r ≡ true
unfolding holds_for pick
stage2_on_lem unreadable high r grants counts tables levels e = not-false _ (none_holds is_no_root (audit_grounds unreadable high r grants counts tables levels) e)

-- and no bank ends high
ends_low : (unreadable high : Bool) (r : El2) (grants counts tables levels : List ℕ) → verdict (audit_grounds unreadable high r grants counts tables levels) ≡ accepts → high ≡ false
unfolding holds_for pick
ends_low unreadable high r grants counts tables levels e = none_holds is_high (audit_grounds unreadable high r grants counts tables levels) e

pub confinement : (form : Form) (file file' : List ℕ) (r : El2) (grants counts tables levels : List ℕ) → Confinement form file file' r grants counts tables levels
unfolding audit audit_over
confinement form file file' r grants counts tables levels =
    record {
      confined = λ clean bounds same g a log.
          let accepted = unrefused _ _ clean in
          by_root form file file' bounds (ends_low _ _ r grants counts tables levels accepted) r (zip grants counts) (zip tables levels) (root2 r) refl (root2_sane r)
          (sym (refuse_accepted Err _ _ accepted) ∙ clean) same (stage2_on_lem _ _ r grants counts tables levels accepted) g a log;
    }
