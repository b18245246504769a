-- The theorem in one sentence, from its clauses: what they say of each list of endpoints is said of those that the sentence names.
use Rattle.std.proofs.Common.{◌≡◌, ℕ, Bool, true, false, cond, List, [], ◌∷◌, Option, refl, sym, ◌∙◌}
use Rattle.std.specs.Prelude.{filter}
use Rattle.std.specs.List.{AllByRecursion}
use Rattle.usb_base.specs.declared.endpoints.EpDesc.{EpDesc}
use Rattle.script_types.specs.declared.scripts.Script.{Script}
use Rattle.script_text.specs.Faults.{Spells}
use Rattle.script_fits.proofs.Texts.{spelled_fits}
use Rattle.claims_report.specs.Reports.{WholeReport}
use Rattle.claims_report.specs.Streams.{opened, IsRightStream}
use Rattle.bus_world.proofs.BudgetedAtWork.{scripts_admit_at_work}
use Rattle.claims_world.specs.BelowStreams.{is_claimed_below, is_claimed_in, LeavesTranslator, KeepsStreams}
use Rattle.claims_world.specs.HighStreams.{claimed}
use Rattle.claims_world.specs.Streams.{report_of}
use Rattle.claims_headline.specs.Headline.{IsOfStreams, PrintsStreams, KeepsHeadline}
use Rattle.claims_headline.specs.Headline.IsOfStreams.{at_high_speed, out_below_hub, in_below_hub}
use Rattle.law_reports.proofs.HandedOn.{each_moment_keeps_to_lent_blocks, scripts_give_back_last, scripts_leave_what_is_back}
use Rattle.law_reports.proofs.lemmas.due_at_begin.Moments.{texts_do_what_is_due_at_begin}
use Rattle.law_reports.proofs.lemmas.due_at_begin.SitdMoments.{texts_serve_sitds_at_begin}
use Rattle.law_reports.proofs.lemmas.due_at_begin.SlotMoments.{texts_do_slots_at_begin}
use Rattle.law_reports.proofs.lemmas.due_at_begin.SplitDue.{texts_make_splits}
use Rattle.law_reports.proofs.lemmas.due_at_begin.ResultDue.{texts_take_results}
use Rattle.law_reports.proofs.lemmas.due_at_begin.SplitsDone.{texts_keep_split_frames}
use Rattle.law_reports.proofs.lemmas.pipes.lemmas.below_hubs.BelowKept.{texts_keep_streams}
use Rattle.law_reports.proofs.lemmas.requests.Kept.{texts_keep_requests}
use Rattle.app_forms.specs.Scripts.{OfEachPlainScript}
use Rattle.ehci_cli.proofs.Each.{of_each_plain}

-- what is so of those that pass a test is so of each, where it passes
each_that : {X : Type 0} (P : X → Type 0) (test : X → Bool) (xs : List X) → AllByRecursion P (filter test xs)
    → AllByRecursion (λ x. test x ≡ true → P x) xs
each_that P test [] h = tt
each_that P test (x ∷ xs) h = at (test x) refl (each_that P test xs) h
  where
    at : (b : Bool) → test x ≡ b → (AllByRecursion P (filter test xs) → AllByRecursion (λ y. test y ≡ true → P y) xs)
        → AllByRecursion P (cond b (x ∷ filter test xs) (filter test xs))
        → (test x ≡ true → P x) × AllByRecursion (λ y. test y ≡ true → P y) xs
    at true e rest k = ((λ _. k.0), rest k.1)
    at false e rest k = ((λ t. let no : false ≡ true = sym e ∙ t in absurd cc), rest k)

-- ---- streams

module _ (s : Script) (r : WholeReport) where
  abbrev IsRight : EpDesc → Type 0
  IsRight x = IsRightStream s r x.name

  all_told : (xs : List EpDesc) → AllByRecursion (λ x. claimed s x ≡ true → IsRight x) xs
      → AllByRecursion (λ x. is_claimed_below s x ≡ true → IsRight x) xs
      → AllByRecursion (λ x. is_claimed_in s x ≡ true → LeavesTranslator s x → IsRight x) xs
      → AllByRecursion (λ x. IsOfStreams s x → IsRight x) xs
  all_told [] high outs ins = tt
  all_told (x ∷ xs) high outs ins = (told, all_told xs high.1 outs.1 ins.1)
    where
      told : IsOfStreams s x → IsRight x
      told (at_high_speed e) = high.0 e
      told (out_below_hub e) = outs.0 e
      told (in_below_hub e left) = ins.0 e left

prints_streams : (s : Script) → KeepsStreams s → PrintsStreams s
prints_streams s k = record {
  told = λ w ran.
      let r : WholeReport = report_of w.fixed w.world in
      all_told s r (opened s r)
      (each_that (λ x. IsRightStream s r x.name) (claimed s) (opened s r) (k.high.all w ran))
      (each_that (λ x. IsRightStream s r x.name) (is_claimed_below s) (opened s r) (k.below.all w ran))
      (each_that (λ x. LeavesTranslator s x → IsRightStream s r x.name) (is_claimed_in s) (opened s r) (k.below.left_ins w ran));
  printed = k.high.kept.printed;
}

-- ---- the sentence

texts_keep_headline : (text : List ℕ) (s : Script) → Spells text s → KeepsHeadline s
texts_keep_headline text s spelled =
    let fits = spelled_fits text s spelled in
    record {
      streams = prints_streams s (texts_keep_streams text s spelled);
      requests = (texts_keep_requests text s spelled).at_the_end;
      admitted = scripts_admit_at_work s fits;
      due = record {
        packets = texts_do_what_is_due_at_begin text s spelled;
        slots = texts_do_slots_at_begin text s spelled;
        splits = texts_make_splits text s spelled;
        frames = texts_keep_split_frames text s spelled;
        results = texts_take_results text s spelled;
        split_slots = texts_serve_sitds_at_begin text s spelled;
      };
      released = record {
        lent = each_moment_keeps_to_lent_blocks s fits;
        last = scripts_give_back_last s;
        untouched = scripts_leave_what_is_back s fits;
      };
    }

pub source_keeps_headline : (words : List (List ℕ)) (left : Option (List ℕ)) → OfEachPlainScript KeepsHeadline words left
source_keeps_headline = of_each_plain KeepsHeadline texts_keep_headline
