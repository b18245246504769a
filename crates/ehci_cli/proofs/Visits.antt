-- At each moment of a script's run both walks visit as the standard has it, and each microframe ends.
use Rattle.std.proofs.Common.{ℕ, List, Option}
use Rattle.claims_world.specs.Visits.{KeepsVisits}
use Rattle.claims_world.specs.WithinLoad.{PaysWithinLoad}
use Rattle.claims_world.specs.InTime.{ArriveInTime}
use Rattle.law_reports.proofs.HandedOn.{texts_keep_visits, texts_repeat_after_losses, texts_keep_translators, texts_keep_due}
use Rattle.law_reports.proofs.HandedOn.{texts_serve_slots, texts_serve_sitds, texts_pay_within_load, texts_are_in_time}
use Rattle.law_reports.proofs.HandedOn.{texts_end_microframes}
use Rattle.claims_world.specs.Due.{KeepsDue}
use Rattle.claims_world.specs.DueAtBegin.{DueAtBeginIsDone}
use Rattle.law_reports.proofs.lemmas.due_at_begin.Moments.{texts_do_what_is_due_at_begin}
use Rattle.claims_world.specs.Losses.{RepeatAfterLosses}
use Rattle.claims_world.specs.Translators.{KeepsTranslators}
use Rattle.claims_world.specs.Results.{KeepsAnswers}
use Rattle.claims_world.specs.Slots.{SlotsAreDone}
use Rattle.claims_world.specs.SlotsAtBegin.{SlotsAtBeginAreDone}
use Rattle.claims_world.specs.Sitds.{SitdsAreServed}
use Rattle.claims_world.specs.SitdsAtBegin.{SitdsAtBeginAreServed}
use Rattle.claims_world.specs.SplitFrames.{KeepsSplitFrames}
use Rattle.claims_world.specs.SplitsAtBegin.{KeepsSplits}
use Rattle.law_reports.proofs.lemmas.due_at_begin.SitdMoments.{texts_serve_sitds_at_begin}
use Rattle.law_reports.proofs.lemmas.due_at_begin.SlotMoments.{texts_do_slots_at_begin}
use Rattle.law_reports.proofs.lemmas.due_at_begin.SplitDue.{texts_make_splits}
use Rattle.law_reports.proofs.lemmas.due_at_begin.ResultDue.{texts_take_results}
use Rattle.law_reports.proofs.lemmas.due_at_begin.SplitsDone.{texts_keep_split_frames}
use Rattle.claims_world.specs.Unfinished.{KeepsToWork}
use Rattle.law_reports.proofs.lemmas.queues.Copies.{texts_keep_to_work}
use Rattle.claims_world.specs.Microframes.{MicroframesEnd}
use Rattle.app_forms.specs.Scripts.{OfEachPlainScript}
use Rattle.ehci_cli.proofs.Each.{of_each_plain}

pub source_keeps_visits : (words : List (List ℕ)) (left : Option (List ℕ)) → OfEachPlainScript KeepsVisits words left
source_keeps_visits = of_each_plain KeepsVisits texts_keep_visits

pub source_pays_within_load : (words : List (List ℕ)) (left : Option (List ℕ)) → OfEachPlainScript PaysWithinLoad words left
source_pays_within_load = of_each_plain PaysWithinLoad texts_pay_within_load

pub source_is_in_time : (words : List (List ℕ)) (left : Option (List ℕ)) → OfEachPlainScript ArriveInTime words left
source_is_in_time = of_each_plain ArriveInTime texts_are_in_time

pub source_ends_microframes : (words : List (List ℕ)) (left : Option (List ℕ)) → OfEachPlainScript MicroframesEnd words left
source_ends_microframes = of_each_plain MicroframesEnd texts_end_microframes

pub source_keeps_due : (words : List (List ℕ)) (left : Option (List ℕ)) → OfEachPlainScript KeepsDue words left
source_keeps_due = of_each_plain KeepsDue texts_keep_due

pub source_does_slots : (words : List (List ℕ)) (left : Option (List ℕ)) → OfEachPlainScript SlotsAreDone words left
source_does_slots = of_each_plain SlotsAreDone texts_serve_slots

pub source_keeps_to_work : (words : List (List ℕ)) (left : Option (List ℕ)) → OfEachPlainScript KeepsToWork words left
source_keeps_to_work = of_each_plain KeepsToWork texts_keep_to_work

pub source_repeats_after_losses : (words : List (List ℕ)) (left : Option (List ℕ)) → OfEachPlainScript RepeatAfterLosses words left
source_repeats_after_losses = of_each_plain RepeatAfterLosses texts_repeat_after_losses

pub source_keeps_translators : (words : List (List ℕ)) (left : Option (List ℕ)) → OfEachPlainScript KeepsTranslators words left
source_keeps_translators = of_each_plain KeepsTranslators texts_keep_translators

pub source_does_what_is_due_at_begin : (words : List (List ℕ)) (left : Option (List ℕ)) → OfEachPlainScript DueAtBeginIsDone words left
source_does_what_is_due_at_begin = of_each_plain DueAtBeginIsDone texts_do_what_is_due_at_begin

pub source_does_slots_at_begin : (words : List (List ℕ)) (left : Option (List ℕ)) → OfEachPlainScript SlotsAtBeginAreDone words left
source_does_slots_at_begin = of_each_plain SlotsAtBeginAreDone texts_do_slots_at_begin

pub source_makes_splits : (words : List (List ℕ)) (left : Option (List ℕ)) → OfEachPlainScript KeepsSplits words left
source_makes_splits = of_each_plain KeepsSplits texts_make_splits

pub source_takes_results : (words : List (List ℕ)) (left : Option (List ℕ)) → OfEachPlainScript KeepsAnswers words left
source_takes_results = of_each_plain KeepsAnswers texts_take_results

pub source_goes_on_with_splits : (words : List (List ℕ)) (left : Option (List ℕ)) → OfEachPlainScript KeepsSplitFrames words left
source_goes_on_with_splits = of_each_plain KeepsSplitFrames texts_keep_split_frames

pub source_serves_sitds : (words : List (List ℕ)) (left : Option (List ℕ)) → OfEachPlainScript SitdsAreServed words left
source_serves_sitds = of_each_plain SitdsAreServed texts_serve_sitds

pub source_serves_sitds_at_begin : (words : List (List ℕ)) (left : Option (List ℕ)) → OfEachPlainScript SitdsAtBeginAreServed words left
source_serves_sitds_at_begin = of_each_plain SitdsAtBeginAreServed texts_serve_sitds_at_begin
