use Rattle.law_reports.proofs.lemmas.pipes.lemmas.below_hubs.InwardReporting.{texts_keep_ins, texts_keep_ins_below, texts_keep_timely_ins}
use Rattle.law_reports.proofs.lemmas.pipes.lemmas.below_hubs.InwardRuns.{texts_are_inward}
use Rattle.law_reports.proofs.lemmas.pipes.lemmas.below_hubs.InwardTexts.{texts_open_inlets}
use Rattle.law_reports.proofs.lemmas.pipes.lemmas.below_hubs.LateRuns.{texts_miss_late}
use Rattle.law_reports.proofs.pipes.below_hubs.each_moment_has_ins_below.Goals as goal

pub returns : goal.returns
returns c = record {
  opening = texts_open_inlets;
  standing = texts_are_inward;
  streams = texts_keep_ins_below;
  timely = texts_keep_timely_ins;
  missed = texts_miss_late;
  always = texts_keep_ins;
}
