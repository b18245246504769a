use Rattle.law_reports.proofs.lemmas.pipes.lemmas.below_hubs.InwardMoments.{controller_keeps_inward, driver_keeps_inward}
use Rattle.law_reports.proofs.lemmas.pipes.lemmas.below_hubs.InwardMoments.{command_keeps_inward}
use Rattle.law_reports.proofs.lemmas.pipes.lemmas.below_hubs.SparedHubs.{spared_hubs_keep_keys}
use Rattle.law_reports.proofs.pipes.below_hubs.an_event_keeps_ins_below.Goals as goal

pub returns : goal.returns
returns c = record {
  spared = spared_hubs_keep_keys;
  controller = controller_keeps_inward;
  driver = driver_keeps_inward;
  command = command_keeps_inward;
}
