use Rattle.law_reports.proofs.lemmas.pipes.lemmas.hub_setups.Moments.{hubs_hear_controls, lines_spare_hubs}
use Rattle.law_reports.proofs.pipes.hub_setups.a_hub_hears_only_its_lines.Goals as goal

pub returns : goal.returns
returns c = record { controls = hubs_hear_controls; spared = lines_spare_hubs }
