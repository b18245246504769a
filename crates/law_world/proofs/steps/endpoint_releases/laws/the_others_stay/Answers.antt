use Rattle.law_world.proofs.lemmas.steps.lemmas.endpoint_releases.Beside.{queue_is_gone, pipes_stay, out_pipes_stay, outs_stay, reports_stay_beside}
use Rattle.law_world.proofs.steps.endpoint_releases.laws.the_others_stay.Goals as goal

pub returns : goal.returns
returns g c = record { gone = queue_is_gone; pipes = pipes_stay; outs = out_pipes_stay; streams = outs_stay; reports = reports_stay_beside }
