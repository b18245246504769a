use Rattle.law_reports.proofs.lemmas.pipes.lemmas.below_hubs.Steps.{step_keeps_out_behind, step_keeps_in_behind}
use Rattle.law_reports.proofs.pipes.below_hubs.a_step_keeps_a_pipe_below.Goals as goal

pub returns : goal.returns
returns c = record { outward = step_keeps_out_behind; inward = step_keeps_in_behind }
