use Rattle.law_world.proofs.lemmas.steps.Returning.{return_pipes, return_streams}
use Rattle.law_world.proofs.steps.row_laws.a_return_leaves_out_streams.Goals as goal

pub returns : goal.returns
returns g c = record { pipes = return_pipes; streams = return_streams }
