use Rattle.law_world.proofs.lemmas.steps.Opening.{out_pipes_with_another, outs_with_another, untaken_with_another}
use Rattle.law_world.proofs.steps.row_laws.an_open_leaves_out_streams.Goals as goal

pub returns : goal.returns
returns g c = record { pipes = out_pipes_with_another; streams = outs_with_another; others = untaken_with_another }
