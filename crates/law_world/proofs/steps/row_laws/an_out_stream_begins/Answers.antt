use Rattle.law_world.proofs.lemmas.steps.Opening.{out_pipes_with_one, outs_with_one, untaken_less_one}
use Rattle.law_world.proofs.steps.row_laws.an_out_stream_begins.Goals as goal

pub returns : goal.returns
returns g c = record { pipes = out_pipes_with_one; streams = outs_with_one; others = untaken_less_one }
