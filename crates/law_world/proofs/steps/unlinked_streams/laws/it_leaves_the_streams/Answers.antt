use Rattle.law_world.proofs.lemmas.steps.lemmas.unlinked_streams.Streams.{unlink_leaves_pipes, unlink_leaves_out_pipes, unlink_leaves_reports, unlink_leaves_sent}
use Rattle.law_world.proofs.steps.unlinked_streams.laws.it_leaves_the_streams.Goals as goal

pub returns : goal.returns
returns g c = record { pipes = unlink_leaves_pipes; outs = unlink_leaves_out_pipes; reports = unlink_leaves_reports; sent = unlink_leaves_sent }
