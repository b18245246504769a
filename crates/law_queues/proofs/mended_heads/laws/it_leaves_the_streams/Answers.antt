use Rattle.law_queues.proofs.lemmas.mended_heads.Streams.{mend_leaves_out_pipe, mend_leaves_reports}
use Rattle.law_queues.proofs.lemmas.mended_heads.Queues.{leaves_pipes, mend_leaves_accounts, mend_spares_rest, mend_adds_none}
use Rattle.law_queues.proofs.mended_heads.laws.it_leaves_the_streams.Goals as goal

pub returns : goal.returns
returns g c = record { pipes = leaves_pipes; accounts = mend_leaves_accounts; rest = mend_spares_rest; elements = mend_adds_none; out = mend_leaves_out_pipe; reports = mend_leaves_reports }
