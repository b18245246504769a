use Rattle.law_reports.proofs.lemmas.pipes.lemmas.puts.PaidMoments.{texts_send_high_outs, texts_end_high_streams}
use Rattle.law_reports.proofs.lemmas.pipes.lemmas.puts.PaidMoments.{texts_keep_all_high_streams}
use Rattle.law_reports.proofs.pipes.what_was_put.all_streams_at_high_speed_are_right.Goals as goal

pub returns-clause-sent : goal.returns-clause-sent
returns-clause-sent c = texts_send_high_outs

pub returns-clause-end : goal.returns-clause-end
returns-clause-end c = texts_end_high_streams

pub returns-clause-after : goal.returns-clause-after
returns-clause-after c = texts_keep_all_high_streams
