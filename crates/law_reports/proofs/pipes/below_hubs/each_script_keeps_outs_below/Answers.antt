use Rattle.law_reports.proofs.lemmas.pipes.lemmas.below_hubs.BelowKept.{texts_keep_below_streams, texts_keep_streams}
use Rattle.law_reports.proofs.pipes.below_hubs.each_script_keeps_outs_below.Goals as goal

pub returns : goal.returns
returns c = record { below = texts_keep_below_streams; streams = texts_keep_streams }
