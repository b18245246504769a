use Rattle.law_reports.proofs.lemmas.pipes.lemmas.high_streams.AfterRuns.{texts_keep_high_streams}
use Rattle.law_reports.proofs.lemmas.pipes.lemmas.high_streams.Joining.{piped_keep_high, texts_keep_high}
use Rattle.law_reports.proofs.pipes.keeping.each_script_keeps_its_high_streams.Goals as goal

pub returns-clause-piped : goal.returns-clause-piped
returns-clause-piped c = piped_keep_high

pub returns-clause-texts : goal.returns-clause-texts
returns-clause-texts c = texts_keep_high

pub returns-clause-after : goal.returns-clause-after
returns-clause-after c = texts_keep_high_streams
