use Rattle.law_reports.proofs.lemmas.pipes.lemmas.high_streams.Joining.{piped_ins_begin, piped_outs_begin}
use Rattle.law_reports.proofs.pipes.keeping.piped_worlds_have_high_streams.Goals as goal

pub returns-clause-ins : goal.returns-clause-ins
returns-clause-ins c = piped_ins_begin

pub returns-clause-outs : goal.returns-clause-outs
returns-clause-outs c = piped_outs_begin
