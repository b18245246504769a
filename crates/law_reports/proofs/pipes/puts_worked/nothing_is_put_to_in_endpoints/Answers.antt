use Rattle.law_reports.proofs.lemmas.pipes.lemmas.puts.Sampled.{no_puts_begin}
use Rattle.law_reports.proofs.pipes.puts_worked.nothing_is_put_to_in_endpoints.Goals as goal

pub returns : goal.returns
returns c = no_puts_begin
