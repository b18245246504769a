use Rattle.law_reports.proofs.lemmas.answers.AddingSamples.{a_get_adds_its_bytes}
use Rattle.law_reports.proofs.answers.a_get_adds_its_bytes.Goals as goal

pub returns : goal.returns
returns c = a_get_adds_its_bytes
