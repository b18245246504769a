use Rattle.law_reports.proofs.lemmas.quiet.Sampled.{no_disk_misses}
use Rattle.law_reports.proofs.quiet.a_disk_never_misses.Goals as goal

pub returns : goal.returns
returns c = no_disk_misses
