use Rattle.law_reports.proofs.lemmas.answers.AddingSamples.{no_bytes_added_is_wrong, nothing_added_is_wrong}
use Rattle.law_reports.proofs.answers.adding_is_broken_by_no_bytes_and_by_no_transfer.Goals as goal

pub returns : goal.returns
returns c = record { bytes = no_bytes_added_is_wrong; transfer = nothing_added_is_wrong }
