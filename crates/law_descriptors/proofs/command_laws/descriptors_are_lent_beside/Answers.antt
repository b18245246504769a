use Rattle.law_descriptors.proofs.Lending.{lend_told}
use Rattle.law_descriptors.proofs.Both.{lend_runs_both}
use Rattle.law_descriptors.proofs.command_laws.descriptors_are_lent_beside.Goals as goal

pub returns : goal.returns
returns c = record { told = lend_told; both = lend_runs_both }
