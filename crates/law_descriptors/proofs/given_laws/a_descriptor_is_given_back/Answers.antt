use Rattle.law_descriptors.proofs.GivenBoth.{release_told, release_runs_both}
use Rattle.law_descriptors.proofs.given_laws.a_descriptor_is_given_back.Goals as goal

pub returns : goal.returns
returns c = record { told = release_told; both = release_runs_both }
