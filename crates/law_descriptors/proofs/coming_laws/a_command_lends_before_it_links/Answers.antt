use Rattle.law_descriptors.proofs.Coming.{descriptors_are_lent, linking_lends_nothing}
use Rattle.law_descriptors.proofs.coming_laws.a_command_lends_before_it_links.Goals as goal

pub returns : goal.returns
returns c = record { descriptors = descriptors_are_lent; command = linking_lends_nothing }
