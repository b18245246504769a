use Rattle.law_descriptors.proofs.Coming.{waiting_are_lent, waiting_comes, waiting_members_come}
use Rattle.law_descriptors.proofs.coming_laws.waiting_descriptors_may_come.Goals as goal

pub returns : goal.returns
returns c = record { lent = waiting_are_lent; comes = waiting_comes; members = waiting_members_come }
