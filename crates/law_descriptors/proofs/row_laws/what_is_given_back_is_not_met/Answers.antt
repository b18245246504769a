use Rattle.law_descriptors.proofs.Returning.{descriptors_are_unmet}
use Rattle.law_descriptors.proofs.Waiting.{waiting_are_unmet}
use Rattle.law_descriptors.proofs.row_laws.what_is_given_back_is_not_met.Goals as goal

pub returns : goal.returns
returns c = record { descriptor = descriptors_are_unmet; waiting = waiting_are_unmet }
