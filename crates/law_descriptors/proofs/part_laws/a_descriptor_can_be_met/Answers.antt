use Rattle.law_descriptors.proofs.Rings.{itd_can_be_met, sitd_can_be_met}
use Rattle.law_descriptors.proofs.part_laws.a_descriptor_can_be_met.Goals as goal

pub returns : goal.returns
returns c = record { itd = itd_can_be_met; sitd = sitd_can_be_met }
