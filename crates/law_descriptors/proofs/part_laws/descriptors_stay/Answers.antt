use Rattle.law_descriptors.proofs.Stays.{described_stay, described_follow}
use Rattle.law_descriptors.proofs.part_laws.descriptors_stay.Goals as goal

pub returns : goal.returns
returns c = record { stay = described_stay; follow = described_follow }
