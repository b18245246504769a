use Rattle.law_descriptors.proofs.Telling.{both_are_told, each_is_told}
use Rattle.law_descriptors.proofs.part_laws.memory_is_told_by_both.Goals as goal

pub returns : goal.returns
returns c = record { both = both_are_told; each = each_is_told }
