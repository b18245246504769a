use Rattle.std.proofs.Common.{refl}
use Rattle.law_descriptors.proofs.PartSampled.{described}
use Rattle.law_descriptors.proofs.part_worked.an_itd_is_described.Goals as goal

pub returns : goal.returns
returns c = record { described = described; itd = refl; buffer = refl; queue = refl; nothing = refl }
