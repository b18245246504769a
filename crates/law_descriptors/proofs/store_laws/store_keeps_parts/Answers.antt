use Rattle.law_descriptors.proofs.ListRowsKeeping.{store_keeps_parts}
use Rattle.law_descriptors.proofs.store_laws.store_keeps_parts.Goals as goal

pub returns : goal.returns
returns c = store_keeps_parts
