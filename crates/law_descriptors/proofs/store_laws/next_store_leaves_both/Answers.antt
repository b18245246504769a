use Rattle.law_descriptors.proofs.ListRowsStoring.{next_store_leaves_both}
use Rattle.law_descriptors.proofs.store_laws.next_store_leaves_both.Goals as goal

pub returns : goal.returns
returns c = next_store_leaves_both
