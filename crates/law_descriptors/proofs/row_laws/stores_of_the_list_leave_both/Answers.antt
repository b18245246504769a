use Rattle.law_descriptors.proofs.Storing.{element_store_meets, link_store_meets}
use Rattle.law_descriptors.proofs.row_laws.stores_of_the_list_leave_both.Goals as goal

pub returns : goal.returns
returns c = record { element = element_store_meets; link = link_store_meets }
