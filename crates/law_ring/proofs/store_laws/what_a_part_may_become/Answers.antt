use Rattle.law_ring.proofs.Parting.{member_stored, member_element_added, member_buffer_added, member_element_gone, member_buffer_gone}
use Rattle.law_ring.proofs.store_laws.what_a_part_may_become.Goals as goal

pub returns : goal.returns
returns c = record {
  change = member_stored;
  element = member_element_added;
  buffer = member_buffer_added;
  element_gone = member_element_gone;
  buffer_gone = member_buffer_gone;
}
