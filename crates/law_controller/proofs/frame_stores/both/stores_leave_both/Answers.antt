use Rattle.law_controller.proofs.lemmas.frame_stores.Beside.{link_store_leaves_both, link_word_leaves_both, list_store_leaves_both, ring_store_leaves_both}
use Rattle.law_controller.proofs.lemmas.frame_stores.Parting.{element_store_leaves_both}
use Rattle.law_controller.proofs.frame_stores.both.stores_leave_both.Goals as goal

pub returns : goal.returns
returns c = record { link = link_store_leaves_both; word = link_word_leaves_both; list = list_store_leaves_both; element = element_store_leaves_both; ring = ring_store_leaves_both }
