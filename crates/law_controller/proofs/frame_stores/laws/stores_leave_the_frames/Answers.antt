use Rattle.law_controller.proofs.lemmas.frame_stores.Linking.{link_store_leaves_frame, link_word_leaves_frame, stored_link_leads}
use Rattle.law_controller.proofs.lemmas.frame_stores.Framing.{table_store_leaves_frame}
use Rattle.law_controller.proofs.lemmas.frame_stores.Parting.{element_store_leaves_frame}
use Rattle.law_controller.proofs.frame_stores.laws.stores_leave_the_frames.Goals as goal

pub returns : goal.returns
returns c = record { link = link_store_leaves_frame; word = link_word_leaves_frame; leads = stored_link_leads; table = table_store_leaves_frame; element = element_store_leaves_frame }
