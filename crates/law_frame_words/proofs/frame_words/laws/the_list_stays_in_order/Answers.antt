use Rattle.law_frame_words.proofs.lemmas.frame_words.Order.{empty_in_order, insert_in_order, remove_in_order, store_in_order}
use Rattle.law_frame_words.proofs.frame_words.laws.the_list_stays_in_order.Goals as goal

pub returns-clause-empty : goal.returns-clause-empty
returns-clause-empty c = empty_in_order

pub returns-clause-insert : goal.returns-clause-insert
returns-clause-insert c = insert_in_order

pub returns-clause-remove : goal.returns-clause-remove
returns-clause-remove c = remove_in_order

pub returns-clause-store : goal.returns-clause-store
returns-clause-store c = store_in_order
