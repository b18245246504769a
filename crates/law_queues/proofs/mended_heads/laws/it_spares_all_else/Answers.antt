use Rattle.law_queues.proofs.lemmas.mended_heads.Row.{mend_spares_heads, mend_spares_endpoints, mend_spares_elements, mend_spares_hand, mend_leaves_halts}
use Rattle.law_queues.proofs.mended_heads.laws.it_spares_all_else.Goals as goal

pub returns : goal.returns
returns c = record { heads = mend_spares_heads; endpoints = mend_spares_endpoints; elements = mend_spares_elements; hand = mend_spares_hand; halts = mend_leaves_halts }
