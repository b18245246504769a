use Rattle.law_frame_words.proofs.lemmas.frame_words.Opening.{opened_last, newest_first}
use Rattle.law_frame_words.proofs.frame_words.laws.members_come_in_order.Goals as goal

pub returns-clause-queues : goal.returns-clause-queues
returns-clause-queues c = opened_last

pub returns-clause-descriptors : goal.returns-clause-descriptors
returns-clause-descriptors c = newest_first
