use Rattle.law_reports.proofs.lemmas.queues.Copies.{mixed_copies_come_to_work, texts_keep_copies_at_work, texts_keep_to_work}
use Rattle.law_reports.proofs.queues.onward.a_copy_in_hand_has_work.Goals as goal

pub returns-clause-worlds : goal.returns-clause-worlds
returns-clause-worlds c = mixed_copies_come_to_work

pub returns-clause-texts : goal.returns-clause-texts
returns-clause-texts c = texts_keep_copies_at_work

pub returns-clause-both : goal.returns-clause-both
returns-clause-both c = texts_keep_to_work
