use Rattle.law_frame_words.proofs.lemmas.frame_words.Begins.{insert_stands, remove_stands}
use Rattle.law_frame_words.proofs.frame_words.laws.beginning_changes_no_word.Goals as goal

pub returns-clause-insert : goal.returns-clause-insert
returns-clause-insert c = insert_stands

pub returns-clause-remove : goal.returns-clause-remove
returns-clause-remove c = remove_stands
