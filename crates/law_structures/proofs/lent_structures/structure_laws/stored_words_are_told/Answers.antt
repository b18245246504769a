use Rattle.law_structures.proofs.lemmas.lent_structures.Writing.{word_put_queue, word_put_element, word_put_isochronous, word_put_split, word_put_table}
use Rattle.law_structures.proofs.lemmas.lent_structures.Lending.{told_kept_word}
use Rattle.law_structures.proofs.lent_structures.structure_laws.stored_words_are_told.Goals as goal

pub returns : goal.returns
returns c = record {
  queue_head = word_put_queue;
  element = word_put_element;
  isochronous = word_put_isochronous;
  split = word_put_split;
  table = word_put_table;
  kept = told_kept_word;
}
