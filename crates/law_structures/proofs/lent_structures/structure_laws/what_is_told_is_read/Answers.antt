use Rattle.law_structures.proofs.lemmas.lent_structures.Reading.{head_read, head_not_refused, element_read, element_not_refused, itd_read_there, itd_not_refused, sitd_read_there, sitd_not_refused, bytes_part, bytes_reached}
use Rattle.law_structures.proofs.lent_structures.structure_laws.what_is_told_is_read.Goals as goal

pub returns : goal.returns
returns c = record {
  queue_head = λ m parts n a q t here. (head_read m parts n a q t here, head_not_refused m parts n a q t here);
  element = λ m parts n a d t here. (element_read m parts n a d t here, element_not_refused m parts n a d t here);
  isochronous = λ m parts n a v t here. (itd_read_there m parts n a v t here, itd_not_refused m parts n a v t here);
  split = λ m parts n a v t here. (sitd_read_there m parts n a v t here, sitd_not_refused m parts n a v t here);
  bytes = λ m parts n a pages k bs j count t here within. (bytes_part m parts n a pages k bs j count t here within, bytes_reached m parts n a pages k bs j count t here within);
}
