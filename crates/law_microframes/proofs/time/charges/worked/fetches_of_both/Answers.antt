use Rattle.std.proofs.Common.{refl, arith}
use Rattle.word_mem.specs.Views.{words_in}
use Rattle.link_words.specs.Links.{link_read}
use Rattle.link_words.specs.Layout.{first_bad_bit}
use Rattle.qh_qtd.specs.Token.{token_at, token_word}
use Rattle.qh_qtd.specs.QueueHead.{qh_words, qh_read, qh_bad, qh_at}
use Rattle.itd_sitd.specs.Slot.{slot_at, slot_word}
use Rattle.itd_sitd.specs.Itd.{itd_read, itd_bad, itd_at, itd_words}
use Rattle.law_microframes.proofs.time.charges.worked.fetches_of_both.Goals as goal

pub returns-clause-head : goal.returns-clause-head
unfolding words_in link_read first_bad_bit qh_words qh_read qh_bad qh_at token_at token_word
returns-clause-head c = record {
  free = refl;
  row = refl;
  head = record { speed = refl; kind = refl; high = refl; max = refl; multi = refl; smask = refl };
  few = omega arith;
  pid = λ e. omega arith;
}

pub returns-clause-descriptor : goal.returns-clause-descriptor
unfolding words_in link_read first_bad_bit slot_at slot_word itd_read itd_bad itd_at itd_words
returns-clause-descriptor c = record {
  free = refl;
  row = refl;
  descriptor = record { speed = refl; kind = refl; max = refl };
  some = omega arith;
  multi = omega arith;
  placed = λ e. refl;
}
