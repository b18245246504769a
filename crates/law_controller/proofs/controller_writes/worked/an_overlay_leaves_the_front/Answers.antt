use Rattle.std.proofs.Common.{refl}
use Rattle.word_mem.specs.Views.{words_in, with_words_in}
use Rattle.qh_qtd.specs.Qtd.{qtd_words}
use Rattle.qh_qtd.specs.QueueHead.{qh_words}
use Rattle.law_controller.proofs.controller_writes.worked.an_overlay_leaves_the_front.Goals as goal

pub returns : goal.returns
unfolding words_in with_words_in qtd_words qh_words
returns c = record { front = refl; rest = refl }
