-- What is reached in the run with the keyboard and the disk.
use Rattle.std.proofs.Common.{◌≡◌, Some, None, [], ◌∷◌, refl, arith}
use Rattle.word_mem.specs.Memory.{filled}
use Rattle.word_mem.specs.Views.{words_in, words_at, with_words_in}
use Rattle.word_mem.specs.Free.{lowest_run}
use Rattle.link_words.specs.Links.{link_word, qtd_link_word, link_read}
use Rattle.link_words.specs.Layout.{first_bad_bit}
use Rattle.drv_chains.specs.Chains.{word_after, before_the, behind_the, predecessors}
use Rattle.drv_chains.specs.Order.{frames}
use Rattle.qh_qtd.specs.Token.{token_word, token_at}
use Rattle.qh_qtd.specs.Qtd.{qtd_words}
use Rattle.qh_qtd.specs.QueueHead.{qh_words, qh_read, qh_bad, qh_at}
use Rattle.mem_runs.specs.Book.{lend_runs, store_words}
use Rattle.bus_world.specs.Orders.{ticks}
use Rattle.bus_world.specs.World.{controller_parts}
use Rattle.claims_world.specs.Reach.{Reaches, IsLentAt, TheList, QueueAt, QtdAt}
use Rattle.claims_world.specs.Reach as reach
use Rattle.law_world.specs.memory.Samples.{typed_at, unlent}

pub by_the_list : Reaches (controller_parts (typed_at 24)) (QueueAt 4160)
unfolding ticks lowest_run filled with_words_in store_words lend_runs qh_words qtd_words token_word link_word qtd_link_word predecessors frames word_after before_the behind_the link_read
by_the_list = reach.element 0 (QueueAt 4160) (omega arith) refl

pub by_the_queue : Reaches (controller_parts (typed_at 24)) (QtdAt 4224)
unfolding ticks lowest_run filled with_words_in store_words lend_runs qh_words qtd_words token_word token_at link_word qtd_link_word predecessors frames word_after before_the behind_the link_read qh_read qh_bad qh_at first_bad_bit words_in
by_the_queue = reach.of_queue 4160 (qh_at (words_at (typed_at 24).memory 4160 12)) (QtdAt 4224) by_the_list (reach.in_memory refl)
    (reach.taken refl refl refl)

pub over_no_block : Reaches (unlent (controller_parts (typed_at 24))) TheList ×
    (IsLentAt (unlent (controller_parts (typed_at 24))) TheList → ⊥)
over_no_block = (reach.list, λ lent. cc (lent 0 (omega arith)))
