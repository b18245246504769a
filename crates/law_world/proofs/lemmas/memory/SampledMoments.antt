-- The moments of the script with a keyboard and a disk.
use Rattle.std.proofs.Common.{◌≡◌, Some, None, [], ◌∷◌, refl}
use Rattle.word_mem.specs.Memory.{filled, word_at}
use Rattle.word_mem.specs.Views.{words_in, with_words_in}
use Rattle.word_mem.specs.Free.{lowest_run}
use Rattle.link_words.specs.Links.{link_word, qtd_link_word, link_read}
use Rattle.link_words.specs.Layout.{first_bad_bit}
use Rattle.link_words.specs.declared.kinds.Link.TheVariants as links
use Rattle.drv_chains.specs.Chains.{word_after, before_the, behind_the, predecessors}
use Rattle.drv_chains.specs.Order.{frames}
use Rattle.qh_qtd.specs.Token.{token_word, token_at}
use Rattle.qh_qtd.specs.Qtd.{qtd_words}
use Rattle.qh_qtd.specs.QueueHead.{qh_words, qh_read, qh_bad, qh_at}
use Rattle.mem_runs.specs.Book.{lend_runs, store_words}
use Rattle.drv_table.specs.declared.content.Command.TheVariants as unfinished
use Rattle.drv_table.specs.declared.rows.DriverRow.TheVariants as rows
use Rattle.periodic_walk.specs.Walk.{held_address}
use Rattle.bus_world.specs.Orders.{ticks}
use Rattle.claims_world.specs.Memory.{ring_blocks}
use Rattle.law_world.specs.memory.Samples.{typed_at, typed_row}

pub a_queue_head :
    ((typed_at 0).driver.command ≡ Some unfinished.Chain)
    × (typed_row 0 ≡ rows.Lend)
    × (typed_row 1 ≡ rows.Store 0 0 4162)
    × (word_at (typed_at 1).memory 0 ≡ 1)
    × (word_at (typed_at 2).memory 0 ≡ 4162)
    × (typed_row 2 ≡ rows.Store 0 2048 4162)
    × ((typed_at 9).driver.command ≡ None)
    × (word_at (typed_at 9).memory 3584 ≡ 4162)
unfolding ticks lowest_run filled with_words_in store_words lend_runs qh_words qtd_words token_word link_word qtd_link_word predecessors frames word_after before_the behind_the
a_queue_head = (refl, refl, refl, refl, refl, refl, refl, refl)

pub a_second :
    ((typed_at 11).driver.command ≡ Some (unfinished.Open 133))
    × (ring_blocks (typed_at 11).driver ≡ [])
    × (typed_row 12 ≡ rows.Store 128 4096 4258)
    × (ring_blocks (typed_at 13).driver ≡ 133 ∷ [])
    × (word_at (typed_at 13).memory 4096 ≡ 4258)
    × (word_at (typed_at 13).memory 4256 ≡ 4098)
unfolding ticks lowest_run filled with_words_in store_words lend_runs qh_words qtd_words token_word link_word qtd_link_word predecessors frames word_after before_the behind_the
a_second = (refl, refl, refl, refl, refl, refl)

pub a_get :
    (typed_row 15 ≡ rows.Lend)
    × (typed_row 23 ≡ rows.Store 132 4232 560512)
    × ((typed_at 24).driver.command ≡ None)
    × (word_at (typed_at 24).memory 4232 ≡ 560512)
    × (ring_blocks (typed_at 24).driver ≡ 133 ∷ [])
    × (word_at (typed_at 24).memory 0 ≡ 4162)
unfolding ticks lowest_run filled with_words_in store_words lend_runs qh_words qtd_words token_word link_word qtd_link_word predecessors frames word_after before_the behind_the
a_get = (refl, refl, refl, refl, refl, refl)

pub a_visit :
    ((typed_at 26).registers.frame_index ≡ 1)
    × ((typed_at 26).control.frame.cursor ≡ links.Qh 4160)
    × (held_address (typed_at 28).control.frame.hand ≡ Some 4160)
    × (held_address (typed_at 30).control.frame.hand ≡ None)
    × ((typed_at 30).control.frame.cursor ≡ links.End)
unfolding ticks lowest_run filled with_words_in store_words lend_runs qh_words qtd_words token_word token_at link_word qtd_link_word predecessors frames word_after before_the behind_the link_read qh_read qh_bad qh_at first_bad_bit words_in
a_visit = (refl, refl, refl, refl, refl)
