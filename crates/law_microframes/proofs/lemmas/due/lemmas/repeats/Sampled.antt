-- A keyboard's complete-split, event by event.
use Rattle.std.proofs.Common.{◌≡◌, refl}
use Rattle.word_mem.specs.Memory.{filled}
use Rattle.word_mem.specs.Views.{words_in, with_words_in}
use Rattle.word_mem.specs.Free.{lowest_run}
use Rattle.link_words.specs.Links.{link_word, qtd_link_word, link_read, qtd_link_read}
use Rattle.link_words.specs.Layout.{first_bad_bit}
use Rattle.drv_chains.specs.Chains.{word_after, before_the, behind_the, predecessors}
use Rattle.drv_chains.specs.Order.{frames}
use Rattle.qh_qtd.specs.Token.{token_word, token_at}
use Rattle.qh_qtd.specs.Qtd.{qtd_words, qtd_read, qtd_bad, qtd_at}
use Rattle.qh_qtd.specs.QueueHead.{qh_words, qh_read, qh_bad, qh_at}
use Rattle.mem_runs.specs.Book.{lend_runs, store_words}
use Rattle.hc_masks.specs.Masks.{lacks}
use Rattle.mem_bytes.specs.Bytes.{stored, put_bytes, put_byte, places, words_from, all_reached, reached}
use Rattle.hc_copy.specs.Overlay.{settled_queue, moved}
use Rattle.hc_copy.specs.WriteBack.{written_back, raised, overlay_after}
use Rattle.hc_interrupt.specs.Copies.{with_split, missed_queue}
use Rattle.bus_wire.specs.Bus.{fixed_of}
use Rattle.bus_world.specs.Orders.{ticks}
use Rattle.claims_world.specs.Carried.{carried_from}
use Rattle.law_world.specs.memory.Samples.{keyboard_and_disk}
use Rattle.law_microframes.specs.due.repeats.Samples.{waiting, answer_lost, lost_in, again_in, without_hub}

pub made_once : (lost_in (fixed_of keyboard_and_disk) waiting 5 ≡ 0) × (again_in (fixed_of keyboard_and_disk) waiting 5 ≡ 0)
unfolding ticks carried_from lowest_run filled with_words_in store_words lend_runs qh_words qtd_words token_word token_at link_word
    qtd_link_word
    predecessors frames word_after before_the behind_the link_read qtd_link_read qh_read qh_bad qh_at
    first_bad_bit words_in lacks with_split settled_queue moved missed_queue written_back raised overlay_after
    qtd_read qtd_bad qtd_at stored put_bytes put_byte places words_from all_reached reached
made_once = (refl, refl)

pub lost_once :
    (lost_in answer_lost waiting 2 ≡ 0)
    × (lost_in answer_lost waiting 3 ≡ 1)
    × (again_in answer_lost waiting 4 ≡ 0)
    × (again_in answer_lost waiting 5 ≡ 1081911)
unfolding ticks carried_from lowest_run filled with_words_in store_words lend_runs qh_words qtd_words token_word token_at link_word
    qtd_link_word
    predecessors frames word_after before_the behind_the link_read qtd_link_read qh_read qh_bad qh_at
    first_bad_bit words_in lacks with_split settled_queue moved missed_queue written_back raised overlay_after
    qtd_read qtd_bad qtd_at stored put_bytes put_byte places words_from all_reached reached
lost_once = (refl, refl, refl, refl)

pub nobody : (lost_in (fixed_of keyboard_and_disk) without_hub 5 ≡ 0) × (again_in (fixed_of keyboard_and_disk) without_hub 5 ≡ 1081911)
unfolding ticks carried_from lowest_run filled with_words_in store_words lend_runs qh_words qtd_words token_word token_at link_word
    qtd_link_word
    predecessors frames word_after before_the behind_the link_read qtd_link_read qh_read qh_bad qh_at
    first_bad_bit words_in lacks with_split settled_queue moved missed_queue written_back raised overlay_after
    qtd_read qtd_bad qtd_at stored put_bytes put_byte places words_from all_reached reached
nobody = (refl, refl)
