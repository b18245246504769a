-- What the small script with a cancel tells before the release of its endpoint.
use Rattle.std.proofs.Common.{◌≡◌, ℕ, true, Some, refl, arith}
use Rattle.word_mem.specs.Memory.{filled}
use Rattle.word_mem.specs.Views.{words_in, with_words_in}
use Rattle.word_mem.specs.Free.{lowest_run}
use Rattle.link_words.specs.Layout.{first_bad_bit}
use Rattle.link_words.specs.Links.{link_read, qtd_link_read, link_word, qtd_link_word}
use Rattle.mem_bytes.specs.Bytes.{words_from, put_byte, places, bytes_at, put_bytes, reached, all_reached, stored, loaded}
use Rattle.qh_qtd.specs.Token.{token_word, token_at}
use Rattle.qh_qtd.specs.Qtd.{qtd_words, qtd_bad, qtd_at, qtd_read}
use Rattle.qh_qtd.specs.QueueHead.{qh_words, qh_bad, qh_at, qh_read}
use Rattle.mem_runs.specs.Book.{lend_runs, store_words}
use Rattle.hc_copy.specs.Overlay.{advanced, settled_queue, moved}
use Rattle.hc_copy.specs.WriteBack.{overlay_after, written_back, raised}
use Rattle.async_walk.specs.Naks.{reloaded, counted_queue}
use Rattle.drv_table.specs.Harvests.{buffer_bytes, moved_bytes, bytes_now}
use Rattle.drv_table.specs.Releases.{free_qtds, free_transfers, cancelled_bytes}
use Rattle.bus_world.specs.Orders.{ticks}
use Rattle.claims_world.specs.Releases.{HeardAdvance}
use Rattle.law_world.specs.worked_streams.small_receiver.Samples.{one_cancel}

pub heard : HeardAdvance one_cancel 0 33
unfolding ticks lowest_run filled words_in with_words_in store_words lend_runs first_bad_bit link_read qtd_link_read link_word qtd_link_word token_word token_at qtd_words qtd_bad qtd_at qtd_read qh_words qh_bad qh_at qh_read words_from put_byte places bytes_at put_bytes reached all_reached stored loaded advanced settled_queue moved overlay_after written_back raised reloaded counted_queue buffer_bytes moved_bytes bytes_now free_qtds free_transfers cancelled_bytes
heard = record {
  unlinking = 23;
  ringing = 24;
  reading = 29;
  left = record { before = _; after = _; here = refl; linked = refl; there = refl; unlinked = refl };
  rang = record { turn = refl; row_is = refl };
  heard = record { turn = refl; row_is = refl };
  one = omega arith;
  two = omega arith;
  three = omega arith;
}

-- three events come before it
pub none_so_early : (e : ℕ) → HeardAdvance one_cancel e 2 → ⊥
none_so_early e h =
    let one = h.one in
    let two = h.two in
    let three = h.three in
    omega (arith, one, two, three)
