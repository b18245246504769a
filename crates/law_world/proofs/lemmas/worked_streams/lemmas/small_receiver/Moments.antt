-- What the drivers of the small scripts have to do at their moments.
use Rattle.std.proofs.Common.{◌≡◌, true, false, [], ◌∷◌, ◌++◌, map, replicate, Some, None, refl}
use Rattle.word_mem.specs.Memory.{filled, word_at}
use Rattle.word_mem.specs.declared.blocks.BlockState.TheVariants.{Free, Lent}
use Rattle.word_mem.specs.Views.{words_in, with_words_in}
use Rattle.word_mem.specs.Free.{lowest_run}
use Rattle.link_words.specs.Layout.{first_bad_bit}
use Rattle.link_words.specs.Links.{link_read, qtd_link_read, link_word, qtd_link_word}
use Rattle.mem_bytes.specs.Bytes.{words_from, put_byte, places, bytes_at, put_bytes, reached, all_reached, stored, loaded}
use Rattle.qh_qtd.specs.Token.{token_word, token_at}
use Rattle.qh_qtd.specs.Qtd.{qtd_words, qtd_bad, qtd_at, qtd_read}
use Rattle.qh_qtd.specs.QueueHead.{qh_words, qh_bad, qh_at, qh_read}
use Rattle.usb_base.specs.declared.reports.What.TheVariants as kinds
use Rattle.mem_runs.specs.Book.{lend_runs, store_words}
use Rattle.hc_copy.specs.Overlay.{advanced, settled_queue, moved}
use Rattle.hc_copy.specs.WriteBack.{overlay_after, written_back, raised}
use Rattle.async_walk.specs.Naks.{reloaded, counted_queue}
use Rattle.drv_table.specs.declared.content.Command.TheVariants as unfinished
use Rattle.drv_table.specs.declared.rows.DriverRow.TheVariants as rows
use Rattle.drv_table.specs.declared.rows.Found.TheVariants as results
use Rattle.drv_table.specs.Harvests.{buffer_bytes, moved_bytes, bytes_now}
use Rattle.drv_table.specs.Rows.{driver_row}
use Rattle.drv_table.specs.Releases.{free_qtds, free_transfers, cancelled_bytes}
use Rattle.bus_world.specs.World.{driver_parts}
use Rattle.bus_world.specs.Orders.{ticks}
use Rattle.bus_world.specs.Budgets.{moment}
use Rattle.endpoint_script.specs.Device.{taken_of}
use Rattle.bus_wire.specs.Bus.{fixed_of}
use Rattle.claims_report.specs.Reports.{taken}
use Rattle.claims_report.specs.Streams.{told, stream}
use Rattle.claims_world.specs.Streams.{report_of}
use Rattle.law_world.specs.worked_streams.small_receiver.Samples.{desc, words, world_at, row_at, over, sink, one_put, put_words, put_at, put_row, lossy_put, lossy_at, one_cancel, cancel_at, cancel_row}

pub an_open :
    ((world_at 1).driver.command ≡ Some (unfinished.Open 130))
    × ((world_at 1).driver.made ≡ 0)
    × (row_at 1 ≡ rows.Lend)
    × ((world_at 2).driver.command ≡ Some (unfinished.Open 130))
    × ((world_at 2).driver.made ≡ 1)
    × (row_at 2 ≡ rows.Store 128 4096 4162)
    × ((world_at 3).driver.command ≡ None)
unfolding ticks lowest_run filled with_words_in store_words lend_runs qh_words qtd_words
an_open = (refl, refl, refl, refl, refl, refl, refl)

pub a_get :
    ((world_at 5).driver.command ≡ Some (unfinished.Publish 132 words))
    × ((world_at 5).driver.made ≡ 0)
    × ((world_at 5).driver.book.taken ≡ 133 ∷ 134 ∷ [])
    × (row_at 5 ≡ rows.Lend)
    × ((world_at 6).driver.command ≡ Some (unfinished.Publish 132 words))
    × ((world_at 6).driver.made ≡ 1)
    × (row_at 6 ≡ rows.Store 132 4224 4256)
    × (row_at 13 ≡ rows.Store 132 4232 101760)
    × ((world_at 14).driver.command ≡ None)
unfolding ticks lowest_run filled with_words_in store_words lend_runs qh_words qtd_words
a_get = (refl, refl, refl, refl, refl, refl, refl, refl, refl)

pub its_end :
    (row_at 28 ≡ rows.Harvest 0 0 (results.Ended 1 kinds.Done))
    × ((world_at 29).driver.reports ≡ record { name = desc.name; what = kinds.Done; from = 0; len = 1 } ∷ [])
    × ((world_at 29).driver.store ≡ 5 ∷ [])
    × (row_at 30 ≡ rows.ReleaseTransfer 0)
    × (row_at 31 ≡ rows.Rest)
unfolding ticks lowest_run filled words_in with_words_in store_words lend_runs first_bad_bit link_read qtd_link_read link_word qtd_link_word token_word token_at qtd_words qtd_bad qtd_at qtd_read qh_words qh_bad qh_at qh_read words_from put_byte places bytes_at put_bytes reached all_reached stored loaded advanced settled_queue moved overlay_after written_back raised reloaded counted_queue buffer_bytes moved_bytes bytes_now free_qtds free_transfers
its_end = (refl, refl, refl, refl, refl)

pub two :
    (over.orders ≡ [])
    × (over.world.driver.reports ≡ record { name = desc.name; what = kinds.Done; from = 0; len = 1 } ∷ record { name = desc.name; what = kinds.Done; from = 1; len = 1 } ∷ [])
    × (over.world.driver.store ≡ 5 ∷ 7 ∷ [])
    × (over.world.memory.states ≡ replicate 133 Lent ++ replicate 123 Free)
    × (driver_row (driver_parts over.world) ≡ rows.Rest)
unfolding ticks lowest_run filled words_in with_words_in store_words lend_runs first_bad_bit link_read qtd_link_read link_word qtd_link_word token_word token_at qtd_words qtd_bad qtd_at qtd_read qh_words qh_bad qh_at qh_read words_from put_byte places bytes_at put_bytes reached all_reached stored loaded advanced settled_queue moved overlay_after written_back raised reloaded counted_queue buffer_bytes moved_bytes bytes_now free_qtds free_transfers
two = (refl, refl, refl, refl, refl)

pub put_open :
    ((put_at 1).driver.command ≡ Some (unfinished.Open 130))
    × ((put_at 1).driver.made ≡ 0)
    × ((put_at 2).driver.command ≡ Some (unfinished.Open 130))
    × ((put_at 2).driver.made ≡ 1)
unfolding ticks lowest_run filled with_words_in store_words lend_runs qh_words qtd_words
put_open = (refl, refl, refl, refl)

pub a_put :
    ((put_at 5).driver.command ≡ Some (unfinished.Publish 132 put_words))
    × ((put_at 5).driver.made ≡ 0)
    × ((put_at 5).driver.book.taken ≡ 133 ∷ 134 ∷ [])
    × (word_at (put_at 5).memory 4288 ≡ 3339)
    × (put_row 5 ≡ rows.Lend)
    × ((put_at 6).driver.command ≡ Some (unfinished.Publish 132 put_words))
    × ((put_at 6).driver.made ≡ 1)
    × (put_row 13 ≡ rows.Store 132 4232 167040)
    × ((put_at 14).driver.command ≡ None)
unfolding ticks lowest_run filled words_in with_words_in store_words lend_runs first_bad_bit link_read qtd_link_read link_word qtd_link_word token_word token_at qtd_words qtd_bad qtd_at qtd_read qh_words qh_bad qh_at qh_read words_from put_byte places bytes_at put_bytes reached all_reached stored loaded advanced settled_queue moved overlay_after written_back raised reloaded counted_queue buffer_bytes moved_bytes bytes_now free_qtds free_transfers
a_put = (refl, refl, refl, refl, refl, refl, refl, refl, refl)

pub is_sent :
    (put_row 28 ≡ rows.Harvest 0 0 (results.Ended 2 kinds.Done))
    × ((put_at 29).driver.reports ≡ record { name = sink.name; what = kinds.Done; from = 0; len = 2 } ∷ [])
    × ((put_at 29).driver.store ≡ 11 ∷ 13 ∷ [])
    × (put_row 30 ≡ rows.ReleaseTransfer 0)
    × (put_row 31 ≡ rows.Rest)
    × ((moment one_put 200).orders ≡ [])
    × (map (λ d. taken_of d sink.name) (put_at 200).bus.devices ≡ (11 ∷ 13 ∷ []) ∷ [])
    × ((put_at 200).memory.states ≡ replicate 132 Lent ++ Free ∷ Lent ∷ replicate 122 Free)
unfolding ticks lowest_run filled words_in with_words_in store_words lend_runs first_bad_bit link_read qtd_link_read link_word qtd_link_word token_word token_at qtd_words qtd_bad qtd_at qtd_read qh_words qh_bad qh_at qh_read words_from put_byte places bytes_at put_bytes reached all_reached stored loaded advanced settled_queue moved overlay_after written_back raised reloaded counted_queue buffer_bytes moved_bytes bytes_now free_qtds free_transfers
is_sent = (refl, refl, refl, refl, refl, refl, refl, refl)

pub is_sent_again :
    ((moment lossy_put 300).orders ≡ [])
    × ((lossy_at 300).driver.reports ≡ record { name = sink.name; what = kinds.Done; from = 0; len = 3 } ∷ [])
    × ((lossy_at 300).driver.store ≡ 11 ∷ 13 ∷ 17 ∷ [])
    × (map (λ d. taken_of d sink.name) (lossy_at 300).bus.devices ≡ (11 ∷ 13 ∷ 17 ∷ []) ∷ [])
    × (told (report_of (fixed_of lossy_put) (lossy_at 300)) sink.name ≡ 11 ∷ 13 ∷ 17 ∷ [])
    × (taken (report_of (fixed_of lossy_put) (lossy_at 300)) sink.name ≡ Some (11 ∷ 13 ∷ 17 ∷ []))
    × (stream lossy_put (report_of (fixed_of lossy_put) (lossy_at 300)) sink.name ≡ 11 ∷ 13 ∷ 17 ∷ [])
unfolding ticks lowest_run filled words_in with_words_in store_words lend_runs first_bad_bit link_read qtd_link_read link_word qtd_link_word token_word token_at qtd_words qtd_bad qtd_at qtd_read qh_words qh_bad qh_at qh_read words_from put_byte places bytes_at put_bytes reached all_reached stored loaded advanced settled_queue moved overlay_after written_back raised reloaded counted_queue buffer_bytes moved_bytes bytes_now free_qtds free_transfers
is_sent_again = (refl, refl, refl, refl, refl, refl, refl)

pub leaves :
    ((cancel_at 23).driver.command ≡ Some (unfinished.Unlink 0 128 4098))
    × (cancel_row 23 ≡ rows.Store 128 4096 4098)
    × ((cancel_at 24).driver.command ≡ None)
    × ((cancel_at 24).driver.waiting ≡ 0 ∷ [])
    × (cancel_row 24 ≡ rows.RingBell)
    × ((cancel_at 25).driver.rung ≡ 0 ∷ [])
unfolding ticks lowest_run filled words_in with_words_in store_words lend_runs first_bad_bit link_read qtd_link_read link_word qtd_link_word token_word token_at qtd_words qtd_bad qtd_at qtd_read qh_words qh_bad qh_at qh_read words_from put_byte places bytes_at put_bytes reached all_reached stored loaded advanced settled_queue moved overlay_after written_back raised reloaded counted_queue buffer_bytes moved_bytes bytes_now free_qtds free_transfers
leaves = (refl, refl, refl, refl, refl, refl)

pub is_released :
    (cancel_row 27 ≡ rows.ReadStatus false)
    × (cancel_row 29 ≡ rows.ReadStatus true)
    × (cancel_row 31 ≡ rows.ClearAdvance)
    × ((cancel_at 32).driver.cleared ≡ 0 ∷ [])
    × (cancel_row 33 ≡ rows.ReleaseEndpoint 0)
    × (map (λ e. e.gone) (cancel_at 34).driver.endpoints ≡ true ∷ [])
    × ((cancel_at 34).driver.reports ≡ record { name = desc.name; what = kinds.Cancel; from = 0; len = 1 } ∷ [])
    × ((cancel_at 34).driver.store ≡ 5 ∷ [])
    × ((cancel_at 34).memory.states ≡ replicate 130 Lent ++ replicate 126 Free)
    × (cancel_row 34 ≡ rows.Rest)
    × ((moment one_cancel 37).orders ≡ [])
unfolding ticks lowest_run filled words_in with_words_in store_words lend_runs first_bad_bit link_read qtd_link_read link_word qtd_link_word token_word token_at qtd_words qtd_bad qtd_at qtd_read qh_words qh_bad qh_at qh_read words_from put_byte places bytes_at put_bytes reached all_reached stored loaded advanced settled_queue moved overlay_after written_back raised reloaded counted_queue buffer_bytes moved_bytes bytes_now free_qtds free_transfers cancelled_bytes
is_released = (refl, refl, refl, refl, refl, refl, refl, refl, refl, refl, refl)
