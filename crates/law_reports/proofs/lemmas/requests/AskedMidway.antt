-- A control request that is cancelled once its data came in.
use Rattle.std.proofs.Common.{◌≡◌, ℕ, List, [], ◌∷◌, ◌++◌, take, ap, refl, ◌∙◌}
use Rattle.word_mem.specs.Memory.{filled}
use Rattle.word_mem.specs.Views.{words_in, with_words_in}
use Rattle.word_mem.specs.Free.{lowest_run}
use Rattle.link_words.specs.Layout.{first_bad_bit}
use Rattle.link_words.specs.Links.{link_read, qtd_link_read, link_word, qtd_link_word}
use Rattle.mem_bytes.specs.Bytes.{words_from, put_byte, places, bytes_at, put_bytes, reached, all_reached, stored, loaded}
use Rattle.qh_qtd.specs.Token.{token_word, token_at}
use Rattle.qh_qtd.specs.Qtd.{qtd_words, qtd_bad, qtd_at, qtd_read}
use Rattle.qh_qtd.specs.QueueHead.{qh_words, qh_bad, qh_at, qh_read}
use Rattle.usb_base.specs.declared.reports.What.TheVariants.{Cancel}
use Rattle.mem_runs.specs.Book.{lend_runs, store_words}
use Rattle.hc_copy.specs.Overlay.{advanced, settled_queue, moved}
use Rattle.hc_copy.specs.WriteBack.{overlay_after, written_back, raised}
use Rattle.async_walk.specs.Naks.{reloaded, counted_queue}
use Rattle.drv_table.specs.Harvests.{buffer_bytes, moved_bytes, bytes_now}
use Rattle.drv_table.specs.Releases.{free_qtds, free_transfers, cancelled_bytes}
use Rattle.bus_world.specs.Budgets.{moment}
use Rattle.bus_world.specs.Orders.{ticks}
use Rattle.claims_report.specs.Requests.{Window, data_of, AreTold}
use Rattle.claims_world.specs.Carried.{carried_from, carried}
use Rattle.claims_world.specs.Requests.{Windows, no_windows, after_event, asks_at, windows_of, windows_then, report_at}
use Rattle.law_devices.specs.declared_controls.Samples.{zero as control, reading}
use Rattle.law_reports.specs.requests.AskedSamples.{asked_midway, midway_lines, its_window}
use Rattle.law_reports.proofs.lemmas.requests.AskedSampled.{windows_carried}

abbrev midway_then : Windows → List Window
midway_then v = windows_of (moment asked_midway 100).world.driver (asks_at asked_midway 100) v 0

midway_windows : midway_then (carried after_event asked_midway no_windows 100) ≡ its_window (reading ∷ []) ∷ []
unfolding ticks carried_from asks_at lowest_run filled words_in with_words_in store_words lend_runs first_bad_bit link_read qtd_link_read
    link_word qtd_link_word token_word token_at qtd_words qtd_bad qtd_at qtd_read qh_words qh_bad qh_at qh_read words_from put_byte places
    bytes_at put_bytes reached all_reached stored loaded advanced settled_queue moved overlay_after written_back raised reloaded
    counted_queue buffer_bytes moved_bytes bytes_now free_qtds free_transfers cancelled_bytes
midway_windows = refl

pub window : windows_then asked_midway 100 0 ≡ its_window (reading ∷ []) ∷ []
window = ap midway_then (windows_carried asked_midway 100) ∙ midway_windows

pub told :
    ((moment asked_midway 100).orders ≡ [])
    × (midway_lines ≡ record { name = control.name; what = Cancel; from = 0; len = 2 } ∷ [])
    × ((report_at asked_midway 100).store ≡ 18 ∷ 1 ∷ [])
unfolding ticks lowest_run filled words_in with_words_in store_words lend_runs first_bad_bit link_read qtd_link_read link_word
    qtd_link_word token_word token_at qtd_words qtd_bad qtd_at qtd_read qh_words qh_bad qh_at qh_read words_from put_byte places bytes_at
    put_bytes reached all_reached stored loaded advanced settled_queue moved overlay_after written_back raised reloaded counted_queue
    buffer_bytes moved_bytes bytes_now free_qtds free_transfers cancelled_bytes
told = (refl, refl, refl)

pub begins : AreTold (data_of asked_midway control.name) (18 ∷ 1 ∷ []) (its_window (reading ∷ []) ∷ [])
    (record { name = control.name; what = Cancel; from = 0; len = 2 } ∷ [])
begins = ((18 ∷ 1 ∷ [], [], refl, ([], refl), refl), tt)

abbrev four : List ℕ
four = 4 ∷ []

no_four : four ≡ [] → ⊥
no_four is = cc

four_differs : four ≡ 18 ∷ [] → ⊥
four_differs is = cc

-- its data begin with an 18
other : (begun rest more : List ℕ) → four ≡ begun ++ rest → begun ++ more ≡ 18 ∷ 1 ∷ [] → rest ≡ [] → ⊥
other [] rest more is all none = no_four (is ∙ none)
other (b ∷ bs) rest more is all none = four_differs (ap (take 1) is ∙ ap (take 1) all)

pub wrong : AreTold (data_of asked_midway control.name) (4 ∷ []) (its_window (reading ∷ []) ∷ [])
    (record { name = control.name; what = Cancel; from = 0; len = 1 } ∷ []) → ⊥
wrong k = other k.0.0 k.0.1 k.0.3.0 k.0.2 k.0.3.1 k.0.4
