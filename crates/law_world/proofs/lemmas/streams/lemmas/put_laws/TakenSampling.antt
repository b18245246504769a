-- The moments of the small script.
use Rattle.std.proofs.Common.{◌≡◌, [], ◌∷◌, length, refl}
use Rattle.usb_base.specs.declared.commands.Cmd.TheVariants.{OpenEp}
use Rattle.usb_base.specs.declared.reports.OfferError.TheVariants.{Busy}
use Rattle.usb_base.specs.declared.reports.What.TheVariants.{Refused}
use Rattle.script_types.specs.declared.scripts.Event.TheVariants.{D}
use Rattle.script_types.specs.declared.scripts.Line.TheVariants.{Order}
use Rattle.word_mem.specs.Memory.{filled}
use Rattle.word_mem.specs.Views.{with_words_in}
use Rattle.word_mem.specs.Free.{lowest_run}
use Rattle.qh_qtd.specs.Qtd.{qtd_words}
use Rattle.qh_qtd.specs.QueueHead.{qh_words}
use Rattle.mem_runs.specs.Book.{lend_runs, store_words}
use Rattle.bus_world.specs.Orders.{Events, ticks, orders_of}
use Rattle.claims_report.specs.Samples.{commanded, line_of, receiver, bulk}
use Rattle.claims_report.specs.Streams.{stream}
use Rattle.law_world.specs.streams.put_laws.TakenPuts.{puts_of, puts_to, puts_at}
use Rattle.law_world.specs.streams.put_laws.TakenSamples.{first, second, two_puts, after, report_after}

pub parts :
    ((after 2).orders ≡ Events D 1 ∷ orders_of (first ∷ second ∷ []))
    × ((after 6).orders ≡ [])
unfolding ticks lowest_run filled with_words_in store_words lend_runs qh_words qtd_words
parts = (refl, refl)

pub accepted :
    (length (after 5).world.driver.transfers ≡ 1)
    × (puts_of (after 5).world.driver (puts_at two_puts 5) 0 ≡ (1 ∷ 2 ∷ 3 ∷ []) ∷ [])
    × (puts_to (report_after 5) (commanded 5 (OpenEp (bulk receiver)) ∷ (6, Order D 2) ∷ first ∷ []) receiver ≡ 1 ∷ 2 ∷ 3 ∷ [])
    × (stream two_puts (report_after 5) receiver ≡ 1 ∷ 2 ∷ 3 ∷ 9 ∷ [])
unfolding ticks puts_at lowest_run filled with_words_in store_words lend_runs qh_words qtd_words
accepted = (refl, refl, refl, refl)

pub refused :
    (length (after 6).world.driver.transfers ≡ 1)
    × ((after 6).world.driver.reports ≡ line_of receiver (Refused 8 Busy) 0 0 ∷ [])
    × (puts_of (after 6).world.driver (puts_at two_puts 6) 0 ≡ (1 ∷ 2 ∷ 3 ∷ []) ∷ [])
    × (stream two_puts (report_after 6) receiver ≡ 1 ∷ 2 ∷ 3 ∷ [])
unfolding ticks puts_at lowest_run filled with_words_in store_words lend_runs qh_words qtd_words
refused = (refl, refl, refl, refl)
