-- The payments of the script with a keyboard and a disk, the worlds as its microframes began, and the qTD of its get.
use Rattle.std.proofs.Common.{◌≡◌, ℕ, suc, ◌+◌, true, false, [], ◌∷◌, refl}
use Rattle.std.specs.Prelude.{◌==◌}
use Rattle.usb_base.specs.declared.commands.Cmd.TheVariants as commands
use Rattle.usb_base.specs.declared.packets.EpKind.TheVariants.{Interrupt, Bulk}
use Rattle.word_mem.specs.Memory.{word_at, filled}
use Rattle.word_mem.specs.Views.{words_in, with_words_in}
use Rattle.word_mem.specs.Free.{lowest_run}
use Rattle.link_words.specs.Links.{link_word, qtd_link_word, link_read, qtd_link_read}
use Rattle.link_words.specs.Layout.{first_bad_bit}
use Rattle.drv_chains.specs.Chains.{word_after, before_the, behind_the, predecessors}
use Rattle.drv_chains.specs.Order.{frames}
use Rattle.qh_qtd.specs.Token.{token_word, token_at}
use Rattle.qh_qtd.specs.Qtd.{qtd_words, qtd_read, qtd_bad, qtd_at}
use Rattle.qh_qtd.specs.QueueHead.{qh_words, qh_read, qh_bad, qh_at}
use Rattle.mem_runs.specs.Book.{lend_runs, store_words}
use Rattle.async_walk.specs.Naks.{reloaded}
use Rattle.hc_core.specs.declared.controller.ControllerRow.TheVariants as rows
use Rattle.hc_core.specs.declared.controller.MicroframePart.TheVariants.{Over}
use Rattle.bus_wire.specs.Bus.{fixed_of}
use Rattle.bus_world.specs.World.{controller_row}
use Rattle.bus_world.specs.Opening.{opening_world}
use Rattle.bus_world.specs.Orders.{ticks, orders_of}
use Rattle.claims_world.specs.FrameHeads.{characteristics_in, capabilities_in}
use Rattle.claims_world.specs.InTime.{is_late}
use Rattle.law_world.specs.memory.Samples.{keyboard, keyboard_and_disk, keyboard_place, after_the_open, typed_at}
use Rattle.law_world.specs.memory.MicrophoneSamples.{one_microphone}
use Rattle.claims_world.specs.Carried.{carried_from}
use Rattle.law_microframes.specs.visits.Began.{began_by, began}
use Rattle.claims_world.specs.Visits.{is_held_now}
use Rattle.law_microframes.proofs.lemmas.visits.VisitSampled.{answered, accepted}
use Rattle.claims_world.specs.WithinLoad.{payments_next, payments, paid_by_all}
use Rattle.claims_world.specs.Scripts.{HighPeriodicsOnly}
use Rattle.law_microframes.specs.worked_visits.Samples.{typed_payments, typed_began, typed_place, typed_qtd, kinds_of, owners_of, firsts_of, sensor_and_disk}

pub a_payment : (typed_payments 26 ≡ []) × (typed_payments 28 ≡ (4160, 0) ∷ []) × (typed_payments 30 ≡ (4160, 0) ∷ [])
unfolding carried_from lowest_run filled with_words_in store_words lend_runs qh_words qtd_words token_word token_at link_word qtd_link_word predecessors frames word_after before_the behind_the link_read qh_read qh_bad qh_at first_bad_bit words_in
a_payment = (refl, refl, refl)

pub typed_paid : (k : ℕ) → payments keyboard_and_disk (suc k) ≡ typed_payments k
typed_paid k = answered payments_next (fixed_of keyboard_and_disk) (opening_world keyboard_and_disk) 6 (commands.OpenEp keyboard) (orders_of after_the_open) _ [] k accepted

pub a_time :
    (controller_row (typed_at 28) ≡ rows.Frame)
    × (is_held_now (fixed_of keyboard_and_disk) (typed_at 28) ≡ false)
    × ((typed_at 28).control.frame.left + paid_by_all (typed_payments 28) ≡ 125000000)
    × (is_late (typed_place 28) ≡ false)
unfolding ticks carried_from lowest_run filled with_words_in store_words lend_runs qh_words qtd_words token_word token_at link_word qtd_link_word predecessors frames word_after before_the behind_the link_read qh_read qh_bad qh_at first_bad_bit words_in
a_time = (refl, refl, refl, refl)

-- ---- as a microframe began

pub typed_begun : (k : ℕ) → began keyboard_and_disk (suc k) ≡ typed_began k
typed_begun k =
    answered began_by (fixed_of keyboard_and_disk) (opening_world keyboard_and_disk) 6 (commands.OpenEp keyboard) (orders_of after_the_open) _ (opening_world keyboard_and_disk) k accepted

pub a_begin :
    (firsts_of (typed_began 25).driver ≡ [])
    × (firsts_of (typed_began 26).driver ≡ 132 ∷ [])
    × ((typed_began 28).registers.frame_index ≡ 0)
    × ((typed_at 28).registers.frame_index ≡ 1)
unfolding ticks carried_from lowest_run filled with_words_in store_words lend_runs qh_words qtd_words token_word token_at link_word qtd_link_word predecessors frames word_after before_the behind_the link_read qh_read qh_bad qh_at first_bad_bit words_in
a_begin = (refl, refl, refl, refl)

pub a_second :
    ((typed_began 40).registers.frame_index ≡ 0)
    × ((typed_began 42).registers.frame_index ≡ 1)
    × ((typed_began 42).control.part ≡ Over)
    × ((typed_at 42).registers.frame_index ≡ 2)
unfolding ticks carried_from lowest_run filled with_words_in store_words lend_runs qh_words qtd_words token_word token_at link_word qtd_link_word predecessors frames word_after before_the behind_the link_read qtd_link_read qh_read qh_bad qh_at qtd_read qtd_bad qtd_at first_bad_bit words_in reloaded
a_second = (refl, refl, refl, refl)

-- ---- the qTD of the get

pub a_get :
    (kinds_of (typed_at 25).driver ≡ Interrupt ∷ Bulk ∷ [])
    × (owners_of (typed_at 25).driver ≡ 0 ∷ [])
    × (firsts_of (typed_at 25).driver ≡ 132 ∷ [])
    × ((typed_qtd 25 132).token.active ≡ true)
    × ((typed_qtd 25 132).token.pid ≡ 1)
unfolding ticks lowest_run filled with_words_in store_words lend_runs qh_words qtd_words token_word token_at link_word qtd_link_word predecessors frames word_after before_the behind_the link_read qtd_link_read qh_read qh_bad qh_at qtd_read qtd_bad qtd_at first_bad_bit words_in
a_get = (refl, refl, refl, refl, refl)

-- ---- words 1 and 2 of its endpoint's queue head

pub a_head :
    (word_at (typed_at 25).memory 4164 ≡ characteristics_in keyboard)
    × (word_at (typed_at 25).memory 4168 ≡ capabilities_in keyboard keyboard_place)
unfolding ticks lowest_run filled with_words_in store_words lend_runs qh_words qtd_words token_word token_at link_word qtd_link_word
    predecessors frames word_after before_the behind_the link_read qtd_link_read qh_read qh_bad qh_at qtd_read qtd_bad qtd_at
    first_bad_bit words_in
a_head = (refl, refl)

pub another_word : (capabilities_in keyboard keyboard_place == capabilities_in keyboard (record keyboard_place { smask = 0 })) ≡ false
unfolding qh_words token_word link_word qtd_link_word
another_word = refl

-- ---- scripts of high-speed endpoints

pub high_sensor : HighPeriodicsOnly sensor_and_disk
high_sensor = (λ is. refl, (tt, (λ is. cc, (tt, (tt, (tt, (tt, tt)))))))

pub high_microphone : HighPeriodicsOnly one_microphone
high_microphone = (λ is. refl, (tt, (tt, (tt, tt))))
