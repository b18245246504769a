-- The payments of the script with a microphone in the frame of its descriptor.
use Rattle.std.proofs.Common.{◌≡◌, ◌+◌, false, [], ◌∷◌, Some, refl}
use Rattle.word_mem.specs.Memory.{filled}
use Rattle.word_mem.specs.Views.{words_in, with_words_in}
use Rattle.word_mem.specs.Free.{lowest_run}
use Rattle.link_words.specs.Links.{link_word, link_read}
use Rattle.link_words.specs.Layout.{first_bad_bit}
use Rattle.drv_chains.specs.Chains.{word_after, before_the, behind_the, predecessors}
use Rattle.drv_chains.specs.Order.{frames}
use Rattle.itd_sitd.specs.Slot.{slot_word, slot_at}
use Rattle.itd_sitd.specs.Itd.{itd_words, itd_bad, itd_at, itd_read}
use Rattle.drv_periodic_table.specs.Descriptors.{slots_before}
use Rattle.qh_qtd.specs.QueueHead.{qh_words}
use Rattle.mem_runs.specs.Book.{lend_runs, store_words}
use Rattle.drv_table.specs.IsoOffers.{all_descriptors}
use Rattle.drv_table.specs.FrameChoice.{with_frames, linked_descriptors}
use Rattle.mem_bytes.specs.Bytes.{places, all_reached}
use Rattle.hc_iso.specs.Itd.{fetched_itd, after_in}
use Rattle.hc_core.specs.Controller.{frame_place}
use Rattle.hc_core.specs.declared.controller.ControllerRow.TheVariants as rows
use Rattle.bus_wire.specs.Bus.{fixed_of}
use Rattle.bus_world.specs.World.{controller_parts, controller_row}
use Rattle.bus_world.specs.Orders.{ticks}
use Rattle.claims_world.specs.InTime.{is_late}
use Rattle.law_world.specs.memory.MicrophoneSamples.{one_microphone}
use Rattle.claims_world.specs.Visits.{is_held_now}
use Rattle.law_microframes.specs.visits.Began.{IsAhead}
use Rattle.law_microframes.specs.visits.OneDescriptor.{IsActiveDescriptor}
use Rattle.claims_world.specs.Carried.{carried_from}
use Rattle.law_microframes.specs.visits.Ranks.{name_of}
use Rattle.law_microframes.specs.visits.Visited.{link_ahead}
use Rattle.claims_world.specs.WithinLoad.{paid_by_all}
use Rattle.law_microframes.specs.worked_visits.Samples.{due_at, due_payments}

pub due_in_time :
    (name_of (link_ahead (due_at 1).control.frame.hand (due_at 1).control.frame.cursor) ≡ Some 4160)
    × (due_payments 2 ≡ (4160, 0) ∷ [])
    × (controller_row (due_at 2) ≡ rows.Frame)
    × (is_held_now (fixed_of one_microphone) (due_at 2) ≡ false)
    × (is_late (frame_place (controller_parts (due_at 2))) ≡ false)
    × (due_payments 3 ≡ (4160, 798623) ∷ [])
    × ((due_at 3).control.frame.left ≡ 124201377)
    × ((due_at 3).control.frame.left + paid_by_all (due_payments 3) ≡ 125000000)
unfolding ticks carried_from lowest_run filled words_in with_words_in store_words lend_runs qh_words all_descriptors with_frames linked_descriptors itd_words itd_bad itd_at itd_read slot_word slot_at link_word link_read first_bad_bit slots_before predecessors frames word_after before_the behind_the fetched_itd after_in places all_reached
due_in_time = (refl, refl, refl, refl, refl, refl, refl, refl)

pub due_ahead : IsAhead (due_at 1) 4160
unfolding ticks carried_from lowest_run filled words_in with_words_in store_words lend_runs qh_words all_descriptors with_frames linked_descriptors itd_words itd_bad itd_at itd_read slot_word slot_at link_word link_read first_bad_bit slots_before predecessors frames word_after before_the behind_the
due_ahead = record { periodic = refl; next = refl }

pub due_active : IsActiveDescriptor (due_at 1).driver (due_at 1).memory 0 2 4160
unfolding ticks carried_from lowest_run filled words_in with_words_in store_words lend_runs qh_words all_descriptors with_frames linked_descriptors itd_words itd_bad itd_at itd_read slot_word slot_at link_word link_read first_bad_bit slots_before predecessors frames word_after before_the behind_the
due_active = record { number = 0; transfer = _; here = refl; descriptor = refl; held = refl; lent = tt; endpoint = refl; frame = refl; at = refl; active = refl }
