-- What the walk does of the microphone's slot.
use Rattle.std.proofs.Common.{◌≡◌, ℕ, false, List, [], ◌∷◌, refl, sym, ◌∙◌}
use Rattle.word_mem.specs.Memory.{filled}
use Rattle.word_mem.specs.Views.{words_in, with_words_in}
use Rattle.word_mem.specs.Free.{lowest_run}
use Rattle.link_words.specs.Links.{link_word, link_read}
use Rattle.link_words.specs.Layout.{first_bad_bit}
use Rattle.drv_chains.specs.Chains.{word_after, before_the, behind_the, predecessors}
use Rattle.drv_chains.specs.Order.{frames}
use Rattle.itd_sitd.specs.Slot.{slot_word, slot_at}
use Rattle.itd_sitd.specs.Itd.{itd_words, itd_bad, itd_at, itd_read}
use Rattle.drv_periodic_table.specs.Descriptors.{slots_before}
use Rattle.qh_qtd.specs.QueueHead.{qh_words}
use Rattle.mem_runs.specs.Book.{lend_runs, store_words}
use Rattle.drv_table.specs.IsoOffers.{all_descriptors}
use Rattle.drv_table.specs.FrameChoice.{with_frames, linked_descriptors}
use Rattle.mem_bytes.specs.Bytes.{places, all_reached, stored}
use Rattle.hc_iso.specs.Itd.{fetched_itd, after_in}
use Rattle.hc_iso.specs.WriteBack.{itd_written}
use Rattle.bus_wire.specs.Bus.{fixed_of}
use Rattle.bus_world.specs.Orders.{ticks}
use Rattle.law_world.specs.memory.MicrophoneSamples.{one_microphone}
use Rattle.claims_world.specs.Carried.{carried_from}
use Rattle.claims_world.specs.Visits.{IsPastFrames, is_held_now}
use Rattle.law_microframes.specs.due.slots.Samples.{due_at, due_slots}

pub slot_fetched : ((due_slots 2).active ≡ 4160 ∷ []) × ((due_slots 2).done ≡ [])
unfolding ticks carried_from lowest_run filled words_in with_words_in store_words lend_runs qh_words all_descriptors with_frames
    linked_descriptors itd_words itd_bad itd_at itd_read slot_word slot_at link_word link_read first_bad_bit slots_before predecessors
    frames word_after before_the behind_the fetched_itd after_in itd_written places all_reached stored
slot_fetched = (refl, refl)

pub still_walking : IsPastFrames (due_at 2) → ⊥
unfolding ticks carried_from lowest_run filled words_in with_words_in store_words lend_runs qh_words all_descriptors with_frames
    linked_descriptors itd_words itd_bad itd_at itd_read slot_word slot_at link_word link_read first_bad_bit slots_before predecessors
    frames word_after before_the behind_the fetched_itd after_in itd_written places all_reached stored
still_walking past = let over = past refl in cc

pub not_done_yet : (due_slots 2).done ≡ (due_slots 2).active → ⊥
not_done_yet same = let no : ◌≡◌ {A = List ℕ} [] (4160 ∷ []) = sym slot_fetched.1 ∙ same ∙ slot_fetched.0 in cc

pub slot_done :
    IsPastFrames (due_at 4)
    × (is_held_now (fixed_of one_microphone) (due_at 4) ≡ false)
    × ((due_slots 4).active ≡ 4160 ∷ [])
    × ((due_slots 4).done ≡ 4160 ∷ [])
unfolding ticks carried_from lowest_run filled words_in with_words_in store_words lend_runs qh_words all_descriptors with_frames
    linked_descriptors itd_words itd_bad itd_at itd_read slot_word slot_at link_word link_read first_bad_bit slots_before predecessors
    frames word_after before_the behind_the fetched_itd after_in itd_written places all_reached stored
slot_done = (λ part. refl, refl, refl, refl)
