-- The microphone's slot as its microframe begins.
use Rattle.std.proofs.Common.{◌≡◌, ℕ, ◌<◌, Some, false, slice_get, ap, refl, sym, ◌∙◌, arith, inl}
use Rattle.std.proofs.lemmas.Bool.{true≢false}
use Rattle.std.proofs.lemmas.Option.{same_Some}
use Rattle.word_mem.specs.Memory.{filled}
use Rattle.word_mem.specs.Views.{words_in, with_words_in}
use Rattle.word_mem.specs.Free.{lowest_run}
use Rattle.link_words.specs.Links.{link_word, link_read}
use Rattle.link_words.specs.Layout.{first_bad_bit}
use Rattle.drv_chains.specs.Chains.{word_after, before_the, behind_the, predecessors}
use Rattle.drv_chains.specs.Order.{frames}
use Rattle.itd_sitd.specs.declared.itd.Itd.{Itd}
use Rattle.itd_sitd.specs.Slot.{slot_word, slot_at}
use Rattle.itd_sitd.specs.Itd.{slot_of, itd_words, itd_bad, itd_at, itd_read}
use Rattle.drv_periodic_table.specs.Descriptors.{slots_before}
use Rattle.qh_qtd.specs.QueueHead.{qh_words}
use Rattle.mem_runs.specs.Book.{lend_runs, store_words}
use Rattle.mem_descriptors.specs.Descriptors.{itd_at_address}
use Rattle.drv_table.specs.IsoOffers.{all_descriptors}
use Rattle.drv_table.specs.FrameChoice.{with_frames, linked_descriptors}
use Rattle.mem_bytes.specs.Bytes.{places, all_reached, stored, put_bytes}
use Rattle.hc_interrupt.specs.Turns.{microframe_of}
use Rattle.hc_iso.specs.Itd.{fetched_itd, after_in}
use Rattle.hc_iso.specs.WriteBack.{itd_written, done_slot}
use Rattle.hc_core.specs.declared.controller.ControllerRow.TheVariants.{Begin}
use Rattle.bus_world.specs.Orders.{ticks}
use Rattle.bus_world.specs.World.{controller_row}
use Rattle.claims_world.specs.Reach.{ItdAt}
use Rattle.claims_world.specs.Reach.Reaches.{element}
use Rattle.claims_world.specs.Visits.{is_there, frame_in}
use Rattle.drv_table.specs.declared.content.Endpoint.{Endpoint}
use Rattle.claims_world.specs.Carried.{carried_from}
use Rattle.claims_world.specs.DueAtBegin.{IsUncancelled}
use Rattle.claims_world.specs.Visits.{HasVisited}
use Rattle.law_microframes.specs.due.slots.Samples.{due_at, due_slots}
use Rattle.claims_world.specs.SlotsAtBegin.{IsDescriptorOfEndpoint, IsSlotDueAtBegin}
use Rattle.law_world.specs.memory.MicrophoneSamples.{heard_at}
use Rattle.law_reports.specs.due_at_begin.Samples.{cancelled_microphone}
use Rattle.law_reports.specs.due_at_begin.Stored.{IsStoredFor}

pub slot_begins : controller_row (due_at 0) ≡ Begin
unfolding ticks lowest_run filled words_in with_words_in store_words lend_runs qh_words all_descriptors with_frames
    linked_descriptors itd_words itd_bad itd_at itd_read slot_word slot_at link_word link_read first_bad_bit slots_before predecessors
    frames word_after before_the behind_the fetched_itd after_in itd_written places all_reached stored
slot_begins = refl

pub slot_is_due : IsSlotDueAtBegin (due_at 1) 4160
unfolding ticks lowest_run filled words_in with_words_in store_words lend_runs qh_words all_descriptors with_frames
    linked_descriptors itd_words itd_bad itd_at itd_read slot_word slot_at link_word link_read first_bad_bit slots_before predecessors
    frames word_after before_the behind_the fetched_itd after_in itd_written places all_reached stored
slot_is_due = record {
  linked = record {
    chain = is_there;
    reached = element (frame_in (due_at 1).control.frame.index) (ItdAt 4160) (omega arith) refl;
  };
  itd = _;
  read = refl;
  active = refl;
}

its_slot : (v : Itd) → itd_at_address (due_at 4).memory 4160 ≡ Some v
    → (slot_of (microframe_of (due_at 4).control.frame.index) v).active ≡ false
unfolding ticks lowest_run filled words_in with_words_in store_words lend_runs qh_words all_descriptors with_frames
    linked_descriptors itd_words itd_bad itd_at itd_read slot_word slot_at link_word link_read first_bad_bit slots_before predecessors
    frames word_after before_the behind_the fetched_itd after_in itd_written places all_reached stored
    put_bytes done_slot
its_slot v read =
    ap (λ (x : Itd). (slot_of (microframe_of (due_at 4).control.frame.index) x).active) (sym (same_Some _ v read))

pub done_isnt_due : IsSlotDueAtBegin (due_at 4) 4160 → ⊥
done_isnt_due d = true≢false (sym d.active ∙ its_slot d.itd d.read)

pub slot_is_its_own : IsDescriptorOfEndpoint (due_at 1).driver 0 4160
unfolding ticks lowest_run filled words_in with_words_in store_words lend_runs qh_words all_descriptors with_frames
    linked_descriptors itd_words itd_bad itd_at itd_read slot_word slot_at link_word link_read first_bad_bit slots_before predecessors
    frames word_after before_the behind_the fetched_itd after_in itd_written places all_reached stored
slot_is_its_own = record { number = 0; transfer = _; here = refl; sort = refl; held = refl; at = refl; endpoint = refl }

pub slot_isnt_done_yet : HasVisited 4160 (due_slots 3).done → ⊥
unfolding ticks lowest_run filled words_in with_words_in store_words lend_runs qh_words all_descriptors with_frames
    linked_descriptors itd_words itd_bad itd_at itd_read slot_word slot_at link_word link_read first_bad_bit slots_before predecessors
    frames word_after before_the behind_the fetched_itd after_in itd_written places all_reached stored carried_from
slot_isnt_done_yet was = was

pub slot_is_done_then : HasVisited 4160 (due_slots 4).done
unfolding ticks lowest_run filled words_in with_words_in store_words lend_runs qh_words all_descriptors with_frames
    linked_descriptors itd_words itd_bad itd_at itd_read slot_word slot_at link_word link_read first_bad_bit slots_before predecessors
    frames word_after before_the behind_the fetched_itd after_in itd_written places all_reached stored carried_from
slot_is_done_then = inl refl

its_endpoint : (x : Endpoint) → slice_get (due_at 4).driver.endpoints 0 ≡ Some x → x.cancelled ≡ false
unfolding ticks lowest_run filled words_in with_words_in store_words lend_runs qh_words all_descriptors with_frames
    linked_descriptors itd_words itd_bad itd_at itd_read slot_word slot_at link_word link_read first_bad_bit slots_before predecessors
    frames word_after before_the behind_the fetched_itd after_in itd_written places all_reached stored
its_endpoint x here = ap (λ (y : Endpoint). y.cancelled) (sym (same_Some _ x here))

pub microphone_is_kept : IsUncancelled (due_at 4).driver 0
microphone_is_kept = its_endpoint

pub cancelled_isnt_kept : IsUncancelled cancelled_microphone.driver 0 → ⊥
unfolding ticks lowest_run filled words_in with_words_in store_words lend_runs qh_words all_descriptors with_frames
    linked_descriptors itd_words itd_bad itd_at itd_read slot_word slot_at link_word link_read first_bad_bit slots_before predecessors
    frames word_after before_the behind_the fetched_itd after_in itd_written places all_reached stored
cancelled_isnt_kept kept = true≢false (kept _ refl)

pub slot_is_stored : IsStoredFor false (due_at 1).driver 0 4160 (frame_in (due_at 1).control.frame.index)
unfolding ticks lowest_run filled words_in with_words_in store_words lend_runs qh_words all_descriptors with_frames
    linked_descriptors itd_words itd_bad itd_at itd_read slot_word slot_at link_word link_read first_bad_bit slots_before predecessors
    frames word_after before_the behind_the fetched_itd after_in itd_written places all_reached stored
slot_is_stored = record {
  endpoint = _;
  here = refl;
  of = record { number = 0; transfer = _; here = refl; sort = refl; held = refl; at = refl; endpoint = refl };
  sort = refl;
  frame = refl;
  older = λ i first count is. absurd cc;
  idle = λ v is. absurd cc;
  untold = refl;
}

none_below : (n : ℕ) → n < 0 → ⊥
none_below n low = omega (arith, low)

-- the command is to link the descriptors from transfer 0 on
pub slot_isnt_stored_yet : IsStoredFor false (heard_at 2).driver 0 4160 (frame_in (due_at 1).control.frame.index) → ⊥
unfolding ticks lowest_run filled words_in with_words_in store_words lend_runs qh_words all_descriptors with_frames
    linked_descriptors itd_words itd_bad itd_at itd_read slot_word slot_at link_word link_read first_bad_bit slots_before predecessors
    frames word_after before_the behind_the fetched_itd after_in itd_written places all_reached stored
slot_isnt_stored_yet st = none_below st.of.number (st.older _ 0 _ refl)
