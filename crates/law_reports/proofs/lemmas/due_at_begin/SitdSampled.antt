-- A speaker's siTD and a microphone's as their microframe begins, and once the walk of the frames is over.
use Rattle.std.proofs.Common.{◌≡◌, ℕ, ◌+◌, Some, true, false, slice_get, ap, refl, sym, subst, ◌∙◌, arith, inl}
use Rattle.std.proofs.lemmas.Bool.{false≢true, true≢false}
use Rattle.std.proofs.lemmas.Option.{same_Some}
use Rattle.word_mem.specs.Memory.{filled}
use Rattle.word_mem.specs.Views.{words_in, with_words_in}
use Rattle.word_mem.specs.Free.{lowest_run}
use Rattle.link_words.specs.Links.{link_word, link_read}
use Rattle.link_words.specs.Layout.{first_bad_bit}
use Rattle.drv_chains.specs.Chains.{word_after, before_the, behind_the, predecessors}
use Rattle.drv_chains.specs.Order.{frames}
use Rattle.itd_sitd.specs.declared.sitd.Sitd.{Sitd}
use Rattle.itd_sitd.specs.Sitd.{sitd_words, sitd_bad, sitd_at, sitd_read}
use Rattle.drv_periodic_table.specs.Descriptors.{slots_before}
use Rattle.drv_periodic_table.specs.Periodic.{note_at}
use Rattle.qh_qtd.specs.QueueHead.{qh_words}
use Rattle.mem_runs.specs.Book.{lend_runs, store_words}
use Rattle.mem_descriptors.specs.Descriptors.{sitd_at_address}
use Rattle.drv_table.specs.declared.content.Endpoint.{Endpoint}
use Rattle.drv_table.specs.IsoOffers.{all_descriptors}
use Rattle.drv_table.specs.FrameChoice.{with_frames, linked_descriptors}
use Rattle.mem_bytes.specs.Bytes.{places, all_reached, stored, put_bytes}
use Rattle.hc_masks.specs.Masks.{lacks}
use Rattle.hc_iso.specs.declared.held.SitdTurn.{SitdTurn}
use Rattle.hc_iso.specs.declared.held.SitdTurn.TheVariants.{Work, Rest}
use Rattle.hc_iso.specs.Sitd.{sitd_turn, after_start, after_part, after_complete, moved_sitd}
use Rattle.hc_iso.specs.WriteBack.{sitd_written, iso_raised}
use Rattle.hc_interrupt.specs.Turns.{microframe_of}
use Rattle.hc_core.specs.declared.controller.ControllerRow.TheVariants.{Begin}
use Rattle.bus_wire.specs.Bus.{fixed_of}
use Rattle.bus_world.specs.Orders.{ticks}
use Rattle.bus_world.specs.World.{controller_row}
use Rattle.claims_world.specs.Carried.{carried_from}
use Rattle.claims_world.specs.DueAtBegin.{IsUncancelled}
use Rattle.claims_world.specs.Reach.{SitdAt}
use Rattle.claims_world.specs.Reach.Reaches.{element}
use Rattle.claims_world.specs.SitdsAtBegin.{IsSitdDueAtBegin, HasServed}
use Rattle.claims_world.specs.SlotsAtBegin.{IsDescriptorOfEndpoint}
use Rattle.claims_world.specs.Visits.{is_there, frame_in, is_held_now}
use Rattle.law_microframes.specs.due.sitds.Samples.{speaker, microphone, speaker_place, microphone_place, with_sound, sound_at, sounds}
use Rattle.law_reports.specs.due_at_begin.Samples.{cancelled_speaker}
use Rattle.law_reports.specs.due_at_begin.Stored.{IsStoredFor}

pub speaker_begins : controller_row (sound_at speaker 400 speaker_place 0) ≡ Begin
unfolding ticks carried_from lowest_run filled words_in with_words_in store_words lend_runs qh_words all_descriptors with_frames
    linked_descriptors sitd_words sitd_bad sitd_at sitd_read link_word link_read first_bad_bit slots_before predecessors
    frames word_after before_the behind_the places all_reached stored lacks after_start after_part after_complete sitd_written iso_raised
speaker_begins = refl

pub speaker_is_due : IsSitdDueAtBegin (sound_at speaker 400 speaker_place 1) 4160
unfolding ticks carried_from lowest_run filled words_in with_words_in store_words lend_runs qh_words all_descriptors with_frames
    linked_descriptors sitd_words sitd_bad sitd_at sitd_read link_word link_read first_bad_bit slots_before predecessors
    frames word_after before_the behind_the places all_reached stored lacks after_start after_part after_complete sitd_written iso_raised
speaker_is_due = record {
  linked = record {
    chain = is_there;
    reached = element (frame_in (sound_at speaker 400 speaker_place 1).control.frame.index) (SitdAt 4160) (omega arith) refl;
  };
  sitd = _;
  read = refl;
  comes = refl;
}

pub speaker_has_it : IsDescriptorOfEndpoint (sound_at speaker 400 speaker_place 1).driver 0 4160
unfolding ticks carried_from lowest_run filled words_in with_words_in store_words lend_runs qh_words all_descriptors with_frames
    linked_descriptors sitd_words sitd_bad sitd_at sitd_read link_word link_read first_bad_bit slots_before predecessors
    frames word_after before_the behind_the places all_reached stored lacks after_start after_part after_complete sitd_written iso_raised
speaker_has_it = record { number = 0; transfer = _; here = refl; sort = refl; held = refl; at = refl; endpoint = refl }

pub microphone_is_due : IsSitdDueAtBegin (sound_at microphone 0 microphone_place 1) 4160
unfolding ticks carried_from lowest_run filled words_in with_words_in store_words lend_runs qh_words all_descriptors with_frames
    linked_descriptors sitd_words sitd_bad sitd_at sitd_read link_word link_read first_bad_bit slots_before predecessors
    frames word_after before_the behind_the places all_reached stored lacks after_start after_part after_complete sitd_written iso_raised
microphone_is_due = record {
  linked = record {
    chain = is_there;
    reached = element (frame_in (sound_at microphone 0 microphone_place 1).control.frame.index) (SitdAt 4160) (omega arith) refl;
  };
  sitd = _;
  read = refl;
  comes = refl;
}

its_turn : (v : Sitd) → sitd_at_address (sound_at microphone 0 microphone_place 4).memory 4160 ≡ Some v
    → sitd_turn (microframe_of (sound_at microphone 0 microphone_place 4).control.frame.index) v ≡ Rest
unfolding ticks carried_from lowest_run filled words_in with_words_in store_words lend_runs qh_words all_descriptors with_frames
    linked_descriptors sitd_words sitd_bad sitd_at sitd_read link_word link_read first_bad_bit slots_before predecessors
    frames word_after before_the behind_the places all_reached stored lacks after_start after_part after_complete sitd_written iso_raised
    put_bytes moved_sitd
its_turn v read =
    ap (sitd_turn (microframe_of (sound_at microphone 0 microphone_place 4).control.frame.index)) (sym (same_Some _ v read))

pub microphone_isnt_due : IsSitdDueAtBegin (sound_at microphone 0 microphone_place 4) 4160 → ⊥
microphone_isnt_due d = let never : ◌≡◌ {A = SitdTurn} Work Rest = sym d.comes ∙ its_turn d.sitd d.read in cc never

pub none_is_served_yet : (v : Sitd) → HasServed 0 4160 v (sounds speaker 400 speaker_place 3).made → ⊥
unfolding ticks carried_from lowest_run filled words_in with_words_in store_words lend_runs qh_words all_descriptors with_frames
    linked_descriptors sitd_words sitd_bad sitd_at sitd_read link_word link_read first_bad_bit slots_before predecessors
    frames word_after before_the behind_the places all_reached stored lacks after_start after_part after_complete sitd_written iso_raised
none_is_served_yet v was = was

pub speaker_is_free : is_held_now (fixed_of (with_sound speaker 400)) (sound_at speaker 400 speaker_place 4) ≡ false
unfolding ticks carried_from lowest_run filled words_in with_words_in store_words lend_runs qh_words all_descriptors with_frames
    linked_descriptors sitd_words sitd_bad sitd_at sitd_read link_word link_read first_bad_bit slots_before predecessors
    frames word_after before_the behind_the places all_reached stored lacks after_start after_part after_complete sitd_written iso_raised
speaker_is_free = refl

its_endpoint : (x : Endpoint) → slice_get (sound_at speaker 400 speaker_place 4).driver.endpoints 0 ≡ Some x → x.cancelled ≡ false
unfolding ticks carried_from lowest_run filled words_in with_words_in store_words lend_runs qh_words all_descriptors with_frames
    linked_descriptors sitd_words sitd_bad sitd_at sitd_read link_word link_read first_bad_bit slots_before predecessors
    frames word_after before_the behind_the places all_reached stored lacks after_start after_part after_complete sitd_written iso_raised
its_endpoint x here = ap (λ (y : Endpoint). y.cancelled) (sym (same_Some _ x here))

pub speaker_is_kept : IsUncancelled (sound_at speaker 400 speaker_place 4).driver 0
speaker_is_kept = its_endpoint

as_read : (v : Sitd) → sitd_at_address (sound_at speaker 400 speaker_place 1).memory 4160 ≡ Some v
    → HasServed 0 4160 v (sounds speaker 400 speaker_place 4).made
unfolding ticks carried_from lowest_run filled words_in with_words_in store_words lend_runs qh_words all_descriptors with_frames
    linked_descriptors sitd_words sitd_bad sitd_at sitd_read link_word link_read first_bad_bit slots_before predecessors
    frames word_after before_the behind_the places all_reached stored lacks after_start after_part after_complete sitd_written iso_raised
as_read v read =
    subst (λ (x : Sitd). HasServed 0 4160 x (sounds speaker 400 speaker_place 4).made) (same_Some _ v read)
    (inl (
      refl,
      record {
        part = λ out. record { parts = refl; bytes = refl; marked = refl; active = refl };
        started = λ inward idle. absurd (false≢true inward);
        completed = λ inward waits. absurd (false≢true inward);
      },
    ))

pub speaker_had_its_part : (d : IsSitdDueAtBegin (sound_at speaker 400 speaker_place 1) 4160)
    → HasServed 0 4160 d.sitd (sounds speaker 400 speaker_place 4).made
speaker_had_its_part d = as_read d.sitd d.read

pub cancelled_isnt_kept : IsUncancelled cancelled_speaker.driver 0 → ⊥
unfolding ticks carried_from lowest_run filled words_in with_words_in store_words lend_runs qh_words all_descriptors with_frames
    linked_descriptors sitd_words sitd_bad sitd_at sitd_read link_word link_read first_bad_bit slots_before predecessors
    frames word_after before_the behind_the places all_reached stored lacks after_start after_part after_complete sitd_written iso_raised
cancelled_isnt_kept kept = true≢false (kept _ refl)

pub sitd_is_stored : IsStoredFor true (sound_at speaker 400 speaker_place 1).driver 0 4160
    (frame_in (sound_at speaker 400 speaker_place 1).control.frame.index)
unfolding ticks carried_from lowest_run filled words_in with_words_in store_words lend_runs qh_words all_descriptors with_frames
    linked_descriptors sitd_words sitd_bad sitd_at sitd_read link_word link_read first_bad_bit slots_before predecessors
    frames word_after before_the behind_the places all_reached stored lacks after_start after_part after_complete sitd_written iso_raised
sitd_is_stored = record {
  endpoint = _;
  here = refl;
  of = record { number = 0; transfer = _; here = refl; sort = refl; held = refl; at = refl; endpoint = refl };
  sort = refl;
  frame = refl;
  older = λ i first count is. absurd cc;
  idle = λ v is. absurd cc;
  untold = refl;
}

its_frame : (of : IsDescriptorOfEndpoint (sound_at speaker 400 speaker_place 1).driver 0 4160)
    → (note_at (sound_at speaker 400 speaker_place 1).driver.periodic.notes of.transfer.first).frame
    ≡ frame_in (sound_at speaker 400 speaker_place 1).control.frame.index
unfolding ticks carried_from lowest_run filled words_in with_words_in store_words lend_runs qh_words all_descriptors with_frames
    linked_descriptors sitd_words sitd_bad sitd_at sitd_read link_word link_read first_bad_bit slots_before predecessors
    frames word_after before_the behind_the places all_reached stored lacks after_start after_part after_complete sitd_written iso_raised
its_frame of =
    let at = of.at in
    let first : of.transfer.first ≡ 130 = omega (arith, at) in
    ap (λ (b : ℕ). (note_at (sound_at speaker 400 speaker_place 1).driver.periodic.notes b).frame) first

pub sitd_isnt_stored_for_another : IsStoredFor true (sound_at speaker 400 speaker_place 1).driver 0 4160
    (frame_in (sound_at speaker 400 speaker_place 1).control.frame.index + 1) → ⊥
sitd_isnt_stored_for_another st =
    let other = st.frame in
    let own = its_frame st.of in
    omega (arith, other, own)
