-- What the walk does of a speaker's and of a microphone's descriptors behind a hub.
use Rattle.std.proofs.Common.{◌≡◌, ℕ, true, false, [], ◌∷◌, map, refl, arith}
use Rattle.std.specs.Prelude.{replicate}
use Rattle.std.proofs.lemmas.Bool.{false≢true, true≢false}
use Rattle.word_mem.specs.Memory.{filled}
use Rattle.word_mem.specs.Views.{words_in, with_words_in}
use Rattle.word_mem.specs.Free.{lowest_run}
use Rattle.link_words.specs.Links.{link_word, link_read}
use Rattle.link_words.specs.Layout.{first_bad_bit}
use Rattle.drv_chains.specs.Chains.{word_after, before_the, behind_the, predecessors}
use Rattle.drv_chains.specs.Order.{frames}
use Rattle.itd_sitd.specs.declared.sitd.Sitd.{Sitd}
use Rattle.itd_sitd.specs.Sitd.{sitd_words, sitd_bad, sitd_at, sitd_read}
use Rattle.drv_periodic_table.specs.Descriptors.{slots_before}
use Rattle.qh_qtd.specs.QueueHead.{qh_words}
use Rattle.mem_runs.specs.Book.{lend_runs, store_words}
use Rattle.drv_table.specs.IsoOffers.{all_descriptors}
use Rattle.drv_table.specs.FrameChoice.{with_frames, linked_descriptors}
use Rattle.mem_bytes.specs.Bytes.{places, all_reached, stored}
use Rattle.hc_masks.specs.Masks.{lacks}
use Rattle.hc_iso.specs.declared.held.SitdTurn.TheVariants.{Work, Rest, Miss}
use Rattle.hc_iso.specs.Samples.{split_in}
use Rattle.hc_iso.specs.Sitd.{sitd_turn, after_start, after_part, after_complete}
use Rattle.hc_iso.specs.WriteBack.{sitd_written, iso_raised}
use Rattle.bus_world.specs.Orders.{ticks}
use Rattle.claims_world.specs.Carried.{carried_from}
use Rattle.claims_world.specs.Sitds.{AreServed}
use Rattle.claims_world.specs.Visits.{IsPastFrames}
use Rattle.law_microframes.specs.due.sitds.Samples.{speaker, microphone, speaker_place, microphone_place, sound_at, sounds}
use Rattle.law_microframes.specs.due.sitds.Samples.{said, asked, heard, last, made_so, nothing_heard, first_bytes, last_bytes}
use Rattle.law_microframes.proofs.lemmas.due.lemmas.sitds.Events.{one_served}

-- ---- a speaker

pub speaker_comes :
    (map (λ (c : ℕ × Sitd). c.0) (sounds speaker 400 speaker_place 2).came ≡ 4160 ∷ [])
    × ((sounds speaker 400 speaker_place 2).made ≡ [])
unfolding ticks carried_from lowest_run filled words_in with_words_in store_words lend_runs qh_words all_descriptors with_frames
    linked_descriptors sitd_words sitd_bad sitd_at sitd_read link_word link_read first_bad_bit slots_before predecessors
    frames word_after before_the behind_the places all_reached stored lacks after_start after_part after_complete sitd_written iso_raised
speaker_comes = (refl, refl)

pub speaker_waits : AreServed 0 (sounds speaker 400 speaker_place 3).came (sounds speaker 400 speaker_place 3).made → ⊥
unfolding ticks carried_from lowest_run filled words_in with_words_in store_words lend_runs qh_words all_descriptors with_frames
    linked_descriptors sitd_words sitd_bad sitd_at sitd_read link_word link_read first_bad_bit slots_before predecessors
    frames word_after before_the behind_the places all_reached stored lacks after_start after_part after_complete sitd_written iso_raised
speaker_waits served = served

pub speaker_is_over : IsPastFrames (sound_at speaker 400 speaker_place 4)
unfolding ticks carried_from lowest_run filled words_in with_words_in store_words lend_runs qh_words all_descriptors with_frames
    linked_descriptors sitd_words sitd_bad sitd_at sitd_read link_word link_read first_bad_bit slots_before predecessors
    frames word_after before_the behind_the places all_reached stored lacks after_start after_part after_complete sitd_written iso_raised
speaker_is_over part = refl

pub speaker_is_served : AreServed 0 (sounds speaker 400 speaker_place 4).came (sounds speaker 400 speaker_place 4).made
unfolding ticks carried_from lowest_run filled words_in with_words_in store_words lend_runs qh_words all_descriptors with_frames
    linked_descriptors sitd_words sitd_bad sitd_at sitd_read link_word link_read first_bad_bit slots_before predecessors
    frames word_after before_the behind_the places all_reached stored lacks after_start after_part after_complete sitd_written iso_raised
speaker_is_served = (
  refl,
  (
    record {
      part = λ out. record { parts = refl; bytes = refl; marked = refl; active = refl };
      started = λ inward idle. absurd (false≢true inward);
      completed = λ inward waits. absurd (false≢true inward);
    },
    tt,
  ),
)

-- ---- a microphone

pub microphone_comes :
    (map (λ (c : ℕ × Sitd). c.0) (sounds microphone 0 microphone_place 2).came ≡ 4160 ∷ [])
    × ((sounds microphone 0 microphone_place 2).made ≡ [])
unfolding ticks carried_from lowest_run filled words_in with_words_in store_words lend_runs qh_words all_descriptors with_frames
    linked_descriptors sitd_words sitd_bad sitd_at sitd_read link_word link_read first_bad_bit slots_before predecessors
    frames word_after before_the behind_the places all_reached stored lacks after_start after_part after_complete sitd_written iso_raised
microphone_comes = (refl, refl)

pub microphone_waits : AreServed 0 (sounds microphone 0 microphone_place 3).came (sounds microphone 0 microphone_place 3).made → ⊥
unfolding ticks carried_from lowest_run filled words_in with_words_in store_words lend_runs qh_words all_descriptors with_frames
    linked_descriptors sitd_words sitd_bad sitd_at sitd_read link_word link_read first_bad_bit slots_before predecessors
    frames word_after before_the behind_the places all_reached stored lacks after_start after_part after_complete sitd_written iso_raised
microphone_waits served = served

pub microphone_is_over : IsPastFrames (sound_at microphone 0 microphone_place 4)
unfolding ticks carried_from lowest_run filled words_in with_words_in store_words lend_runs qh_words all_descriptors with_frames
    linked_descriptors sitd_words sitd_bad sitd_at sitd_read link_word link_read first_bad_bit slots_before predecessors
    frames word_after before_the behind_the places all_reached stored lacks after_start after_part after_complete sitd_written iso_raised
microphone_is_over part = refl

pub microphone_is_served : AreServed 0 (sounds microphone 0 microphone_place 4).came (sounds microphone 0 microphone_place 4).made
unfolding ticks carried_from lowest_run filled words_in with_words_in store_words lend_runs qh_words all_descriptors with_frames
    linked_descriptors sitd_words sitd_bad sitd_at sitd_read link_word link_read first_bad_bit slots_before predecessors
    frames word_after before_the behind_the places all_reached stored lacks after_start after_part after_complete sitd_written iso_raised
microphone_is_served = (
  refl,
  (
    record {
      part = λ out. absurd (true≢false out);
      started = λ inward idle. refl;
      completed = λ inward waits. absurd (false≢true waits);
    },
    tt,
  ),
)

-- ---- part by part

pub parts_come : (sitd_turn 1 (said 0) ≡ Work) × (sitd_turn 2 (said 1) ≡ Work) × (sitd_turn 3 (said 2) ≡ Work)
unfolding lacks after_start after_part after_complete
parts_come = (refl, refl, refl)

pub parts_are_served :
    AreServed 1 ((64, said 0) ∷ []) (made_so (said 1) nothing_heard ∷ [])
    × AreServed 2 ((64, said 1) ∷ []) (made_so (said 2) nothing_heard ∷ [])
    × AreServed 3 ((64, said 2) ∷ []) (made_so (said 3) nothing_heard ∷ [])
parts_are_served = (
  (refl, (one_served 1 64 nothing_heard (said 0), tt)),
  (refl, (one_served 2 64 nothing_heard (said 1), tt)),
  (refl, (one_served 3 64 nothing_heard (said 2), tt)),
)

pub last_part_ends : ((said 2).active ≡ true) × ((said 3).active ≡ false) × ((said 3).total ≡ 0)
unfolding lacks after_start after_part after_complete
last_part_ends = (refl, refl, refl)

pub part_is_missed : sitd_turn 3 (said 1) ≡ Miss
unfolding lacks after_start after_part after_complete
part_is_missed = refl

pub unsent_isnt_served : AreServed 2 ((64, said 1) ∷ []) (made_so (said 1) nothing_heard ∷ []) → ⊥
unfolding lacks after_start after_part after_complete
unsent_isnt_served served = let fewer = (served.1.0.part refl).parts in cc

-- ---- a start-split and two complete-splits

pub completes_come :
    (sitd_turn 0 (split_in false 200) ≡ Work) × (sitd_turn 0 asked ≡ Rest) × (sitd_turn 2 asked ≡ Work) × (sitd_turn 3 heard ≡ Work)
unfolding lacks after_start after_part after_complete
completes_come = (refl, refl, refl, refl)

pub completes_are_served :
    AreServed 0 ((64, split_in false 200) ∷ []) (made_so asked nothing_heard ∷ [])
    × AreServed 2 ((64, asked) ∷ []) (made_so heard first_bytes ∷ [])
    × AreServed 3 ((64, heard) ∷ []) (made_so last last_bytes ∷ [])
completes_are_served = (
  (refl, (one_served 0 64 nothing_heard (split_in false 200), tt)),
  (refl, (one_served 2 64 first_bytes asked, tt)),
  (refl, (one_served 3 64 last_bytes heard, tt)),
)

pub last_bytes_end : (heard.active ≡ true) × (heard.total ≡ 12) × (last.active ≡ false) × (last.total ≡ 0)
unfolding lacks after_start after_part after_complete
last_bytes_end = (refl, refl, refl, refl)

pub unmarked_isnt_served : AreServed 2 ((64, asked) ∷ []) (made_so asked first_bytes ∷ []) → ⊥
unfolding lacks after_start after_part after_complete
unmarked_isnt_served served = let marked = (served.1.0.completed refl refl).marked in cc

-- the first of two answers doesn't end it, also in the last microframe of its C-mask
pub ended_isnt_served : AreServed 2 ((64, asked) ∷ []) (made_so (record heard { active = false }) first_bytes ∷ []) → ⊥
unfolding lacks after_start after_part after_complete
ended_isnt_served served =
    let goes_on = ((served.1.0.completed refl refl).more (replicate 188 0) refl (omega arith)).1 in
    false≢true goes_on
