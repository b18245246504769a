-- The worked rows of reasons.
use Rattle.std.proofs.Common.{◌≡◌, true, false, [], ◌∷◌, refl, arith}
use Rattle.word_mem.specs.Memory.{filled}
use Rattle.word_mem.specs.Views.{with_words_in}
use Rattle.word_mem.specs.Free.{lowest_run}
use Rattle.qh_qtd.specs.QueueHead.{qh_words}
use Rattle.mem_runs.specs.Book.{lend_runs, store_words}
use Rattle.hc_masks.specs.Masks.{lacks}
use Rattle.hc_interrupt.specs.Samples.{high_in, split_in}
use Rattle.hc_core.specs.Controller.{time_left}
use Rattle.bus_wire.specs.Bus.{fixed_of}
use Rattle.bus_world.specs.Orders.{ticks}
use Rattle.claims_world.specs.Visits.{is_held_now}
use Rattle.claims_world.specs.Visits.RingHasNothing.{is_halted as in_ring_halted, naks_are_used_up, queue_ends as in_ring_ends, qtd_is_done as in_ring_done}
use Rattle.claims_world.specs.Visits.SitdHasNothing.{is_inactive, not_in_its_mask, has_no_time as split_has_no_time}
use Rattle.claims_world.specs.Visits.QueueHasNothing.{is_halted, not_in_its_s_mask, not_in_its_c_mask, has_no_time, queue_ends, qtd_is_done}
use Rattle.hc_copy.specs.Samples.{counted, ring_head}
use Rattle.law_microframes.specs.visits.ReasonSamples.{empty_script, empty_at, HasReason, HasReasonInRing, HasSplitReason}

pub a_held_begin :
    (is_held_now (fixed_of (empty_script ((1, 1) ∷ []))) (empty_at ((1, 1) ∷ []) 1) ≡ true)
    × (time_left (empty_at ((1, 1) ∷ []) 1).control ≡ 0)
    × (is_held_now (fixed_of (empty_script ((2, 3) ∷ []))) (empty_at ((2, 3) ∷ []) 1) ≡ false)
    × (time_left (empty_at ((2, 3) ∷ []) 1).control ≡ 125000000)
unfolding ticks lowest_run filled with_words_in store_words lend_runs qh_words
a_held_begin = (refl, refl, refl, refl)

-- ---- queue heads of frames

pub other_microframe : HasReason high_in 41 125000000
other_microframe = not_in_its_s_mask refl refl

pub too_late : HasReason high_in 40 100
too_late = has_no_time (record { active = refl; unhalted = refl; starts = λ none. refl; completes = λ on. absurd cc; none_missed = λ on. absurd cc }) (omega arith)

pub no_complete_split : HasReason (split_in true 0) 41 125000000
unfolding lacks
no_complete_split = not_in_its_c_mask refl refl refl

pub none_in_time : HasReason high_in 40 125000000 → ⊥
none_in_time (is_halted on) = cc
none_in_time (not_in_its_s_mask none off) = cc
none_in_time (not_in_its_c_mask on kept off) = cc
none_in_time (has_no_time turn late) = omega (arith, late)
none_in_time (queue_ends goes is) = let done = goes.done in cc
none_in_time (qtd_is_done at t goes is there off) = let done = goes.done in cc

-- ---- queue heads of the ring

pub used_up : HasReasonInRing (counted 4 0)
used_up = naks_are_used_up (record { counted = λ none. cc; none_left = refl })

pub halted : HasReasonInRing ring_head
halted = in_ring_halted refl

pub naks_left : HasReasonInRing (counted 4 3) → ⊥
naks_left (in_ring_halted on) = cc
naks_left (naks_are_used_up none) = let left = none.none_left in cc
naks_left (in_ring_ends goes is) = let done = goes.done in cc
naks_left (in_ring_done at t goes is there off) = let done = goes.done in cc

pub uncounted : HasReasonInRing (counted 0 0) → ⊥
uncounted (in_ring_halted on) = cc
uncounted (naks_are_used_up none) = none.counted refl
uncounted (in_ring_ends goes is) = let done = goes.done in cc
uncounted (in_ring_done at t goes is there off) = let done = goes.done in cc

-- ---- siTDs

pub split_elsewhere : HasSplitReason false 41 125000000
split_elsewhere = not_in_its_mask refl

pub split_late : HasSplitReason false 40 100
split_late = split_has_no_time refl (omega arith)

pub split_in_time : HasSplitReason false 40 125000000 → ⊥
split_in_time (is_inactive off) = cc
split_in_time (not_in_its_mask off) = cc
split_in_time (split_has_no_time active late) = omega (arith, late)

pub none_to_complete : HasSplitReason true 41 125000000
none_to_complete = not_in_its_mask refl

pub one_to_complete : HasSplitReason true 42 125000000 → ⊥
one_to_complete (is_inactive off) = cc
one_to_complete (not_in_its_mask off) = cc
one_to_complete (split_has_no_time active late) = omega (arith, late)
