-- The keyboard's start-split and its first complete-split, event by event.
use Rattle.std.proofs.Common.{◌≡◌, [], ◌∷◌, map, Some, ap, refl, sym, subst, inl, ◌∙◌}
use Rattle.std.specs.Prelude.{slice_get, true, false}
use Rattle.std.proofs.lemmas.Bool.{false≢true}
use Rattle.std.proofs.lemmas.Option.{same_Some}
use Rattle.word_mem.specs.Memory.{filled}
use Rattle.word_mem.specs.Views.{words_in, with_words_in}
use Rattle.word_mem.specs.Free.{lowest_run}
use Rattle.link_words.specs.Links.{link_word, qtd_link_word, link_read, qtd_link_read}
use Rattle.link_words.specs.Layout.{first_bad_bit}
use Rattle.drv_chains.specs.Chains.{word_after, before_the, behind_the, predecessors}
use Rattle.drv_chains.specs.Order.{frames}
use Rattle.drv_table.specs.declared.content.Endpoint.{Endpoint}
use Rattle.bandwidth.specs.declared.placements.Placement.{Placement}
use Rattle.qh_qtd.specs.declared.queue_head.Qh.{Qh}
use Rattle.qh_qtd.specs.Token.{token_word, token_at}
use Rattle.qh_qtd.specs.Qtd.{qtd_words, qtd_read, qtd_bad, qtd_at}
use Rattle.qh_qtd.specs.QueueHead.{qh_words, qh_read, qh_bad, qh_at}
use Rattle.toggle_error.specs.declared.host.Outcome.TheVariants.{Wait}
use Rattle.mem_queues.specs.Structures.{queue_head_at_address}
use Rattle.mem_bytes.specs.Bytes.{places, all_reached, reached, stored, words_from, put_byte, put_bytes}
use Rattle.mem_runs.specs.Book.{lend_runs, store_words}
use Rattle.hc_masks.specs.Masks.{has, lacks}
use Rattle.hc_copy.specs.Overlay.{advanced, moved, settled_queue}
use Rattle.hc_copy.specs.WriteBack.{overlay_after, written_back, raised}
use Rattle.hc_interrupt.specs.Copies.{with_split, missed_queue}
use Rattle.hc_interrupt.specs.Turns.{is_missed}
use Rattle.hc_core.specs.declared.controller.ControllerRow.TheVariants.{Begin}
use Rattle.bus_wire.specs.Bus.{fixed_of}
use Rattle.bus_world.specs.Orders.{ticks}
use Rattle.bus_world.specs.World.{controller_row}
use Rattle.claims_world.specs.Carried.{carried_from}
use Rattle.claims_world.specs.Due.{takes}
use Rattle.claims_world.specs.DueAtBegin.{IsUncancelled}
use Rattle.claims_world.specs.QueuesMade.{QueueMade, HasMade}
use Rattle.claims_world.specs.SplitsAtBegin.{IsStartDue, IsStarted, IsCompleteDue}
use Rattle.claims_world.specs.Visits.{IsPastFrames}
use Rattle.law_world.specs.memory.Samples.{keyboard_and_disk, keyboard_place}
use Rattle.law_microframes.specs.due.repeats.Samples.{waiting}
use Rattle.law_reports.specs.due_at_begin.SplitSamples.{starting, started_in, made_in, its_queue, too_late}

-- ---- its start-split

pub start_begins : controller_row starting ≡ Begin
unfolding ticks carried_from lowest_run filled with_words_in store_words lend_runs qh_words qtd_words token_word token_at link_word
    qtd_link_word
    predecessors frames word_after before_the behind_the link_read qtd_link_read qh_read qh_bad qh_at qtd_read qtd_bad qtd_at
    first_bad_bit words_in advanced lacks with_split settled_queue moved missed_queue written_back raised overlay_after
    stored put_bytes put_byte places words_from all_reached reached
start_begins = refl

pub keyboard_starts : IsStartDue (fixed_of keyboard_and_disk) (started_in starting 1) 0 130
unfolding ticks carried_from lowest_run filled with_words_in store_words lend_runs qh_words qtd_words token_word token_at link_word
    qtd_link_word
    predecessors frames word_after before_the behind_the link_read qtd_link_read qh_read qh_bad qh_at qtd_read qtd_bad qtd_at
    first_bad_bit words_in advanced lacks with_split settled_queue moved missed_queue written_back raised overlay_after
    stored put_bytes put_byte places words_from all_reached reached
keyboard_starts = record {
  split = record {
    placement = _;
    there = record { endpoint = _; here = refl; chained = refl; kind = refl; queue = refl; placed = refl; idle = λ v is. absurd cc };
    active = refl;
    classic = refl;
    free = refl;
    queue = _;
    read = refl;
  };
  bit = refl;
  works = _;
  next = takes _ _ refl refl refl refl (record { active = refl; unhalted = refl });
  unsplit = refl;
}

its_placement : (x : Endpoint) (p : Placement) → slice_get (started_in waiting 1).driver.endpoints 0 ≡ Some x → x.placement ≡ Some p
    → keyboard_place ≡ p
unfolding ticks carried_from lowest_run filled with_words_in store_words lend_runs qh_words qtd_words token_word token_at link_word
    qtd_link_word
    predecessors frames word_after before_the behind_the link_read qtd_link_read qh_read qh_bad qh_at qtd_read qtd_bad qtd_at
    first_bad_bit words_in advanced lacks with_split settled_queue moved missed_queue written_back raised overlay_after
    stored put_bytes put_byte places words_from all_reached reached
its_placement x p here placed =
    same_Some keyboard_place p (ap (λ (y : Endpoint). y.placement) (same_Some _ x here) ∙ placed)

pub no_start_there : IsStartDue (fixed_of keyboard_and_disk) (started_in waiting 1) 0 130 → ⊥
unfolding ticks carried_from lowest_run filled with_words_in store_words lend_runs qh_words qtd_words token_word token_at link_word
    qtd_link_word
    predecessors frames word_after before_the behind_the link_read qtd_link_read qh_read qh_bad qh_at qtd_read qtd_bad qtd_at
    first_bad_bit words_in advanced lacks with_split settled_queue moved missed_queue written_back raised overlay_after
    stored put_bytes put_byte places words_from all_reached reached
no_start_there d =
    let same : keyboard_place ≡ d.split.placement =
    its_placement d.split.there.endpoint d.split.placement d.split.there.here d.split.there.placed in
    false≢true (subst (λ (p : Placement). has p.smask 2 ≡ true) (sym same) d.bit)

pub start_isnt_made : made_in starting 4 ≡ []
unfolding ticks carried_from lowest_run filled with_words_in store_words lend_runs qh_words qtd_words token_word token_at link_word
    qtd_link_word
    predecessors frames word_after before_the behind_the link_read qtd_link_read qh_read qh_bad qh_at qtd_read qtd_bad qtd_at
    first_bad_bit words_in advanced lacks with_split settled_queue moved missed_queue written_back raised overlay_after
    stored put_bytes put_byte places words_from all_reached reached
start_isnt_made = refl

pub start_is_over : IsPastFrames (started_in starting 5)
unfolding ticks carried_from lowest_run filled with_words_in store_words lend_runs qh_words qtd_words token_word token_at link_word
    qtd_link_word
    predecessors frames word_after before_the behind_the link_read qtd_link_read qh_read qh_bad qh_at qtd_read qtd_bad qtd_at
    first_bad_bit words_in advanced lacks with_split settled_queue moved missed_queue written_back raised overlay_after
    stored put_bytes put_byte places words_from all_reached reached
start_is_over part = refl

its_endpoint : (x : Endpoint) → slice_get (started_in starting 5).driver.endpoints 0 ≡ Some x → x.cancelled ≡ false
unfolding ticks carried_from lowest_run filled with_words_in store_words lend_runs qh_words qtd_words token_word token_at link_word
    qtd_link_word
    predecessors frames word_after before_the behind_the link_read qtd_link_read qh_read qh_bad qh_at qtd_read qtd_bad qtd_at
    first_bad_bit words_in advanced lacks with_split settled_queue moved missed_queue written_back raised overlay_after
    stored put_bytes put_byte places words_from all_reached reached
its_endpoint x here = ap (λ (y : Endpoint). y.cancelled) (sym (same_Some _ x here))

pub start_is_kept : IsUncancelled (started_in starting 5).driver 0
start_is_kept = its_endpoint

pub start_is_made : HasMade (IsStarted its_queue 1024) (made_in starting 5)
unfolding ticks carried_from lowest_run filled with_words_in store_words lend_runs qh_words qtd_words token_word token_at link_word
    qtd_link_word
    predecessors frames word_after before_the behind_the link_read qtd_link_read qh_read qh_bad qh_at qtd_read qtd_bad qtd_at
    first_bad_bit words_in advanced lacks with_split settled_queue moved missed_queue written_back raised overlay_after
    stored put_bytes put_byte places words_from all_reached reached
start_is_made = inl (record { at = refl; waiting = refl; frame = refl; none = refl })

-- ---- its first complete-split

pub complete_begins : controller_row waiting ≡ Begin
unfolding ticks carried_from lowest_run filled with_words_in store_words lend_runs qh_words qtd_words token_word token_at link_word
    qtd_link_word
    predecessors frames word_after before_the behind_the link_read qtd_link_read qh_read qh_bad qh_at qtd_read qtd_bad qtd_at
    first_bad_bit words_in advanced lacks with_split settled_queue moved missed_queue written_back raised overlay_after
    stored put_bytes put_byte places words_from all_reached reached
complete_begins = refl

pub keyboard_completes : IsCompleteDue (fixed_of keyboard_and_disk) (started_in waiting 1) 0 130
unfolding ticks carried_from lowest_run filled with_words_in store_words lend_runs qh_words qtd_words token_word token_at link_word
    qtd_link_word
    predecessors frames word_after before_the behind_the link_read qtd_link_read qh_read qh_bad qh_at qtd_read qtd_bad qtd_at
    first_bad_bit words_in advanced lacks with_split settled_queue moved missed_queue written_back raised overlay_after
    stored put_bytes put_byte places words_from all_reached reached
keyboard_completes = record {
  split = record {
    placement = _;
    there = record { endpoint = _; here = refl; chained = refl; kind = refl; queue = refl; placed = refl; idle = λ v is. absurd cc };
    active = refl;
    classic = refl;
    free = refl;
    queue = _;
    read = refl;
  };
  waiting = refl;
  unmissed = refl;
  bit = refl;
}

it_is_missed : (q : Qh) → queue_head_at_address (started_in too_late 1).memory its_queue ≡ Some q → is_missed 1027 q ≡ true
unfolding ticks carried_from lowest_run filled with_words_in store_words lend_runs qh_words qtd_words token_word token_at link_word
    qtd_link_word
    predecessors frames word_after before_the behind_the link_read qtd_link_read qh_read qh_bad qh_at qtd_read qtd_bad qtd_at
    first_bad_bit words_in advanced lacks with_split settled_queue moved missed_queue written_back raised overlay_after
    stored put_bytes put_byte places words_from all_reached reached
it_is_missed q read = ap (is_missed 1027) (sym (same_Some _ q read))

pub no_complete_there : IsCompleteDue (fixed_of keyboard_and_disk) (started_in too_late 1) 0 130 → ⊥
unfolding ticks carried_from lowest_run filled with_words_in store_words lend_runs qh_words qtd_words token_word token_at link_word
    qtd_link_word
    predecessors frames word_after before_the behind_the link_read qtd_link_read qh_read qh_bad qh_at qtd_read qtd_bad qtd_at
    first_bad_bit words_in advanced lacks with_split settled_queue moved missed_queue written_back raised overlay_after
    stored put_bytes put_byte places words_from all_reached reached
no_complete_there d = false≢true (sym d.unmissed ∙ it_is_missed d.split.queue d.split.read)

pub complete_isnt_made : made_in waiting 3 ≡ []
unfolding ticks carried_from lowest_run filled with_words_in store_words lend_runs qh_words qtd_words token_word token_at link_word
    qtd_link_word
    predecessors frames word_after before_the behind_the link_read qtd_link_read qh_read qh_bad qh_at qtd_read qtd_bad qtd_at
    first_bad_bit words_in advanced lacks with_split settled_queue moved missed_queue written_back raised overlay_after
    stored put_bytes put_byte places words_from all_reached reached
complete_isnt_made = refl

pub complete_is_over : IsPastFrames (started_in waiting 4)
unfolding ticks carried_from lowest_run filled with_words_in store_words lend_runs qh_words qtd_words token_word token_at link_word
    qtd_link_word
    predecessors frames word_after before_the behind_the link_read qtd_link_read qh_read qh_bad qh_at qtd_read qtd_bad qtd_at
    first_bad_bit words_in advanced lacks with_split settled_queue moved missed_queue written_back raised overlay_after
    stored put_bytes put_byte places words_from all_reached reached
complete_is_over part = refl

pub complete_is_made :
    (map (λ (m : QueueMade). m.queue.c_prog) (made_in waiting 4) ≡ 4 ∷ [])
    × (map (λ (m : QueueMade). m.outcome) (made_in waiting 4) ≡ Wait ∷ [])
unfolding ticks carried_from lowest_run filled with_words_in store_words lend_runs qh_words qtd_words token_word token_at link_word
    qtd_link_word
    predecessors frames word_after before_the behind_the link_read qtd_link_read qh_read qh_bad qh_at qtd_read qtd_bad qtd_at
    first_bad_bit words_in advanced lacks with_split settled_queue moved missed_queue written_back raised overlay_after
    stored put_bytes put_byte places words_from all_reached reached
complete_is_made = (refl, refl)
