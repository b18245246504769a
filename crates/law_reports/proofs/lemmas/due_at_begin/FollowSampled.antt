-- What the keyboard's start-split left of its queue head, as it stands until its first complete-split.
use Rattle.std.proofs.Common.{◌≡◌, Some, ap, refl, sym, ◌∙◌}
use Rattle.std.specs.Prelude.{true, false}
use Rattle.std.proofs.lemmas.Bool.{false≢true}
use Rattle.std.proofs.lemmas.Option.{same_Some}
use Rattle.word_mem.specs.Memory.{filled}
use Rattle.word_mem.specs.Views.{words_in, with_words_in}
use Rattle.word_mem.specs.Free.{lowest_run}
use Rattle.link_words.specs.Links.{link_word, qtd_link_word, link_read, qtd_link_read}
use Rattle.link_words.specs.Layout.{first_bad_bit}
use Rattle.drv_chains.specs.Chains.{word_after, before_the, behind_the, predecessors}
use Rattle.drv_chains.specs.Order.{frames}
use Rattle.qh_qtd.specs.declared.queue_head.Qh.{Qh}
use Rattle.qh_qtd.specs.Token.{token_word, token_at}
use Rattle.qh_qtd.specs.Qtd.{qtd_words, qtd_read, qtd_bad, qtd_at}
use Rattle.qh_qtd.specs.QueueHead.{qh_words, qh_read, qh_bad, qh_at}
use Rattle.mem_queues.specs.Structures.{queue_head_at_address}
use Rattle.mem_bytes.specs.Bytes.{places, all_reached, reached, stored, words_from, put_byte, put_bytes}
use Rattle.mem_runs.specs.Book.{lend_runs, store_words}
use Rattle.hc_copy.specs.Overlay.{advanced, moved, settled_queue}
use Rattle.hc_copy.specs.WriteBack.{overlay_after, written_back, raised}
use Rattle.hc_interrupt.specs.Copies.{with_split, missed_queue}
use Rattle.bus_wire.specs.Bus.{fixed_of}
use Rattle.bus_world.specs.Orders.{ticks}
use Rattle.claims_world.specs.Carried.{carried_from}
use Rattle.hc_masks.specs.Masks.{lacks}
use Rattle.hc_interrupt.specs.Turns.{tag_of, waits, is_missed}
use Rattle.law_world.specs.memory.Samples.{keyboard_and_disk, keyboard_place}
use Rattle.law_microframes.specs.due.repeats.Samples.{waiting}
use Rattle.law_reports.specs.due_at_begin.SplitSamples.{starting, started_in, its_queue, its_head, too_late}
use Rattle.law_reports.specs.due_at_begin.SplitsFollow.{IsWaitingIn, IsOutOfHand, IsItsTurn, IsLeftWaiting}

pub keyboard_waits : IsWaitingIn (started_in starting 5) 0 130 (its_head (started_in starting 5))
unfolding ticks carried_from lowest_run filled with_words_in store_words lend_runs qh_words qtd_words token_word token_at link_word
    qtd_link_word
    predecessors frames word_after before_the behind_the link_read qtd_link_read qh_read qh_bad qh_at qtd_read qtd_bad qtd_at
    first_bad_bit words_in advanced lacks with_split settled_queue moved missed_queue written_back raised overlay_after
    stored put_bytes put_byte places words_from all_reached reached
keyboard_waits = record {
  placement = _;
  there = record { endpoint = _; here = refl; chained = refl; kind = refl; queue = refl; placed = refl; idle = λ v is. absurd cc };
  active = refl;
  read = refl;
  waiting = refl;
}

pub out_of_hand : IsOutOfHand (started_in starting 5) its_queue
unfolding ticks carried_from lowest_run filled with_words_in store_words lend_runs qh_words qtd_words token_word token_at link_word
    qtd_link_word
    predecessors frames word_after before_the behind_the link_read qtd_link_read qh_read qh_bad qh_at qtd_read qtd_bad qtd_at
    first_bad_bit words_in advanced lacks with_split settled_queue moved missed_queue written_back raised overlay_after
    stored put_bytes put_byte places words_from all_reached reached
out_of_hand part is = cc

its_tag : (its_head (started_in starting 5)).frame_tag ≡ 0
unfolding ticks carried_from lowest_run filled with_words_in store_words lend_runs qh_words qtd_words token_word token_at link_word
    qtd_link_word
    predecessors frames word_after before_the behind_the link_read qtd_link_read qh_read qh_bad qh_at qtd_read qtd_bad qtd_at
    first_bad_bit words_in advanced lacks with_split settled_queue moved missed_queue written_back raised overlay_after
    stored put_bytes put_byte places words_from all_reached reached
its_tag = refl

its_index : (started_in starting 5).control.frame.index ≡ 1024
unfolding ticks carried_from lowest_run filled with_words_in store_words lend_runs qh_words qtd_words token_word token_at link_word
    qtd_link_word
    predecessors frames word_after before_the behind_the link_read qtd_link_read qh_read qh_bad qh_at qtd_read qtd_bad qtd_at
    first_bad_bit words_in advanced lacks with_split settled_queue moved missed_queue written_back raised overlay_after
    stored put_bytes put_byte places words_from all_reached reached
its_index = refl

none_made : (its_head (started_in starting 5)).c_prog ≡ 0
unfolding ticks carried_from lowest_run filled with_words_in store_words lend_runs qh_words qtd_words token_word token_at link_word
    qtd_link_word
    predecessors frames word_after before_the behind_the link_read qtd_link_read qh_read qh_bad qh_at qtd_read qtd_bad qtd_at
    first_bad_bit words_in advanced lacks with_split settled_queue moved missed_queue written_back raised overlay_after
    stored put_bytes put_byte places words_from all_reached reached
none_made = refl

pub left_waiting : IsLeftWaiting (started_in starting 5) 0 130
left_waiting = record {
  queue = its_head (started_in starting 5);
  waiting = keyboard_waits;
  out = out_of_hand;
  none = none_made;
  frame = its_tag ∙ ap tag_of (sym its_index);
}

doesnt_wait : (q : Qh) → queue_head_at_address (started_in starting 4).memory its_queue ≡ Some q → waits q ≡ false
unfolding ticks carried_from lowest_run filled with_words_in store_words lend_runs qh_words qtd_words token_word token_at link_word
    qtd_link_word
    predecessors frames word_after before_the behind_the link_read qtd_link_read qh_read qh_bad qh_at qtd_read qtd_bad qtd_at
    first_bad_bit words_in advanced lacks with_split settled_queue moved missed_queue written_back raised overlay_after
    stored put_bytes put_byte places words_from all_reached reached
doesnt_wait q read = ap waits (sym (same_Some _ q read))

pub not_written_yet : (q : Qh) → IsWaitingIn (started_in starting 4) 0 130 q → ⊥
not_written_yet q x = false≢true (sym (doesnt_wait q x.read) ∙ x.waiting)

pub its_turn_comes : IsItsTurn (fixed_of keyboard_and_disk) (started_in waiting 1) keyboard_place (its_head (started_in waiting 1))
unfolding ticks carried_from lowest_run filled with_words_in store_words lend_runs qh_words qtd_words token_word token_at link_word
    qtd_link_word
    predecessors frames word_after before_the behind_the link_read qtd_link_read qh_read qh_bad qh_at qtd_read qtd_bad qtd_at
    first_bad_bit words_in advanced lacks with_split settled_queue moved missed_queue written_back raised overlay_after
    stored put_bytes put_byte places words_from all_reached reached
its_turn_comes = record { active = refl; bit = refl; unmissed = refl; free = refl }

missed_there : is_missed (started_in too_late 1).control.frame.index (its_head (started_in too_late 1)) ≡ true
unfolding ticks carried_from lowest_run filled with_words_in store_words lend_runs qh_words qtd_words token_word token_at link_word
    qtd_link_word
    predecessors frames word_after before_the behind_the link_read qtd_link_read qh_read qh_bad qh_at qtd_read qtd_bad qtd_at
    first_bad_bit words_in advanced lacks with_split settled_queue moved missed_queue written_back raised overlay_after
    stored put_bytes put_byte places words_from all_reached reached
missed_there = refl

pub too_late_for_it : IsItsTurn (fixed_of keyboard_and_disk) (started_in too_late 1) keyboard_place (its_head (started_in too_late 1)) → ⊥
too_late_for_it t = false≢true (sym t.unmissed ∙ missed_there)
