-- The keyboard whose host has waited since frame 0, in microframe 0 of frame 128 and elsewhere.
use Rattle.std.proofs.Common.{◌≡◌, ℕ, ◌+◌, ◌*◌, ◌%◌, [], ◌∷◌, Option, Some, None, refl, sym, subst, inl, ◌∙◌, ⊎_elim}
use Rattle.std.specs.Prelude.{false}
use Rattle.std.proofs.lemmas.Bool.{false≢true}
use Rattle.law_common.proofs.Numbers.{zero_one}
use Rattle.word_mem.specs.Memory.{filled}
use Rattle.word_mem.specs.Views.{words_in, with_words_in}
use Rattle.word_mem.specs.Free.{lowest_run}
use Rattle.link_words.specs.Links.{link_word, qtd_link_word, link_read, qtd_link_read}
use Rattle.link_words.specs.Layout.{first_bad_bit}
use Rattle.drv_chains.specs.Chains.{word_after, before_the, behind_the, predecessors}
use Rattle.drv_chains.specs.Order.{frames}
use Rattle.qh_qtd.specs.Token.{token_word, token_at}
use Rattle.qh_qtd.specs.Qtd.{qtd_words, qtd_read, qtd_bad, qtd_at}
use Rattle.qh_qtd.specs.QueueHead.{qh_words, qh_read, qh_bad, qh_at}
use Rattle.mem_bytes.specs.Bytes.{places, all_reached, reached, stored, words_from, put_byte, put_bytes}
use Rattle.mem_runs.specs.Book.{lend_runs, store_words}
use Rattle.hc_masks.specs.Masks.{lacks}
use Rattle.hc_copy.specs.Overlay.{advanced, moved, settled_queue}
use Rattle.hc_copy.specs.WriteBack.{overlay_after, written_back, raised}
use Rattle.hc_interrupt.specs.Copies.{with_split, missed_queue}
use Rattle.bus_world.specs.Orders.{ticks}
use Rattle.claims_world.specs.Carried.{carried_from}
use Rattle.bus_wire.specs.Bus.{fixed_of}
use Rattle.word_mem.specs.Memory.{Mem}
use Rattle.hc_interrupt.specs.declared.turns.Turn.TheVariants.{Miss, Work}
use Rattle.hc_interrupt.specs.Turns.{turn_of}
use Rattle.periodic_walk.specs.declared.state.Hand.{Hand}
use Rattle.periodic_walk.specs.Walk.{held_address}
use Rattle.claims_world.specs.Visits.{IsLedTo, is_there, leads_on, IsInChain, next_of, name_of, frame_in}
use Rattle.law_structures.specs.lent_structures.Structures.{QueueHead}
use Rattle.law_ring.specs.Hand.{Empty}
use Rattle.law_world.specs.memory.Samples.{keyboard_and_disk}
use Rattle.law_microframes.specs.due.repeats.Samples.{waiting, pressed}
use Rattle.law_microframes.specs.visits.Visited.{link_ahead}
use Rattle.law_reports.specs.due_at_begin.SplitSamples.{starting, started_in, its_queue, its_head}
use Rattle.law_reports.specs.pipes.Declared.{Sides}
use Rattle.law_reports.specs.pipes.below_hubs.Inward.{may_be_late}
use Rattle.law_reports.specs.pipes.below_hubs.InwardLaws.{BeginsFrame, WaitsAt}
use Rattle.law_reports.specs.pipes.below_hubs.Late.{IsHeldAt, IsLeftBehind}
use Rattle.law_reports.specs.pipes.below_hubs.LateSamples.{late, elsewhere, visited_in, Waits, Misses}

two_zero : ◌≡◌ {A = ℕ} 2 0 → ⊥
two_zero is = cc

-- ---- a host that waits

pub frame_begins : BeginsFrame late
unfolding ticks carried_from lowest_run filled with_words_in store_words lend_runs qh_words qtd_words token_word token_at link_word
    qtd_link_word
    predecessors frames word_after before_the behind_the link_read qtd_link_read qh_read qh_bad qh_at qtd_read qtd_bad qtd_at
    first_bad_bit words_in advanced lacks with_split settled_queue moved missed_queue written_back raised overlay_after
    stored put_bytes put_byte places words_from all_reached reached
frame_begins = record { row = refl; first = refl }

pub later_begins : BeginsFrame waiting → ⊥
unfolding ticks carried_from lowest_run filled with_words_in store_words lend_runs qh_words qtd_words token_word token_at link_word
    qtd_link_word
    predecessors frames word_after before_the behind_the link_read qtd_link_read qh_read qh_bad qh_at qtd_read qtd_bad qtd_at
    first_bad_bit words_in advanced lacks with_split settled_queue moved missed_queue written_back raised overlay_after
    stored put_bytes put_byte places words_from all_reached reached
later_begins b = two_zero b.first

pub it_waits : Waits (its_head late)
unfolding ticks carried_from lowest_run filled with_words_in store_words lend_runs qh_words qtd_words token_word token_at link_word
    qtd_link_word
    predecessors frames word_after before_the behind_the link_read qtd_link_read qh_read qh_bad qh_at qtd_read qtd_bad qtd_at
    first_bad_bit words_in advanced lacks with_split settled_queue moved missed_queue written_back raised overlay_after
    stored put_bytes put_byte places words_from all_reached reached
it_waits = refl

unstarted_is : may_be_late Empty its_queue (Some (QueueHead (its_head starting))) ≡ false
unfolding ticks carried_from lowest_run filled with_words_in store_words lend_runs qh_words qtd_words token_word token_at link_word
    qtd_link_word
    predecessors frames word_after before_the behind_the link_read qtd_link_read qh_read qh_bad qh_at qtd_read qtd_bad qtd_at
    first_bad_bit words_in advanced lacks with_split settled_queue moved missed_queue written_back raised overlay_after
    stored put_bytes put_byte places words_from all_reached reached
unstarted_is = refl

pub it_hasnt_started : Waits (its_head starting) → ⊥
it_hasnt_started w = false≢true (sym unstarted_is ∙ w)

heard_is : may_be_late Empty its_queue (Some (QueueHead (its_head (started_in pressed 4)))) ≡ false
unfolding ticks carried_from lowest_run filled with_words_in store_words lend_runs qh_words qtd_words token_word token_at link_word
    qtd_link_word
    predecessors frames word_after before_the behind_the link_read qtd_link_read qh_read qh_bad qh_at qtd_read qtd_bad qtd_at
    first_bad_bit words_in advanced lacks with_split settled_queue moved missed_queue written_back raised overlay_after
    stored put_bytes put_byte places words_from all_reached reached
heard_is = refl

pub it_has_heard : Waits (its_head (started_in pressed 4)) → ⊥
it_has_heard w = false≢true (sym heard_is ∙ w)

-- ---- in microframe 0

pub it_is_visited : visited_in late 2 ≡ its_queue ∷ []
unfolding ticks carried_from lowest_run filled with_words_in store_words lend_runs qh_words qtd_words token_word token_at link_word
    qtd_link_word
    predecessors frames word_after before_the behind_the link_read qtd_link_read qh_read qh_bad qh_at qtd_read qtd_bad qtd_at
    first_bad_bit words_in advanced lacks with_split settled_queue moved missed_queue written_back raised overlay_after
    stored put_bytes put_byte places words_from all_reached reached
it_is_visited = refl

pub it_is_held : IsHeldAt (started_in late 2) its_queue
unfolding ticks carried_from lowest_run filled with_words_in store_words lend_runs qh_words qtd_words token_word token_at link_word
    qtd_link_word
    predecessors frames word_after before_the behind_the link_read qtd_link_read qh_read qh_bad qh_at qtd_read qtd_bad qtd_at
    first_bad_bit words_in advanced lacks with_split settled_queue moved missed_queue written_back raised overlay_after
    stored put_bytes put_byte places words_from all_reached reached
it_is_held = record { part = refl; held = _; in_hand = refl; at = refl; unsettled = refl }

pub it_misses : turn_of 1024 (its_head late) ≡ Miss
unfolding ticks carried_from lowest_run filled with_words_in store_words lend_runs qh_words qtd_words token_word token_at link_word
    qtd_link_word
    predecessors frames word_after before_the behind_the link_read qtd_link_read qh_read qh_bad qh_at qtd_read qtd_bad qtd_at
    first_bad_bit words_in advanced lacks with_split settled_queue moved missed_queue written_back raised overlay_after
    stored put_bytes put_byte places words_from all_reached reached
it_misses = refl

it_is_linked : IsInChain late 128 its_queue
unfolding ticks carried_from lowest_run filled with_words_in store_words lend_runs qh_words qtd_words token_word token_at link_word
    qtd_link_word
    predecessors frames word_after before_the behind_the link_read qtd_link_read qh_read qh_bad qh_at qtd_read qtd_bad qtd_at
    first_bad_bit words_in advanced lacks with_split settled_queue moved missed_queue written_back raised overlay_after
    stored put_bytes put_byte places words_from all_reached reached
it_is_linked = is_there

pub frame_passes : (x : Sides) → Misses x late (started_in late 2) (visited_in late 2)
unfolding ticks carried_from lowest_run filled with_words_in store_words lend_runs qh_words qtd_words token_word token_at link_word
    qtd_link_word
    predecessors frames word_after before_the behind_the link_read qtd_link_read qh_read qh_bad qh_at qtd_read qtd_bad qtd_at
    first_bad_bit words_in advanced lacks with_split settled_queue moved missed_queue written_back raised overlay_after
    stored put_bytes put_byte places words_from all_reached reached
frame_passes x = record {
  first = λ is. record { linked = λ z. it_is_linked; visited = λ z. inl it_is_held };
  later = λ isnt. absurd (isnt refl);
}

nothing_in_hand : (started_in late 1).control.frame.hand ≡ None
unfolding ticks carried_from lowest_run filled with_words_in store_words lend_runs qh_words qtd_words token_word token_at link_word
    qtd_link_word
    predecessors frames word_after before_the behind_the link_read qtd_link_read qh_read qh_bad qh_at qtd_read qtd_bad qtd_at
    first_bad_bit words_in advanced lacks with_split settled_queue moved missed_queue written_back raised overlay_after
    stored put_bytes put_byte places words_from all_reached reached
nothing_in_hand = refl

index_is : (started_in late 1).control.frame.index % 8 ≡ 0
unfolding ticks carried_from lowest_run filled with_words_in store_words lend_runs qh_words qtd_words token_word token_at link_word
    qtd_link_word
    predecessors frames word_after before_the behind_the link_read qtd_link_read qh_read qh_bad qh_at qtd_read qtd_bad qtd_at
    first_bad_bit words_in advanced lacks with_split settled_queue moved missed_queue written_back raised overlay_after
    stored put_bytes put_byte places words_from all_reached reached
index_is = refl

none_in : {h : Hand} → ◌≡◌ {A = Option Hand} None (Some h) → ⊥
none_in is = cc

none_held : IsHeldAt (started_in late 1) its_queue → ⊥
none_held h = none_in (sym nothing_in_hand ∙ h.in_hand)

pub frame_keeps : (x : Sides) → WaitsAt (fixed_of keyboard_and_disk) x (started_in late 1) its_queue
    → Misses x late (started_in late 1) (its_queue ∷ []) → ⊥
frame_keeps x waits m =
    ⊎_elim (λ (held : IsHeldAt (started_in late 1) its_queue). none_held held)
    (λ (never : WaitsAt (fixed_of keyboard_and_disk) x (started_in late 1) its_queue → ⊥). never waits)
    ((m.first index_is).visited (inl refl))

over_is : may_be_late Empty its_queue (Some (QueueHead (its_head (started_in late 4)))) ≡ false
unfolding ticks carried_from lowest_run filled with_words_in store_words lend_runs qh_words qtd_words token_word token_at link_word
    qtd_link_word
    predecessors frames word_after before_the behind_the link_read qtd_link_read qh_read qh_bad qh_at qtd_read qtd_bad qtd_at
    first_bad_bit words_in advanced lacks with_split settled_queue moved missed_queue written_back raised overlay_after
    stored put_bytes put_byte places words_from all_reached reached
over_is = refl

pub it_gives_up : Waits (its_head (started_in late 4)) → ⊥
it_gives_up w = false≢true (sym over_is ∙ w)

pub it_is_worked_on : turn_of 1026 (its_head waiting) ≡ Work
unfolding ticks carried_from lowest_run filled with_words_in store_words lend_runs qh_words qtd_words token_word token_at link_word
    qtd_link_word
    predecessors frames word_after before_the behind_the link_read qtd_link_read qh_read qh_bad qh_at qtd_read qtd_bad qtd_at
    first_bad_bit words_in advanced lacks with_split settled_queue moved missed_queue written_back raised overlay_after
    stored put_bytes put_byte places words_from all_reached reached
it_is_worked_on = refl

-- ---- in a later microframe

leads_from : {o : Option ℕ} (m : Mem) → IsLedTo m its_queue o → o ≡ None → ⊥
leads_from m is_there is = cc
leads_from m (leads_on a l) is = cc

none_leads : (m : Mem) → IsLedTo m its_queue None → ⊥
none_leads m l = leads_from m l refl

elsewhere_link : next_of (started_in elsewhere 1).memory ((started_in elsewhere 1).registers.periodic_list_base + 4 * 129) ≡ None
unfolding ticks carried_from lowest_run filled with_words_in store_words lend_runs qh_words qtd_words token_word token_at link_word
    qtd_link_word
    predecessors frames word_after before_the behind_the link_read qtd_link_read qh_read qh_bad qh_at qtd_read qtd_bad qtd_at
    first_bad_bit words_in advanced lacks with_split settled_queue moved missed_queue written_back raised overlay_after
    stored put_bytes put_byte places words_from all_reached reached
elsewhere_link = refl

elsewhere_unlinked : IsInChain (started_in elsewhere 1) 129 its_queue → ⊥
elsewhere_unlinked l = none_leads _ (subst (λ (o : Option ℕ). IsLedTo (started_in elsewhere 1).memory its_queue o) elsewhere_link l)

elsewhere_ahead :
    name_of (link_ahead (started_in elsewhere 1).control.frame.hand (started_in elsewhere 1).control.frame.cursor) ≡ None
unfolding ticks carried_from lowest_run filled with_words_in store_words lend_runs qh_words qtd_words token_word token_at link_word
    qtd_link_word
    predecessors frames word_after before_the behind_the link_read qtd_link_read qh_read qh_bad qh_at qtd_read qtd_bad qtd_at
    first_bad_bit words_in advanced lacks with_split settled_queue moved missed_queue written_back raised overlay_after
    stored put_bytes put_byte places words_from all_reached reached
elsewhere_ahead = refl

elsewhere_unheld : held_address (started_in elsewhere 1).control.frame.hand ≡ None
unfolding ticks carried_from lowest_run filled with_words_in store_words lend_runs qh_words qtd_words token_word token_at link_word
    qtd_link_word
    predecessors frames word_after before_the behind_the link_read qtd_link_read qh_read qh_bad qh_at qtd_read qtd_bad qtd_at
    first_bad_bit words_in advanced lacks with_split settled_queue moved missed_queue written_back raised overlay_after
    stored put_bytes put_byte places words_from all_reached reached
elsewhere_unheld = refl

elsewhere_index : (started_in elsewhere 1).control.frame.index ≡ 1033
unfolding ticks carried_from lowest_run filled with_words_in store_words lend_runs qh_words qtd_words token_word token_at link_word
    qtd_link_word
    predecessors frames word_after before_the behind_the link_read qtd_link_read qh_read qh_bad qh_at qtd_read qtd_bad qtd_at
    first_bad_bit words_in advanced lacks with_split settled_queue moved missed_queue written_back raised overlay_after
    stored put_bytes put_byte places words_from all_reached reached
elsewhere_index = refl

elsewhere_frame : frame_in (started_in elsewhere 1).control.frame.index ≡ 129
unfolding ticks carried_from lowest_run filled with_words_in store_words lend_runs qh_words qtd_words token_word token_at link_word
    qtd_link_word
    predecessors frames word_after before_the behind_the link_read qtd_link_read qh_read qh_bad qh_at qtd_read qtd_bad qtd_at
    first_bad_bit words_in advanced lacks with_split settled_queue moved missed_queue written_back raised overlay_after
    stored put_bytes put_byte places words_from all_reached reached
elsewhere_frame = refl

none_address : ◌≡◌ {A = Option ℕ} None (Some its_queue) → ⊥
none_address is = cc

left_behind : IsLeftBehind (started_in elsewhere 1) its_queue
left_behind = record {
  unlinked = λ l. elsewhere_unlinked (subst (λ (f : ℕ). IsInChain (started_in elsewhere 1) f its_queue) elsewhere_frame l);
  unreached = λ z. none_leads _ (subst (λ (o : Option ℕ). IsLedTo (started_in elsewhere 1).memory its_queue o) elsewhere_ahead z.leads);
  unheld = λ part held. none_address (sym elsewhere_unheld ∙ held);
}

elsewhere_later : (started_in elsewhere 1).control.frame.index % 8 ≡ 1
unfolding ticks carried_from lowest_run filled with_words_in store_words lend_runs qh_words qtd_words token_word token_at link_word
    qtd_link_word
    predecessors frames word_after before_the behind_the link_read qtd_link_read qh_read qh_bad qh_at qtd_read qtd_bad qtd_at
    first_bad_bit words_in advanced lacks with_split settled_queue moved missed_queue written_back raised overlay_after
    stored put_bytes put_byte places words_from all_reached reached
elsewhere_later = refl

pub frame_passes_on : (x : Sides) → Misses x elsewhere (started_in elsewhere 1) []
frame_passes_on x = record {
  first = λ is. absurd (zero_one (sym is ∙ elsewhere_later));
  later = λ isnt. left_behind;
}

linked_there : IsInChain (started_in waiting 1) 128 its_queue
unfolding ticks carried_from lowest_run filled with_words_in store_words lend_runs qh_words qtd_words token_word token_at link_word
    qtd_link_word
    predecessors frames word_after before_the behind_the link_read qtd_link_read qh_read qh_bad qh_at qtd_read qtd_bad qtd_at
    first_bad_bit words_in advanced lacks with_split settled_queue moved missed_queue written_back raised overlay_after
    stored put_bytes put_byte places words_from all_reached reached
linked_there = is_there

linked_frame : frame_in (started_in waiting 1).control.frame.index ≡ 128
unfolding ticks carried_from lowest_run filled with_words_in store_words lend_runs qh_words qtd_words token_word token_at link_word
    qtd_link_word
    predecessors frames word_after before_the behind_the link_read qtd_link_read qh_read qh_bad qh_at qtd_read qtd_bad qtd_at
    first_bad_bit words_in advanced lacks with_split settled_queue moved missed_queue written_back raised overlay_after
    stored put_bytes put_byte places words_from all_reached reached
linked_frame = refl

linked_index : (started_in waiting 1).control.frame.index % 8 ≡ 2
unfolding ticks carried_from lowest_run filled with_words_in store_words lend_runs qh_words qtd_words token_word token_at link_word
    qtd_link_word
    predecessors frames word_after before_the behind_the link_read qtd_link_read qh_read qh_bad qh_at qtd_read qtd_bad qtd_at
    first_bad_bit words_in advanced lacks with_split settled_queue moved missed_queue written_back raised overlay_after
    stored put_bytes put_byte places words_from all_reached reached
linked_index = refl

pub frame_has_it : (x : Sides) → Misses x waiting (started_in waiting 1) [] → ⊥
frame_has_it x m =
    (m.later (λ is. two_zero (sym linked_index ∙ is))).unlinked
    (subst (λ (f : ℕ). IsInChain (started_in waiting 1) f its_queue) (sym linked_frame) linked_there)
