-- The keyboard's start-split in its translator, and what is heard in its first complete-split.
use Rattle.std.proofs.Common.{◌≡◌, ℕ, List, [], length, Option, Some, None, not, false, ap, refl, sym, subst, inl, ◌∙◌}
use Rattle.std.specs.List.{find}
use Rattle.std.proofs.lemmas.Bool.{false≢true}
use Rattle.std.proofs.lemmas.Option.{same_Some}
use Rattle.usb_base.specs.declared.packets.Pid.TheVariants as pids
use Rattle.usb_base.specs.declared.packets.Reply.{Reply}
use Rattle.usb_base.specs.declared.packets.Reply.TheVariants as replies
use Rattle.usb_base.specs.declared.packets.Way.{Way}
use Rattle.usb_base.specs.declared.packets.Way.TheVariants as ways
use Rattle.tt_pipeline.specs.declared.entry.Entry.{Entry}
use Rattle.tt_pipeline.specs.declared.entry.Exchange.{Exchange}
use Rattle.tt_pipeline.specs.declared.entry.Exchange.TheVariants.{Made}
use Rattle.tt_pipeline.specs.Answers.{result_of}
use Rattle.tt_pipeline.specs.Starting.{has_key}
use Rattle.word_mem.specs.Memory.{filled}
use Rattle.word_mem.specs.Views.{words_in, with_words_in}
use Rattle.word_mem.specs.Free.{lowest_run}
use Rattle.link_words.specs.Links.{link_word, qtd_link_word, link_read, qtd_link_read}
use Rattle.link_words.specs.Layout.{first_bad_bit}
use Rattle.drv_chains.specs.Chains.{word_after, before_the, behind_the, predecessors}
use Rattle.drv_chains.specs.Order.{frames}
use Rattle.qh_qtd.specs.declared.queue_head.Qh.{Qh}
use Rattle.qh_qtd.specs.Token.{token_word, token_at}
use Rattle.qh_qtd.specs.Qtd.{qtd_words, qtd_read, qtd_bad, qtd_at}
use Rattle.qh_qtd.specs.QueueHead.{qh_words, qh_read, qh_bad, qh_at}
use Rattle.mem_queues.specs.Structures.{queue_head_at_address}
use Rattle.mem_bytes.specs.Bytes.{places, all_reached, reached, stored, words_from, put_byte, put_bytes}
use Rattle.mem_runs.specs.Book.{lend_runs, store_words}
use Rattle.hc_masks.specs.Masks.{lacks}
use Rattle.hc_copy.specs.Overlay.{advanced, moved, settled_queue}
use Rattle.hc_copy.specs.WriteBack.{overlay_after, written_back, raised}
use Rattle.hc_interrupt.specs.Copies.{with_split, missed_queue}
use Rattle.bus_world.specs.Orders.{ticks}
use Rattle.claims_world.specs.Behind.{key_for, pipeline_for}
use Rattle.claims_world.specs.Carried.{carried_from}
use Rattle.claims_world.specs.QueuesMade.{HasMade}
use Rattle.claims_world.specs.Results.{IsToldBy, MovesBy, by_data, by_ack, IsTaken}
use Rattle.law_world.specs.memory.Samples.{keyboard}
use Rattle.law_microframes.specs.due.repeats.Samples.{waiting, pressed}
use Rattle.claims_world.specs.SplitFrames.{IsAnswer, IsNotYet, IsEntryOf, HasCome, IsDoneBy}
use Rattle.law_reports.specs.due_at_begin.SplitSamples.{starting, started_in, made_in, its_queue, eight_bytes, its_head}
use Rattle.law_reports.specs.due_at_begin.SplitSamples.{pressed_head, other_toggle}
use Rattle.claims_world.specs.SplitFrames.{IsDoneOf}
use Rattle.law_reports.proofs.lemmas.due_at_begin.ResultSampled.{result_is_taken, result_isnt_taken}

-- ---- the start-split comes

pub start_comes : HasCome (started_in starting 5).bus keyboard
unfolding ticks carried_from lowest_run filled with_words_in store_words lend_runs qh_words qtd_words token_word token_at link_word
    qtd_link_word
    predecessors frames word_after before_the behind_the link_read qtd_link_read qh_read qh_bad qh_at qtd_read qtd_bad qtd_at
    first_bad_bit words_in advanced lacks with_split settled_queue moved missed_queue written_back raised overlay_after
    stored put_bytes put_byte places words_from all_reached reached
start_comes = record { entry = _; is = record { hub = 9; behind = refl; there = refl }; kind = refl; whole = refl }

none_yet : find (has_key (key_for keyboard)) (pipeline_for (started_in starting 2).bus.hubs 9 1) ≡ None
unfolding ticks carried_from lowest_run filled with_words_in store_words lend_runs qh_words qtd_words token_word token_at link_word
    qtd_link_word
    predecessors frames word_after before_the behind_the link_read qtd_link_read qh_read qh_bad qh_at qtd_read qtd_bad qtd_at
    first_bad_bit words_in advanced lacks with_split settled_queue moved missed_queue written_back raised overlay_after
    stored put_bytes put_byte places words_from all_reached reached
none_yet = refl

no_entry : (e : Entry) → ◌≡◌ {A = Option Entry} None (Some e) → ⊥
no_entry e is = cc

its_hub : (hub : ℕ) → keyboard.hub ≡ Some hub → hub ≡ 9
its_hub hub is = sym (same_Some 9 hub is)

pub none_has_come : HasCome (started_in starting 2).bus keyboard → ⊥
none_has_come h =
    no_entry h.entry
    (sym none_yet
    ∙ ap (λ (n : ℕ). find (has_key (key_for keyboard)) (pipeline_for (started_in starting 2).bus.hubs n 1)) (sym (its_hub h.is.hub h.is.behind))
    ∙ h.is.there)

-- ---- what is heard

told_so : (e : Entry) → find (has_key (key_for keyboard)) (pipeline_for (started_in pressed 1).bus.hubs 9 1) ≡ Some e
    → HasMade (IsToldBy its_queue e) (made_in pressed 4)
unfolding ticks carried_from lowest_run filled with_words_in store_words lend_runs qh_words qtd_words token_word token_at link_word
    qtd_link_word
    predecessors frames word_after before_the behind_the link_read qtd_link_read qh_read qh_bad qh_at qtd_read qtd_bad qtd_at
    first_bad_bit words_in advanced lacks with_split settled_queue moved missed_queue written_back raised overlay_after
    stored put_bytes put_byte places words_from all_reached reached
told_so e is =
    subst (λ (y : Entry). HasMade (IsToldBy its_queue y) (made_in pressed 4)) (same_Some _ e is)
    (inl (record { reply = replies.Bytes pids.Data0 eight_bytes; made = refl; answered = record { at = refl; heard = refl } }))

pub entry_is_told : (e : Entry) → IsEntryOf (started_in pressed 1).bus keyboard e → HasMade (IsToldBy its_queue e) (made_in pressed 4)
entry_is_told e h =
    told_so e
    (ap (λ (n : ℕ). find (has_key (key_for keyboard)) (pipeline_for (started_in pressed 1).bus.hubs n 1)) (sym (its_hub h.hub h.behind))
    ∙ h.there)

pub answer_is_heard : HasMade (IsAnswer its_queue) (made_in pressed 4)
unfolding ticks carried_from lowest_run filled with_words_in store_words lend_runs qh_words qtd_words token_word token_at link_word
    qtd_link_word
    predecessors frames word_after before_the behind_the link_read qtd_link_read qh_read qh_bad qh_at qtd_read qtd_bad qtd_at
    first_bad_bit words_in advanced lacks with_split settled_queue moved missed_queue written_back raised overlay_after
    stored put_bytes put_byte places words_from all_reached reached
answer_is_heard = inl (record { at = refl; told = λ is. cc })

pub nyet_is_heard : HasMade (IsNotYet its_queue) (made_in waiting 4)
unfolding ticks carried_from lowest_run filled with_words_in store_words lend_runs qh_words qtd_words token_word token_at link_word
    qtd_link_word
    predecessors frames word_after before_the behind_the link_read qtd_link_read qh_read qh_bad qh_at qtd_read qtd_bad qtd_at
    first_bad_bit words_in advanced lacks with_split settled_queue moved missed_queue written_back raised overlay_after
    stored put_bytes put_byte places words_from all_reached reached
nyet_is_heard = inl (record { at = refl; told = refl })

-- ---- it is done

abbrev bytes_in : Reply → List ℕ
bytes_in (replies.Bytes pid bytes) = bytes
bytes_in _ = []

in_moves : (q : Qh) (way : Way) (r : Reply) (n : ℕ) → MovesBy q way r n → way ≡ ways.In → length (bytes_in r) ≡ n
in_moves q _ _ _ (by_data bytes short) is = refl
in_moves q _ _ _ by_ack is = absurd (cc is)

made_is : (a r : Reply) → ◌≡◌ {A = Exchange} (Made a) (Made r) → a ≡ r
made_is a r is = cc

eight_moved : (q : Qh) (r : Reply) (n : ℕ) → ◌≡◌ {A = Exchange} (Made (replies.Bytes pids.Data0 eight_bytes)) (Made r)
    → MovesBy q ways.In (result_of r) n → 8 ≡ n
eight_moved q r n is moves =
    ap (λ (x : Reply). length (bytes_in (result_of x))) (made_is (replies.Bytes pids.Data0 eight_bytes) r is)
    ∙ in_moves q ways.In (result_of r) n moves refl

abbrev Taken : ℕ → Type 0
Taken n = HasMade (IsTaken (its_head (started_in pressed 1)) its_queue n) (made_in pressed 4)

pub split_is_done : IsDoneBy (started_in pressed 1) its_queue keyboard (made_in pressed 4)
unfolding ticks carried_from lowest_run filled with_words_in store_words lend_runs qh_words qtd_words token_word token_at link_word
    qtd_link_word
    predecessors frames word_after before_the behind_the link_read qtd_link_read qh_read qh_bad qh_at qtd_read qtd_bad qtd_at
    first_bad_bit words_in advanced lacks with_split settled_queue moved missed_queue written_back raised overlay_after
    stored put_bytes put_byte places words_from all_reached reached
split_is_done = record {
  entry = _;
  is = record { hub = 9; behind = refl; there = refl };
  told = inl (record { reply = replies.Bytes pids.Data0 eight_bytes; made = refl; answered = record { at = refl; heard = refl } });
  queue = its_head (started_in pressed 1);
  read = refl;
  taken = λ reply bytes made moves.
      subst Taken (eight_moved (its_head (started_in pressed 1)) reply bytes made moves) result_is_taken;
}

-- .. of the queue head as its microframe began

taken_so : (reply : Reply) (bytes : ℕ) → split_is_done.entry.exchange ≡ Made reply
    → MovesBy pressed_head keyboard.name.way (result_of reply) bytes → Taken bytes
unfolding split_is_done
taken_so reply bytes made moves = split_is_done.taken reply bytes made moves

pub split_is_taken : IsDoneOf pressed_head (started_in pressed 1) its_queue keyboard (made_in pressed 4)
unfolding split_is_done
split_is_taken = record {
  done = split_is_done;
  far = record { toggle = refl; left = refl };
  packets = refl;
  taken = taken_so;
}

-- one with the other toggle isn't as far
read_so : queue_head_at_address (started_in pressed 1).memory its_queue ≡ Some (its_head (started_in pressed 1))
unfolding ticks carried_from lowest_run filled with_words_in store_words lend_runs qh_words qtd_words token_word token_at link_word
    qtd_link_word
    predecessors frames word_after before_the behind_the link_read qtd_link_read qh_read qh_bad qh_at qtd_read qtd_bad qtd_at
    first_bad_bit words_in advanced lacks with_split settled_queue moved missed_queue written_back raised overlay_after
    stored put_bytes put_byte places words_from all_reached reached
read_so = refl

toggle_so : (its_head (started_in pressed 1)).token.toggle ≡ false
unfolding ticks carried_from lowest_run filled with_words_in store_words lend_runs qh_words qtd_words token_word token_at link_word
    qtd_link_word
    predecessors frames word_after before_the behind_the link_read qtd_link_read qh_read qh_bad qh_at qtd_read qtd_bad qtd_at
    first_bad_bit words_in advanced lacks with_split settled_queue moved missed_queue written_back raised overlay_after
    stored put_bytes put_byte places words_from all_reached reached
toggle_so = refl

pub other_isnt_taken : IsDoneOf (other_toggle pressed_head) (started_in pressed 1) its_queue keyboard (made_in pressed 4) → ⊥
other_isnt_taken d =
    let same : its_head (started_in pressed 1) ≡ d.done.queue =
    same_Some (its_head (started_in pressed 1)) d.done.queue (sym read_so ∙ d.done.read) in
    false≢true (sym toggle_so ∙ ap (λ (q : Qh). q.token.toggle) same ∙ d.far.toggle ∙ ap not toggle_so)

none_made : (n : ℕ) (e : Entry) → HasMade (IsToldBy n e) [] → ⊥
none_made n e was = was

pub split_isnt_done : IsDoneBy (started_in pressed 1) its_queue keyboard (made_in pressed 3) → ⊥
split_isnt_done d = none_made its_queue d.entry (subst (HasMade (IsToldBy its_queue d.entry)) result_isnt_taken d.told)
