-- The keyboard's answer in microframe 2, event by event.
use Rattle.std.proofs.Common.{◌≡◌, ℕ, [], slice_get, Some, ap, refl, sym, inl, ◌∙◌, arith}
use Rattle.std.specs.Prelude.{◌<◌, true, false}
use Rattle.std.proofs.lemmas.Bool.{false≢true}
use Rattle.std.proofs.lemmas.Option.{same_Some}
use Rattle.word_mem.specs.Memory.{filled}
use Rattle.word_mem.specs.Views.{words_in, with_words_in}
use Rattle.word_mem.specs.Free.{lowest_run}
use Rattle.link_words.specs.Links.{link_word, qtd_link_word, link_read, qtd_link_read}
use Rattle.link_words.specs.Layout.{first_bad_bit}
use Rattle.drv_chains.specs.Chains.{word_after, before_the, behind_the, predecessors}
use Rattle.drv_chains.specs.Order.{frames}
use Rattle.drv_table.specs.declared.content.Endpoint.{Endpoint}
use Rattle.qh_qtd.specs.Token.{token_word, token_at}
use Rattle.qh_qtd.specs.Qtd.{qtd_words, qtd_read, qtd_bad, qtd_at}
use Rattle.qh_qtd.specs.QueueHead.{qh_words, qh_read, qh_bad, qh_at}
use Rattle.mem_bytes.specs.Bytes.{places, all_reached, reached, stored, words_from, put_byte, put_bytes}
use Rattle.mem_runs.specs.Book.{lend_runs, store_words}
use Rattle.hc_masks.specs.Masks.{lacks}
use Rattle.hc_copy.specs.Overlay.{advanced, moved, settled_queue}
use Rattle.hc_copy.specs.WriteBack.{overlay_after, written_back, raised}
use Rattle.hc_interrupt.specs.Copies.{with_split, missed_queue}
use Rattle.usb_base.specs.declared.endpoints.EpName.{EpName}
use Rattle.bus_wire.specs.declared.seats.TokenKind.TheVariants.{In}
use Rattle.bus_wire.specs.Bus.{fixed_of}
use Rattle.bus_wire.specs.Fates.{is_unheard}
use Rattle.bus_wire.specs.Seats.{place_for}
use Rattle.bus_wire.specs.WhoHeard.{later}
use Rattle.bus_world.specs.Orders.{ticks}
use Rattle.claims_world.specs.Carried.{carried_from}
use Rattle.claims_world.specs.Due.{token_by}
use Rattle.claims_world.specs.DueAtBegin.{IsUncancelled}
use Rattle.claims_world.specs.QueuesMade.{HasMade}
use Rattle.claims_world.specs.Visits.{IsPastFrames}
use Rattle.law_world.specs.memory.Samples.{keyboard, keyboard_and_disk}
use Rattle.law_microframes.specs.due.repeats.Samples.{pressed, answer_lost}
use Rattle.law_microframes.specs.translators.Results.{by_data, IsAnswerDue, IsResultDue, IsTaken}
use Rattle.law_reports.specs.due_at_begin.SplitSamples.{started_in, made_in, its_queue, eight_bytes, its_head}

all_heard : (i : ℕ) → i < 2 → is_unheard [] keyboard.name false (later 0 i) ≡ false
all_heard i few = refl

pub result_is_due : IsResultDue (fixed_of keyboard_and_disk) (started_in pressed 1) 0 130
unfolding ticks carried_from lowest_run filled with_words_in store_words lend_runs qh_words qtd_words token_word token_at link_word
    qtd_link_word
    predecessors frames word_after before_the behind_the link_read qtd_link_read qh_read qh_bad qh_at qtd_read qtd_bad qtd_at
    first_bad_bit words_in advanced lacks with_split settled_queue moved missed_queue written_back raised overlay_after
    stored put_bytes put_byte places words_from all_reached reached
result_is_due = record {
  due = record {
    complete = record {
      split = record {
        placement = _;
        there = record { endpoint = _; here = refl; chained = refl; kind = refl; queue = refl; placed = refl; idle = λ v is. absurd cc };
        active = refl;
        classic = refl;
        free = refl;
        queue = _;
        read = refl;
      };
      waiting = refl;
      unmissed = refl;
      bit = refl;
    };
    reply = _;
    has = record {
      hub = 9;
      behind = refl;
      answer = refl;
      heard = record {
        place = _;
        asked = refl;
        seat = _;
        seated = refl;
        named = refl;
        packet = _;
        next = refl;
        none_lost = all_heard;
      };
    };
  };
  bytes = 8;
  moves = by_data eight_bytes (omega arith);
}

pub result_isnt_taken : made_in pressed 3 ≡ []
unfolding ticks carried_from lowest_run filled with_words_in store_words lend_runs qh_words qtd_words token_word token_at link_word
    qtd_link_word
    predecessors frames word_after before_the behind_the link_read qtd_link_read qh_read qh_bad qh_at qtd_read qtd_bad qtd_at
    first_bad_bit words_in advanced lacks with_split settled_queue moved missed_queue written_back raised overlay_after
    stored put_bytes put_byte places words_from all_reached reached
result_isnt_taken = refl

pub result_is_over : IsPastFrames (started_in pressed 4)
unfolding ticks carried_from lowest_run filled with_words_in store_words lend_runs qh_words qtd_words token_word token_at link_word
    qtd_link_word
    predecessors frames word_after before_the behind_the link_read qtd_link_read qh_read qh_bad qh_at qtd_read qtd_bad qtd_at
    first_bad_bit words_in advanced lacks with_split settled_queue moved missed_queue written_back raised overlay_after
    stored put_bytes put_byte places words_from all_reached reached
result_is_over part = refl

its_endpoint : (x : Endpoint) → slice_get (started_in pressed 4).driver.endpoints 0 ≡ Some x → x.cancelled ≡ false
unfolding ticks carried_from lowest_run filled with_words_in store_words lend_runs qh_words qtd_words token_word token_at link_word
    qtd_link_word
    predecessors frames word_after before_the behind_the link_read qtd_link_read qh_read qh_bad qh_at qtd_read qtd_bad qtd_at
    first_bad_bit words_in advanced lacks with_split settled_queue moved missed_queue written_back raised overlay_after
    stored put_bytes put_byte places words_from all_reached reached
its_endpoint x here = ap (λ (y : Endpoint). y.cancelled) (sym (same_Some _ x here))

pub result_is_kept : IsUncancelled (started_in pressed 4).driver 0
result_is_kept = its_endpoint

pub result_is_taken : HasMade (IsTaken (its_head (started_in pressed 1)) its_queue 8) (made_in pressed 4)
unfolding ticks carried_from lowest_run filled with_words_in store_words lend_runs qh_words qtd_words token_word token_at link_word
    qtd_link_word
    predecessors frames word_after before_the behind_the link_read qtd_link_read qh_read qh_bad qh_at qtd_read qtd_bad qtd_at
    first_bad_bit words_in advanced lacks with_split settled_queue moved missed_queue written_back raised overlay_after
    stored put_bytes put_byte places words_from all_reached reached
result_is_taken = inl (record { at = refl; outcome = refl; left = refl; toggle = refl; starts = refl })

-- ---- where the answer is lost

its_name : (x : Endpoint) → slice_get (started_in pressed 1).driver.endpoints 0 ≡ Some x → x.desc.name ≡ keyboard.name
unfolding ticks carried_from lowest_run filled with_words_in store_words lend_runs qh_words qtd_words token_word token_at link_word
    qtd_link_word
    predecessors frames word_after before_the behind_the link_read qtd_link_read qh_read qh_bad qh_at qtd_read qtd_bad qtd_at
    first_bad_bit words_in advanced lacks with_split settled_queue moved missed_queue written_back raised overlay_after
    stored put_bytes put_byte places words_from all_reached reached
its_name x here = ap (λ (y : Endpoint). y.desc.name) (sym (same_Some _ x here))

its_packet : (packet : ℕ) → slice_get (started_in pressed 1).bus.high 1 ≡ Some packet → packet ≡ 0
unfolding ticks carried_from lowest_run filled with_words_in store_words lend_runs qh_words qtd_words token_word token_at link_word
    qtd_link_word
    predecessors frames word_after before_the behind_the link_read qtd_link_read qh_read qh_bad qh_at qtd_read qtd_bad qtd_at
    first_bad_bit words_in advanced lacks with_split settled_queue moved missed_queue written_back raised overlay_after
    stored put_bytes put_byte places words_from all_reached reached
its_packet packet is = sym (same_Some 0 packet is)

its_place : (place : ℕ) → place_for answer_lost.seats 4 1 In ≡ Some place → place ≡ 1
its_place place is = sym (same_Some 1 place is)

pub lost_isnt_due : IsAnswerDue answer_lost (started_in pressed 1) 0 130 → ⊥
lost_isnt_due d =
    let name : d.complete.split.there.endpoint.desc.name ≡ keyboard.name =
    its_name d.complete.split.there.endpoint d.complete.split.there.here in
    let place : d.has.heard.place ≡ 1 =
    its_place d.has.heard.place
    (ap (λ (n : EpName). place_for answer_lost.seats n.addr n.num (token_by n.way)) (sym name) ∙ d.has.heard.asked) in
    let packet : d.has.heard.packet ≡ 0 =
    its_packet d.has.heard.packet (ap (slice_get (started_in pressed 1).bus.high) (sym place) ∙ d.has.heard.next) in
    let lost : is_unheard answer_lost.fates d.complete.split.there.endpoint.desc.name false (later d.has.heard.packet 1) ≡ true =
    ap (λ (n : EpName). is_unheard answer_lost.fates n false (later d.has.heard.packet 1)) name
    ∙ ap (λ (n : ℕ). is_unheard answer_lost.fates keyboard.name false (later n 1)) packet in
    false≢true (sym (d.has.heard.none_lost 1 (omega arith)) ∙ lost)
