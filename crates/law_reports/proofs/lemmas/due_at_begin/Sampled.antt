-- The keyboard's transaction as microframe 1 begins.
use Rattle.std.proofs.Common.{◌≡◌, ℕ, ◌<◌, [], ◌∷◌, None, Some, arith, ap, refl, sym, subst, ◌∙◌}
use Rattle.std.specs.Prelude.{slice_get, false}
use Rattle.std.proofs.lemmas.Bool.{true≢false}
use Rattle.std.proofs.lemmas.Option.{same_Some}
use Rattle.usb_base.specs.declared.endpoints.EpName.{EpName}
use Rattle.word_mem.specs.Memory.{filled}
use Rattle.word_mem.specs.Views.{words_in, with_words_in}
use Rattle.word_mem.specs.Free.{lowest_run}
use Rattle.link_words.specs.Links.{link_word, qtd_link_word, link_read, qtd_link_read}
use Rattle.link_words.specs.Layout.{first_bad_bit}
use Rattle.drv_chains.specs.Chains.{word_after, before_the, behind_the, predecessors}
use Rattle.drv_chains.specs.Order.{frames}
use Rattle.drv_table.specs.declared.content.Endpoint.{Endpoint}
use Rattle.qh_qtd.specs.declared.queue_head.Qh.{Qh}
use Rattle.qh_qtd.specs.Token.{token_word, token_at}
use Rattle.qh_qtd.specs.Qtd.{qtd_words, qtd_read, qtd_bad, qtd_at}
use Rattle.qh_qtd.specs.QueueHead.{qh_words, qh_read, qh_bad, qh_at}
use Rattle.mem_bytes.specs.Bytes.{places, all_reached, reached, stored, bytes_at, put_byte, put_bytes}
use Rattle.mem_runs.specs.Book.{lend_runs, store_words}
use Rattle.hc_copy.specs.Overlay.{advanced, moved, settled_queue}
use Rattle.hc_copy.specs.WriteBack.{overlay_after, written_back, raised}
use Rattle.hc_interrupt.specs.Copies.{with_split}
use Rattle.hc_core.specs.declared.controller.ControllerRow.TheVariants.{Begin}
use Rattle.bus_wire.specs.Bus.{fixed_of}
use Rattle.bus_world.specs.Orders.{ticks}
use Rattle.bus_world.specs.World.{controller_row}
use Rattle.claims_world.specs.Carried.{carried_from}
use Rattle.mem_queues.specs.Structures.{queue_head_at_address}
use Rattle.claims_world.specs.Due.{ComesTo, takes, by_packet, CanMove, NoneIsLost}
use Rattle.claims_world.specs.DueAtBegin.{IsDueAtBegin, IsUncancelled}
use Rattle.claims_world.specs.Unfinished.{IsUnfinished}
use Rattle.law_microframes.specs.due.Samples.{keyboard, one_keyboard, with_loss, keyed_at}
use Rattle.law_microframes.proofs.lemmas.due.Sampled.{one_is_lost}
use Rattle.law_reports.specs.due_at_begin.Samples.{cancelled_keyboard}
use Rattle.law_reports.specs.due_at_begin.Unfinished.{HasUnfinished}
use Rattle.law_reports.proofs.lemmas.due_at_begin.Unfinished.{comes_to_one}

pub keyboard_begins : controller_row (keyed_at 21) ≡ Begin
unfolding ticks carried_from lowest_run filled with_words_in store_words lend_runs qh_words qtd_words token_word token_at link_word
    qtd_link_word
    predecessors frames word_after before_the behind_the link_read qtd_link_read qh_read qh_bad qh_at qtd_read qtd_bad qtd_at
    first_bad_bit words_in advanced
keyboard_begins = refl

pub keyboard_is_due_at_begin : IsDueAtBegin (fixed_of one_keyboard) (keyed_at 22) 0 130
unfolding ticks carried_from lowest_run filled with_words_in store_words lend_runs qh_words qtd_words token_word token_at link_word
    qtd_link_word
    predecessors frames word_after before_the behind_the link_read qtd_link_read qh_read qh_bad qh_at qtd_read qtd_bad qtd_at
    first_bad_bit words_in advanced
keyboard_is_due_at_begin = record {
  due = record {
    placement = _;
    there = record { endpoint = _; here = refl; chained = refl; kind = refl; queue = refl; placed = refl; idle = λ v is. absurd cc };
    high = refl;
    bit = refl;
    free = refl;
    transfer = record {
      queue = _;
      read = refl;
      works = _;
      next = takes _ _ refl refl refl refl (record { active = refl; unhalted = refl });
      ready = record {
        place = 0;
        part = _;
        heard = record {
          asked = refl;
          seat = _;
          seated = refl;
          named = refl;
          at = 0;
          owner = refl;
          device = _;
          there = refl;
          address = refl;
          endpoint = _;
          found = refl;
          does = refl;
        };
        answers = by_packet _ _ (0 ∷ 0 ∷ 4 ∷ 0 ∷ 0 ∷ 0 ∷ 0 ∷ 0 ∷ []) [] refl (omega arith) refl;
        packet = 0;
        next = refl;
        none_lost = λ i few. refl;
      };
    };
  };
  active = refl;
}

its_endpoint : (x : Endpoint) → slice_get (keyed_at 30).driver.endpoints 0 ≡ Some x → x.cancelled ≡ false
unfolding ticks carried_from lowest_run filled with_words_in store_words lend_runs qh_words qtd_words token_word token_at link_word
    qtd_link_word
    predecessors frames word_after before_the behind_the link_read qtd_link_read qh_read qh_bad qh_at qtd_read qtd_bad qtd_at
    first_bad_bit words_in advanced
    overlay_after with_split settled_queue written_back moved raised places all_reached reached stored bytes_at put_byte put_bytes
its_endpoint x here = ap (λ (y : Endpoint). y.cancelled) (sym (same_Some _ x here))

pub keyboard_is_kept : IsUncancelled (keyed_at 30).driver 0
keyboard_is_kept = its_endpoint

-- ---- what isn't

its_name : (x : Endpoint) → slice_get (keyed_at 22).driver.endpoints 0 ≡ Some x → x.desc.name ≡ keyboard.name
unfolding ticks carried_from lowest_run filled with_words_in store_words lend_runs qh_words qtd_words token_word token_at link_word
    qtd_link_word
    predecessors frames word_after before_the behind_the link_read qtd_link_read qh_read qh_bad qh_at qtd_read qtd_bad qtd_at
    first_bad_bit words_in advanced
its_name x here = ap (λ (y : Endpoint). y.desc.name) (sym (same_Some _ x here))

its_packet : (v : Qh) (r : CanMove (fixed_of with_loss) (keyed_at 22).bus keyboard.name v) → r.packet ≡ 0
unfolding ticks carried_from lowest_run filled with_words_in store_words lend_runs qh_words qtd_words token_word token_at link_word
    qtd_link_word
    predecessors frames word_after before_the behind_the link_read qtd_link_read qh_read qh_bad qh_at qtd_read qtd_bad qtd_at
    first_bad_bit words_in advanced
its_packet v r =
    let place : r.place ≡ 0 = sym (same_Some 0 r.place r.heard.asked) in
    sym (same_Some 0 r.packet (ap (slice_get (keyed_at 22).bus.high) (sym place) ∙ r.next))

lost_cant_move : (v : Qh) → CanMove (fixed_of with_loss) (keyed_at 22).bus keyboard.name v → ⊥
lost_cant_move v r = one_is_lost (subst (λ (n : ℕ). NoneIsLost (fixed_of with_loss) keyboard.name n) (its_packet v r) r.none_lost)

pub lost_isnt_due : IsDueAtBegin (fixed_of with_loss) (keyed_at 22) 0 130 → ⊥
lost_isnt_due d =
    lost_cant_move d.due.transfer.works
    (subst (λ (n : EpName). CanMove (fixed_of with_loss) (keyed_at 22).bus n d.due.transfer.works)
    (its_name d.due.there.endpoint d.due.there.here) d.due.transfer.ready)

pub cancelled_isnt_kept : IsUncancelled cancelled_keyboard.driver 0 → ⊥
unfolding ticks carried_from lowest_run filled with_words_in store_words lend_runs qh_words qtd_words token_word token_at link_word
    qtd_link_word
    predecessors frames word_after before_the behind_the link_read qtd_link_read qh_read qh_bad qh_at qtd_read qtd_bad qtd_at
    first_bad_bit words_in advanced
cancelled_isnt_kept kept = true≢false (kept _ refl)

-- ---- its transfer is unfinished

no_less : (i : ℕ) → i < 0 → ⊥
no_less i less = omega (arith, less)

key_is_unfinished : IsUnfinished (keyed_at 22).driver (keyed_at 22).memory 0
unfolding ticks carried_from lowest_run filled with_words_in store_words lend_runs qh_words qtd_words token_word token_at link_word
    qtd_link_word
    predecessors frames word_after before_the behind_the link_read qtd_link_read qh_read qh_bad qh_at qtd_read qtd_bad qtd_at
    first_bad_bit words_in advanced
key_is_unfinished = record {
  number = 0;
  transfer = _;
  here = refl;
  endpoint = refl;
  sort = refl;
  held = refl;
  stored = λ k. let none = k.command in cc;
  piece = 0;
  below = omega arith;
  qtd = _;
  read = refl;
  active = refl;
  whole = λ i t less found off. absurd (no_less i less);
}

its_queue_rests : (x : Qh) → queue_head_at_address (keyed_at 22).memory 4160 ≡ Some x → x.token.halted ≡ false
unfolding ticks carried_from lowest_run filled with_words_in store_words lend_runs qh_words qtd_words token_word token_at link_word
    qtd_link_word
    predecessors frames word_after before_the behind_the link_read qtd_link_read qh_read qh_bad qh_at qtd_read qtd_bad qtd_at
    first_bad_bit words_in advanced
its_queue_rests x read = ap (λ (y : Qh). y.token.halted) (sym (same_Some _ x read))

it_goes_on : (x : Endpoint) → slice_get (keyed_at 22).driver.endpoints 0 ≡ Some x → x.ended ≡ None
unfolding ticks carried_from lowest_run filled with_words_in store_words lend_runs qh_words qtd_words token_word token_at link_word
    qtd_link_word
    predecessors frames word_after before_the behind_the link_read qtd_link_read qh_read qh_bad qh_at qtd_read qtd_bad qtd_at
    first_bad_bit words_in advanced
it_goes_on x here = ap (λ (y : Endpoint). y.ended) (sym (same_Some _ x here))

pub keyboard_has_unfinished : HasUnfinished (fixed_of one_keyboard) (keyed_at 22) 0 130
keyboard_has_unfinished =
    let d = keyboard_is_due_at_begin in
    record {
      placement = d.due.placement;
      there = d.due.there;
      active = d.active;
      high = d.due.high;
      bit = d.due.bit;
      free = d.due.free;
      queue = d.due.transfer.queue;
      read = d.due.transfer.read;
      unhalted = its_queue_rests d.due.transfer.queue d.due.transfer.read;
      goes_on = it_goes_on d.due.there.endpoint d.due.there.here;
      unfinished = key_is_unfinished;
      ready = λ v next.
          subst (CanMove (fixed_of one_keyboard) (keyed_at 22).bus d.due.there.endpoint.desc.name)
          (comes_to_one (keyed_at 22).memory d.due.transfer.queue d.due.transfer.works v d.due.transfer.next next) d.due.transfer.ready;
    }

-- .. but not where its second packet is lost
pub lost_has_none_ready : HasUnfinished (fixed_of with_loss) (keyed_at 22) 0 130 → ⊥
lost_has_none_ready h =
    let d = keyboard_is_due_at_begin in
    let queue : d.due.transfer.queue ≡ h.queue = same_Some d.due.transfer.queue h.queue (sym d.due.transfer.read ∙ h.read) in
    let next : ComesTo (keyed_at 22).memory h.queue d.due.transfer.works =
    subst (λ (q : Qh). ComesTo (keyed_at 22).memory q d.due.transfer.works) queue d.due.transfer.next in
    lost_cant_move d.due.transfer.works
    (subst (λ (n : EpName). CanMove (fixed_of with_loss) (keyed_at 22).bus n d.due.transfer.works)
    (its_name h.there.endpoint h.there.here) (h.ready d.due.transfer.works next))
