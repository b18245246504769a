-- The keyboard's transaction in microframe 1.
use Rattle.std.proofs.Common.{[], ◌∷◌, inl, refl, arith}
use Rattle.std.proofs.lemmas.Bool.{false≢true, true≢false}
use Rattle.word_mem.specs.Memory.{filled}
use Rattle.word_mem.specs.Views.{words_in, with_words_in}
use Rattle.word_mem.specs.Free.{lowest_run}
use Rattle.link_words.specs.Links.{link_word, qtd_link_word, link_read, qtd_link_read}
use Rattle.link_words.specs.Layout.{first_bad_bit}
use Rattle.drv_chains.specs.Chains.{word_after, before_the, behind_the, predecessors}
use Rattle.drv_chains.specs.Order.{frames}
use Rattle.qh_qtd.specs.Token.{token_word, token_at}
use Rattle.qh_qtd.specs.Qtd.{qtd_words, qtd_read, qtd_bad, qtd_at}
use Rattle.qh_qtd.specs.QueueHead.{qh_words, qh_read, qh_bad, qh_at}
use Rattle.mem_bytes.specs.Bytes.{places, all_reached, reached, stored, bytes_at, put_byte, put_bytes}
use Rattle.mem_runs.specs.Book.{lend_runs, store_words}
use Rattle.hc_copy.specs.Overlay.{advanced, moved, settled_queue}
use Rattle.hc_copy.specs.WriteBack.{overlay_after, written_back, raised}
use Rattle.hc_interrupt.specs.Copies.{with_split}
use Rattle.bus_wire.specs.Bus.{fixed_of}
use Rattle.bus_world.specs.Orders.{ticks}
use Rattle.claims_world.specs.Carried.{carried_from}
use Rattle.claims_world.specs.Visits.{IsPastFrames, HasVisited}
use Rattle.claims_world.specs.Coming.{IsInItsFrames}
use Rattle.claims_world.specs.Due.{takes, by_packet, IsDueNow, NoneIsLost}
use Rattle.claims_world.specs.SoFar.{HasFound, HasMoved}
use Rattle.law_microframes.specs.due.Samples.{keyboard, one_keyboard, keyboard_place, with_loss, keyed_at, keyed_so_far, keyed_visits, its_queue}

pub keyboard_is_due : IsDueNow (fixed_of one_keyboard) (keyed_at 23) 0 130
unfolding ticks carried_from lowest_run filled with_words_in store_words lend_runs qh_words qtd_words token_word token_at link_word
    qtd_link_word
    predecessors frames word_after before_the behind_the link_read qtd_link_read qh_read qh_bad qh_at qtd_read qtd_bad qtd_at
    first_bad_bit words_in advanced
keyboard_is_due = record {
  placement = _;
  there = record { endpoint = _; here = refl; chained = refl; kind = refl; queue = refl; placed = refl; idle = λ v is. absurd cc };
  high = refl;
  bit = refl;
  free = refl;
  transfer = record {
    queue = _;
    read = refl;
    works = _;
    next = takes _ _ refl refl refl refl (record { active = refl; unhalted = refl });
    ready = record {
      place = 0;
      part = _;
      heard = record {
        asked = refl;
        seat = _;
        seated = refl;
        named = refl;
        at = 0;
        owner = refl;
        device = _;
        there = refl;
        address = refl;
        endpoint = _;
        found = refl;
        does = refl;
      };
      answers = by_packet _ _ (0 ∷ 0 ∷ 4 ∷ 0 ∷ 0 ∷ 0 ∷ 0 ∷ 0 ∷ []) [] refl (omega arith) refl;
      packet = 0;
      next = refl;
      none_lost = λ i few. refl;
    };
  };
}

pub keyboard_is_found : HasFound its_queue (keyed_at 23) (keyed_so_far 24).found
unfolding ticks carried_from lowest_run filled with_words_in store_words lend_runs qh_words qtd_words token_word token_at link_word
    qtd_link_word
    predecessors frames word_after before_the behind_the link_read qtd_link_read qh_read qh_bad qh_at qtd_read qtd_bad qtd_at
    first_bad_bit words_in advanced
keyboard_is_found = inl (refl, refl)

pub keyboard_is_done :
    (HasMoved its_queue 8 (keyed_so_far 29).moved → ⊥)
    × (IsPastFrames (keyed_at 29) → ⊥)
    × IsPastFrames (keyed_at 30)
    × HasMoved its_queue 8 (keyed_so_far 30).moved
unfolding ticks carried_from lowest_run filled with_words_in store_words lend_runs qh_words qtd_words token_word token_at link_word
    qtd_link_word
    predecessors frames word_after before_the behind_the link_read qtd_link_read qh_read qh_bad qh_at qtd_read qtd_bad qtd_at
    first_bad_bit words_in advanced
    overlay_after with_split settled_queue written_back moved raised places all_reached reached stored bytes_at put_byte put_bytes
keyboard_is_done = (λ moved. moved, λ past. false≢true (past refl), λ part. refl, inl (refl, refl))

pub none_is_lost : NoneIsLost (fixed_of one_keyboard) keyboard.name 0
none_is_lost = λ i few. refl

pub one_is_lost : NoneIsLost (fixed_of with_loss) keyboard.name 0 → ⊥
one_is_lost = λ none. true≢false (none 1 (omega arith))

pub keyboard_is_there : IsInItsFrames (keyed_at 21).driver 0 130 keyboard_place
unfolding ticks carried_from lowest_run filled with_words_in store_words lend_runs qh_words qtd_words token_word token_at link_word
    qtd_link_word
    predecessors frames word_after before_the behind_the link_read qtd_link_read qh_read qh_bad qh_at qtd_read qtd_bad qtd_at
    first_bad_bit words_in advanced
keyboard_is_there = record { endpoint = _; here = refl; chained = refl; kind = refl; queue = refl; placed = refl; idle = λ v is. absurd cc }

pub keyboard_was_visited : HasVisited its_queue (keyed_visits 30)
unfolding ticks carried_from lowest_run filled with_words_in store_words lend_runs qh_words qtd_words token_word token_at link_word
    qtd_link_word
    predecessors frames word_after before_the behind_the link_read qtd_link_read qh_read qh_bad qh_at qtd_read qtd_bad qtd_at
    first_bad_bit words_in advanced
    overlay_after with_split settled_queue written_back moved raised places all_reached reached stored bytes_at put_byte put_bytes
keyboard_was_visited = inl refl

-- while it is being linked
pub keyboard_is_linked : IsInItsFrames (keyed_at 2).driver 0 130 keyboard_place → ⊥
unfolding ticks carried_from lowest_run filled with_words_in store_words lend_runs qh_words qtd_words token_word token_at link_word
    qtd_link_word
    predecessors frames word_after before_the behind_the link_read qtd_link_read qh_read qh_bad qh_at qtd_read qtd_bad qtd_at
    first_bad_bit words_in advanced
keyboard_is_linked = λ i. i.idle _ refl refl
