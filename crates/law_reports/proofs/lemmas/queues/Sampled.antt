-- What the keyboard's queue head comes to.
use Rattle.std.proofs.Common.{◌≡◌, ℕ, ◌<◌, false, Some, refl, arith}
use Rattle.word_mem.specs.Memory.{filled}
use Rattle.word_mem.specs.Views.{words_in, with_words_in}
use Rattle.word_mem.specs.Free.{lowest_run}
use Rattle.link_words.specs.Links.{link_word, qtd_link_word, link_read}
use Rattle.link_words.specs.Layout.{first_bad_bit}
use Rattle.drv_chains.specs.Chains.{word_after, before_the, behind_the, predecessors}
use Rattle.drv_chains.specs.Order.{frames}
use Rattle.qh_qtd.specs.Token.{token_word, token_at}
use Rattle.qh_qtd.specs.Qtd.{qtd_words, qtd_read, qtd_bad, qtd_at}
use Rattle.qh_qtd.specs.QueueHead.{qh_words, qh_read, qh_bad, qh_at}
use Rattle.mem_runs.specs.Book.{lend_runs, store_words}
use Rattle.mem_queues.specs.Structures.{queue_head_at_address}
use Rattle.periodic_walk.specs.Walk.{held_address}
use Rattle.bus_world.specs.Orders.{ticks}
use Rattle.claims_world.specs.Unfinished.{IsStoring, IsUnfinished, GoesOnToWork, works, goes_on}
use Rattle.law_reports.specs.queues.Samples.{key_world, key_transfer, key_queue, key_qtd, ended_queue, visited_world, copy_in}

no_less : (i : ℕ) → i < 0 → ⊥
no_less i less = omega (arith, less)

key_stored : IsStoring key_world.driver 0 → ⊥
unfolding ticks lowest_run filled with_words_in store_words lend_runs qh_words qtd_words token_word token_at link_word qtd_link_word
    predecessors frames word_after before_the behind_the link_read
key_stored k = let none = k.command in cc

pub key_unfinished : IsUnfinished key_world.driver key_world.memory 0
unfolding ticks lowest_run filled with_words_in store_words lend_runs qh_words qtd_words token_word token_at link_word qtd_link_word
    predecessors frames word_after before_the behind_the link_read qtd_read qtd_bad qtd_at first_bad_bit words_in
key_unfinished = record {
  number = 0;
  transfer = key_transfer;
  here = refl;
  endpoint = refl;
  sort = refl;
  held = refl;
  stored = key_stored;
  piece = 0;
  below = omega arith;
  qtd = key_qtd;
  read = refl;
  active = refl;
  whole = λ i t less found off. absurd (no_less i less);
}

pub key_read : (queue_head_at_address key_world.memory 4160 ≡ Some key_queue) × (key_queue.token.halted ≡ false)
unfolding ticks lowest_run filled with_words_in store_words lend_runs qh_words qtd_words token_word token_at link_word qtd_link_word
    predecessors frames word_after before_the behind_the link_read qh_read qh_bad qh_at first_bad_bit words_in
key_read = (refl, refl)

pub key_comes : GoesOnToWork key_world.memory key_queue
unfolding ticks lowest_run filled with_words_in store_words lend_runs qh_words qtd_words token_word token_at link_word qtd_link_word
    predecessors frames word_after before_the behind_the link_read qh_read qh_bad qh_at qtd_read qtd_bad qtd_at first_bad_bit words_in
key_comes = goes_on 4224 key_qtd refl refl refl refl refl

none_comes : (b : ℕ) → GoesOnToWork key_world.memory ended_queue → ⊥
unfolding ticks lowest_run filled with_words_in store_words lend_runs qh_words qtd_words token_word token_at link_word qtd_link_word
    predecessors frames word_after before_the behind_the link_read qh_read qh_bad qh_at first_bad_bit words_in
none_comes b (works on) = cc
none_comes b (goes_on a t off leads found on unhalted) = cc

pub ended_comes_to_none : GoesOnToWork key_world.memory ended_queue → ⊥
ended_comes_to_none k = none_comes 0 k

pub copy_comes : (held_address visited_world.control.frame.hand ≡ Some 4160)
    × GoesOnToWork visited_world.memory (copy_in visited_world.control.frame.hand)
unfolding ticks lowest_run filled with_words_in store_words lend_runs qh_words qtd_words token_word token_at link_word qtd_link_word
    predecessors frames word_after before_the behind_the link_read qh_read qh_bad qh_at qtd_read qtd_bad qtd_at first_bad_bit words_in
copy_comes = (refl, goes_on 4224 key_qtd refl refl refl refl refl)
