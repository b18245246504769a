-- The visits of the keyboard's queue head, as it is linked.
use Rattle.std.proofs.Common.{◌≡◌, Some, None, inl, refl}
use Rattle.std.proofs.lemmas.Bool.{false≢true}
use Rattle.word_mem.specs.Memory.{filled}
use Rattle.word_mem.specs.Views.{words_in, with_words_in}
use Rattle.word_mem.specs.Free.{lowest_run}
use Rattle.link_words.specs.Links.{link_word, qtd_link_word, link_read, qtd_link_read}
use Rattle.link_words.specs.Layout.{first_bad_bit}
use Rattle.drv_chains.specs.Chains.{word_after, before_the, behind_the, predecessors}
use Rattle.drv_chains.specs.Order.{frames}
use Rattle.qh_qtd.specs.Token.{token_word, token_at}
use Rattle.qh_qtd.specs.Qtd.{qtd_words}
use Rattle.qh_qtd.specs.QueueHead.{qh_words, qh_read, qh_bad, qh_at}
use Rattle.mem_runs.specs.Book.{lend_runs, store_words}
use Rattle.hc_masks.specs.Masks.{lacks}
use Rattle.hc_interrupt.specs.declared.turns.Turn.TheVariants.{Work}
use Rattle.bus_world.specs.Orders.{ticks}
use Rattle.claims_world.specs.Carried.{carried_from}
use Rattle.claims_world.specs.Visits.{IsInChain, is_there, HasVisited, IsPastFrames}
use Rattle.law_world.specs.memory.Samples.{typed_at}
use Rattle.law_microframes.proofs.lemmas.visits.NoneLeft.{no_way}
use Rattle.law_microframes.specs.visits.VisitSamples.{typed_visits}
use Rattle.law_microframes.specs.worked_visits.Samples.{waiting_at, waiting_visits, turn_in}

-- ---- microframe 1

pub in_microframe_1 :
    IsInChain (typed_at 25) 0 4160
    × (IsInChain (typed_at 25) 1 4160 → ⊥)
    × (IsPastFrames (typed_at 26) → ⊥)
    × (HasVisited 4160 (typed_visits 26) → ⊥)
    × IsInChain (typed_at 30) 0 4160
    × IsPastFrames (typed_at 30)
    × HasVisited 4160 (typed_visits 30)
unfolding ticks carried_from lowest_run filled with_words_in store_words lend_runs qh_words qtd_words token_word token_at link_word
    qtd_link_word
    predecessors frames word_after before_the behind_the link_read qh_read qh_bad qh_at first_bad_bit words_in
in_microframe_1 = (
  is_there,
  λ led. no_way (typed_at 25).memory 4160 None refl led,
  λ past. false≢true (past refl),
  λ was. was,
  is_there,
  λ part. refl,
  inl refl,
)

-- ---- a complete-split

pub in_frame_128 :
    IsInChain (waiting_at 0) 128 4160
    × (IsPastFrames (waiting_at 1) → ⊥)
    × (HasVisited 4160 (waiting_visits 1) → ⊥)
    × IsInChain (waiting_at 2) 128 4160
    × HasVisited 4160 (waiting_visits 2)
unfolding ticks carried_from lowest_run filled with_words_in store_words lend_runs qh_words qtd_words token_word token_at link_word
    qtd_link_word
    predecessors frames word_after before_the behind_the link_read qtd_link_read qh_read qh_bad qh_at
    first_bad_bit words_in lacks
in_frame_128 = (is_there, λ past. false≢true (past refl), λ was. was, is_there, inl refl)

pub a_complete_split : turn_in (waiting_at 2).control.frame.hand 1026 ≡ Some Work
unfolding ticks carried_from lowest_run filled with_words_in store_words lend_runs qh_words qtd_words token_word token_at link_word
    qtd_link_word
    predecessors frames word_after before_the behind_the link_read qtd_link_read qh_read qh_bad qh_at
    first_bad_bit words_in lacks
a_complete_split = refl
