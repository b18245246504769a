-- How many events are ahead in the script with a keyboard and a disk.
use Rattle.std.proofs.Common.{◌≡◌, ℕ, suc, List, ap, ◌∙◌, refl}
use Rattle.word_mem.specs.Memory.{filled}
use Rattle.word_mem.specs.Views.{words_in, with_words_in}
use Rattle.word_mem.specs.Free.{lowest_run}
use Rattle.link_words.specs.Links.{link_word, qtd_link_word, link_read, qtd_link_read}
use Rattle.link_words.specs.Layout.{first_bad_bit}
use Rattle.drv_chains.specs.Chains.{word_after, before_the, behind_the, predecessors}
use Rattle.drv_chains.specs.Order.{frames}
use Rattle.qh_qtd.specs.Token.{token_word, token_at}
use Rattle.qh_qtd.specs.Qtd.{qtd_words, qtd_read, qtd_bad, qtd_at}
use Rattle.qh_qtd.specs.QueueHead.{qh_words, qh_read, qh_bad, qh_at}
use Rattle.mem_runs.specs.Book.{lend_runs, store_words}
use Rattle.async_walk.specs.Naks.{reloaded}
use Rattle.bus_world.specs.Orders.{ticks}
use Rattle.bus_world.specs.World.{World}
use Rattle.law_world.specs.memory.Samples.{keyboard_and_disk, typed_at}
use Rattle.law_world.proofs.lemmas.memory.Sampled.{typed_moment}
use Rattle.claims_world.specs.Carried.{carried_from}
use Rattle.claims_world.specs.Visits.{visited}
use Rattle.law_microframes.specs.visits.VisitSamples.{typed_visits}
use Rattle.law_microframes.proofs.lemmas.visits.VisitSampled.{its_visits}
use Rattle.law_microframes.specs.time.Rounds.{round}
use Rattle.law_microframes.specs.time.RoundSamples.{typed_rounds}
use Rattle.law_microframes.proofs.lemmas.time.RoundSampled.{its_rounds}
use Rattle.law_microframes.specs.time.HeadReads.{heads}
use Rattle.law_microframes.proofs.lemmas.time.HeadSampled.{its_reads}
use Rattle.law_microframes.specs.time.Ahead.{events_ahead, ahead}
use Rattle.claims_world.specs.Microframes.{microframe_whole}
use Rattle.law_microframes.specs.time.TurnSamples.{typed_ahead}

pub its_events_ahead : (k : ℕ) → ahead keyboard_and_disk (suc k) ≡ typed_ahead k
unfolding ahead
its_events_ahead k =
    ap (λ (w : World). events_ahead w.control (visited keyboard_and_disk (suc k)) (round keyboard_and_disk (suc k)) (heads keyboard_and_disk (suc k))) (typed_moment k)
    ∙ ap (λ (vs : List ℕ). events_ahead (typed_at k).control vs (round keyboard_and_disk (suc k)) (heads keyboard_and_disk (suc k))) (its_visits k)
    ∙ ap (λ (rs : List ℕ). events_ahead (typed_at k).control (typed_visits k) rs (heads keyboard_and_disk (suc k))) (its_rounds k)
    ∙ ap (λ (n : ℕ). events_ahead (typed_at k).control (typed_visits k) (typed_rounds k) n) (its_reads k)

pub whole_is : microframe_whole ≡ 17957822
whole_is = refl

pub they_fall :
    (typed_ahead 25 ≡ 17957822)
    × (typed_ahead 26 ≡ 17957821)
    × (typed_ahead 28 ≡ 17957820)
    × (typed_ahead 30 ≡ 17957817)
    × (typed_ahead 32 ≡ 17695255)
    × (typed_ahead 36 ≡ 17695251)
    × (typed_ahead 38 ≡ 17695248)
    × (typed_ahead 40 ≡ 17957822)
unfolding ticks carried_from lowest_run filled with_words_in store_words lend_runs qh_words qtd_words token_word token_at link_word qtd_link_word predecessors frames word_after before_the behind_the link_read qtd_link_read qh_read qh_bad qh_at qtd_read qtd_bad qtd_at first_bad_bit words_in reloaded
they_fall = (refl, refl, refl, refl, refl, refl, refl, refl)
