-- The rounds of the script with a keyboard and a disk.
use Rattle.std.proofs.Common.{◌≡◌, ℕ, suc, [], ◌∷◌, refl}
use Rattle.usb_base.specs.declared.commands.Cmd.TheVariants as commands
use Rattle.word_mem.specs.Memory.{filled}
use Rattle.word_mem.specs.Views.{words_in, with_words_in}
use Rattle.word_mem.specs.Free.{lowest_run}
use Rattle.link_words.specs.Links.{link_word, qtd_link_word, link_read, qtd_link_read}
use Rattle.link_words.specs.Layout.{first_bad_bit}
use Rattle.drv_chains.specs.Chains.{word_after, before_the, behind_the, predecessors}
use Rattle.drv_chains.specs.Order.{frames}
use Rattle.qh_qtd.specs.Token.{token_word, token_at}
use Rattle.qh_qtd.specs.Qtd.{qtd_words, qtd_read, qtd_bad, qtd_at}
use Rattle.qh_qtd.specs.QueueHead.{qh_words, qh_read, qh_bad, qh_at}
use Rattle.mem_runs.specs.Book.{lend_runs, store_words}
use Rattle.async_walk.specs.Naks.{reloaded}
use Rattle.bus_wire.specs.Bus.{fixed_of}
use Rattle.bus_world.specs.Opening.{opening_world}
use Rattle.bus_world.specs.Orders.{orders_of}
use Rattle.law_world.specs.memory.Samples.{keyboard, keyboard_and_disk, after_the_open}
use Rattle.claims_world.specs.Carried.{carried_from}
use Rattle.law_microframes.proofs.lemmas.visits.VisitSampled.{answered, accepted}
use Rattle.law_microframes.specs.time.Rounds.{round_next, round}
use Rattle.law_microframes.specs.time.RoundSamples.{typed_rounds}

pub its_rounds : (k : ℕ) → round keyboard_and_disk (suc k) ≡ typed_rounds k
its_rounds k = answered round_next (fixed_of keyboard_and_disk) (opening_world keyboard_and_disk) 6 (commands.OpenEp keyboard) (orders_of after_the_open) _ [] k accepted

pub a_round : (typed_rounds 30 ≡ []) × (typed_rounds 32 ≡ 4096 ∷ []) × (typed_rounds 36 ≡ 4256 ∷ 4096 ∷ []) × (typed_rounds 38 ≡ 4256 ∷ 4096 ∷ []) × (typed_rounds 40 ≡ 4096 ∷ [])
unfolding carried_from lowest_run filled with_words_in store_words lend_runs qh_words qtd_words token_word token_at link_word qtd_link_word predecessors frames word_after before_the behind_the link_read qtd_link_read qh_read qh_bad qh_at qtd_read qtd_bad qtd_at first_bad_bit words_in reloaded
a_round = (refl, refl, refl, refl, refl)
