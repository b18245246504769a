-- How often the head of the ring was read in the script with a keyboard and a disk.
use Rattle.std.proofs.Common.{◌≡◌, ℕ, suc, refl}
use Rattle.usb_base.specs.declared.commands.Cmd.TheVariants as commands
use Rattle.word_mem.specs.Memory.{filled}
use Rattle.word_mem.specs.Views.{words_in, with_words_in}
use Rattle.word_mem.specs.Free.{lowest_run}
use Rattle.link_words.specs.Links.{link_word, qtd_link_word, link_read, qtd_link_read}
use Rattle.link_words.specs.Layout.{first_bad_bit}
use Rattle.drv_chains.specs.Chains.{word_after, before_the, behind_the, predecessors}
use Rattle.drv_chains.specs.Order.{frames}
use Rattle.qh_qtd.specs.Token.{token_word, token_at}
use Rattle.qh_qtd.specs.Qtd.{qtd_words, qtd_read, qtd_bad, qtd_at}
use Rattle.qh_qtd.specs.QueueHead.{qh_words, qh_read, qh_bad, qh_at}
use Rattle.mem_runs.specs.Book.{lend_runs, store_words}
use Rattle.async_walk.specs.Naks.{reloaded}
use Rattle.bus_wire.specs.Bus.{fixed_of}
use Rattle.bus_world.specs.Opening.{opening_world}
use Rattle.bus_world.specs.Orders.{orders_of}
use Rattle.law_world.specs.memory.Samples.{keyboard, keyboard_and_disk, after_the_open}
use Rattle.claims_world.specs.Carried.{carried_from}
use Rattle.law_microframes.proofs.lemmas.visits.VisitSampled.{answered, accepted}
use Rattle.law_microframes.specs.time.HeadReads.{heads_next, heads}
use Rattle.law_microframes.specs.time.HeadSamples.{typed_heads}

pub its_reads : (k : ℕ) → heads keyboard_and_disk (suc k) ≡ typed_heads k
its_reads k = answered heads_next (fixed_of keyboard_and_disk) (opening_world keyboard_and_disk) 6 (commands.OpenEp keyboard) (orders_of after_the_open) _ 0 k accepted

pub read_twice : (typed_heads 30 ≡ 0) × (typed_heads 32 ≡ 1) × (typed_heads 38 ≡ 1) × (typed_heads 40 ≡ 2)
unfolding carried_from lowest_run filled with_words_in store_words lend_runs qh_words qtd_words token_word token_at link_word qtd_link_word predecessors frames word_after before_the behind_the link_read qtd_link_read qh_read qh_bad qh_at qtd_read qtd_bad qtd_at first_bad_bit words_in reloaded
read_twice = (refl, refl, refl, refl)
