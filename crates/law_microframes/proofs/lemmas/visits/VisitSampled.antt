-- The visits of the script with a keyboard and a disk.
use Rattle.std.proofs.Common.{◌≡◌, ℕ, suc, List, [], ◌∷◌, Result, Ok, ap, refl}
use Rattle.usb_base.specs.declared.commands.Cmd.{Cmd}
use Rattle.usb_base.specs.declared.commands.Cmd.TheVariants as commands
use Rattle.usb_base.specs.declared.reports.OfferError.{OfferError}
use Rattle.word_mem.specs.Memory.{filled}
use Rattle.word_mem.specs.Views.{words_in, with_words_in}
use Rattle.word_mem.specs.Free.{lowest_run}
use Rattle.link_words.specs.Links.{link_word, qtd_link_word, link_read}
use Rattle.link_words.specs.Layout.{first_bad_bit}
use Rattle.drv_chains.specs.Chains.{word_after, before_the, behind_the, predecessors}
use Rattle.drv_chains.specs.Order.{frames}
use Rattle.qh_qtd.specs.Token.{token_word, token_at}
use Rattle.qh_qtd.specs.Qtd.{qtd_words}
use Rattle.qh_qtd.specs.QueueHead.{qh_words, qh_read, qh_bad, qh_at}
use Rattle.mem_runs.specs.Book.{lend_runs, store_words}
use Rattle.bandwidth.specs.declared.placements.Placement.{Placement}
use Rattle.bandwidth.specs.declared.placements.Refused.{Refused}
use Rattle.drv_table.specs.Accepting.{Offered}
use Rattle.drv_table.specs.Offers.{offered, planned_open}
use Rattle.bus_wire.specs.Bus.{Fixed, fixed_of}
use Rattle.bus_world.specs.World.{World, name_in, commanded_by}
use Rattle.bus_world.specs.Opening.{opening_world}
use Rattle.bus_world.specs.Orders.{Left, Command, at_place, orders_of}
use Rattle.law_world.specs.memory.Samples.{keyboard, keyboard_place, keyboard_and_disk, after_the_open}
use Rattle.law_world.proofs.lemmas.memory.SampledPlace.{plans_first}
use Rattle.claims_world.specs.Carried.{carried_from}
use Rattle.claims_world.specs.Visits.{visits_next, visited}
use Rattle.law_microframes.specs.visits.VisitSamples.{typed_visits}

pub answered : {X : Type 0} (by : Fixed → World → X → X) (fixed : Fixed) (w : World) (n : ℕ) (cmd : Cmd) (rest : List Left) (r : Result Offered OfferError) (x : X) (k : ℕ)
    → offered w.driver w.memory cmd ≡ r → carried_from by fixed (at_place w (Command n cmd ∷ rest)) x (suc k) ≡ carried_from by fixed (at_place (commanded_by w n (name_in cmd) r) rest) x k
unfolding carried_from
answered by fixed w n cmd rest r x k is = ap (λ (a : Result Offered OfferError). carried_from by fixed (at_place (commanded_by w n (name_in cmd) a) rest) x k) is

pub accepted : offered (opening_world keyboard_and_disk).driver (opening_world keyboard_and_disk).memory (commands.OpenEp keyboard)
    ≡ planned_open (opening_world keyboard_and_disk).driver (opening_world keyboard_and_disk).memory keyboard (Ok keyboard_place)
accepted =
    ap (λ (a : Result Placement Refused). planned_open (opening_world keyboard_and_disk).driver (opening_world keyboard_and_disk).memory keyboard a) plans_first

pub its_visits : (k : ℕ) → visited keyboard_and_disk (suc k) ≡ typed_visits k
its_visits k = answered visits_next (fixed_of keyboard_and_disk) (opening_world keyboard_and_disk) 6 (commands.OpenEp keyboard) (orders_of after_the_open) _ [] k accepted

pub a_visit : (typed_visits 26 ≡ []) × (typed_visits 28 ≡ 4160 ∷ []) × (typed_visits 30 ≡ 4160 ∷ [])
unfolding carried_from lowest_run filled with_words_in store_words lend_runs qh_words qtd_words token_word token_at link_word qtd_link_word predecessors frames word_after before_the behind_the link_read qh_read qh_bad qh_at first_bad_bit words_in
a_visit = (refl, refl, refl)
