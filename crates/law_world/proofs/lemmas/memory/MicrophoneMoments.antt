-- The moments of the script with a microphone.
use Rattle.std.proofs.Common.{◌≡◌, Some, None, refl}
use Rattle.word_mem.specs.Memory.{filled, word_at}
use Rattle.word_mem.specs.Views.{with_words_in}
use Rattle.word_mem.specs.Free.{lowest_run}
use Rattle.link_words.specs.Links.{link_word}
use Rattle.itd_sitd.specs.Slot.{slot_word}
use Rattle.drv_chains.specs.Chains.{word_after, before_the, behind_the, predecessors}
use Rattle.drv_chains.specs.Order.{frames}
use Rattle.drv_periodic_table.specs.Descriptors.{slots_before}
use Rattle.itd_sitd.specs.Itd.{itd_words}
use Rattle.qh_qtd.specs.QueueHead.{qh_words}
use Rattle.mem_runs.specs.Book.{lend_runs, store_words}
use Rattle.drv_table.specs.declared.content.Command.TheVariants as unfinished
use Rattle.drv_table.specs.declared.rows.DriverRow.TheVariants as rows
use Rattle.drv_table.specs.IsoOffers.{all_descriptors}
use Rattle.drv_table.specs.FrameChoice.{with_frames, linked_descriptors}
use Rattle.bus_world.specs.Orders.{ticks}
use Rattle.law_world.specs.memory.MicrophoneSamples.{heard_at, heard_row}

pub a_descriptor :
    ((heard_at 1).driver.command ≡ Some (unfinished.Iso 0 0 1))
    × (heard_row 1 ≡ rows.Frames)
    × (heard_row 2 ≡ rows.LendDescriptors)
    × (heard_row 3 ≡ rows.Store 0 8 4160)
    × ((heard_at 4).driver.command ≡ None)
    × (word_at (heard_at 4).memory 8 ≡ 4160)
    × (word_at (heard_at 4).memory 4160 ≡ 1)
unfolding ticks lowest_run filled with_words_in store_words lend_runs qh_words all_descriptors with_frames linked_descriptors itd_words slot_word link_word slots_before predecessors frames word_after before_the behind_the
a_descriptor = (refl, refl, refl, refl, refl, refl, refl)
