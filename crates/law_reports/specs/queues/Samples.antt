-- A moment for worked rows: eight bytes were asked of the full-speed keyboard's endpoint, whose queue head stands at 4160; the qTD is
-- stored at 4224, and the queue head hasn't taken it yet.
--     key_world           the world then
--     key_transfer        the transfer
--     key_queue           its queue head, as memory has it
--     key_qtd             its qTD
--     ended_queue         the queue head, were its queue to end there
--     visited_world       a later world, in which the walk of the frames has the queue head in hand; copy_in hand: the copy
use Rattle.std.specs.Prelude.{Option, Some}
use Rattle.link_words.specs.Links.{no_qtd}
use Rattle.qh_qtd.specs.declared.qtd.Qtd.{Qtd}
use Rattle.qh_qtd.specs.declared.queue_head.Qh.{Qh}
use Rattle.qh_qtd.specs.Qtd.{qtd_at}
use Rattle.qh_qtd.specs.QueueHead.{qh_at}
use Rattle.word_mem.specs.Views.{words_at}
use Rattle.drv_table.specs.declared.content.Transfer.{Transfer}
use Rattle.periodic_walk.specs.declared.state.Hand.{Hand}
use Rattle.periodic_walk.specs.declared.state.Hand.TheVariants as hands
use Rattle.bus_world.specs.World.{World}
use Rattle.law_driver.specs.run_owners.Worked.{get_out}
use Rattle.law_world.specs.memory.Samples.{typed_at}

abbrev pub key_world : World
key_world = typed_at 24

abbrev pub key_transfer : Transfer
key_transfer = record get_out { most = 8 }

abbrev pub key_queue : Qh
key_queue = qh_at (words_at key_world.memory 4160 12)

abbrev pub key_qtd : Qtd
key_qtd = qtd_at (words_at key_world.memory 4224 8)

abbrev pub ended_queue : Qh
ended_queue = record key_queue { next = no_qtd }

abbrev pub visited_world : World
visited_world = typed_at 28

abbrev pub copy_in : Option Hand → Qh
copy_in (Some (hands.Queue h)) = h.copy.queue_head
copy_in _ = ended_queue
