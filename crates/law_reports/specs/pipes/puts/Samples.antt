-- Samples of what is sent: a world whose one OUT endpoint at high speed has its queue head at 64.
--     standing_of parts       its standing over these structures, with the qTDs at 128, 192 and 256 published, and nothing in hand
--     cut_short               the second qTD, done with three bytes left
--     took_seven              a device that took the byte 7
--     with_puts ts            the driver of a world with the OUT endpoint of number 2 of device 2, and these transfers
--     one_put                 a transfer of that endpoint
--     lone_world              a world without devices, whose driver has the OUT endpoint of number 2 of device 2
use Rattle.std.specs.Prelude.{ℕ, true, false, List, [], ◌∷◌, ◌++◌, Option, Some, None}
use Rattle.qh_qtd.specs.Blank.{blank_token}
use Rattle.qh_qtd.specs.declared.qtd.Qtd.{Qtd}
use Rattle.law_structures.specs.lent_structures.Structures.{StructureSets}
use Rattle.law_ring.specs.Hand.{Empty}
use Rattle.law_ring.specs.Told.{endpoint_of}
use Rattle.law_ring.specs.OutBus.{Taker}
use Rattle.law_frames.specs.FrameHand.{Nothing}
use Rattle.drv_table.specs.declared.content.Transfer.{Transfer}
use Rattle.drv_table.specs.declared.content.Sort.TheVariants as sorts
use Rattle.drv_table.specs.DriverContent.{DriverContent}
use Rattle.law_queues.specs.whole_sends.Samples.{order, ahead, behind, second, working, member}
use Rattle.bus_world.specs.Opening.{opening_world}
use Rattle.bus_world.specs.World.{World}
use Rattle.law_driver.specs.queued_drivers.CommandsWorked.{second as its_endpoint}
use Rattle.law_driver.specs.run_owners.Worked.{busy_driver, get_out}
use Rattle.law_opened.specs.Samples.{sink}
use Rattle.law_reports.specs.pipes.Samples.{alone}
use Rattle.law_world.specs.memory.Mixed.{Standing}

abbrev pub standing_of : StructureSets → Standing
standing_of parts = record {
  member = member;
  near = member;
  streams = λ n. false;
  ends = λ n. endpoint_of working;
  recent = λ n. None;
  descs = λ n a. None;
  parts = parts;
  hand = Empty;
  frame = Nothing;
  order = λ n. order;
  out = λ n. ahead ++ behind;
}

abbrev pub cut_short : Qtd
cut_short = record second { token = record blank_token { cerr = 3; total = 3 } }

abbrev pub lone_world : World
lone_world = record (opening_world alone) {
  driver = record busy_driver { endpoints = record its_endpoint { desc = sink } ∷ [] };
}

abbrev pub took_seven : ℕ → ℕ → ℕ → Option Taker
took_seven w addr ep = Some (record { taken = 7 ∷ []; expects = true })

abbrev pub with_puts : List Transfer → DriverContent
with_puts ts = record busy_driver { endpoints = record its_endpoint { desc = sink } ∷ []; transfers = ts }

abbrev pub one_put : Transfer
one_put = record get_out { sort = sorts.Put }
