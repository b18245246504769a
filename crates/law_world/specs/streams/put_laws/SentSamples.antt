-- Drivers for worked rows. Each has one endpoint, number 2 of device 5: its queue head in block 2, and its inactive qTD in block 9.
--     one_endpoint way c     it has data go this way, and this command is unfinished
--     left_second            the second qTD of its queue, done with a byte left
use Rattle.std.specs.Prelude.{[], ◌∷◌, ◌++◌, Option}
use Rattle.usb_base.specs.declared.packets.Way.{Way}
use Rattle.qh_qtd.specs.Blank.{blank_token}
use Rattle.qh_qtd.specs.declared.qtd.Qtd.{Qtd}
use Rattle.drv_table.specs.declared.content.Command.{Command}
use Rattle.drv_table.specs.DriverContent.{DriverContent}
use Rattle.drv_table.specs.Offers.{new_endpoint}
use Rattle.drv_table.specs.Opening.{opening}
use Rattle.law_driver.specs.run_owners.Worked.{bulk}
use Rattle.law_structures.specs.lent_structures.Structures.{StructureSets}
use Rattle.law_ring.specs.Hand.{Empty}
use Rattle.law_queues.specs.whole_sends.Samples.{order, ahead, behind, second}
use Rattle.law_world.specs.streams.put_laws.Sent.{SentStand}
use Rattle.usb_base.specs.Rules.{first_rules}

abbrev pub one_endpoint : Way → Option Command → DriverContent
one_endpoint way c =
    record (opening 2048 (record { endpoints = 4; transfers = 8; reports = 8; report_bytes = 4096; rules = first_rules })).driver {
      endpoints = new_endpoint (record bulk { name = record { addr = 5; num = 2; way = way } }) 2 9 ∷ [];
      command = c;
    }

abbrev pub left_second : Qtd
left_second = record second { token = record blank_token { cerr = 3; total = 1 } }

-- with the three qTDs out that the samples of whole_sends have
abbrev pub Sends : DriverContent → StructureSets → Type 0
Sends d parts = SentStand d (λ n. order) (λ n. ahead ++ behind) Empty parts
