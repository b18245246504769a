-- A controller and a driver for worked rows, whose doorbell is pending. Of its bulk endpoints one is in the ring, with its queue head in block 130, one has
-- left it and waits for the next doorbell, in block 140, and one had left before this one, in block 150, where the walk stands.
--     new_parts                    driver, registers and memory when the driver was built
--     ringing_driver, ringing      the content of that driver, and that of the controller, in the asynchronous part of a microframe
--     at_head, answered            the controller's content once the walk came to the head, and once the head was read
use Rattle.std.specs.Prelude.{true, false, List, [], ◌∷◌}
use Rattle.link_words.specs.declared.kinds.Link.TheVariants as links
use Rattle.op_registers.specs.RegisterFile.{RegisterFile}
use Rattle.op_registers.specs.Events.{after_advance}
use Rattle.async_walk.specs.declared.state.Cursor.TheVariants as cursors
use Rattle.async_walk.specs.Walk.{Walk, new_walk}
use Rattle.hc_core.specs.declared.controller.MicroframePart.TheVariants.{Asynchronous}
use Rattle.hc_core.specs.Controller.{Content, content, new_control}
use Rattle.drv_table.specs.declared.content.Bell.TheVariants as bells
use Rattle.drv_table.specs.declared.content.Endpoint.{Endpoint}
use Rattle.drv_table.specs.DriverContent.{DriverContent}
use Rattle.drv_table.specs.Offers.{new_endpoint}
use Rattle.drv_table.specs.Opening.{opening, opening_registers, opening_memory}
use Rattle.drv_table.specs.Parts.{Parts}
use Rattle.law_driver.specs.run_owners.Worked.{bulk, busy_driver}
use Rattle.usb_base.specs.Rules.{first_rules}

abbrev pub new_parts : Parts
new_parts = opening 2048 (record { endpoints = 4; transfers = 8; reports = 8; report_bytes = 4096; rules = first_rules })

abbrev pub ringing_endpoints : List Endpoint
ringing_endpoints =
    new_endpoint bulk 130 133
    ∷ record (new_endpoint bulk 140 142) { linked = false; cancelled = true }
    ∷ record (new_endpoint bulk 150 152) { linked = false; cancelled = true }
    ∷ []

abbrev pub ringing_driver : DriverContent
ringing_driver = record busy_driver { endpoints = ringing_endpoints; waiting = 1 ∷ []; rung = 2 ∷ []; bell = bells.Rung }

abbrev pub ringing_registers : RegisterFile
ringing_registers = record opening_registers { doorbell = true }

-- the queue head in block 150 begins at 4800
abbrev pub ringing_walk : Walk
ringing_walk = record new_walk { cursor = cursors.At (links.Qh 4800) }

abbrev pub ringing : Content
ringing = content (record new_control { part = Asynchronous; walk = ringing_walk }) ringing_registers (opening_memory 2048)

abbrev pub at_head : Content
at_head = content (record new_control { part = Asynchronous; walk = new_walk }) ringing_registers (opening_memory 2048)

abbrev pub answered : Content
answered = content (record new_control { part = Asynchronous; walk = new_walk }) (after_advance ringing_registers) (opening_memory 2048)
