-- A driver for worked rows: of its bulk endpoints one is in the ring, with its queue head in block 130, one has left it and waits for the next doorbell, in
-- block 140, and one had left before the pending doorbell, in block 150. An interrupt endpoint, in block 136, is in no ring.
use Rattle.std.specs.Prelude.{true, false, List, [], ◌∷◌}
use Rattle.drv_table.specs.declared.content.Endpoint.{Endpoint}
use Rattle.drv_table.specs.DriverContent.{DriverContent}
use Rattle.drv_table.specs.Offers.{new_endpoint}
use Rattle.law_driver.specs.run_owners.Worked.{bulk, interrupt, busy_driver}

abbrev pub leaving_endpoints : List Endpoint
leaving_endpoints =
    new_endpoint bulk 130 133
    ∷ record (new_endpoint interrupt 136 135) { linked = false; chained = true }
    ∷ record (new_endpoint bulk 140 142) { linked = false; cancelled = true }
    ∷ record (new_endpoint bulk 150 152) { linked = false; cancelled = true }
    ∷ []

abbrev pub leaving_driver : DriverContent
leaving_driver = record busy_driver { endpoints = leaving_endpoints; waiting = 2 ∷ []; rung = 3 ∷ [] }
