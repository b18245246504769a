-- Endpoints for worked rows: one is in the ring, one was cancelled and is still there, one has left the ring and waits, one was given back, and one has a
-- stall behind it and was then cancelled.
use Rattle.std.specs.Prelude.{true, false, [], ◌∷◌, Some}
use Rattle.usb_base.specs.declared.endpoints.EndCause.TheVariants as causes
use Rattle.drv_table.specs.declared.content.Endpoint.{Endpoint}
use Rattle.drv_table.specs.DriverContent.{DriverContent}
use Rattle.drv_table.specs.Opening.{opening}
use Rattle.usb_base.specs.Rules.{first_rules}

abbrev pub cancelled : Endpoint → Endpoint
cancelled x = record x { ended = Some causes.Cancel; cancelled = true }

abbrev pub left : Endpoint → Endpoint
left x = record (cancelled x) { linked = false }

abbrev pub given_back : Endpoint → Endpoint
given_back x = record (left x) { gone = true }

abbrev pub stalled : Endpoint → Endpoint
stalled x = record x { ended = Some causes.Stall; cancelled = true; linked = false }

-- endpoint 1 waits for the doorbell, endpoint 2 was there when it was rung
abbrev pub leaving_driver : DriverContent
leaving_driver = record (opening 2048 (record { endpoints = 4; transfers = 8; reports = 8; report_bytes = 4096; rules = first_rules })).driver { waiting = 1 ∷ []; rung = 2 ∷ [] }
