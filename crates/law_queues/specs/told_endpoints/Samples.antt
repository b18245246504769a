-- Endpoints of worked rows.
--     only_sender ended      one endpoint, of number 0
use Rattle.std.specs.Prelude.{ℕ, true, ◌==◌, Option, Some, None, if◌then◌else◌}
use Rattle.usb_base.specs.declared.endpoints.EndCause.{EndCause}
use Rattle.claims_report.specs.Samples.{sender}
use Rattle.law_queues.specs.told_endpoints.Telling.{Named}

abbrev pub only_sender : Option EndCause → ℕ → Option Named
only_sender ended e = if e == 0 then Some (record { name = sender; stream = true; ended = ended }) else None
