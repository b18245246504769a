-- Reports of a script of a device with an IN endpoint and an OUT endpoint, for worked rows.
--     told_with closings        both transfers are told to be done, and these lines close the report
--     ended_with closings       the OUT endpoint is told to have halted
--     took bytes                the device, once it took these bytes
use Rattle.std.specs.Prelude.{ℕ, List, [], ◌∷◌}
use Rattle.usb_base.specs.declared.packets.Speed.TheVariants.{High}
use Rattle.usb_base.specs.declared.endpoints.EndCause.TheVariants.{Error}
use Rattle.usb_base.specs.declared.reports.What.TheVariants.{Done, Halt}
use Rattle.endpoint_script.specs.declared.endpoint.Role.TheVariants.{Takes}
use Rattle.endpoint_script.specs.Device.{Device}
use Rattle.endpoint_script.specs.Taking.{taking_at}
use Rattle.claims_report.specs.Reports.{Closing, WholeReport}
use Rattle.claims_report.specs.Samples.{line_of, report_of, sender, receiver, bulk}

abbrev pub told_with : List Closing → WholeReport
told_with closings = report_of (line_of sender Done 0 2 ∷ line_of receiver Done 2 1 ∷ []) (1 ∷ 2 ∷ 9 ∷ []) closings

abbrev pub ended_with : List Closing → WholeReport
ended_with closings = report_of (line_of receiver (Halt Error) 0 1 ∷ []) (9 ∷ []) closings

abbrev pub took : List ℕ → Device
took bytes = record {
  address = 3;
  speed = High;
  endpoints = record { desc = bulk receiver; part = Takes (record (taking_at [] 0) { taken = bytes }) } ∷ [];
}
