-- Worlds and reports of a device with an OUT endpoint, for worked rows.
--     refused_with closings     the put of a byte is refused, and these lines close the report
--     requested                 a script with IN and OUT endpoints that opens a control endpoint too, and makes a read of it
--     stalled_with closings     the read answers STALL, the get and the put are done, and these lines close the report
--     once_took bytes           the world after two puts, of which the second was refused, once the device took these bytes
use Rattle.std.specs.Prelude.{ℕ, List, [], ◌∷◌, ◌++◌}
use Rattle.usb_base.specs.declared.commands.Cmd.TheVariants.{OpenEp, Control}
use Rattle.usb_base.specs.declared.endpoints.EndCause.TheVariants.{Stall}
use Rattle.usb_base.specs.declared.packets.EpKind.TheVariants as kinds
use Rattle.usb_base.specs.declared.reports.OfferError.TheVariants.{Busy}
use Rattle.usb_base.specs.declared.reports.What.TheVariants.{Done, Halt, Refused}
use Rattle.script_types.specs.declared.scripts.Script.{Script}
use Rattle.claims_report.specs.Reports.{Closing, WholeReport}
use Rattle.claims_report.specs.Samples.{commanded, desc_of, line_of, report_of, sender, receiver, control, read_two}
use Rattle.law_world.specs.streams.right_reports.Samples.{both_ways}
use Rattle.bus_world.specs.World.{World}
use Rattle.law_world.specs.streams.taken_reports.Samples.{took}
use Rattle.law_world.specs.streams.put_laws.TakenSamples.{after}

-- the put is on line 8
abbrev pub refused_with : List Closing → WholeReport
refused_with closings = report_of (line_of receiver (Refused 8 Busy) 0 0 ∷ []) [] closings

abbrev pub requested : Script
requested = record both_ways { lines = commanded 4 (OpenEp (record (desc_of control kinds.Control) { max = 64 })) ∷ (both_ways.lines ++ commanded 9 (Control control read_two []) ∷ []) }

abbrev pub stalled_with : List Closing → WholeReport
stalled_with closings = report_of (line_of sender Done 0 2 ∷ line_of receiver Done 2 1 ∷ line_of control (Halt Stall) 3 0 ∷ []) (1 ∷ 2 ∷ 9 ∷ []) closings

abbrev pub once_took : List ℕ → World
once_took bytes = record ((after 6).world) { bus = record ((after 6).world.bus) { devices = took bytes ∷ [] } }
