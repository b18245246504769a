-- A script for worked rows of a control request along its run (EHCI 1.0, 4.8 and 4.10; USB 2.0, 8.5.3): the control endpoint of device 3
-- is opened, and asked for 18 bytes, of which the device has two. The driver has two events for the open and nine for the request; then
-- come 19 events of the controller, three transactions among them: SETUP, the data and the status; and the driver reads what became of
-- each.
--     asked_once        the script
--     asked_windows k   the windows of its endpoint 0 at moment k
--     asked_lines       its lines, once all is carried out
--     its_window acts   its only request is the read, and these are the acts in its window
--     asked_cancelled   the script with a cancel behind it, two events of the driver and two microframes
--     cancelled_lines   its lines once all is carried out
--     asked_midway      the script with a cancel once the data came in, before the driver read anything
--     midway_lines      its lines once all is carried out
--     asked_hub         a script that opens the control endpoint of its hub 4
use Rattle.std.specs.Prelude.{ℕ, List, [], ◌∷◌}
use Rattle.usb_base.specs.declared.commands.Cmd.TheVariants as commands
use Rattle.usb_base.specs.declared.reports.Report.{Report}
use Rattle.usb_base.specs.declared.packets.Speed.TheVariants as speeds
use Rattle.script_types.specs.declared.devices.Item.TheVariants as items
use Rattle.script_types.specs.declared.scripts.Event.TheVariants as events
use Rattle.script_types.specs.declared.scripts.Line.TheVariants as lines
use Rattle.script_types.specs.declared.scripts.Script.{Script}
use Rattle.script_world.specs.Draft.{hub_desc}
use Rattle.claims_report.specs.Reports.{lines_of}
use Rattle.claims_report.specs.Requests.{Window}
use Rattle.claims_world.specs.Requests.{report_at, windows_then}
use Rattle.law_devices.specs.declared_controls.Samples.{zero, reading, beside_bulk}

abbrev pub asked_once : Script
asked_once = record beside_bulk {
  hubs = [];
  devices = record {
    addr = 3;
    speed = speeds.High;
    eps = record { desc = zero; items = items.Request reading (18 ∷ 1 ∷ []) ∷ []; room = 0; stuff = 0; clears = 0 } ∷ [];
  } ∷ [];
  endpoints = zero.name ∷ [];
  lines = (5, lines.Command (commands.OpenEp zero))
      ∷ (6, lines.Order events.D 2)
      ∷ (7, lines.Command (commands.Control zero.name reading []))
      ∷ (8, lines.Order events.D 9)
      ∷ (9, lines.Order events.C 19)
      ∷ (10, lines.Order events.D 3)
      ∷ [];
}

abbrev pub asked_windows : ℕ → List Window
asked_windows k = windows_then asked_once k 0

abbrev pub asked_lines : List Report
asked_lines = lines_of (report_at asked_once 39) zero.name

abbrev pub asked_cancelled : Script
asked_cancelled = record asked_once {
  lines = (5, lines.Command (commands.OpenEp zero))
      ∷ (6, lines.Order events.D 2)
      ∷ (7, lines.Command (commands.Control zero.name reading []))
      ∷ (8, lines.Order events.D 9)
      ∷ (9, lines.Order events.C 19)
      ∷ (10, lines.Order events.D 3)
      ∷ (11, lines.Command (commands.Cancel zero.name))
      ∷ (12, lines.Order events.D 2)
      ∷ (13, lines.Micro 2)
      ∷ [];
}

abbrev pub cancelled_lines : List Report
cancelled_lines = lines_of (report_at asked_cancelled 100) zero.name

abbrev pub its_window : List (List ℕ) → Window
its_window acts = record { request = record { setup = reading; bytes = [] }; acts = acts }

abbrev pub asked_midway : Script
asked_midway = record asked_once {
  lines = (5, lines.Command (commands.OpenEp zero))
      ∷ (6, lines.Order events.D 2)
      ∷ (7, lines.Command (commands.Control zero.name reading []))
      ∷ (8, lines.Order events.D 9)
      ∷ (9, lines.Order events.C 17)
      ∷ (10, lines.Command (commands.Cancel zero.name))
      ∷ (11, lines.Order events.D 2)
      ∷ (12, lines.Micro 2)
      ∷ [];
}

abbrev pub midway_lines : List Report
midway_lines = lines_of (report_at asked_midway 100) zero.name

abbrev pub asked_hub : Script
asked_hub = record beside_bulk {
  lines = (5, lines.Command (commands.OpenEp (hub_desc 4))) ∷ (6, lines.Order events.D 2) ∷ [];
}
