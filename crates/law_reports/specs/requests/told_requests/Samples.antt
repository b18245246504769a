-- Requests of a device with a control endpoint, for worked rows: a read that is done, and one that stalls.
--     two_windows            their windows
--     later_windows          what may become of the second, and one behind it
--     first_line             the line of the first
--     stalled_driver         a driver whose first request was told to be stalled, and two that wait behind it
--     asking                 a script that opens the endpoint, has two events of the driver, and asks both: the second while the first is unfinished
--     after k                the place of its run after k events and commands
--     acted_once             the device, once it acted
use Rattle.std.specs.Prelude.{ℕ, Bool, true, false, List, [], ◌∷◌}
use Rattle.usb_base.specs.declared.commands.Cmd.TheVariants.{Control}
use Rattle.usb_base.specs.declared.endpoints.EpDesc.{EpDesc}
use Rattle.usb_base.specs.declared.packets.EpKind.TheVariants as Kinds
use Rattle.usb_base.specs.declared.packets.Speed.TheVariants.{High}
use Rattle.usb_base.specs.declared.reports.Report.{Report}
use Rattle.usb_base.specs.declared.reports.What.TheVariants.{Done}
use Rattle.script_types.specs.declared.devices.Item.{Item}
use Rattle.script_types.specs.declared.devices.Item.TheVariants.{Request as Knows}
use Rattle.script_types.specs.declared.scripts.Event.TheVariants as events
use Rattle.script_types.specs.declared.scripts.Line.{Line}
use Rattle.script_types.specs.declared.scripts.Line.TheVariants as lines
use Rattle.script_types.specs.declared.scripts.Script.{Script}
use Rattle.endpoint_script.specs.declared.endpoint.Role.TheVariants.{Controls}
use Rattle.endpoint_script.specs.Controlling.{controlling_at}
use Rattle.endpoint_script.specs.Device.{Device}
use Rattle.drv_table.specs.declared.content.Reserve.{Reserve}
use Rattle.drv_table.specs.declared.content.Sort.TheVariants as sorts
use Rattle.drv_table.specs.declared.content.Transfer.{Transfer}
use Rattle.drv_table.specs.DriverContent.{DriverContent, new_driver}
use Rattle.bus_wire.specs.Bus.{fixed_of}
use Rattle.claims_report.specs.Reports.{WholeReport}
use Rattle.claims_report.specs.Requests.{Request, Window}
use Rattle.claims_report.specs.Samples.{desc_of, script_of, commanded, line_of, control, read_two, read_unknown, window}
use Rattle.bus_world.specs.Orders.{OrderedWorld}
use Rattle.bus_world.specs.Budgets.{moment}
use Rattle.claims_world.specs.Streams.{report_of}
use Rattle.usb_base.specs.Rules.{first_rules}
use Rattle.drv_table.specs.declared.content.Part.TheVariants as parts

-- ---- lines

abbrev pub two_windows : List Window
two_windows = window read_two (read_two ∷ []) ∷ window read_unknown [] ∷ []

-- the device acts in the second, and a third is asked
abbrev pub later_windows : List Window
later_windows = window read_unknown (read_unknown ∷ []) ∷ window read_two [] ∷ []

abbrev pub first_line : List Report
first_line = line_of control Done 0 2 ∷ []

-- ---- a driver

abbrev pub little_room : Reserve
little_room = record { endpoints = 1; transfers = 3; reports = 3; report_bytes = 30; rules = first_rules }

abbrev pub request_at : ℕ → Bool → Transfer
request_at first reported = record { endpoint = 0; sort = sorts.Request; first = first; qtds = 3; place = first; left = 3; most = 10; reported = reported; released = false; part = parts.Own }

abbrev pub stalled_driver : DriverContent
stalled_driver = record (new_driver (record { slots = []; taken = [] }) 0 little_room) { transfers = request_at 4 true ∷ request_at 7 false ∷ request_at 10 false ∷ [] }

-- ---- a run

abbrev pub described : EpDesc
described = desc_of control Kinds.Control

abbrev pub known : List Item
known = Knows read_two (18 ∷ 1 ∷ 0 ∷ 2 ∷ []) ∷ []

abbrev pub first : ℕ × Line
first = commanded 7 (Control control read_two [])

abbrev pub second : ℕ × Line
second = commanded 8 (Control control read_unknown [])

abbrev pub asking : Script
asking = script_of described known ((6, lines.Order events.D 2) ∷ first ∷ second ∷ [])

abbrev pub after : ℕ → OrderedWorld
after k = moment asking k

abbrev pub report_after : ℕ → WholeReport
report_after k = report_of (fixed_of asking) (after k).world

abbrev pub asked : List ℕ → Request
asked setup = record { setup = setup; bytes = [] }

-- ---- a device

abbrev pub acted_once : Device
acted_once =
    let c = controlling_at 2 known in
    record {
      address = 3;
      speed = High;
      endpoints = record { desc = described; part = Controls (record c { stages = record c.stages { acted = 1 } }) } ∷ [];
    }
