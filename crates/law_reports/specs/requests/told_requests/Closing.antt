-- What the closing line of a control endpoint tells (USB 2.0, 8.5.3).
--     ClosingTellsActed     it tells how often the device acted on a request, as its control stages count
use Rattle.std.specs.Prelude.{◌≡◌, true, Some}
use Rattle.usb_base.specs.declared.endpoints.EpDesc.{EpDesc}
use Rattle.usb_base.specs.declared.packets.Way.TheVariants.{Ctl}
use Rattle.claims_report.specs.ControlSides.{Device as Side}
use Rattle.law_devices.specs.Controls.{control_of}
use Rattle.bus_wire.specs.Bus.{Fixed}
use Rattle.claims_report.specs.Reports.{acted}
use Rattle.drv_table.specs.DriverContent.{opened}
use Rattle.bus_world.specs.World.{World}
use Rattle.claims_world.specs.Streams.{report_of}
use Rattle.law_world.specs.streams.taken_reports.Seats.{HasSeat, AreApart}
use Rattle.claims_world.specs.Requests.{wired}

abbrev pub ClosingTellsActed : Type 0
ClosingTellsActed = (fixed : Fixed) (w : World) (x : EpDesc) (c : Side) → x.name.way ≡ Ctl → HasSeat fixed.seats x → AreApart w.bus.devices → opened w.driver x.name ≡ true
    → control_of (wired fixed w) x.name.addr x.name.num ≡ Some c → acted (report_of fixed w) x.name ≡ Some c.stages.acted
