-- The control endpoint of a scanner below a hub, for worked rows (USB 2.0, 5.5 and 11.14).
--     zero hub port           endpoint 0 of the scanner, at full speed, behind this port of this hub
--     StartsSpared            its hub has heard nothing yet
use Rattle.std.specs.Prelude.{ℕ, Option}
use Rattle.usb_base.specs.declared.endpoints.EpDesc.{EpDesc}
use Rattle.usb_base.specs.declared.packets.EpKind.TheVariants as kinds
use Rattle.usb_base.specs.declared.packets.Way.TheVariants as ways
use Rattle.bus_wire.specs.Bus.{opening_wired}
use Rattle.law_reports.specs.pipes.below_hubs.Samples.{page, scanner}
use Rattle.law_reports.specs.requests.below.Controlled.{IsSparedHub}

abbrev pub zero : Option ℕ → ℕ → EpDesc
zero hub port = record (page hub port) { name = record { addr = 3; num = 0; way = ways.Ctl }; kind = kinds.Control }

abbrev pub StartsSpared : Type 0
StartsSpared = IsSparedHub 0 (opening_wired scanner)
