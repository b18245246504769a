-- The report of a world as text: its lines, and then for each endpoint that was opened those that close it.
--     closing_text w s      what closes the report of an endpoint
--     world_text fixed w    the whole report
--     world_image w         the image of memory
use Rattle.std.specs.Prelude.{ℕ, nat_lt, List, [], ◌++◌, ◌==◌, find, Option, Some, None, is_none, if◌then◌else◌}
use Rattle.std.specs.List.{flat_map}
use Rattle.usb_base.specs.declared.endpoints.EpName.{EpName}
use Rattle.usb_base.specs.declared.packets.EpKind.{EpKind}
use Rattle.usb_base.specs.declared.packets.EpKind.TheVariants.{Bulk, Interrupt}
use Rattle.usb_base.specs.declared.packets.Way.{Way}
use Rattle.usb_base.specs.declared.packets.Way.TheVariants.{Out, Ctl}
use Rattle.report_text.specs.ReportText.{report_text, pending_line, taken_line, acted_line}
use Rattle.endpoint_script.specs.Device.{Device, taken_of, acted_of}
use Rattle.hub_class.specs.HubContent.{HubContent}
use Rattle.drv_table.specs.DriverContent.{DriverContent, pending, opened, ended}
use Rattle.bus_wire.specs.declared.seats.Seat.{Seat}
use Rattle.bus_wire.specs.Bus.{Fixed, Bus}
use Rattle.image_codec.specs.declared.image.Image.{Image}
use Rattle.bus_world.specs.World.{World}

-- how many transfers weren't reported, of an endpoint that hasn't ended
abbrev pub waiting : DriverContent → EpName → ℕ
waiting d name = if is_none (ended d name) then pending d name else 0

abbrev pub waiting_text : EpName → ℕ → List ℕ
waiting_text name k = if nat_lt 0 k then pending_line name k else []

-- what the device took of a bulk or interrupt OUT, or how often it acted on a request of a control endpoint
abbrev pub device_text : Way → EpKind → EpName → Device → List ℕ
device_text Out Bulk name d = taken_line name (taken_of d name)
device_text Out Interrupt name d = taken_line name (taken_of d name)
device_text Ctl _ name d = acted_line name (acted_of d name)
device_text _ _ name d = []

-- the hub with the address of this endpoint
abbrev pub hub_of : Bus → EpName → Option HubContent
hub_of b name = find (λ h. h.address == name.addr) b.hubs

-- how often endpoint 0 of a hub acted on a request
abbrev pub hub_text : EpName → Option HubContent → List ℕ
hub_text name None = []
hub_text name (Some h) = acted_line name h.control.acted

-- by the device of this address, else by the hub
abbrev pub told_by : Seat → Option Device → Option HubContent → List ℕ
told_by s None h = hub_text s.name h
told_by s (Some d) h = device_text s.name.way s.kind s.name d

abbrev pub told_text : Bus → Seat → List ℕ
told_text b s = told_by s (find (λ d. d.address == s.name.addr) b.devices) (hub_of b s.name)

abbrev pub opened_text : World → Seat → List ℕ
opened_text w s = waiting_text s.name (waiting w.driver s.name) ++ told_text w.bus s

abbrev pub closing_text : World → Seat → List ℕ
closing_text w s = if opened w.driver s.name then opened_text w s else []

abbrev pub world_text : Fixed → World → List ℕ
world_text fixed w = report_text w.driver.reports w.driver.store ++ flat_map (closing_text w) fixed.seats

-- ---- the image

abbrev pub world_image : World → Image
world_image w = record {
  frindex = w.registers.frame_index;
  list_base = w.registers.periodic_list_base;
  async_at = w.registers.async_list_address;
  words = w.memory.words;
}
