-- The report of a world at work as text: as Closing has it, but that what a device took is told epoch by epoch (USB 2.0, 9.4.5).
--     epochs_of ends from taken   these bytes in epochs, of which the first begins at `from` and the others where it is said
--     mark_text m name taken from  the line of the epoch that a reset ended, if it was of this endpoint
--     closing_at_work w s         what closes the report of an endpoint
--     text_at_work fixed w        the whole report
use Rattle.std.specs.Prelude.{ℕ, ◌-◌, List, [], ◌∷◌, ◌++◌, ◌==◌, take, drop, map, filter, find, Option, Some, None, if◌then◌else◌}
use Rattle.std.specs.List.{flat_map}
use Rattle.usb_base.specs.declared.endpoints.EpName.{EpName}
use Rattle.usb_base.specs.declared.packets.EpKind.{EpKind}
use Rattle.usb_base.specs.declared.packets.EpKind.TheVariants.{Bulk, Interrupt}
use Rattle.usb_base.specs.declared.packets.Way.{Way}
use Rattle.usb_base.specs.declared.packets.Way.TheVariants.{Out, Ctl}
use Rattle.report_text.specs.ReportText.{report_text, taken_line, acted_line}
use Rattle.endpoint_script.specs.Device.{Device, taken_of, acted_of}
use Rattle.hub_class.specs.HubContent.{HubContent}
use Rattle.drv_table.specs.DriverContent.{opened, is_same_name}
use Rattle.bus_wire.specs.declared.seats.Seat.{Seat}
use Rattle.bus_wire.specs.Bus.{Fixed, Bus}
use Rattle.bus_world.specs.declared.marks.Mark.{Mark}
use Rattle.bus_world.specs.Closing.{waiting, waiting_text, hub_of, hub_text}
use Rattle.bus_world.specs.AtWork.{WorldAtWork}

-- ---- epochs

-- how many bytes an endpoint had taken at each of its resets
abbrev pub ends_of : List Mark → EpName → List ℕ
ends_of marks name = map (λ m. m.taken) (filter (λ m. is_same_name m.name name) marks)

-- each number ends an epoch; what is behind the last is of the present one
unfoldable pub epochs_of : List ℕ → List ℕ → ℕ → List (List ℕ)
epochs_of [] taken from = drop from taken ∷ []
epochs_of (n ∷ ends) taken from = take (n - from) (drop from taken) ∷ epochs_of ends taken n

-- the epoch that a reset ended, and where the next one begins; a reset of another endpoint is none
abbrev pub mark_text : Mark → EpName → List ℕ → ℕ → List ℕ
mark_text m name taken from = if is_same_name m.name name then taken_line name (take (m.taken - from) (drop from taken)) else []

abbrev pub mark_end : Mark → EpName → ℕ → ℕ
mark_end m name from = if is_same_name m.name name then m.taken else from

abbrev pub taken_lines : List Mark → EpName → List ℕ → List ℕ
taken_lines marks name taken = flat_map (taken_line name) (epochs_of (ends_of marks name) taken 0)

-- ---- the report

-- what the device took of a bulk or interrupt OUT in each epoch, or how often it acted on a request of a control endpoint
abbrev pub device_text_at_work : List Mark → Way → EpKind → EpName → Device → List ℕ
device_text_at_work marks Out Bulk name d = taken_lines marks name (taken_of d name)
device_text_at_work marks Out Interrupt name d = taken_lines marks name (taken_of d name)
device_text_at_work marks Ctl _ name d = acted_line name (acted_of d name)
device_text_at_work marks _ _ name d = []

-- by the device of this address, else by the hub
abbrev pub told_by_at_work : List Mark → Seat → Option Device → Option HubContent → List ℕ
told_by_at_work marks s None h = hub_text s.name h
told_by_at_work marks s (Some d) h = device_text_at_work marks s.name.way s.kind s.name d

abbrev pub told_text_at_work : List Mark → Bus → Seat → List ℕ
told_text_at_work marks b s = told_by_at_work marks s (find (λ d. d.address == s.name.addr) b.devices) (hub_of b s.name)

abbrev pub opened_text_at_work : WorldAtWork → Seat → List ℕ
opened_text_at_work w s = waiting_text s.name (waiting w.world.driver s.name) ++ told_text_at_work w.marks w.world.bus s

abbrev pub closing_at_work : WorldAtWork → Seat → List ℕ
closing_at_work w s = if opened w.world.driver s.name then opened_text_at_work w s else []

abbrev pub text_at_work : Fixed → WorldAtWork → List ℕ
text_at_work fixed w = report_text w.world.driver.reports w.world.driver.store ++ flat_map (closing_at_work w) fixed.seats
