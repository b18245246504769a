-- The report is what is printed.
use Rattle.std.proofs.Common.{◌≡◌, ℕ, nat_lt, Bool, true, false, if◌then◌else◌, List, [], ◌∷◌, ◌++◌, ◌==◌, find, Option, Some, None, ap, refl, sym, ◌∙◌}
use Rattle.std.specs.List.{flat_map}
use Rattle.std.proofs.lemmas.List.{append-nil}
use Rattle.std.proofs.lemmas.List.Concat.{flat_map-append}
use Rattle.usb_base.specs.declared.endpoints.EpName.{EpName}
use Rattle.usb_base.specs.declared.packets.EpKind.{EpKind}
use Rattle.usb_base.specs.declared.packets.EpKind.TheVariants as Kinds
use Rattle.usb_base.specs.declared.packets.Way.{Way}
use Rattle.usb_base.specs.declared.packets.Way.TheVariants as Ways
use Rattle.report_text.specs.ReportText.{report_text, pending_line, taken_line, acted_line}
use Rattle.endpoint_script.specs.Device.{Device, taken_of, acted_of}
use Rattle.hub_class.specs.HubContent.{HubContent}
use Rattle.drv_table.specs.DriverContent.{opened}
use Rattle.bus_wire.specs.declared.seats.Seat.{Seat}
use Rattle.bus_wire.specs.Bus.{Fixed}
use Rattle.claims_report.specs.Reports.{Pending, closing_line, whole_text}
use Rattle.bus_world.specs.World.{World}
use Rattle.bus_world.specs.Closing.{waiting, waiting_text, device_text, hub_of, hub_text, told_by, opened_text, closing_text, world_text}
use Rattle.claims_world.specs.Streams.{waiting_closing, device_closing, hub_closing, told_closing, opened_closings, seat_closings, report_of}

waiting_same : (name : EpName) (k : ℕ) (b : Bool) → nat_lt 0 k ≡ b → flat_map closing_line (waiting_closing name k) ≡ waiting_text name k
waiting_same name k true is =
    ap (λ (b : Bool). flat_map closing_line (if b then Pending name k ∷ [] else [])) is ∙ append-nil (pending_line name k) ∙ ap (λ (b : Bool). if b then pending_line name k else []) (sym is)
waiting_same name k false is =
    ap (λ (b : Bool). flat_map closing_line (if b then Pending name k ∷ [] else [])) is ∙ ap (λ (b : Bool). if b then pending_line name k else []) (sym is)

device_same : (way : Way) (kind : EpKind) (name : EpName) (d : Device) → flat_map closing_line (device_closing way kind name d) ≡ device_text way kind name d
device_same Ways.Out Kinds.Bulk name d = append-nil (taken_line name (taken_of d name))
device_same Ways.Out Kinds.Interrupt name d = append-nil (taken_line name (taken_of d name))
device_same Ways.Out Kinds.Control name d = refl
device_same Ways.Out Kinds.Iso name d = refl
device_same Ways.Ctl kind name d = append-nil (acted_line name (acted_of d name))
device_same Ways.In kind name d = refl

hub_same : (name : EpName) (o : Option HubContent) → flat_map closing_line (hub_closing name o) ≡ hub_text name o
hub_same name None = refl
hub_same name (Some h) = append-nil (acted_line name h.control.acted)

told_same : (s : Seat) (o : Option Device) (h : Option HubContent) → flat_map closing_line (told_closing s o h) ≡ told_by s o h
told_same s None h = hub_same s.name h
told_same s (Some d) h = device_same s.name.way s.kind s.name d

seat_by : (w : World) (s : Seat) (b : Bool) → flat_map closing_line (if b then opened_closings w s else []) ≡ (if b then opened_text w s else [])
seat_by w s false = refl
seat_by w s true =
    flat_map-append closing_line (waiting_closing s.name (waiting w.driver s.name)) (told_closing s (find (λ d. d.address == s.name.addr) w.bus.devices) (hub_of w.bus s.name))
    ∙ ap (λ (xs : List ℕ). xs ++ flat_map closing_line (told_closing s (find (λ d. d.address == s.name.addr) w.bus.devices) (hub_of w.bus s.name))) (waiting_same s.name (waiting w.driver s.name) (nat_lt 0 (waiting w.driver s.name)) refl)
    ∙ ap (λ (xs : List ℕ). waiting_text s.name (waiting w.driver s.name) ++ xs) (told_same s (find (λ d. d.address == s.name.addr) w.bus.devices) (hub_of w.bus s.name))

seats_same : (w : World) (seats : List Seat) → flat_map closing_line (flat_map (seat_closings w) seats) ≡ flat_map (closing_text w) seats
seats_same w [] = refl
seats_same w (s ∷ ss) =
    flat_map-append closing_line (seat_closings w s) (flat_map (seat_closings w) ss) ∙ ap (λ (xs : List ℕ). xs ++ flat_map closing_line (flat_map (seat_closings w) ss)) (seat_by w s (opened w.driver s.name))
    ∙ ap (λ (xs : List ℕ). closing_text w s ++ xs) (seats_same w ss)

pub report_is_printed : (fixed : Fixed) (w : World) → whole_text (report_of fixed w) ≡ world_text fixed w
report_is_printed fixed w = ap (λ (xs : List ℕ). report_text w.driver.reports w.driver.store ++ xs) (seats_same w fixed.seats)
