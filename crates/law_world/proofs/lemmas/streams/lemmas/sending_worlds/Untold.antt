-- No line closes the report of an endpoint that the driver hasn't: nothing says what its device took.
use Rattle.std.proofs.Common.{◌≡◌, ℕ, nat_lt, ◌==◌, Bool, true, false, if◌then◌else◌, List, [], ◌∷◌, ◌++◌, filter_map, find, slice_get, Option, Some, None, ap, refl, ◌∙◌}
use Rattle.std.specs.List.{flat_map, cons_option}
use Rattle.std.proofs.lemmas.List.Elements.{filter_map-append}
use Rattle.law_world.proofs.Common.{waiting_none}
use Rattle.usb_base.specs.declared.endpoints.EpName.{EpName}
use Rattle.usb_base.specs.declared.packets.EpKind.{EpKind}
use Rattle.usb_base.specs.declared.packets.EpKind.TheVariants as Kinds
use Rattle.usb_base.specs.declared.packets.Way.{Way}
use Rattle.usb_base.specs.declared.packets.Way.TheVariants as Ways
use Rattle.endpoint_script.specs.Device.{Device, taken_of}
use Rattle.hub_class.specs.HubContent.{HubContent}
use Rattle.drv_table.specs.DriverContent.{opened}
use Rattle.bus_wire.specs.declared.seats.Seat.{Seat}
use Rattle.bus_wire.specs.Fates.{is_same_name}
use Rattle.bus_wire.specs.Bus.{Fixed}
use Rattle.claims_report.specs.Reports.{taken_in, taken}
use Rattle.law_queues.proofs.lemmas.told_endpoints.Names.{same_name_is}
use Rattle.bus_world.specs.World.{World}
use Rattle.bus_world.specs.Closing.{waiting, hub_of}
use Rattle.claims_world.specs.Streams.{waiting_closing, device_closing, told_closing, opened_closings, seat_closings, report_of}

-- ---- the closing lines of another endpoint

none_taken : (name other : EpName) (bytes : List ℕ) → is_same_name other name ≡ false → cons_option (if is_same_name other name then Some bytes else None) [] ≡ []
none_taken name other bytes is = ap (λ (b : Bool). cons_option (if b then Some bytes else None) []) is

device_none : (name : EpName) (way : Way) (kind : EpKind) (other : EpName) (d : Device) → is_same_name other name ≡ false → filter_map (taken_in name) (device_closing way kind other d) ≡ []
device_none name Ways.Out Kinds.Bulk other d is = none_taken name other (taken_of d other) is
device_none name Ways.Out Kinds.Interrupt other d is = none_taken name other (taken_of d other) is
device_none name Ways.Out Kinds.Control other d is = refl
device_none name Ways.Out Kinds.Iso other d is = refl
device_none name Ways.Ctl kind other d is = refl
device_none name Ways.In kind other d is = refl

told_none : (name : EpName) (s : Seat) (o : Option Device) (h : Option HubContent) → is_same_name s.name name ≡ false → filter_map (taken_in name) (told_closing s o h) ≡ []
told_none name s None None is = refl
told_none name s None (Some h) is = refl
told_none name s (Some d) h is = device_none name s.name.way s.kind s.name d is

-- ---- those of the world

module _ (w : World) (name : EpName) (off : opened w.driver name ≡ false) where
  of_other : (s : Seat) (b : Bool) → is_same_name s.name name ≡ false → filter_map (taken_in name) (if b then opened_closings w s else []) ≡ []
  of_other s false is = refl
  of_other s true is =
      filter_map-append (taken_in name) (waiting_closing s.name (waiting w.driver s.name)) (told_closing s (find (λ e. e.address == s.name.addr) w.bus.devices) (hub_of w.bus s.name))
      ∙ ap (λ (ys : List (List ℕ)). ys ++ filter_map (taken_in name) (told_closing s (find (λ e. e.address == s.name.addr) w.bus.devices) (hub_of w.bus s.name)))
      (waiting_none name s.name (waiting w.driver s.name) (nat_lt 0 (waiting w.driver s.name)))
      ∙ told_none name s (find (λ e. e.address == s.name.addr) w.bus.devices) (hub_of w.bus s.name) is

  of_seat : (s : Seat) (b : Bool) → is_same_name s.name name ≡ b → filter_map (taken_in name) (seat_closings w s) ≡ []
  of_seat s true is = ap (λ (b : Bool). filter_map (taken_in name) (if b then opened_closings w s else [])) (ap (opened w.driver) (same_name_is s.name name is) ∙ off)
  of_seat s false is = of_other s (opened w.driver s.name) is

  of_seats : (seats : List Seat) → filter_map (taken_in name) (flat_map (seat_closings w) seats) ≡ []
  of_seats [] = refl
  of_seats (s ∷ ss) =
      filter_map-append (taken_in name) (seat_closings w s) (flat_map (seat_closings w) ss)
      ∙ ap (λ (ys : List (List ℕ)). ys ++ filter_map (taken_in name) (flat_map (seat_closings w) ss)) (of_seat s (is_same_name s.name name) refl)
      ∙ of_seats ss

  pub untold : (fixed : Fixed) → taken (report_of fixed w) name ≡ None
  untold fixed = ap (λ (ys : List (List ℕ)). slice_get ys 0) (of_seats fixed.seats)
