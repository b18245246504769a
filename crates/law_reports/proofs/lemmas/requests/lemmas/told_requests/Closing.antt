-- The closing line of a control endpoint tells how often its device acted.
use Rattle.std.proofs.Common.{◌≡◌, ℕ, zero, suc, nat_lt, ◌==◌, Bool, true, false, if◌then◌else◌, List, [], ◌∷◌, ◌++◌, filter_map, find, slice_get, Option, Some, None, ap, refl, sym, subst, ◌∙◌, ⊎_elim, inl, inr}
use Rattle.std.specs.Prelude.{◌⊎◌}
use Rattle.std.specs.List.{flat_map, cons_option}
use Rattle.std.proofs.lemmas.Bool.{eq-eqb}
use Rattle.std.proofs.lemmas.Option.{same_Some}
use Rattle.std.proofs.lemmas.List.Elements.{filter_map-append}
use Rattle.law_world.proofs.Common.{device_found}
use Rattle.usb_base.specs.declared.endpoints.EpName.{EpName}
use Rattle.usb_base.specs.declared.packets.EpKind.{EpKind}
use Rattle.usb_base.specs.declared.packets.EpKind.TheVariants as Kinds
use Rattle.usb_base.specs.declared.packets.Way.{Way}
use Rattle.usb_base.specs.declared.packets.Way.TheVariants as Ways
use Rattle.endpoint_script.specs.Device.{Device, place_named, endpoint_at, part_acted, acted_from, acted_of}
use Rattle.hub_class.specs.HubContent.{HubContent}
use Rattle.drv_table.specs.DriverContent.{opened}
use Rattle.claims_report.specs.ControlSides.{Device as Side}
use Rattle.law_devices.proofs.lemmas.scripted_requests.Finding.{IsAtDevice, HasControl, control_found}
use Rattle.bus_wire.specs.declared.seats.Seat.{Seat}
use Rattle.bus_wire.specs.Fates.{is_same_name}
use Rattle.claims_report.specs.Reports.{Closing, Pending, acted_in}
use Rattle.law_queues.proofs.lemmas.told_endpoints.Names.{same_name_is, name_is_same}
use Rattle.bus_world.specs.World.{World}
use Rattle.bus_world.specs.Closing.{waiting, hub_of}
use Rattle.claims_world.specs.Streams.{waiting_closing, device_closing, told_closing, opened_closings, seat_closings}
use Rattle.claims_world.specs.Requests.{wired}
use Rattle.law_reports.specs.requests.told_requests.Closing.{ClosingTellsActed}

-- ---- how often it acted

acted_there : (d : Device) (name : EpName) (c : Side) → name.way ≡ Ways.Ctl → (at : IsAtDevice name.addr name.num (Some d) c) → acted_of d name ≡ c.stages.acted
acted_there d name c way at =
    subst (λ (z : Device). acted_of z name ≡ c.stages.acted) (sym (same_Some d at.device at.is))
    (ap (λ (b : Bool). acted_from (endpoint_at at.device.endpoints (if b then place_named at.device.endpoints name.num name.way else None))) (eq-eqb name.addr at.device.address at.address)
    ∙ ap (λ (v : Way). acted_from (endpoint_at at.device.endpoints (place_named at.device.endpoints name.num v))) way
    ∙ ap (λ (o : Option ℕ). acted_from (endpoint_at at.device.endpoints o)) at.at.is
    ∙ ap acted_from at.at.here ∙ ap part_acted at.at.part.is ∙ sym (ap (λ (z : Side). z.stages.acted) at.at.part.side))

-- ---- the closing lines of one seat

waiting_none : (name other : EpName) (k : ℕ) (b : Bool) → filter_map (acted_in name) (if b then Pending other k ∷ [] else []) ≡ []
waiting_none name other k true = refl
waiting_none name other k false = refl

one_acted : (name other : EpName) (k : ℕ) (b : Bool) → is_same_name other name ≡ b → cons_option (if is_same_name other name then Some k else None) [] ≡ (if b then k ∷ [] else [])
one_acted name other k true is = ap (λ (b : Bool). cons_option (if b then Some k else None) []) is
one_acted name other k false is = ap (λ (b : Bool). cons_option (if b then Some k else None) []) is

-- none of another endpoint
device_other : (name : EpName) (way : Way) (kind : EpKind) (other : EpName) (d : Device) → is_same_name other name ≡ false → filter_map (acted_in name) (device_closing way kind other d) ≡ []
device_other name Ways.Out Kinds.Bulk other d is = refl
device_other name Ways.Out Kinds.Interrupt other d is = refl
device_other name Ways.Out Kinds.Control other d is = refl
device_other name Ways.Out Kinds.Iso other d is = refl
device_other name Ways.Ctl kind other d is = one_acted name other (acted_of d other) false is
device_other name Ways.In kind other d is = refl

told_other : (name : EpName) (s : Seat) (o : Option Device) (h : Option HubContent) → is_same_name s.name name ≡ false → filter_map (acted_in name) (told_closing s o h) ≡ []
told_other name s None None is = refl
told_other name s None (Some h) is = one_acted name s.name h.control.acted false is
told_other name s (Some d) h is = device_other name s.name.way s.kind s.name d is

module _ (w : World) (name : EpName) (way : name.way ≡ Ways.Ctl) (on : opened w.driver name ≡ true) (d : Device) (found : find (λ e. e.address == name.addr) w.bus.devices ≡ Some d) (k : ℕ) (acts : acted_of d name ≡ k) where
  told_here : (s : Seat) (h : Option HubContent) → s.name ≡ name → filter_map (acted_in name) (told_closing s (find (λ e. e.address == s.name.addr) w.bus.devices) h) ≡ k ∷ []
  told_here s h same =
      ap (λ (n : EpName). filter_map (acted_in name) (told_closing s (find (λ e. e.address == n.addr) w.bus.devices) h)) same
      ∙ ap (λ (o : Option Device). filter_map (acted_in name) (told_closing s o h)) found
      ∙ ap (λ (n : EpName). filter_map (acted_in name) (device_closing n.way s.kind n d)) same
      ∙ ap (λ (v : Way). filter_map (acted_in name) (device_closing v s.kind name d)) way
      ∙ one_acted name name (acted_of d name) true (name_is_same name)
      ∙ ap (λ (i : ℕ). i ∷ []) acts

  behind : (s : Seat) → filter_map (acted_in name) (opened_closings w s) ≡ filter_map (acted_in name) (told_closing s (find (λ e. e.address == s.name.addr) w.bus.devices) (hub_of w.bus s.name))
  behind s =
      filter_map-append (acted_in name) (waiting_closing s.name (waiting w.driver s.name)) (told_closing s (find (λ e. e.address == s.name.addr) w.bus.devices) (hub_of w.bus s.name))
      ∙ ap (λ (ys : List ℕ). ys ++ filter_map (acted_in name) (told_closing s (find (λ e. e.address == s.name.addr) w.bus.devices) (hub_of w.bus s.name))) (waiting_none name s.name (waiting w.driver s.name) (nat_lt 0 (waiting w.driver s.name)))

  tells_it : (s : Seat) → s.name ≡ name → filter_map (acted_in name) (seat_closings w s) ≡ k ∷ []
  tells_it s same =
      ap (λ (b : Bool). filter_map (acted_in name) (if b then opened_closings w s else [])) (ap (opened w.driver) same ∙ on)
      ∙ behind s ∙ told_here s (hub_of w.bus s.name) same

  of_other : (s : Seat) (b : Bool) → is_same_name s.name name ≡ false → filter_map (acted_in name) (if b then opened_closings w s else []) ≡ []
  of_other s true is = behind s ∙ told_other name s (find (λ e. e.address == s.name.addr) w.bus.devices) (hub_of w.bus s.name) is
  of_other s false is = refl

  -- each seat tells that, or nothing
  by_name : (s : Seat) (b : Bool) → is_same_name s.name name ≡ b → (filter_map (acted_in name) (seat_closings w s) ≡ []) ⊎ (filter_map (acted_in name) (seat_closings w s) ≡ k ∷ [])
  by_name s true is = inr (tells_it s (same_name_is s.name name is))
  by_name s false is = inl (of_other s (opened w.driver s.name) is)

  -- ---- the first that tells it

  one_first : (s : Seat) (rest : List Closing) → filter_map (acted_in name) (seat_closings w s) ≡ k ∷ [] → slice_get (filter_map (acted_in name) (seat_closings w s ++ rest)) 0 ≡ Some k
  one_first s rest is = ap (λ (ys : List ℕ). slice_get ys 0) (filter_map-append (acted_in name) (seat_closings w s) rest ∙ ap (λ (ys : List ℕ). ys ++ filter_map (acted_in name) rest) is)

  pub first_at : (seats : List Seat) (i : ℕ) (s : Seat) → slice_get seats i ≡ Some s → s.name ≡ name → slice_get (filter_map (acted_in name) (flat_map (seat_closings w) seats)) 0 ≡ Some k
  first_at [] zero s here same = absurd cc
  first_at [] (suc i) s here same = absurd cc
  first_at (z ∷ zs) zero s here same = one_first z (flat_map (seat_closings w) zs) (tells_it z (ap (λ (y : Seat). y.name) (same_Some z s here) ∙ same))
  first_at (z ∷ zs) (suc i) s here same =
      ⊎_elim (λ (none : filter_map (acted_in name) (seat_closings w z) ≡ []).
      ap (λ (ys : List ℕ). slice_get ys 0) (filter_map-append (acted_in name) (seat_closings w z) (flat_map (seat_closings w) zs) ∙ ap (λ (ys : List ℕ). ys ++ filter_map (acted_in name) (flat_map (seat_closings w) zs)) none)
      ∙ first_at zs i s here same)
      (λ (one : filter_map (acted_in name) (seat_closings w z) ≡ k ∷ []). one_first z (flat_map (seat_closings w) zs) one) (by_name z (is_same_name z.name name) refl)

-- ---- the law

pub closing_tells_acted : ClosingTellsActed
closing_tells_acted fixed w x c way seat apart on is =
    let h : HasControl (wired fixed w) x.name.addr x.name.num c = control_found (wired fixed w) x.name.addr x.name.num c is in
    let it : slice_get w.bus.devices h.device_place ≡ Some h.at.device = h.at.is in
    first_at w x.name way on h.at.device (device_found w.bus.devices h.device_place x.name.addr h.at.device apart it h.at.address) c.stages.acted
    (acted_there h.at.device x.name c way (record { device = h.at.device; is = refl; address = h.at.address; no_in = h.at.no_in; no_out = h.at.no_out; at = h.at.at })) fixed.seats seat.place seat.seat seat.here seat.name
