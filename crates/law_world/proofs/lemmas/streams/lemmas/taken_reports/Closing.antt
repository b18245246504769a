-- The closing line of an OUT endpoint tells what its taker took.
use Rattle.std.proofs.Common.{◌≡◌, ℕ, zero, suc, nat_lt, ◌==◌, Bool, true, false, if◌then◌else◌, List, [], ◌∷◌, ◌++◌, filter_map, find, slice_get, Option, Some, None, ap, refl, sym, subst, ◌∙◌, ⊎_elim, inl, inr}
use Rattle.std.specs.Prelude.{◌⊎◌}
use Rattle.std.specs.List.{flat_map, cons_option}
use Rattle.std.proofs.lemmas.Bool.{eq-eqb, true≢false}
use Rattle.std.proofs.lemmas.Option.{same_Some}
use Rattle.std.proofs.lemmas.List.Elements.{filter_map-append}
use Rattle.law_world.proofs.Common.{device_found, waiting_none}
use Rattle.usb_base.specs.declared.endpoints.EpName.{EpName}
use Rattle.usb_base.specs.declared.packets.EpKind.{EpKind}
use Rattle.usb_base.specs.declared.packets.EpKind.TheVariants as Kinds
use Rattle.usb_base.specs.declared.packets.Way.{Way}
use Rattle.usb_base.specs.declared.packets.Way.TheVariants as Ways
use Rattle.endpoint_script.specs.Device.{Device, place_named, endpoint_at, part_taken, taken_from, taken_of}
use Rattle.hub_class.specs.HubContent.{HubContent}
use Rattle.drv_table.specs.DriverContent.{opened}
use Rattle.bus_wire.specs.declared.seats.Seat.{Seat}
use Rattle.bus_wire.specs.Fates.{is_same_name}
use Rattle.law_ring.specs.OutBus.{Taker}
use Rattle.law_devices.proofs.lemmas.scripted_takers.Asking.{IsAtDevice, HasTaker, taker_found}
use Rattle.claims_report.specs.Reports.{Closing, taken_in}
use Rattle.claims_report.specs.Streams.{has_stream}
use Rattle.law_queues.proofs.lemmas.told_endpoints.Names.{same_name_is, name_is_same}
use Rattle.bus_world.specs.World.{World}
use Rattle.bus_world.specs.Closing.{waiting, hub_of}
use Rattle.law_world.specs.steps.Streaming.{wired}
use Rattle.claims_world.specs.Streams.{waiting_closing, device_closing, told_closing, opened_closings, seat_closings}
use Rattle.law_world.specs.streams.taken_reports.Laws.{ClosingTellsTaker}

-- ---- what it took

pub taken_there : (d : Device) (name : EpName) (t : Taker) → name.way ≡ Ways.Out → (at : IsAtDevice name.addr name.num (Some d) t) → taken_of d name ≡ t.taken
taken_there d name t way at =
    subst (λ (z : Device). taken_of z name ≡ t.taken) (sym (same_Some d at.device at.is))
    (ap (λ (b : Bool). taken_from (endpoint_at at.device.endpoints (if b then place_named at.device.endpoints name.num name.way else None))) (eq-eqb name.addr at.device.address at.address)
    ∙ ap (λ (v : Way). taken_from (endpoint_at at.device.endpoints (place_named at.device.endpoints name.num v))) way
    ∙ ap (λ (o : Option ℕ). taken_from (endpoint_at at.device.endpoints o)) at.at.is
    ∙ ap taken_from at.at.here ∙ ap part_taken at.at.part.is ∙ sym (ap (λ (z : Taker). z.taken) at.at.part.taker))

-- ---- the closing lines of one seat

taken_by : EpName → List Closing → List (List ℕ)
taken_by name closings = filter_map (taken_in name) closings

one_taken : (name other : EpName) (bytes : List ℕ) (b : Bool) → is_same_name other name ≡ b → cons_option (if is_same_name other name then Some bytes else None) [] ≡ (if b then bytes ∷ [] else [])
one_taken name other bytes true is = ap (λ (b : Bool). cons_option (if b then Some bytes else None) []) is
one_taken name other bytes false is = ap (λ (b : Bool). cons_option (if b then Some bytes else None) []) is

-- none of another endpoint
device_other : (name : EpName) (way : Way) (kind : EpKind) (other : EpName) (d : Device) → is_same_name other name ≡ false → filter_map (taken_in name) (device_closing way kind other d) ≡ []
device_other name Ways.Out Kinds.Bulk other d is = one_taken name other (taken_of d other) false is
device_other name Ways.Out Kinds.Interrupt other d is = one_taken name other (taken_of d other) false is
device_other name Ways.Out Kinds.Control other d is = refl
device_other name Ways.Out Kinds.Iso other d is = refl
device_other name Ways.Ctl kind other d is = refl
device_other name Ways.In kind other d is = refl

told_other : (name : EpName) (s : Seat) (o : Option Device) (h : Option HubContent) → is_same_name s.name name ≡ false → filter_map (taken_in name) (told_closing s o h) ≡ []
told_other name s None None is = refl
told_other name s None (Some h) is = refl
told_other name s (Some d) h is = device_other name s.name.way s.kind s.name d is

-- of the endpoint itself it tells what the device took, where it is one with a stream
device_here : (name : EpName) (kind : EpKind) (d : Device) → has_stream kind ≡ true → filter_map (taken_in name) (device_closing Ways.Out kind name d) ≡ taken_of d name ∷ []
device_here name Kinds.Control d on = absurd (true≢false (sym on))
device_here name Kinds.Iso d on = absurd (true≢false (sym on))
device_here name _ d on = one_taken name name (taken_of d name) true (name_is_same name)

-- and none where it isn't
device_beside : (name : EpName) (kind : EpKind) (d : Device) → has_stream kind ≡ false → filter_map (taken_in name) (device_closing Ways.Out kind name d) ≡ []
device_beside name Kinds.Control d off = refl
device_beside name Kinds.Iso d off = refl
device_beside name _ d off = absurd (true≢false off)

module _ (w : World) (name : EpName) (way : name.way ≡ Ways.Out) (on : opened w.driver name ≡ true) (d : Device) (found : find (λ e. e.address == name.addr) w.bus.devices ≡ Some d) (xs : List ℕ) (takes : taken_of d name ≡ xs) where
  told_here : (s : Seat) (h : Option HubContent) → s.name ≡ name → filter_map (taken_in name) (told_closing s (find (λ e. e.address == s.name.addr) w.bus.devices) h) ≡ filter_map (taken_in name) (device_closing Ways.Out s.kind name d)
  told_here s h same =
      ap (λ (n : EpName). filter_map (taken_in name) (told_closing s (find (λ e. e.address == n.addr) w.bus.devices) h)) same
      ∙ ap (λ (o : Option Device). filter_map (taken_in name) (told_closing s o h)) found
      ∙ ap (λ (n : EpName). filter_map (taken_in name) (device_closing n.way s.kind n d)) same
      ∙ ap (λ (v : Way). filter_map (taken_in name) (device_closing v s.kind name d)) way

  behind : (s : Seat) → filter_map (taken_in name) (opened_closings w s) ≡ filter_map (taken_in name) (told_closing s (find (λ e. e.address == s.name.addr) w.bus.devices) (hub_of w.bus s.name))
  behind s =
      filter_map-append (taken_in name) (waiting_closing s.name (waiting w.driver s.name)) (told_closing s (find (λ e. e.address == s.name.addr) w.bus.devices) (hub_of w.bus s.name))
      ∙ ap (λ (ys : List (List ℕ)). ys ++ filter_map (taken_in name) (told_closing s (find (λ e. e.address == s.name.addr) w.bus.devices) (hub_of w.bus s.name))) (waiting_none name s.name (waiting w.driver s.name) (nat_lt 0 (waiting w.driver s.name)))

  is_open : (s : Seat) → s.name ≡ name → seat_closings w s ≡ opened_closings w s
  is_open s same = ap (λ (b : Bool). if b then opened_closings w s else []) (ap (opened w.driver) same ∙ on)

  of_here : (s : Seat) → s.name ≡ name → filter_map (taken_in name) (seat_closings w s) ≡ filter_map (taken_in name) (device_closing Ways.Out s.kind name d)
  of_here s same = ap (filter_map (taken_in name)) (is_open s same) ∙ behind s ∙ told_here s (hub_of w.bus s.name) same

  of_other : (s : Seat) (b : Bool) → is_same_name s.name name ≡ false → filter_map (taken_in name) (if b then opened_closings w s else []) ≡ []
  of_other s true is = behind s ∙ told_other name s (find (λ e. e.address == s.name.addr) w.bus.devices) (hub_of w.bus s.name) is
  of_other s false is = refl

  tells_it : (s : Seat) → s.name ≡ name → has_stream s.kind ≡ true → filter_map (taken_in name) (seat_closings w s) ≡ xs ∷ []
  tells_it s same streams = of_here s same ∙ device_here name s.kind d streams ∙ ap (λ (bytes : List ℕ). bytes ∷ []) takes

  by_kind : (s : Seat) (b : Bool) → s.name ≡ name → has_stream s.kind ≡ b → (filter_map (taken_in name) (seat_closings w s) ≡ []) ⊎ (filter_map (taken_in name) (seat_closings w s) ≡ xs ∷ [])
  by_kind s true same is = inr (tells_it s same is)
  by_kind s false same is = inl (of_here s same ∙ device_beside name s.kind d is)

  -- each seat tells that, or nothing
  by_name : (s : Seat) (b : Bool) → is_same_name s.name name ≡ b → (filter_map (taken_in name) (seat_closings w s) ≡ []) ⊎ (filter_map (taken_in name) (seat_closings w s) ≡ xs ∷ [])
  by_name s true is = by_kind s (has_stream s.kind) (same_name_is s.name name is) refl
  by_name s false is = inl (of_other s (opened w.driver s.name) is)

  -- ---- the first that tells it

  one_first : (s : Seat) (rest : List Closing) → filter_map (taken_in name) (seat_closings w s) ≡ xs ∷ [] → slice_get (filter_map (taken_in name) (seat_closings w s ++ rest)) 0 ≡ Some xs
  one_first s rest is = ap (λ (ys : List (List ℕ)). slice_get ys 0) (filter_map-append (taken_in name) (seat_closings w s) rest ∙ ap (λ (ys : List (List ℕ)). ys ++ filter_map (taken_in name) rest) is)

  pub first_at : (seats : List Seat) (k : ℕ) (s : Seat) → slice_get seats k ≡ Some s → s.name ≡ name → has_stream s.kind ≡ true → slice_get (filter_map (taken_in name) (flat_map (seat_closings w) seats)) 0 ≡ Some xs
  first_at [] zero s here same streams = absurd cc
  first_at [] (suc k) s here same streams = absurd cc
  first_at (z ∷ zs) zero s here same streams =
      let it : z ≡ s = same_Some z s here in
      one_first z (flat_map (seat_closings w) zs) (tells_it z (ap (λ (y : Seat). y.name) it ∙ same) (ap (λ (y : Seat). has_stream y.kind) it ∙ streams))
  first_at (z ∷ zs) (suc k) s here same streams =
      ⊎_elim (λ (none : filter_map (taken_in name) (seat_closings w z) ≡ []).
      ap (λ (ys : List (List ℕ)). slice_get ys 0) (filter_map-append (taken_in name) (seat_closings w z) (flat_map (seat_closings w) zs) ∙ ap (λ (ys : List (List ℕ)). ys ++ filter_map (taken_in name) (flat_map (seat_closings w) zs)) none)
      ∙ first_at zs k s here same streams)
      (λ (one : filter_map (taken_in name) (seat_closings w z) ≡ xs ∷ []). one_first z (flat_map (seat_closings w) zs) one) (by_name z (is_same_name z.name name) refl)

-- ---- the law

pub closing_tells_taker : ClosingTellsTaker
closing_tells_taker fixed w x t way streams k apart on is =
    let h : HasTaker (wired fixed w) x.name.addr x.name.num t = taker_found (wired fixed w) x.name.addr x.name.num t is in
    let it : slice_get w.bus.devices h.device_place ≡ Some h.at.device = h.at.is in
    first_at w x.name way on h.at.device (device_found w.bus.devices h.device_place x.name.addr h.at.device apart it h.at.address) t.taken
    (taken_there h.at.device x.name t way (record { device = h.at.device; is = refl; address = h.at.address; at = h.at.at })) fixed.seats k.place k.seat k.here k.name (ap has_stream k.kind ∙ streams)
