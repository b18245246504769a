-- The taker of an OUT endpoint that a script opens, whose device is on the high-speed bus.
use Rattle.std.proofs.Common.{◌≡◌, true, false, List, map, Some, None, refl, sym, ap, subst, ◌∙◌, arith}
use Rattle.std.specs.Prelude.{◌==◌, ◌&&◌, Bool, find, slice_get}
use Rattle.std.specs.List.{AllByRecursion, list_any}
use Rattle.std.specs.Option.{option_map}
use Rattle.std.proofs.lemmas.Bool.{and_parts, eqb-true}
use Rattle.std.proofs.lemmas.Option.{slice_get-map}
use Rattle.law_devices.proofs.Common.{out_is, out_way}
use Rattle.law_common.proofs.Lists.{all_both, all_more, nth_all}
use Rattle.usb_base.specs.declared.endpoints.EpDesc.{EpDesc}
use Rattle.usb_base.specs.declared.packets.Way.TheVariants as way
use Rattle.script_types.specs.declared.devices.EpText.{EpText}
use Rattle.script_types.specs.declared.devices.HubText.{HubText}
use Rattle.script_forms.specs.declared.statements.Name.{Name}
use Rattle.script_world.specs.Draft.{Draft, Placed, hub_of, same_way, is_named, device_text, script_of}
use Rattle.endpoint_script.specs.Device.{Device, is_way, is_named as is_endpoint_named, opened_part, opened_endpoint, opening}
use Rattle.bus_wire.specs.declared.seats.Seat.{Seat}
use Rattle.bus_wire.specs.declared.seats.TokenKind.TheVariants.{Out}
use Rattle.bus_wire.specs.Seats.{suits, seats_from, hub_seats_from, seats_of}
use Rattle.bus_wire.specs.Bus.{opening_bus, opening_wired}
use Rattle.law_devices.specs.scripted_takers.Takers.{taker_of_part, taker_of_device, taker_of}
use Rattle.law_devices.proofs.lemmas.scripted_takers.Asking.{taker_through, device_taker}
use Rattle.law_devices.proofs.Lists.{Holds, all_find, any_later, any_found, found_passes, IsFirst}
use Rattle.law_devices.proofs.Lists.{found_first}
use Rattle.law_devices.proofs.Lists.{none_each, find_same, find_map}
use Rattle.law_devices.proofs.Drafts.{addresses, IsEpOf, HasOwn, IsDeclaredDraft}
use Rattle.law_devices.proofs.Seats.{IsAt, owners, hub_owners, named_owners}
use Rattle.law_devices.proofs.Senders.{IsDeclaredAt}
use Rattle.law_devices.proofs.lemmas.declared_takers.Seats.{has_out_seat}

-- ---- what the bus has for it

module _ (w : Draft) (h : IsDeclaredDraft w) (name : Name) (x : EpDesc) (k : IsDeclaredAt w.devices name x)
    (isout : k.text.desc.name.way ≡ way.Out) where
  abbrev y : EpDesc
  y = k.text.desc

  abbrev seats : List Seat
  seats = seats_of (script_of w)

  abbrev IsOwn : EpText → Type 0
  IsOwn = IsEpOf w.endpoints k.device.addr k.device.hub

  own : HasOwn w.endpoints k.device
  own = subst (Holds (HasOwn w.endpoints)) k.device_is (all_find (HasOwn w.endpoints) (λ d. d.addr == name.addr) w.devices h.own)

  pub text : IsOwn k.text
  text = subst (Holds IsOwn) k.text_is
      (all_find IsOwn (is_named name) k.device.eps own)

  passes : (y.name.num ≡ name.num) × (same_way y.name.way name.way ≡ true)
  passes =
      let both = and_parts (y.name.num == name.num) (same_way y.name.way name.way)
      (found_passes (is_named name) k.device.eps k.text k.text_is) in
      (eqb-true y.name.num name.num both.0, both.1)

  its_way : name.way ≡ way.Out
  its_way = out_is name.way (ap (λ v. same_way v name.way) (sym isout) ∙ passes.1)

  pub first : IsFirst (λ (d : Placed). d.addr == name.addr) w.devices k.device
  first = found_first (λ (d : Placed). d.addr == name.addr) w.devices k.device k.device_is

  -- ---- its device

  abbrev pub opened : Device
  opened = opening (device_text k.device)

  pub opened_test : (t : EpText) → is_endpoint_named y.name.num way.Out (opened_endpoint t) ≡ is_named name t
  opened_test t =
      ap (λ n. t.desc.name.num == n && is_way t.desc.name.way way.Out) passes.0
      ∙ ap (λ b. t.desc.name.num == name.num && b) (out_way t.desc.name.way)
      ∙ ap (λ v. t.desc.name.num == name.num && same_way t.desc.name.way v) (sym its_way)

  pub endpoint_is : find (is_endpoint_named y.name.num way.Out) opened.endpoints ≡ Some (opened_endpoint k.text)
  endpoint_is =
      find_map (is_endpoint_named y.name.num way.Out) opened_endpoint k.device.eps
      ∙ ap (option_map opened_endpoint)
      (find_same (λ (t : EpText). is_endpoint_named y.name.num way.Out (opened_endpoint t)) (is_named name) k.device.eps
      (all_more IsOwn (λ t. is_endpoint_named y.name.num way.Out (opened_endpoint t) ≡ is_named name t) k.device.eps
      (λ t _. opened_test t) own)
      ∙ k.text_is)

  pub taker_there : taker_of_device y.name.addr y.name.num (Some opened) ≡ taker_of_part (opened_part y.name.way y.kind k.text)
  taker_there =
      let z = found_first (is_endpoint_named y.name.num way.Out) opened.endpoints (opened_endpoint k.text) endpoint_is in
      device_taker opened y.name.addr y.name.num z.place (opened_endpoint k.text) text.address z.at z.here

  pub device_there : slice_get (opening_bus (script_of w)).devices first.place ≡ Some opened
  device_there =
      slice_get-map opening (map device_text w.devices) first.place
      ∙ ap (option_map opening) (slice_get-map device_text w.devices first.place ∙ ap (option_map device_text) first.here)

  -- ---- its seat

  abbrev test : Seat → Bool
  test s = suits s.name y.name.addr y.name.num Out

  pub no_hubs : AllByRecursion (λ (x : HubText). (x.addr == k.device.addr) ≡ false) w.hubs
  no_hubs =
      none_each (λ (x : HubText). x.addr == k.device.addr) w.hubs
      (nth_all (λ a. hub_of w.hubs a ≡ None) (addresses w.devices) first.place k.device.addr h.no_hub
      (slice_get-map (λ (d : Placed). d.addr) w.devices first.place ∙ ap (option_map (λ (d : Placed). d.addr)) first.here))

  seats_own : k.device.hub ≡ None → AllByRecursion (IsAt k.device.addr first.place) seats
  seats_own root =
      all_both (IsAt k.device.addr first.place) (hub_seats_from 0 w.hubs) _ (hub_owners k.device.addr first.place 0 w.hubs no_hubs)
      (named_owners k.device.addr first.place (seats_from 0 (map device_text w.devices)) w.endpoints
      (owners w.endpoints k.device.addr first.place 0 first.place w.devices k.device first.here refl (omega arith) root h.apart h.own))

  pub any_test : list_any test seats ≡ true
  any_test =
      any_later test (hub_seats_from 0 w.hubs) _
      (has_out_seat w.endpoints first.place w.devices k.device (is_named name) k.text first.here k.text_is isout text.listed)

  pub taker_is : y.hub ≡ None
      → taker_of (opening_wired (script_of w)) y.name.addr y.name.num ≡ taker_of_part (opened_part y.name.way y.kind k.text)
  taker_is root =
      let found = any_found test seats any_test in
      let z = found_first test seats found.first found.is in
      let t = found_passes test seats found.first found.is in
      let named = eqb-true found.first.name.addr y.name.addr (and_parts (found.first.name.addr == y.name.addr) _ t).0 in
      let owner = nth_all (IsAt k.device.addr first.place) seats z.place found.first
      (seats_own (sym text.behind ∙ root)) z.here (named ∙ text.address) in
      taker_through (opening_wired (script_of w)) y.name.addr y.name.num z.place found.first first.place (opening_bus (script_of w))
      z.at z.here owner
      ∙ ap (taker_of_device y.name.addr y.name.num) device_there ∙ taker_there
