-- The sender of an IN endpoint that a script opens, wherever its device is: nothing was sent yet.
use Rattle.std.proofs.Common.{◌≡◌, ℕ, true, false, List, map, Option, Some, None, refl, sym, ap, subst, ◌∙◌, arith}
use Rattle.std.specs.Prelude.{◌==◌, ◌&&◌, Bool, find, slice_get}
use Rattle.std.specs.Option.{option_map, option_and_then}
use Rattle.std.specs.List.{AllByRecursion, list_any}
use Rattle.std.proofs.lemmas.Bool.{and_parts, eqb-true, eq-eqb, cond-true}
use Rattle.std.proofs.lemmas.Option.{slice_get-map}
use Rattle.law_common.proofs.Lists.{all_both, all_more, nth_all}
use Rattle.law_devices.proofs.Common.{ways_equal}
use Rattle.usb_base.specs.declared.endpoints.EpDesc.{EpDesc}
use Rattle.usb_base.specs.declared.packets.Way.{Way}
use Rattle.usb_base.specs.declared.packets.Way.TheVariants as way
use Rattle.script_types.specs.declared.devices.EpText.{EpText}
use Rattle.script_types.specs.declared.devices.HubText.{HubText}
use Rattle.script_forms.specs.declared.statements.Name.{Name}
use Rattle.script_world.specs.Draft.{Draft, Placed, hub_of, same_way, is_named, device_text, script_of}
use Rattle.endpoint_script.specs.Device.{Device, place_named, endpoint_at, is_way, is_named as is_endpoint_named, opened_part}
use Rattle.endpoint_script.specs.Device.{opened_endpoint, opening}
use Rattle.bus_wire.specs.declared.seats.Seat.{Seat}
use Rattle.bus_wire.specs.declared.seats.TokenKind.TheVariants.{In}
use Rattle.bus_wire.specs.Seats.{suits, seats_from, hub_seats_from, seat_named, seats_of}
use Rattle.bus_wire.specs.Bus.{opening_bus, opening_wired}
use Rattle.bus_wire.specs.Fates.{is_same_name}
use Rattle.law_devices.specs.Senders.{sender_of_part, sender_of_endpoint, sender_of_device}
use Rattle.law_devices.specs.declared_controls.Zero.{AreZeroesAlone, IsZeroAlone}
use Rattle.law_devices.proofs.Drafts.{addresses, IsEpOf, HasOwn, IsDeclaredDraft}
use Rattle.law_devices.proofs.Lists.{Holds, all_find, all_filter_map, any_later, any_found, found_passes, IsFirst, found_first, none_each}
use Rattle.law_devices.proofs.Lists.{find_same, find_map, HasFound}
use Rattle.law_devices.proofs.Seats.{has_seat}
use Rattle.law_devices.proofs.Senders.{IsDeclaredAt}
use Rattle.law_below_hubs.specs.Seated.{end_seated, end_placed, sender_at}
use Rattle.law_reports.proofs.lemmas.pipes.lemmas.below_hubs.BelowTakers.{IsPlaced, placed_seats, hub_placed}

in_way : (a : Way) → is_way a way.In ≡ same_way a way.In
in_way way.In = refl
in_way _ = refl

module _ (w : Draft) (h : IsDeclaredDraft w) (name : Name) (x : EpDesc) (k : IsDeclaredAt w.devices name x)
    (isin : k.text.desc.name.way ≡ way.In) where
  abbrev y : EpDesc
  y = k.text.desc

  abbrev seats : List Seat
  seats = seats_of (script_of w)

  abbrev IsOwn : EpText → Type 0
  IsOwn = IsEpOf w.endpoints k.device.addr k.device.hub

  own : HasOwn w.endpoints k.device
  own = subst (Holds (HasOwn w.endpoints)) k.device_is (all_find (HasOwn w.endpoints) (λ d. d.addr == name.addr) w.devices h.own)

  text : IsOwn k.text
  text = subst (Holds IsOwn) k.text_is (all_find IsOwn (is_named name) k.device.eps own)

  passes : (y.name.num ≡ name.num) × (same_way y.name.way name.way ≡ true)
  passes =
      let both = and_parts (y.name.num == name.num) (same_way y.name.way name.way)
      (found_passes (is_named name) k.device.eps k.text k.text_is) in
      (eqb-true y.name.num name.num both.0, both.1)

  its_way : name.way ≡ way.In
  its_way = sym (ways_equal y.name.way name.way passes.1) ∙ isin

  first : IsFirst (λ (d : Placed). d.addr == name.addr) w.devices k.device
  first = found_first (λ (d : Placed). d.addr == name.addr) w.devices k.device k.device_is

  -- ---- its device

  abbrev opened : Device
  opened = opening (device_text k.device)

  opened_test : (t : EpText) → is_endpoint_named y.name.num way.In (opened_endpoint t) ≡ is_named name t
  opened_test t =
      ap (λ n. t.desc.name.num == n && is_way t.desc.name.way way.In) passes.0
      ∙ ap (λ b. t.desc.name.num == name.num && b) (in_way t.desc.name.way)
      ∙ ap (λ v. t.desc.name.num == name.num && same_way t.desc.name.way v) (sym its_way)

  endpoint_is : find (is_endpoint_named y.name.num way.In) opened.endpoints ≡ Some (opened_endpoint k.text)
  endpoint_is =
      find_map (is_endpoint_named y.name.num way.In) opened_endpoint k.device.eps
      ∙ ap (option_map opened_endpoint)
      (find_same (λ (t : EpText). is_endpoint_named y.name.num way.In (opened_endpoint t)) (is_named name) k.device.eps
      (all_more IsOwn (λ t. is_endpoint_named y.name.num way.In (opened_endpoint t) ≡ is_named name t) k.device.eps
      (λ t _. opened_test t) own)
      ∙ k.text_is)

  endpoint_there : endpoint_at opened.endpoints (place_named opened.endpoints y.name.num way.In) ≡ Some (opened_endpoint k.text)
  endpoint_there =
      let z = found_first (is_endpoint_named y.name.num way.In) opened.endpoints (opened_endpoint k.text) endpoint_is in
      ap (endpoint_at opened.endpoints) z.at ∙ z.here

  device_sender : sender_of_device y.name.addr y.name.num (Some opened) ≡ sender_of_part (opened_part y.name.way y.kind k.text)
  device_sender = cond-true _ _ _ (eq-eqb y.name.addr k.device.addr text.address) ∙ ap sender_of_endpoint endpoint_there

  device_there : slice_get (opening_bus (script_of w)).devices first.place ≡ Some opened
  device_there =
      slice_get-map opening (map device_text w.devices) first.place
      ∙ ap (option_map opening) (slice_get-map device_text w.devices first.place ∙ ap (option_map device_text) first.here)

  -- ---- its seat

  abbrev test : Seat → Bool
  test s = suits s.name y.name.addr y.name.num In

  no_hubs : AllByRecursion (λ (t : HubText). (t.addr == k.device.addr) ≡ false) w.hubs
  no_hubs =
      none_each (λ (t : HubText). t.addr == k.device.addr) w.hubs
      (nth_all (λ a. hub_of w.hubs a ≡ None) (addresses w.devices) first.place k.device.addr h.no_hub
      (slice_get-map (λ (d : Placed). d.addr) w.devices first.place ∙ ap (option_map (λ (d : Placed). d.addr)) first.here))

  any_test : list_any test seats ≡ true
  any_test =
      any_later test (hub_seats_from 0 w.hubs) _
      (has_seat w.endpoints first.place w.devices k.device (is_named name) k.text first.here k.text_is isin text.listed)

  seats_placed : AllByRecursion (IsPlaced k.device.addr first.place) seats
  seats_placed =
      all_both (IsPlaced k.device.addr first.place) (hub_seats_from 0 w.hubs) _ (hub_placed k.device.addr first.place 0 w.hubs no_hubs)
      (all_filter_map (IsPlaced k.device.addr first.place) (seat_named (seats_from 0 (map device_text w.devices))) w.endpoints
      (λ n. all_find (IsPlaced k.device.addr first.place) (λ s. is_same_name s.name n) (seats_from 0 (map device_text w.devices))
      (placed_seats w.endpoints k.device.addr first.place 0 first.place w.devices k.device first.here refl (omega arith) h.apart h.own)))

  pub sender_is : sender_at (opening_wired (script_of w)) y.name.addr y.name.num ≡ sender_of_part (opened_part y.name.way y.kind k.text)
  sender_is =
      let found : HasFound test seats = any_found test seats any_test in
      let z : IsFirst test seats found.first = found_first test seats found.first found.is in
      let t = found_passes test seats found.first found.is in
      let named = eqb-true found.first.name.addr y.name.addr (and_parts (found.first.name.addr == y.name.addr) _ t).0 in
      let owner = nth_all (IsPlaced k.device.addr first.place) seats z.place found.first seats_placed z.here (named ∙ text.address) in
      ap (end_placed sender_of_device (opening_wired (script_of w)).fixed (opening_bus (script_of w)).devices y.name.addr y.name.num) z.at
      ∙ ap (end_seated sender_of_device (opening_bus (script_of w)).devices y.name.addr y.name.num) z.here
      ∙ ap (λ (p : Option ℕ). sender_of_device y.name.addr y.name.num
      (option_and_then (λ i. slice_get (opening_bus (script_of w)).devices i) p)) owner
      ∙ ap (sender_of_device y.name.addr y.name.num) device_there ∙ device_sender

  -- number 0 is that of a control endpoint alone (5.3.1.2)
  pub no_zero_in : AreZeroesAlone (opening_bus (script_of w)) → y.name.num ≡ 0 → ⊥
  no_zero_in alone zero_is =
      let z = found_first (λ e. _) opened.endpoints (opened_endpoint k.text) endpoint_is in
      let none : place_named opened.endpoints 0 way.In ≡ None =
      (nth_all IsZeroAlone (opening_bus (script_of w)).devices first.place opened alone device_there).no_in in
      some z.place (sym z.at ∙ ap (λ (n : ℕ). place_named opened.endpoints n way.In) zero_is ∙ none)
    where
      some : (i : ℕ) → ◌≡◌ {A = Option ℕ} (Some i) None → ⊥
      some i e = cc
