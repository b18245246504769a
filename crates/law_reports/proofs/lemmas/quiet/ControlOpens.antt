-- Before the first line each control endpoint that a text opens on a device below a hub is there.
use Rattle.std.proofs.Common.{◌≡◌, ℕ, Bool, true, false, List, map, position, Option, Some, None, refl, sym, ap, subst, ◌∙◌, inl, inr, ◌⊎◌, arith}
use Rattle.std.specs.Prelude.{◌==◌, ◌&&◌, find, if◌then◌else◌, slice_get, is_some}
use Rattle.std.specs.List.{AllByRecursion, list_any}
use Rattle.std.specs.Option.{option_map, option_and_then}
use Rattle.std.proofs.lemmas.Bool.{and_parts, eqb-true, eq-eqb}
use Rattle.std.proofs.lemmas.Option.{slice_get-map}
use Rattle.law_common.proofs.Lists.{all_both, nth_all, all_more}
use Rattle.usb_base.specs.declared.endpoints.EpDesc.{EpDesc}
use Rattle.usb_base.specs.declared.packets.EpKind.TheVariants as kinds
use Rattle.usb_base.specs.declared.packets.Way.{Way}
use Rattle.usb_base.specs.declared.packets.Way.TheVariants as way
use Rattle.script_types.specs.declared.devices.EpText.{EpText}
use Rattle.script_types.specs.declared.devices.HubText.{HubText}
use Rattle.script_types.specs.declared.scripts.Script.{Script}
use Rattle.script_forms.specs.declared.statements.Name.{Name}
use Rattle.script_forms.specs.declared.statements.Statement.{Statement}
use Rattle.script_text.specs.Faults.{Spells}
use Rattle.script_world.specs.Draft.{Draft, Placed, device_of, hub_of, is_named, same_way, device_text, script_of}
use Rattle.script_world.specs.Rows.{cause_of, after}
use Rattle.endpoint_script.specs.Device.{Device, is_way, is_named as is_endpoint_named, place_named, opened_part, opened_endpoint, opening}
use Rattle.bus_wire.specs.declared.seats.Seat.{Seat}
use Rattle.bus_wire.specs.declared.seats.TokenKind.TheVariants.{In, Out, Setup}
use Rattle.bus_wire.specs.Seats.{suits, seats_from, hub_seats_from, seat_named, seats_of}
use Rattle.bus_wire.specs.Bus.{opening_bus, fixed_of}
use Rattle.bus_wire.specs.Fates.{is_same_name}
use Rattle.claims_report.specs.ControlSides.{Device as Side}
use Rattle.claims_report.specs.Controls.{control_of_part, control_of_device, is_at}
use Rattle.drv_table.specs.Words.{is_high}
use Rattle.law_devices.proofs.lemmas.scripted_requests.Finding.{device_control}
use Rattle.law_devices.proofs.Lists.{Holds, all_find, all_filter_map, any_later, any_found, found_passes, IsFirst, found_first, none_each, find_same, find_map}
use Rattle.law_devices.proofs.Drafts.{addresses, IsEpOf, HasOwn, IsNamedIn, IsDeclaredDraft}
use Rattle.law_devices.proofs.Texts.{IsScriptOf}
use Rattle.law_devices.proofs.Senders.{IsDeclaredAt, empty_declared, second_declared, line_declares}
use Rattle.law_devices.specs.declared_controls.Zero.{IsZeroAlone}
use Rattle.law_devices.proofs.lemmas.declared_controls.Alone.{device_alone}
use Rattle.law_devices.proofs.lemmas.declared_controls.Names.{control_zero}
use Rattle.law_devices.proofs.lemmas.declared_controls.Places.{position_same}
use Rattle.law_devices.proofs.lemmas.declared_controls.Requests.{IsEight, form_eight}
use Rattle.law_devices.proofs.lemmas.declared_controls.Texts.{is_ranged, spelled_kept}
use Rattle.law_devices.proofs.lemmas.declared_controls.Drafts.{HasName, has_hub, IsToldDesc, IsToldLine, IsToldDraft, after_told}
use Rattle.law_devices.proofs.lemmas.declared_controls.Seats.{has_control_seat, seats_alike}
use Rattle.law_below_hubs.specs.Seated.{end_seated}
use Rattle.law_below_hubs.specs.SeatedControls.{control_placed, control_in}
use Rattle.law_opened.specs.Opened.{IsOpened}
use Rattle.law_opened.proofs.Opened.{declared_by}
use Rattle.usb_base.specs.declared.commands.Cmd.TheVariants as cmd
use Rattle.script_types.specs.declared.scripts.Line.TheVariants as line
use Rattle.law_reports.proofs.lemmas.pipes.lemmas.below_hubs.BelowTakers.{IsPlaced, placed_seats, hub_placed}
use Rattle.law_reports.proofs.lemmas.quiet.HubsDeclared.{has_device, IsPlacedDraft, IsPlacedDesc, same_placed, after_placed, empty_placed, opened_desc}

ctl_is : (v : Way) → same_way way.Ctl v ≡ true → v ≡ way.Ctl
ctl_is way.Ctl e = refl
ctl_is _ e = absurd cc

ctl_way : (v : Way) → is_way v way.Ctl ≡ same_way v way.Ctl
ctl_way way.In = refl
ctl_way _ = refl

-- ---- where it was declared

module _ (w : Draft) (h : IsDeclaredDraft w) (g : IsToldDraft w) (name : Name) (x : EpDesc) (k : IsDeclaredAt w.devices name x)
    (isctl : k.text.desc.name.way ≡ way.Ctl) (zeroth : k.text.desc.name.num ≡ 0) where
  abbrev y : EpDesc
  y = k.text.desc

  own : HasOwn w.endpoints k.device
  own = subst (Holds (HasOwn w.endpoints)) k.device_is (all_find (HasOwn w.endpoints) (λ d. d.addr == name.addr) w.devices h.own)

  text : IsEpOf w.endpoints k.device.addr k.device.hub k.text
  text =
      subst (Holds (IsEpOf w.endpoints k.device.addr k.device.hub)) k.text_is
      (all_find (IsEpOf w.endpoints k.device.addr k.device.hub) (is_named name) k.device.eps own)

  passes : (k.text.desc.name.num ≡ name.num) × (same_way k.text.desc.name.way name.way ≡ true)
  passes =
      let both = and_parts (y.name.num == name.num) (same_way y.name.way name.way)
      (found_passes (is_named name) k.device.eps k.text k.text_is) in
      (eqb-true y.name.num name.num both.0, both.1)

  its_way : name.way ≡ way.Ctl
  its_way = ctl_is name.way (ap (λ v. same_way v name.way) (sym isctl) ∙ passes.1)

  first : IsFirst (λ (d : Placed). d.addr == name.addr) w.devices k.device
  first = found_first (λ (d : Placed). d.addr == name.addr) w.devices k.device k.device_is

  -- ---- its device

  abbrev opened : Device
  opened = opening (device_text k.device)

  opened_test : (t : EpText) → is_endpoint_named k.text.desc.name.num way.Ctl (opened_endpoint t) ≡ is_named name t
  opened_test t =
      ap (λ n. t.desc.name.num == n && is_way t.desc.name.way way.Ctl) passes.0
      ∙ ap (λ b. t.desc.name.num == name.num && b) (ctl_way t.desc.name.way)
      ∙ ap (λ v. t.desc.name.num == name.num && same_way t.desc.name.way v) (sym its_way)

  endpoint_is : find (is_endpoint_named k.text.desc.name.num way.Ctl) opened.endpoints ≡ Some (opened_endpoint k.text)
  endpoint_is =
      find_map (is_endpoint_named y.name.num way.Ctl) opened_endpoint k.device.eps
      ∙ ap (option_map opened_endpoint)
      (find_same (λ (t : EpText). is_endpoint_named y.name.num way.Ctl (opened_endpoint t)) (is_named name) k.device.eps
      (all_more (IsEpOf w.endpoints k.device.addr k.device.hub)
      (λ t. is_endpoint_named y.name.num way.Ctl (opened_endpoint t) ≡ is_named name t) k.device.eps (λ t _. opened_test t) own)
      ∙ k.text_is)

  alone : IsZeroAlone opened
  alone =
      device_alone (device_text k.device)
      (subst (Holds (λ (d : Placed). AllByRecursion HasName d.eps)) k.device_is
      (all_find (λ (d : Placed). AllByRecursion HasName d.eps) (λ d. d.addr == name.addr) w.devices g.devices))

  control_there : control_of_device k.text.desc.name.addr k.text.desc.name.num (Some opened)
      ≡ control_of_part (opened_part k.text.desc.name.way k.text.desc.kind k.text)
  control_there =
      let z = found_first (is_endpoint_named y.name.num way.Ctl) opened.endpoints (opened_endpoint k.text) endpoint_is in
      device_control opened y.name.addr y.name.num z.place (opened_endpoint k.text) text.address
      (ap (λ (n : ℕ). place_named opened.endpoints n way.In) zeroth ∙ alone.no_in)
      (ap (λ (n : ℕ). place_named opened.endpoints n way.Out) zeroth ∙ alone.no_out) z.at z.here

  device_there : slice_get (opening_bus (script_of w)).devices first.place ≡ Some opened
  device_there =
      slice_get-map opening (map device_text w.devices) first.place
      ∙ ap (option_map opening) (slice_get-map device_text w.devices first.place ∙ ap (option_map device_text) first.here)

  -- ---- its seat

  abbrev test : Seat → Bool
  test s = suits s.name k.text.desc.name.addr k.text.desc.name.num Setup

  no_hubs : AllByRecursion (λ (x : HubText). (x.addr == k.device.addr) ≡ false) w.hubs
  no_hubs =
      none_each (λ (x : HubText). x.addr == k.device.addr) w.hubs
      (nth_all (λ a. hub_of w.hubs a ≡ None) (addresses w.devices) first.place k.device.addr h.no_hub
      (slice_get-map (λ (d : Placed). d.addr) w.devices first.place ∙ ap (option_map (λ (d : Placed). d.addr)) first.here))

  seats_placed : AllByRecursion (IsPlaced k.device.addr first.place) (seats_of (script_of w))
  seats_placed =
      all_both (IsPlaced k.device.addr first.place) (hub_seats_from 0 w.hubs) _ (hub_placed k.device.addr first.place 0 w.hubs no_hubs)
      (all_filter_map (IsPlaced k.device.addr first.place) (seat_named (seats_from 0 (map device_text w.devices))) w.endpoints
      (λ n. all_find (IsPlaced k.device.addr first.place) (λ s. is_same_name s.name n) (seats_from 0 (map device_text w.devices))
      (placed_seats w.endpoints k.device.addr first.place 0 first.place w.devices k.device first.here refl (omega arith) h.apart h.own)))

  any_test : list_any test (seats_of (script_of w)) ≡ true
  any_test =
      any_later test (hub_seats_from 0 w.hubs) _
      (has_control_seat w.endpoints first.place w.devices k.device (is_named name) k.text first.here k.text_is isctl text.listed)

  in_alike : position (λ (s : Seat). suits s.name k.text.desc.name.addr k.text.desc.name.num In) (seats_of (script_of w))
      ≡ position test (seats_of (script_of w))
  in_alike =
      subst (λ n. position (λ (s : Seat). suits s.name y.name.addr n In) (seats_of (script_of w))
      ≡ position (λ (s : Seat). suits s.name y.name.addr n Setup) (seats_of (script_of w))) (sym zeroth)
      (position_same (λ (s : Seat). suits s.name y.name.addr 0 In) (λ (s : Seat). suits s.name y.name.addr 0 Setup)
      (seats_of (script_of w)) (seats_alike w y.name.addr In g refl))

  out_alike : position (λ (s : Seat). suits s.name k.text.desc.name.addr k.text.desc.name.num Out) (seats_of (script_of w))
      ≡ position test (seats_of (script_of w))
  out_alike =
      subst (λ n. position (λ (s : Seat). suits s.name y.name.addr n Out) (seats_of (script_of w))
      ≡ position (λ (s : Seat). suits s.name y.name.addr n Setup) (seats_of (script_of w))) (sym zeroth)
      (position_same (λ (s : Seat). suits s.name y.name.addr 0 Out) (λ (s : Seat). suits s.name y.name.addr 0 Setup)
      (seats_of (script_of w)) (seats_alike w y.name.addr Out g refl))

  control_is : control_in (fixed_of (script_of w)) (opening_bus (script_of w)).devices k.text.desc.name.addr k.text.desc.name.num
      ≡ control_of_part (opened_part k.text.desc.name.way k.text.desc.kind k.text)
  control_is =
      let found = any_found test (seats_of (script_of w)) any_test in
      let z = found_first test (seats_of (script_of w)) found.first found.is in
      let t = found_passes test (seats_of (script_of w)) found.first found.is in
      let named = eqb-true found.first.name.addr y.name.addr (and_parts (found.first.name.addr == y.name.addr) _ t).0 in
      let owner = nth_all (IsPlaced k.device.addr first.place) (seats_of (script_of w)) z.place found.first seats_placed z.here
      (named ∙ text.address) in
      let seat : Option Side = end_seated control_of_device (opening_bus (script_of w)).devices y.name.addr y.name.num
      (slice_get (seats_of (script_of w)) z.place) in
      ap (control_placed (fixed_of (script_of w)) (opening_bus (script_of w)).devices y.name.addr y.name.num) z.at
      ∙ ap (λ (o : Option ℕ). if is_at z.place o && is_at z.place (position (λ (s : Seat). suits s.name y.name.addr y.name.num Out)
      (seats_of (script_of w))) then seat else None) (in_alike ∙ z.at)
      ∙ ap (λ (o : Option ℕ). if z.place == z.place && is_at z.place o then seat else None) (out_alike ∙ z.at)
      ∙ ap (λ (b : Bool). if b && b then seat else None) (eq-eqb z.place z.place refl)
      ∙ ap (end_seated control_of_device (opening_bus (script_of w)).devices y.name.addr y.name.num) z.here
      ∙ ap (λ (p : Option ℕ). control_of_device y.name.addr y.name.num
      (option_and_then (λ i. slice_get (opening_bus (script_of w)).devices i) p)) owner
      ∙ ap (control_of_device y.name.addr y.name.num) device_there ∙ control_there

  control_opens : is_some (control_in (fixed_of (script_of w)) (opening_bus (script_of w)).devices k.text.desc.name.addr
      k.text.desc.name.num) ≡ true
  control_opens = ap is_some control_is ∙ ap (λ v. is_some (control_of_part (opened_part v y.kind k.text))) isctl

-- ---- a script

record AreAll (w : Draft) : Type 0 where
  declared : IsDeclaredDraft w
  told : IsToldDraft w
  placed : IsPlacedDraft w

line_keeps : (w : Draft) (n : ℕ) (s : Statement) → cause_of w s ≡ None → IsEight s → AreAll w → AreAll (after w n s)
line_keeps w n s new eight h = record {
  declared = line_declares w n s new h.declared;
  told = after_told w n s (is_ranged w s new) eight h.told;
  placed = after_placed w n s h.placed;
}

-- a device has no hub's address
no_hub_there : (hubs : List HubText) (ds : List Placed) (addr : ℕ) → AllByRecursion (λ a. hub_of hubs a ≡ None) (addresses ds)
    → has_device ds addr ≡ true → has_hub hubs addr ≡ true → ⊥
no_hub_there hubs ds addr none device hub =
    let f = any_found (λ (d : Placed). d.addr == addr) ds device in
    let z = found_first (λ (d : Placed). d.addr == addr) ds f.first f.is in
    let same : f.first.addr ≡ addr = eqb-true f.first.addr addr (found_passes (λ (d : Placed). d.addr == addr) ds f.first f.is) in
    let nobody : hub_of hubs addr ≡ None = subst (λ (a : ℕ). hub_of hubs a ≡ None) same
    (nth_all (λ a. hub_of hubs a ≡ None) (addresses ds) z.place f.first.addr none
    (slice_get-map (λ (d : Placed). d.addr) ds z.place ∙ ap (option_map (λ (d : Placed). d.addr)) z.here)) in
    let g = any_found (λ (x : HubText). x.addr == addr) hubs hub in
    let both : _ ≡ _ = sym nobody ∙ g.is in cc

of_draft : (w : Draft) (x : EpDesc) → AreAll w → IsOpened (script_of w) x → is_high x.speed ≡ false → x.kind ≡ kinds.Control
    → is_some (control_in (fixed_of (script_of w)) (opening_bus (script_of w)).devices x.name.addr x.name.num) ≡ true
of_draft w x h o slow control =
    let told : IsToldDesc w.hubs w.devices x =
    nth_all (λ l. IsToldLine w.hubs w.devices l.1) w.lines o.place (o.number, line.Command (cmd.OpenEp x)) h.told.lines o.here in
    let zero = control_zero x told.name control in
    by told.from zero.way zero.number
  where
    placed : IsPlacedDesc w.hubs w.devices x
    placed = opened_desc w x h.placed o

    by : (has_hub w.hubs x.name.addr ≡ true) ⊎ IsNamedIn w.devices x → x.name.way ≡ way.Ctl → x.name.num ≡ 0
        → is_some (control_in (fixed_of (script_of w)) (opening_bus (script_of w)).devices x.name.addr x.name.num) ≡ true
    by (inl hub) ctl zero = absurd (no_hub_there w.hubs w.devices x.name.addr h.declared.no_hub (placed.device slow) hub)
    by (inr n) ctl zero =
        let k = declared_by w.devices n.name x (device_of w.devices n.name.addr) refl n.here in
        subst (λ (d : EpDesc). is_some (control_in (fixed_of (script_of w)) (opening_bus (script_of w)).devices d.name.addr d.name.num) ≡ true)
        k.desc
        (control_opens w h.declared h.told n.name x k (ap (λ (d : EpDesc). d.name.way) k.desc ∙ ctl)
        (ap (λ (d : EpDesc). d.name.num) k.desc ∙ zero))

pub texts_open_slow_controls : (text : List ℕ) (s : Script) → Spells text s → (x : EpDesc) → IsOpened s x → is_high x.speed ≡ false
    → x.kind ≡ kinds.Control
    → is_some (control_in (fixed_of s) (opening_bus s).devices x.name.addr x.name.num) ≡ true
texts_open_slow_controls text s spelled x o slow control =
    let k : IsScriptOf AreAll s = spelled_kept AreAll IsEight form_eight
    (record { declared = empty_declared; told = record { devices = tt; lines = tt }; placed = empty_placed })
    (λ w h. record {
      declared = second_declared w h.declared;
      told = record { devices = h.told.devices; lines = h.told.lines };
      placed = same_placed w _ refl refl refl h.placed;
    }) line_keeps text s spelled in
    subst (λ (z : Script). is_some (control_in (fixed_of z) (opening_bus z).devices x.name.addr x.name.num) ≡ true) k.is
    (of_draft k.draft x k.holds (subst (λ (z : Script). IsOpened z x) (sym k.is) o) slow control)
