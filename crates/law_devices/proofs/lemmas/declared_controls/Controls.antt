-- The high-speed control endpoints of devices that a script opens, and what else holds of the script of a text.
use Rattle.std.proofs.Common.{◌≡◌, ℕ, Bool, true, false, List, [], ◌∷◌, map, position, Option, Some, None, refl, sym, ap, subst, ◌∙◌, inl, inr, ◌⊎◌, arith}
use Rattle.std.specs.Prelude.{◌==◌, ◌&&◌, find, if◌then◌else◌, slice_get, not}
use Rattle.std.specs.List.{AllByRecursion, list_any, flat_map}
use Rattle.std.specs.Option.{option_map, option_and_then}
use Rattle.std.proofs.lemmas.Bool.{and_parts, eqb-true, eq-eqb, true≢false, cases_Bool, cond-true, cond-false}
use Rattle.std.proofs.lemmas.Option.{same_Some, slice_get-map}
use Rattle.law_common.proofs.Options.{no_hub}
use Rattle.law_common.proofs.Lists.{all_both as all_append, nth_all, all_more}
use Rattle.usb_base.specs.declared.packets.Way.{Way}
use Rattle.usb_base.specs.declared.packets.Way.TheVariants as way
use Rattle.usb_base.specs.declared.endpoints.EpDesc.{EpDesc}
use Rattle.usb_base.specs.declared.endpoints.EpName.{EpName}
use Rattle.usb_base.specs.declared.commands.Cmd.TheVariants as cmd
use Rattle.script_types.specs.declared.devices.EpText.{EpText}
use Rattle.script_types.specs.declared.devices.HubText.{HubText}
use Rattle.script_types.specs.declared.devices.Item.{Item}
use Rattle.script_types.specs.declared.scripts.Line.{Line}
use Rattle.script_types.specs.declared.scripts.Line.TheVariants as line
use Rattle.script_types.specs.declared.scripts.Script.{Script}
use Rattle.script_forms.specs.declared.statements.Name.{Name}
use Rattle.script_forms.specs.declared.statements.Statement.{Statement}
use Rattle.script_world.specs.Draft.{Draft, Placed, empty, device_of, hub_of, ep_of, same_way, is_named, device_text, script_of}
use Rattle.script_world.specs.Rows.{cause_of, after}
use Rattle.script_text.specs.Faults.{Spells}
use Rattle.drv_table.specs.Words.{is_high}
use Rattle.script_fits.specs.Fits.{IsFit, IsFitLine}
use Rattle.script_fits.proofs.Texts.{spelled_fits}
use Rattle.law_scripts.specs.byte_answers.Bytes.{IsByteLine, IsByteScript}
use Rattle.law_scripts.proofs.lemmas.script_bytes.Texts.{a_text_spells_bytes}
use Rattle.endpoint_script.specs.Items.{naks_of, requests_of}
use Rattle.endpoint_script.specs.Device.{Device, is_way, is_named as is_endpoint_named, place_named, opened_part, opened_endpoint, opening}
use Rattle.dev_control.specs.Stages.{opened as opened_stages}
use Rattle.bus_wire.specs.declared.seats.Seat.{Seat}
use Rattle.bus_wire.specs.declared.seats.TokenKind.TheVariants.{In, Out, Setup}
use Rattle.bus_wire.specs.Fates.{is_same_way, is_same_name}
use Rattle.bus_wire.specs.Seats.{suits, seats_from, hub_seats_from, seats_of}
use Rattle.bus_wire.specs.Bus.{opening_bus, opening_wired}
use Rattle.claims_report.specs.Streams.{items_of, items_in}
use Rattle.law_request.specs.Scripted.{scripted}
use Rattle.claims_report.specs.ControlSides.{Device as Side}
use Rattle.law_devices.specs.request_calls.Bus.{device_of as side_of}
use Rattle.claims_report.specs.Controls.{control_of_part, control_of_device, is_at, is_of_hub}
use Rattle.law_devices.specs.Controls.{control_of_owner, control_of_seat, control_of_place, control_of}
use Rattle.law_devices.proofs.lemmas.scripted_requests.Finding.{device_control}
use Rattle.law_devices.proofs.Lists.{Holds, all_find, any_later, any_found, found_passes, IsFirst, found_first, none_each, find_append, find_later, find_same, find_map}
use Rattle.law_devices.proofs.Drafts.{addresses, IsEpOf, HasOwn, IsNamedIn, IsDeclaredDraft}
use Rattle.law_devices.proofs.Texts.{IsScriptOf}
use Rattle.law_devices.proofs.Seats.{IsAt, same_name, owners, hub_owners, named_owners}
use Rattle.law_devices.proofs.Senders.{IsDeclaredAt, empty_declared, second_declared, line_declares}
use Rattle.law_devices.specs.declared_controls.Opened.{endpoint_of, stages_of, HasItsControl, OpensItsControl, OpensControls}
use Rattle.law_devices.specs.declared_controls.Names.{IsZero, NamesLine, NamesEndpoints}
use Rattle.law_devices.specs.declared_controls.Requests.{AsksLine, AsksRequests}
use Rattle.law_devices.specs.declared_controls.Zero.{IsZeroAlone, AreZeroesAlone}
use Rattle.law_devices.specs.declared_controls.Laws.{TextsOpenControls, TextsNameEndpoints, TextsAskRequests, TextsLeaveZeroAlone}
use Rattle.law_devices.proofs.lemmas.declared_controls.Places.{position_same, all_both}
use Rattle.law_devices.proofs.lemmas.declared_controls.Names.{control_zero}
use Rattle.law_devices.proofs.lemmas.declared_controls.Requests.{IsEight, form_eight}
use Rattle.law_devices.proofs.lemmas.declared_controls.Texts.{is_ranged, spelled_kept}
use Rattle.law_devices.proofs.lemmas.declared_controls.Drafts.{HasName, has_hub, IsToldDesc, IsToldLine, IsToldDraft, after_told}
use Rattle.law_devices.proofs.lemmas.declared_controls.Seats.{has_control_seat, seats_alike}
use Rattle.law_devices.proofs.lemmas.declared_controls.Alone.{device_alone, texts_named, opening_alone}

-- ---- where it was declared

text_by : (ds : List Placed) (name : Name) (x : EpDesc) (d : Placed) (o : Option EpText) → device_of ds name.addr ≡ Some d → find (is_named name) d.eps ≡ o → option_map (λ (e : EpText). e.desc) o ≡ Some x → IsDeclaredAt ds name x
text_by ds name x d None here is e = cc
text_by ds name x d (Some t) here is e = record { device = d; device_is = here; text = t; text_is = is; desc = same_Some t.desc x e }

device_by : (ds : List Placed) (name : Name) (x : EpDesc) (o : Option Placed) → device_of ds name.addr ≡ o → option_and_then (λ d. ep_of d.eps name) o ≡ Some x → IsDeclaredAt ds name x
device_by ds name x None is e = cc
device_by ds name x (Some d) is e = text_by ds name x d (find (is_named name) d.eps) is refl e

-- ---- ways

ctl_is : (v : Way) → same_way way.Ctl v ≡ true → v ≡ way.Ctl
ctl_is way.Ctl e = refl
ctl_is _ e = cc

ctl_way : (v : Way) → is_way v way.Ctl ≡ same_way v way.Ctl
ctl_way way.In = refl
ctl_way _ = refl

ctl_same_way : (v : Way) → is_same_way v way.Ctl ≡ same_way v way.Ctl
ctl_same_way way.In = refl
ctl_same_way _ = refl

-- ---- what the script gives it

text_there : (names : List EpName) (a : ℕ) (n : EpName) (ds : List Placed) (d : Placed) (e : EpText) → n.addr ≡ a → device_of ds a ≡ Some d → AllByRecursion (HasOwn names) ds
    → find (λ (t : EpText). is_same_name t.desc.name n) d.eps ≡ Some e → find (λ (t : EpText). is_same_name t.desc.name n) (flat_map (λ device. device.eps) (map device_text ds)) ≡ Some e
text_there names a n [] d e is here own found = cc
text_there names a n (x ∷ ds) d e is here own found =
    elim (cases_Bool (x.addr == a)) [
      | inl t ↦ find_append test x.eps rest e (ap (λ (p : Placed). find test p.eps) (same_Some x d (sym (cond-true _ _ _ t) ∙ here)) ∙ found)
      | inr f ↦ find_later test x.eps rest (all_more (IsEpOf names x.addr x.hub) (λ t. test t ≡ false) x.eps (λ t k. other t k f) own.0)
          ∙ text_there names a n ds d e is (sym (cond-false _ _ _ f) ∙ here) own.1 found
    ]
  where
    test : EpText → Bool
    test t = is_same_name t.desc.name n

    rest : List EpText
    rest = flat_map (λ device. device.eps) (map device_text ds)

    other : (t : EpText) → IsEpOf names x.addr x.hub t → (x.addr == a) ≡ false → test t ≡ false
    other t k f =
        elim (cases_Bool (test t)) [
          | inl y ↦ absurd (true≢false (sym (eq-eqb x.addr a (sym k.address ∙ (same_name t.desc.name n y).addr ∙ is)) ∙ f))
          | inr z ↦ z
        ]

-- ---- what the bus has for it

module _ (w : Draft) (h : IsDeclaredDraft w) (g : IsToldDraft w) (name : Name) (x : EpDesc) (k : IsDeclaredAt w.devices name x) (isctl : k.text.desc.name.way ≡ way.Ctl) (zeroth : k.text.desc.name.num ≡ 0) where
  own : HasOwn w.endpoints k.device
  own = subst (Holds (HasOwn w.endpoints)) k.device_is (all_find (HasOwn w.endpoints) (λ d. d.addr == name.addr) w.devices h.own)

  text : IsEpOf w.endpoints k.device.addr k.device.hub k.text
  text = subst (Holds (IsEpOf w.endpoints k.device.addr k.device.hub)) k.text_is (all_find (IsEpOf w.endpoints k.device.addr k.device.hub) (is_named name) k.device.eps own)

  passes : (k.text.desc.name.num ≡ name.num) × (same_way k.text.desc.name.way name.way ≡ true)
  passes =
      let both = and_parts (k.text.desc.name.num == name.num) (same_way k.text.desc.name.way name.way) (found_passes (is_named name) k.device.eps k.text k.text_is) in
      (eqb-true k.text.desc.name.num name.num both.0, both.1)

  its_way : name.way ≡ way.Ctl
  its_way = ctl_is name.way (ap (λ v. same_way v name.way) (sym isctl) ∙ passes.1)

  first : IsFirst (λ (d : Placed). d.addr == name.addr) w.devices k.device
  first = found_first (λ (d : Placed). d.addr == name.addr) w.devices k.device k.device_is

  its_address : k.device.addr ≡ name.addr
  its_address = eqb-true k.device.addr name.addr (found_passes (λ (d : Placed). d.addr == name.addr) w.devices k.device k.device_is)

  -- ---- its items

  same_test : (t : EpText) → IsEpOf w.endpoints k.device.addr k.device.hub t → is_same_name t.desc.name k.text.desc.name ≡ is_named name t
  same_test t z =
      ap (λ b. b && (t.desc.name.num == k.text.desc.name.num && is_same_way t.desc.name.way k.text.desc.name.way)) (eq-eqb t.desc.name.addr k.text.desc.name.addr (z.address ∙ sym text.address))
      ∙ ap (λ n. t.desc.name.num == n && is_same_way t.desc.name.way k.text.desc.name.way) passes.0
      ∙ ap (λ v. t.desc.name.num == name.num && is_same_way t.desc.name.way v) isctl
      ∙ ap (λ b. t.desc.name.num == name.num && b) (ctl_same_way t.desc.name.way)
      ∙ ap (λ v. t.desc.name.num == name.num && same_way t.desc.name.way v) (sym its_way)

  items : items_of (script_of w) k.text.desc.name ≡ k.text.items
  items =
      ap items_in
      (text_there w.endpoints name.addr k.text.desc.name w.devices k.device k.text (text.address ∙ its_address) k.device_is h.own
      (find_same (λ (t : EpText). is_same_name t.desc.name k.text.desc.name) (is_named name) k.device.eps
      (all_more (IsEpOf w.endpoints k.device.addr k.device.hub) (λ t. is_same_name t.desc.name k.text.desc.name ≡ is_named name t) k.device.eps same_test own)
      ∙ k.text_is))

  -- ---- its device

  abbrev opened : Device
  opened = opening (device_text k.device)

  opened_test : (t : EpText) → is_endpoint_named k.text.desc.name.num way.Ctl (opened_endpoint t) ≡ is_named name t
  opened_test t =
      ap (λ n. t.desc.name.num == n && is_way t.desc.name.way way.Ctl) passes.0
      ∙ ap (λ b. t.desc.name.num == name.num && b) (ctl_way t.desc.name.way)
      ∙ ap (λ v. t.desc.name.num == name.num && same_way t.desc.name.way v) (sym its_way)

  endpoint_is : find (is_endpoint_named k.text.desc.name.num way.Ctl) opened.endpoints ≡ Some (opened_endpoint k.text)
  endpoint_is =
      find_map (is_endpoint_named k.text.desc.name.num way.Ctl) opened_endpoint k.device.eps
      ∙ ap (option_map opened_endpoint)
      (find_same (λ (t : EpText). is_endpoint_named k.text.desc.name.num way.Ctl (opened_endpoint t)) (is_named name) k.device.eps
      (all_more (IsEpOf w.endpoints k.device.addr k.device.hub) (λ t. is_endpoint_named k.text.desc.name.num way.Ctl (opened_endpoint t) ≡ is_named name t) k.device.eps (λ t _. opened_test t) own)
      ∙ k.text_is)

  alone : IsZeroAlone opened
  alone = device_alone (device_text k.device) (subst (Holds (λ (d : Placed). AllByRecursion HasName d.eps)) k.device_is (all_find (λ (d : Placed). AllByRecursion HasName d.eps) (λ d. d.addr == name.addr) w.devices g.devices))

  control_there : control_of_device k.text.desc.name.addr k.text.desc.name.num (Some opened) ≡ control_of_part (opened_part k.text.desc.name.way k.text.desc.kind k.text)
  control_there =
      let z = found_first (is_endpoint_named k.text.desc.name.num way.Ctl) opened.endpoints (opened_endpoint k.text) endpoint_is in
      device_control opened k.text.desc.name.addr k.text.desc.name.num z.place (opened_endpoint k.text) text.address
      (ap (λ (n : ℕ). place_named opened.endpoints n way.In) zeroth ∙ alone.no_in) (ap (λ (n : ℕ). place_named opened.endpoints n way.Out) zeroth ∙ alone.no_out) z.at z.here

  device_there : slice_get (opening_bus (script_of w)).devices first.place ≡ Some opened
  device_there = slice_get-map opening (map device_text w.devices) first.place ∙ ap (option_map opening) (slice_get-map device_text w.devices first.place ∙ ap (option_map device_text) first.here)

  -- ---- its seat

  abbrev test : Seat → Bool
  test s = suits s.name k.text.desc.name.addr k.text.desc.name.num Setup

  no_hubs : AllByRecursion (λ (x : HubText). (x.addr == k.device.addr) ≡ false) w.hubs
  no_hubs =
      none_each (λ (x : HubText). x.addr == k.device.addr) w.hubs
      (nth_all (λ a. hub_of w.hubs a ≡ None) (addresses w.devices) first.place k.device.addr h.no_hub
      (slice_get-map (λ (d : Placed). d.addr) w.devices first.place ∙ ap (option_map (λ (d : Placed). d.addr)) first.here))

  seats_own : k.device.hub ≡ None → AllByRecursion (IsAt k.device.addr first.place) (seats_of (script_of w))
  seats_own root =
      all_append (IsAt k.device.addr first.place) (hub_seats_from 0 w.hubs) _ (hub_owners k.device.addr first.place 0 w.hubs no_hubs)
      (named_owners k.device.addr first.place (seats_from 0 (map device_text w.devices)) w.endpoints
      (owners w.endpoints k.device.addr first.place 0 first.place w.devices k.device first.here refl (omega arith) root h.apart h.own))

  any_test : list_any test (seats_of (script_of w)) ≡ true
  any_test = any_later test (hub_seats_from 0 w.hubs) _ (has_control_seat w.endpoints first.place w.devices k.device (is_named name) k.text first.here k.text_is isctl text.listed)

  in_alike : position (λ (s : Seat). suits s.name k.text.desc.name.addr k.text.desc.name.num In) (seats_of (script_of w)) ≡ position test (seats_of (script_of w))
  in_alike =
      subst (λ n. position (λ (s : Seat). suits s.name k.text.desc.name.addr n In) (seats_of (script_of w)) ≡ position (λ (s : Seat). suits s.name k.text.desc.name.addr n Setup) (seats_of (script_of w))) (sym zeroth)
      (position_same (λ (s : Seat). suits s.name k.text.desc.name.addr 0 In) (λ (s : Seat). suits s.name k.text.desc.name.addr 0 Setup) (seats_of (script_of w)) (seats_alike w k.text.desc.name.addr In g refl))

  out_alike : position (λ (s : Seat). suits s.name k.text.desc.name.addr k.text.desc.name.num Out) (seats_of (script_of w)) ≡ position test (seats_of (script_of w))
  out_alike =
      subst (λ n. position (λ (s : Seat). suits s.name k.text.desc.name.addr n Out) (seats_of (script_of w)) ≡ position (λ (s : Seat). suits s.name k.text.desc.name.addr n Setup) (seats_of (script_of w))) (sym zeroth)
      (position_same (λ (s : Seat). suits s.name k.text.desc.name.addr 0 Out) (λ (s : Seat). suits s.name k.text.desc.name.addr 0 Setup) (seats_of (script_of w)) (seats_alike w k.text.desc.name.addr Out g refl))

  control_is : k.text.desc.hub ≡ None → control_of (opening_wired (script_of w)) k.text.desc.name.addr k.text.desc.name.num ≡ control_of_part (opened_part k.text.desc.name.way k.text.desc.kind k.text)
  control_is root =
      let found = any_found test (seats_of (script_of w)) any_test in
      let z = found_first test (seats_of (script_of w)) found.first found.is in
      let t = found_passes test (seats_of (script_of w)) found.first found.is in
      let named = eqb-true found.first.name.addr k.text.desc.name.addr (and_parts (found.first.name.addr == k.text.desc.name.addr) _ t).0 in
      let owner = nth_all (IsAt k.device.addr first.place) (seats_of (script_of w)) z.place found.first (seats_own (sym text.behind ∙ root))
      z.here (named ∙ text.address) in
      let seat : Option Side = control_of_seat (opening_bus (script_of w)) k.text.desc.name.addr k.text.desc.name.num (slice_get (seats_of (script_of w)) z.place) in
      ap (control_of_place (opening_wired (script_of w)) k.text.desc.name.addr k.text.desc.name.num) z.at
      ∙ ap (λ (o : Option ℕ). if is_at z.place o && is_at z.place (position (λ (s : Seat). suits s.name k.text.desc.name.addr k.text.desc.name.num Out) (seats_of (script_of w))) then seat else None) (in_alike ∙ z.at)
      ∙ ap (λ (o : Option ℕ). if z.place == z.place && is_at z.place o then seat else None) (out_alike ∙ z.at)
      ∙ ap (λ (b : Bool). if b && b then seat else None) (eq-eqb z.place z.place refl)
      ∙ ap (control_of_seat (opening_bus (script_of w)) k.text.desc.name.addr k.text.desc.name.num) z.here
      ∙ ap (control_of_owner (opening_bus (script_of w)) k.text.desc.name.addr k.text.desc.name.num) owner
      ∙ ap (control_of_device k.text.desc.name.addr k.text.desc.name.num) device_there ∙ control_there

  -- the device's side, by what its lines give it
  abbrev side_by : List Item → Side
  side_by is = side_of (scripted k.text.desc.name.addr k.text.desc.name.num k.text.desc.max (requests_of is)) (opened_stages k.text.desc.max (naks_of is))

  control_opens : k.text.desc.hub ≡ None → control_of (opening_wired (script_of w)) k.text.desc.name.addr k.text.desc.name.num ≡ Some (side_by (items_of (script_of w) k.text.desc.name))
  control_opens root =
      control_is root ∙ ap (λ v. control_of_part (opened_part v k.text.desc.kind k.text)) isctl ∙ ap (λ is. Some (side_by is)) (sym items)

-- ---- a line

abbrev HasOpened : Script → EpDesc → Type 0
HasOpened s x = control_of (opening_wired s) x.name.addr x.name.num ≡ Some (side_of (endpoint_of s x) (stages_of s x))

named_has : (w : Draft) (x : EpDesc) → IsDeclaredDraft w → IsToldDraft w → x.hub ≡ None → IsZero x.name → IsNamedIn w.devices x → HasOpened (script_of w) x
named_has w x h g root named n =
    let k = device_by w.devices n.name x (device_of w.devices n.name.addr) refl n.here in
    subst (HasOpened (script_of w)) k.desc
    (control_opens w h g n.name x k (ap (λ (d : EpDesc). d.name.way) k.desc ∙ named.way) (ap (λ (d : EpDesc). d.name.num) k.desc ∙ named.number) (ap (λ (d : EpDesc). d.hub) k.desc ∙ root))

from_has : (w : Draft) (x : EpDesc) → IsDeclaredDraft w → IsToldDraft w → x.hub ≡ None → IsZero x.name → is_of_hub (script_of w) x.name.addr ≡ false → (has_hub w.hubs x.name.addr ≡ true) ⊎ IsNamedIn w.devices x
    → HasOpened (script_of w) x
from_has w x h g root named of_device (inl hub) = absurd (true≢false (sym hub ∙ of_device))
from_has w x h g root named of_device (inr n) = named_has w x h g root named n

open_has : (w : Draft) (x : EpDesc) → IsDeclaredDraft w → IsToldDraft w → IsFitLine (line.Command (cmd.OpenEp x)) → IsToldDesc w.hubs w.devices x → HasItsControl (script_of w) x
open_has w x h g fit told control high of_device =
    from_has w x h g (no_hub x.hub (fit.2.below ∙ ap (λ s. not (is_high s)) high)) (control_zero x told.name control) of_device told.from

line_has : (w : Draft) (l : Line) → IsDeclaredDraft w → IsToldDraft w → IsFitLine l → IsToldLine w.hubs w.devices l → OpensItsControl (script_of w) l
line_has w (line.Command (cmd.OpenEp x)) h g fit k = open_has w x h g fit k
line_has w _ h g fit k = tt

line_named : (hubs : List HubText) (ds : List Placed) (l : Line) → IsToldLine hubs ds l → NamesLine l
line_named hubs ds (line.Command (cmd.OpenEp x)) k = k.name
line_named hubs ds _ k = tt

line_asks : (hubs : List HubText) (ds : List Placed) (l : Line) → IsToldLine hubs ds l → IsByteLine l → AsksLine l
line_asks hubs ds (line.Command (cmd.Control name setup bytes)) k b = record { zero = k.0; whole = record { request = k.1.request; read = k.1.read; setup_bytes = b.0; data_bytes = b.1 } }
line_asks hubs ds _ k b = tt

-- ---- a script

abbrev IsBoth : Draft → Type 0
IsBoth w = IsDeclaredDraft w × IsToldDraft w

line_tells : (w : Draft) (n : ℕ) (s : Statement) → cause_of w s ≡ None → IsEight s → IsBoth w → IsBoth (after w n s)
line_tells w n s new eight h = (line_declares w n s new h.0, after_told w n s (is_ranged w s new) eight h.1)

empty_told : IsBoth empty
empty_told = (empty_declared, record { devices = tt; lines = tt })

second_told : (w : Draft) → IsBoth w → IsBoth (record w { version = 2 })
second_told w h = (second_declared w h.0, record { devices = h.1.devices; lines = h.1.lines })

spelled_told : (text : List ℕ) (s : Script) → Spells text s → IsScriptOf IsBoth s
spelled_told text s e = spelled_kept IsBoth IsEight form_eight empty_told second_told line_tells text s e

pub texts_open_controls : TextsOpenControls
texts_open_controls text s e =
    let k = spelled_told text s e in
    let fit = subst IsFit (sym k.is) (spelled_fits text s e) in
    subst OpensControls k.is
    (all_both (λ l. IsFitLine l.1) (λ l. IsToldLine k.draft.hubs k.draft.devices l.1) (λ l. OpensItsControl (script_of k.draft) l.1) k.draft.lines (λ l f z. line_has k.draft l.1 k.holds.0 k.holds.1 f z) fit.lines k.holds.1.lines)

pub texts_name_endpoints : TextsNameEndpoints
texts_name_endpoints text s e =
    let k = spelled_told text s e in
    subst NamesEndpoints k.is (record {
      declared = texts_named k.draft.devices k.holds.1.devices;
      opened = all_more (λ l. IsToldLine k.draft.hubs k.draft.devices l.1) (λ l. NamesLine l.1) k.draft.lines (λ l z. line_named k.draft.hubs k.draft.devices l.1 z) k.holds.1.lines;
    })

pub texts_ask_requests : TextsAskRequests
texts_ask_requests text s e =
    let k = spelled_told text s e in
    let bytes = subst IsByteScript (sym k.is) (a_text_spells_bytes text s e) in
    subst AsksRequests k.is
    (all_both (λ l. IsToldLine k.draft.hubs k.draft.devices l.1) (λ l. IsByteLine l.1) (λ l. AsksLine l.1) k.draft.lines (λ l z b. line_asks k.draft.hubs k.draft.devices l.1 z b) k.holds.1.lines bytes.lines)

pub texts_leave_zero_alone : TextsLeaveZeroAlone
texts_leave_zero_alone text s e =
    let k = spelled_told text s e in
    subst (λ (s : Script). AreZeroesAlone (opening_bus s)) k.is (opening_alone k.draft k.holds.1)
