-- The sender of a high-speed bulk IN endpoint that a script opens.
use Rattle.std.proofs.Common.{◌≡◌, ℕ, zero, suc, Bool, true, false, List, [], ◌∷◌, map, Option, Some, None, refl, sym, ap, subst, ◌∙◌, inl, inr, arith}
use Rattle.std.specs.Prelude.{◌==◌, ◌&&◌, find, slice_get, is_some, not}
use Rattle.std.specs.List.{AllByRecursion, list_any, flat_map}
use Rattle.std.specs.Option.{option_map, option_and_then}
use Rattle.std.proofs.lemmas.Bool.{and_parts, eqb-true, eq-eqb, true≢false, cases_Bool, cond-true, cond-false}
use Rattle.std.proofs.lemmas.Option.{same_Some, slice_get-map}
use Rattle.law_common.proofs.Lists.{all_more, all_both, nth_all}
use Rattle.law_devices.proofs.Common.{ways_equal}
use Rattle.usb_base.specs.declared.packets.Way.{Way}
use Rattle.usb_base.specs.declared.packets.Way.TheVariants as way
use Rattle.usb_base.specs.declared.packets.EpKind.TheVariants as kinds
use Rattle.usb_base.specs.declared.endpoints.EpDesc.{EpDesc}
use Rattle.usb_base.specs.declared.endpoints.EpName.{EpName}
use Rattle.usb_base.specs.declared.commands.Cmd.TheVariants as cmd
use Rattle.script_types.specs.declared.devices.EpText.{EpText}
use Rattle.script_types.specs.declared.devices.HubText.{HubText}
use Rattle.script_types.specs.declared.scripts.Line.{Line}
use Rattle.script_types.specs.declared.scripts.Line.TheVariants as line
use Rattle.script_types.specs.declared.scripts.Script.{Script}
use Rattle.script_forms.specs.declared.statements.Name.{Name}
use Rattle.script_world.specs.Draft.{Draft, Placed, empty, device_of, hub_of, ep_of, same_way, is_named, device_text, script_of}
use Rattle.script_text.specs.Faults.{Spells}
use Rattle.endpoint_script.specs.Items.{packets_of}
use Rattle.endpoint_script.specs.Device.{Device, is_way, is_named as is_endpoint_named, place_named, endpoint_at, opened_part, opened_endpoint, opening}
use Rattle.drv_table.specs.Words.{is_high}
use Rattle.script_fits.specs.Fits.{IsFit, IsFitLine}
use Rattle.script_fits.proofs.Texts.{spelled_fits}
use Rattle.bus_wire.specs.declared.seats.Seat.{Seat}
use Rattle.bus_wire.specs.declared.seats.TokenKind.TheVariants.{In}
use Rattle.bus_wire.specs.Fates.{is_same_way, is_same_name}
use Rattle.bus_wire.specs.Seats.{suits, seats_from, hub_seats_from, seats_of}
use Rattle.bus_wire.specs.Bus.{opening_bus, opening_wired}
use Rattle.claims_report.specs.Streams.{items_of, items_in}
use Rattle.law_devices.specs.Senders.{sender_of_part, sender_of_endpoint, sender_of_device, sender_of}
use Rattle.law_devices.proofs.Asking.{sender_through}
use Rattle.law_devices.specs.DeclaredEndpoints.{HasItsSender, OpensItsSender, OpensSenders}
use Rattle.law_devices.proofs.Lists.{Holds, all_find, any_later, any_found, found_passes, IsFirst, found_first, none_each, find_append, find_later, find_same, find_map}
use Rattle.law_devices.proofs.Drafts.{addresses, IsEpOf, HasOwn, IsKnownDesc, IsKnownLine, IsDeclaredDraft, after_declared}
use Rattle.law_devices.proofs.Texts.{Keeps, is_new, spelled_kept}
use Rattle.law_devices.proofs.Seats.{IsAt, same_name, owners, hub_owners, named_owners, has_seat}

-- ---- where it was declared

pub record IsDeclaredAt (ds : List Placed) (name : Name) (x : EpDesc) : Type 0 where
  pub device : Placed
  pub device_is : device_of ds name.addr ≡ Some device
  pub text : EpText
  pub text_is : find (is_named name) device.eps ≡ Some text
  pub desc : text.desc ≡ x

text_by : (ds : List Placed) (name : Name) (x : EpDesc) (d : Placed) (o : Option EpText) → device_of ds name.addr ≡ Some d → find (is_named name) d.eps ≡ o → option_map (λ (e : EpText). e.desc) o ≡ Some x → IsDeclaredAt ds name x
text_by ds name x d None here is e = cc
text_by ds name x d (Some t) here is e = record { device = d; device_is = here; text = t; text_is = is; desc = same_Some t.desc x e }

device_by : (ds : List Placed) (name : Name) (x : EpDesc) (o : Option Placed) → device_of ds name.addr ≡ o → option_and_then (λ d. ep_of d.eps name) o ≡ Some x → IsDeclaredAt ds name x
device_by ds name x None is e = cc
device_by ds name x (Some d) is e = text_by ds name x d (find (is_named name) d.eps) is refl e

-- ---- ways

in_way : (a : Way) → is_way a way.In ≡ same_way a way.In
in_way way.In = refl
in_way _ = refl

in_same_way : (a : Way) → is_same_way a way.In ≡ same_way a way.In
in_same_way way.In = refl
in_same_way _ = refl

every : {X : Type 0} (P : X → Type 0) (xs : List X) → ((x : X) → P x) → AllByRecursion P xs
every P [] g = tt
every P (x ∷ xs) g = (g x, every P xs g)

no_other : {X : Type 0} (o : Option X) (b : Bool) → is_some o ≡ not b → b ≡ true → o ≡ None
no_other None b e t = refl
no_other (Some x) b e t = absurd (true≢false (e ∙ ap not t))

-- ---- what the script gives it

items_there : (names : List EpName) (a : ℕ) (n : EpName) (ds : List Placed) (d : Placed) (e : EpText) → n.addr ≡ a → device_of ds a ≡ Some d → AllByRecursion (HasOwn names) ds
    → find (λ (t : EpText). is_same_name t.desc.name n) d.eps ≡ Some e → find (λ (t : EpText). is_same_name t.desc.name n) (flat_map (λ device. device.eps) (map device_text ds)) ≡ Some e
items_there names a n [] d e is here own found = cc
items_there names a n (x ∷ ds) d e is here own found =
    elim (cases_Bool (x.addr == a)) [
      | inl t ↦ find_append test x.eps rest e (ap (λ (p : Placed). find test p.eps) (same_Some x d (sym (cond-true _ _ _ t) ∙ here)) ∙ found)
      | inr f ↦ find_later test x.eps rest (all_more (IsEpOf names x.addr x.hub) (λ t. test t ≡ false) x.eps (λ t k. other t k f) own.0)
          ∙ items_there names a n ds d e is (sym (cond-false _ _ _ f) ∙ here) own.1 found
    ]
  where
    test : EpText → Bool
    test t = is_same_name t.desc.name n

    rest : List EpText
    rest = flat_map (λ device. device.eps) (map device_text ds)

    other : (t : EpText) → IsEpOf names x.addr x.hub t → (x.addr == a) ≡ false → test t ≡ false
    other t k f =
        elim (cases_Bool (test t)) [
          | inl y ↦ absurd (true≢false (sym (eq-eqb x.addr a (sym k.address ∙ (same_name t.desc.name n y).addr ∙ is)) ∙ f))
          | inr z ↦ z
        ]

address_at : (P : ℕ → Type 0) (ds : List Placed) (i : ℕ) (d : Placed) → AllByRecursion P (addresses ds) → slice_get ds i ≡ Some d → P d.addr
address_at P [] i d h e = cc
address_at P (x ∷ ds) zero d h e = subst (λ (p : Placed). P p.addr) (same_Some x d e) h.0
address_at P (x ∷ ds) (suc i) d h e = address_at P ds i d h.1 e

module _ (w : Draft) (h : IsDeclaredDraft w) (name : Name) (x : EpDesc) (k : IsDeclaredAt w.devices name x) (isin : k.text.desc.name.way ≡ way.In) where
  own : HasOwn w.endpoints k.device
  own = subst (Holds (HasOwn w.endpoints)) k.device_is (all_find (HasOwn w.endpoints) (λ d. d.addr == name.addr) w.devices h.own)

  text : IsEpOf w.endpoints k.device.addr k.device.hub k.text
  text = subst (Holds (IsEpOf w.endpoints k.device.addr k.device.hub)) k.text_is (all_find (IsEpOf w.endpoints k.device.addr k.device.hub) (is_named name) k.device.eps own)

  address : k.device.addr ≡ name.addr
  address = eqb-true k.device.addr name.addr (found_passes (λ (d : Placed). d.addr == name.addr) w.devices k.device k.device_is)

  passes : (k.text.desc.name.num == name.num && same_way k.text.desc.name.way name.way) ≡ true
  passes = found_passes (is_named name) k.device.eps k.text k.text_is

  number : k.text.desc.name.num ≡ name.num
  number = eqb-true k.text.desc.name.num name.num (and_parts (k.text.desc.name.num == name.num) (same_way k.text.desc.name.way name.way) passes).0

  its_way : name.way ≡ way.In
  its_way = sym (ways_equal k.text.desc.name.way name.way (and_parts (k.text.desc.name.num == name.num) (same_way k.text.desc.name.way name.way) passes).1) ∙ isin

  first : IsFirst (λ (d : Placed). d.addr == name.addr) w.devices k.device
  first = found_first (λ (d : Placed). d.addr == name.addr) w.devices k.device k.device_is

  -- ---- its items

  same_test : (t : EpText) → IsEpOf w.endpoints k.device.addr k.device.hub t → is_same_name t.desc.name k.text.desc.name ≡ is_named name t
  same_test t z =
      ap (λ b. b && (t.desc.name.num == k.text.desc.name.num && is_same_way t.desc.name.way k.text.desc.name.way)) (eq-eqb t.desc.name.addr k.text.desc.name.addr (z.address ∙ sym text.address))
      ∙ ap (λ n. t.desc.name.num == n && is_same_way t.desc.name.way k.text.desc.name.way) number
      ∙ ap (λ v. t.desc.name.num == name.num && is_same_way t.desc.name.way v) isin
      ∙ ap (λ b. t.desc.name.num == name.num && b) (in_same_way t.desc.name.way)
      ∙ ap (λ v. t.desc.name.num == name.num && same_way t.desc.name.way v) (sym its_way)

  pub items : items_of (script_of w) k.text.desc.name ≡ k.text.items
  items =
      ap items_in
      (items_there w.endpoints name.addr k.text.desc.name w.devices k.device k.text (text.address ∙ address) k.device_is h.own
      (find_same (λ (t : EpText). is_same_name t.desc.name k.text.desc.name) (is_named name) k.device.eps
      (all_more (IsEpOf w.endpoints k.device.addr k.device.hub) (λ t. is_same_name t.desc.name k.text.desc.name ≡ is_named name t)
      k.device.eps same_test own)
      ∙ k.text_is))

  -- ---- its device

  abbrev opened : Device
  opened = opening (device_text k.device)

  opened_test : (t : EpText) → is_endpoint_named k.text.desc.name.num way.In (opened_endpoint t) ≡ is_named name t
  opened_test t =
      ap (λ n. t.desc.name.num == n && is_way t.desc.name.way way.In) number
      ∙ ap (λ b. t.desc.name.num == name.num && b) (in_way t.desc.name.way)
      ∙ ap (λ v. t.desc.name.num == name.num && same_way t.desc.name.way v) (sym its_way)

  endpoint_is : find (is_endpoint_named k.text.desc.name.num way.In) opened.endpoints ≡ Some (opened_endpoint k.text)
  endpoint_is =
      find_map (is_endpoint_named k.text.desc.name.num way.In) opened_endpoint k.device.eps
      ∙ ap (option_map opened_endpoint)
      (find_same (λ (t : EpText). is_endpoint_named k.text.desc.name.num way.In (opened_endpoint t)) (is_named name) k.device.eps
      (every (λ t. is_endpoint_named k.text.desc.name.num way.In (opened_endpoint t) ≡ is_named name t) k.device.eps opened_test) ∙ k.text_is)

  endpoint_there : endpoint_at opened.endpoints (place_named opened.endpoints k.text.desc.name.num way.In) ≡ Some (opened_endpoint k.text)
  endpoint_there =
      let z = found_first (is_endpoint_named k.text.desc.name.num way.In) opened.endpoints (opened_endpoint k.text) endpoint_is in
      ap (endpoint_at opened.endpoints) z.at ∙ z.here

  device_sender : sender_of_device k.text.desc.name.addr k.text.desc.name.num (Some opened) ≡ sender_of_part (opened_part k.text.desc.name.way k.text.desc.kind k.text)
  device_sender = cond-true _ _ _ (eq-eqb k.text.desc.name.addr k.device.addr text.address) ∙ ap sender_of_endpoint endpoint_there

  -- ---- its seat

  abbrev test : Seat → Bool
  test s = suits s.name k.text.desc.name.addr k.text.desc.name.num In

  no_hubs : AllByRecursion (λ (x : HubText). (x.addr == k.device.addr) ≡ false) w.hubs
  no_hubs = none_each (λ (x : HubText). x.addr == k.device.addr) w.hubs (address_at (λ a. hub_of w.hubs a ≡ None) w.devices first.place k.device h.no_hub first.here)

  seats_own : k.device.hub ≡ None → AllByRecursion (IsAt k.device.addr first.place) (seats_of (script_of w))
  seats_own root =
      all_both (IsAt k.device.addr first.place) (hub_seats_from 0 w.hubs) _ (hub_owners k.device.addr first.place 0 w.hubs no_hubs)
      (named_owners k.device.addr first.place (seats_from 0 (map device_text w.devices)) w.endpoints
      (owners w.endpoints k.device.addr first.place 0 first.place w.devices k.device first.here refl (omega arith) root h.apart h.own))

  any_test : list_any test (seats_of (script_of w)) ≡ true
  any_test = any_later test (hub_seats_from 0 w.hubs) _ (has_seat w.endpoints first.place w.devices k.device (is_named name) k.text first.here k.text_is isin text.listed)

  device_there : slice_get (opening_bus (script_of w)).devices first.place ≡ Some opened
  device_there = slice_get-map opening (map device_text w.devices) first.place ∙ ap (option_map opening) (slice_get-map device_text w.devices first.place ∙ ap (option_map device_text) first.here)

  pub sender_is : k.device.hub ≡ None → sender_of (opening_wired (script_of w)) k.text.desc.name.addr k.text.desc.name.num ≡ sender_of_part (opened_part k.text.desc.name.way k.text.desc.kind k.text)
  sender_is root =
      let found = any_found test (seats_of (script_of w)) any_test in
      let z = found_first test (seats_of (script_of w)) found.first found.is in
      let t = found_passes test (seats_of (script_of w)) found.first found.is in
      let named = eqb-true found.first.name.addr k.text.desc.name.addr (and_parts (found.first.name.addr == k.text.desc.name.addr) _ t).0 in
      let owner = nth_all (IsAt k.device.addr first.place) (seats_of (script_of w)) z.place found.first (seats_own root) z.here
      (named ∙ text.address) in
      sender_through (opening_wired (script_of w)) k.text.desc.name.addr k.text.desc.name.num z.place found.first first.place (opening_bus (script_of w)) z.at z.here owner
      ∙ ap (sender_of_device k.text.desc.name.addr k.text.desc.name.num) device_there ∙ device_sender

  pub rooted : k.text.desc.hub ≡ None → k.device.hub ≡ None
  rooted e = sym text.behind ∙ e

-- ---- a line

bulk_sender : (w : Draft) (h : IsDeclaredDraft w) (name : Name) (x : EpDesc) (k : IsDeclaredAt w.devices name x) → k.text.desc.hub ≡ None → k.text.desc.kind ≡ kinds.Bulk → k.text.desc.name.way ≡ way.In
    → sender_of (opening_wired (script_of w)) k.text.desc.name.addr k.text.desc.name.num ≡ Some (record { left = packets_of (items_of (script_of w) k.text.desc.name); sends = false })
bulk_sender w h name x k root bulk isin =
    sender_is w h name x k isin (rooted w h name x k isin root)
    ∙ ap (λ v. sender_of_part (opened_part v k.text.desc.kind k.text)) isin ∙ ap (λ v. sender_of_part (opened_part way.In v k.text)) bulk
    ∙ ap (λ is. Some (record { left = packets_of is; sends = false })) (sym (items w h name x k isin))

open_has : (w : Draft) (x : EpDesc) → IsDeclaredDraft w → IsFitLine (line.Command (cmd.OpenEp x)) → IsKnownDesc w.devices x → HasItsSender (script_of w) x
open_has w x h fit (inl c) bulk high isin = absurd (not_both x.name.way c isin)
  where
    not_both : (v : Way) → v ≡ way.Ctl → v ≡ way.In → ⊥
    not_both v a b = cc
open_has w x h fit (inr n) bulk high isin =
    let k = device_by w.devices n.name x (device_of w.devices n.name.addr) refl n.here in
    subst (λ (d : EpDesc). sender_of (opening_wired (script_of w)) d.name.addr d.name.num ≡ Some (record { left = packets_of (items_of (script_of w) d.name); sends = false })) k.desc
    (bulk_sender w h n.name x k
    (ap (λ (d : EpDesc). d.hub) k.desc ∙ no_other x.hub (is_high x.speed) fit.2.below (ap is_high high))
    (ap (λ (d : EpDesc). d.kind) k.desc ∙ bulk) (ap (λ (d : EpDesc). d.name.way) k.desc ∙ isin))

line_has : (w : Draft) (l : Line) → IsDeclaredDraft w → IsFitLine l → IsKnownLine w.devices l → OpensItsSender (script_of w) l
line_has w (line.Command (cmd.OpenEp x)) h fit k = open_has w x h fit k
line_has w _ h fit k = tt

lines_have : (w : Draft) (ls : List (ℕ × Line)) → IsDeclaredDraft w → AllByRecursion (λ x. IsFitLine x.1) ls → AllByRecursion (λ l. IsKnownLine w.devices l.1) ls
    → AllByRecursion (λ l. OpensItsSender (script_of w) l.1) ls
lines_have w [] h fit k = tt
lines_have w (l ∷ ls) h fit k = (line_has w l.1 h fit.0 k.0, lines_have w ls h fit.1 k.1)

-- ---- a script

pub empty_declared : IsDeclaredDraft empty
empty_declared = record { apart = tt; no_hub = tt; own = tt; opened = tt }

pub second_declared : (w : Draft) → IsDeclaredDraft w → IsDeclaredDraft (record w { version = 2 })
second_declared w h = record { apart = h.apart; no_hub = h.no_hub; own = h.own; opened = h.opened }

pub line_declares : Keeps IsDeclaredDraft
line_declares w n l new h = after_declared w n l (is_new w l new) h

pub an_opened_endpoint_has_its_sender : (text : List ℕ) (s : Script) → Spells text s → OpensSenders s
an_opened_endpoint_has_its_sender text s e =
    let k = spelled_kept IsDeclaredDraft empty_declared second_declared line_declares text s e in
    let fit = subst IsFit (sym k.is) (spelled_fits text s e) in
    subst OpensSenders k.is (lines_have k.draft k.draft.lines k.holds fit.lines k.holds.opened)
