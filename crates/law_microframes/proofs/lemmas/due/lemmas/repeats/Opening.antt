-- The bus of a script that a text spells: each endpoint that is opened below a hub stands there, and its devices are plain.
use Rattle.std.proofs.Common.{◌≡◌, ℕ, zero, suc, ◌+◌, ◌-◌, ◌<◌, ◌≤◌, Bool, true, false, List, [], ◌∷◌, length, map, replicate, slice_get, Option, Some, None, refl, sym, ap, subst, ◌∙◌, inl, inr, zero-add, arith}
use Rattle.std.specs.Prelude.{◌==◌, ◌&&◌, nat_le, is_some, find}
use Rattle.std.specs.List.{AllByRecursion, list_any}
use Rattle.std.specs.Option.{option_map, option_and_then}
use Rattle.std.proofs.lemmas.Bool.{and_parts, eqb-true, le-leb, true≢false}
use Rattle.std.proofs.lemmas.Option.{same_Some, slice_get-map, slice_get_within}
use Rattle.law_common.proofs.Booleans.{not_high}
use Rattle.law_common.proofs.Lists.{all_both, nth_all}
use Rattle.usb_base.specs.declared.commands.Cmd.TheVariants as cmd
use Rattle.usb_base.specs.declared.endpoints.EpDesc.{EpDesc}
use Rattle.usb_base.specs.declared.endpoints.EpName.{EpName}
use Rattle.usb_base.specs.declared.packets.EpKind.{EpKind}
use Rattle.usb_base.specs.declared.packets.EpKind.TheVariants as kinds
use Rattle.usb_base.specs.declared.packets.Speed.{Speed}
use Rattle.usb_base.specs.declared.packets.Speed.TheVariants as speeds
use Rattle.usb_base.specs.declared.packets.Way.{Way}
use Rattle.usb_base.specs.declared.packets.Way.TheVariants as way
use Rattle.script_types.specs.declared.devices.EpText.{EpText}
use Rattle.script_types.specs.declared.devices.HubText.{HubText}
use Rattle.script_types.specs.declared.scripts.Line.{Line}
use Rattle.script_types.specs.declared.scripts.Line.TheVariants as line
use Rattle.script_types.specs.declared.scripts.Script.{Script}
use Rattle.script_forms.specs.declared.statements.Name.{Name}
use Rattle.script_forms.specs.declared.statements.Statement.{Statement}
use Rattle.script_world.specs.Draft.{Draft, Placed, empty, device_of, ep_of, is_named, device_text, script_of}
use Rattle.script_world.specs.Ranges.{is_rate, is_paced, is_period}
use Rattle.script_world.specs.Rows.{after}
use Rattle.script_text.specs.Faults.{Spells}
use Rattle.script_fits.proofs.Drafts.{IsFitDraft, IsFitDevice, IsFitEp, after_fits}
use Rattle.drv_table.specs.Words.{is_high}
use Rattle.hub_class.specs.HubContent.{HubContent}
use Rattle.hub_class.specs.HubContent as Hubs
use Rattle.multi_tt.specs.Translators.{Translator, Translators, opening as opening_translator, opening_of, translator_at}
use Rattle.endpoint_script.specs.Device.{Device, opened_part, opened_endpoint, opening}
use Rattle.bus_wire.specs.declared.seats.Owner.TheVariants as Owners
use Rattle.bus_wire.specs.declared.seats.Seat.{Seat}
use Rattle.bus_wire.specs.declared.seats.TokenKind.TheVariants as tokens
use Rattle.bus_wire.specs.Seats.{suits, owner_at, seat_at, seats_from, hub_seats_from, seat_named, device_seats, seats_of}
use Rattle.bus_wire.specs.Bus.{fixed_of, opening_bus}
use Rattle.law_devices.proofs.Lists.{Holds, all_find, all_filter_map, any_later, any_found, found_first, find_map}
use Rattle.law_devices.proofs.Drafts.{IsEpOf, HasOwn, IsKnownDesc, IsKnownLine, IsDeclaredDraft, after_declared}
use Rattle.law_devices.proofs.Seats.{has_seat}
use Rattle.law_devices.proofs.Senders.{IsDeclaredAt, empty_declared, second_declared}
use Rattle.law_devices.proofs.lemmas.declared_takers.Seats.{has_out_seat}
use Rattle.law_microframes.specs.due.repeats.Hearing.{HasTranslator, number_of, token_of_way, is_control_way, IsHeardOn, IsBelowHub}
use Rattle.law_microframes.specs.due.repeats.Words.{FitsWay, HasItsWay, IsPlain, ArePlainBelow, TranslatorSaysWords, HubSaysWords, BusSaysWords}
use Rattle.law_microframes.proofs.lemmas.due.lemmas.repeats.HubDrafts.{HasPort, IsPlugged, ArePlugged, empty_plugged, after_plugged}
use Rattle.law_microframes.proofs.lemmas.due.lemmas.repeats.SaidTexts.{IsTaken, IsScriptOf, spelled_said}

-- ---- each line keeps it

pub record IsWhole (w : Draft) : Type 0 where
  pub declared : IsDeclaredDraft w
  pub plugged : ArePlugged w
  pub fits : IsFitDraft w

empty_whole : IsWhole empty
empty_whole =
    record { declared = empty_declared; plugged = empty_plugged; fits = record { words = tt; hubs = tt; devices = tt; lines = tt } }

second_whole : (w : Draft) → IsWhole w → IsWhole (record w { version = 2 })
second_whole w h = record {
  declared = second_declared w h.declared;
  plugged = record { hubs = h.plugged.hubs; devices = h.plugged.devices };
  fits = record { words = h.fits.words; hubs = h.fits.hubs; devices = h.fits.devices; lines = h.fits.lines };
}

line_whole : (w : Draft) (n : ℕ) (s : Statement) → IsTaken w s → IsWhole w → IsWhole (after w n s)
line_whole w n s t h = record {
  declared = after_declared w n s t.new h.declared;
  plugged = after_plugged w n s h.plugged;
  fits = after_fits w n s t.ranged t.said h.fits;
}

pub spelled_whole : (text : List ℕ) (s : Script) → Spells text s → IsScriptOf IsWhole s
spelled_whole text s e = spelled_said IsWhole empty_whole second_whole line_whole text s e

-- ---- hubs

replicated : {A : Type 0} (n i : ℕ) (x : A) → i < n → slice_get (replicate n x) i ≡ Some x
replicated zero i x less = absurd (omega (arith, less))
replicated (suc n) zero x less = refl
replicated (suc n) (suc i) x less = replicated n i x (omega (arith, less))

record IsServed (port : ℕ) (ts : Translators) : Type 0 where
  translator : Translator
  serves : translator_at port ts ≡ Some translator

served : (count port : ℕ) (multi : Bool) → 1 ≤ port → port ≤ count → IsServed port (opening_of count multi)
served count port false low high = record { translator = opening_translator; serves = refl }
served count port true low high =
    let le : nat_le 1 port ≡ true = le-leb 1 port low in
    record { translator = opening_translator; serves = rw le (replicated count (port - 1) opening_translator (omega (arith, low, high))) }

opened_translator : (hubs : List HubText) (a port n : ℕ) → HasPort hubs a port n → HasTranslator (map Hubs.opening hubs) a port
opened_translator hubs a port n h =
    let found : find (λ (x : HubContent). x.address == a) (map Hubs.opening hubs) ≡ Some (Hubs.opening h.hub) =
    find_map (λ (x : HubContent). x.address == a) Hubs.opening hubs ∙ ap (option_map Hubs.opening) h.found
    in
    let first = found_first (λ (x : HubContent). x.address == a) (map Hubs.opening hubs) (Hubs.opening h.hub) found in
    let s = served (length h.hub.attached) port h.hub.multi h.low h.high in
    record {
      place = first.place;
      found = first.at;
      content = Hubs.opening h.hub;
      here = first.here;
      translator = s.translator;
      serves = s.serves;
    }

opened_multi : (hubs : List HubText) (a port n : ℕ) (h : HasPort hubs a port n)
    → (opened_translator hubs a port n h).content.translators.multi ≡ h.hub.multi
unfolding opened_translator
opened_multi hubs a port n h = refl

no_entries : (n : ℕ) → AllByRecursion TranslatorSaysWords (replicate n opening_translator)
no_entries zero = tt
no_entries (suc n) = (tt, no_entries n)

opened_say : (hubs : List HubText) → AllByRecursion HubSaysWords (map Hubs.opening hubs)
opened_say [] = tt
opened_say (h ∷ hs) = (no_entries _, opened_say hs)

-- ---- plain devices

one_is_few : (p m : ℕ) → (is_period p && nat_le 8 p && m == 1) ≡ true → m ≤ 2
one_is_few p m is = let e = eqb-true m 1 (and_parts (is_period p && nat_le 8 p) (m == 1) is).1 in omega (arith, e)

few_packets : (s : Speed) (p m : ℕ) → is_high s ≡ false → is_rate s p m ≡ true → m ≤ 2
few_packets speeds.High p m low is = cc
few_packets speeds.Full p m low is = one_is_few p m is
few_packets speeds.Low p m low is = one_is_few p m is

part_fits : (w : Way) (k : EpKind) (t : EpText) → (k ≡ kinds.Iso → t.desc.multi ≤ 2) → FitsWay w (opened_part w k t)
part_fits way.Ctl k t few = tt
part_fits way.In kinds.Iso t few = few refl
part_fits way.In kinds.Control t few = tt
part_fits way.In kinds.Bulk t few = tt
part_fits way.In kinds.Interrupt t few = tt
part_fits way.Out kinds.Iso t few = tt
part_fits way.Out kinds.Control t few = tt
part_fits way.Out kinds.Bulk t few = tt
part_fits way.Out kinds.Interrupt t few = tt

iso_paced : (x : EpDesc) → x.kind ≡ kinds.Iso → is_paced x.kind x.speed x.period x.multi ≡ true → is_rate x.speed x.period x.multi ≡ true
iso_paced x iso is = subst (λ (k : EpKind). is_paced k x.speed x.period x.multi ≡ true) iso is

ep_fits : (hub : ℕ) (t : EpText) → t.desc.hub ≡ Some hub → IsFitEp t → HasItsWay (opened_endpoint t)
ep_fits hub t behind fit =
    part_fits t.desc.name.way t.desc.kind t (λ iso.
    few_packets t.desc.speed t.desc.period t.desc.multi
    (not_high (is_high t.desc.speed) (ap (λ (o : Option ℕ). is_some o) (sym behind) ∙ fit.desc.suited.below))
    (iso_paced t.desc iso fit.desc.suited.pace))

eps_fit : (names : List EpName) (addr hub : ℕ) (o : Option ℕ) (es : List EpText) → o ≡ Some hub
    → AllByRecursion (IsEpOf names addr o) es → AllByRecursion IsFitEp es → AllByRecursion HasItsWay (map opened_endpoint es)
eps_fit names addr hub o [] behind own fit = tt
eps_fit names addr hub o (e ∷ es) behind own fit =
    (ep_fits hub e (own.0.behind ∙ behind) fit.0, eps_fit names addr hub o es behind own.1 fit.1)

abbrev IsPlainSeat : List Device → Seat → Type 0
IsPlainSeat devices seat =
    (n hub port stuff : ℕ) (d : Device) → seat.owner ≡ Owners.Below n hub port stuff → slice_get devices n ≡ Some d → IsPlain d

owner_below : (k n hub port p stuff s : ℕ) (o : Option ℕ) → owner_at k o port stuff ≡ Owners.Below n hub p s → (k ≡ n) × (o ≡ Some hub)
owner_below k n hub port p stuff s None e = cc
owner_below k n hub port p stuff s (Some h) e = (cc, cc)

device_seats_plain : (names : List EpName) (devices : List Device) (k : ℕ) (d : Placed) (es : List EpText)
    → slice_get devices k ≡ Some (opening (device_text d))
    → HasOwn names d → AllByRecursion IsFitEp d.eps → AllByRecursion (IsEpOf names d.addr d.hub) es
    → AllByRecursion (IsPlainSeat devices) (map (seat_at k) es)
device_seats_plain names devices k d [] here own fit each = tt
device_seats_plain names devices k d (e ∷ es) here own fit each = (
  λ n hub port stuff dev is there.
      let o = owner_below k n hub e.desc.port port e.stuff stuff e.desc.hub is in
      let same : opening (device_text d) ≡ dev = same_Some _ dev (sym here ∙ ap (λ (i : ℕ). slice_get devices i) o.0 ∙ there) in
      subst IsPlain same (eps_fit names d.addr hub d.hub d.eps (sym each.0.behind ∙ o.1) own fit),
  device_seats_plain names devices k d es here own fit each.1,
)

seats_plain : (names : List EpName) (devices : List Device) (k : ℕ) (ds : List Placed)
    → ((i : ℕ) (p : Placed) → slice_get ds i ≡ Some p → slice_get devices (k + i) ≡ Some (opening (device_text p)))
    → AllByRecursion (HasOwn names) ds → AllByRecursion IsFitDevice ds
    → AllByRecursion (IsPlainSeat devices) (seats_from k (map device_text ds))
seats_plain names devices k [] there own fit = tt
seats_plain names devices k (d ∷ ds) there own fit =
    all_both (IsPlainSeat devices) (map (seat_at k) d.eps) (seats_from (k + 1) (map device_text ds))
    (device_seats_plain names devices k d d.eps (subst (λ (i : ℕ). slice_get devices i ≡ Some (opening (device_text d))) (omega arith)
    (there 0 d refl)) own.0 fit.0.eps own.0)
    (seats_plain names devices (k + 1) ds (λ i p is. subst (λ (j : ℕ). slice_get devices j ≡ Some (opening (device_text p)))
    (omega arith) (there (suc i) p is)) own.1 fit.1)

hub_seats_plain : (devices : List Device) (k : ℕ) (hs : List HubText) → AllByRecursion (IsPlainSeat devices) (hub_seats_from k hs)
hub_seats_plain devices k [] = tt
hub_seats_plain devices k (h ∷ hs) = ((λ n hub port stuff d is there. cc), hub_seats_plain devices (k + 1) hs)

plain_below : (w : Draft) → IsWhole w → ArePlainBelow (fixed_of (script_of w)) (opening_bus (script_of w)).devices
plain_below w h place device hub port stuff seat d seated owned here =
    let devices : List Device = (opening_bus (script_of w)).devices in
    let from = seats_plain w.endpoints devices 0 w.devices
    (λ i p is.
    subst (λ (j : ℕ). slice_get devices j ≡ Some (opening (device_text p))) (sym (zero-add i))
    (slice_get-map opening (map device_text w.devices) i ∙ ap (option_map opening)
    (slice_get-map device_text w.devices i ∙ ap (option_map device_text) is)))
    h.declared.own h.fits.devices in
    let all = all_both (IsPlainSeat devices) (hub_seats_from 0 w.hubs) (device_seats (script_of w)) (hub_seats_plain devices 0 w.hubs)
    (all_filter_map (IsPlainSeat devices) (seat_named (seats_from 0 (map device_text w.devices))) w.endpoints
    (λ name. all_find (IsPlainSeat devices) (λ s. _) (seats_from 0 (map device_text w.devices)) from)) in
    nth_all (IsPlainSeat devices) (seats_of (script_of w)) place seat all seated device hub port stuff d owned here

opening_says : (w : Draft) → IsWhole w → BusSaysWords (fixed_of (script_of w)) (opening_bus (script_of w))
opening_says w h = record { hubs = opened_say w.hubs; devices = plain_below w h }

-- ---- an endpoint that is opened

text_by : (ds : List Placed) (name : Name) (x : EpDesc) (d : Placed) (o : Option EpText) → device_of ds name.addr ≡ Some d
    → find (is_named name) d.eps ≡ o
    → option_map (λ (e : EpText). e.desc) o ≡ Some x → IsDeclaredAt ds name x
text_by ds name x d None here is e = cc
text_by ds name x d (Some t) here is e = record { device = d; device_is = here; text = t; text_is = is; desc = same_Some t.desc x e }

device_by : (ds : List Placed) (name : Name) (x : EpDesc) (o : Option Placed) → device_of ds name.addr ≡ o
    → option_and_then (λ d. ep_of d.eps name) o ≡ Some x → IsDeclaredAt ds name x
device_by ds name x None is e = cc
device_by ds name x (Some d) is e = text_by ds name x d (find (is_named name) d.eps) is refl e

module _ (w : Draft) (h : IsWhole w) (name : Name) (x : EpDesc) (k : IsDeclaredAt w.devices name x) where
  own : HasOwn w.endpoints k.device
  own = subst (Holds (HasOwn w.endpoints)) k.device_is (all_find (HasOwn w.endpoints) (λ d. d.addr == name.addr) w.devices h.declared.own)

  text : IsEpOf w.endpoints k.device.addr k.device.hub k.text
  text =
      subst (Holds (IsEpOf w.endpoints k.device.addr k.device.hub)) k.text_is
      (all_find (IsEpOf w.endpoints k.device.addr k.device.hub) (is_named name) k.device.eps own)

  plugged : IsPlugged w.hubs k.device
  plugged =
      subst (Holds (IsPlugged w.hubs)) k.device_is (all_find (IsPlugged w.hubs) (λ d. d.addr == name.addr) w.devices h.plugged.devices)

  its_ports : (k.text.desc.port ≡ k.device.port) × (k.text.desc.tt ≡ k.device.tt)
  its_ports =
      subst (Holds (λ (e : EpText). (e.desc.port ≡ k.device.port) × (e.desc.tt ≡ k.device.tt))) k.text_is
      (all_find (λ (e : EpText). (e.desc.port ≡ k.device.port) × (e.desc.tt ≡ k.device.tt)) (is_named name) k.device.eps plugged.ports)

  its_port : k.text.desc.port ≡ k.device.port
  its_port = its_ports.0

  -- the translator of its port, and its number
  record IsServedAt (hub : ℕ) (port number : ℕ) : Type 0 where
    translator : HasTranslator (map Hubs.opening w.hubs) hub port
    served : number ≡ number_of translator.content.translators.multi port

  served_at : (hub : ℕ) → k.device.hub ≡ Some hub → IsServedAt hub k.device.port k.device.tt
  served_at hub is =
      let h = plugged.behind hub is in
      record {
        translator = opened_translator w.hubs hub k.device.port k.device.tt h;
        served = h.served
            ∙ ap (λ (m : Bool). number_of m k.device.port) (sym (opened_multi w.hubs hub k.device.port k.device.tt h));
      }

  any_seat : (v : Way) → k.text.desc.name.way ≡ v → is_control_way v ≡ false
      → list_any (λ s. suits s.name k.text.desc.name.addr k.text.desc.name.num (token_of_way v)) (seats_of (script_of w)) ≡ true
  any_seat way.In is carries =
      let first = found_first (λ (d : Placed). d.addr == name.addr) w.devices k.device k.device_is in
      any_later (λ s. suits s.name k.text.desc.name.addr k.text.desc.name.num tokens.In) (hub_seats_from 0 w.hubs) _
      (has_seat w.endpoints first.place w.devices k.device (is_named name) k.text first.here k.text_is is text.listed)
  any_seat way.Out is carries =
      let first = found_first (λ (d : Placed). d.addr == name.addr) w.devices k.device k.device_is in
      any_later (λ s. suits s.name k.text.desc.name.addr k.text.desc.name.num tokens.Out) (hub_seats_from 0 w.hubs) _
      (has_out_seat w.endpoints first.place w.devices k.device (is_named name) k.text first.here k.text_is is text.listed)
  any_seat way.Ctl is carries = absurd (true≢false carries)

  text_heard : IsBelowHub k.text.desc → IsHeardOn (fixed_of (script_of w)) (opening_bus (script_of w)) k.text.desc
  text_heard below =
      let test : Seat → Bool = λ s. suits s.name k.text.desc.name.addr k.text.desc.name.num (token_of_way k.text.desc.name.way) in
      let found = any_found test (seats_of (script_of w)) (any_seat k.text.desc.name.way refl below.carries) in
      let z = found_first test (seats_of (script_of w)) found.first found.is in
      let long = slice_get_within (seats_of (script_of w)) z.place found.first z.here in
      let served : IsServedAt below.hub k.text.desc.port k.text.desc.tt =
      subst (λ (p : ℕ). IsServedAt below.hub p k.text.desc.tt) (sym its_port)
      (subst (λ (n : ℕ). IsServedAt below.hub k.device.port n) (sym its_ports.1)
      (served_at below.hub (sym text.behind ∙ below.behind))) in
      record {
        place = z.place;
        found = z.at;
        seat = found.first;
        there = z.here;
        number = record { number = 0; is = replicated (length (seats_of (script_of w))) z.place 0 long };
        hub = below.hub;
        behind = below.behind;
        translator = served.translator;
        served = served.served;
      }

open_heard : (w : Draft) (x : EpDesc) → IsWhole w → IsKnownDesc w.devices x → IsBelowHub x
    → IsHeardOn (fixed_of (script_of w)) (opening_bus (script_of w)) x
open_heard w x h (inl control) below = absurd (true≢false (ap is_control_way (sym control) ∙ below.carries))
open_heard w x h (inr n) below =
    let k = device_by w.devices n.name x (device_of w.devices n.name.addr) refl n.here in
    subst (λ (d : EpDesc). IsHeardOn (fixed_of (script_of w)) (opening_bus (script_of w)) d) k.desc
    (text_heard w h n.name x k (subst IsBelowHub (sym k.desc) below))

-- ---- a script

abbrev pub IsHeardLine : Script → Line → Type 0
IsHeardLine s (line.Command (cmd.OpenEp x)) = IsBelowHub x → IsHeardOn (fixed_of s) (opening_bus s) x
IsHeardLine s _ = Unit {0}

line_heard : (w : Draft) (l : Line) → IsWhole w → IsKnownLine w.devices l → IsHeardLine (script_of w) l
line_heard w (line.Command (cmd.OpenEp x)) h k = λ below. open_heard w x h k below
line_heard w _ h k = tt

lines_heard : (w : Draft) (ls : List (ℕ × Line)) → IsWhole w → AllByRecursion (λ l. IsKnownLine w.devices l.1) ls
    → AllByRecursion (λ l. IsHeardLine (script_of w) l.1) ls
lines_heard w [] h k = tt
lines_heard w (l ∷ ls) h k = (line_heard w l.1 h k.0, lines_heard w ls h k.1)

pub spelled_heard : (text : List ℕ) (s : Script) → Spells text s → AllByRecursion (λ l. IsHeardLine s l.1) s.lines
spelled_heard text s e =
    let k = spelled_whole text s e in
    subst (λ (z : Script). AllByRecursion (λ l. IsHeardLine z l.1) z.lines) k.is
    (lines_heard k.draft k.draft.lines k.holds k.holds.declared.opened)

pub spelled_says : (text : List ℕ) (s : Script) → Spells text s → BusSaysWords (fixed_of s) (opening_bus s)
spelled_says text s e =
    let k = spelled_whole text s e in
    subst (λ (z : Script). BusSaysWords (fixed_of z) (opening_bus z)) k.is (opening_says k.draft k.holds)
