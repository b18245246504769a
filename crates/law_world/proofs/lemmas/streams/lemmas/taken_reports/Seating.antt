-- Each IN and OUT endpoint that a text opens has its seat, and no two of its devices have one address.
use Rattle.std.proofs.Common.{◌≡◌, ℕ, suc, ◌+◌, Bool, true, false, List, [], ◌∷◌, ◌++◌, map, filter_map, slice_get, Option, Some, None, refl, sym, ap, subst, ◌∙◌, inl, inr}
use Rattle.std.specs.Prelude.{◌==◌, ◌&&◌, find}
use Rattle.std.specs.List.{AllByRecursion, list_any}
use Rattle.std.specs.Option.{option_map, option_and_then}
use Rattle.std.proofs.lemmas.Bool.{and_parts, eqb-true, eq-eqb, true≢false, cases_Bool, cond-true, cond-false, or_cases}
use Rattle.std.proofs.lemmas.Option.{same_Some, slice_get-map}
use Rattle.law_devices.proofs.Common.{ways_equal}
use Rattle.law_common.proofs.Lists.{all_more}
use Rattle.usb_base.specs.declared.commands.Cmd.TheVariants as cmd
use Rattle.usb_base.specs.declared.endpoints.EpDesc.{EpDesc}
use Rattle.usb_base.specs.declared.endpoints.EpName.{EpName}
use Rattle.usb_base.specs.declared.packets.EpKind.{EpKind}
use Rattle.usb_base.specs.declared.packets.Way.{Way}
use Rattle.usb_base.specs.declared.packets.Way.TheVariants as way
use Rattle.script_types.specs.declared.devices.DeviceText.{DeviceText}
use Rattle.script_types.specs.declared.devices.EpText.{EpText}
use Rattle.script_types.specs.declared.scripts.Line.{Line}
use Rattle.script_types.specs.declared.scripts.Line.TheVariants as line
use Rattle.script_types.specs.declared.scripts.Script.{Script}
use Rattle.script_forms.specs.declared.statements.Name.{Name}
use Rattle.script_world.specs.Draft.{Draft, Placed, device_of, ep_of, same_way, is_named, device_text, script_of}
use Rattle.script_text.specs.Faults.{Spells}
use Rattle.endpoint_script.specs.Device.{Device, opening}
use Rattle.bus_wire.specs.declared.seats.Seat.{Seat}
use Rattle.bus_wire.specs.Fates.{is_same_way, is_same_name}
use Rattle.bus_wire.specs.Seats.{seat_at, seats_from, hub_seats_from, seat_named, seats_of}
use Rattle.bus_wire.specs.Bus.{fixed_of, opening_bus}
use Rattle.law_queues.proofs.lemmas.told_endpoints.Names.{same_name_is}
use Rattle.law_driver.specs.chained_transfers.Bulk.{IsDataWay}
use Rattle.bus_world.specs.Opening.{opening_world}
use Rattle.bus_world.specs.Orders.{at_place, orders_of}
use Rattle.law_devices.specs.opening_senders.Own.{HasOwnDevices}
use Rattle.law_devices.proofs.Lists.{Holds, all_find, filter_skips, filter_takes, found_passes, find_append, find_later, find_same, find_map}
use Rattle.law_devices.proofs.Drafts.{IsEpOf, HasOwn, IsKnownDesc, IsKnownLine, IsDeclaredDraft}
use Rattle.law_devices.proofs.Texts.{spelled_kept}
use Rattle.law_devices.proofs.Senders.{IsDeclaredAt, empty_declared, second_declared, line_declares}
use Rattle.law_devices.proofs.Owning.{devices_have_addresses_of_their_own}
use Rattle.law_world.specs.streams.taken_reports.Seats.{HasSeat, OpensItsSeat, OpensSeats, AreApart}
use Rattle.law_world.specs.streams.taken_reports.Turns.{TextIsSeated, MomentIsSeated}
use Rattle.law_world.proofs.lemmas.streams.lemmas.taken_reports.Turning.{run_keeps_seats}

-- ---- where an endpoint was declared

text_by : (ds : List Placed) (name : Name) (x : EpDesc) (d : Placed) (o : Option EpText) → device_of ds name.addr ≡ Some d → find (is_named name) d.eps ≡ o → option_map (λ (e : EpText). e.desc) o ≡ Some x → IsDeclaredAt ds name x
text_by ds name x d None here is e = cc
text_by ds name x d (Some t) here is e = record { device = d; device_is = here; text = t; text_is = is; desc = same_Some t.desc x e }

device_by : (ds : List Placed) (name : Name) (x : EpDesc) (o : Option Placed) → device_of ds name.addr ≡ o → option_and_then (λ d. ep_of d.eps name) o ≡ Some x → IsDeclaredAt ds name x
device_by ds name x None is e = cc
device_by ds name x (Some d) is e = text_by ds name x d (find (is_named name) d.eps) is refl e

-- ---- names

ways_same : (a b : Way) → is_same_way a b ≡ same_way a b
ways_same way.In way.In = refl
ways_same way.In way.Out = refl
ways_same way.In way.Ctl = refl
ways_same way.Out way.In = refl
ways_same way.Out way.Out = refl
ways_same way.Out way.Ctl = refl
ways_same way.Ctl way.In = refl
ways_same way.Ctl way.Out = refl
ways_same way.Ctl way.Ctl = refl

-- ---- the seats of a list

has_first : (s : Seat) (seats : List Seat) (x : EpDesc) → s.name ≡ x.name → s.kind ≡ x.kind → HasSeat (s ∷ seats) x
has_first s seats x name kind = record { place = 0; seat = s; here = refl; name = name; kind = kind }

has_later : (front seats : List Seat) (x : EpDesc) → HasSeat seats x → HasSeat (front ++ seats) x
has_later [] seats x k = k
has_later (s ∷ front) seats x k =
    let rest : HasSeat (front ++ seats) x = has_later front seats x k in
    record { place = suc rest.place; seat = rest.seat; here = rest.here; name = rest.name; kind = rest.kind }

-- ---- the seat of its name

record IsSeatOf (seats : List Seat) (name : EpName) (kind : EpKind) : Type 0 where
  seat : Seat
  is : seat_named seats name ≡ Some seat
  alike : seat.kind ≡ kind

-- the first text of the name in its device gives the first seat of the name
seat_there : (names : List EpName) (k a : ℕ) (n : EpName) (ds : List Placed) (d : Placed) (e : EpText) → n.addr ≡ a → device_of ds a ≡ Some d → AllByRecursion (HasOwn names) ds
    → find (λ (t : EpText). is_same_name t.desc.name n) d.eps ≡ Some e → IsSeatOf (seats_from k (map device_text ds)) n e.desc.kind
seat_there names k a n [] d e is here own found = cc
seat_there names k a n (x ∷ ds) d e is here own found =
    elim (cases_Bool (x.addr == a)) [
      | inl t ↦ record {
        seat = seat_at k e;
        is = find_append test (map (seat_at k) x.eps) rest (seat_at k e)
            (find_map test (seat_at k) x.eps
            ∙ ap (option_map (seat_at k)) (ap (λ (p : Placed). find (λ (u : EpText). is_same_name u.desc.name n) p.eps) (same_Some x d (sym (cond-true _ _ _ t) ∙ here)) ∙ found));
        alike = refl;
      }
      | inr f ↦ passed_over f (seat_there names (k + 1) a n ds d e is (sym (cond-false _ _ _ f) ∙ here) own.1 found)
    ]
  where
    test : Seat → Bool
    test s = is_same_name s.name n

    rest : List Seat
    rest = seats_from (k + 1) (map device_text ds)

    other : (t : EpText) → IsEpOf names x.addr x.hub t → (x.addr == a) ≡ false → test (seat_at k t) ≡ false
    other t z f =
        elim (cases_Bool (test (seat_at k t))) [
          | inl y ↦ absurd (true≢false (sym (eq-eqb x.addr a (sym z.address ∙ ap (λ (m : EpName). m.addr) (same_name_is t.desc.name n y) ∙ is)) ∙ f))
          | inr y ↦ y
        ]

    none_of : (es : List EpText) → AllByRecursion (IsEpOf names x.addr x.hub) es → (x.addr == a) ≡ false → AllByRecursion (λ s. test s ≡ false) (map (seat_at k) es)
    none_of [] h f = tt
    none_of (t ∷ ts) h f = (other t h.0 f, none_of ts h.1 f)

    passed_over : (x.addr == a) ≡ false → IsSeatOf rest n e.desc.kind → IsSeatOf (map (seat_at k) x.eps ++ rest) n e.desc.kind
    passed_over f z = record { seat = z.seat; is = find_later test (map (seat_at k) x.eps) rest (none_of x.eps own.0 f) ∙ z.is; alike = z.alike }

-- ---- and among the seats of a script

skipped : (seats : List Seat) (n : EpName) (names : List EpName) (x : EpDesc) (o : Option Seat) → seat_named seats n ≡ o → HasSeat (filter_map (seat_named seats) names) x → HasSeat (filter_map (seat_named seats) (n ∷ names)) x
skipped seats n names x None is k = subst (λ (xs : List Seat). HasSeat xs x) (sym (filter_skips (seat_named seats) n names is)) k
skipped seats n names x (Some s) is k = subst (λ (xs : List Seat). HasSeat xs x) (sym (filter_takes (seat_named seats) n names s is)) (has_later (s ∷ []) (filter_map (seat_named seats) names) x k)

listed_seat : (seats : List Seat) (x : EpDesc) (names : List EpName) → IsSeatOf seats x.name x.kind → list_any (is_same_name x.name) names ≡ true → HasSeat (filter_map (seat_named seats) names) x
listed_seat seats x [] k listed = cc
listed_seat seats x (n ∷ names) k listed =
    elim (or_cases (is_same_name x.name n) (list_any (is_same_name x.name) names) listed) [
      | inl t ↦ subst (λ (xs : List Seat). HasSeat xs x) (sym (filter_takes (seat_named seats) n names k.seat (ap (seat_named seats) (sym (same_name_is x.name n t)) ∙ k.is)))
          (has_first k.seat (filter_map (seat_named seats) names) x (same_name_is k.seat.name x.name (found_passes (λ (s : Seat). is_same_name s.name x.name) seats k.seat k.is)) k.alike)
      | inr t ↦ skipped seats n names x (seat_named seats n) refl (listed_seat seats x names k t)
    ]

module _ (w : Draft) (h : IsDeclaredDraft w) (name : Name) (x : EpDesc) (k : IsDeclaredAt w.devices name x) where
  own : HasOwn w.endpoints k.device
  own = subst (Holds (HasOwn w.endpoints)) k.device_is (all_find (HasOwn w.endpoints) (λ d. d.addr == name.addr) w.devices h.own)

  text : IsEpOf w.endpoints k.device.addr k.device.hub k.text
  text = subst (Holds (IsEpOf w.endpoints k.device.addr k.device.hub)) k.text_is (all_find (IsEpOf w.endpoints k.device.addr k.device.hub) (is_named name) k.device.eps own)

  address : k.device.addr ≡ name.addr
  address = eqb-true k.device.addr name.addr (found_passes (λ (d : Placed). d.addr == name.addr) w.devices k.device k.device_is)

  passes : (k.text.desc.name.num == name.num && same_way k.text.desc.name.way name.way) ≡ true
  passes = found_passes (is_named name) k.device.eps k.text k.text_is

  number : k.text.desc.name.num ≡ name.num
  number = eqb-true k.text.desc.name.num name.num (and_parts (k.text.desc.name.num == name.num) (same_way k.text.desc.name.way name.way) passes).0

  its_way : k.text.desc.name.way ≡ name.way
  its_way = ways_equal k.text.desc.name.way name.way (and_parts (k.text.desc.name.num == name.num) (same_way k.text.desc.name.way name.way) passes).1

  same_test : (t : EpText) → IsEpOf w.endpoints k.device.addr k.device.hub t → is_same_name t.desc.name k.text.desc.name ≡ is_named name t
  same_test t z =
      ap (λ b. b && (t.desc.name.num == k.text.desc.name.num && is_same_way t.desc.name.way k.text.desc.name.way)) (eq-eqb t.desc.name.addr k.text.desc.name.addr (z.address ∙ sym text.address))
      ∙ ap (λ n. t.desc.name.num == n && is_same_way t.desc.name.way k.text.desc.name.way) number
      ∙ ap (λ b. t.desc.name.num == name.num && b) (ways_same t.desc.name.way k.text.desc.name.way)
      ∙ ap (λ v. t.desc.name.num == name.num && same_way t.desc.name.way v) its_way

  first : find (λ (t : EpText). is_same_name t.desc.name k.text.desc.name) k.device.eps ≡ Some k.text
  first =
      find_same (λ (t : EpText). is_same_name t.desc.name k.text.desc.name) (is_named name) k.device.eps
      (all_more (IsEpOf w.endpoints k.device.addr k.device.hub) (λ t. is_same_name t.desc.name k.text.desc.name ≡ is_named name t) k.device.eps same_test own) ∙ k.text_is

  text_seat : HasSeat (seats_of (script_of w)) k.text.desc
  text_seat =
      has_later (hub_seats_from 0 w.hubs) (filter_map (seat_named (seats_from 0 (map device_text w.devices))) w.endpoints) k.text.desc
      (listed_seat (seats_from 0 (map device_text w.devices)) k.text.desc w.endpoints
      (seat_there w.endpoints 0 name.addr k.text.desc.name w.devices k.device k.text (text.address ∙ address) k.device_is h.own first) text.listed)

  pub its_seat : HasSeat (seats_of (script_of w)) x
  its_seat = subst (HasSeat (seats_of (script_of w))) k.desc text_seat

-- ---- a line

no_data : (v : Way) → v ≡ way.Ctl → IsDataWay v → ⊥
no_data way.Ctl is k = k
no_data _ is k = cc

open_seated : (w : Draft) (x : EpDesc) → IsDeclaredDraft w → IsKnownDesc w.devices x → IsDataWay x.name.way → HasSeat (seats_of (script_of w)) x
open_seated w x h (inl control) moves = absurd (no_data x.name.way control moves)
open_seated w x h (inr n) moves = its_seat w h n.name x (device_by w.devices n.name x (device_of w.devices n.name.addr) refl n.here)

line_seated : (w : Draft) (l : Line) → IsDeclaredDraft w → IsKnownLine w.devices l → OpensItsSeat (seats_of (script_of w)) l
line_seated w (line.Command (cmd.OpenEp x)) h k = λ moves. open_seated w x h k moves
line_seated w _ h k = tt

spelled_seats : (text : List ℕ) (s : Script) → Spells text s → OpensSeats s (seats_of s)
spelled_seats text s e =
    let k = spelled_kept IsDeclaredDraft empty_declared second_declared line_declares text s e in
    subst (λ (z : Script). OpensSeats z (seats_of z)) k.is
    (all_more (λ l. IsKnownLine k.draft.devices l.1) (λ l. OpensItsSeat (seats_of (script_of k.draft)) l.1) k.draft.lines (λ l known. line_seated k.draft l.1 k.holds known) k.holds.opened)

-- ---- its devices

record WasOpened (texts : List DeviceText) (i : ℕ) (d : Device) : Type 0 where
  text : DeviceText
  here : slice_get texts i ≡ Some text
  same : opening text ≡ d

was_opened : (texts : List DeviceText) (i : ℕ) (d : Device) → slice_get (map opening texts) i ≡ Some d → WasOpened texts i d
was_opened texts i d is = by_old (slice_get texts i) refl (sym (slice_get-map opening texts i) ∙ is)
  where
    by_old : (o : Option DeviceText) → slice_get texts i ≡ o → option_map opening o ≡ Some d → WasOpened texts i d
    by_old None here none = absurd cc
    by_old (Some t) here some = record { text = t; here = here; same = same_Some (opening t) d some }

pub opening_apart : (s : Script) → HasOwnDevices s → AreApart (opening_bus s).devices
opening_apart s own i j d e here there same =
    let x : WasOpened s.devices i d = was_opened s.devices i d here in
    let y : WasOpened s.devices j e = was_opened s.devices j e there in
    own.apart i j x.text y.text x.here y.here (ap (λ (z : Device). z.address) x.same ∙ same ∙ sym (ap (λ (z : Device). z.address) y.same))

pub text_is_seated : TextIsSeated
text_is_seated text s e = record { seats = spelled_seats text s e; apart = opening_apart s (devices_have_addresses_of_their_own text s e) }

pub moment_is_seated : MomentIsSeated
moment_is_seated text s k e = run_keeps_seats s (fixed_of s) (at_place (opening_world s) (orders_of s.lines)) k (text_is_seated text s e)
