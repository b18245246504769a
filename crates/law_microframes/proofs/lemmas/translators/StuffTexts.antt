-- No endpoint of a script that a text spells has more than six stuffed bits in 36.
use Rattle.std.proofs.Common.{ℕ, ◌+◌, ◌≤◌, List, [], ◌∷◌, map, Option, Some, None, subst, arith}
use Rattle.std.specs.Prelude.{◌==◌, ◌&&◌, nat_le, is_some}
use Rattle.std.specs.List.{AllByRecursion}
use Rattle.std.specs.Option.{option_map_or}
use Rattle.std.proofs.lemmas.Bool.{cond_both, leb-true}
use Rattle.law_common.proofs.Lists.{all_both, nth_all}
use Rattle.usb_base.specs.declared.endpoints.EpDesc.{EpDesc}
use Rattle.script_types.specs.declared.devices.EpText.{EpText}
use Rattle.script_types.specs.declared.devices.HubText.{HubText}
use Rattle.script_types.specs.declared.scripts.Script.{Script}
use Rattle.script_forms.specs.declared.statements.Name.{Name}
use Rattle.script_forms.specs.declared.statements.Statement.{Statement}
use Rattle.script_text.specs.Faults.{Spells}
use Rattle.script_world.specs.Draft.{Draft, Placed, device_of, is_named, known, change, same_way, device_text, script_of}
use Rattle.script_world.specs.Ranges.{within, is_endpoint, is_slots}
use Rattle.script_world.specs.Rows.{is_known, answered, roomier, stuffed, at_ep, with_ep, put_room, control_name, content_len, commanded, where_known, after}
use Rattle.bus_wire.specs.declared.seats.Seat.{Seat}
use Rattle.bus_wire.specs.Bus.{fixed_of, stuff_of}
use Rattle.bus_wire.specs.Seats.{owner_at, seat_at, seats_from, hub_seats_from, seat_named, device_seats, seats_of}
use Rattle.law_devices.proofs.Lists.{all_change, all_find, all_filter_map}
use Rattle.law_microframes.proofs.lemmas.due.lemmas.repeats.SaidTexts.{spelled_said}
use Rattle.claims_world.specs.Pipelines.{StuffsAtMost}
use Rattle.usb_base.specs.declared.commands.Cmd.TheVariants as cmd
use Rattle.usb_base.specs.declared.packets.Way.TheVariants as way
use Rattle.script_forms.specs.declared.statements.Statement.TheVariants as says

abbrev IsFewEp : EpText → Type 0
IsFewEp e = e.stuff ≤ 6

abbrev IsFewDevice : Placed → Type 0
IsFewDevice d = AllByRecursion IsFewEp d.eps

-- ---- each line

abbrev IsFew : Draft → Type 0
IsFew w = AllByRecursion IsFewDevice w.devices

at_ep_few : (name : Name) (f : EpText → EpText) (ds : List Placed) → ((e : EpText) → IsFewEp e → IsFewEp (f e))
    → AllByRecursion IsFewDevice ds → AllByRecursion IsFewDevice (at_ep name f ds)
at_ep_few name f ds keeps all =
    all_change IsFewDevice (λ d. d.addr == name.addr) (λ d. record d { eps = change (is_named name) f d.eps }) ds
    (λ d _ k. all_change IsFewEp (is_named name) f d.eps (λ e _ z. keeps e z) k) all

where_few : (w : Draft) (name : Name) (v : Draft) → IsFew w → IsFew v → IsFew (where_known w name v)
where_few w name v h k = cond_both (is_some (known w name)) v w IsFew (λ _. k) (λ _. h)

opened_few : (w : Draft) (n : ℕ) (o : Option EpDesc) → IsFew w → IsFew (option_map_or (λ d. commanded w n (cmd.OpenEp d)) o w)
opened_few w n None h = h
opened_few w n (Some x) h = h

put_few : (name : Name) (k : ℕ) (ds : List Placed) → AllByRecursion IsFewDevice ds → AllByRecursion IsFewDevice (put_room name k ds)
put_few name k ds h =
    cond_both (same_way name.way way.Out) (at_ep name (roomier k) ds) ds (AllByRecursion IsFewDevice)
    (λ _. at_ep_few name (roomier k) ds (λ e z. z) h) (λ _. h)

line_few : (w : Draft) (n : ℕ) (s : Statement) → IsFew w → IsFew (after w n s)
line_few w n (says.Hub addr ports multi) h = cond_both (within 1 127 addr && within 1 15 ports) _ w IsFew (λ _. h) (λ _. h)
line_few w n (says.DevHigh addr) h = cond_both (within 1 127 addr) _ w IsFew (λ _. all_both IsFewDevice w.devices (_ ∷ []) h (tt, tt))
    (λ _. h)
line_few w n (says.DevBelow b) h =
    cond_both (within 1 127 b.addr && nat_le b.hub 127 && is_known w (says.DevBelow b)) _ w IsFew
    (λ _. all_both IsFewDevice w.devices (_ ∷ []) h (tt, tt)) (λ _. h)
line_few w n (says.Ep l) h =
    cond_both (is_endpoint l && is_some (device_of w.devices l.name.addr)) _ w IsFew
    (λ _. all_change IsFewDevice (λ d. d.addr == l.name.addr) (with_ep l) w.devices
    (λ d _ k. all_both IsFewEp d.eps (_ ∷ []) k (omega arith, tt)) h)
    (λ _. h)
line_few w n (says.Reply name a) h = at_ep_few name (answered a) w.devices (λ e z. z) h
line_few w n (says.Fate f) h = where_few w f.name _ h h
line_few w n (says.Stuff name p) h =
    cond_both (nat_le p 6) _ w IsFew
    (λ few. where_few w name _ h (at_ep_few name (stuffed p) w.devices (λ e z. leb-true p 6 few) h))
    (λ _. h)
line_few w n (says.Open name) h = opened_few w n (known w name) h
line_few w n (says.Cancel name) h = where_few w name _ h h
line_few w n (says.Clear name) h = where_few w name _ h h
line_few w n (says.Get l) h = where_few w l.name _ h h
line_few w n (says.Put l) h = where_few w l.name _ h (put_few l.name (content_len l.content) w.devices h)
line_few w n (says.Control c) h = where_few w (control_name c.addr) _ h h
line_few w n (says.Iso l) h = cond_both (is_slots l) _ w IsFew (λ _. where_few w l.name _ h h) (λ _. h)
line_few w n _ h = h

-- ---- seats

abbrev IsFewSeat : Seat → Type 0
IsFewSeat seat = stuff_of seat.owner ≤ 6

owner_few : (k : ℕ) (o : Option ℕ) (port stuff : ℕ) → stuff ≤ 6 → stuff_of (owner_at k o port stuff) ≤ 6
owner_few k None port stuff few = omega arith
owner_few k (Some hub) port stuff few = few

device_seats_few : (k : ℕ) (es : List EpText) → AllByRecursion IsFewEp es → AllByRecursion IsFewSeat (map (seat_at k) es)
device_seats_few k [] few = tt
device_seats_few k (e ∷ es) few = (owner_few k e.desc.hub e.desc.port e.stuff few.0, device_seats_few k es few.1)

seats_few : (k : ℕ) (ds : List Placed) → AllByRecursion IsFewDevice ds → AllByRecursion IsFewSeat (seats_from k (map device_text ds))
seats_few k [] few = tt
seats_few k (d ∷ ds) few =
    all_both IsFewSeat (map (seat_at k) d.eps) (seats_from (k + 1) (map device_text ds))
    (device_seats_few k d.eps few.0) (seats_few (k + 1) ds few.1)

hub_seats_few : (k : ℕ) (hs : List HubText) → AllByRecursion IsFewSeat (hub_seats_from k hs)
hub_seats_few k [] = tt
hub_seats_few k (h ∷ hs) = (omega arith, hub_seats_few (k + 1) hs)

few_stuffed : (w : Draft) → IsFew w → StuffsAtMost 6 (fixed_of (script_of w))
few_stuffed w h place seat there =
    let all = all_both IsFewSeat (hub_seats_from 0 w.hubs) (device_seats (script_of w)) (hub_seats_few 0 w.hubs)
    (all_filter_map IsFewSeat (seat_named (seats_from 0 (map device_text w.devices))) w.endpoints
    (λ name. all_find IsFewSeat (λ s. _) (seats_from 0 (map device_text w.devices)) (seats_few 0 w.devices h))) in
    nth_all IsFewSeat (seats_of (script_of w)) place seat all there

pub texts_have_few_stuffed_bits : (text : List ℕ) (s : Script) → Spells text s → StuffsAtMost 6 (fixed_of s)
texts_have_few_stuffed_bits text s e =
    let k = spelled_said IsFew tt (λ w h. h) (λ w n l _ h. line_few w n l h) text s e in
    subst (λ (z : Script). StuffsAtMost 6 (fixed_of z)) k.is (few_stuffed k.draft k.holds)
