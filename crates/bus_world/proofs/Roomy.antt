-- A device takes no more bytes than it has room for.
use Rattle.std.proofs.Common.{◌≡◌, ℕ, zero, suc, ◌+◌, ◌<◌, Bool, true, false, List, [], ◌∷◌, length, map, slice_get, slice_set, Option, Some, None, refl, subst, arith, length-append}
use Rattle.std.specs.List.{AllByRecursion, find}
use Rattle.std.proofs.lemmas.Bool.{cond_both, leb-true}
use Rattle.usb_base.specs.declared.packets.Ask.{Ask}
use Rattle.usb_base.specs.declared.packets.EpKind.{EpKind}
use Rattle.usb_base.specs.declared.packets.EpKind.TheVariants as Kinds
use Rattle.usb_base.specs.declared.packets.Way.{Way}
use Rattle.usb_base.specs.declared.packets.Way.TheVariants as Ways
use Rattle.usb_base.specs.declared.endpoints.EpName.{EpName}
use Rattle.script_types.specs.declared.devices.Item.{Item}
use Rattle.script_types.specs.declared.devices.Item.TheVariants as items
use Rattle.script_types.specs.declared.devices.EpText.{EpText}
use Rattle.script_types.specs.declared.devices.DeviceText.{DeviceText}
use Rattle.dev_control.specs.declared.rows.Sequence.{Sequence}
use Rattle.dev_control.specs.declared.rows.Sequence.TheVariants as sequences
use Rattle.dev_control.specs.Stages.{sequence_of}
use Rattle.endpoint_script.specs.declared.endpoint.Endpoint.{Endpoint}
use Rattle.endpoint_script.specs.declared.endpoint.Role.{Role}
use Rattle.endpoint_script.specs.declared.endpoint.Role.TheVariants.{Takes}
use Rattle.endpoint_script.specs.declared.rows.TakeRow.{TakeRow}
use Rattle.endpoint_script.specs.declared.rows.TakeRow.TheVariants as takes
use Rattle.endpoint_script.specs.Taking.{Taking, next_row, out_row, ping_row, has_room, is_ping, take_row, taking_row, after_taking_row as after_taking}
use Rattle.endpoint_script.specs.Device.{Device, opened_part, opened_endpoint, opening, part_begun, endpoint_begun, begun, part_answered, endpoint_answered, part_acked}
use Rattle.endpoint_script.specs.Device.{endpoint_acked, answered, answered_in, answered_at, acked_by, acked_in, acked_at, endpoint_asked, taken_of, taken_from, part_taken, endpoint_at}
use Rattle.endpoint_script.specs.Device.{place_of_name}
use Rattle.endpoint_script.specs.Resets.{part_reset, endpoint_reset, reset_at, reset_in, device_reset}
use Rattle.bus_wire.specs.Resets.{bus_reset}
use Rattle.bus_wire.specs.declared.asked.Asked.{Asked}
use Rattle.bus_wire.specs.declared.who_heard.WhoHeard.{WhoHeard}
use Rattle.bus_wire.specs.declared.who_heard.WhoHeard.TheVariants as rows
use Rattle.hub_class.specs.HubContent.{HubContent}
use Rattle.hub_class.proofs.Microframe.{work_keeps}
use Rattle.bus_wire.specs.declared.asked.Answerer.{Answerer}
use Rattle.bus_wire.specs.declared.asked.Answerer.TheVariants as answerers
use Rattle.bus_wire.specs.Asking.{device_after, put_at, changed_at}
use Rattle.bus_wire.specs.Below.{Below, Floor, below_at, asked_below, below_row, devices_after, below_reply, below_after_at, below_after, floor_left, floor_worked}
use Rattle.bus_wire.specs.Bus.{Fixed, Bus, floor_of, begins_anew, begun_at, begin_after, asked_of, changed_by, after_at, bus_row as heard_row, transact_after}
use Rattle.script_fits.specs.Fits.{IsFitRoom}
use Rattle.bus_world.specs.Sound.{IsRoomy, IsRoomyEndpoint, IsRoomyDevice}

-- ---- lists

all_set : {X : Type 0} (P : X → Type 0) (xs : List X) (i : ℕ) (y : X) → AllByRecursion P xs → P y → AllByRecursion P (slice_set xs i y)
all_set P [] i y h k = tt
all_set P (x ∷ xs) zero y h k = (k, h.1)
all_set P (x ∷ xs) (suc i) y h k = (h.0, all_set P xs i y h.1 k)

abbrev Holds : {X : Type 0} → (X → Type 0) → Option X → Type 0
Holds P None = Unit {0}
Holds P (Some x) = P x

all_get : {X : Type 0} (P : X → Type 0) (xs : List X) (i : ℕ) → AllByRecursion P xs → Holds P (slice_get xs i)
all_get P [] i h = tt
all_get P (x ∷ xs) zero h = h.0
all_get P (x ∷ xs) (suc i) h = all_get P xs i h.1

all_map : {X Y : Type 0} (P : X → Type 0) (Q : Y → Type 0) (f : X → Y) (xs : List X) → ((x : X) → P x → Q (f x)) → AllByRecursion P xs → AllByRecursion Q (map f xs)
all_map P Q f [] g h = tt
all_map P Q f (x ∷ xs) g h = (g x h.0, all_map P Q f xs g h.1)

found : {X : Type 0} (P : X → Type 0) (p : X → Bool) (xs : List X) → AllByRecursion P xs → Holds P (find p xs)
found P p [] h = tt
found P p (x ∷ xs) h = cond_both (p x) (Some x) (find p xs) (Holds P) (λ _. h.0) (λ _. found P p xs h.1)

-- ---- an OUT endpoint

-- data are taken only where there is room for them
abbrev IfTaken : TakeRow → Bool → Type 0
IfTaken takes.Takes fits = fits ≡ true
IfTaken takes.TakesLast fits = fits ≡ true
IfTaken takes.Drops fits = Unit {0}
IfTaken takes.Naks fits = Unit {0}
IfTaken takes.IsFull fits = Unit {0}
IfTaken takes.Stalls fits = Unit {0}
IfTaken takes.HasRoom fits = Unit {0}

next_fits : (xs : List Item) (fits : Bool) → IfTaken (next_row xs fits) fits
next_fits [] true = refl
next_fits [] false = tt
next_fits (items.Bytes bytes ∷ xs) true = refl
next_fits (items.Bytes bytes ∷ xs) false = tt
next_fits (items.Nak n ∷ xs) true = tt
next_fits (items.Nak n ∷ xs) false = tt
next_fits (items.Nyet ∷ xs) true = refl
next_fits (items.Nyet ∷ xs) false = tt
next_fits (items.Stall ∷ xs) true = tt
next_fits (items.Stall ∷ xs) false = tt
next_fits (items.Request setup bytes ∷ xs) true = refl
next_fits (items.Request setup bytes ∷ xs) false = tt
next_fits (items.Epoch ∷ xs) true = refl
next_fits (items.Epoch ∷ xs) false = tt

out_fits : (s : Sequence) (xs : List Item) (fits : Bool) → IfTaken (out_row s xs fits) fits
out_fits sequences.Next xs fits = next_fits xs fits
out_fits _ xs fits = tt

ping_fits : (xs : List Item) (fits : Bool) → IfTaken (ping_row xs) fits
ping_fits [] fits = tt
ping_fits (items.Bytes bytes ∷ xs) fits = tt
ping_fits (items.Nak n ∷ xs) fits = tt
ping_fits (items.Nyet ∷ xs) fits = tt
ping_fits (items.Stall ∷ xs) fits = tt
ping_fits (items.Request setup bytes ∷ xs) fits = tt
ping_fits (items.Epoch ∷ xs) fits = tt

row_fits : (ping : Bool) (t : Taking) (s : Sequence) (n : ℕ) → IfTaken (take_row ping t s n) (has_room t n)
row_fits true t s n = ping_fits t.items (has_room t n)
row_fits false t s n = out_fits s t.items (has_room t n)

taken_roomy : (row : TakeRow) (t : Taking) (out : List ℕ) → IfTaken row (has_room t (length out)) → IsRoomy (Takes t) → IsRoomy (Takes (after_taking row out t))
taken_roomy takes.Takes t out fits h = (omega (arith, leb-true (length t.taken + length out) t.room fits, length-append t.taken out), h.1)
taken_roomy takes.TakesLast t out fits h = (omega (arith, leb-true (length t.taken + length out) t.room fits, length-append t.taken out), h.1)
taken_roomy _ t out fits h = h

part_roomy : (part : Role) (ask : Ask) (out : List ℕ) → IsRoomy part → IsRoomy (part_answered part ask out)
part_roomy (Takes t) ask out h = taken_roomy (taking_row t ask out) t out (row_fits (is_ping ask.pid) t (sequence_of t.toggle ask.toggle) (length out)) h
part_roomy _ ask out h = tt

acked_roomy : (part : Role) → IsRoomy part → IsRoomy (part_acked part)
acked_roomy (Takes t) h = h
acked_roomy _ h = tt

begun_roomy : (part : Role) → IsRoomy part → IsRoomy (part_begun part)
begun_roomy (Takes t) h = h
begun_roomy _ h = tt

-- ---- a device

answered_at_roomy : (es : List Endpoint) (place : ℕ) (e : Option Endpoint) (ask : Ask) (out : List ℕ) → AllByRecursion IsRoomyEndpoint es → Holds IsRoomyEndpoint e
    → AllByRecursion IsRoomyEndpoint (answered_at es place e ask out)
answered_at_roomy es place None ask out h k = h
answered_at_roomy es place (Some e) ask out h k = all_set IsRoomyEndpoint es place (endpoint_answered e ask out) h (part_roomy e.part ask out k)

answered_in_roomy : (es : List Endpoint) (place : Option ℕ) (ask : Ask) (out : List ℕ) → AllByRecursion IsRoomyEndpoint es → AllByRecursion IsRoomyEndpoint (answered_in es place ask out)
answered_in_roomy es None ask out h = h
answered_in_roomy es (Some place) ask out h = answered_at_roomy es place (slice_get es place) ask out h (all_get IsRoomyEndpoint es place h)

answered_roomy : (d : Device) (ask : Ask) (out : List ℕ) → IsRoomyDevice d → IsRoomyDevice (answered d ask out)
answered_roomy d ask out h = record { each = answered_in_roomy d.endpoints (endpoint_asked d ask) ask out h.each }

acked_at_roomy : (es : List Endpoint) (place : ℕ) (e : Option Endpoint) → AllByRecursion IsRoomyEndpoint es → Holds IsRoomyEndpoint e → AllByRecursion IsRoomyEndpoint (acked_at es place e)
acked_at_roomy es place None h k = h
acked_at_roomy es place (Some e) h k = all_set IsRoomyEndpoint es place (endpoint_acked e) h (acked_roomy e.part k)

acked_in_roomy : (es : List Endpoint) (place : Option ℕ) → AllByRecursion IsRoomyEndpoint es → AllByRecursion IsRoomyEndpoint (acked_in es place)
acked_in_roomy es None h = h
acked_in_roomy es (Some place) h = acked_at_roomy es place (slice_get es place) h (all_get IsRoomyEndpoint es place h)

acked_by_roomy : (d : Device) (ask : Ask) → IsRoomyDevice d → IsRoomyDevice (acked_by d ask)
acked_by_roomy d ask h = record { each = acked_in_roomy d.endpoints (endpoint_asked d ask) h.each }

device_begun_roomy : (d : Device) → IsRoomyDevice d → IsRoomyDevice (begun d)
device_begun_roomy d h = record { each = all_map IsRoomyEndpoint IsRoomyEndpoint endpoint_begun d.endpoints (λ e k. begun_roomy e.part k) h.each }

begun_at_roomy : (frindex : ℕ) (d : Device) → IsRoomyDevice d → IsRoomyDevice (begun_at frindex d)
begun_at_roomy frindex d h = cond_both (begins_anew d.speed frindex) (begun d) d IsRoomyDevice (λ _. device_begun_roomy d h) (λ _. h)

-- ---- the bus

device_after_roomy : (row : WhoHeard) (ask : Ask) (out : List ℕ) (d : Device) → IsRoomyDevice d → IsRoomyDevice (device_after row ask out d)
device_after_roomy rows.SentUnheard ask out d h = h
device_after_roomy rows.AckHeard ask out d h = acked_by_roomy (answered d ask out) ask (answered_roomy d ask out h)
device_after_roomy _ ask out d h = answered_roomy d ask out h

abbrev AreRoomy : List Device → Type 0
AreRoomy ds = AllByRecursion IsRoomyDevice ds

put_roomy : (d : Option Device) (place : ℕ) (f : Device → Device) (ds : List Device) → ((x : Device) → IsRoomyDevice x → IsRoomyDevice (f x)) → AreRoomy ds → Holds IsRoomyDevice d
    → AreRoomy (put_at d place f ds)
put_roomy None place f ds g h k = h
put_roomy (Some d) place f ds g h k = all_set IsRoomyDevice ds place (f d) h (g d k)

changed_roomy : (place : ℕ) (row : WhoHeard) (ask : Ask) (out : List ℕ) (ds : List Device) → AreRoomy ds → AreRoomy (changed_at place (device_after row ask out) ds)
changed_roomy place row ask out ds h =
    put_roomy (slice_get ds place) place (device_after row ask out) ds (device_after_roomy row ask out) h (all_get IsRoomyDevice ds place h)

changed_by_roomy : (row : WhoHeard) (who : Answerer) (ask : Ask) (out : List ℕ) (b : Bus) → AreRoomy b.devices → AreRoomy (changed_by row who ask out b).devices
changed_by_roomy row (answerers.Device place) ask out b h = changed_roomy place row ask out b.devices h
changed_by_roomy row _ ask out b h = h

at_roomy : (fixed : Fixed) (b : Bus) (ask : Ask) (out : List ℕ) (e : Option Asked) → AreRoomy b.devices → AreRoomy (after_at fixed b ask out e).devices
at_roomy fixed b ask out None h = h
at_roomy fixed b ask out (Some e) h = changed_by_roomy (heard_row fixed b e ask out) e.who ask out b h

pub transact_roomy : (fixed : Fixed) (b : Bus) (ask : Ask) (out : List ℕ) → AllByRecursion IsRoomyDevice b.devices → AllByRecursion IsRoomyDevice (transact_after fixed b ask out).devices
transact_roomy fixed b ask out h = at_roomy fixed b ask out (asked_of fixed b ask) h

-- ---- the buses below hubs

devices_after_roomy : (row : WhoHeard) (who : Answerer) (ask : Ask) (out : List ℕ) (ds : List Device) → AreRoomy ds → AreRoomy (devices_after row who ask out ds)
devices_after_roomy row (answerers.Device place) ask out ds h = changed_roomy place row ask out ds h
devices_after_roomy row _ ask out ds h = h

below_roomy : (w : Below) (ask : Ask) (out : List ℕ) (e : Option Asked) → AreRoomy w.floor.devices → AreRoomy (below_after_at w ask out e).floor.devices
below_roomy w ask out None h = h
below_roomy w ask out (Some e) h = devices_after_roomy (below_row w e ask out) e.who ask out w.floor.devices h

worked_roomy : (fixed : Fixed) (hs : List HubContent) (floor : Floor) → AreRoomy floor.devices → AreRoomy (floor_worked fixed hs floor).devices
worked_roomy fixed [] floor h = h
worked_roomy fixed (x ∷ hs) floor h =
    worked_roomy fixed hs (floor_left fixed x floor)
    (work_keeps below_reply below_after (λ (w : Below). AreRoomy w.floor.devices) (λ w ask out k. below_roomy w ask out (asked_below w ask) k) x (below_at fixed x floor) h)

pub begin_roomy : (fixed : Fixed) (frindex : ℕ) (b : Bus) → AllByRecursion IsRoomyDevice b.devices → AllByRecursion IsRoomyDevice (begin_after fixed frindex b).devices
begin_roomy fixed frindex b h =
    all_map IsRoomyDevice IsRoomyDevice (begun_at frindex) (floor_worked fixed b.hubs (floor_of b)).devices (begun_at_roomy frindex)
    (worked_roomy fixed b.hubs (floor_of b) h)

-- ---- the reset of an endpoint

part_reset_roomy : (part : Role) → IsRoomy part → IsRoomy (part_reset part)
part_reset_roomy (Takes t) h = h
part_reset_roomy _ h = tt

reset_at_roomy : (es : List Endpoint) (place : ℕ) (e : Option Endpoint) → AllByRecursion IsRoomyEndpoint es → Holds IsRoomyEndpoint e
    → AllByRecursion IsRoomyEndpoint (reset_at es place e)
reset_at_roomy es place None h k = h
reset_at_roomy es place (Some e) h k = all_set IsRoomyEndpoint es place (endpoint_reset e) h (part_reset_roomy e.part k)

reset_in_roomy : (es : List Endpoint) (place : Option ℕ) → AllByRecursion IsRoomyEndpoint es → AllByRecursion IsRoomyEndpoint (reset_in es place)
reset_in_roomy es None h = h
reset_in_roomy es (Some place) h = reset_at_roomy es place (slice_get es place) h (all_get IsRoomyEndpoint es place h)

pub reset_roomy : (name : EpName) (b : Bus) → AllByRecursion IsRoomyDevice b.devices → AllByRecursion IsRoomyDevice (bus_reset name b).devices
reset_roomy name b h =
    all_map IsRoomyDevice IsRoomyDevice (device_reset name) b.devices
    (λ d k. record { each = reset_in_roomy d.endpoints (place_of_name d name) k.each }) h

-- ---- the opening

opened_roomy : (way : Way) (kind : EpKind) (e : EpText) → IsFitRoom e → IsRoomy (opened_part way kind e)
opened_roomy Ways.Ctl kind e h = tt
opened_roomy Ways.In Kinds.Iso e h = tt
opened_roomy Ways.In Kinds.Bulk e h = tt
opened_roomy Ways.In Kinds.Interrupt e h = tt
opened_roomy Ways.In Kinds.Control e h = tt
opened_roomy Ways.Out Kinds.Iso e h = tt
opened_roomy Ways.Out Kinds.Bulk e h = (omega arith, h)
opened_roomy Ways.Out Kinds.Interrupt e h = (omega arith, h)
opened_roomy Ways.Out Kinds.Control e h = (omega arith, h)

pub opening_roomy : (ds : List DeviceText) → AllByRecursion (λ d. AllByRecursion IsFitRoom d.eps) ds → AllByRecursion IsRoomyDevice (map opening ds)
opening_roomy ds h =
    all_map (λ d. AllByRecursion IsFitRoom d.eps) IsRoomyDevice opening ds
    (λ d k. record { each = all_map IsFitRoom IsRoomyEndpoint opened_endpoint d.eps (λ e r. opened_roomy e.desc.name.way e.desc.kind e r) k }) h

-- ---- the bytes that were taken

abbrev IsShort : List ℕ → Type 0
IsShort bytes = length bytes < 4294967296

part_short : (part : Role) → IsRoomy part → IsShort (part_taken part)
part_short (Takes t) h = omega (arith, h.0, h.1)
part_short _ h = omega arith

part_taken_short : (e : Option Endpoint) → Holds IsRoomyEndpoint e → IsShort (taken_from e)
part_taken_short None h = omega arith
part_taken_short (Some e) h = part_short e.part h

at_place_roomy : (es : List Endpoint) (place : Option ℕ) → AllByRecursion IsRoomyEndpoint es → Holds IsRoomyEndpoint (endpoint_at es place)
at_place_roomy es None h = tt
at_place_roomy es (Some place) h = all_get IsRoomyEndpoint es place h

pub taken_short : (d : Device) (name : EpName) → IsRoomyDevice d → length (taken_of d name) < 4294967296
taken_short d name h = part_taken_short (endpoint_at d.endpoints (place_of_name d name)) (at_place_roomy d.endpoints (place_of_name d name) h.each)

-- the device that is found
pub found_short : (ds : List Device) (p : Device → Bool) (d : Device) (name : EpName) → AllByRecursion IsRoomyDevice ds → find p ds ≡ Some d → length (taken_of d name) < 4294967296
found_short ds p d name h e = taken_short d name (subst (Holds IsRoomyDevice) e (found IsRoomyDevice p ds h))
