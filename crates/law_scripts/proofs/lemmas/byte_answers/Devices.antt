-- What a device has to say is bytes, and stays so, whatever it is asked.
use Rattle.std.proofs.Common.{◌≡◌, ℕ, ◌+◌, ◌-◌, Bool, List, [], ◌∷◌, drop, slice_get, Option, Some, None, refl}
use Rattle.std.specs.Prelude.{◌==◌, nat_le}
use Rattle.std.specs.List.{AllByRecursion}
use Rattle.std.specs.Option.{option_map}
use Rattle.std.proofs.lemmas.Bool.{cond_both}
use Rattle.law_common.proofs.Lists.{all_set, all_map}
use Rattle.usb_base.specs.declared.packets.Ask.{Ask}
use Rattle.usb_base.specs.declared.packets.EpKind.{EpKind}
use Rattle.usb_base.specs.declared.packets.EpKind.TheVariants as Kinds
use Rattle.usb_base.specs.declared.packets.Speed.{Speed}
use Rattle.usb_base.specs.declared.packets.Speed.TheVariants as Speeds
use Rattle.usb_base.specs.declared.packets.Way.{Way}
use Rattle.usb_base.specs.declared.packets.Way.TheVariants as Ways
use Rattle.script_types.specs.declared.devices.Item.{Item}
use Rattle.script_types.specs.declared.devices.Item.TheVariants as items
use Rattle.script_types.specs.declared.devices.EpText.{EpText}
use Rattle.script_types.specs.declared.devices.DeviceText.{DeviceText}
use Rattle.law_scripts.specs.script_spelling.Spelling.{AreBytes}
use Rattle.dev_control.specs.declared.control.Request.{Request}
use Rattle.dev_control.specs.declared.rows.StageRow.{StageRow}
use Rattle.dev_control.specs.declared.rows.StageRow.TheVariants as stages
use Rattle.dev_control.specs.Stages.{Stages, wanted_of, sent_of, packet_with, row_reply, stage_row, stages_reply}
use Rattle.endpoint_script.specs.declared.control_endpoint.KnownRequest.{KnownRequest}
use Rattle.endpoint_script.specs.declared.endpoint.Endpoint.{Endpoint}
use Rattle.endpoint_script.specs.declared.endpoint.Role.{Role}
use Rattle.endpoint_script.specs.declared.endpoint.Role.TheVariants.{Sends, Takes, Controls, Streams, Hears}
use Rattle.endpoint_script.specs.declared.rows.TakeRow.{TakeRow}
use Rattle.endpoint_script.specs.declared.rows.TakeRow.TheVariants as takes
use Rattle.endpoint_script.specs.Items.{rest_of, nak_used, nak_given, packet_in, request_in}
use Rattle.endpoint_script.specs.Sending.{Sending, sent_reply, acked_at as sending_acked_at}
use Rattle.endpoint_script.specs.Taking.{last_hand, row_reply as taking_row_reply, taking_row}
use Rattle.endpoint_script.specs.Controlling.{reply_at, place_under, reply_of}
use Rattle.endpoint_script.specs.Streaming.{Streaming, due_of, first_of, streaming_reply, streaming_answered}
use Rattle.endpoint_script.specs.Device.{Device, opened_part, opened_endpoint, opening, part_begun, endpoint_begun, begun, part_reply, part_answered, endpoint_answered, part_acked}
use Rattle.endpoint_script.specs.Device.{endpoint_acked, reply_from, answer_of, answered, answered_in, answered_at, acked_by, acked_in, acked_at, endpoint_asked, endpoint_at}
use Rattle.law_scripts.specs.byte_answers.Bytes.{IsByteReply, IsByteItem, IsByteText, IsByteRequest, IsByteRole, IsByteEndpoint, IsByteDevice}
use Rattle.law_scripts.proofs.lemmas.byte_answers.Lists.{Holds, all_get, all_take, all_drop, all_kept}

-- ---- items

abbrev AreByteItems : List Item → Type 0
AreByteItems xs = AllByRecursion IsByteItem xs

used_bytes : (n : ℕ) (xs : List Item) → AreByteItems xs → AreByteItems (nak_used n xs)
used_bytes n xs h = cond_both (nat_le n 1) xs (items.Nak (n - 1) ∷ xs) AreByteItems (λ _. h) (λ _. (tt, h))

given_bytes : (xs : List Item) → AreByteItems xs → AreByteItems (nak_given xs)
given_bytes [] h = h
given_bytes (items.Bytes bytes ∷ xs) h = h
given_bytes (items.Nak n ∷ xs) h = used_bytes n xs h.1
given_bytes (items.Nyet ∷ xs) h = h
given_bytes (items.Stall ∷ xs) h = h
given_bytes (items.Request setup bytes ∷ xs) h = h
given_bytes (items.Epoch ∷ xs) h = h

rest_bytes : {X : Type 0} (P : X → Type 0) (xs : List X) → AllByRecursion P xs → AllByRecursion P (rest_of xs)
rest_bytes P [] h = tt
rest_bytes P (x ∷ xs) h = h.1

packet_bytes : (x : Item) → IsByteItem x → Holds AreBytes (packet_in x)
packet_bytes (items.Bytes bytes) h = h
packet_bytes _ h = tt

request_bytes : (x : Item) → IsByteItem x → Holds IsByteRequest (request_in x)
request_bytes (items.Request setup bytes) h = h
request_bytes items.Epoch h = h
request_bytes _ h = tt

-- ---- an IN endpoint

sent_bytes : (toggle : Bool) (xs : List Item) → AreByteItems xs → IsByteReply (sent_reply toggle xs)
sent_bytes toggle [] h = tt
sent_bytes toggle (items.Bytes bytes ∷ xs) h = h.0
sent_bytes toggle (items.Nak n ∷ xs) h = tt
sent_bytes toggle (items.Nyet ∷ xs) h = tt
sent_bytes toggle (items.Stall ∷ xs) h = tt
sent_bytes toggle (items.Request setup bytes ∷ xs) h = tt
sent_bytes toggle (items.Epoch ∷ xs) h = tt

sending_acked_bytes : (xs : List Item) (s : Sending) → s.items ≡ xs → AreByteItems xs → AreByteItems s.items → AreByteItems (sending_acked_at xs s).items
sending_acked_bytes [] s e k h = h
sending_acked_bytes (items.Bytes bytes ∷ xs) s e k h = k.1
sending_acked_bytes (items.Nak n ∷ xs) s e k h = h
sending_acked_bytes (items.Nyet ∷ xs) s e k h = h
sending_acked_bytes (items.Stall ∷ xs) s e k h = h
sending_acked_bytes (items.Request setup bytes ∷ xs) s e k h = h
sending_acked_bytes (items.Epoch ∷ xs) s e k h = h

-- ---- an OUT endpoint

last_bytes : (speed : Speed) → IsByteReply (last_hand speed)
last_bytes Speeds.Low = tt
last_bytes _ = tt

taking_bytes : (speed : Speed) (row : TakeRow) → IsByteReply (taking_row_reply speed row)
taking_bytes speed takes.TakesLast = last_bytes speed
taking_bytes speed _ = tt

-- ---- a control endpoint

packet_with_bytes : (max : ℕ) (reply : Option (List ℕ)) (u : Option Request) → Holds AreBytes reply → AreBytes (packet_with max reply u)
packet_with_bytes max None u h = tt
packet_with_bytes max (Some reply) None h = tt
packet_with_bytes max (Some reply) (Some u) h =
    all_take _ max (drop u.moved (sent_of u.setup reply)) (all_drop _ u.moved (sent_of u.setup reply) (all_take _ (wanted_of u.setup) reply h))

row_bytes : (row : StageRow) (reply : Option (List ℕ)) (c : Stages) → Holds AreBytes reply → IsByteReply (row_reply row reply c)
row_bytes stages.Sends reply c h = packet_with_bytes c.max reply c.request h
row_bytes _ reply c h = tt

-- the stages of a control transfer say bytes of the reply alone
pub stages_bytes : (reply : Option (List ℕ)) (c : Stages) (ask : Ask) (out : List ℕ) → Holds AreBytes reply → IsByteReply (stages_reply reply c ask out)
stages_bytes reply c ask out h = row_bytes (stage_row reply c ask out) reply c h

known_bytes : (known : Option KnownRequest) → Holds IsByteRequest known → Holds AreBytes (option_map (λ (r : KnownRequest). r.reply) known)
known_bytes None h = tt
known_bytes (Some known) h = h

at_bytes : (requests : List KnownRequest) (place : Option ℕ) → AllByRecursion IsByteRequest requests → Holds AreBytes (reply_at requests place)
at_bytes requests None h = tt
at_bytes requests (Some i) h = known_bytes (slice_get requests i) (all_get IsByteRequest requests i h)

-- ---- an isochronous IN endpoint

first_bytes : (packets : List (List ℕ)) → AllByRecursion AreBytes packets → AreBytes (first_of packets)
first_bytes [] h = tt
first_bytes (packet ∷ packets) h = h.0

streaming_bytes : (s : Streaming) → AllByRecursion AreBytes s.packets → IsByteReply (streaming_reply s)
streaming_bytes s h = cond_both (due_of s == 0) _ _ IsByteReply (λ _. tt) (λ _. first_bytes s.packets h)

streaming_left : (s : Streaming) → AllByRecursion AreBytes s.packets → AllByRecursion AreBytes (streaming_answered s).packets
streaming_left s h =
    cond_both (due_of s == 0) s (record s { packets = rest_of s.packets; used = s.used + 1 }) (λ (x : Streaming). AllByRecursion AreBytes x.packets) (λ _. h) (λ _. rest_bytes AreBytes s.packets h)

-- ---- one endpoint

part_bytes : (speed : Speed) (part : Role) (ask : Ask) (out : List ℕ) → IsByteRole part → IsByteReply (part_reply speed part ask out)
part_bytes speed (Sends s) ask out h = sent_bytes s.toggle s.items h
part_bytes speed (Takes t) ask out h = taking_bytes speed (taking_row t ask out)
part_bytes speed (Controls c) ask out h = stages_bytes (reply_of c) c.stages ask out (at_bytes c.requests (place_under c.requests c.stages.request) h)
part_bytes speed (Streams s) ask out h = streaming_bytes s h
part_bytes speed Hears ask out h = tt

part_left : (part : Role) (ask : Ask) (out : List ℕ) → IsByteRole part → IsByteRole (part_answered part ask out)
part_left (Sends s) ask out h = given_bytes s.items h
part_left (Controls c) ask out h = h
part_left (Streams s) ask out h = streaming_left s h
part_left _ ask out h = tt

acked_left : (part : Role) → IsByteRole part → IsByteRole (part_acked part)
acked_left (Sends s) h = sending_acked_bytes s.items s refl h h
acked_left (Controls c) h = h
acked_left (Streams s) h = h
acked_left _ h = tt

begun_left : (part : Role) → IsByteRole part → IsByteRole (part_begun part)
begun_left (Takes t) h = tt
begun_left Hears h = tt
begun_left _ h = h

opened_bytes : (way : Way) (kind : EpKind) (e : EpText) → IsByteText e → IsByteRole (opened_part way kind e)
opened_bytes Ways.Ctl kind e h = all_kept IsByteItem IsByteRequest request_in e.items request_bytes h
opened_bytes Ways.In Kinds.Iso e h = all_kept IsByteItem AreBytes packet_in e.items packet_bytes h
opened_bytes Ways.In Kinds.Bulk e h = h
opened_bytes Ways.In Kinds.Interrupt e h = h
opened_bytes Ways.In Kinds.Control e h = h
opened_bytes Ways.Out Kinds.Iso e h = tt
opened_bytes Ways.Out Kinds.Bulk e h = tt
opened_bytes Ways.Out Kinds.Interrupt e h = tt
opened_bytes Ways.Out Kinds.Control e h = tt

-- ---- a device

abbrev AreByteEndpoints : List Endpoint → Type 0
AreByteEndpoints es = AllByRecursion IsByteEndpoint es

from_bytes : (speed : Speed) (e : Option Endpoint) (ask : Ask) (out : List ℕ) → Holds IsByteEndpoint e → IsByteReply (reply_from speed e ask out)
from_bytes speed None ask out h = tt
from_bytes speed (Some e) ask out h = part_bytes speed e.part ask out h

there_bytes : (es : List Endpoint) (place : Option ℕ) → AreByteEndpoints es → Holds IsByteEndpoint (endpoint_at es place)
there_bytes es None h = tt
there_bytes es (Some place) h = all_get IsByteEndpoint es place h

-- what it answers
pub answer_bytes : (d : Device) (ask : Ask) (out : List ℕ) → IsByteDevice d → IsByteReply (answer_of d ask out)
answer_bytes d ask out h = from_bytes d.speed (endpoint_at d.endpoints (endpoint_asked d ask)) ask out (there_bytes d.endpoints (endpoint_asked d ask) h.each)

answered_at_bytes : (es : List Endpoint) (place : ℕ) (e : Option Endpoint) (ask : Ask) (out : List ℕ) → AreByteEndpoints es → Holds IsByteEndpoint e → AreByteEndpoints (answered_at es place e ask out)
answered_at_bytes es place None ask out h k = h
answered_at_bytes es place (Some e) ask out h k = all_set IsByteEndpoint es place (endpoint_answered e ask out) h (part_left e.part ask out k)

answered_in_bytes : (es : List Endpoint) (place : Option ℕ) (ask : Ask) (out : List ℕ) → AreByteEndpoints es → AreByteEndpoints (answered_in es place ask out)
answered_in_bytes es None ask out h = h
answered_in_bytes es (Some place) ask out h = answered_at_bytes es place (slice_get es place) ask out h (all_get IsByteEndpoint es place h)

pub answered_bytes : (d : Device) (ask : Ask) (out : List ℕ) → IsByteDevice d → IsByteDevice (answered d ask out)
answered_bytes d ask out h = record { each = answered_in_bytes d.endpoints (endpoint_asked d ask) ask out h.each }

acked_at_bytes : (es : List Endpoint) (place : ℕ) (e : Option Endpoint) → AreByteEndpoints es → Holds IsByteEndpoint e → AreByteEndpoints (acked_at es place e)
acked_at_bytes es place None h k = h
acked_at_bytes es place (Some e) h k = all_set IsByteEndpoint es place (endpoint_acked e) h (acked_left e.part k)

acked_in_bytes : (es : List Endpoint) (place : Option ℕ) → AreByteEndpoints es → AreByteEndpoints (acked_in es place)
acked_in_bytes es None h = h
acked_in_bytes es (Some place) h = acked_at_bytes es place (slice_get es place) h (all_get IsByteEndpoint es place h)

pub acked_bytes : (d : Device) (ask : Ask) → IsByteDevice d → IsByteDevice (acked_by d ask)
acked_bytes d ask h = record { each = acked_in_bytes d.endpoints (endpoint_asked d ask) h.each }

pub begun_bytes : (d : Device) → IsByteDevice d → IsByteDevice (begun d)
begun_bytes d h = record { each = all_map IsByteEndpoint IsByteEndpoint endpoint_begun d.endpoints (λ e k. begun_left e.part k) h.each }

-- a device as its text describes it
pub device_opens : (text : DeviceText) → AllByRecursion IsByteText text.eps → IsByteDevice (opening text)
device_opens text h = record { each = all_map IsByteText IsByteEndpoint opened_endpoint text.eps (λ e k. opened_bytes e.desc.name.way e.desc.kind e k) h }
