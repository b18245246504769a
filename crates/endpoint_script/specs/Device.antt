-- A scripted device: its endpoints, which of them an ask is for, what it answers and what that leaves.
--     Device                    its address, its speed and its endpoints
--     opening text              as its text describes it
--     begun d                   a microframe, or for a device below high speed a frame, begins
--     answer_of d ask out       the answer to an ask that sends these bytes; `answered` is what it leaves
--     acked_by d ask            what the host's ACK of the data just sent leaves
--     taken_of d name           the bytes that an OUT endpoint took
--     acted_of d name           how often a control endpoint acted on a request
use Rattle.std.specs.Prelude.{ℕ, ◌==◌, Bool, true, false, ◌&&◌, nat_le, List, [], map, position, slice_get, slice_set, Option, Some, None, if◌then◌else◌}
use Rattle.std.specs.List.{list_all}
use Rattle.usb_base.specs.declared.endpoints.EpName.{EpName}
use Rattle.usb_base.specs.declared.packets.Ask.{Ask}
use Rattle.usb_base.specs.declared.packets.EpKind.{EpKind}
use Rattle.usb_base.specs.declared.packets.EpKind.TheVariants as Kinds
use Rattle.usb_base.specs.declared.packets.Reply.{Reply}
use Rattle.usb_base.specs.declared.packets.Reply.TheVariants.{Silent}
use Rattle.usb_base.specs.declared.packets.Speed.{Speed}
use Rattle.usb_base.specs.declared.packets.Way.{Way}
use Rattle.usb_base.specs.declared.packets.Way.TheVariants as Ways
use Rattle.dev_control.specs.declared.rows.StageToken.{StageToken}
use Rattle.dev_control.specs.declared.rows.StageToken.TheVariants as Tokens
use Rattle.dev_control.specs.Stages.{token_of}
use Rattle.script_types.specs.declared.devices.DeviceText.{DeviceText}
use Rattle.script_types.specs.declared.devices.EpText.{EpText}
use Rattle.endpoint_script.specs.declared.endpoint.Endpoint.{Endpoint}
use Rattle.endpoint_script.specs.declared.endpoint.Role.{Role}
use Rattle.endpoint_script.specs.declared.endpoint.Role.TheVariants.{Sends, Takes, Controls, Streams, Hears}
use Rattle.endpoint_script.specs.Items.{is_short}
use Rattle.endpoint_script.specs.Sending.{sending_at, sending_reply, sending_answered, sending_acked}
use Rattle.endpoint_script.specs.Taking.{taking_at, taking_reply, taking_answered}
use Rattle.endpoint_script.specs.Controlling.{controlling_at, controlling_reply, controlling_answered, controlling_acked}
use Rattle.endpoint_script.specs.Streaming.{streaming_at, streaming_begun, streaming_reply, streaming_answered}

pub record Device : Type 0 where
  pub address : ℕ
  pub speed : Speed
  pub endpoints : List Endpoint  -- in the order of their lines

-- ---- one endpoint, by its part

abbrev pub opened_part : Way → EpKind → EpText → Role
opened_part Ways.Ctl _ text = Controls (controlling_at text.desc.max text.items)
opened_part Ways.In Kinds.Iso text = Streams (streaming_at text.desc.multi text.items)
opened_part Ways.In _ text = Sends (sending_at text.items)
opened_part Ways.Out Kinds.Iso text = Hears
opened_part Ways.Out _ text = Takes (taking_at text.items text.room)

abbrev pub opened_endpoint : EpText → Endpoint
opened_endpoint text = record { desc = text.desc; part = opened_part text.desc.name.way text.desc.kind text }

abbrev pub part_begun : Role → Role
part_begun (Streams s) = Streams (streaming_begun s)
part_begun part = part

abbrev pub endpoint_begun : Endpoint → Endpoint
endpoint_begun e = record e { part = part_begun e.part }

abbrev pub part_reply : Speed → Role → Ask → List ℕ → Reply
part_reply speed (Sends s) ask out = sending_reply s
part_reply speed (Takes t) ask out = taking_reply speed t ask out
part_reply speed (Controls c) ask out = controlling_reply c ask out
part_reply speed (Streams s) ask out = streaming_reply s
part_reply speed Hears ask out = Silent

abbrev pub part_answered : Role → Ask → List ℕ → Role
part_answered (Sends s) ask out = Sends (sending_answered s)
part_answered (Takes t) ask out = Takes (taking_answered t ask out)
part_answered (Controls c) ask out = Controls (controlling_answered c ask out)
part_answered (Streams s) ask out = Streams (streaming_answered s)
part_answered Hears ask out = Hears

abbrev pub part_acked : Role → Role
part_acked (Sends s) = Sends (sending_acked s)
part_acked (Controls c) = Controls (controlling_acked c)
part_acked part = part

abbrev pub endpoint_answered : Endpoint → Ask → List ℕ → Endpoint
endpoint_answered e ask out = record e { part = part_answered e.part ask out }

abbrev pub endpoint_acked : Endpoint → Endpoint
endpoint_acked e = record e { part = part_acked e.part }

abbrev pub part_taken : Role → List ℕ
part_taken (Takes t) = t.taken
part_taken _ = []

abbrev pub part_acted : Role → ℕ
part_acted (Controls c) = c.stages.acted
part_acted _ = 0

-- ---- which endpoint

abbrev pub is_way : Way → Way → Bool
is_way Ways.In Ways.In = true
is_way Ways.Out Ways.Out = true
is_way Ways.Ctl Ways.Ctl = true
is_way _ _ = false

abbrev pub is_named : ℕ → Way → Endpoint → Bool
is_named num way e = e.desc.name.num == num && is_way e.desc.name.way way

-- where the endpoint of this number and way stands
abbrev pub place_named : List Endpoint → ℕ → Way → Option ℕ
place_named es num way = position (is_named num way) es

abbrev pub or_else : Option ℕ → Option ℕ → Option ℕ
or_else None other = other
or_else (Some place) other = Some place

-- A SETUP is for a control endpoint, which has both ways; an IN is for it or an IN endpoint, an OUT or PING for it or an OUT
-- endpoint; no other PID is for any endpoint (USB 2.0, 8.4.1 and 8.5.1).
abbrev pub place_for : StageToken → List Endpoint → ℕ → Option ℕ
place_for Tokens.Setup es num = place_named es num Ways.Ctl
place_for Tokens.In es num = or_else (place_named es num Ways.In) (place_named es num Ways.Ctl)
place_for Tokens.Out es num = or_else (place_named es num Ways.Out) (place_named es num Ways.Ctl)
place_for Tokens.Ping es num = or_else (place_named es num Ways.Out) (place_named es num Ways.Ctl)
place_for Tokens.Other es num = None

-- where the endpoint stands that an ask is for
abbrev pub endpoint_asked : Device → Ask → Option ℕ
endpoint_asked d ask = if ask.addr == d.address then place_for (token_of ask.pid) d.endpoints ask.ep else None

abbrev pub place_of_name : Device → EpName → Option ℕ
place_of_name d name = if name.addr == d.address then place_named d.endpoints name.num name.way else None

abbrev pub endpoint_at : List Endpoint → Option ℕ → Option Endpoint
endpoint_at es None = None
endpoint_at es (Some place) = slice_get es place

-- ---- the device

-- What each line of a script gives: packets have at most 1,024 bytes.
abbrev pub is_scripted_endpoint : EpText → Bool
is_scripted_endpoint text = nat_le text.desc.max 1024 && list_all is_short text.items

abbrev pub is_scripted : DeviceText → Bool
is_scripted text = list_all is_scripted_endpoint text.eps

abbrev pub opening : DeviceText → Device
opening text = record { address = text.addr; speed = text.speed; endpoints = map opened_endpoint text.eps }

-- A new microframe, or for a device below high speed a new frame, begins the count of isochronous packets anew.
abbrev pub begun : Device → Device
begun d = record d { endpoints = map endpoint_begun d.endpoints }

abbrev pub reply_from : Speed → Option Endpoint → Ask → List ℕ → Reply
reply_from speed None ask out = Silent
reply_from speed (Some e) ask out = part_reply speed e.part ask out

abbrev pub answer_of : Device → Ask → List ℕ → Reply
answer_of d ask out = reply_from d.speed (endpoint_at d.endpoints (endpoint_asked d ask)) ask out

abbrev pub answered_at : List Endpoint → ℕ → Option Endpoint → Ask → List ℕ → List Endpoint
answered_at es place None ask out = es
answered_at es place (Some e) ask out = slice_set es place (endpoint_answered e ask out)

abbrev pub answered_in : List Endpoint → Option ℕ → Ask → List ℕ → List Endpoint
answered_in es None ask out = es
answered_in es (Some place) ask out = answered_at es place (slice_get es place) ask out

abbrev pub answered : Device → Ask → List ℕ → Device
answered d ask out = record d { endpoints = answered_in d.endpoints (endpoint_asked d ask) ask out }

abbrev pub acked_at : List Endpoint → ℕ → Option Endpoint → List Endpoint
acked_at es place None = es
acked_at es place (Some e) = slice_set es place (endpoint_acked e)

abbrev pub acked_in : List Endpoint → Option ℕ → List Endpoint
acked_in es None = es
acked_in es (Some place) = acked_at es place (slice_get es place)

abbrev pub acked_by : Device → Ask → Device
acked_by d ask = record d { endpoints = acked_in d.endpoints (endpoint_asked d ask) }

abbrev pub taken_from : Option Endpoint → List ℕ
taken_from None = []
taken_from (Some e) = part_taken e.part

abbrev pub taken_of : Device → EpName → List ℕ
taken_of d name = taken_from (endpoint_at d.endpoints (place_of_name d name))

abbrev pub acted_from : Option Endpoint → ℕ
acted_from None = 0
acted_from (Some e) = part_acted e.part

abbrev pub acted_of : Device → EpName → ℕ
acted_of d name = acted_from (endpoint_at d.endpoints (place_of_name d name))
