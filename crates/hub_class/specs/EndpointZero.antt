-- Endpoint 0 of a hub: the stages of a control transfer over the requests that the hub knows (USB 2.0, 8.5.3 and 11.24).
-- A reply is taken at the data stage; an effect is made once, when the request is acted on.
use Rattle.std.specs.Prelude.{ℕ, ◌==◌, Bool, true, false, ◌&&◌, List, [], Option, Some, None, if◌then◌else◌}
use Rattle.usb_base.specs.declared.endpoints.EpName.{EpName}
use Rattle.usb_base.specs.declared.packets.Ask.{Ask}
use Rattle.usb_base.specs.declared.packets.Reply.{Reply}
use Rattle.usb_base.specs.declared.packets.Reply.TheVariants.{Silent}
use Rattle.dev_control.specs.declared.control.Request.{Request}
use Rattle.dev_control.specs.declared.rows.StageRow.{StageRow}
use Rattle.dev_control.specs.declared.rows.StageRow.TheVariants.{Acknowledges, Confirms}
use Rattle.dev_control.specs.declared.rows.StageToken.{StageToken}
use Rattle.dev_control.specs.declared.rows.StageToken.TheVariants.{Other}
use Rattle.dev_control.specs.Stages.{token_of, setup_of, stage_row, stages_reply, stages_after, stages_acked, stages_reset}
use Rattle.hub_ports.specs.declared.rows.HubReply.{HubReply}
use Rattle.hub_ports.specs.declared.rows.HubReply.TheVariants.{Bytes, Done, Stall}
use Rattle.hub_class.specs.HubContent.{HubContent}
use Rattle.hub_class.specs.Requesting.{requested, request_answer}

-- the bytes of a request's reply, if the hub knows it
abbrev pub reply_bytes : HubReply → Option (List ℕ)
reply_bytes (Bytes bytes) = Some bytes
reply_bytes Done = Some []
reply_bytes Stall = None

abbrev pub reply_to : Option (List ℕ) → HubContent → Option (List ℕ)
reply_to None h = None
reply_to (Some setup) h = reply_bytes (request_answer setup h)

-- the reply to the request under way, as it would be now
abbrev pub reply_under : HubContent → Option (List ℕ)
reply_under h = reply_to (setup_of h.control.request) h

abbrev pub is_token : StageToken → Bool
is_token Other = false
is_token _ = true

-- the ask is for the hub's endpoint 0
abbrev pub suits : Ask → HubContent → Bool
suits ask h = ask.addr == h.address && ask.ep == 0 && is_token (token_of ask.pid)

-- the setup bytes of the request that is acted on now: its status stage is answered the first time
abbrev pub unless_done : Option Request → Option (List ℕ)
unless_done None = None
unless_done (Some u) = if u.done then None else Some u.setup

abbrev pub acts_on : StageRow → Option Request → Option (List ℕ)
acts_on Acknowledges u = unless_done u
acts_on Confirms u = unless_done u
acts_on _ u = None

abbrev pub acted_with : Option (List ℕ) → HubContent → HubContent
acted_with None h = h
acted_with (Some setup) h = requested setup h

abbrev pub row_at : Ask → List ℕ → HubContent → StageRow
row_at ask out h = stage_row (reply_under h) h.control ask out

-- the answer to a plain ask that sends these bytes, and the hub after it
abbrev pub hub_reply : Ask → List ℕ → HubContent → Reply
hub_reply ask out h = if suits ask h then stages_reply (reply_under h) h.control ask out else Silent

abbrev pub hub_answered_at : Ask → List ℕ → HubContent → HubContent
hub_answered_at ask out h =
    acted_with (acts_on (row_at ask out h) h.control.request) (record h { control = stages_after (reply_under h) h.control ask out })

abbrev pub hub_answered : Ask → List ℕ → HubContent → HubContent
hub_answered ask out h = if suits ask h then hub_answered_at ask out h else h

-- the hub after the host's ACK of the data just sent
abbrev pub hub_acked : Ask → HubContent → HubContent
hub_acked ask h = if suits ask h then record h { control = stages_acked (reply_under h) h.control } else h

-- the hub after a reset of the endpoint with this name (USB 2.0, 9.4.5), which is its own where it has the hub's address
abbrev pub hub_reset : EpName → HubContent → HubContent
hub_reset name h = if h.address == name.addr then record h { control = stages_reset h.control } else h
