-- A scripted control endpoint (USB 2.0, 8.5.3): the stages of a control transfer, with the replies that the script gives.
use Rattle.std.specs.Prelude.{ℕ, Bool, List, position, slice_get, bytes_eq, Option, Some, None, option_map}
use Rattle.usb_base.specs.declared.packets.Ask.{Ask}
use Rattle.usb_base.specs.declared.packets.Reply.{Reply}
use Rattle.dev_control.specs.declared.control.Request.{Request as UnderWay}
use Rattle.dev_control.specs.Stages.{Stages, opened, setup_of, stages_reply, stages_after, stages_acked}
use Rattle.script_types.specs.declared.devices.Item.{Item}
use Rattle.endpoint_script.specs.Items.{naks_of, requests_of}
use Rattle.endpoint_script.specs.declared.control_endpoint.KnownRequest.{KnownRequest}

pub record Controlling : Type 0 where
  pub stages : Stages
  pub requests : List KnownRequest  -- the requests that it knows, in order

-- before the first SETUP: all NAKs of its items together, and the requests among them
abbrev pub controlling_at : ℕ → List Item → Controlling
controlling_at max items = record { stages = opened max (naks_of items); requests = requests_of items }

abbrev pub has_setup : List ℕ → KnownRequest → Bool
has_setup setup known = bytes_eq known.setup setup

-- where the first request with these setup bytes stands
abbrev pub place_in : List KnownRequest → List ℕ → Option ℕ
place_in requests setup = position (has_setup setup) requests

abbrev pub reply_at : List KnownRequest → Option ℕ → Option (List ℕ)
reply_at requests None = None
reply_at requests (Some i) = option_map (λ known. known.reply) (slice_get requests i)

abbrev pub place_at : List KnownRequest → Option (List ℕ) → Option ℕ
place_at requests None = None
place_at requests (Some setup) = place_in requests setup

-- where the request under way stands
abbrev pub place_under : List KnownRequest → Option UnderWay → Option ℕ
place_under requests u = place_at requests (setup_of u)

-- the reply to the request under way, if the script has one
abbrev pub reply_under : List KnownRequest → Option UnderWay → Option (List ℕ)
reply_under requests u = reply_at requests (place_under requests u)

abbrev pub reply_of : Controlling → Option (List ℕ)
reply_of c = reply_under c.requests c.stages.request

abbrev pub controlling_reply : Controlling → Ask → List ℕ → Reply
controlling_reply c ask out = stages_reply (reply_of c) c.stages ask out

abbrev pub controlling_answered : Controlling → Ask → List ℕ → Controlling
controlling_answered c ask out = record c { stages = stages_after (reply_of c) c.stages ask out }

abbrev pub controlling_acked : Controlling → Controlling
controlling_acked c = record c { stages = stages_acked (reply_of c) c.stages }
