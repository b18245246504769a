-- A request to a hub over its three stages (USB 2.0, 8.5.3 and 11.24.2): the SETUP, the data of a read, the status.
use Rattle.std.specs.Prelude.{◌≡◌, ℕ, true, false, List, Some}
use Rattle.usb_base.specs.declared.packets.Ask.{Ask}
use Rattle.dev_control.specs.declared.control.Request.{Request}
use Rattle.dev_control.specs.declared.rows.StageToken.{StageToken}
use Rattle.dev_control.specs.Stages.{token_of, begun_with, one_more_act}
use Rattle.hub_class.specs.HubContent.{HubContent}
use Rattle.hub_class.specs.EndpointZero.{suits}

-- the ask is this token for the hub's endpoint 0
pub record Hears (token : StageToken) (ask : Ask) (h : HubContent) : Type 0 where
  pub suited : suits ask h ≡ true
  pub token_is : token_of ask.pid ≡ token

-- endpoint 0 has packets of at most 64 bytes, and a hub is never busy
pub record IsReady (h : HubContent) : Type 0 where
  pub max : h.control.max ≡ 64
  pub naks : h.control.naks ≡ 0

-- the hub with this request under way
abbrev pub under : Request → HubContent → HubContent
under request h = record h { control = record h.control { request = Some request } }

-- a read whose data is known to be received, all in one packet
abbrev pub read_of : List ℕ → Request
read_of setup = record { setup = setup; moved = 64; toggle = false; done = false }

-- the hub that heard the SETUP of a request, and nothing since
abbrev pub told : List ℕ → HubContent → HubContent
told setup h = under (begun_with setup) h

-- the hub that acted on this request just now
abbrev pub finished : Request → HubContent → HubContent
finished request h = record h { control = record h.control { request = Some (record request { done = true }); acted = one_more_act h.control.acted } }
