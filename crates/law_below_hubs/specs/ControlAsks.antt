-- What is asked of a control endpoint below a hub (USB 2.0, 8.5.3 and 11.17): the SETUP, the data and the status of its request.
--     IsRequestAsk r addr num     an ask of this endpoint is a control one, by a token of the request
--     RequestStartsAreRight       each start of the request's host is so
use Rattle.std.specs.Prelude.{◌≡◌, ℕ, false, ◌&&◌}
use Rattle.usb_base.specs.declared.packets.Ask.{Ask}
use Rattle.usb_base.specs.declared.packets.EpKind.TheVariants as Kinds
use Rattle.usb_base.specs.declared.packets.Pid.{Pid}
use Rattle.usb_base.specs.declared.packets.Pid.TheVariants as Pids
use Rattle.dev_control.specs.Stages.{is_read}
use Rattle.transactions.specs.declared.pipe.Pipe.{Pipe}
use Rattle.transactions.specs.Asks.{start_split, ask_of}
use Rattle.hub_keys.specs.Asks.{classic_of}
use Rattle.claims_report.specs.Requests.{Request}
use Rattle.law_request.specs.Host.{Host, is_over, has_data, data_token, status_token, token_at}

-- the token of one of its three stages
pub data IsRequestToken (r : Request) (pid : Pid) : Type 0 where
  setup : pid ≡ Pids.Setup → IsRequestToken r pid
  data_stage : pid ≡ data_token (is_read r.setup) → IsRequestToken r pid
  status : pid ≡ status_token (has_data r && is_read r.setup) → IsRequestToken r pid

pub record IsOfRequest (r : Request) (ask : Ask) : Type 0 where
  pub kind : ask.kind ≡ Kinds.Control
  pub token : IsRequestToken r ask.pid

abbrev pub IsRequestAsk : Request → ℕ → ℕ → Ask → Type 0
IsRequestAsk r addr num ask = ask.addr ≡ addr → ask.ep ≡ num → IsOfRequest r ask

-- at each stage of a request that isn't over
abbrev pub RequestStartsAreRight : Type 0
RequestStartsAreRight = (r : Request) (addr num : ℕ) (h : Host) (pipe : Pipe) → is_over h.stage ≡ false → pipe.pid ≡ token_at r h.stage
    → pipe.kind ≡ Kinds.Control → IsRequestAsk r addr num (classic_of (ask_of (start_split pipe) pipe h.side))
