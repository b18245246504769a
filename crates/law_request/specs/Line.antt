-- A control endpoint with its host and its device, over a bus that loses packets (USB 2.0, 8.5.3 and 8.6).
--     Line                       the host, the device, and the acts of the request's window
--     transacted e r losses l    one transaction: who heard what, what the device does, how the host settles what it heard
use Rattle.std.specs.Prelude.{ℕ, Bool, List, [], ◌++◌, Option, Some, None, if◌then◌else◌}
use Rattle.usb_base.specs.declared.packets.Ask.{Ask}
use Rattle.usb_base.specs.declared.packets.Reply.{Reply}
use Rattle.dev_control.specs.declared.control.Request.{Request as UnderWay}
use Rattle.dev_control.specs.Stages.{Stages, stages_reply, stages_after, stages_acked}
use Rattle.law_device.specs.Acts.{Asks, acts_at}
use Rattle.transactions.specs.Calls.{Call}
use Rattle.bus_wire.specs.declared.asked.Losses.{Losses}
use Rattle.bus_wire.specs.declared.who_heard.WhoHeard.{WhoHeard}
use Rattle.bus_wire.specs.declared.who_heard.WhoHeard.TheVariants.{SentUnheard, AckHeard}
use Rattle.bus_wire.specs.Asking.{row_for}
use Rattle.bus_wire.specs.WhoHeard.{asker_hears}
use Rattle.claims_report.specs.Requests.{Request}
use Rattle.law_request.specs.Host.{Endpoint, Host, is_over, host_at, call_at, heard_by}

pub record Line : Type 0 where
  pub host : Host
  pub device : Stages
  pub acts : List (List ℕ)  -- the setup bytes on which the device acted since the request's first transaction, the newest first

-- a request before its first transaction, whatever the device was left as
abbrev pub line_at : Endpoint → Request → Bool → Stages → Line
line_at e r ping c = record { host = host_at r e.max ping; device = c; acts = [] }

-- ---- the device

-- its reply to the request under way
abbrev pub reply_under : (List ℕ → Option (List ℕ)) → Option UnderWay → Option (List ℕ)
reply_under known None = None
reply_under known (Some u) = known u.setup

abbrev pub answer_of : Endpoint → Ask → List ℕ → Stages → Reply
answer_of e ask out c = stages_reply (reply_under e.known c.request) c ask out

abbrev pub answered : Endpoint → Ask → List ℕ → Stages → Stages
answered e ask out c = stages_after (reply_under e.known c.request) c ask out

abbrev pub acked : Endpoint → Stages → Stages
acked e c = stages_acked (reply_under e.known c.request) c

abbrev pub device_after : Endpoint → WhoHeard → Ask → List ℕ → Stages → Stages
device_after e SentUnheard ask out c = c
device_after e AckHeard ask out c = acked e (answered e ask out c)
device_after e _ ask out c = answered e ask out c

-- what it acts on, where it hears the ask
abbrev pub acts_by : Endpoint → WhoHeard → Ask → List ℕ → Stages → List (List ℕ)
acts_by e SentUnheard ask out c = []
acts_by e _ ask out c = acts_at c (Asks (reply_under e.known c.request) ask out)

-- ---- a transaction

abbrev pub row_at : Endpoint → Losses → Call → Stages → WhoHeard
row_at e losses call c = row_for losses call.ask (answer_of e call.ask call.out c)

abbrev pub made : Endpoint → Request → Losses → Call → Line → Line
made e r losses call l =
    let row : WhoHeard = row_at e losses call l.device in
    record {
      host = heard_by r call (asker_hears row (answer_of e call.ask call.out l.device)) l.host;
      device = device_after e row call.ask call.out l.device;
      acts = acts_by e row call.ask call.out l.device ++ l.acts;
    }

-- a host whose request is over asks nothing more
abbrev pub transacted : Endpoint → Request → Losses → Line → Line
transacted e r losses l = if is_over l.host.stage then l else made e r losses (call_at e r l.host) l
