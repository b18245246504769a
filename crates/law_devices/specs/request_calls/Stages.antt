-- A queue head that works on a stage of a request, and one transaction of it (EHCI 1.0, 3.6 and 4.10; USB 2.0, 8.5.3).
--     IsEndpoint e q             the queue head is that of a control endpoint of any speed, whose qTDs bring their toggles (3.6.2, DTC)
--     WorksOn e r q h            it is of high speed, and its overlay works on the qTD of the host's stage
--     AreGiven ..                these bytes go out with it: those of the stage, as many as the transaction carries
--     moved_of code ..           the bytes that a transaction moved: received with an IN, else sent and acknowledged
--     IsTransaction ..           it is one transaction of the request
use Rattle.std.specs.Prelude.{◌≡◌, ℕ, ◌==◌, true, false, List, [], take, Option, Some, if◌then◌else◌}
use Rattle.usb_base.specs.declared.packets.Reply.{Reply}
use Rattle.qh_qtd.specs.declared.queue_head.Qh.{Qh}
use Rattle.toggle_error.specs.declared.host.Outcome.{Outcome}
use Rattle.toggle_error.specs.Columns.{limit_of}
use Rattle.hc_copy.specs.Planning.{pid_at, host_in}
use Rattle.hc_copy.specs.Transacting.{host_after, outcome_in}
use Rattle.hc_copy.specs.WriteBack.{moved_by, received}
use Rattle.async_walk.specs.Naks.{planned}
use Rattle.bus_wire.specs.declared.asked.Losses.{Losses}
use Rattle.claims_report.specs.Requests.{Request}
use Rattle.law_request.specs.Host.{Endpoint, Host, token_at, bytes_at, settled_by}
use Rattle.law_request.specs.Line.{Line, transacted}
use Rattle.claims_report.specs.ControlSides.{Device}
use Rattle.law_devices.specs.request_calls.Bus.{device_of}

pub record IsEndpoint (e : Endpoint) (q : Qh) : Type 0 where
  pub toggles : q.dtc ≡ true
  pub address : q.addr ≡ e.addr
  pub number : q.ep ≡ e.num
  pub packets : q.max ≡ e.max

pub record WorksOn (e : Endpoint) (r : Request) (q : Qh) (h : Host) : Type 0 where
  pub endpoint : IsEndpoint e q
  pub high : q.eps ≡ 2
  pub pid : pid_at q.token.pid ≡ token_at r h.stage
  pub side : host_in q ≡ h.side

-- `source` are the bytes of the qTD's buffer from the overlay's place on
pub record AreGiven (r : Request) (q : Qh) (h : Host) (source out : List ℕ) : Type 0 where
  pub are : out ≡ take (planned q).bytes source
  pub stage : bytes_at r h.stage h ≡ (if q.token.pid == 1 then [] else take (limit_of h.side) source)

abbrev pub moved_of : Qh → Outcome → Reply → List ℕ → List ℕ
moved_of q outcome reply source = if q.token.pid == 1 then received q outcome reply else take (moved_by outcome) source

pub record IsTransaction (e : Endpoint) (r : Request) (q : Qh) (source out : List ℕ) (reply : Reply) (l : Line) (o : Option Device) : Type 0 where
  pub losses : Losses
  pub host : (transacted e r losses l).host
      ≡ settled_by r (outcome_in (planned q) out false reply) (host_after (planned q) out false reply) (moved_of q (outcome_in (planned q) out false reply) reply source) l.host
  pub device : o ≡ Some (device_of e (transacted e r losses l).device)
