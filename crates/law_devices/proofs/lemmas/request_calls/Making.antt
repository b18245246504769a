-- A transaction of a queue head that works on a stage of a request is one transaction of the request.
use Rattle.std.proofs.Common.{◌≡◌, ◌≢◌, ℕ, ◌==◌, Bool, true, false, if◌then◌else◌, List, [], take, Option, Some, ap, refl, sym, subst, ◌∙◌}
use Rattle.usb_base.specs.declared.packets.Ask.{Ask}
use Rattle.usb_base.specs.declared.packets.EpKind.{EpKind}
use Rattle.usb_base.specs.declared.packets.DataPart.TheVariants.{All}
use Rattle.usb_base.specs.declared.packets.EpKind.TheVariants.{Control}
use Rattle.usb_base.specs.declared.packets.Pid.{Pid}
use Rattle.usb_base.specs.declared.packets.Pid.TheVariants as Packets
use Rattle.usb_base.specs.declared.packets.Reply.{Reply}
use Rattle.usb_base.specs.declared.packets.Split.TheVariants as Splits
use Rattle.qh_qtd.specs.declared.queue_head.Qh.{Qh}
use Rattle.toggle_error.specs.declared.host.HostSide.{HostSide}
use Rattle.toggle_error.specs.declared.host.Outcome.{Outcome}
use Rattle.toggle_error.specs.declared.host.Outcome.TheVariants as outcomes
use Rattle.toggle_error.specs.Columns.{limit_of}
use Rattle.toggle_error.specs.Settle.{outcome_of, settled}
use Rattle.transactions.specs.declared.pipe.Pipe.{Pipe}
use Rattle.transactions.specs.Asks.{pinged, token_pid}
use Rattle.dev_control.specs.declared.rows.StageToken.TheVariants as Tokens
use Rattle.dev_control.specs.Stages.{token_of}
use Rattle.transactions.specs.Calls.{Call, high_call}
use Rattle.hc_copy.specs.declared.held.Transaction.{Transaction}
use Rattle.hc_copy.specs.Planning.{pid_at, speed_at, split_at, transaction_at, host_in}
use Rattle.hc_copy.specs.Transacting.{call_in, host_after, outcome_in}
use Rattle.async_walk.specs.Naks.{kind_at, planned}
use Rattle.bus_wire.specs.declared.asked.Losses.{Losses}
use Rattle.claims_report.specs.Requests.{Request}
use Rattle.law_request.specs.Host.{Endpoint, Host, is_over, bytes_at, endpoint_pipe, call_at, got_with, settled_by, heard_by}
use Rattle.law_request.specs.Line.{Line, made, transacted}
use Rattle.claims_report.specs.ControlSides.{Device}
use Rattle.law_devices.specs.request_calls.Bus.{device_of, IsAnswered, IsAskFor, IsControlBus}
use Rattle.law_devices.specs.request_calls.Stages.{IsEndpoint, WorksOn, AreGiven, moved_of, IsTransaction}
use Rattle.law_devices.proofs.lemmas.request_calls.Alike.{own_pipe, own_call, moved_with, AreAlike, alike}

-- ---- what is planned

abbrev pipe_with : ℕ → ℕ → ℕ → EpKind → Qh → Pipe
pipe_with addr ep eps kind q = record { addr = addr; ep = ep; speed = speed_at eps; kind = kind; pid = pid_at q.token.pid; hub = q.hub; port = q.port; part = All }

abbrev planned_with : ℕ → ℕ → ℕ → Bool → Qh → Transaction
planned_with addr ep eps dtc q = transaction_at (split_at (eps == 2) q.token.split_state (pipe_with addr ep eps (kind_at dtc) q)) (pipe_with addr ep eps (kind_at dtc) q) (host_in q)

pub planned_is : (e : Endpoint) (q : Qh) → IsEndpoint e q → q.eps ≡ 2 → planned q ≡ transaction_at Splits.Plain (own_pipe e q.hub q.port (pid_at q.token.pid)) (host_in q)
planned_is e q is high =
    ap (λ (d : Bool). planned_with q.addr q.ep q.eps d q) is.toggles ∙ ap (λ (n : ℕ). planned_with q.addr q.ep n true q) high
    ∙ ap (λ (n : ℕ). planned_with n q.ep 2 true q) is.address ∙ ap (λ (n : ℕ). planned_with e.addr n 2 true q) is.number

-- it is asked by a token
token_by : (out in_token ping : Bool) → token_of (token_pid Splits.Plain (if out then Packets.Out else if in_token then Packets.In else Packets.Setup) (pinged Control ping)) ≢ Tokens.Other
token_by true in_token true e = cc
token_by true in_token false e = cc
token_by false true ping e = cc
token_by false false ping e = cc

-- ---- how it is settled

settled_alike : (r : Request) (o p : Outcome) (x y : HostSide) (got moved : List ℕ) (h : Host) → o ≡ p → x ≡ y → ((n : ℕ) → p ≡ outcomes.Moved n → got ≡ moved) → settled_by r p y got h ≡ settled_by r o x moved h
settled_alike r o p x y got moved h same sides bytes =
    with_moved p y refl ∙ sym (ap (λ (q : Outcome). settled_by r q x moved h) same ∙ ap (λ (z : HostSide). settled_by r p z moved h) sides)
  where
    with_moved : (q : Outcome) (z : HostSide) → p ≡ q → settled_by r q z got h ≡ settled_by r q z moved h
    with_moved (outcomes.Moved n) z is = ap (λ (bs : List ℕ). settled_by r (outcomes.Moved n) z bs h) (bytes n is)
    with_moved (outcomes.Halt cause) z is = refl
    with_moved _ z is = refl

module _ {W : Type 0} (transacts : W → Ask → List ℕ → Reply → W → Type 0) (device : W → ℕ → ℕ → Option Device) (bus : IsControlBus transacts device) (e : Endpoint) (r : Request) (q : Qh) (l : Line) (works : WorksOn e r q l.host) (source out : List ℕ) (given : AreGiven r q l.host source out) (goes_on : is_over l.host.stage ≡ false) where
  abbrev own : HostSide → Call
  own host = own_call e q.hub q.port (pid_at q.token.pid) host source

  abbrev stage_call : HostSide → Call
  stage_call host = high_call (endpoint_pipe e (pid_at q.token.pid)) host (if q.token.pid == 1 then [] else take (limit_of host) source)

  own_is : call_in (planned q) out false ≡ own (host_in q)
  own_is =
      ap (λ (bs : List ℕ). call_in (planned q) bs false) given.are
      ∙ ap (λ (t : Transaction). call_in t (take t.bytes source) false) (planned_is e q works.endpoint works.high)

  stage_is : stage_call (host_in q) ≡ call_at e r l.host
  stage_is =
      ap stage_call works.side
      ∙ ap (λ (bs : List ℕ). high_call (endpoint_pipe e (pid_at q.token.pid)) l.host.side bs) (sym given.stage)
      ∙ ap (λ (p : Pid). high_call (endpoint_pipe e p) l.host.side (bytes_at r l.host.stage l.host)) works.pid

  asked_for : IsAskFor e.addr e.num (call_in (planned q) out false).ask
  asked_for = subst (λ (c : Call). IsAskFor e.addr e.num c.ask) (sym own_is) (record { plain = refl; token = token_by (q.token.pid == 0) (q.token.pid == 1) q.token.ping; address = refl; number = refl })

  module _ (wire after : W) (reply : Reply) (here : device wire e.addr e.num ≡ Some (device_of e l.device)) (done : transacts wire (call_in (planned q) out false).ask (call_in (planned q) out false).out reply after) where
    same : AreAlike reply (host_in q) (q.token.pid == 1) (pid_at q.token.pid) source (own (host_in q)) (stage_call (host_in q))
    same = alike e q.hub q.port reply source q.token.pid (host_in q)

    answer : IsAnswered e (call_at e r l.host).ask (call_at e r l.host).out l.device reply (device after e.addr e.num)
    answer =
        subst (λ (c : Call). IsAnswered e c.ask c.out l.device reply (device after e.addr e.num)) stage_is
        (subst (λ (bs : List ℕ). IsAnswered e (stage_call (host_in q)).ask bs l.device reply (device after e.addr e.num)) same.out
        (subst (λ (a : Ask). IsAnswered e a (own (host_in q)).out l.device reply (device after e.addr e.num)) same.ask
        (subst (λ (c : Call). IsAnswered e c.ask c.out l.device reply (device after e.addr e.num)) own_is
        (bus.asked wire (call_in (planned q) out false).ask (call_in (planned q) out false).out reply after e l.device done asked_for here))))

    -- the host that the request's row leaves
    own_host : Call → HostSide → Host
    own_host call host = settled_by r (outcome_of call.ask call.sent false reply host) (settled call.ask call.sent false reply host) (got_with reply call.out) l.host

    host_is : heard_by r (call_at e r l.host) reply l.host ≡ settled_by r (outcome_in (planned q) out false reply) (host_after (planned q) out false reply) (moved_of q (outcome_in (planned q) out false reply) reply source) l.host
    unfolding own_host
    host_is =
        sym (ap (λ (c : Call). own_host c l.host.side) stage_is) ∙ sym (ap (λ (h : HostSide). own_host (stage_call (host_in q)) h) works.side)
        ∙ settled_alike r (outcome_of (own (host_in q)).ask (own (host_in q)).sent false reply (host_in q)) (outcome_of (stage_call (host_in q)).ask (stage_call (host_in q)).sent false reply (host_in q))
        (settled (own (host_in q)).ask (own (host_in q)).sent false reply (host_in q)) (settled (stage_call (host_in q)).ask (stage_call (host_in q)).sent false reply (host_in q))
        (got_with reply (stage_call (host_in q)).out) (moved_with (q.token.pid == 1) (pid_at q.token.pid) (outcome_of (own (host_in q)).ask (own (host_in q)).sent false reply (host_in q)) reply source) l.host
        same.outcome same.settles (λ n is. same.bytes n is ∙ sym (ap (λ (o : Outcome). moved_with (q.token.pid == 1) (pid_at q.token.pid) o reply source) same.outcome))
        ∙ sym (ap (λ (c : Call). settled_by r (outcome_of c.ask c.sent false reply (host_in q)) (settled c.ask c.sent false reply (host_in q)) (moved_of q (outcome_of c.ask c.sent false reply (host_in q)) reply source) l.host) own_is)

    pub makes_one : IsTransaction e r q source out reply l (device after e.addr e.num)
    makes_one =
        let losses : Losses = answer.losses in
        let step : transacted e r losses l ≡ made e r losses (call_at e r l.host) l = ap (λ (b : Bool). if b then l else made e r losses (call_at e r l.host) l) goes_on in
        record {
          losses = losses;
          host = ap (λ (x : Line). x.host) step ∙ sym (ap (λ (y : Reply). heard_by r (call_at e r l.host) y l.host) answer.heard) ∙ host_is;
          device = answer.left ∙ ap (λ (x : Line). Some (device_of e x.device)) (sym step);
        }
