-- What an outcome says of the host's side: whether it goes on, and what was moved.
use Rattle.std.proofs.Common.{◌≡◌, ℕ, ◌-◌, ◌==◌, Bool, true, false, not, ◌&&◌, ◌||◌, if◌then◌else◌, List, [], take, refl, sym, subst, ap}
use Rattle.std.proofs.lemmas.Bool.{false≢true}
use Rattle.law_ring.proofs.Common.{by_none}
use Rattle.usb_base.specs.declared.endpoints.EndCause.TheVariants as Causes
use Rattle.usb_base.specs.declared.packets.Pid.{Pid}
use Rattle.usb_base.specs.declared.packets.Pid.TheVariants as Packets
use Rattle.usb_base.specs.declared.packets.Reply.{Reply}
use Rattle.usb_base.specs.declared.packets.Split.TheVariants as Splits
use Rattle.qh_qtd.specs.declared.queue_head.Qh.{Qh}
use Rattle.toggle_error.specs.declared.host.HostSide.{HostSide}
use Rattle.toggle_error.specs.declared.host.Outcome.{Outcome}
use Rattle.toggle_error.specs.declared.host.Outcome.TheVariants.{Moved, Error, Halt}
use Rattle.toggle_error.specs.declared.rows.PlainRow.{PlainRow}
use Rattle.toggle_error.specs.declared.rows.PlainRow.TheVariants.{Received, Babbled, Sent, SentLast, Stalled, Failed, FailedPinged}
use Rattle.toggle_error.specs.Columns.{token_of, heard_of}
use Rattle.toggle_error.specs.PlainRows.{plain_row, is_last_error, plain_outcome, after_plain}
use Rattle.transactions.specs.Calls.{Call, got_of}
use Rattle.hc_copy.specs.declared.held.Transaction.{Transaction}
use Rattle.hc_copy.specs.Planning.{pid_at, transaction_at, host_in}
use Rattle.hc_copy.specs.Transacting.{call_in, host_after, outcome_in}
use Rattle.hc_copy.specs.WriteBack.{moved_by}
use Rattle.async_walk.specs.Naks.{planned}
use Rattle.law_structures.specs.lent_structures.Settles.{is_moved}
use Rattle.law_request.specs.Host.{Endpoint}
use Rattle.law_devices.specs.request_calls.Stages.{IsEndpoint, moved_of}
use Rattle.law_devices.proofs.lemmas.request_calls.Alike.{own_pipe}
use Rattle.law_devices.proofs.lemmas.request_calls.Making.{planned_is}

-- a transfer that halts isn't active any more, and one that moved nothing goes on
abbrev pub LeavesActive : Outcome → HostSide → HostSide → Type 0
LeavesActive (Moved n) host after = Unit {0}
LeavesActive (Halt cause) host after = (after.active ≡ false) × (after.halted ≡ true)
LeavesActive _ host after = after.active ≡ host.active

error_leaves : (host : HostSide) (ping b : Bool) → LeavesActive (if b then Halt Causes.Error else Error) host (record host { xact_err = true; cerr = host.cerr - 1; halted = b || host.halted; active = not b && host.active; ping = ping })
error_leaves host ping true = (refl, refl)
error_leaves host ping false = refl

plain_leaves : (row : PlainRow) (host : HostSide) → LeavesActive (plain_outcome row host) host (after_plain row host)
plain_leaves (Received n) host = tt
plain_leaves Babbled host = (refl, refl)
plain_leaves (Sent n) host = tt
plain_leaves (SentLast n) host = tt
plain_leaves Stalled host = (refl, refl)
plain_leaves Failed host = error_leaves host host.ping (is_last_error host)
plain_leaves FailedPinged host = error_leaves host true (is_last_error host)
plain_leaves _ host = refl

pub call_leaves : (e : Endpoint) (q : Qh) (out : List ℕ) (reply : Reply) → IsEndpoint e q → q.eps ≡ 2 → LeavesActive (outcome_in (planned q) out false reply) (host_in q) (host_after (planned q) out false reply)
call_leaves e q out reply is high =
    let t : Transaction = transaction_at Splits.Plain (own_pipe e q.hub q.port (pid_at q.token.pid)) (host_in q) in
    let c : Call = call_in t out false in
    subst (λ (t : Transaction). LeavesActive (outcome_in t out false reply) (host_in q) (host_after t out false reply)) (sym (planned_is e q is high))
    (plain_leaves (plain_row (token_of c.ask) (heard_of (host_in q) reply) c.sent) (host_in q))

-- ---- where nothing was moved

got_none : (pid : Pid) (o : Outcome) (reply : Reply) → is_moved o ≡ false → got_of pid o reply ≡ []
got_none Packets.In (Moved n) reply off = absurd (false≢true (sym off))
got_none Packets.In _ reply off = refl
got_none _ o reply off = refl

pub moved_none : (q : Qh) (o : Outcome) (reply : Reply) (source : List ℕ) → is_moved o ≡ false → moved_of q o reply source ≡ []
moved_none q o reply source off = by (q.token.pid == 1)
  where
    by : (b : Bool) → (if b then got_of (pid_at q.token.pid) o reply else take (moved_by o) source) ≡ []
    by true = got_none (pid_at q.token.pid) o reply off
    by false = ap (λ (n : ℕ). take n source) (by_none o off)
