-- What a split transaction of a bulk or interrupt endpoint comes to for its host, by the reply (EHCI 1.0, 4.12).
use Rattle.std.proofs.Common.{◌≡◌, ℕ, ◌==◌, nat_le, Bool, true, false, if◌then◌else◌, List, length, ap, refl, sym, subst, ◌∙◌}
use Rattle.std.proofs.lemmas.Bool.{false≢true}
use Rattle.usb_base.specs.declared.endpoints.EndCause.TheVariants as Ends
use Rattle.usb_base.specs.declared.packets.DataPart.TheVariants as Parts
use Rattle.usb_base.specs.declared.packets.EpKind.{EpKind}
use Rattle.usb_base.specs.declared.packets.EpKind.TheVariants as Kinds
use Rattle.usb_base.specs.declared.packets.Pid.{Pid}
use Rattle.usb_base.specs.declared.packets.Pid.TheVariants as Packets
use Rattle.usb_base.specs.declared.packets.Reply.{Reply}
use Rattle.usb_base.specs.declared.packets.Reply.TheVariants.{Silent, Bytes, Hand}
use Rattle.usb_base.specs.declared.packets.Speed.{Speed}
use Rattle.usb_base.specs.declared.packets.Speed.TheVariants.{High, Full, Low}
use Rattle.usb_base.specs.declared.packets.Split.TheVariants.{Start, Complete}
use Rattle.qh_qtd.specs.declared.queue_head.Qh.{Qh}
use Rattle.toggle_error.specs.declared.host.HostSide.{HostSide}
use Rattle.toggle_error.specs.declared.host.Outcome.{Outcome}
use Rattle.toggle_error.specs.declared.host.Outcome.TheVariants.{Moved, Error, Halt}
use Rattle.toggle_error.specs.declared.rows.AskToken.{AskToken}
use Rattle.toggle_error.specs.declared.rows.AskToken.TheVariants as tokens
use Rattle.toggle_error.specs.declared.rows.Heard.{Heard}
use Rattle.toggle_error.specs.declared.rows.Heard.TheVariants as Heards
use Rattle.toggle_error.specs.Columns.{limit_of, out_token, fitting, heard_data, heard_of}
use Rattle.toggle_error.specs.PlainRows.{plain_row, is_last_error, error_outcome}
use Rattle.toggle_error.specs.SplitRows.{start_row, start_outcome, after_start, complete_row, complete_outcome, after_complete}
use Rattle.claims_report.specs.Streams.{has_stream}
use Rattle.transactions.specs.declared.pipe.Pipe.{Pipe}
use Rattle.hc_copy.specs.declared.held.Transaction.{Transaction}
use Rattle.hc_copy.specs.Planning.{pid_at, speed_at, queue_pipe, host_in, split_at, transaction_at, transaction_of}
use Rattle.hc_copy.specs.Transacting.{outcome_in, host_after}
use Rattle.hc_copy.specs.WriteBack.{received}
use Rattle.law_structures.specs.lent_structures.Settles.{is_moved}
use Rattle.law_ring.specs.Hand.{Settlement}
use Rattle.law_ring.specs.Effects.{settlement_as}

-- ---- its two transactions

abbrev pub stream_pipe : EpKind → Qh → ℕ → Pipe
stream_pipe kind q code = record {
  addr = q.addr;
  ep = q.ep;
  speed = speed_at q.eps;
  kind = kind;
  pid = pid_at code;
  hub = q.hub;
  port = q.port;
  part = Parts.All;
}

abbrev pub starting : EpKind → Qh → ℕ → Transaction
starting kind q code = transaction_at (Start q.hub q.port Parts.All) (stream_pipe kind q code) (host_in q)

abbrev pub completing : EpKind → Qh → ℕ → Transaction
completing kind q code = transaction_at (Complete q.hub q.port) (stream_pipe kind q code) (host_in q)

pub is_starting : (kind : EpKind) (q : Qh) (code : ℕ) → (q.eps == 2) ≡ false → q.token.split_state ≡ false → q.token.pid ≡ code
    → transaction_of kind q ≡ starting kind q code
is_starting kind q code below starts pid =
    ap (λ (b : Bool). transaction_at (split_at b q.token.split_state (queue_pipe kind q)) (queue_pipe kind q) (host_in q)) below
    ∙ ap (λ (b : Bool). transaction_at (split_at false b (queue_pipe kind q)) (queue_pipe kind q) (host_in q)) starts
    ∙ ap (λ (c : ℕ). starting kind q c) pid

pub is_completing : (kind : EpKind) (q : Qh) (code : ℕ) → (q.eps == 2) ≡ false → q.token.split_state ≡ true → q.token.pid ≡ code
    → transaction_of kind q ≡ completing kind q code
is_completing kind q code below waits pid =
    ap (λ (b : Bool). transaction_at (split_at b q.token.split_state (queue_pipe kind q)) (queue_pipe kind q) (host_in q)) below
    ∙ ap (λ (b : Bool). transaction_at (split_at false b (queue_pipe kind q)) (queue_pipe kind q) (host_in q)) waits
    ∙ ap (λ (c : ℕ). completing kind q c) pid

abbrev pub settled_by : Transaction → Qh → List ℕ → Bool → Reply → Settlement
settled_by t q out last reply = record {
  host = host_after t out last reply;
  outcome = outcome_in t out last reply;
  got = received q (outcome_in t out last reply) reply;
}

pub error_still : (host : HostSide) → is_moved (error_outcome host) ≡ false
error_still host = by (is_last_error host)
  where
    by : (b : Bool) → is_moved (if b then Halt Ends.Error else Error) ≡ false
    by true = refl
    by false = refl

-- ---- a start-split

-- the host waits for a complete-split: an interrupt's in any case, since a periodic start has no handshake
abbrev pub is_taken : EpKind → Heard → Bool
is_taken Kinds.Interrupt _ = true
is_taken _ Heards.Ack = true
is_taken _ _ = false

start_still : (kind : EpKind) (h : Heard) (host : HostSide) → has_stream kind ≡ true
    → is_moved (start_outcome (start_row kind h) host) ≡ false
start_still Kinds.Interrupt h host streams = refl
start_still Kinds.Bulk Heards.Ack host streams = refl
start_still Kinds.Bulk Heards.Nak host streams = refl
start_still Kinds.Bulk _ host streams = error_still host
start_still Kinds.Control h host streams = absurd (false≢true streams)
start_still Kinds.Iso h host streams = absurd (false≢true streams)

start_waits : (kind : EpKind) (h : Heard) (host : HostSide) → has_stream kind ≡ true → host.waiting ≡ false
    → (after_start (start_row kind h) host).waiting ≡ is_taken kind h
start_waits Kinds.Interrupt h host streams off = refl
start_waits Kinds.Bulk Heards.Ack host streams off = refl
start_waits Kinds.Bulk Heards.Nak host streams off = off
start_waits Kinds.Bulk _ host streams off = off
start_waits Kinds.Control h host streams off = absurd (false≢true streams)
start_waits Kinds.Iso h host streams off = absurd (false≢true streams)

-- it moves nothing, and the host waits where the translator took it
pub record StartSettles (kind : EpKind) (q : Qh) (reply : Reply) (z : Settlement) : Type 0 where
  pub still : is_moved z.outcome ≡ false
  pub waits : z.host.waiting ≡ is_taken kind (heard_of (host_in q) reply)

pub start_settles : (kind : EpKind) (last : Bool) (q : Qh) (code : ℕ) (out : List ℕ) (reply : Reply) → has_stream kind ≡ true
    → (q.eps == 2) ≡ false → q.token.split_state ≡ false → q.token.pid ≡ code
    → StartSettles kind q reply (settlement_as kind q out last reply)
start_settles kind last q code out reply streams below starts pid =
    subst (λ (t : Transaction). StartSettles kind q reply (settled_by t q out last reply)) (sym (is_starting kind q code below starts pid))
    (record {
      still = start_still kind (heard_of (host_in q) reply) (host_in q) streams;
      waits = start_waits kind (heard_of (host_in q) reply) (host_in q) streams starts;
    })

-- ---- a complete-split of an OUT

-- with a ping state, or without (4.11)
abbrev out_by : Bool → AskToken
out_by true = tokens.PingedOut
out_by false = tokens.Out

abbrev is_pinged : Speed → EpKind → Bool
is_pinged High Kinds.Bulk = true
is_pinged High Kinds.Control = true
is_pinged _ _ = false

out_is : (s : Speed) (kind : EpKind) → out_token s kind ≡ out_by (is_pinged s kind)
out_is High Kinds.Bulk = refl
out_is High Kinds.Control = refl
out_is High Kinds.Interrupt = refl
out_is High Kinds.Iso = refl
out_is Full kind = refl
out_is Low kind = refl

abbrev is_ack : Heard → Bool
is_ack Heards.Ack = true
is_ack _ = false

abbrev out_row : EpKind → Bool → Bool → Heard → ℕ → HostSide → Outcome
out_row kind last b h sent host = complete_outcome (complete_row kind last h (plain_row (out_by b) h sent)) host

-- what is no acknowledgement moves nothing
out_still : (kind : EpKind) (last b : Bool) (h : Heard) (sent : ℕ) (host : HostSide) → has_stream kind ≡ true → is_ack h ≡ false
    → is_moved (out_row kind last b h sent host) ≡ false
out_still kind last b Heards.Ack sent host streams off = absurd (false≢true (sym off))
out_still Kinds.Interrupt true b Heards.Nyet sent host streams off = error_still host
out_still Kinds.Interrupt false b Heards.Nyet sent host streams off = refl
out_still Kinds.Interrupt true b Heards.Err sent host streams off = error_still host
out_still Kinds.Interrupt false b Heards.Err sent host streams off = error_still host
out_still Kinds.Interrupt true true Heards.Nak sent host streams off = refl
out_still Kinds.Interrupt false true Heards.Nak sent host streams off = refl
out_still Kinds.Interrupt true false Heards.Nak sent host streams off = refl
out_still Kinds.Interrupt false false Heards.Nak sent host streams off = refl
out_still Kinds.Interrupt true true Heards.Stall sent host streams off = refl
out_still Kinds.Interrupt false true Heards.Stall sent host streams off = refl
out_still Kinds.Interrupt true false Heards.Stall sent host streams off = refl
out_still Kinds.Interrupt false false Heards.Stall sent host streams off = refl
out_still Kinds.Interrupt true true _ sent host streams off = error_still host
out_still Kinds.Interrupt false true _ sent host streams off = error_still host
out_still Kinds.Interrupt true false _ sent host streams off = error_still host
out_still Kinds.Interrupt false false _ sent host streams off = error_still host
out_still Kinds.Bulk last b Heards.Nyet sent host streams off = refl
out_still Kinds.Bulk last true Heards.Nak sent host streams off = refl
out_still Kinds.Bulk last false Heards.Nak sent host streams off = refl
out_still Kinds.Bulk last true Heards.Stall sent host streams off = refl
out_still Kinds.Bulk last false Heards.Stall sent host streams off = refl
out_still Kinds.Bulk last true _ sent host streams off = error_still host
out_still Kinds.Bulk last false _ sent host streams off = error_still host
out_still Kinds.Control last b h sent host streams off = absurd (false≢true streams)
out_still Kinds.Iso last b h sent host streams off = absurd (false≢true streams)

-- an acknowledgement moves the packet; what else is heard moves nothing, whether the host waits on or starts again
pub data OutSettles (q : Qh) (z : Settlement) : Reply → Type 0 where
  is_acked : z.outcome ≡ Moved (limit_of (host_in q)) → z.host.waiting ≡ false → OutSettles q z (Hand Packets.Ack)
  moves_none : (r : Reply) → is_moved z.outcome ≡ false → OutSettles q z r

data_no_ack : (b : Bool) (pid : Pid) (expected : Heard) → is_ack expected ≡ false → is_ack (heard_data b pid expected) ≡ false
data_no_ack false Packets.Data0 expected off = off
data_no_ack true Packets.Data1 expected off = off
data_no_ack _ _ expected off = refl

fitting_no_ack : (b : Bool) (n : ℕ) → is_ack (if b then Heards.Fitting n else Heards.TooLong) ≡ false
fitting_no_ack true n = refl
fitting_no_ack false n = refl

module _ (kind : EpKind) (last : Bool) (q : Qh) (out : List ℕ) (streams : has_stream kind ≡ true) where
  abbrev b : Bool
  b = is_pinged (speed_at q.eps) kind

  abbrev z : Reply → Settlement
  z reply = settled_by (completing kind q 0) q out last reply

  token_is : out_token (speed_at q.eps) kind ≡ out_by b
  token_is = out_is (speed_at q.eps) kind

  abbrev outcome_with : AskToken → Heard → Outcome
  outcome_with t h = complete_outcome (complete_row kind last h (plain_row t h (limit_of (host_in q)))) (host_in q)

  abbrev host_with : AskToken → Heard → HostSide
  host_with t h = after_complete (complete_row kind last h (plain_row t h (limit_of (host_in q)))) (host_in q)

  none_moves : (reply : Reply) → is_ack (heard_of (host_in q) reply) ≡ false → OutSettles q (z reply) reply
  none_moves reply off =
      moves_none reply
      (ap (λ (t : AskToken). is_moved (outcome_with t (heard_of (host_in q) reply))) token_is
      ∙ out_still kind last b (heard_of (host_in q) reply) (limit_of (host_in q)) (host_in q) streams off)

  acked : (k : EpKind) (c l : Bool) → has_stream k ≡ true → (sent : ℕ) (host : HostSide)
      → (complete_outcome (complete_row k l Heards.Ack (plain_row (out_by c) Heards.Ack sent)) host ≡ Moved sent)
      × ((after_complete (complete_row k l Heards.Ack (plain_row (out_by c) Heards.Ack sent)) host).waiting ≡ false)
  acked Kinds.Interrupt true true on sent host = (refl, refl)
  acked Kinds.Interrupt true false on sent host = (refl, refl)
  acked Kinds.Interrupt false true on sent host = (refl, refl)
  acked Kinds.Interrupt false false on sent host = (refl, refl)
  acked Kinds.Bulk true l on sent host = (refl, refl)
  acked Kinds.Bulk false l on sent host = (refl, refl)
  acked Kinds.Control c l on sent host = absurd (false≢true on)
  acked Kinds.Iso c l on sent host = absurd (false≢true on)

  by_hand : (pid : Pid) → OutSettles q (z (Hand pid)) (Hand pid)
  by_hand Packets.Ack =
      let k = acked kind b last streams (limit_of (host_in q)) (host_in q) in
      is_acked (ap (λ (t : AskToken). outcome_with t Heards.Ack) token_is ∙ k.0)
      (ap (λ (t : AskToken). (host_with t Heards.Ack).waiting) token_is ∙ k.1)
  by_hand pid = none_moves (Hand pid) refl

  by_reply : (reply : Reply) → OutSettles q (z reply) reply
  by_reply Silent = none_moves Silent refl
  by_reply (Bytes pid bs) =
      none_moves (Bytes pid bs)
      (data_no_ack q.token.toggle pid (fitting (length bs) (limit_of (host_in q)))
      (fitting_no_ack (nat_le (length bs) (limit_of (host_in q))) (length bs)))
  by_reply (Hand pid) = by_hand pid

pub out_settles : (kind : EpKind) (last : Bool) (q : Qh) (out : List ℕ) (reply : Reply) → has_stream kind ≡ true → (q.eps == 2) ≡ false
    → q.token.split_state ≡ true → q.token.pid ≡ 0 → OutSettles q (settlement_as kind q out last reply) reply
out_settles kind last q out reply streams below waits pid =
    subst (λ (t : Transaction). OutSettles q (settled_by t q out last reply) reply) (sym (is_completing kind q 0 below waits pid))
    (by_reply kind last q out streams reply)
