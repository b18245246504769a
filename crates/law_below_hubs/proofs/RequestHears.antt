-- What the host of a request asks below a hub, and hears from the hub, is what it would ask and hear without one.
use Rattle.std.proofs.Common.{◌≡◌, ◌≤◌, ℕ, ◌==◌, ◌&&◌, Bool, true, false, if◌then◌else◌, List, [], length, take}
use Rattle.std.proofs.Common.{drop, refl, sym, ap, subst, ◌∙◌, arith}
use Rattle.std.specs.Prelude.{min}
use Rattle.std.proofs.lemmas.Bool.{false≢true}
use Rattle.std.proofs.lemmas.List.{length-take, length-drop, length-append}
use Rattle.usb_base.specs.declared.packets.Ask.{Ask}
use Rattle.usb_base.specs.declared.packets.DataPart.TheVariants.{All}
use Rattle.usb_base.specs.declared.packets.EpKind.{EpKind}
use Rattle.usb_base.specs.declared.packets.EpKind.TheVariants as Kinds
use Rattle.usb_base.specs.declared.packets.Pid.{Pid}
use Rattle.usb_base.specs.declared.packets.Pid.TheVariants as Pids
use Rattle.usb_base.specs.declared.packets.Reply.{Reply}
use Rattle.usb_base.specs.declared.packets.Reply.TheVariants.{Silent, Bytes, Hand}
use Rattle.usb_base.specs.declared.packets.Speed.{Speed}
use Rattle.usb_base.specs.declared.packets.Speed.TheVariants as Speeds
use Rattle.usb_base.specs.declared.packets.Split.TheVariants.{Plain, Start}
use Rattle.qh_qtd.specs.declared.queue_head.Qh.{Qh}
use Rattle.dev_control.specs.Stages.{is_read}
use Rattle.toggle_error.specs.declared.host.HostSide.{HostSide}
use Rattle.toggle_error.specs.declared.host.Outcome.{Outcome}
use Rattle.toggle_error.specs.declared.host.Outcome.TheVariants.{Moved, Halt}
use Rattle.toggle_error.specs.declared.rows.AskToken.{AskToken}
use Rattle.toggle_error.specs.declared.rows.AskToken.TheVariants as tokens
use Rattle.toggle_error.specs.declared.rows.Heard.{Heard}
use Rattle.toggle_error.specs.declared.rows.PlainRow.{PlainRow}
use Rattle.toggle_error.specs.Columns.{limit_of, out_token, token_at as column_at, heard_of}
use Rattle.toggle_error.specs.PlainRows.{plain_row, plain_outcome, after_plain}
use Rattle.toggle_error.specs.Settle.{outcome_of, settled}
use Rattle.transactions.specs.declared.pipe.Pipe.{Pipe}
use Rattle.transactions.specs.Asks.{token_pid, sends, ask_of}
use Rattle.transactions.specs.Calls.{Call, high_call, complete_sent}
use Rattle.hc_copy.specs.declared.held.Transaction.{Transaction}
use Rattle.hc_copy.specs.Planning.{pid_at, speed_at, host_in, split_at, transaction_at}
use Rattle.async_walk.specs.Naks.{kind_at, planned}
use Rattle.claims_report.specs.Requests.{Request}
use Rattle.law_request.specs.Host.{Endpoint, Host, Stage, Setup, Data, Status, Done, Halted, has_data, is_over, data_token, status_token}
use Rattle.law_request.specs.Host.{token_at, bytes_at, data_bytes, endpoint_pipe, call_at, got_with, settled_by, heard_by}
use Rattle.law_request.specs.Line.{Line as Window}
use Rattle.law_request.specs.Standing.{sight_of, Moves, StandsAt, Stands}
use Rattle.law_request.specs.Windows.{IsRequest}
use Rattle.law_devices.specs.request_calls.Stages.{AreGiven, moved_of}
use Rattle.law_devices.proofs.lemmas.request_calls.Alike.{AreAlike, own_call as own_as, alike as calls_alike}
use Rattle.law_devices.proofs.lemmas.ring_requests.Given.{not_in_code}
use Rattle.law_translated.specs.Windows.{IsAlike}
use Rattle.law_translated.specs.KeyLaws.{start_of}
use Rattle.law_below_hubs.specs.ControlWork.{control_call}
use Rattle.law_below_hubs.specs.HostRequests.{unpinged, IsWorkingBelow}
use Rattle.law_below_hubs.proofs.HostRests.{none_of}
use Rattle.law_below_hubs.proofs.RequestSettles.{IsColumn, ins, outs, pings, setups, below_outcome, below_host, row_host, IsAnswer}

-- ---- the token of a stage

pub data IsToken : Pid → Type 0 where
  in_token : IsToken Pids.In
  sent_token : IsToken Pids.Out
  setup_token : IsToken Pids.Setup

data_is : (b : Bool) → IsToken (data_token b)
data_is true = in_token
data_is false = sent_token

status_is : (b : Bool) → IsToken (status_token b)
status_is true = sent_token
status_is false = in_token

pub stage_token : (r : Request) (stage : Stage) → is_over stage ≡ false → IsToken (token_at r stage)
stage_token r Setup on = setup_token
stage_token r Data on = data_is (is_read r.setup)
stage_token r Status on = status_is (has_data r && is_read r.setup)
stage_token r Done on = absurd (false≢true (sym on))
stage_token r (Halted cause) on = absurd (false≢true (sym on))

out_column : (s : Speed) → IsColumn (out_token s Kinds.Control) tokens.PingedOut
out_column Speeds.High = pings
out_column _ = outs

pub column : (token : Pid) → IsToken token → (s : Speed) → IsColumn (column_at token (out_token s Kinds.Control))
    (column_at token tokens.PingedOut)
column _ in_token s = ins
column _ sent_token s = out_column s
column _ setup_token s = setups

plain_token : (token : Pid) → IsToken token → token_pid Plain token Pids.Out ≡ token
plain_token _ in_token = refl
plain_token _ sent_token = refl
plain_token _ setup_token = refl

-- ---- the bytes of a stage

same_data : (r : Request) (h : Host) (b : Bool) → data_bytes b r (unpinged h) ≡ data_bytes b r h
same_data r h true = refl
same_data r h false = refl

bytes_same : (r : Request) (stage : Stage) (h : Host) → bytes_at r stage (unpinged h) ≡ bytes_at r stage h
bytes_same r Setup h = refl
bytes_same r Data h = same_data r h (is_read r.setup)
bytes_same r Status h = refl
bytes_same r Done h = refl
bytes_same r (Halted cause) h = refl

nothing_sent : (b : Bool) (side : HostSide) → side.left ≡ 0 → 0 ≡ complete_sent (status_token b) side
nothing_sent true side none = let z : 0 ≡ min side.max side.left = omega (arith, none) in z
nothing_sent false side none = refl

data_sized : (e : Endpoint) (r : Request) (l : Window) (b : Bool) → Moves b e r (sight_of l)
    → length (data_bytes b r l.host) ≡ complete_sent (data_token b) l.host.side
data_sized e r l true way = refl
data_sized e r l false way =
    let both = length-append l.host.moved way.later in
    let all = ap length way.whole in
    let left = way.left in
    let dropped = length-drop (length l.host.moved) r.bytes in
    let taken = length-take (limit_of l.host.side) (drop (length l.host.moved) r.bytes) in
    omega (arith, both, all, left, dropped, taken)

stage_sized : (e : Endpoint) (r : Request) (l : Window) (s : Stage) → IsRequest r → 8 ≤ e.max → l.host.side.max ≡ e.max → is_over s ≡ false
    → StandsAt e r s (sight_of l) → length (bytes_at r s l.host) ≡ complete_sent (token_at r s) l.host.side
stage_sized e r l Setup request whole max on stands =
    let long = request.setup in
    let left = stands.left in
    let z : length r.setup ≡ min l.host.side.max l.host.side.left = omega (arith, long, left, whole, max) in z
stage_sized e r l Data request whole max on stands = data_sized e r l (is_read r.setup) stands.way
stage_sized e r l Status request whole max on stands = nothing_sent (has_data r && is_read r.setup) l.host.side stands.left
stage_sized e r l Done request whole max on stands = absurd (false≢true (sym on))
stage_sized e r l (Halted cause) request whole max on stands = absurd (false≢true (sym on))

pub sized : (e : Endpoint) (r : Request) (l : Window) → IsRequest r → 8 ≤ e.max → is_over l.host.stage ≡ false → Stands e r l
    → length (bytes_at r l.host.stage l.host) ≡ complete_sent (token_at r l.host.stage) l.host.side
sized e r l request whole on stands = stage_sized e r l l.host.stage request whole stands.host_max on stands.stage

-- ---- the transaction

abbrev pub low_pipe : Endpoint → Qh → Pid → Pipe
low_pipe e q token = record {
  addr = e.addr;
  ep = e.num;
  speed = speed_at q.eps;
  kind = Kinds.Control;
  pid = token;
  hub = q.hub;
  port = q.port;
  part = All;
}

abbrev pipe_with : ℕ → ℕ → EpKind → Pid → Qh → Pipe
pipe_with addr ep kind token q = record {
  addr = addr;
  ep = ep;
  speed = speed_at q.eps;
  kind = kind;
  pid = token;
  hub = q.hub;
  port = q.port;
  part = All;
}

abbrev planned_with : ℕ → ℕ → Bool → Bool → Bool → Pid → HostSide → Qh → Transaction
planned_with addr ep dtc high waits token side q =
    transaction_at (split_at high waits (pipe_with addr ep (kind_at dtc) token q)) (pipe_with addr ep (kind_at dtc) token q) side

pub planned_by : (e : Endpoint) (r : Request) (q : Qh) (h : Host) (b : Bool) → IsWorkingBelow e r q h → q.token.split_state ≡ b
    → planned q
    ≡ transaction_at (split_at false b (low_pipe e q (token_at r h.stage))) (low_pipe e q (token_at r h.stage)) h.side
planned_by e r q h b at state =
    ap (λ (d : Bool). planned_with q.addr q.ep d (q.eps == 2) q.token.split_state (pid_at q.token.pid) (host_in q) q) at.toggles
    ∙ ap (λ (d : Bool). planned_with q.addr q.ep true d q.token.split_state (pid_at q.token.pid) (host_in q) q) at.below
    ∙ ap (λ (d : Bool). planned_with q.addr q.ep true false d (pid_at q.token.pid) (host_in q) q) state
    ∙ ap (λ (n : ℕ). planned_with n q.ep true false b (pid_at q.token.pid) (host_in q) q) at.address
    ∙ ap (λ (n : ℕ). planned_with e.addr n true false b (pid_at q.token.pid) (host_in q) q) at.number
    ∙ ap (λ (p : Pid). planned_with e.addr e.num true false b p (host_in q) q) at.pid
    ∙ ap (λ (s : HostSide). planned_with e.addr e.num true false b (token_at r h.stage) s q) at.side

-- ---- what is asked

module _ (e : Endpoint) (q : Qh) (side : HostSide) (stuff : ℕ) where
  abbrev start_ask : Pid → Ask
  start_ask token = ask_of (Start q.hub q.port All) (low_pipe e q token) side

  call_is : (token : Pid) (bytes : List ℕ) → IsToken token → (token ≡ Pids.In → bytes ≡ [])
      → control_call (start_of (start_ask token) (sends (Start q.hub q.port All) token bytes) stuff)
      ≡ high_call (endpoint_pipe e token) (record side { ping = false }) bytes
  call_is _ bytes in_token none = ap (λ (bs : List ℕ). high_call (endpoint_pipe e Pids.In) (record side { ping = false }) bs)
      (sym (none refl))
  call_is _ bytes sent_token none = refl
  call_is _ bytes setup_token none = refl

module _ (e : Endpoint) (r : Request) (q : Qh) (source out : List ℕ) (l : Window) (request : IsRequest r) (whole : 8 ≤ e.max)
    (at : IsWorkingBelow e r q l.host) (given : AreGiven r q l.host source out) (stands : Stands e r l) where
  abbrev token : Pid
  token = token_at r l.host.stage

  abbrev h : Host
  h = l.host

  is_token : IsToken (token_at r l.host.stage)
  is_token = stage_token r l.host.stage at.goes_on

  abbrev bytes : List ℕ
  bytes = bytes_at r l.host.stage l.host

  size : length (bytes_at r l.host.stage l.host) ≡ complete_sent (token_at r l.host.stage) l.host.side
  size = sized e r l request whole at.goes_on stands

  none_in : token_at r l.host.stage ≡ Pids.In → bytes_at r l.host.stage l.host ≡ []
  none_in is = none_of bytes (size ∙ ap (λ (p : Pid). complete_sent p h.side) is)

  abbrev source_out : List ℕ
  source_out = take (limit_of l.host.side) source

  -- a start-split takes those of the stage along
  sent_by : (p : Pid) → IsToken p → token_at r l.host.stage ≡ p → q.token.split_state ≡ false
      → sends (Start q.hub q.port All) p out ≡ sends (Start q.hub q.port All) p bytes
  sent_by _ in_token is starts = refl
  sent_by _ sent_token is starts =
      given.are ∙ ap (λ (t : Transaction). take t.bytes source) (planned_by e r q h false at starts)
      ∙ ap (λ (p : Pid). take (transaction_at (Start q.hub q.port All) (low_pipe e q p) h.side).bytes source) is
      ∙ sym (given.stage ∙ ap (λ (b : Bool). if b then [] else source_out) (not_in_code q.token.pid Pids.Out (at.pid ∙ is) (λ e. cc)))
  sent_by _ setup_token is starts =
      given.are ∙ ap (λ (t : Transaction). take t.bytes source) (planned_by e r q h false at starts)
      ∙ ap (λ (p : Pid). take (transaction_at (Start q.hub q.port All) (low_pipe e q p) h.side).bytes source) is
      ∙ sym (given.stage ∙ ap (λ (b : Bool). if b then [] else source_out) (not_in_code q.token.pid Pids.Setup (at.pid ∙ is) (λ e. cc)))

  pub start_is : (stuff : ℕ) → q.token.split_state ≡ false
      → control_call (start_of (ask_of (Start q.hub q.port All) (low_pipe e q (token_at r l.host.stage)) l.host.side)
      (sends (Start q.hub q.port All) (token_at r l.host.stage) out) stuff) ≡ call_at e r (unpinged l.host)
  start_is stuff starts =
      ap (λ (bs : List ℕ). control_call (start_of (ask_of (Start q.hub q.port All) (low_pipe e q token) h.side) bs stuff))
      (sent_by token is_token refl starts)
      ∙ call_is e q h.side stuff token bytes is_token none_in
      ∙ ap (λ (bs : List ℕ). high_call (endpoint_pipe e token) (record h.side { ping = false }) bs) (sym (bytes_same r h.stage h))

  -- ---- what is heard

  got_same : (o : Outcome) (side : HostSide) (got moved : List ℕ) (g : Host) → ((n : ℕ) → o ≡ Moved n → got ≡ moved)
      → settled_by r o side got g ≡ settled_by r o side moved g
  got_same (Moved n) side got moved g same = ap (λ (bs : List ℕ). settled_by r (Moved n) side bs g) (same n refl)
  got_same (Halt cause) side got moved g same = refl
  got_same _ side got moved g same = refl

  module _ (reply : Reply) where
    abbrev plain_side : HostSide
    plain_side = record l.host.side { ping = false }

    abbrev own_call : Call
    own_call = high_call (endpoint_pipe e (pid_at q.token.pid)) (record l.host.side { ping = false })
        (if q.token.pid == 1 then [] else take (limit_of l.host.side) source)

    own_is : own_call ≡ call_at e r (unpinged l.host)
    own_is =
        ap (λ (bs : List ℕ). high_call (endpoint_pipe e (pid_at q.token.pid)) plain_side bs) (sym (bytes_same r h.stage h ∙ given.stage))
        ∙ ap (λ (p : Pid). high_call (endpoint_pipe e p) plain_side (bytes_at r h.stage (unpinged h))) at.pid

    same : AreAlike reply (record l.host.side { ping = false }) (q.token.pid == 1) (pid_at q.token.pid) source
        (own_as e q.hub q.port (pid_at q.token.pid) (record l.host.side { ping = false }) source) own_call
    same = calls_alike e q.hub q.port reply source q.token.pid plain_side

    -- the host that a plain row leaves
    abbrev row_of : Pid → Heard → ℕ → PlainRow
    row_of p heard n = plain_row (column_at p tokens.PingedOut) heard n

    abbrev left_by : Pid → Heard → ℕ → Host
    left_by p heard n =
        settled_by r (plain_outcome (row_of p heard n) plain_side) (after_plain (row_of p heard n) plain_side)
        (moved_of q (plain_outcome (row_of p heard n) plain_side) reply source) (unpinged l.host)

    heard_same : heard_of (record l.host.side { ping = false }) reply ≡ heard_of l.host.side reply
    heard_same = by reply
      where
        by : (x : Reply) → heard_of (record l.host.side { ping = false }) x ≡ heard_of l.host.side x
        by Silent = refl
        by (Bytes pid bs) = refl
        by (Hand pid) = refl

    own_sent : length (if q.token.pid == 1 then [] else take (limit_of l.host.side) source) ≡ complete_sent
        (token_at r l.host.stage) l.host.side
    own_sent = ap length (sym given.stage) ∙ size

    pub heard_is : (a : IsAnswer r (column_at (token_at r l.host.stage) (out_token (speed_at q.eps) Kinds.Control))
        (column_at (token_at r l.host.stage) tokens.PingedOut) (complete_sent (token_at r l.host.stage) l.host.side)
        (heard_of l.host.side reply) l.host)
        → IsAlike (heard_by r (call_at e r (unpinged l.host)) reply (unpinged l.host))
        (unpinged (below_host r (column_at (token_at r l.host.stage) (out_token (speed_at q.eps) Kinds.Control))
        (heard_of l.host.side reply)
        (complete_sent (token_at r l.host.stage) l.host.side)
        (moved_of q (below_outcome (column_at (token_at r l.host.stage) (out_token (speed_at q.eps) Kinds.Control))
        (heard_of l.host.side reply) (complete_sent (token_at r l.host.stage) l.host.side) l.host.side) reply source) l.host))
    heard_is a =
        let low : AskToken = column_at token (out_token (speed_at q.eps) Kinds.Control) in
        let n : ℕ = complete_sent token h.side in
        let o : Outcome = below_outcome low (heard_of h.side reply) n h.side in
        let is : heard_by r (call_at e r (unpinged h)) reply (unpinged h)
        ≡ row_host r (plain_row (column_at token tokens.PingedOut) (heard_of h.side reply) n) (moved_of q o reply source) (unpinged h) =
        ap (λ (c : Call). heard_by r c reply (unpinged h)) (sym own_is)
        ∙ got_same (outcome_of own_call.ask own_call.sent false reply plain_side)
        (settled own_call.ask own_call.sent false reply plain_side)
        (got_with reply own_call.out) (moved_of q (outcome_of own_call.ask own_call.sent false reply plain_side) reply source) (unpinged h)
        same.bytes
        ∙ ap (λ (p : Pid). left_by (token_pid Plain p Pids.Out) (heard_of plain_side reply) own_call.sent) at.pid
        ∙ ap (λ (p : Pid). left_by p (heard_of plain_side reply) own_call.sent) (plain_token token is_token)
        ∙ ap (λ (x : Heard). left_by token x own_call.sent) heard_same
        ∙ ap (left_by token (heard_of h.side reply)) own_sent
        ∙ ap (λ (x : Outcome). row_host r (row_of token (heard_of h.side reply) n) (moved_of q x reply source) (unpinged h)) a.outcome in
        subst (λ (x : Host). IsAlike x (unpinged (below_host r low (heard_of h.side reply) n (moved_of q o reply source) h))) (sym is)
        (a.alike_is (moved_of q o reply source))
