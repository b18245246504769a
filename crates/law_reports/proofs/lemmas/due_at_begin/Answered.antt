-- What a translator has for an interrupt endpoint stays there while other endpoints are asked, and the host hears it in the next
-- complete-split (EHCI 1.0, 4.10.3 and 4.12.2.4.2; USB 2.0, 8.6, 11.14 and 11.18 to 11.20).
use Rattle.std.proofs.Common.{◌≡◌, ◌≢◌, ℕ, ◌-◌, ◌≤◌, ◌<◌, Bool, true, false, if◌then◌else◌, List, [], length, slice_get, Option}
use Rattle.std.proofs.Common.{Some, None, ap, refl, sym, subst, ◌∙◌, arith}
use Rattle.std.specs.Prelude.{◌==◌, ◌||◌, not, unwrap_or}
use Rattle.std.specs.Option.{option_and_then, option_map_or}
use Rattle.std.proofs.lemmas.Bool.{le-leb}
use Rattle.std.proofs.lemmas.Option.{same_Some}
use Rattle.usb_base.specs.declared.endpoints.EpDesc.{EpDesc}
use Rattle.usb_base.specs.declared.endpoints.EpName.{EpName}
use Rattle.usb_base.specs.declared.packets.Ask.{Ask}
use Rattle.usb_base.specs.declared.packets.Dir.{Dir}
use Rattle.usb_base.specs.declared.packets.EpKind.{EpKind}
use Rattle.usb_base.specs.declared.packets.EpKind.TheVariants.{Interrupt}
use Rattle.usb_base.specs.declared.packets.Pid.{Pid}
use Rattle.usb_base.specs.declared.packets.Pid.TheVariants as pids
use Rattle.usb_base.specs.declared.packets.Reply.{Reply}
use Rattle.usb_base.specs.declared.packets.Reply.TheVariants as replies
use Rattle.usb_base.specs.declared.packets.Speed.{Speed}
use Rattle.usb_base.specs.declared.packets.Speed.TheVariants as speeds
use Rattle.usb_base.specs.declared.packets.Split.TheVariants.{Complete}
use Rattle.usb_base.specs.declared.packets.Way.{Way}
use Rattle.usb_base.specs.declared.packets.Way.TheVariants as ways
use Rattle.hub_keys.specs.Keys.{key_of, is_same_key, direction_of}
use Rattle.hub_keys.specs.declared.key.Key.{Key}
use Rattle.multi_tt.specs.Translators.{Translator, place_of, translator_at}
use Rattle.hub_class.specs.HubContent.{HubContent}
use Rattle.qh_qtd.specs.declared.queue_head.Qh.{Qh}
use Rattle.qh_qtd.specs.declared.token.Token.{Token}
use Rattle.toggle_error.specs.declared.host.HostSide.{HostSide}
use Rattle.toggle_error.specs.declared.host.Outcome.TheVariants.{Moved}
use Rattle.toggle_error.specs.declared.rows.AskToken.{AskToken}
use Rattle.toggle_error.specs.declared.rows.AskToken.TheVariants as tokens_of
use Rattle.toggle_error.specs.declared.rows.CompleteRow.TheVariants.{Answered}
use Rattle.toggle_error.specs.declared.rows.Heard.{Heard}
use Rattle.toggle_error.specs.declared.rows.Heard.TheVariants.{Fitting, TooLong, Ack}
use Rattle.toggle_error.specs.declared.rows.PlainRow.{PlainRow}
use Rattle.toggle_error.specs.declared.rows.PlainRow.TheVariants.{Received, Sent}
use Rattle.toggle_error.specs.declared.rows.SettleRow.{SettleRow}
use Rattle.toggle_error.specs.declared.rows.SettleRow.TheVariants as rows
use Rattle.toggle_error.specs.Columns.{expected_pid, limit_of, heard_data, fitting, token_at, out_token}
use Rattle.toggle_error.specs.PlainRows.{plain_row}
use Rattle.toggle_error.specs.Settle.{settle_row, outcome_of_row, after_settle_row}
use Rattle.toggle_error.specs.SplitRows.{complete_row}
use Rattle.transactions.specs.Asks.{complete_split}
use Rattle.transactions.specs.Calls.{complete_sent}
use Rattle.hc_copy.specs.declared.held.Transaction.{Transaction}
use Rattle.hc_copy.specs.Overlay.{settled_queue}
use Rattle.hc_copy.specs.Planning.{pid_at, speed_at, queue_pipe, host_in, split_at, transaction_at}
use Rattle.hc_copy.specs.Transacting.{call_in, outcome_in, host_after}
use Rattle.hc_interrupt.specs.Copies.{with_split}
use Rattle.hc_interrupt.specs.Turns.{planned}
use Rattle.drv_periodic_table.specs.Periodic.{dir_of}
use Rattle.bus_wire.specs.declared.asked.Asked.{Asked}
use Rattle.bus_wire.specs.declared.seats.Seat.{Seat}
use Rattle.bus_wire.specs.Asking.{packet_after, translator_answer}
use Rattle.bus_wire.specs.Bus.{Bus, Fixed, asked_of, bus_row, reply_at, reply_of, after_at, transact_after}
use Rattle.bus_wire.specs.Fates.{is_unheard}
use Rattle.bus_wire.specs.Seats.{token_kind, place_for}
use Rattle.bus_wire.specs.WhoHeard.{who_heard, asker_hears, is_answer, later}
use Rattle.claims_world.specs.Due.{token_by}
use Rattle.claims_world.specs.Prices.{left_bytes}
use Rattle.claims_world.specs.QueuesMade.{QueueMade}
use Rattle.law_devices.proofs.Places.{set_beside}
use Rattle.law_microframes.specs.due.repeats.Hearing.{HasTranslator, CanBeHeard, token_of_way, IsHeardOn}
use Rattle.law_microframes.specs.time.DataQueues.{pid_of}
use Rattle.law_microframes.specs.translators.Results.{answer_from, complete_answer, key_for, pipeline_in}
use Rattle.law_microframes.specs.translators.Results.{entries_of_hub, entries_by, pipeline_for, HasAnswer, MovesBy, by_data, by_ack, IsTaken}
use Rattle.law_microframes.proofs.lemmas.due.lemmas.repeats.Heard.{answer_is, asked_is}
use Rattle.law_reports.proofs.lemmas.due_at_begin.Beside.{asked_place}
use Rattle.law_reports.proofs.lemmas.due_at_begin.PipelinesLeft.{AreHubsZero, asks_leave_entry}
use Rattle.law_reports.proofs.lemmas.due_at_begin.SplitHeads.{IsHeadOf}
use Rattle.law_reports.proofs.lemmas.due_at_begin.SplitTurns.{made_as_due}

-- ---- while others are asked

module _ (fixed : Fixed) (b : Bus) (ask : Ask) (out : List ℕ) (x : EpDesc) (reply : Reply) (a : HasAnswer fixed b x reply)
    (apart : is_same_key (key_of ask) (key_for x) ≡ false) (zeroes : AreHubsZero fixed) (numbered : ask.ep ≢ 0)
    (other : place_for fixed.seats ask.addr ask.ep (token_kind ask.pid) ≢ Some a.heard.place) where
  next_left : (o : Option Asked) → asked_of fixed b ask ≡ o
      → slice_get (after_at fixed b ask out o).high a.heard.place ≡ slice_get b.high a.heard.place
  next_left None is = refl
  next_left (Some e) is =
      let at = asked_place fixed b ask.split (place_for fixed.seats ask.addr ask.ep (token_kind ask.pid)) e is in
      set_beside b.high e.place a.heard.place (packet_after (bus_row fixed b e ask out) e ask)
      (λ (same : a.heard.place ≡ e.place). other (at ∙ ap Some (sym same)))

  pub answer_stays : HasAnswer fixed (transact_after fixed b ask out) x reply
  answer_stays = record {
    hub = a.hub;
    behind = a.behind;
    answer = ap answer_from (asks_leave_entry (key_for x) fixed b ask out apart zeroes numbered a.hub x.port) ∙ a.answer;
    heard = record {
      place = a.heard.place;
      asked = a.heard.asked;
      seat = a.heard.seat;
      seated = a.heard.seated;
      named = a.heard.named;
      packet = a.heard.packet;
      next = next_left (asked_of fixed b ask) refl ∙ a.heard.next;
      none_lost = a.heard.none_lost;
    };
  }

-- ---- the complete-split

abbrev pub complete_of : Qh → Transaction
complete_of q = transaction_at (complete_split (queue_pipe Interrupt q)) (queue_pipe Interrupt q) (host_in q)

pub is_complete : (q : Qh) → (q.eps == 2) ≡ false → q.token.split_state ≡ true → planned q ≡ complete_of q
is_complete q low split =
    ap (λ (b : Bool). transaction_at (split_at b q.token.split_state (queue_pipe Interrupt q)) (queue_pipe Interrupt q) (host_in q)) low
    ∙ ap (λ (b : Bool). transaction_at (split_at false b (queue_pipe Interrupt q)) (queue_pipe Interrupt q) (host_in q)) split

-- ---- what is heard

-- whatever it is, where neither packet is lost
heard_all : (answer : Reply) (sent unheard acked lost : Bool) → sent ≡ false → unheard ≡ false
    → asker_hears (who_heard sent (is_answer answer) unheard acked lost) answer ≡ answer
heard_all replies.Silent false unheard acked lost s u = refl
heard_all (replies.Bytes pid bytes) false false true true s u = refl
heard_all (replies.Bytes pid bytes) false false true false s u = refl
heard_all (replies.Bytes pid bytes) false false false lost s u = refl
heard_all (replies.Bytes pid bytes) false true acked lost s u = absurd cc
heard_all (replies.Hand pid) false false true true s u = refl
heard_all (replies.Hand pid) false false true false s u = refl
heard_all (replies.Hand pid) false false false lost s u = refl
heard_all (replies.Hand pid) false true acked lost s u = absurd cc
heard_all answer true unheard acked lost s u = absurd cc

pub same_token : (way : Way) → token_by way ≡ token_of_way way
same_token ways.In = refl
same_token ways.Out = refl
same_token ways.Ctl = refl

pub its_token : (way : Way) → way ≢ ways.Ctl → token_kind (pid_at (pid_of (dir_of way))) ≡ token_of_way way
its_token ways.In one = refl
its_token ways.Out one = refl
its_token ways.Ctl one = absurd (one refl)

pub its_direction : (way : Way) → direction_of (pid_at (pid_of (dir_of way))) ≡ dir_of way
its_direction ways.In = refl
its_direction ways.Out = refl
its_direction ways.Ctl = refl

no_loss : (a b : Bool) → a ≡ false → b ≡ false → (a || b) ≡ false
no_loss false false x y = refl
no_loss true b x y = absurd cc
no_loss false true x y = absurd cc

-- the translator's pipeline
served_pipeline : (o : Option ℕ) (ts : List Translator) (t : Translator) → option_and_then (λ (place : ℕ). slice_get ts place) o ≡ Some t
    → option_map_or (pipeline_in ts) o [] ≡ t.pipeline
served_pipeline None ts t is = absurd cc
served_pipeline (Some j) ts t is = ap (λ (u : Option Translator). option_map_or (λ (v : Translator). v.pipeline) u []) is

pub pipeline_is : (hubs : List HubContent) (hub port : ℕ) (h : HasTranslator hubs hub port)
    → pipeline_for hubs hub port ≡ h.translator.pipeline
pipeline_is hubs hub port h =
    ap (λ (o : Option ℕ). entries_by hubs o port) h.found
    ∙ ap (λ (o : Option HubContent). entries_of_hub o port) h.here
    ∙ served_pipeline (place_of h.content.translators.multi port) h.content.translators.all h.translator h.serves

module _ (fixed : Fixed) (b : Bus) (x : EpDesc) (reply : Reply) (a : HasAnswer fixed b x reply) (h : IsHeardOn fixed b x)
    (kind : x.kind ≡ Interrupt) (one : x.name.way ≢ ways.Ctl) (q : Qh) (its : IsHeadOf x q)
    (pid : q.token.pid ≡ pid_of (dir_of x.name.way)) (out : List ℕ) (last : Bool) where
  abbrev its_ask : Ask
  its_ask = (call_in (complete_of q) out last).ask

  abbrev its_out : List ℕ
  its_out = (call_in (complete_of q) out last).out

  token_is : token_kind (pid_at q.token.pid) ≡ token_of_way x.name.way
  token_is = ap (λ (n : ℕ). token_kind (pid_at n)) pid ∙ its_token x.name.way one

  can : CanBeHeard fixed b its_ask
  can = record {
    place = h.place;
    found =
        ap (λ (n : ℕ). place_for fixed.seats n q.ep (token_kind (pid_at q.token.pid))) its.addr
        ∙ ap (λ (n : ℕ). place_for fixed.seats x.name.addr n (token_kind (pid_at q.token.pid))) its.ep
        ∙ ap (place_for fixed.seats x.name.addr x.name.num) token_is ∙ h.found;
    seat = h.seat;
    there = h.there;
    number = h.number;
    hub = h.hub;
    port = x.port;
    split =
        ap (λ (n : ℕ). Complete n q.port) (its.hub ∙ ap (λ (o : Option ℕ). unwrap_or o 0) h.behind) ∙ ap (Complete h.hub) its.port;
    translator = h.translator;
  }

  abbrev make : ℕ → ℕ → Dir → EpKind → Key
  make addr ep dir k = record { addr = addr; ep = ep; dir = dir; kind = k }

  key_is : key_of its_ask ≡ key_for x
  key_is =
      ap (λ (n : ℕ). make n q.ep (direction_of (pid_at q.token.pid)) Interrupt) its.addr
      ∙ ap (λ (n : ℕ). make x.name.addr n (direction_of (pid_at q.token.pid)) Interrupt) its.ep
      ∙ ap (λ (d : Dir). make x.name.addr x.name.num d Interrupt) (ap (λ (n : ℕ). direction_of (pid_at n)) pid ∙ its_direction x.name.way)
      ∙ ap (make x.name.addr x.name.num (dir_of x.name.way)) (sym kind)

  same_hub : a.hub ≡ h.hub
  same_hub = same_Some a.hub h.hub (sym a.behind ∙ h.behind)

  -- what the translator answers
  its_answer : translator_answer (slice_get b.hubs h.translator.place) its_ask ≡ reply
  its_answer =
      ap (λ (o : Option HubContent). translator_answer o its_ask) h.translator.here
      ∙ answer_is its_ask h.translator.content h.translator.translator q.hub q.port refl refl serves
      ∙ ap (λ (k : Key). complete_answer k h.translator.translator.pipeline) key_is
      ∙ ap (complete_answer (key_for x)) (sym (pipeline_is b.hubs h.hub x.port h.translator))
      ∙ ap (λ (n : ℕ). complete_answer (key_for x) (pipeline_for b.hubs n x.port)) (sym same_hub) ∙ a.answer
    where
      serves : translator_at q.port h.translator.content.translators ≡ Some h.translator.translator
      serves =
          ap (λ (n : ℕ). option_and_then (λ (place : ℕ). slice_get h.translator.content.translators.all place)
          (place_of h.translator.content.translators.multi n)) its.port ∙ h.translator.serves

  same_place : a.heard.place ≡ h.place
  same_place =
      same_Some a.heard.place h.place
      (sym a.heard.asked ∙ ap (place_for fixed.seats x.name.addr x.name.num) (same_token x.name.way) ∙ h.found)

  same_seat : h.seat.name ≡ x.name
  same_seat =
      ap (λ (s : Seat). s.name)
      (same_Some h.seat a.heard.seat (sym h.there ∙ ap (slice_get fixed.seats) (sym same_place) ∙ a.heard.seated)) ∙ a.heard.named

  same_packet : h.number.number ≡ a.heard.packet
  same_packet = same_Some h.number.number a.heard.packet (sym h.number.is ∙ ap (slice_get b.high) (sym same_place) ∙ a.heard.next)

  good : (i : ℕ) → i < 2 → is_unheard fixed.fates h.seat.name false (later h.number.number i) ≡ false
  good i few =
      ap (λ (n : EpName). is_unheard fixed.fates n false (later h.number.number i)) same_seat
      ∙ ap (λ (n : ℕ). is_unheard fixed.fates x.name false (later n i)) same_packet ∙ a.heard.none_lost i few

  pub reply_heard : reply_of fixed b (call_in (complete_of q) out last).ask (call_in (complete_of q) out last).out ≡ reply
  unfolding can
  reply_heard =
      ap (reply_at fixed b its_ask its_out) (asked_is fixed b its_ask its_out can)
      ∙ heard_all (translator_answer (slice_get b.hubs h.translator.place) its_ask) _ _ _ _
      (no_loss _ _ (good 0 (omega arith)) (good 0 (omega arith))) (good 1 (omega arith)) ∙ its_answer

-- ---- what it comes to

moves_as : (v q : Qh) (way : Way) (reply : Reply) (bytes : ℕ) → q.token ≡ v.token → q.max ≡ v.max → MovesBy v way reply bytes
    → MovesBy q way reply bytes
moves_as v q _ _ _ token max (by_data bytes short) =
    let left : left_bytes v ≡ left_bytes q = rw (token, max) refl in
    subst (λ (t : Token). MovesBy q ways.In (replies.Bytes (expected_pid t.toggle) bytes) (length bytes)) token
    (by_data bytes (subst (λ (n : ℕ). length bytes ≤ n) left short))
moves_as v q _ _ _ token max by_ack =
    let left : left_bytes q ≡ left_bytes v = rw (token, max) refl in
    subst (λ (n : ℕ). MovesBy q ways.Out (replies.Hand pids.Ack) n) left by_ack

data_fits : (toggle : Bool) (h : Heard) → heard_data toggle (expected_pid toggle) h ≡ h
data_fits true h = refl
data_fits false h = refl

out_is : (s : Speed) → out_token s Interrupt ≡ tokens_of.Out
out_is speeds.High = refl
out_is speeds.Full = refl
out_is speeds.Low = refl

-- the row of the settle table
abbrev row_by : Pid → AskToken → Heard → ℕ → Bool → SettleRow
row_by pid token heard sent last = rows.Complete (complete_row Interrupt last heard (plain_row (token_at pid token) heard sent))

data_row : (token : AskToken) (n sent : ℕ) (last : Bool)
    → row_by pids.In token (Fitting n) sent last ≡ rows.Complete (Answered (Received n))
data_row token n sent true = refl
data_row token n sent false = refl

ack_row : (n : ℕ) (last : Bool) → row_by pids.Out tokens_of.Out Ack n last ≡ rows.Complete (Answered (Sent n))
ack_row n true = refl
ack_row n false = refl

abbrev Moving : PlainRow → ℕ → Type 0
Moving (Received n) bytes = n ≡ bytes
Moving (Sent n) bytes = n ≡ bytes
Moving _ bytes = ⊥

record HasMovingRow (q : Qh) (out : List ℕ) (last : Bool) (reply : Reply) (bytes : ℕ) : Type 0 where
  plain : PlainRow
  moves : Moving plain bytes
  is : settle_row (call_in (complete_of q) out last).ask (call_in (complete_of q) out last).sent last reply (host_in q)
      ≡ rows.Complete (Answered plain)

moving_row : (q : Qh) (out : List ℕ) (last : Bool) (way : Way) (reply : Reply) (bytes : ℕ) → MovesBy q way reply bytes
    → pid_at q.token.pid ≡ pid_at (pid_of (dir_of way)) → HasMovingRow q out last reply bytes
moving_row q out last _ _ _ (by_data bytes short) pid =
    let limit : ℕ = limit_of (host_in q) in
    let token : AskToken = out_token (speed_at q.eps) Interrupt in
    let heard : Heard = heard_data q.token.toggle (expected_pid q.token.toggle) (fitting (length bytes) limit) in
    record {
      plain = Received (length bytes);
      moves = refl;
      is =
          ap (λ (p : Pid). row_by p token heard (complete_sent p (host_in q)) last) pid
          ∙ ap (λ (h : Heard). row_by pids.In token h 0 last)
          (data_fits q.token.toggle (fitting (length bytes) limit)
          ∙ ap (λ (c : Bool). if c then Fitting (length bytes) else TooLong) (le-leb (length bytes) limit short))
          ∙ data_row token (length bytes) 0 last;
    }
moving_row q out last _ _ _ by_ack pid =
    let limit : ℕ = limit_of (host_in q) in
    record {
      plain = Sent limit;
      moves = refl;
      is =
          ap (λ (p : Pid). row_by p (out_token (speed_at q.eps) Interrupt) Ack (complete_sent p (host_in q)) last) pid
          ∙ ap (λ (t : AskToken). row_by pids.Out t Ack limit last) (out_is (speed_at q.eps)) ∙ ack_row limit last;
    }

-- the outcome, and the host's side after it
record HasMovedOn (h : HostSide) (row : SettleRow) (bytes : ℕ) : Type 0 where
  outcome : outcome_of_row row h ≡ Moved bytes
  left : (after_settle_row row h).left ≡ h.left - bytes
  toggle : (after_settle_row row h).toggle ≡ not h.toggle
  waiting : (after_settle_row row h).waiting ≡ false

moved_on : (h : HostSide) (plain : PlainRow) (bytes : ℕ) → Moving plain bytes → HasMovedOn h (rows.Complete (Answered plain)) bytes
moved_on h (Received n) bytes is =
    subst (HasMovedOn h (rows.Complete (Answered (Received n)))) is (record { outcome = refl; left = refl; toggle = refl; waiting = refl })
moved_on h (Sent n) bytes is =
    subst (HasMovedOn h (rows.Complete (Answered (Sent n)))) is (record { outcome = refl; left = refl; toggle = refl; waiting = refl })
moved_on h _ bytes is = absurd is

module _ (f n : ℕ) (v q : Qh) (out : List ℕ) (last : Bool) (reply : Reply) (way : Way) (bytes : ℕ) where
  abbrev by_plan : Transaction → QueueMade
  by_plan t = record {
    at = n;
    queue = with_split f t.split (settled_queue (host_after t out last reply) q);
    heard = reply;
    outcome = outcome_in t out last reply;
  }

  pub result_taken : (q.eps == 2) ≡ false → q.token.split_state ≡ true → q.token ≡ v.token → q.max ≡ v.max
      → pid_at q.token.pid ≡ pid_at (pid_of (dir_of way)) → MovesBy v way reply bytes
      → IsTaken v n bytes (made_as_due f n q out last reply)
  unfolding with_split settled_queue
  result_taken low split token max pid moves =
      let r : HasMovingRow q out last reply bytes =
      moving_row q out last way reply bytes (moves_as v q way reply bytes token max moves) pid in
      let m = subst (λ (row : SettleRow). HasMovedOn (host_in q) row bytes) (sym r.is) (moved_on (host_in q) r.plain bytes r.moves) in
      subst (λ (t : Transaction). IsTaken v n bytes (by_plan t)) (sym (is_complete q low split)) (record {
        at = refl;
        outcome = m.outcome;
        left = m.left ∙ ap (λ (t : Token). t.total - bytes) token;
        toggle = m.toggle ∙ ap (λ (t : Token). not t.toggle) token;
        starts = m.waiting;
      })
