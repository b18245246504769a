-- A transaction for which the device of an endpoint is ready, and none of whose packets is lost, moves its bytes (EHCI 1.0, 4.10.3; USB
-- 2.0, 8.5 and 8.6).
use Rattle.std.proofs.Common.{◌≡◌, ℕ, ◌≤◌, ◌<◌, nat_le, Bool, true, false, if◌then◌else◌, List, [], ◌∷◌, length, slice_get, Option, Some}
use Rattle.std.proofs.Common.{None, ap, refl, sym, subst, ◌∙◌, arith}
use Rattle.std.specs.Option.{option_and_then, option_map}
use Rattle.std.proofs.lemmas.Bool.{eq-eqb, le-leb}
use Rattle.law_common.proofs.Booleans.{none_late}
use Rattle.usb_base.specs.Acknowledgement.{acknowledges}
use Rattle.usb_base.specs.declared.endpoints.EpName.{EpName}
use Rattle.usb_base.specs.declared.packets.Ask.{Ask}
use Rattle.usb_base.specs.declared.packets.DataPart.TheVariants as parts
use Rattle.usb_base.specs.declared.packets.EpKind.TheVariants.{Interrupt}
use Rattle.usb_base.specs.declared.packets.Pid.{Pid}
use Rattle.usb_base.specs.declared.packets.Pid.TheVariants as pids
use Rattle.usb_base.specs.declared.packets.Reply.{Reply}
use Rattle.usb_base.specs.declared.packets.Reply.TheVariants as replies
use Rattle.usb_base.specs.declared.packets.Speed.TheVariants.{High}
use Rattle.usb_base.specs.declared.packets.Split.TheVariants.{Plain}
use Rattle.usb_base.specs.declared.packets.Way.{Way}
use Rattle.usb_base.specs.declared.packets.Way.TheVariants as ways
use Rattle.script_types.specs.declared.devices.Item.{Item}
use Rattle.script_types.specs.declared.devices.Item.TheVariants.{Bytes}
use Rattle.dev_control.specs.declared.rows.Sequence.{Sequence}
use Rattle.dev_control.specs.declared.rows.Sequence.TheVariants.{Next}
use Rattle.dev_control.specs.declared.rows.StageToken.{StageToken}
use Rattle.dev_control.specs.Stages.{token_of, data_pid, sequence_of}
use Rattle.endpoint_script.specs.declared.endpoint.Endpoint.{Endpoint as DeviceEndpoint}
use Rattle.endpoint_script.specs.declared.endpoint.Role.{Role}
use Rattle.endpoint_script.specs.declared.endpoint.Role.TheVariants as roles
use Rattle.endpoint_script.specs.declared.rows.TakeRow.TheVariants.{Takes}
use Rattle.endpoint_script.specs.Device.{Device, endpoint_at, reply_from, part_reply, place_for as place_in_device}
use Rattle.endpoint_script.specs.Sending.{Sending, sent_reply}
use Rattle.endpoint_script.specs.Taking.{Taking, has_room, next_row, out_row, row_reply}
use Rattle.qh_qtd.specs.declared.queue_head.Qh.{Qh}
use Rattle.toggle_error.specs.declared.host.HostSide.{HostSide}
use Rattle.toggle_error.specs.declared.host.Outcome.TheVariants.{Moved}
use Rattle.toggle_error.specs.declared.host.Outcome.TheVariants as outcomes
use Rattle.toggle_error.specs.declared.rows.Heard.{Heard}
use Rattle.toggle_error.specs.declared.rows.Heard.TheVariants.{Fitting, TooLong}
use Rattle.toggle_error.specs.declared.rows.AskToken.TheVariants.{In}
use Rattle.toggle_error.specs.Columns.{expected_pid, limit_of, heard_data}
use Rattle.toggle_error.specs.PlainRows.{plain_row, plain_outcome}
use Rattle.transactions.specs.declared.pipe.Pipe.{Pipe}
use Rattle.hc_copy.specs.declared.held.Transaction.{Transaction}
use Rattle.hc_copy.specs.Planning.{host_in, pid_at, transaction_at}
use Rattle.hc_copy.specs.Transacting.{call_in, outcome_in}
use Rattle.hc_interrupt.specs.Turns.{planned}
use Rattle.bus_wire.specs.declared.asked.Answerer.TheVariants as answerers
use Rattle.bus_wire.specs.declared.asked.Asked.{Asked}
use Rattle.bus_wire.specs.declared.seats.Owner.{Owner}
use Rattle.bus_wire.specs.declared.seats.Seat.{Seat}
use Rattle.bus_wire.specs.declared.seats.TokenKind.{TokenKind}
use Rattle.bus_wire.specs.declared.seats.TokenKind.TheVariants as tokens
use Rattle.bus_wire.specs.Asking.{device_answer, losses_of, row_for}
use Rattle.bus_wire.specs.Bus.{Bus, Fixed, hears, asked_at, asked_of, answer_by, reply_at, reply_of}
use Rattle.bus_wire.specs.Fates.{is_unheard}
use Rattle.bus_wire.specs.Seats.{place_for}
use Rattle.bus_wire.specs.WhoHeard.{who_heard, asker_hears, is_answer, later, packets_before}
use Rattle.drv_periodic_table.specs.Periodic.{dir_of}
use Rattle.claims_world.specs.Prices.{left_bytes}
use Rattle.law_microframes.specs.time.DataQueues.{pid_of}
use Rattle.claims_world.specs.Due.{MovesPacket, by_packet, by_taking, bytes_moved, token_by, stage_by, IsHeardBy, NoneIsLost, CanMove}

-- ---- what is sent and heard

next_is : (a b : Bool) → a ≡ b → sequence_of a (expected_pid b) ≡ Next
next_is true true same = refl
next_is true false same = absurd cc
next_is false true same = absurd cc
next_is false false same = refl

data_is : (a b : Bool) (h : Heard) → a ≡ b → heard_data b (data_pid a) h ≡ h
data_is true true h same = refl
data_is true false h same = absurd cc
data_is false true h same = absurd cc
data_is false false h same = refl

-- nothing is lost, and there is an answer
answer_heard : (answer : Reply) (sent has unheard acked lost : Bool) → sent ≡ false → has ≡ true → unheard ≡ false
    → asker_hears (who_heard sent has unheard acked lost) answer ≡ answer
answer_heard answer false true false false lost s h u = refl
answer_heard answer false true false true true s h u = refl
answer_heard answer false true false true false s h u = refl
answer_heard answer false true true acked lost s h u = absurd cc
answer_heard answer false false unheard acked lost s h u = absurd cc
answer_heard answer true has unheard acked lost s h u = absurd cc

-- ---- the endpoint that is asked

module _ (fixed : Fixed) (b : Bus) (name : EpName) (place packet : ℕ) (next : slice_get b.high place ≡ Some packet)
    (none : NoneIsLost fixed name packet) where
  asked_by : {part : Role} → IsHeardBy fixed b name place part → Asked
  asked_by r = record { place = place; name = r.seat.name; packet = packet; who = answerers.Device r.at }

  -- a plain ask of this address and number
  asked_is : {part : Role} (r : IsHeardBy fixed b name place part) (kind : TokenKind)
      → place_for fixed.seats name.addr name.num kind ≡ Some place
      → option_and_then (asked_at fixed b Plain) (place_for fixed.seats name.addr name.num kind) ≡ Some (asked_by r)
  unfolding asked_by
  asked_is r kind found =
      ap (option_and_then (asked_at fixed b Plain)) found
      ∙ ap (option_and_then
      (λ (seat : Seat). option_map
      (λ (n : ℕ). record { place = place; name = seat.name; packet = n; who = hears b Plain seat.owner }) (slice_get b.high place)))
      r.seated
      ∙ ap (λ (owner : Owner). option_map
      (λ (n : ℕ). record { place = place; name = r.seat.name; packet = n; who = hears b Plain owner }) (slice_get b.high place)) r.owner
      ∙ ap (option_map (λ (n : ℕ). record { place = place; name = r.seat.name; packet = n; who = answerers.Device r.at })) next

  good : {part : Role} (r : IsHeardBy fixed b name place part) (i : ℕ) → i < 3
      → is_unheard fixed.fates r.seat.name false (later packet i) ≡ false
  good r i few = ap (λ (n : EpName). is_unheard fixed.fates n false (later packet i)) r.named ∙ none i few

  -- what the device answers is heard
  heard_is : (its : Asked) (ask : Ask) (out : List ℕ) (answer : Reply) → asked_of fixed b ask ≡ Some its
      → answer_by b its.who ask out ≡ answer
      → is_answer answer ≡ true → (losses_of fixed.fates false its (packets_before ask)).sent ≡ false
      → (losses_of fixed.fates false its (packets_before ask)).answer ≡ false → reply_of fixed b ask out ≡ answer
  heard_is its ask out answer asked is has sent heard =
      ap (reply_at fixed b ask out) asked
      ∙ ap (λ (x : Reply). asker_hears (row_for (losses_of fixed.fates false its (packets_before ask)) ask x) x) is
      ∙ answer_heard answer (losses_of fixed.fates false its (packets_before ask)).sent (is_answer answer)
      (losses_of fixed.fates false its (packets_before ask)).answer
      (acknowledges ask answer) (losses_of fixed.fates false its (packets_before ask)).acknowledgement sent has heard

  -- its part of the device answers
  answer_is : {part : Role} (r : IsHeardBy fixed b name place part) (way : Way) (ask : Ask) (out : List ℕ) → name.way ≡ way
      → ask.addr ≡ name.addr
      → ask.ep ≡ name.num → token_of ask.pid ≡ stage_by way
      → device_answer (slice_get b.devices r.at) ask out ≡ part_reply r.device.speed part ask out
  answer_is r way ask out way_is addr ep token =
      ap (λ (o : Option Device). device_answer o ask out) r.there
      ∙ ap (λ (c : Bool). reply_from r.device.speed
      (endpoint_at r.device.endpoints (if c then place_in_device (token_of ask.pid) r.device.endpoints ask.ep else None)) ask out)
      (eq-eqb ask.addr r.device.address (addr ∙ sym r.address))
      ∙ ap (λ (token : StageToken). reply_from r.device.speed
      (endpoint_at r.device.endpoints (place_in_device token r.device.endpoints ask.ep)) ask out) (token ∙ ap stage_by (sym way_is))
      ∙ ap (λ (n : ℕ). reply_from r.device.speed
      (endpoint_at r.device.endpoints (place_in_device (stage_by name.way) r.device.endpoints n)) ask out) ep
      ∙ ap (λ (o : Option DeviceEndpoint). reply_from r.device.speed o ask out) r.found
      ∙ ap (λ (p : Role). part_reply r.device.speed p ask out) r.does

  -- ---- the transaction

  module _ (v : Qh) where
    abbrev pipe_of : Pid → Pipe
    pipe_of pid = record {
      addr = name.addr;
      ep = name.num;
      speed = High;
      kind = Interrupt;
      pid = pid;
      hub = v.hub;
      port = v.port;
      part = parts.All;
    }

    abbrev host_with : Bool → HostSide
    host_with ping = record (host_in v) { ping = ping }

    planned_is : (pid : Pid) → v.eps ≡ 2 → v.addr ≡ name.addr → v.ep ≡ name.num → pid_at v.token.pid ≡ pid
        → planned v ≡ transaction_at Plain (pipe_of pid) (host_in v)
    planned_is pid high addr ep is = rw (high, addr, ep, is) refl

    pub Moves : ℕ → Transaction → Type 0
    Moves n t = (out : List ℕ) → length out ≡ t.bytes → (last : Bool)
        → outcome_in t out last (reply_of fixed b (call_in t out last).ask (call_in t out last).out) ≡ Moved n

    module _ (s : Sending) (r : IsHeardBy fixed b name place (roles.Sends s)) (bytes : List ℕ) (rest : List Item)
        (items : s.items ≡ Bytes bytes ∷ rest)
        (short : length bytes ≤ left_bytes v) (same : s.toggle ≡ v.token.toggle) (way : name.way ≡ ways.In) where
      in_reply : (out : List ℕ) (last : Bool)
          → reply_of fixed b (call_in (transaction_at Plain (pipe_of pids.In) (host_in v)) out last).ask [] ≡ replies.Bytes
          (data_pid s.toggle) bytes
      unfolding asked_by
      in_reply out last =
          let ask : Ask = (call_in (transaction_at Plain (pipe_of pids.In) (host_in v)) out last).ask in
          heard_is (asked_by r) ask [] (replies.Bytes (data_pid s.toggle) bytes)
          (asked_is r tokens.In (ap (λ (w : Way). place_for fixed.seats name.addr name.num (token_by w)) (sym way) ∙ r.asked))
          (answer_is r ways.In ask [] way refl refl refl ∙ ap (sent_reply s.toggle) items)
          refl
          (none_late (is_unheard fixed.fates r.seat.name false (later packet 0))
          (is_unheard fixed.fates r.seat.name false (later packet 0)) (good r 0 (omega arith)) (good r 0 (omega arith)))
          (good r 1 (omega arith))

      in_moves : Moves (length bytes) (transaction_at Plain (pipe_of pids.In) (host_in v))
      unfolding Moves
      in_moves out long last =
          ap (outcome_in (transaction_at Plain (pipe_of pids.In) (host_in v)) out last) (in_reply out last)
          ∙ ap (λ (h : Heard). plain_outcome
          (plain_row In h (call_in (transaction_at Plain (pipe_of pids.In) (host_in v)) out last).sent) (host_in v))
          (data_is s.toggle v.token.toggle (if nat_le (length bytes) (limit_of (host_in v)) then Fitting (length bytes) else TooLong) same
          ∙ ap (λ (c : Bool). if c then Fitting (length bytes) else TooLong) (le-leb (length bytes) (limit_of (host_in v)) short))

    module _ (t : Taking) (r : IsHeardBy fixed b name place (roles.Takes t)) (takes : next_row t.items (has_room t (left_bytes v)) ≡ Takes)
        (same : t.toggle ≡ v.token.toggle) (way : name.way ≡ ways.Out) where
      out_reply : (out : List ℕ) (last : Bool) → length out ≡ left_bytes v
          → reply_of fixed b (call_in (transaction_at Plain (pipe_of pids.Out) (host_with false)) out last).ask out ≡ replies.Hand pids.Ack
      unfolding asked_by
      out_reply out last long =
          let ask : Ask = (call_in (transaction_at Plain (pipe_of pids.Out) (host_with false)) out last).ask in
          heard_is (asked_by r) ask out (replies.Hand pids.Ack)
          (asked_is r tokens.Out (ap (λ (w : Way). place_for fixed.seats name.addr name.num (token_by w)) (sym way) ∙ r.asked))
          (answer_is r ways.Out ask out way refl refl refl
          ∙ ap (λ (q : Sequence). row_reply r.device.speed (out_row q t.items (has_room t (length out))))
          (next_is t.toggle v.token.toggle same)
          ∙ ap (λ (n : ℕ). row_reply r.device.speed (next_row t.items (has_room t n))) long
          ∙ ap (row_reply r.device.speed) takes)
          refl
          (none_late (is_unheard fixed.fates r.seat.name false (later packet 0))
          (is_unheard fixed.fates r.seat.name false (later packet 1)) (good r 0 (omega arith)) (good r 1 (omega arith)))
          (good r 2 (omega arith))

      out_moves : Moves (left_bytes v) (transaction_at Plain (pipe_of pids.Out) (host_with false))
      unfolding Moves
      out_moves out long last =
          ap (outcome_in (transaction_at Plain (pipe_of pids.Out) (host_with false)) out last) (out_reply out last long)
          ∙ ap (λ (n : ℕ). outcomes.Moved n) long

    moves_by : (way : Way) (part : Role) (m : MovesPacket way v part) → name.way ≡ way → IsHeardBy fixed b name place part → v.eps ≡ 2
        → v.addr ≡ name.addr → v.ep ≡ name.num → v.token.pid ≡ pid_of (dir_of way) → Moves (bytes_moved m) (planned v)
    moves_by _ _ (by_packet _ s bytes rest items short same) way r high addr ep pid =
        subst (Moves (length bytes)) (sym (planned_is pids.In high addr ep (ap pid_at pid))) (in_moves s r bytes rest items short same way)
    moves_by _ _ (by_taking _ t unpinged takes same) way r high addr ep pid =
        subst (Moves (left_bytes v)) (sym (planned_is pids.Out high addr ep (ap pid_at pid)
        ∙ ap (λ (ping : Bool). transaction_at Plain (pipe_of pids.Out) (host_with ping)) unpinged))
        (out_moves t r takes same way)

pub ready_transactions_move : (fixed : Fixed) (b : Bus) (name : EpName) (v : Qh) (r : CanMove fixed b name v) → v.eps ≡ 2
    → v.addr ≡ name.addr
    → v.ep ≡ name.num → v.token.pid ≡ pid_of (dir_of name.way) → (out : List ℕ) → length out ≡ (planned v).bytes → (last : Bool)
    → outcome_in (planned v) out last (reply_of fixed b (call_in (planned v) out last).ask (call_in (planned v) out last).out)
    ≡ Moved (bytes_moved r.answers)
unfolding Moves
ready_transactions_move fixed b name v r high addr ep pid =
    moves_by fixed b name r.place r.packet r.next r.none_lost v name.way r.part r.answers refl r.heard high addr ep pid
