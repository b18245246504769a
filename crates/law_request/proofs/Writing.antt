-- The data stage of a write: each packet is taken once, whether the device's acknowledgement of it is heard or not.
use Rattle.std.proofs.Common.{◌≡◌, ℕ, ◌+◌, ◌-◌, ◌==◌, ◌&&◌, ◌≤◌, Bool, true, false, not, if◌then◌else◌, min, List, [], ◌++◌, length, take, drop, inl, inr, Some, None, refl, sym, ap, ◌∙◌, subst, arith}
use Rattle.std.proofs.Math.Bool.{false≢true}
use Rattle.std.proofs.Math.Seq.{drop-append_seam}
use Rattle.std.proofs.lemmas.Bool.{eqb-true}
use Rattle.std.proofs.lemmas.Grind.{common_steps}
use Rattle.std.proofs.lemmas.List.{length-take}
use Rattle.std.specs.Prelude.{nat_le}
use Rattle.law_request.proofs.Common.{expected_next}
use Rattle.law_common.proofs.Lists.{take_whole}
use Rattle.usb_base.specs.declared.packets.EpKind.TheVariants.{Control}
use Rattle.usb_base.specs.declared.packets.Pid.{Pid}
use Rattle.usb_base.specs.declared.packets.Pid.TheVariants as Pids
use Rattle.usb_base.specs.declared.packets.Reply.TheVariants.{Hand}
use Rattle.usb_base.specs.declared.packets.Speed.TheVariants.{High}
use Rattle.usb_base.specs.declared.packets.Split.TheVariants.{Plain}
use Rattle.dev_control.specs.declared.rows.Sequence.TheVariants.{Next, Repeat}
use Rattle.dev_control.specs.declared.rows.Stage.{Stage as DeviceStage}
use Rattle.dev_control.specs.declared.rows.Stage.TheVariants.{Writing, AllWritten}
use Rattle.dev_control.specs.declared.rows.StageRow.TheVariants.{Takes, Drops, Stalls}
use Rattle.dev_control.specs.Stages.{Stages, is_read, wanted_of, stage_of, sequence_of, is_status, out_row, out_row_at, ping_row, moved_to}
use Rattle.toggle_error.specs.declared.host.HostSide.{HostSide}
use Rattle.toggle_error.specs.declared.rows.PlainRow.TheVariants.{Room, NoRoom, RefusedPinged, Stalled, FailedPinged}
use Rattle.toggle_error.specs.Columns.{expected_pid, limit_of}
use Rattle.toggle_error.specs.PlainRows.{moved_out}
use Rattle.transactions.specs.Asks.{pinged, sends}
use Rattle.transactions.specs.Calls.{Call}
use Rattle.bus_wire.specs.declared.asked.Losses.{Losses}
use Rattle.claims_report.specs.Requests.{Request}
use Rattle.law_request.specs.Host.{Endpoint, Host, goes_on, heard_by, next_bytes}
use Rattle.law_request.specs.Line.{reply_under, made}
use Rattle.law_request.specs.Standing.{sight_of, GoesOut, Moves, Stands, under_way}
use Rattle.law_request.proofs.Hearing.{line, IsKept, made_stands, quiet_row, stands_quiet, bytes_are_data, true_not_false}
use Rattle.law_request.proofs.Reading.{data_host, whole_after}
use Rattle.law_request.proofs.Rows.{IsStage, IsRefusing, IsNoData, IsReading, IsAllRead, IsWriting, IsAllWritten, device_stage, naks_kept, stalls_kept, room_kept, unless_kept, ping_kept}

-- ---- the call of an OUT, which goes out as a PING in the ping state

abbrev pub out_call : Endpoint → Pid → HostSide → List ℕ → Call
out_call e token side out = record {
  ask = record { split = Plain; pid = token; addr = e.addr; ep = e.num; speed = High; kind = Control; toggle = expected_pid side.toggle; limit = limit_of side };
  out = sends Plain token out;
  sent = length out;
  last = false;
}

-- ---- plain lists and numbers

not_not : (b : Bool) → not (not b) ≡ b
not_not true = refl
not_not false = refl

pub repeat_sequence : (turn : Bool) → sequence_of turn (expected_pid (not turn)) ≡ Repeat
repeat_sequence true = refl
repeat_sequence false = refl

-- the next packet begins what is later, and is as long as fits
next_is : (r : Request) (side : HostSide) (moved later : List ℕ) → moved ++ later ≡ r.bytes → take (limit_of side) (drop (length moved) r.bytes) ≡ take (limit_of side) later
next_is r side moved later w = ap (λ x. take (limit_of side) (drop (length moved) x)) (sym w) ∙ ap (take (limit_of side)) (drop-append_seam moved later)

next_length : (max left : ℕ) (later : List ℕ) → left ≡ length later → length (take (min max left) later) ≡ min max left
next_length max left later h = omega (arith, h, length-take (min max left) later)

drop_length : (n : ℕ) (xs : List ℕ) → length (drop n xs) ≡ length xs - n
drop_length n xs = grind (arith, common_steps)

-- ---- what stands

write_stands : (e : Endpoint) (r : Request) (side : HostSide) (moved : List ℕ) (d : Stages) (a : List (List ℕ)) → is_read r.setup ≡ false → (wanted_of r.setup == 0) ≡ false
    → side.max ≡ e.max → d.max ≡ e.max → GoesOut e r (sight_of (line (data_host side moved) d a)) → Stands e r (line (data_host side moved) d a)
write_stands e r side moved d a i w hm dm x = record {
  host_max = hm;
  device_max = dm;
  stage = record { wanted = w; way = subst (λ b. Moves b e r (sight_of (line (data_host side moved) d a))) (sym i) x };
}

one : (b : Bool) → (not b && true) ≡ false → b ≡ true
one true h = refl
one false h = true_not_false h

-- The device has this packet, and the host heard so.
gave : (e : Endpoint) (r : Request) (side : HostSide) (moved : List ℕ) (c d : Stages) (a : List (List ℕ)) (x : GoesOut e r (sight_of (line (data_host side moved) c a)))
    (to : ℕ) (turned : Bool) (packet : List ℕ) (b : Bool)
    → is_read r.setup ≡ false → (wanted_of r.setup == 0) ≡ false → side.max ≡ e.max → d.max ≡ e.max → d.request ≡ under_way r to turned false
    → packet ≡ take (limit_of side) x.later → length packet ≡ limit_of side → to ≡ length moved + length packet → not side.toggle ≡ turned
    → (not (side.left - length packet == 0) && side.active) ≡ b
    → Stands e r (line (goes_on r b (moved_out (length packet) false side) (moved ++ packet) (data_host side moved)) d a)
gave e r side moved c d a x to turned packet true i w hm dm under p many there t go =
    let longer : length (moved ++ packet) ≡ length moved + length packet = grind (arith, common_steps) in
    write_stands e r (moved_out (length packet) false side) (moved ++ packet) d a i w hm dm (record {
      at = to;
      turn = turned;
      under = under;
      acts = x.acts;
      active = go;
      later = drop (limit_of side) x.later;
      whole = ap (λ y. (moved ++ y) ++ drop (limit_of side) x.later) p ∙ whole_after (limit_of side) moved x.later r.bytes x.whole;
      left = ap (λ n. n - length packet) x.left ∙ ap (λ n. length x.later - n) many ∙ sym (drop_length (limit_of side) x.later);
      near = inl (there ∙ sym longer, t);
    })
gave e r side moved c d a x to turned packet false i w hm dm under p many there t go =
    let none : (side.left - length packet == 0) ≡ true = one (side.left - length packet == 0) (subst (λ y. (not (side.left - length packet == 0) && y) ≡ false) x.active go) in
    let rest : length x.later ≤ limit_of side = omega (arith, eqb-true (side.left - length packet) 0 none, many, x.left) in
    record {
      host_max = hm;
      device_max = dm;
      stage = record {
        at = to;
        turn = turned;
        done = false;
        under = under;
        moved = ap (λ y. moved ++ y) (p ∙ take_whole (limit_of side) x.later rest) ∙ (x.whole ∙ sym (bytes_are_data e r i));
        toggle = refl;
        left = refl;
        acts = inl (refl, x.acts);
      };
    }

-- ---- the rows

abbrev packet_of : Request → HostSide → List ℕ → List ℕ
packet_of r side moved = next_bytes r (data_host side moved)

abbrev write_call : Endpoint → Request → HostSide → List ℕ → Call
write_call e r side moved = out_call e Pids.Out side (packet_of r side moved)

packet_long : (e : Endpoint) (r : Request) (side : HostSide) (moved : List ℕ) (c : Stages) (a : List (List ℕ)) (x : GoesOut e r (sight_of (line (data_host side moved) c a)))
    → length (packet_of r side moved) ≡ limit_of side
packet_long e r side moved c a x = ap length (next_is r side moved x.later x.whole) ∙ next_length side.max side.left x.later x.left

-- ACK of the packet: the device took it, now or before
ack_heard : (e : Endpoint) (r : Request) (side : HostSide) (moved : List ℕ) (c d : Stages) (a : List (List ℕ)) (x : GoesOut e r (sight_of (line (data_host side moved) c a))) (to : ℕ) (turned : Bool)
    → is_read r.setup ≡ false → (wanted_of r.setup == 0) ≡ false → side.max ≡ e.max → d.max ≡ e.max → d.request ≡ under_way r to turned false
    → to ≡ length moved + length (packet_of r side moved) → not side.toggle ≡ turned
    → Stands e r (line (heard_by r (write_call e r side moved) (Hand Pids.Ack) (data_host side moved)) d a)
ack_heard e r side moved c d a x to turned i w hm dm under there t =
    gave e r side moved c d a x to turned (packet_of r side moved) (moved_out (length (packet_of r side moved)) false side).active i w hm dm under
    (next_is r side moved x.later x.whole) (packet_long e r side moved c a x) there t refl

takes_kept : (e : Endpoint) (r : Request) (side : HostSide) (moved : List ℕ) (c : Stages) (a : List (List ℕ)) (x : GoesOut e r (sight_of (line (data_host side moved) c a)))
    → is_read r.setup ≡ false → (wanted_of r.setup == 0) ≡ false → x.at ≡ length moved → side.toggle ≡ x.turn → Stands e r (line (data_host side moved) c a)
    → IsKept e r (write_call e r side moved) (data_host side moved) c a (Takes (x.at + length (packet_of r side moved)))
takes_kept e r side moved c a x i w here t s =
    let n : ℕ = length (packet_of r side moved) in
    let d : Stages = record c { request = moved_to (x.at + n) c.request } in
    let under : d.request ≡ under_way r (x.at + n) (not x.turn) false = ap (moved_to (x.at + n)) x.under in
    let there : x.at + n ≡ length moved + n = ap (λ k. k + n) here in
    record {
      unheard = stands_quiet e r (data_host side moved) _ d a (quiet_row r FailedPinged _ (data_host side moved) refl)
          (write_stands e r side moved d a i w s.host_max s.device_max (record {
            at = x.at + n;
            turn = not x.turn;
            under = under;
            acts = x.acts;
            active = x.active;
            later = x.later;
            whole = x.whole;
            left = x.left;
            near = inr (there ∙ ap (λ k. length moved + k) (packet_long e r side moved c a x ∙ ap (λ m. min m side.left) s.host_max), t ∙ sym (not_not x.turn));
          }));
      heard = ack_heard e r side moved c d a x (x.at + n) (not x.turn) i w s.host_max s.device_max under there (ap not t);
      told = λ k. absurd (false≢true k);
    }

drops_kept : (e : Endpoint) (r : Request) (side : HostSide) (moved : List ℕ) (c : Stages) (a : List (List ℕ)) (x : GoesOut e r (sight_of (line (data_host side moved) c a)))
    → is_read r.setup ≡ false → (wanted_of r.setup == 0) ≡ false → x.at ≡ length moved + min e.max side.left → side.toggle ≡ not x.turn → Stands e r (line (data_host side moved) c a)
    → IsKept e r (write_call e r side moved) (data_host side moved) c a Drops
drops_kept e r side moved c a x i w ahead t s = record {
  unheard = stands_quiet e r (data_host side moved) _ c a (quiet_row r FailedPinged _ (data_host side moved) refl) s;
  heard = ack_heard e r side moved c c a x x.at x.turn i w s.host_max s.device_max x.under
      (ahead ∙ ap (λ m. length moved + min m side.left) (sym s.host_max) ∙ ap (λ k. length moved + k) (sym (packet_long e r side moved c a x))) (ap not t ∙ not_not x.turn);
  told = λ k. absurd (false≢true k);
}

out_stalls : (e : Endpoint) (r : Request) (side : HostSide) (moved : List ℕ) (c : Stages) (a : List (List ℕ)) → Stands e r (line (data_host side moved) c a)
    → IsKept e r (write_call e r side moved) (data_host side moved) c a Stalls
out_stalls e r side moved c a s = stalls_kept e r (write_call e r side moved) (data_host side moved) c a s (quiet_row r FailedPinged _ (data_host side moved) refl) (quiet_row r Stalled [] (data_host side moved) refl)

-- data of the expected toggle, where they are no more than are to come
next_kept : (e : Endpoint) (r : Request) (side : HostSide) (moved : List ℕ) (c : Stages) (a : List (List ℕ)) (x : GoesOut e r (sight_of (line (data_host side moved) c a))) (status fits : Bool)
    → is_read r.setup ≡ false → (wanted_of r.setup == 0) ≡ false → x.at ≡ length moved → side.toggle ≡ x.turn → Stands e r (line (data_host side moved) c a)
    → IsKept e r (write_call e r side moved) (data_host side moved) c a (out_row Writing Next status (if fits then Some (x.at + length (packet_of r side moved)) else None))
next_kept e r side moved c a x status true i w here t s = takes_kept e r side moved c a x i w here t s
next_kept e r side moved c a x status false i w here t s = out_stalls e r side moved c a s

-- the row of the data packet, by the device's stage
write_row_kept : (e : Endpoint) (r : Request) (side : HostSide) (moved : List ℕ) (c : Stages) (a : List (List ℕ)) (x : GoesOut e r (sight_of (line (data_host side moved) c a))) (stage : DeviceStage) (status fits : Bool)
    → IsStage (e.known r.setup) (wanted_of r.setup == 0) (is_read r.setup) stage
    → is_read r.setup ≡ false → (wanted_of r.setup == 0) ≡ false → Stands e r (line (data_host side moved) c a)
    → IsKept e r (write_call e r side moved) (data_host side moved) c a (out_row stage (sequence_of x.turn (expected_pid side.toggle)) status (if fits then Some (x.at + length (packet_of r side moved)) else None))
write_row_kept e r side moved c a x _ status fits IsRefusing i w s = out_stalls e r side moved c a s
write_row_kept e r side moved c a x _ status fits (IsNoData h) i w s = true_not_false (sym h ∙ w)
write_row_kept e r side moved c a x _ status fits (IsReading reply k h j) i w s = true_not_false (sym j ∙ i)
write_row_kept e r side moved c a x _ status fits (IsAllRead h j) i w s = true_not_false (sym j ∙ i)
write_row_kept e r side moved c a x _ status fits (IsWriting h j) i w s = elim x.near [
  | inl k ↦ subst (λ q. IsKept e r (write_call e r side moved) (data_host side moved) c a (out_row Writing q status (if fits then Some (x.at + length (packet_of r side moved)) else None)))
      (sym (ap (λ b. sequence_of x.turn (expected_pid b)) k.1 ∙ expected_next x.turn)) (next_kept e r side moved c a x status fits i w k.0 k.1 s)
  | inr k ↦ subst (λ q. IsKept e r (write_call e r side moved) (data_host side moved) c a (out_row Writing q status (if fits then Some (x.at + length (packet_of r side moved)) else None)))
      (sym (ap (λ b. sequence_of x.turn (expected_pid b)) k.1 ∙ repeat_sequence x.turn)) (drops_kept e r side moved c a x i w k.0 k.1 s)
]
write_row_kept e r side moved c a x _ status fits (IsAllWritten h j) i w s = elim x.near [
  | inl k ↦ subst (λ q. IsKept e r (write_call e r side moved) (data_host side moved) c a (out_row AllWritten q status (if fits then Some (x.at + length (packet_of r side moved)) else None)))
      (sym (ap (λ b. sequence_of x.turn (expected_pid b)) k.1 ∙ expected_next x.turn)) (out_stalls e r side moved c a s)
  | inr k ↦ subst (λ q. IsKept e r (write_call e r side moved) (data_host side moved) c a (out_row AllWritten q status (if fits then Some (x.at + length (packet_of r side moved)) else None)))
      (sym (ap (λ b. sequence_of x.turn (expected_pid b)) k.1 ∙ repeat_sequence x.turn)) (drops_kept e r side moved c a x i w k.0 k.1 s)
]

-- ---- the transactions

out_keeps : (e : Endpoint) (r : Request) (losses : Losses) (side : HostSide) (moved : List ℕ) (c : Stages) (a : List (List ℕ)) → is_read r.setup ≡ false → (wanted_of r.setup == 0) ≡ false
    → GoesOut e r (sight_of (line (data_host side moved) c a)) → Stands e r (line (data_host side moved) c a)
    → Stands e r (made e r losses (write_call e r side moved) (line (data_host side moved) c a))
out_keeps e r losses side moved c a i w x s =
    let n : ℕ = length (packet_of r side moved) in
    let stage : DeviceStage = stage_of (reply_under e.known c.request) c in
    made_stands e r losses (write_call e r side moved) (data_host side moved) c a
    (stands_quiet e r (data_host side moved) _ c a (quiet_row r FailedPinged _ (data_host side moved) refl) s)
    (unless_kept e r (write_call e r side moved) (data_host side moved) c a (c.naks == 0) (out_row_at stage c.request (expected_pid side.toggle) n)
    (naks_kept e r (write_call e r side moved) (data_host side moved) c a s (quiet_row r FailedPinged _ (data_host side moved) refl) (quiet_row r RefusedPinged [] (data_host side moved) refl))
    (subst (λ q. IsKept e r (write_call e r side moved) (data_host side moved) c a (out_row_at stage q (expected_pid side.toggle) n)) (sym x.under)
    (write_row_kept e r side moved c a x stage (is_status (expected_pid side.toggle) n) (nat_le (x.at + n) (wanted_of r.setup))
    (device_stage e r c x.at x.turn false x.under) i w s)))

-- a PING asks for room, and leaves all as it stands
pub ping_keeps : (e : Endpoint) (r : Request) (losses : Losses) (h : Host) (out : List ℕ) (c : Stages) (a : List (List ℕ)) → Stands e r (line h c a)
    → Stands e r (made e r losses (out_call e Pids.Ping h.side out) (line h c a))
ping_keeps e r losses h out c a s =
    let call : Call = out_call e Pids.Ping h.side out in
    made_stands e r losses call h c a
    (stands_quiet e r h _ c a (quiet_row r FailedPinged _ h refl) s)
    (unless_kept e r call h c a (c.naks == 0) (ping_row (stage_of (reply_under e.known c.request) c))
    (naks_kept e r call h c a s (quiet_row r FailedPinged _ h refl) (quiet_row r NoRoom [] h refl))
    (ping_kept e r call h c a (stage_of (reply_under e.known c.request) c)
    (stalls_kept e r call h c a s (quiet_row r FailedPinged _ h refl) (quiet_row r Stalled [] h refl))
    (room_kept e r call h c a s (quiet_row r FailedPinged _ h refl) (quiet_row r Room [] h refl))))

pub write_keeps : (e : Endpoint) (r : Request) (losses : Losses) (side : HostSide) (moved : List ℕ) (c : Stages) (a : List (List ℕ)) (ping : Bool) → is_read r.setup ≡ false → (wanted_of r.setup == 0) ≡ false
    → GoesOut e r (sight_of (line (data_host side moved) c a)) → Stands e r (line (data_host side moved) c a)
    → Stands e r (made e r losses (out_call e (pinged Control ping) side (packet_of r side moved)) (line (data_host side moved) c a))
write_keeps e r losses side moved c a true i w x s = ping_keeps e r losses (data_host side moved) (packet_of r side moved) c a s
write_keeps e r losses side moved c a false i w x s = out_keeps e r losses side moved c a i w x s
