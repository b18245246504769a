-- Data that a control endpoint answers are no longer than its host can take.
use Rattle.std.proofs.Common.{◌≡◌, ℕ, ◌+◌, ◌-◌, ◌==◌, ◌&&◌, ◌≤◌, ◌⊎◌, Bool, true, false, not, if◌then◌else◌, List, [], length, take, drop, inl, inr, Option, Some, None, refl, sym, ap, ◌∙◌, subst, arith}
use Rattle.std.specs.Prelude.{nat_le, nat_lt, min, ◌||◌}
use Rattle.std.proofs.lemmas.Bool.{le-leb}
use Rattle.std.proofs.lemmas.List.{length-take, length-drop}
use Rattle.law_common.proofs.Booleans.{not_itself}
use Rattle.usb_base.specs.Acknowledgement.{pid_bits, acknowledges}
use Rattle.usb_base.specs.declared.packets.EpKind.TheVariants.{Control}
use Rattle.usb_base.specs.declared.packets.Pid.{Pid}
use Rattle.usb_base.specs.declared.packets.Pid.TheVariants as Pids
use Rattle.usb_base.specs.declared.packets.Reply.{Reply}
use Rattle.usb_base.specs.declared.packets.Reply.TheVariants.{Silent, Bytes, Hand}
use Rattle.usb_base.specs.declared.packets.Split.TheVariants.{Plain}
use Rattle.dev_control.specs.declared.rows.Stage.{Stage as DeviceStage}
use Rattle.dev_control.specs.declared.rows.Stage.TheVariants.{Refusing, Reading, AllRead, Writing, AllWritten, NoData}
use Rattle.dev_control.specs.declared.rows.StageRow.{StageRow}
use Rattle.dev_control.specs.declared.rows.StageRow.TheVariants.{Begins, Ignores, Naks, Sends, Takes, Drops, Acknowledges, Confirms, HasRoom, Stalls}
use Rattle.dev_control.specs.declared.control.Request.{Request as UnderWay}
use Rattle.dev_control.specs.Stages.{Stages, token_of, is_read, wanted_of, data_pid, pid_with, packet_with, write_stage, stage_at, stage_of, in_row, row_by, stage_row, row_reply}
use Rattle.toggle_error.specs.declared.host.HostSide.{HostSide}
use Rattle.toggle_error.specs.Columns.{expected_pid, limit_of}
use Rattle.transactions.specs.Asks.{pinged, token_pid}
use Rattle.transactions.specs.Calls.{Call}
use Rattle.hub_keys.specs.Asks.{classic_of}
use Rattle.tt_bulk.specs.Contents.{Taken}
use Rattle.claims_report.specs.Requests.{Request}
use Rattle.law_request.specs.Host.{Endpoint, Stage, Setup, Data, Status, Done, Halted, is_over, data_token, status_token, token_at}
use Rattle.law_request.specs.Line.{reply_under, answer_of}
use Rattle.law_request.specs.Standing.{sight_of, ComesIn, Moves, StandsAt, Stands}
use Rattle.law_translated.specs.Windows.{Line, Is}
use Rattle.law_below_hubs.specs.ControlWork.{control_call}
use Rattle.law_below_hubs.specs.ControlFits.{AnswersFit}

-- ---- tests

both_acks : (b h x y : Bool) → (b ≡ true → x ≡ y) → (b && h && x) ≡ (b && h && y)
both_acks true h x y same = ap (λ (z : Bool). true && h && z) (same refl)
both_acks false h x y same = refl

by_bit : (b x y : Bool) → x ≡ true → (b ≡ true → y ≡ true) → (not b || x) ≡ (not b || y)
by_bit true x y one other = one ∙ sym (other refl)
by_bit false x y one other = refl

in_of_bits : (pid : Pid) → (pid_bits pid == pid_bits Pids.In) ≡ true → pid ≡ Pids.In
in_of_bits Pids.In h = refl
in_of_bits _ h = absurd cc

same_toggle : (turn toggle : Bool) → (pid_bits (data_pid turn) == pid_bits (expected_pid toggle)) ≡ true → turn ≡ toggle
same_toggle true true h = refl
same_toggle false false h = refl
same_toggle true false h = absurd cc
same_toggle false true h = absurd cc

out_not_in : (ping : Bool) → token_pid Plain Pids.Out (pinged Control ping) ≡ Pids.In → ⊥
out_not_in true h = cc
out_not_in false h = cc

-- ---- the device's row

sends_reading : (b : Bool) (stage : DeviceStage) → (if b then in_row stage else Naks) ≡ Sends → stage ≡ Reading
sends_reading true Reading h = refl
sends_reading true Refusing h = absurd cc
sends_reading true AllRead h = absurd cc
sends_reading true Writing h = absurd cc
sends_reading true AllWritten h = absurd cc
sends_reading true NoData h = absurd cc
sends_reading false stage h = absurd cc

not_reading : (b : Bool) → (if b then Writing else AllWritten) ≡ Reading → ⊥
not_reading true h = cc
not_reading false h = cc

no_status : (b read ping : Bool) (stage : DeviceStage) (wanted moved : ℕ)
    → token_pid Plain (status_token (not b && read)) (pinged Control ping) ≡ Pids.In
    → (if b then NoData else (if read then stage else write_stage wanted moved)) ≡ Reading → ⊥
no_status true read ping stage wanted moved token h = cc
no_status false true ping stage wanted moved token h = out_not_in ping token
no_status false false ping stage wanted moved token h = not_reading (nat_lt moved wanted) h

none_at_status : (o : Option (List ℕ)) (u : UnderWay) (ping : Bool)
    → token_pid Plain (status_token (not (wanted_of u.setup == 0) && is_read u.setup)) (pinged Control ping) ≡ Pids.In
    → stage_at o (Some u) ≡ Reading → ⊥
none_at_status None u ping token h = cc
none_at_status (Some reply) u ping token h =
    no_status (wanted_of u.setup == 0) (is_read u.setup) ping _ (wanted_of u.setup) u.moved token h

record PacketFits (packet : List ℕ) (max wanted at : ℕ) : Type 0 where
  whole : length packet ≤ max
  left : length packet ≤ wanted - at

packet_fits : (max : ℕ) (o : Option (List ℕ)) (u : UnderWay) → PacketFits (packet_with max o (Some u)) max (wanted_of u.setup) u.moved
packet_fits max None u = record { whole = omega arith; left = omega arith }
packet_fits max (Some reply) u =
    let n1 = length-take max (drop u.moved (take (wanted_of u.setup) reply)) in
    let n2 = length-drop u.moved (take (wanted_of u.setup) reply) in
    let n3 = length-take (wanted_of u.setup) reply in
    record { whole = omega (arith, n1); left = omega (arith, n1, n2, n3) }

-- ---- the answer

module _ (e : Endpoint) (r : Request) (a : Taken) (l : Line) (room : e.max ≤ 1024) (is : Is e r l (control_call a))
    (stands : Stands e r l.window) where
  abbrev c : Stages
  c = l.window.device

  abbrev side : HostSide
  side = l.window.host.side

  abbrev known : Option (List ℕ)
  known = reply_under e.known c.request

  abbrev Told : Reply → Type 0
  Told x = acknowledges (classic_of a.ask) x ≡ acknowledges (control_call a).ask x

  toggle_is : a.ask.toggle ≡ expected_pid side.toggle
  toggle_is = ap (λ (x : Call). x.ask.toggle) is.asks

  limit_is : a.ask.limit ≡ limit_of side
  limit_is = ap (λ (x : Call). x.ask.limit) is.asks

  token_is : a.ask.pid ≡ token_pid Plain (token_at r l.window.host.stage) (pinged Control side.ping)
  token_is = ap (λ (x : Call). x.ask.pid) is.asks

  bytes_fit : (pid : Pid) (bytes : List ℕ) → length bytes ≤ 1024
      → ((pid_bits pid == pid_bits a.ask.toggle) ≡ true → nat_le (length bytes) a.ask.limit ≡ true) → Told (Bytes pid bytes)
  bytes_fit pid bytes short fits =
      both_acks (pid_bits a.ask.pid == pid_bits Pids.In) _ _ _ (λ on.
      by_bit (pid_bits pid == pid_bits a.ask.toggle) (nat_le (length bytes) 1024) (nat_le (length bytes) a.ask.limit)
      (le-leb (length bytes) 1024 short) fits)

  -- the next packet of a read
  packet_told : ComesIn e r (sight_of l.window) → Told (Bytes (pid_with c.request) (packet_with c.max known c.request))
  packet_told x =
      let u : UnderWay = record { setup = r.setup; moved = x.at; toggle = x.turn; done = false } in
      let p = packet_fits c.max known u in
      let packet : List ℕ = packet_with c.max known (Some u) in
      let one : c.max ≡ e.max = stands.device_max in
      let two : side.max ≡ e.max = stands.host_max in
      let told : Told (Bytes (data_pid x.turn) packet) = bytes_fit (data_pid x.turn) packet (omega (arith, p.whole, one, room)) (λ on.
      let turn : x.turn ≡ side.toggle = same_toggle x.turn side.toggle
      (ap (λ (t : Pid). pid_bits (data_pid x.turn) == pid_bits t) (sym toggle_is) ∙ on) in
      by x.near turn packet p.whole p.left one two) in
      subst (λ (o : Option UnderWay). Told (Bytes (pid_with o) (packet_with c.max known o))) (sym x.under) told
    where
      by : ((x.at ≡ length l.window.host.moved) × (side.toggle ≡ x.turn))
          ⊎ ((x.at + e.max ≡ length l.window.host.moved) × (side.toggle ≡ not x.turn))
          → x.turn ≡ side.toggle → (packet : List ℕ) → length packet ≤ c.max → length packet ≤ wanted_of r.setup - x.at → c.max ≡ e.max
          → side.max ≡ e.max → nat_le (length packet) a.ask.limit ≡ true
      by (inl near) turn packet whole left one two =
          let n : length packet ≤ min side.max side.left = omega (arith, whole, left, one, two, near.0, x.left) in
          ap (nat_le (length packet)) limit_is ∙ le-leb (length packet) (limit_of side) n
      by (inr near) turn packet whole left one two = absurd (not_itself x.turn (turn ∙ near.1))

  data_told : (b : Bool) → Moves b e r (sight_of l.window) → token_pid Plain (data_token b) (pinged Control side.ping) ≡ Pids.In
      → Told (Bytes (pid_with c.request) (packet_with c.max known c.request))
  data_told true x token = packet_told x
  data_told false x token = absurd (out_not_in side.ping token)

  stage_told : (stage : Stage) → StandsAt e r stage (sight_of l.window) → is_over stage ≡ false
      → token_pid Plain (token_at r stage) (pinged Control side.ping) ≡ Pids.In → stage_of known c ≡ Reading
      → Told (Bytes (pid_with c.request) (packet_with c.max known c.request))
  stage_told Setup at on token reading = absurd cc
  stage_told Data at on token reading = data_told (is_read r.setup) at.way token
  stage_told Status at on token reading = absurd (none_at_status known
      (record { setup = r.setup; moved = at.at; toggle = at.turn; done = at.done }) side.ping token
      (sym (ap (stage_at known) at.under) ∙ reading))
  stage_told Done at on token reading = absurd cc
  stage_told (Halted cause) at on token reading = absurd cc

  row_told : (row : StageRow) → (row ≡ Sends → Told (Bytes (pid_with c.request) (packet_with c.max known c.request)))
      → Told (row_reply row known c)
  row_told (Begins setup) sends = refl
  row_told Ignores sends = refl
  row_told Naks sends = refl
  row_told Sends sends = sends refl
  row_told (Takes to) sends = refl
  row_told Drops sends = refl
  row_told Acknowledges sends = refl
  row_told Confirms sends = bytes_fit Pids.Data1 [] (omega arith) (λ on. le-leb 0 a.ask.limit (omega arith))
  row_told HasRoom sends = refl
  row_told Stalls sends = refl

  -- only an IN is answered with data that are acknowledged
  elsewhere_told : (x : Reply) → (pid_bits a.ask.pid == pid_bits Pids.In) ≡ false → Told x
  elsewhere_told Silent off = refl
  elsewhere_told (Hand pid) off = refl
  elsewhere_told (Bytes pid bytes) off =
      both_acks (pid_bits a.ask.pid == pid_bits Pids.In) _ _ _ (λ on. absurd (let z : true ≡ false = sym on ∙ off in cc))

  answer_told : (b : Bool) → (pid_bits a.ask.pid == pid_bits Pids.In) ≡ b → Told (answer_of e a.ask a.packet c)
  answer_told false off = elsewhere_told (answer_of e a.ask a.packet c) off
  answer_told true on =
      let pid : a.ask.pid ≡ Pids.In = in_of_bits a.ask.pid on in
      row_told (stage_row known c a.ask a.packet) (λ sends.
      stage_told l.window.host.stage stands.stage is.on (sym token_is ∙ pid)
      (sends_reading (c.naks == 0) (stage_of known c)
      (sym (ap (λ (p : Pid). row_by (token_of p) (stage_of known c) c a.ask.toggle a.packet) pid) ∙ sends)))

pub answers_fit : AnswersFit
answers_fit e r a l room is stands = answer_told e r a l room is stands _ refl
