-- The data stage of a read: each packet moves once, whether the host's acknowledgement of it is heard or not.
use Rattle.std.proofs.Common.{◌≡◌, ℕ, ◌+◌, ◌-◌, ◌==◌, ◌&&◌, ◌≤◌, ◌⊎◌, Bool, true, false, not, if◌then◌else◌, List, [], ◌++◌, length, take, drop, inl, inr, Option, Some, None, refl, sym, ap, ◌∙◌, subst, arith}
use Rattle.std.proofs.Math.Bool.{false≢true}
use Rattle.std.proofs.Math.Seq.{drop-append_seam}
use Rattle.std.proofs.lemmas.Bool.{eqb-true, leb-true}
use Rattle.std.proofs.lemmas.Bool.Decides.{leb_tells}
use Rattle.std.proofs.lemmas.Grind.{common_steps}
use Rattle.std.proofs.lemmas.List.{append_assoc, length-take, take-append-drop}
use Rattle.std.specs.Prelude.{nat_le}
use Rattle.law_common.proofs.Lists.{take_whole}
use Rattle.usb_base.specs.declared.packets.Pid.TheVariants as Pids
use Rattle.usb_base.specs.declared.packets.Reply.TheVariants.{Bytes}
use Rattle.dev_control.specs.declared.control.Request.{Request as UnderWay}
use Rattle.dev_control.specs.declared.rows.Stage.{Stage as DeviceStage}
use Rattle.dev_control.specs.declared.rows.Stage.TheVariants.{Reading}
use Rattle.dev_control.specs.declared.rows.StageRow.TheVariants.{Sends}
use Rattle.dev_control.specs.Stages.{Stages, is_read, wanted_of, sent_of, data_pid, pid_with, packet_with, stage_of, in_row, row_reply, acked_with}
use Rattle.toggle_error.specs.declared.host.HostSide.{HostSide}
use Rattle.toggle_error.specs.declared.rows.AskToken.TheVariants as Tokens
use Rattle.toggle_error.specs.declared.rows.Heard.{Heard}
use Rattle.toggle_error.specs.declared.rows.Heard.TheVariants as Heards
use Rattle.toggle_error.specs.declared.rows.PlainRow.TheVariants.{Repeated, Refused, Stalled, Failed}
use Rattle.toggle_error.specs.Columns.{limit_of, heard_data, fitting}
use Rattle.toggle_error.specs.PlainRows.{plain_row, moved_in}
use Rattle.transactions.specs.Calls.{Call, high_call}
use Rattle.bus_wire.specs.declared.asked.Losses.{Losses}
use Rattle.claims_report.specs.Requests.{Request, read_with}
use Rattle.law_request.specs.Host.{Endpoint, Data, Host, endpoint_pipe, goes_on, heard_by}
use Rattle.law_request.specs.Line.{reply_under, acked, made}
use Rattle.law_request.specs.Windows.{data_of}
use Rattle.law_request.specs.Standing.{sight_of, ComesIn, Moves, Stands, under_way}
use Rattle.law_request.proofs.Hearing.{line, IsKept, row_host, made_stands, quiet_row, stands_quiet, halted_stands, reply_is_data, true_not_false}
use Rattle.law_request.proofs.Rows.{IsStage, IsRefusing, IsNoData, IsReading, IsAllRead, IsWriting, IsAllWritten, device_stage, naks_kept, stalls_kept, unless_kept, acked_max}

abbrev read_call : Endpoint → HostSide → Call
read_call e side = high_call (endpoint_pipe e Pids.In) side []

abbrev pub data_host : HostSide → List ℕ → Host
data_host side moved = record { stage = Data; side = side; moved = moved }

-- ---- plain lists and numbers

-- the packet at the host's place begins what is later
packet_later : (m at : ℕ) (moved later whole : List ℕ) → moved ++ later ≡ whole → at ≡ length moved → take m (drop at whole) ≡ take m later
packet_later m at moved later whole w h = ap (λ x. take m (drop at x)) (sym w) ∙ ap (λ n. take m (drop n (moved ++ later))) h ∙ ap (take m) (drop-append_seam moved later)

pub whole_after : (m : ℕ) (moved later whole : List ℕ) → moved ++ later ≡ whole → (moved ++ take m later) ++ drop m later ≡ whole
whole_after m moved later whole w = append_assoc moved (take m later) (drop m later) ∙ ap (λ x. moved ++ x) (take-append-drop m later) ∙ w

left_after : (left n moved wanted : ℕ) → left + moved ≡ wanted → n ≤ left → left - n + (moved + n) ≡ wanted
left_after left n moved wanted h k = omega (arith, h, k)

-- a packet that isn't the last one is full
grown : (m : ℕ) (later : List ℕ) → m ≤ length (take m later) → length (take m later) ≡ m
grown m later h = omega (arith, h, length-take m later)

-- a packet that isn't full, or fills what was asked, is the last one
last_packet : (m left moved wanted : ℕ) (later : List ℕ) → left + moved ≡ wanted → length later + moved ≤ wanted
    → (length (take m later) + 1 ≤ m) ⊎ (left ≤ length (take m later)) → length later ≤ m
last_packet m left moved wanted later h k s = elim s [
  | inl short ↦ omega (arith, short, length-take m later)
  | inr full ↦ omega (arith, full, h, k, length-take m later)
]

-- a sum of conditions that fails, fails at one of them
which : (a b : Bool) → (a && not b && true) ≡ false → (a ≡ false) ⊎ (b ≡ true)
which true true h = inr refl
which true false h = true_not_false h
which false b h = inl refl

both : (a b c : Bool) → (a && not b && c) ≡ true → a ≡ true
both true b c h = refl
both false b c h = absurd (false≢true h)

not_full : (m n : ℕ) → nat_le m n ≡ false → n + 1 ≤ m
not_full m n h = grind (arith, leb_tells m n)

none_left : (left n : ℕ) → (left - n == 0) ≡ true → left ≤ n
none_left left n h = omega (arith, eqb-true (left - n) 0 h)

-- the data of a read are no more than it asked for
read_fits_with : (r : Request) (known : Option (List ℕ)) → length (read_with r.setup known) ≤ wanted_of r.setup
read_fits_with r None = grind arith
read_fits_with r (Some reply) = omega (arith, length-take (wanted_of r.setup) reply)

read_fits : (e : Endpoint) (r : Request) → is_read r.setup ≡ true → length (data_of e r) ≤ wanted_of r.setup
read_fits e r i = subst (λ b. length (if b then read_with r.setup (e.known r.setup) else r.bytes) ≤ wanted_of r.setup) (sym i) (read_fits_with r (e.known r.setup))

length_parts : (moved later whole : List ℕ) (wanted : ℕ) → moved ++ later ≡ whole → length whole ≤ wanted → length later + length moved ≤ wanted
length_parts moved later whole wanted h k = grind (arith, common_steps)

-- ---- a packet that is heard

-- where the device is, after the packet at `at` with this toggle was sent: there still, or past it
data IsBeside (m at : ℕ) (turn : Bool) : ℕ → Bool → Type 0 where
  Here : IsBeside m at turn at turn
  Past : IsBeside m at turn (at + m) (not turn)

near_grown : (m at later : ℕ) (turn toggle turned : Bool) (to : ℕ) → IsBeside m at turn to turned → toggle ≡ turn → at + m ≡ later
    → ((to ≡ later) × (not toggle ≡ turned)) ⊎ ((to + m ≡ later) × (not toggle ≡ not turned))
near_grown m at later turn toggle _ _ Here t g = inr (g, ap not t)
near_grown m at later turn toggle _ _ Past t g = inl (g, ap not t)

near_behind : (m at moved : ℕ) (turn toggle turned : Bool) (to : ℕ) → IsBeside m at turn to turned → toggle ≡ not turn → at + m ≡ moved
    → ((to ≡ moved) × (toggle ≡ turned)) ⊎ ((to + m ≡ moved) × (toggle ≡ not turned))
near_behind m at moved turn toggle _ _ Here t g = inr (g, t)
near_behind m at moved turn toggle _ _ Past t g = inl (g, t)

repeat_heard : (turn : Bool) (fits : Heard) → heard_data (not turn) (data_pid turn) fits ≡ Heards.Repeat
repeat_heard true fits = refl
repeat_heard false fits = refl

next_heard : (turn : Bool) (fits : Heard) → heard_data turn (data_pid turn) fits ≡ fits
next_heard true fits = refl
next_heard false fits = refl

-- what stands in a data stage that the host and the device go on with
read_stands : (e : Endpoint) (r : Request) (side : HostSide) (moved : List ℕ) (d : Stages) (a : List (List ℕ)) → is_read r.setup ≡ true → (wanted_of r.setup == 0) ≡ false
    → side.max ≡ e.max → d.max ≡ e.max → ComesIn e r (sight_of (line (data_host side moved) d a)) → Stands e r (line (data_host side moved) d a)
read_stands e r side moved d a i w hm dm x = record {
  host_max = hm;
  device_max = dm;
  stage = record { wanted = w; way = subst (λ b. Moves b e r (sight_of (line (data_host side moved) d a))) (sym i) x };
}

-- the host took the packet
took : (e : Endpoint) (r : Request) (side : HostSide) (moved : List ℕ) (c d : Stages) (a : List (List ℕ)) (x : ComesIn e r (sight_of (line (data_host side moved) c a)))
    (at to : ℕ) (turn turned : Bool) (packet : List ℕ) (b : Bool)
    → is_read r.setup ≡ true → (wanted_of r.setup == 0) ≡ false → side.max ≡ e.max → d.max ≡ e.max → IsBeside e.max at turn to turned → d.request ≡ under_way r to turned false
    → packet ≡ take e.max x.later → at ≡ length moved → side.toggle ≡ turn → length packet ≤ side.left
    → (nat_le side.max (length packet) && not (side.left - length packet == 0) && side.active) ≡ b
    → Stands e r (line (goes_on r b (moved_in (length packet) side) (moved ++ packet) (data_host side moved)) d a)
took e r side moved c d a x at to turn turned packet true i w hm dm beside under p here t fits go =
    let full : side.max ≤ length packet = leb-true side.max (length packet) (both (nat_le side.max (length packet)) (side.left - length packet == 0) side.active go) in
    let many : length packet ≡ e.max = ap length p ∙ grown e.max x.later (subst (λ n. n ≤ length (take e.max x.later)) hm (subst (λ y. side.max ≤ length y) p full)) in
    let longer : length (moved ++ packet) ≡ length moved + length packet = grind (arith, common_steps) in
    read_stands e r (moved_in (length packet) side) (moved ++ packet) d a i w hm dm (record {
      at = to;
      turn = turned;
      under = under;
      acts = x.acts;
      active = go;
      later = drop e.max x.later;
      whole = ap (λ y. (moved ++ y) ++ drop e.max x.later) p ∙ whole_after e.max moved x.later (data_of e r) x.whole;
      left = ap (λ n. side.left - length packet + n) longer ∙ left_after side.left (length packet) (length moved) (wanted_of r.setup) x.left fits;
      near = near_grown e.max at (length (moved ++ packet)) turn side.toggle turned to beside t (omega (arith, here, longer, many));
    })
took e r side moved c d a x at to turn turned packet false i w hm dm beside under p here t fits go =
    let stops : (nat_le side.max (length packet) ≡ false) ⊎ ((side.left - length packet == 0) ≡ true) =
    which (nat_le side.max (length packet)) (side.left - length packet == 0) (subst (λ y. (nat_le side.max (length packet) && not (side.left - length packet == 0) && y) ≡ false) x.active go) in
    let short : (length (take e.max x.later) + 1 ≤ e.max) ⊎ (side.left ≤ length (take e.max x.later)) = elim stops [
      | inl k ↦ inl (subst (λ n. length (take e.max x.later) + 1 ≤ n) hm (subst (λ y. length y + 1 ≤ side.max) p (not_full side.max (length packet) k)))
      | inr k ↦ inr (subst (λ y. side.left ≤ length y) p (none_left side.left (length packet) k))
    ] in
    let rest : length x.later ≤ e.max = last_packet e.max side.left (length moved) (wanted_of r.setup) x.later x.left (length_parts moved x.later (data_of e r) (wanted_of r.setup) x.whole (read_fits e r i)) short in
    record {
      host_max = hm;
      device_max = dm;
      stage = record {
        at = to;
        turn = turned;
        done = false;
        under = under;
        moved = ap (λ y. moved ++ y) (p ∙ take_whole e.max x.later rest) ∙ x.whole;
        toggle = refl;
        left = refl;
        acts = inl (refl, x.acts);
      };
    }

-- the packet that comes next is no longer than the host can take, or it is
expected : (e : Endpoint) (r : Request) (side : HostSide) (moved : List ℕ) (c d : Stages) (a : List (List ℕ)) (x : ComesIn e r (sight_of (line (data_host side moved) c a)))
    (at to : ℕ) (turn turned : Bool) (packet : List ℕ) (fits : Bool)
    → is_read r.setup ≡ true → (wanted_of r.setup == 0) ≡ false → side.max ≡ e.max → d.max ≡ e.max → IsBeside e.max at turn to turned → d.request ≡ under_way r to turned false
    → packet ≡ take e.max x.later → at ≡ length moved → side.toggle ≡ turn → nat_le (length packet) (limit_of side) ≡ fits → Stands e r (line (data_host side moved) c a)
    → Stands e r (line (row_host r (plain_row Tokens.In (if fits then Heards.Fitting (length packet) else Heards.TooLong) 0) packet (data_host side moved)) d a)
expected e r side moved c d a x at to turn turned packet true i w hm dm beside under p here t f s =
    took e r side moved c d a x at to turn turned packet (moved_in (length packet) side).active i w hm dm beside under p here t (omega (arith, leb-true (length packet) (limit_of side) f)) refl
expected e r side moved c d a x at to turn turned packet false i w hm dm beside under p here t f s = halted_stands e r (data_host side moved) _ _ c d a refl dm s

packet_heard : (e : Endpoint) (r : Request) (side : HostSide) (moved : List ℕ) (c d : Stages) (a : List (List ℕ)) (x : ComesIn e r (sight_of (line (data_host side moved) c a))) (to : ℕ) (turned : Bool)
    → is_read r.setup ≡ true → (wanted_of r.setup == 0) ≡ false → d.max ≡ e.max → IsBeside e.max x.at x.turn to turned → d.request ≡ under_way r to turned false
    → Stands e r (line (data_host side moved) c a)
    → Stands e r (line (heard_by r (read_call e side) (Bytes (data_pid x.turn) (take e.max (drop x.at (data_of e r)))) (data_host side moved)) d a)
packet_heard e r side moved c d a x to turned i w dm beside under s =
    let packet : List ℕ = take e.max (drop x.at (data_of e r)) in
    let fits : Heard = fitting (length packet) (limit_of side) in
    elim x.near [
      | inl h ↦ subst (λ heard. Stands e r (line (row_host r (plain_row Tokens.In heard 0) packet (data_host side moved)) d a))
          (sym (ap (λ b. heard_data b (data_pid x.turn) fits) h.1 ∙ next_heard x.turn fits))
          (expected e r side moved c d a x x.at to x.turn turned packet (nat_le (length packet) (limit_of side)) i w s.host_max dm beside under
          (packet_later e.max x.at moved x.later (data_of e r) x.whole h.0) h.0 h.1 refl s)
      | inr h ↦ subst (λ heard. Stands e r (line (row_host r (plain_row Tokens.In heard 0) packet (data_host side moved)) d a))
          (sym (ap (λ b. heard_data b (data_pid x.turn) fits) h.1 ∙ repeat_heard x.turn fits))
          (stands_quiet e r (data_host side moved) _ d a (quiet_row r Repeated packet (data_host side moved) refl)
          (read_stands e r side moved d a i w s.host_max dm (record {
            at = to;
            turn = turned;
            under = under;
            acts = x.acts;
            active = x.active;
            later = x.later;
            whole = x.whole;
            left = x.left;
            near = near_behind e.max x.at (length moved) x.turn side.toggle turned to beside h.1 h.0;
          })))
    ]

-- ---- the rows

sends_reply : (e : Endpoint) (r : Request) (c : Stages) (at : ℕ) (turn : Bool) (reply : List ℕ) → is_read r.setup ≡ true → c.max ≡ e.max → c.request ≡ under_way r at turn false
    → e.known r.setup ≡ Some reply → row_reply Sends (reply_under e.known c.request) c ≡ Bytes (data_pid turn) (take e.max (drop at (data_of e r)))
sends_reply e r c at turn reply i cm under k =
    let u : UnderWay = record { setup = r.setup; moved = at; toggle = turn; done = false } in
    ap (λ q. Bytes (pid_with q) (packet_with c.max (reply_under e.known q) q)) under
    ∙ ap (λ known. Bytes (data_pid turn) (packet_with c.max known (Some u))) k
    ∙ ap (λ m. Bytes (data_pid turn) (take m (drop at (sent_of r.setup reply)))) cm
    ∙ ap (λ whole. Bytes (data_pid turn) (take e.max (drop at whole))) (reply_is_data e r reply i k)

acked_request : (e : Endpoint) (r : Request) (c : Stages) (at : ℕ) (turn : Bool) → stage_of (reply_under e.known c.request) c ≡ Reading → c.max ≡ e.max → c.request ≡ under_way r at turn false
    → (acked e c).request ≡ under_way r (at + e.max) (not turn) false
acked_request e r c at turn st cm under =
    ap (λ stage. (acked_with stage c.request c).request) st
    ∙ ap (λ q. (acked_with Reading q c).request) under
    ∙ ap (λ m. under_way r (at + m) (not turn) false) cm

sends_kept : (e : Endpoint) (r : Request) (side : HostSide) (moved : List ℕ) (c : Stages) (a : List (List ℕ)) (reply : List ℕ) (x : ComesIn e r (sight_of (line (data_host side moved) c a)))
    → is_read r.setup ≡ true → (wanted_of r.setup == 0) ≡ false → e.known r.setup ≡ Some reply → stage_of (reply_under e.known c.request) c ≡ Reading
    → Stands e r (line (data_host side moved) c a) → IsKept e r (read_call e side) (data_host side moved) c a Sends
sends_kept e r side moved c a reply x i w k st s =
    let sent : row_reply Sends (reply_under e.known c.request) c ≡ Bytes (data_pid x.turn) (take e.max (drop x.at (data_of e r))) = sends_reply e r c x.at x.turn reply i s.device_max x.under k in
    record {
      unheard = stands_quiet e r (data_host side moved) _ c a (quiet_row r Failed _ (data_host side moved) refl) s;
      heard = subst (λ y. Stands e r (line (heard_by r (read_call e side) y (data_host side moved)) c a)) (sym sent)
          (packet_heard e r side moved c c a x x.at x.turn i w s.device_max Here x.under s);
      told = λ acknowledged. subst (λ y. Stands e r (line (heard_by r (read_call e side) y (data_host side moved)) (acked e c) a)) (sym sent)
          (packet_heard e r side moved c (acked e c) a x (x.at + e.max) (not x.turn) i w (acked_max e c ∙ s.device_max) Past (acked_request e r c x.at x.turn st s.device_max x.under) s);
    }

read_row_kept : (e : Endpoint) (r : Request) (side : HostSide) (moved : List ℕ) (c : Stages) (a : List (List ℕ)) (x : ComesIn e r (sight_of (line (data_host side moved) c a))) (stage : DeviceStage)
    → IsStage (e.known r.setup) (wanted_of r.setup == 0) (is_read r.setup) stage → stage_of (reply_under e.known c.request) c ≡ stage
    → is_read r.setup ≡ true → (wanted_of r.setup == 0) ≡ false → Stands e r (line (data_host side moved) c a)
    → IsKept e r (read_call e side) (data_host side moved) c a (in_row stage)
read_row_kept e r side moved c a x _ IsRefusing st i w s = stalls_kept e r (read_call e side) (data_host side moved) c a s (quiet_row r Failed _ (data_host side moved) refl) (quiet_row r Stalled [] (data_host side moved) refl)
read_row_kept e r side moved c a x _ (IsNoData h) st i w s = true_not_false (sym h ∙ w)
read_row_kept e r side moved c a x _ (IsReading reply k h j) st i w s = sends_kept e r side moved c a reply x i w k st s
read_row_kept e r side moved c a x _ (IsAllRead h j) st i w s = stalls_kept e r (read_call e side) (data_host side moved) c a s (quiet_row r Failed _ (data_host side moved) refl) (quiet_row r Stalled [] (data_host side moved) refl)
read_row_kept e r side moved c a x _ (IsWriting h j) st i w s = true_not_false (sym i ∙ j)
read_row_kept e r side moved c a x _ (IsAllWritten h j) st i w s = true_not_false (sym i ∙ j)

pub read_keeps : (e : Endpoint) (r : Request) (losses : Losses) (side : HostSide) (moved : List ℕ) (c : Stages) (a : List (List ℕ)) → is_read r.setup ≡ true → (wanted_of r.setup == 0) ≡ false
    → ComesIn e r (sight_of (line (data_host side moved) c a)) → Stands e r (line (data_host side moved) c a)
    → Stands e r (made e r losses (read_call e side) (line (data_host side moved) c a))
read_keeps e r losses side moved c a i w x s =
    made_stands e r losses (read_call e side) (data_host side moved) c a
    (stands_quiet e r (data_host side moved) _ c a (quiet_row r Failed _ (data_host side moved) refl) s)
    (unless_kept e r (read_call e side) (data_host side moved) c a (c.naks == 0) (in_row (stage_of (reply_under e.known c.request) c))
    (naks_kept e r (read_call e side) (data_host side moved) c a s (quiet_row r Failed _ (data_host side moved) refl) (quiet_row r Refused [] (data_host side moved) refl))
    (read_row_kept e r side moved c a x (stage_of (reply_under e.known c.request) c) (device_stage e r c x.at x.turn false x.under) refl i w s))
