-- The later stages of a transfer, for each kind of answer.
use Rattle.std.proofs.Common.{◌≡◌, ◌≢◌, ℕ, ◌+◌, Bool, true, false, List, [], length, take, Option, Some, None, refl, sym, ap, ◌∙◌, ◌∷◌, subst, if◌then◌else◌, arith}
use Rattle.std.specs.Prelude.{◌==◌}
use Rattle.std.proofs.lemmas.Bool.{eq-eqb}
use Rattle.usb_base.specs.declared.packets.Ask.{Ask}
use Rattle.usb_base.specs.declared.packets.Pid.{Pid}
use Rattle.usb_base.specs.declared.packets.Pid.TheVariants as Pids
use Rattle.usb_base.specs.declared.packets.Reply.TheVariants.{Bytes, Hand}
use Rattle.dev_control.specs.declared.control.Request.{Request}
use Rattle.dev_control.specs.declared.rows.Stage.{Stage}
use Rattle.dev_control.specs.declared.rows.Stage.TheVariants.{Refusing, Reading, AllRead, NoData}
use Rattle.dev_control.specs.declared.rows.StageRow.TheVariants.{Confirms, Sends, Acknowledges, Stalls}
use Rattle.dev_control.specs.declared.rows.StageToken.{StageToken}
use Rattle.dev_control.specs.declared.rows.StageToken.TheVariants as Tokens
use Rattle.dev_control.specs.Stages.{Stages, token_of, wanted_of, begun_with, is_read, data_stage, read_stage, write_stage, stage_of, stage_at, in_row, out_row_at, row_by, packet_with, packet_at, acked_with}
use Rattle.hub_ports.specs.declared.rows.HubReply.{HubReply}
use Rattle.hub_ports.specs.declared.rows.HubReply.TheVariants as Answers
use Rattle.hub_ports.specs.declared.rows.HubRequest.{HubRequest}
use Rattle.hub_ports.specs.declared.rows.HubRequest.TheVariants.{HubStatus, ChangePort, ClearBuffer, ResetTranslator}
use Rattle.hub_class.specs.HubContent.{HubContent}
use Rattle.hub_class.specs.Requesting.{effect_if, reply_if, request_at, requested, request_answer}
use Rattle.hub_class.specs.EndpointZero.{reply_bytes, reply_under, suits, row_at, hub_reply, hub_answered, hub_acked}
use Rattle.law_hub.specs.Stages.{Hears, IsReady, told, under, finished, read_of}
use Rattle.law_hub.proofs.Answers.{ReadsFour, change_has_no_data, read_has_four}
use Rattle.law_hub.proofs.Rows.{reply_by_row, after_by_row, row_by_token, never_busy, setup_after}

-- what is under way has no part in an answer or an effect
answer_same : (request : Option HubRequest) (u : Request) (h : HubContent) → reply_if request (under u h) ≡ reply_if request h
answer_same None u h = refl
answer_same (Some request) u h = refl

effect_same : (request : Option HubRequest) (c : Stages) (h : HubContent) → effect_if request (record h { control = c }) ≡ record (effect_if request h) { control = c }
effect_same (Some HubStatus) c h = refl
effect_same _ c h = refl

-- the reply to the request that is under way
reply_is : (u : Request) (h : HubContent) (answer : HubReply) → request_answer u.setup h ≡ answer → reply_under (under u h) ≡ reply_bytes answer
reply_is u h answer e = ap reply_bytes (answer_same (request_at u.setup h) u h ∙ e)

stage_is : (u : Request) (h : HubContent) (answer : HubReply) → request_answer u.setup h ≡ answer → stage_of (reply_under (under u h)) (under u h).control ≡ stage_at (reply_bytes answer) (Some u)
stage_is u h answer e = ap (λ (r : Option (List ℕ)). stage_at r (Some u)) (reply_is u h answer e)

-- the row of an IN
in_row_at : (b : Ask) (out : List ℕ) (u : Request) (h : HubContent) (answer : HubReply) → IsReady h → Hears Tokens.In b h → request_answer u.setup h ≡ answer → row_at b out (under u h) ≡ in_row (stage_at (reply_bytes answer) (Some u))
in_row_at b out u h answer ready hears e =
    row_by_token Tokens.In b out (under u h) hears.token_is
    ∙ never_busy h.control.naks (in_row (stage_of (reply_under (under u h)) (under u h).control)) ready.naks
    ∙ ap in_row (stage_is u h answer e)

-- ---- a change

no_data_if : (b : Bool) (stage : Stage) → b ≡ true → (if b then NoData else stage) ≡ NoData
no_data_if b stage e = subst (λ (x : Bool). (if x then NoData else stage) ≡ NoData) (sym e) refl

confirms : (b : Ask) (setup out : List ℕ) (h : HubContent) → IsReady h → request_answer setup h ≡ Answers.Done → Hears Tokens.In b h → row_at b out (told setup h) ≡ Confirms
confirms b setup out h ready e hears =
    in_row_at b out (begun_with setup) h Answers.Done ready hears e
    ∙ ap in_row (no_data_if (wanted_of setup == 0) (data_stage setup [] 0) (eq-eqb (wanted_of setup) 0 (change_has_no_data setup h e)))

effect_finished : (request : Option HubRequest) (u : Request) (h : HubContent) → effect_if request (finished u h) ≡ finished u (effect_if request h)
effect_finished (Some HubStatus) u h = refl
effect_finished _ u h = refl

pub change_reply : (a b : Ask) (setup out : List ℕ) (h : HubContent) → IsReady h → Hears Tokens.Setup a h → length setup ≡ 8 → request_answer setup h ≡ Answers.Done → Hears Tokens.In b h → hub_reply b out (hub_answered a setup h) ≡ Bytes Pids.Data1 []
change_reply a b setup out h ready heard n e hears =
    ap (hub_reply b out) (setup_after a setup h heard n)
    ∙ reply_by_row b out (told setup h) Confirms hears.suited (confirms b setup out h ready e hears)

pub change_after : (a b : Ask) (setup out : List ℕ) (h : HubContent) → IsReady h → Hears Tokens.Setup a h → length setup ≡ 8 → request_answer setup h ≡ Answers.Done → Hears Tokens.In b h → hub_answered b out (hub_answered a setup h) ≡ finished (begun_with setup) (requested setup h)
change_after a b setup out h ready heard n e hears =
    ap (hub_answered b out) (setup_after a setup h heard n)
    ∙ after_by_row b out (told setup h) Confirms hears.suited (confirms b setup out h ready e hears)
    ∙ effect_finished (request_at setup h) (begun_with setup) h

-- ---- a read

take_four : (bytes : List ℕ) → length bytes ≡ 4 → take 4 bytes ≡ bytes
take_four (w ∷ x ∷ y ∷ z ∷ []) e = refl
take_four _ e = absurd (omega (arith, e))

packet_four : (bytes : List ℕ) → length bytes ≡ 4 → packet_at 64 bytes 0 ≡ bytes
packet_four (w ∷ x ∷ y ∷ z ∷ []) e = refl
packet_four _ e = absurd (omega (arith, e))

sent_four : (wanted : ℕ) (bytes : List ℕ) → wanted ≡ 4 → length bytes ≡ 4 → take wanted bytes ≡ bytes
sent_four wanted bytes w n = ap (λ (k : ℕ). take k bytes) w ∙ take_four bytes n

stage_four : (wanted : ℕ) (read : Bool) (n moved : ℕ) → wanted ≡ 4 → read ≡ true → n ≡ 4 → (if wanted == 0 then NoData else (if read then read_stage wanted n moved else write_stage wanted moved)) ≡ read_stage 4 4 moved
stage_four wanted read n moved a b c =
    subst (λ (w : ℕ). (if w == 0 then NoData else (if read then read_stage w n moved else write_stage w moved)) ≡ read_stage 4 4 moved) (sym a)
    (subst (λ (r : Bool). (if r then read_stage 4 n moved else write_stage 4 moved) ≡ read_stage 4 4 moved) (sym b)
    (ap (λ (m : ℕ). read_stage 4 m moved) c))

stage_of_read : (u : Request) (bytes : List ℕ) (h : HubContent) → request_answer u.setup h ≡ Answers.Bytes bytes → stage_at (Some bytes) (Some u) ≡ read_stage 4 4 u.moved
stage_of_read u bytes h e =
    let r : ReadsFour u.setup bytes = read_has_four u.setup bytes h e in
    stage_four (wanted_of u.setup) (is_read u.setup) (length (take (wanted_of u.setup) bytes)) u.moved r.wants r.reads (ap length (sent_four (wanted_of u.setup) bytes r.wants r.has) ∙ r.has)

sends : (b : Ask) (setup bytes out : List ℕ) (h : HubContent) → IsReady h → request_answer setup h ≡ Answers.Bytes bytes → Hears Tokens.In b h → row_at b out (told setup h) ≡ Sends
sends b setup bytes out h ready e hears =
    in_row_at b out (begun_with setup) h (Answers.Bytes bytes) ready hears e
    ∙ ap in_row (stage_of_read (begun_with setup) bytes h e)

packet_is : (setup bytes : List ℕ) (h : HubContent) → IsReady h → request_answer setup h ≡ Answers.Bytes bytes → packet_with h.control.max (reply_under (told setup h)) (Some (begun_with setup)) ≡ bytes
packet_is setup bytes h ready e =
    let r : ReadsFour setup bytes = read_has_four setup bytes h e in
    ap (λ (reply : Option (List ℕ)). packet_with h.control.max reply (Some (begun_with setup))) (reply_is (begun_with setup) h (Answers.Bytes bytes) e)
    ∙ ap (λ (sent : List ℕ). packet_at h.control.max sent 0) (sent_four (wanted_of setup) bytes r.wants r.has)
    ∙ ap (λ (max : ℕ). packet_at max bytes 0) ready.max
    ∙ packet_four bytes r.has

pub read_reply : (a b : Ask) (setup bytes out : List ℕ) (h : HubContent) → IsReady h → Hears Tokens.Setup a h → length setup ≡ 8 → request_answer setup h ≡ Answers.Bytes bytes → Hears Tokens.In b h → hub_reply b out (hub_answered a setup h) ≡ Bytes Pids.Data1 bytes
read_reply a b setup bytes out h ready heard n e hears =
    ap (hub_reply b out) (setup_after a setup h heard n)
    ∙ reply_by_row b out (told setup h) Sends hears.suited (sends b setup bytes out h ready e hears)
    ∙ ap (λ (x : List ℕ). Bytes Pids.Data1 x) (packet_is setup bytes h ready e)

pub read_sent : (a b : Ask) (setup bytes out : List ℕ) (h : HubContent) → IsReady h → Hears Tokens.Setup a h → length setup ≡ 8 → request_answer setup h ≡ Answers.Bytes bytes → Hears Tokens.In b h → hub_answered b out (hub_answered a setup h) ≡ told setup h
read_sent a b setup bytes out h ready heard n e hears =
    ap (hub_answered b out) (setup_after a setup h heard n)
    ∙ after_by_row b out (told setup h) Sends hears.suited (sends b setup bytes out h ready e hears)

received_by : (b : Bool) (stage : Stage) (setup : List ℕ) (h : HubContent) → IsReady h → b ≡ true → stage ≡ Reading → (if b then record h { control = acked_with stage (Some (begun_with setup)) (told setup h).control } else told setup h) ≡ under (read_of setup) h
received_by b stage setup h ready e f =
    subst (λ (x : Bool). (if x then record h { control = acked_with stage (Some (begun_with setup)) (told setup h).control } else told setup h) ≡ under (read_of setup) h) (sym e)
    (subst (λ (s : Stage). record h { control = acked_with s (Some (begun_with setup)) (told setup h).control } ≡ under (read_of setup) h) (sym f)
    (ap (λ (max : ℕ). under (record { setup = setup; moved = 0 + max; toggle = false; done = false }) h) ready.max))

pub read_received : (b : Ask) (setup bytes : List ℕ) (h : HubContent) → IsReady h → request_answer setup h ≡ Answers.Bytes bytes → Hears Tokens.In b h → hub_acked b (told setup h) ≡ under (read_of setup) h
read_received b setup bytes h ready e hears =
    received_by (suits b h) (stage_of (reply_under (told setup h)) (told setup h).control) setup h ready hears.suited
    (stage_is (begun_with setup) h (Answers.Bytes bytes) e ∙ stage_of_read (begun_with setup) bytes h e)

-- the status packet of a read that is all read
status_row : (toggle : Pid) (u : Request) → toggle ≡ Pids.Data1 → out_row_at AllRead (Some u) toggle 0 ≡ Acknowledges
status_row toggle u e = subst (λ (t : Pid). out_row_at AllRead (Some u) t 0 ≡ Acknowledges) (sym e) refl

acknowledges : (c : Ask) (setup bytes : List ℕ) (h : HubContent) → IsReady h → request_answer setup h ≡ Answers.Bytes bytes → Hears Tokens.Out c h → c.toggle ≡ Pids.Data1 → row_at c [] (under (read_of setup) h) ≡ Acknowledges
acknowledges c setup bytes h ready e hears t =
    let u : Request = read_of setup in
    row_by_token Tokens.Out c [] (under u h) hears.token_is
    ∙ never_busy h.control.naks (out_row_at (stage_of (reply_under (under u h)) (under u h).control) (Some u) c.toggle 0) ready.naks
    ∙ ap (λ (s : Stage). out_row_at s (Some u) c.toggle 0) (stage_is u h (Answers.Bytes bytes) e ∙ stage_of_read u bytes h e)
    ∙ status_row c.toggle u t

read_leaves : (request : Option HubRequest) (h : HubContent) (bytes : List ℕ) → reply_if request h ≡ Answers.Bytes bytes → effect_if request h ≡ h
read_leaves (Some (ChangePort port change)) h bytes e = absurd cc
read_leaves (Some (ClearBuffer port key)) h bytes e = absurd cc
read_leaves (Some (ResetTranslator port)) h bytes e = absurd cc
read_leaves _ h bytes e = refl

pub read_status : (c : Ask) (setup bytes : List ℕ) (h : HubContent) → IsReady h → request_answer setup h ≡ Answers.Bytes bytes → Hears Tokens.Out c h → c.toggle ≡ Pids.Data1 → hub_reply c [] (under (read_of setup) h) ≡ Hand Pids.Ack
read_status c setup bytes h ready e hears t = reply_by_row c [] (under (read_of setup) h) Acknowledges hears.suited (acknowledges c setup bytes h ready e hears t)

pub read_after : (c : Ask) (setup bytes : List ℕ) (h : HubContent) → IsReady h → request_answer setup h ≡ Answers.Bytes bytes → Hears Tokens.Out c h → c.toggle ≡ Pids.Data1 → hub_answered c [] (under (read_of setup) h) ≡ finished (read_of setup) h
read_after c setup bytes h ready e hears t =
    after_by_row c [] (under (read_of setup) h) Acknowledges hears.suited (acknowledges c setup bytes h ready e hears t)
    ∙ effect_finished (request_at setup h) (read_of setup) h
    ∙ ap (finished (read_of setup)) (read_leaves (request_at setup h) h bytes e)

-- ---- a request that the hub doesn't know

refusing_row : (token : StageToken) (c : Stages) (u : Request) (pid : Pid) (out : List ℕ) → c.naks ≡ 0 → c.request ≡ Some u → token ≢ Tokens.Setup → row_by token Refusing c pid out ≡ Stalls
refusing_row Tokens.Setup c u pid out n r not_setup = absurd (not_setup refl)
refusing_row Tokens.Out c u pid out n r not_setup =
    never_busy c.naks (out_row_at Refusing c.request pid (length out)) n
    ∙ ap (λ (request : Option Request). out_row_at Refusing request pid (length out)) r
refusing_row _ c u pid out n r not_setup = never_busy c.naks Stalls n

stalls : (d : Ask) (setup out : List ℕ) (h : HubContent) → IsReady h → request_answer setup h ≡ Answers.Stall → token_of d.pid ≢ Tokens.Setup → row_at d out (told setup h) ≡ Stalls
stalls d setup out h ready e not_setup =
    let u : Request = begun_with setup in
    ap (λ (s : Stage). row_by (token_of d.pid) s (under u h).control d.toggle out) (stage_is u h Answers.Stall e)
    ∙ refusing_row (token_of d.pid) (under u h).control u d.toggle out ready.naks refl not_setup

pub unknown_reply : (a d : Ask) (setup out : List ℕ) (h : HubContent) → IsReady h → Hears Tokens.Setup a h → length setup ≡ 8 → request_answer setup h ≡ Answers.Stall → suits d h ≡ true → token_of d.pid ≢ Tokens.Setup → hub_reply d out (hub_answered a setup h) ≡ Hand Pids.Stall
unknown_reply a d setup out h ready heard n e suited not_setup =
    ap (hub_reply d out) (setup_after a setup h heard n)
    ∙ reply_by_row d out (told setup h) Stalls suited (stalls d setup out h ready e not_setup)

pub unknown_after : (a d : Ask) (setup out : List ℕ) (h : HubContent) → IsReady h → Hears Tokens.Setup a h → length setup ≡ 8 → request_answer setup h ≡ Answers.Stall → suits d h ≡ true → token_of d.pid ≢ Tokens.Setup → hub_answered d out (hub_answered a setup h) ≡ told setup h
unknown_after a d setup out h ready heard n e suited not_setup =
    ap (hub_answered d out) (setup_after a setup h heard n)
    ∙ after_by_row d out (told setup h) Stalls suited (stalls d setup out h ready e not_setup)
