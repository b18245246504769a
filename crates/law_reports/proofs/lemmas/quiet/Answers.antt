-- Each part of a device, and endpoint 0 of a hub, answers the tokens that are for it as its kind may.
use Rattle.std.proofs.Common.{◌≡◌, ℕ, ◌==◌, Bool, true, false, ◌&&◌, if◌then◌else◌, List, [], ◌∷◌, length, Option, Some, None}
use Rattle.std.proofs.Common.{ap, refl, ◌∙◌, inl, inr}
use Rattle.std.specs.Prelude.{◌⊎◌}
use Rattle.std.specs.List.{list_any}
use Rattle.std.proofs.lemmas.Bool.{cond_both, true≢false, eq-eqb}
use Rattle.usb_base.specs.declared.packets.Ask.{Ask}
use Rattle.usb_base.specs.declared.packets.EpKind.{EpKind}
use Rattle.usb_base.specs.declared.packets.Pid.{Pid}
use Rattle.usb_base.specs.declared.packets.Pid.TheVariants as pids
use Rattle.usb_base.specs.declared.packets.Reply.TheVariants.{Silent}
use Rattle.usb_base.specs.declared.packets.Speed.{Speed}
use Rattle.usb_base.specs.declared.packets.Speed.TheVariants as speeds
use Rattle.script_types.specs.declared.devices.Item.{Item}
use Rattle.script_types.specs.declared.devices.Item.TheVariants as items
use Rattle.dev_control.specs.declared.control.Request.{Request}
use Rattle.dev_control.specs.declared.rows.Sequence.{Sequence}
use Rattle.dev_control.specs.declared.rows.Sequence.TheVariants as sequences
use Rattle.dev_control.specs.declared.rows.Stage.{Stage}
use Rattle.dev_control.specs.declared.rows.Stage.TheVariants as stages
use Rattle.dev_control.specs.declared.rows.StageRow.{StageRow}
use Rattle.dev_control.specs.declared.rows.StageRow.TheVariants as stage_rows
use Rattle.dev_control.specs.Stages.{Stages, token_of, data_pid, stage_of, in_row, out_row as stage_out_row, ping_row as stage_ping_row}
use Rattle.dev_control.specs.Stages.{out_row_at, unless_nak, row_by, pid_with, row_reply as stage_reply, stages_reply}
use Rattle.dev_control.specs.Stages.{sequence_of, is_status, far_with}
use Rattle.endpoint_script.specs.Sending.{Sending, sent_reply, sending_reply}
use Rattle.endpoint_script.specs.Controlling.{Controlling, controlling_reply, reply_of}
use Rattle.endpoint_script.specs.declared.rows.TakeRow.{TakeRow}
use Rattle.endpoint_script.specs.declared.rows.TakeRow.TheVariants as rows
use Rattle.endpoint_script.specs.Taking.{Taking, next_row, out_row, ping_row, has_room, is_ping, take_row, row_reply, taking_reply}
use Rattle.hub_class.specs.HubContent.{HubContent}
use Rattle.hub_class.specs.EndpointZero.{reply_under, is_token, hub_reply}
use Rattle.claims_world.specs.Quiet.{is_nyet}
use Rattle.law_reports.specs.quiet.Replies.{tells, may_wait, is_data}

-- ---- an IN endpoint

data_told : (b : Bool) → is_data (data_pid b) ≡ true
data_told true = refl
data_told false = refl

sent_told : (kind : EpKind) (toggle : Bool) (xs : List Item) → tells kind pids.In (sent_reply toggle xs) ≡ true
sent_told kind toggle (items.Bytes bytes ∷ xs) = data_told toggle
sent_told kind toggle [] = refl
sent_told kind toggle (items.Nak n ∷ xs) = refl
sent_told kind toggle (items.Stall ∷ xs) = refl
sent_told kind toggle (items.Nyet ∷ xs) = refl
sent_told kind toggle (items.Request setup bytes ∷ xs) = refl
sent_told kind toggle (items.Epoch ∷ xs) = refl

pub sends_tell : (kind : EpKind) (s : Sending) → tells kind pids.In (sending_reply s) ≡ true
sends_tell kind s = sent_told kind s.toggle s.items

-- ---- an OUT endpoint

abbrev IsTakeTold : EpKind → Pid → Speed → TakeRow → Type 0
IsTakeTold kind pid speed row = tells kind pid (row_reply speed row) ≡ true

last_told : (kind : EpKind) (speed : Speed) → may_wait kind ≡ true → IsTakeTold kind pids.Out speed rows.TakesLast
last_told kind speeds.High may = may
last_told kind speeds.Full may = refl
last_told kind speeds.Low may = refl

-- NYET is one of its handshakes, or it has none to answer
abbrev pub MayWait : EpKind → List Item → Type 0
MayWait kind xs = (may_wait kind ≡ true) ⊎ (list_any is_nyet xs ≡ false)

nyet_told : (kind : EpKind) (speed : Speed) (xs : List Item) → MayWait kind (items.Nyet ∷ xs)
    → IsTakeTold kind pids.Out speed rows.TakesLast
nyet_told kind speed xs (inl may) = last_told kind speed may
nyet_told kind speed xs (inr none) = absurd (true≢false none)

fits_told : (kind : EpKind) (speed : Speed) (b : Bool) → IsTakeTold kind pids.Out speed (if b then rows.Takes else rows.IsFull)
fits_told kind speed true = refl
fits_told kind speed false = refl

next_told : (kind : EpKind) (speed : Speed) (xs : List Item) (fits : Bool) → MayWait kind xs
    → IsTakeTold kind pids.Out speed (next_row xs fits)
next_told kind speed [] true w = refl
next_told kind speed [] false w = refl
next_told kind speed (items.Nak n ∷ xs) fits w = refl
next_told kind speed (items.Stall ∷ xs) fits w = refl
next_told kind speed (items.Nyet ∷ xs) true w = nyet_told kind speed xs w
next_told kind speed (items.Nyet ∷ xs) false w = refl
next_told kind speed (items.Bytes bytes ∷ xs) true w = refl
next_told kind speed (items.Bytes bytes ∷ xs) false w = refl
next_told kind speed (items.Request setup bytes ∷ xs) true w = refl
next_told kind speed (items.Request setup bytes ∷ xs) false w = refl
next_told kind speed (items.Epoch ∷ xs) true w = refl
next_told kind speed (items.Epoch ∷ xs) false w = refl

out_told : (kind : EpKind) (speed : Speed) (q : Sequence) (xs : List Item) (fits : Bool) → MayWait kind xs
    → IsTakeTold kind pids.Out speed (out_row q xs fits)
out_told kind speed sequences.Next xs fits w = next_told kind speed xs fits w
out_told kind speed sequences.Repeat xs fits w = refl
out_told kind speed sequences.Neither xs fits w = refl

ping_told : (kind : EpKind) (speed : Speed) (xs : List Item) → IsTakeTold kind pids.Ping speed (ping_row xs)
ping_told kind speed [] = refl
ping_told kind speed (items.Nak n ∷ xs) = refl
ping_told kind speed (items.Stall ∷ xs) = refl
ping_told kind speed (items.Nyet ∷ xs) = refl
ping_told kind speed (items.Bytes bytes ∷ xs) = refl
ping_told kind speed (items.Request setup bytes ∷ xs) = refl
ping_told kind speed (items.Epoch ∷ xs) = refl

pub data IsOutToken : Pid → Type 0 where
  by_out : IsOutToken pids.Out
  by_ping : IsOutToken pids.Ping

takes_by : (kind : EpKind) (speed : Speed) (t : Taking) (q : Sequence) (n : ℕ) (pid : Pid) → IsOutToken pid → MayWait kind t.items
    → IsTakeTold kind pid speed (take_row (is_ping pid) t q n)
takes_by kind speed t q n _ by_out w = out_told kind speed q t.items (has_room t n) w
takes_by kind speed t q n _ by_ping w = ping_told kind speed t.items

pub takes_tell : (kind : EpKind) (speed : Speed) (t : Taking) (ask : Ask) (out : List ℕ) → IsOutToken ask.pid → MayWait kind t.items
    → tells kind ask.pid (taking_reply speed t ask out) ≡ true
takes_tell kind speed t ask out token w = takes_by kind speed t (sequence_of t.toggle ask.toggle) (length out) ask.pid token w

-- ---- a control endpoint

pub data IsToken : Pid → Type 0 where
  of_setup : IsToken pids.Setup
  of_in : IsToken pids.In
  of_out : IsToken pids.Out
  of_ping : IsToken pids.Ping

module _ (kind : EpKind) (reply : Option (List ℕ)) (c : Stages) where
  abbrev IsStageTold : Pid → StageRow → Type 0
  IsStageTold pid row = tells kind pid (stage_reply row reply c) ≡ true

  pid_told : (o : Option Request) → is_data (pid_with o) ≡ true
  pid_told None = refl
  pid_told (Some u) = data_told u.toggle

  in_told : (stage : Stage) → IsStageTold pids.In (in_row stage)
  in_told stages.Reading = pid_told c.request
  in_told stages.AllWritten = refl
  in_told stages.NoData = refl
  in_told stages.Refusing = refl
  in_told stages.AllRead = refl
  in_told stages.Writing = refl

  stage_out_told : (stage : Stage) (q : Sequence) (b : Bool) (o : Option ℕ) → IsStageTold pids.Out (stage_out_row stage q b o)
  stage_out_told stages.Reading q true o = refl
  stage_out_told stages.Reading q false o = refl
  stage_out_told stages.AllRead q true o = refl
  stage_out_told stages.AllRead q false o = refl
  stage_out_told stages.Writing sequences.Next b (Some to) = refl
  stage_out_told stages.Writing sequences.Next b None = refl
  stage_out_told stages.Writing sequences.Repeat b o = refl
  stage_out_told stages.Writing sequences.Neither b o = refl
  stage_out_told stages.AllWritten sequences.Repeat b o = refl
  stage_out_told stages.AllWritten sequences.Next b o = refl
  stage_out_told stages.AllWritten sequences.Neither b o = refl
  stage_out_told stages.NoData q b o = refl
  stage_out_told stages.Refusing q b o = refl

  out_at_told : (stage : Stage) (o : Option Request) (pid : Pid) (n : ℕ) → IsStageTold pids.Out (out_row_at stage o pid n)
  out_at_told stage None pid n = refl
  out_at_told stage (Some u) pid n = stage_out_told stage (sequence_of u.toggle pid) (is_status pid n) (far_with u n)

  stage_ping_told : (stage : Stage) → IsStageTold pids.Ping (stage_ping_row stage)
  stage_ping_told stages.Refusing = refl
  stage_ping_told stages.Reading = refl
  stage_ping_told stages.AllRead = refl
  stage_ping_told stages.Writing = refl
  stage_ping_told stages.AllWritten = refl
  stage_ping_told stages.NoData = refl

  naks_or : (pid : Pid) (n : ℕ) (row : StageRow) → IsStageTold pid stage_rows.Naks → IsStageTold pid row
      → IsStageTold pid (unless_nak n row)
  naks_or pid n row nak told = cond_both (n == 0) row stage_rows.Naks (IsStageTold pid) (λ none. told) (λ some. nak)

  row_told : (pid : Pid) → IsToken pid → (stage : Stage) (toggle : Pid) (out : List ℕ) → (pid ≡ pids.Setup → length out ≡ 8)
      → IsStageTold pid (row_by (token_of pid) stage c toggle out)
  row_told _ of_setup stage toggle out whole =
      ap (λ (b : Bool). tells kind pids.Setup (stage_reply (if b then stage_rows.Begins out else stage_rows.Ignores) reply c))
      (eq-eqb (length out) 8 (whole refl))
  row_told _ of_in stage toggle out whole = naks_or pids.In c.naks (in_row stage) refl (in_told stage)
  row_told _ of_out stage toggle out whole =
      naks_or pids.Out c.naks (out_row_at stage c.request toggle (length out)) refl (out_at_told stage c.request toggle (length out))
  row_told _ of_ping stage toggle out whole = naks_or pids.Ping c.naks (stage_ping_row stage) refl (stage_ping_told stage)

  pub stages_tell : (ask : Ask) (out : List ℕ) → IsToken ask.pid → (ask.pid ≡ pids.Setup → length out ≡ 8)
      → tells kind ask.pid (stages_reply reply c ask out) ≡ true
  stages_tell ask out token whole = row_told ask.pid token (stage_of reply c) ask.toggle out whole

pub controls_tell : (kind : EpKind) (c : Controlling) (ask : Ask) (out : List ℕ) → IsToken ask.pid → (ask.pid ≡ pids.Setup → length out ≡ 8)
    → tells kind ask.pid (controlling_reply c ask out) ≡ true
controls_tell kind c ask out token whole = stages_tell kind (reply_of c) c.stages ask out token whole

-- ---- endpoint 0 of a hub

token_known : (pid : Pid) → IsToken pid → is_token (token_of pid) ≡ true
token_known _ of_setup = refl
token_known _ of_in = refl
token_known _ of_out = refl
token_known _ of_ping = refl

pub hub_tells : (kind : EpKind) (h : HubContent) (ask : Ask) (out : List ℕ) → IsToken ask.pid → (ask.pid ≡ pids.Setup → length out ≡ 8)
    → ask.addr ≡ h.address → ask.ep ≡ 0 → tells kind ask.pid (hub_reply ask out h) ≡ true
hub_tells kind h ask out token whole addr ep =
    ap (λ (b : Bool). tells kind ask.pid (if b && (ask.ep == 0) && is_token (token_of ask.pid)
    then stages_reply (reply_under h) h.control ask out else Silent)) (eq-eqb ask.addr h.address addr)
    ∙ ap (λ (b : Bool). tells kind ask.pid (if b && is_token (token_of ask.pid)
    then stages_reply (reply_under h) h.control ask out else Silent)) (eq-eqb ask.ep 0 ep)
    ∙ ap (λ (b : Bool). tells kind ask.pid (if b then stages_reply (reply_under h) h.control ask out else Silent))
    (token_known ask.pid token)
    ∙ stages_tell kind (reply_under h) h.control ask out token whole
