-- What a device answers is a word of its translator: data with a toggle to an IN, a handshake to any other token, or nothing.
use Rattle.std.proofs.Common.{◌≡◌, ◌≢◌, ℕ, zero, suc, ◌-◌, ◌≤◌, Bool, true, false, List, [], ◌∷◌, length, slice_get, Option, Some, None, refl, sym, subst, inl, inr, arith}
use Rattle.std.specs.Prelude.{◌==◌, if◌then◌else◌}
use Rattle.std.proofs.lemmas.Bool.{and_parts}
use Rattle.law_devices.proofs.Common.{either_found}
use Rattle.usb_base.specs.declared.packets.Ask.{Ask}
use Rattle.usb_base.specs.declared.packets.Pid.{Pid}
use Rattle.usb_base.specs.declared.packets.Pid.TheVariants as pids
use Rattle.usb_base.specs.declared.packets.Reply.{Reply}
use Rattle.usb_base.specs.declared.packets.Reply.TheVariants.{Silent, Bytes}
use Rattle.usb_base.specs.declared.packets.Speed.{Speed}
use Rattle.usb_base.specs.declared.packets.Speed.TheVariants as speeds
use Rattle.usb_base.specs.declared.packets.Way.{Way}
use Rattle.usb_base.specs.declared.packets.Way.TheVariants as ways
use Rattle.script_types.specs.declared.devices.Item.{Item}
use Rattle.script_types.specs.declared.devices.Item.TheVariants as items
use Rattle.dev_control.specs.declared.control.Request.{Request}
use Rattle.dev_control.specs.declared.rows.Sequence.{Sequence}
use Rattle.dev_control.specs.declared.rows.Sequence.TheVariants.{Next, Repeat, Neither}
use Rattle.dev_control.specs.declared.rows.Stage.{Stage}
use Rattle.dev_control.specs.declared.rows.Stage.TheVariants.{Refusing, Reading, AllRead, Writing, AllWritten, NoData}
use Rattle.dev_control.specs.declared.rows.StageRow.{StageRow}
use Rattle.dev_control.specs.declared.rows.StageRow.TheVariants as stage_rows
use Rattle.dev_control.specs.declared.rows.StageToken.{StageToken}
use Rattle.dev_control.specs.declared.rows.StageToken.TheVariants as Tokens
use Rattle.dev_control.specs.Stages.{Stages, token_of, data_pid, in_row, out_row, out_row_at, ping_row, row_by, stage_of, pid_with, row_reply as stage_reply, sequence_of, is_status, far_with}
use Rattle.tt_pipeline.specs.Answers.{result_of}
use Rattle.endpoint_script.specs.declared.endpoint.Endpoint.{Endpoint}
use Rattle.endpoint_script.specs.declared.endpoint.Role.{Role}
use Rattle.endpoint_script.specs.declared.endpoint.Role.TheVariants.{Sends, Takes, Controls, Streams, Hears}
use Rattle.endpoint_script.specs.declared.rows.TakeRow.{TakeRow}
use Rattle.endpoint_script.specs.declared.rows.TakeRow.TheVariants as take_rows
use Rattle.endpoint_script.specs.Controlling.{reply_of}
use Rattle.endpoint_script.specs.Sending.{sent_reply}
use Rattle.endpoint_script.specs.Taking.{taking_row, row_reply, last_hand}
use Rattle.endpoint_script.specs.Streaming.{Streaming, due_of, count_pid, first_of}
use Rattle.endpoint_script.specs.Device.{Device, part_reply, is_way, is_named, place_named, place_for, endpoint_asked, endpoint_at, reply_from, answer_of}
use Rattle.law_microframes.specs.time.Repeats.{is_data, is_split_word}
use Rattle.law_microframes.specs.due.repeats.Words.{inward_of, FitsWay, HasItsWay, IsPlain}
use Rattle.law_microframes.proofs.lemmas.due.lemmas.repeats.Lists.{all_get, position_passes}

abbrev pub Word : Bool → Reply → Type 0
Word inward reply = is_split_word inward (result_of reply) ≡ true

-- a silence is told as ERR
pub silent_word : (inward : Bool) → Word inward Silent
silent_word true = refl
silent_word false = refl

-- ---- control endpoints

toggled : (b : Bool) → is_data (data_pid b) ≡ true
toggled true = refl
toggled false = refl

asked_data : (u : Option Request) → is_data (pid_with u) ≡ true
asked_data None = refl
asked_data (Some u) = toggled u.toggle

module _ (reply : Option (List ℕ)) (c : Stages) where
  unless_word : (inward free : Bool) (row : StageRow) → Word inward (stage_reply row reply c)
      → Word inward (stage_reply (if free then row else stage_rows.Naks) reply c)
  unless_word inward true row word = word
  unless_word true false row word = refl
  unless_word false false row word = refl

  in_word : (stage : Stage) → Word true (stage_reply (in_row stage) reply c)
  in_word Reading = asked_data c.request
  in_word _ = refl

  out_word : (stage : Stage) (sequence : Sequence) (status : Bool) (far : Option ℕ)
      → Word false (stage_reply (out_row stage sequence status far) reply c)
  out_word Reading sequence true far = refl
  out_word Reading sequence false far = refl
  out_word AllRead sequence true far = refl
  out_word AllRead sequence false far = refl
  out_word Writing Next status (Some to) = refl
  out_word Writing Next status None = refl
  out_word Writing Repeat status far = refl
  out_word Writing Neither status far = refl
  out_word AllWritten Next status far = refl
  out_word AllWritten Repeat status far = refl
  out_word AllWritten Neither status far = refl
  out_word Refusing sequence status far = refl
  out_word NoData sequence status far = refl

  out_at_word : (stage : Stage) (u : Option Request) (pid : Pid) (n : ℕ) → Word false (stage_reply (out_row_at stage u pid n) reply c)
  out_at_word stage None pid n = refl
  out_at_word stage (Some u) pid n = out_word stage (sequence_of u.toggle pid) (is_status pid n) (far_with u n)

  ping_word : (stage : Stage) → Word false (stage_reply (ping_row stage) reply c)
  ping_word Refusing = refl
  ping_word _ = refl

  setup_word : (whole : Bool) (out : List ℕ)
      → Word false (stage_reply (if whole then stage_rows.Begins out else stage_rows.Ignores) reply c)
  setup_word true out = refl
  setup_word false out = refl

  control_word : (pid : Pid) (stage : Stage) (toggle : Pid) (out : List ℕ) → token_of pid ≢ Tokens.Other
      → Word (inward_of pid) (stage_reply (row_by (token_of pid) stage c toggle out) reply c)
  control_word pids.In stage toggle out some = unless_word true (c.naks == 0) (in_row stage) (in_word stage)
  control_word pids.Out stage toggle out some =
      unless_word false (c.naks == 0) (out_row_at stage c.request toggle (length out)) (out_at_word stage c.request toggle (length out))
  control_word pids.Setup stage toggle out some = setup_word (length out == 8) out
  control_word pids.Ping stage toggle out some = unless_word false (c.naks == 0) (ping_row stage) (ping_word stage)
  control_word _ stage toggle out some = absurd (some refl)

-- ---- senders and takers

sent_word : (toggle : Bool) (xs : List Item) → Word true (sent_reply toggle xs)
sent_word toggle [] = refl
sent_word toggle (items.Bytes bytes ∷ xs) = toggled toggle
sent_word toggle (items.Nak n ∷ xs) = refl
sent_word toggle (items.Stall ∷ xs) = refl
sent_word toggle (_ ∷ xs) = refl

last_word : (speed : Speed) → Word false (last_hand speed)
last_word speeds.High = refl
last_word _ = refl

taken_word : (speed : Speed) (row : TakeRow) → Word false (row_reply speed row)
taken_word speed take_rows.TakesLast = last_word speed
taken_word speed _ = refl

counted_word : (none : Bool) (n : ℕ) (packet : List ℕ) → n ≤ 1
    → Word true (if none then Bytes pids.Data0 [] else Bytes (count_pid n) packet)
counted_word true n packet few = refl
counted_word false zero packet few = refl
counted_word false (suc zero) packet few = refl
counted_word false (suc (suc n)) packet few = absurd (omega (arith, few))

few_due : (s : Streaming) → s.multi ≤ 2 → due_of s - 1 ≤ 1
few_due s few = omega (arith, few)

-- ---- an endpoint

-- which tokens an endpoint of this way is asked by
abbrev TakesToken : Way → StageToken → Type 0
TakesToken ways.In Tokens.In = Unit {0}
TakesToken ways.Out Tokens.Out = Unit {0}
TakesToken ways.Out Tokens.Ping = Unit {0}
TakesToken ways.Ctl Tokens.Other = ⊥
TakesToken ways.Ctl _ = Unit {0}
TakesToken _ _ = ⊥

in_token : (pid : Pid) → TakesToken ways.In (token_of pid) → inward_of pid ≡ true
in_token pids.In t = refl
in_token pids.Out t = absurd t
in_token pids.Setup t = absurd t
in_token pids.Ping t = absurd t
in_token _ t = absurd t

out_token : (pid : Pid) → TakesToken ways.Out (token_of pid) → inward_of pid ≡ false
out_token pids.In t = absurd t
out_token pids.Out t = refl
out_token pids.Setup t = absurd t
out_token pids.Ping t = refl
out_token _ t = absurd t

control_token : (pid : Pid) → TakesToken ways.Ctl (token_of pid) → token_of pid ≢ Tokens.Other
control_token pids.In t e = cc
control_token pids.Out t e = cc
control_token pids.Setup t e = cc
control_token pids.Ping t e = cc
control_token _ t e = t

part_word : (speed : Speed) (way : Way) (part : Role) (ask : Ask) (out : List ℕ) → FitsWay way part → TakesToken way (token_of ask.pid)
    → Word (inward_of ask.pid) (part_reply speed part ask out)
part_word speed ways.In (Sends s) ask out fits takes = rw (in_token ask.pid takes) (sent_word s.toggle s.items)
part_word speed ways.In (Streams s) ask out fits takes =
    rw (in_token ask.pid takes) (counted_word (due_of s == 0) (due_of s - 1) (first_of s.packets) (few_due s fits))
part_word speed ways.In (Takes t) ask out fits takes = absurd fits
part_word speed ways.In (Controls c) ask out fits takes = absurd fits
part_word speed ways.In Hears ask out fits takes = absurd fits
part_word speed ways.Out (Takes t) ask out fits takes =
    subst (λ (b : Bool). Word b (row_reply speed (taking_row t ask out))) (sym (out_token ask.pid takes))
    (taken_word speed (taking_row t ask out))
part_word speed ways.Out Hears ask out fits takes = silent_word (inward_of ask.pid)
part_word speed ways.Out (Sends s) ask out fits takes = absurd fits
part_word speed ways.Out (Streams s) ask out fits takes = absurd fits
part_word speed ways.Out (Controls c) ask out fits takes = absurd fits
part_word speed ways.Ctl (Controls c) ask out fits takes =
    control_word (reply_of c) c.stages ask.pid (stage_of (reply_of c) c.stages) ask.toggle out (control_token ask.pid takes)
part_word speed ways.Ctl (Sends s) ask out fits takes = absurd fits
part_word speed ways.Ctl (Streams s) ask out fits takes = absurd fits
part_word speed ways.Ctl (Takes t) ask out fits takes = absurd fits
part_word speed ways.Ctl Hears ask out fits takes = absurd fits

-- ---- which endpoint

way_is : (a b : Way) → is_way a b ≡ true → a ≡ b
way_is ways.In ways.In e = refl
way_is ways.Out ways.Out e = refl
way_is ways.Ctl ways.Ctl e = refl
way_is ways.In ways.Out e = absurd cc
way_is ways.In ways.Ctl e = absurd cc
way_is ways.Out ways.In e = absurd cc
way_is ways.Out ways.Ctl e = absurd cc
way_is ways.Ctl ways.In e = absurd cc
way_is ways.Ctl ways.Out e = absurd cc

named_way : (es : List Endpoint) (num : ℕ) (way : Way) (k : ℕ) (e : Endpoint) → place_named es num way ≡ Some k
    → slice_get es k ≡ Some e → e.desc.name.way ≡ way
named_way es num way k e found here =
    way_is e.desc.name.way way (and_parts (e.desc.name.num == num) (is_way e.desc.name.way way)
    (position_passes (is_named num way) es k e found here)).1

found_takes : (token : StageToken) (es : List Endpoint) (num k : ℕ) (e : Endpoint) → place_for token es num ≡ Some k
    → slice_get es k ≡ Some e → TakesToken e.desc.name.way token
found_takes Tokens.Setup es num k e found here = rw (named_way es num ways.Ctl k e found here) tt
found_takes Tokens.In es num k e found here =
    elim (either_found (place_named es num ways.In) (place_named es num ways.Ctl) k found) [
      | inl one ↦ rw (named_way es num ways.In k e one here) tt
      | inr two ↦ rw (named_way es num ways.Ctl k e two here) tt
    ]
found_takes Tokens.Out es num k e found here =
    elim (either_found (place_named es num ways.Out) (place_named es num ways.Ctl) k found) [
      | inl one ↦ rw (named_way es num ways.Out k e one here) tt
      | inr two ↦ rw (named_way es num ways.Ctl k e two here) tt
    ]
found_takes Tokens.Ping es num k e found here =
    elim (either_found (place_named es num ways.Out) (place_named es num ways.Ctl) k found) [
      | inl one ↦ rw (named_way es num ways.Out k e one here) tt
      | inr two ↦ rw (named_way es num ways.Ctl k e two here) tt
    ]
found_takes Tokens.Other es num k e found here = absurd cc

-- ---- a device

if_some : (b : Bool) (o : Option ℕ) (k : ℕ) → (if b then o else None) ≡ Some k → o ≡ Some k
if_some true o k e = e
if_some false o k e = absurd cc

from_word : (d : Device) (ask : Ask) (out : List ℕ) (k : ℕ) (o : Option Endpoint) → IsPlain d → endpoint_asked d ask ≡ Some k
    → slice_get d.endpoints k ≡ o
    → Word (inward_of ask.pid) (reply_from d.speed o ask out)
from_word d ask out k None plain asked here = silent_word (inward_of ask.pid)
from_word d ask out k (Some e) plain asked here =
    part_word d.speed e.desc.name.way e.part ask out (all_get HasItsWay d.endpoints k e plain here)
    (found_takes (token_of ask.pid) d.endpoints ask.ep k e (if_some (ask.addr == d.address)
    (place_for (token_of ask.pid) d.endpoints ask.ep) k asked) here)

at_word : (d : Device) (ask : Ask) (out : List ℕ) (o : Option ℕ) → IsPlain d → endpoint_asked d ask ≡ o
    → Word (inward_of ask.pid) (reply_from d.speed (endpoint_at d.endpoints o) ask out)
at_word d ask out None plain asked = silent_word (inward_of ask.pid)
at_word d ask out (Some k) plain asked = from_word d ask out k (slice_get d.endpoints k) plain asked refl

-- what it answers is told as a word
pub answer_word : (d : Device) (ask : Ask) (out : List ℕ) → IsPlain d → Word (inward_of ask.pid) (answer_of d ask out)
answer_word d ask out plain = at_word d ask out (endpoint_asked d ask) plain refl
