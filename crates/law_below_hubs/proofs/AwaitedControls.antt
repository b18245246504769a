-- A control endpoint below a hub answers SETUP, IN and OUT as a device at full or low speed may, or isn't heard.
use Rattle.std.proofs.Common.{◌≡◌, ◌≢◌, ℕ, ◌==◌, Bool, true, false, List, length, Option, Some, None, ap, refl, ◌∙◌}
use Rattle.std.proofs.Common.{⊎_elim, inl, inr}
use Rattle.std.specs.Prelude.{◌⊎◌}
use Rattle.std.proofs.lemmas.Bool.{cond_both}
use Rattle.usb_base.specs.declared.packets.Ask.{Ask}
use Rattle.usb_base.specs.declared.packets.Pid.{Pid}
use Rattle.usb_base.specs.declared.packets.Pid.TheVariants as pids
use Rattle.usb_base.specs.declared.packets.Reply.{Reply}
use Rattle.usb_base.specs.declared.packets.Reply.TheVariants.{Silent, Bytes}
use Rattle.usb_base.specs.declared.packets.Split.TheVariants.{Plain}
use Rattle.dev_control.specs.declared.control.Request.{Request}
use Rattle.dev_control.specs.declared.rows.Sequence.{Sequence}
use Rattle.dev_control.specs.declared.rows.Sequence.TheVariants as sequences
use Rattle.dev_control.specs.declared.rows.Stage.{Stage}
use Rattle.dev_control.specs.declared.rows.Stage.TheVariants as stages
use Rattle.dev_control.specs.declared.rows.StageRow.{StageRow}
use Rattle.dev_control.specs.declared.rows.StageRow.TheVariants as stage_rows
use Rattle.dev_control.specs.declared.rows.StageToken.TheVariants.{Other}
use Rattle.dev_control.specs.Stages.{Stages, token_of, data_pid, stage_of, in_row, out_row, out_row_at, unless_nak, row_by, pid_with}
use Rattle.dev_control.specs.Stages.{row_reply, stages_reply, sequence_of, is_status, far_with, packet_with}
use Rattle.bus_wire.specs.declared.who_heard.WhoHeard.{WhoHeard}
use Rattle.bus_wire.specs.declared.who_heard.WhoHeard.TheVariants as Rows
use Rattle.bus_wire.specs.Asking.{row_for}
use Rattle.bus_wire.specs.Below.{Below, below_reply, below_after}
use Rattle.bus_wire.specs.WhoHeard.{asker_hears}
use Rattle.claims_report.specs.ControlSides.{Device as Side}
use Rattle.law_request.specs.Host.{Endpoint}
use Rattle.law_request.specs.Line.{answer_of, reply_under}
use Rattle.law_devices.specs.request_calls.Bus.{IsAnswered}
use Rattle.law_below_hubs.specs.Awaited.{suits}
use Rattle.law_below_hubs.specs.Raised.{transacts_below}
use Rattle.law_below_hubs.specs.SeatedControls.{control_on}
use Rattle.law_below_hubs.proofs.ControlBuses.{controls_on}

pub data_suits : (b : Bool) (bytes : List ℕ) → suits pids.In (Bytes (data_pid b) bytes) ≡ true
data_suits true bytes = refl
data_suits false bytes = refl

pub reply_or : (row : WhoHeard) (answer : Reply) → (asker_hears row answer ≡ Silent) ⊎ (asker_hears row answer ≡ answer)
reply_or Rows.SentUnheard answer = inl refl
reply_or Rows.NoAnswer answer = inl refl
reply_or Rows.AnswerUnheard answer = inl refl
reply_or Rows.AnswerHeard answer = inr refl
reply_or Rows.AckUnheard answer = inr refl
reply_or Rows.AckHeard answer = inr refl

-- a token of a request
pub data IsToken : Pid → Type 0 where
  by_setup : IsToken pids.Setup
  by_in : IsToken pids.In
  by_out : IsToken pids.Out

token_known : (pid : Pid) → IsToken pid → token_of pid ≢ Other
token_known _ by_setup is = cc
token_known _ by_in is = cc
token_known _ by_out is = cc

module _ (reply : Option (List ℕ)) (c : Stages) where
  -- a SETUP that isn't whole has no answer
  abbrev Suits : Pid → StageRow → Type 0
  Suits pid row = (row_reply row reply c ≡ Silent) ⊎ (suits pid (row_reply row reply c) ≡ true)

  pid_suits : (o : Option Request) (bytes : List ℕ) → suits pids.In (Bytes (pid_with o) bytes) ≡ true
  pid_suits None bytes = refl
  pid_suits (Some u) bytes = data_suits u.toggle bytes

  in_suits : (stage : Stage) → Suits pids.In (in_row stage)
  in_suits stages.Reading = inr (pid_suits c.request (packet_with c.max reply c.request))
  in_suits stages.AllWritten = inr refl
  in_suits stages.NoData = inr refl
  in_suits stages.Refusing = inr refl
  in_suits stages.AllRead = inr refl
  in_suits stages.Writing = inr refl

  out_suits : (stage : Stage) (q : Sequence) (b : Bool) (o : Option ℕ) → Suits pids.Out (out_row stage q b o)
  out_suits stages.Reading q true o = inr refl
  out_suits stages.Reading q false o = inr refl
  out_suits stages.AllRead q true o = inr refl
  out_suits stages.AllRead q false o = inr refl
  out_suits stages.Writing sequences.Next b (Some to) = inr refl
  out_suits stages.Writing sequences.Next b None = inr refl
  out_suits stages.Writing sequences.Repeat b o = inr refl
  out_suits stages.Writing sequences.Neither b o = inr refl
  out_suits stages.AllWritten sequences.Repeat b o = inr refl
  out_suits stages.AllWritten sequences.Next b o = inr refl
  out_suits stages.AllWritten sequences.Neither b o = inr refl
  out_suits stages.NoData q b o = inr refl
  out_suits stages.Refusing q b o = inr refl

  out_at_suits : (stage : Stage) (o : Option Request) (pid : Pid) (n : ℕ) → Suits pids.Out (out_row_at stage o pid n)
  out_at_suits stage None pid n = inr refl
  out_at_suits stage (Some u) pid n = out_suits stage (sequence_of u.toggle pid) (is_status pid n) (far_with u n)

  naks_or : (pid : Pid) (n : ℕ) (row : StageRow) → Suits pid stage_rows.Naks → Suits pid row → Suits pid (unless_nak n row)
  naks_or pid n row nak told = cond_both (n == 0) row stage_rows.Naks (Suits pid) (λ none. told) (λ some. nak)

  row_suits : (pid : Pid) → IsToken pid → (stage : Stage) (toggle : Pid) (out : List ℕ)
      → Suits pid (row_by (token_of pid) stage c toggle out)
  row_suits _ by_setup stage toggle out =
      cond_both (length out == 8) (stage_rows.Begins out) stage_rows.Ignores (Suits pids.Setup) (λ whole. inr refl) (λ less. inl refl)
  row_suits _ by_in stage toggle out = naks_or pids.In c.naks (in_row stage) (inr refl) (in_suits stage)
  row_suits _ by_out stage toggle out =
      naks_or pids.Out c.naks (out_row_at stage c.request toggle (length out)) (inr refl)
      (out_at_suits stage c.request toggle (length out))

  stages_suit : (ask : Ask) (out : List ℕ) → IsToken ask.pid
      → (stages_reply reply c ask out ≡ Silent) ⊎ (suits ask.pid (stages_reply reply c ask out) ≡ true)
  stages_suit ask out token = row_suits ask.pid token (stage_of reply c) ask.toggle out

-- ---- on the bus below

module _ (w : Below) (ask : Ask) (out : List ℕ) (plain : ask.split ≡ Plain) (token : IsToken ask.pid) (side : Side)
    (there : control_on w ask.addr ask.ep ≡ Some side) where
  e : Endpoint
  e = record { addr = ask.addr; num = ask.ep; max = 0; known = side.known }

  made : transacts_below w ask out (below_reply w ask out) (below_after w ask out)
  made = record { plain = plain; heard = refl; after = refl }

  answered : IsAnswered e ask out side.stages (below_reply w ask out) (control_on (below_after w ask out) ask.addr ask.ep)
  unfolding e
  answered =
      controls_on.asked w ask out (below_reply w ask out) (below_after w ask out) e side.stages made
      (record { plain = plain; token = token_known ask.pid token; address = refl; number = refl }) there

  pub control_suits : below_reply w ask out ≢ Silent → suits ask.pid (below_reply w ask out) ≡ true
  control_suits heard =
      let answer : Reply = answer_of e ask out side.stages in
      let row : WhoHeard = row_for answered.losses ask (answer_of e ask out side.stages) in
      ⊎_elim
      (λ (silent : asker_hears row answer ≡ Silent). absurd (heard (answered.heard ∙ silent)))
      (λ (is : asker_hears row answer ≡ answer).
      ⊎_elim
      (λ (none : answer ≡ Silent). absurd (heard (answered.heard ∙ is ∙ none)))
      (λ (fine : suits ask.pid answer ≡ true). ap (suits ask.pid) (answered.heard ∙ is) ∙ fine)
      (stages_suit (reply_under e.known side.stages.request) side.stages ask out token))
      (reply_or row answer)
