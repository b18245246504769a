-- A request stays under way until the next SETUP.
use Rattle.std.proofs.Common.{◌≡◌, ◌≢◌, ℕ, ◌==◌, Bool, true, false, List, Option, Some, None, if◌then◌else◌, refl, sym, ap}
use Rattle.usb_base.specs.declared.packets.Ask.{Ask}
use Rattle.usb_base.specs.declared.packets.Pid.{Pid}
use Rattle.dev_control.specs.declared.control.Request.{Request}
use Rattle.dev_control.specs.declared.rows.Sequence.{Sequence}
use Rattle.dev_control.specs.declared.rows.Sequence.TheVariants.{Next, Repeat}
use Rattle.dev_control.specs.declared.rows.Stage.{Stage}
use Rattle.dev_control.specs.declared.rows.Stage.TheVariants.{Refusing, Reading, AllRead, Writing, AllWritten, NoData}
use Rattle.dev_control.specs.declared.rows.StageRow.{StageRow}
use Rattle.dev_control.specs.declared.rows.StageRow.TheVariants.{Begins, Naks, Takes, Acknowledges, Confirms, Stalls}
use Rattle.dev_control.specs.declared.rows.StageToken.{StageToken}
use Rattle.dev_control.specs.declared.rows.StageToken.TheVariants as Tokens
use Rattle.dev_control.specs.Stages.{Stages, setup_of, token_of, stage_of, in_row, out_row, out_row_at, ping_row, is_status, far_with, sequence_of, row_by, stage_row, moved_to, acted_at, acted_with, acked_with, after_stage_row, stages_after, stages_acked}

-- the row begins no request
keeps : StageRow → Bool
keeps (Begins setup) = false
keeps _ = true

moved_keeps : (to : ℕ) (u : Option Request) → setup_of (moved_to to u) ≡ setup_of u
moved_keeps to None = refl
moved_keeps to (Some u) = refl

acted_at_keeps : (done : Bool) (u : Request) (c : Stages) → c.request ≡ Some u → setup_of (acted_at done u c).request ≡ setup_of c.request
acted_at_keeps true u c h = refl
acted_at_keeps false u c h = sym (ap setup_of h)

acted_with_keeps : (u : Option Request) (c : Stages) → c.request ≡ u → setup_of (acted_with u c).request ≡ setup_of c.request
acted_with_keeps None c h = refl
acted_with_keeps (Some u) c h = acted_at_keeps u.done u c h

row_keeps : (row : StageRow) (c : Stages) → keeps row ≡ true → setup_of (after_stage_row row c).request ≡ setup_of c.request
unfolding keeps
row_keeps (Begins setup) c h = absurd cc
row_keeps (Takes to) c h = moved_keeps to c.request
row_keeps Acknowledges c h = acted_with_keeps c.request c refl
row_keeps Confirms c h = acted_with_keeps c.request c refl
row_keeps _ c h = refl

nak_keeps : (none : Bool) (row : StageRow) → keeps row ≡ true → keeps (if none then row else Naks) ≡ true
unfolding keeps
nak_keeps true row h = h
nak_keeps false row h = refl

in_keeps : (stage : Stage) → keeps (in_row stage) ≡ true
unfolding keeps
in_keeps Reading = refl
in_keeps _ = refl

ping_keeps : (stage : Stage) → keeps (ping_row stage) ≡ true
unfolding keeps
ping_keeps Refusing = refl
ping_keeps _ = refl

out_keeps : (stage : Stage) (sequence : Sequence) (status : Bool) (far : Option ℕ) → keeps (out_row stage sequence status far) ≡ true
unfolding keeps
out_keeps Reading _ true _ = refl
out_keeps AllRead _ true _ = refl
out_keeps Writing Next _ (Some to) = refl
out_keeps Writing Repeat _ _ = refl
out_keeps AllWritten Repeat _ _ = refl
out_keeps _ _ _ _ = refl

out_at_keeps : (stage : Stage) (u : Option Request) (pid : Pid) (n : ℕ) → keeps (out_row_at stage u pid n) ≡ true
unfolding keeps
out_at_keeps stage None pid n = refl
out_at_keeps stage (Some u) pid n = out_keeps stage (sequence_of u.toggle pid) (is_status pid n) (far_with u n)

by_keeps : (token : StageToken) (stage : Stage) (c : Stages) (pid : Pid) (out : List ℕ) → token ≢ Tokens.Setup → keeps (row_by token stage c pid out) ≡ true
unfolding keeps
by_keeps Tokens.Setup stage c pid out h = absurd (h refl)
by_keeps Tokens.In stage c pid out h = nak_keeps (c.naks == 0) (in_row stage) (in_keeps stage)
by_keeps Tokens.Out stage c pid out h = nak_keeps (c.naks == 0) (out_row_at stage c.request pid _) (out_at_keeps stage c.request pid _)
by_keeps Tokens.Ping stage c pid out h = nak_keeps (c.naks == 0) (ping_row stage) (ping_keeps stage)
by_keeps Tokens.Other stage c pid out h = nak_keeps (c.naks == 0) Stalls refl

pub setup_stays : (reply : Option (List ℕ)) (c : Stages) (ask : Ask) (out : List ℕ) → token_of ask.pid ≢ Tokens.Setup → setup_of (stages_after reply c ask out).request ≡ setup_of c.request
setup_stays reply c ask out h = row_keeps (stage_row reply c ask out) c (by_keeps (token_of ask.pid) (stage_of reply c) c ask.toggle out h)

acked_with_keeps : (stage : Stage) (u : Option Request) (c : Stages) → c.request ≡ u → setup_of (acked_with stage u c).request ≡ setup_of c.request
acked_with_keeps Reading (Some u) c h = sym (ap setup_of h)
acked_with_keeps Reading None c h = refl
acked_with_keeps Refusing _ c h = refl
acked_with_keeps AllRead _ c h = refl
acked_with_keeps Writing _ c h = refl
acked_with_keeps AllWritten _ c h = refl
acked_with_keeps NoData _ c h = refl

pub setup_stays_acked : (reply : Option (List ℕ)) (c : Stages) → setup_of (stages_acked reply c).request ≡ setup_of c.request
setup_stays_acked reply c = acked_with_keeps (stage_of reply c) c.request c refl
