-- When a control endpoint acts on a request, along a run (USB 2.0, 8.5.3).
use Rattle.std.specs.Prelude.{ℕ, Bool, true, false, not, List, [], ◌∷◌, ◌++◌, Option, Some, None}
use Rattle.std.specs.List.{list_any}
use Rattle.usb_base.specs.declared.packets.Ask.{Ask}
use Rattle.usb_base.specs.declared.packets.Pid.TheVariants as Pids
use Rattle.dev_control.specs.Worked.{ask_of}
use Rattle.dev_control.specs.declared.rows.StageRow.{StageRow}
use Rattle.dev_control.specs.declared.rows.StageRow.TheVariants.{Acknowledges, Confirms}
use Rattle.dev_control.specs.declared.rows.StageToken.{StageToken}
use Rattle.dev_control.specs.declared.rows.StageToken.TheVariants as Tokens
use Rattle.dev_control.specs.Stages.{Stages, token_of, stage_row, stages_after, stages_acked, one_more_act}
use Rattle.claims_report.specs.Acts.{acts_if}

-- What a control endpoint meets, with the device's reply to the request under way at that moment, if it has one.
pub data Event : Type 0 where
  Asks : Option (List ℕ) → Ask → List ℕ → Event  -- an ask that sends these bytes reaches it
  Acks : Option (List ℕ) → Event  -- the host's acknowledgement of the data just sent reaches it

abbrev pub after : Stages → Event → Stages
after c (Asks reply ask out) = stages_after reply c ask out
after c (Acks reply) = stages_acked reply c

abbrev pub is_setup : StageToken → Bool
is_setup Tokens.Setup = true
is_setup _ = false

-- a SETUP reaches it
abbrev pub begins : Event → Bool
begins (Asks reply ask out) = is_setup (token_of ask.pid)
begins (Acks reply) = false

-- the rows that answer a status stage
abbrev pub is_status_row : StageRow → Bool
is_status_row Acknowledges = true
is_status_row Confirms = true
is_status_row _ = false

abbrev pub acts_at : Stages → Event → List (List ℕ)
acts_at c (Asks reply ask out) = acts_if (is_status_row (stage_row reply c ask out)) c.request
acts_at c (Acks reply) = []

-- the setup bytes of the requests that are acted on along a run, in order
abbrev pub acts_along : Stages → List Event → List (List ℕ)
acts_along c [] = []
acts_along c (e ∷ es) = acts_at c e ++ acts_along (after c e) es

-- no SETUP reaches it in the run
abbrev pub is_within : List Event → Bool
is_within es = not (list_any begins es)

-- the count after these acts
abbrev pub counted : List (List ℕ) → ℕ → ℕ
counted [] n = n
counted (act ∷ acts) n = counted acts (one_more_act n)

-- ---- events of the worked rows

abbrev pub said : List ℕ → Event
said setup = Asks None (ask_of Pids.Setup Pids.Data0) setup

abbrev pub status : Event
status = Asks (Some []) (ask_of Pids.In Pids.Data1) []
