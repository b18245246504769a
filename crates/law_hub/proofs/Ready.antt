-- A hub is ready in each state.
use Rattle.std.proofs.Common.{◌≡◌, ℕ, Bool, true, false, List, Option, Some, None, sym, subst, if◌then◌else◌, arith}
use Rattle.usb_base.specs.declared.packets.Ask.{Ask}
use Rattle.usb_base.specs.declared.packets.Reply.{Reply}
use Rattle.usb_base.specs.declared.packets.Split.{Split}
use Rattle.usb_base.specs.declared.packets.Split.TheVariants.{Plain}
use Rattle.dev_control.specs.declared.control.Request.{Request}
use Rattle.dev_control.specs.declared.rows.Stage.{Stage}
use Rattle.dev_control.specs.declared.rows.Stage.TheVariants.{Refusing, Reading, AllRead, Writing, AllWritten, NoData}
use Rattle.dev_control.specs.declared.rows.StageRow.{StageRow}
use Rattle.dev_control.specs.declared.rows.StageRow.TheVariants.{Begins, Naks, Takes, Acknowledges, Confirms}
use Rattle.dev_control.specs.Stages.{Stages, stage_of, acted_at, after_stage_row, acked_with}
use Rattle.dev_control.specs.Stages as Staging
use Rattle.hub_ports.specs.declared.rows.HubRequest.{HubRequest}
use Rattle.hub_ports.specs.declared.rows.HubRequest.TheVariants.{ChangePort, ClearBuffer, ResetTranslator}
use Rattle.hub_class.specs.HubContent.{HubContent}
use Rattle.hub_class.specs.Requesting.{effect_if, request_at, requested}
use Rattle.hub_class.specs.EndpointZero.{reply_under, suits, acts_on, acted_with, row_at, hub_answered, hub_acked}
use Rattle.hub_class.specs.Translating.{HubWorks, after_split, transacted}
use Rattle.law_hub.specs.Stages.{IsReady}

record Steady (c : Stages) : Type 0 where
  max : c.max ≡ 64
  naks : c.naks ≡ 0

ready_with : (c : Stages) (h : HubContent) → Steady c → IsReady (record h { control = c })
ready_with c h s = record { max = s.max; naks = s.naks }

steady_of : (h : HubContent) → IsReady h → Steady h.control
steady_of h r = record { max = r.max; naks = r.naks }

-- ---- requests and split asks

effect_ready : (request : Option HubRequest) (h : HubContent) → IsReady h → IsReady (effect_if request h)
effect_ready (Some (ChangePort port change)) h r = record { max = r.max; naks = r.naks }
effect_ready (Some (ClearBuffer port key)) h r = record { max = r.max; naks = r.naks }
effect_ready (Some (ResetTranslator port)) h r = record { max = r.max; naks = r.naks }
effect_ready _ h r = r

pub requested_ready : (setup : List ℕ) (h : HubContent) → IsReady h → IsReady (requested setup h)
requested_ready setup h r = effect_ready (request_at setup h) h r

split_ready : (split : Split) (ask : Ask) (out : List ℕ) (stuff : ℕ) (h : HubContent) → IsReady h
    → IsReady (after_split split ask out stuff h)
split_ready Plain ask out stuff h r = r
split_ready _ ask out stuff h r = record { max = r.max; naks = r.naks }

pub transacted_ready : (ask : Ask) (out : List ℕ) (stuff : ℕ) (h : HubContent) → IsReady h → IsReady (transacted ask out stuff h)
transacted_ready ask out stuff h r = split_ready ask.split ask out stuff h r

pub worked_ready : {W : Type 0} (transacts : W → Ask → List ℕ → Reply → W → Type 0) (frindex : ℕ) (old : HubContent) (before : W) (new : HubContent) (after : W) → HubWorks transacts frindex old before new after → IsReady old → IsReady new
worked_ready transacts frindex old before new after works r = subst IsReady (sym works.same) (record { max = r.max; naks = r.naks })

-- ---- endpoint 0

acted_steady : (done : Bool) (u : Request) (c : Stages) → Steady c → Steady (acted_at done u c)
acted_steady true u c s = s
acted_steady false u c s = record { max = s.max; naks = s.naks }

acted_on_steady : (request : Option Request) (c : Stages) → Steady c → Steady (Staging.acted_with request c)
acted_on_steady None c s = s
acted_on_steady (Some u) c s = acted_steady u.done u c s

row_steady : (row : StageRow) (c : Stages) → Steady c → Steady (after_stage_row row c)
row_steady (Begins setup) c s = record { max = s.max; naks = s.naks }
row_steady Naks c s = record { max = s.max; naks = omega (arith, s.naks) }
row_steady (Takes to) c s = record { max = s.max; naks = s.naks }
row_steady Acknowledges c s = acted_on_steady c.request c s
row_steady Confirms c s = acted_on_steady c.request c s
row_steady _ c s = s

acted_ready : (setup : Option (List ℕ)) (h : HubContent) → IsReady h → IsReady (acted_with setup h)
acted_ready None h r = r
acted_ready (Some setup) h r = requested_ready setup h r

answered_by : (b : Bool) (row : StageRow) (h : HubContent) → IsReady h → IsReady (if b then acted_with (acts_on row h.control.request) (record h { control = after_stage_row row h.control }) else h)
answered_by true row h r = acted_ready (acts_on row h.control.request) (record h { control = after_stage_row row h.control }) (ready_with (after_stage_row row h.control) h (row_steady row h.control (steady_of h r)))
answered_by false row h r = r

pub answered_ready : (ask : Ask) (out : List ℕ) (h : HubContent) → IsReady h → IsReady (hub_answered ask out h)
answered_ready ask out h r = answered_by (suits ask h) (row_at ask out h) h r

acked_steady : (stage : Stage) (request : Option Request) (c : Stages) → Steady c → Steady (acked_with stage request c)
acked_steady Reading (Some u) c s = record { max = s.max; naks = s.naks }
acked_steady Reading None c s = s
acked_steady Refusing request c s = s
acked_steady AllRead request c s = s
acked_steady Writing request c s = s
acked_steady AllWritten request c s = s
acked_steady NoData request c s = s

acked_by : (b : Bool) (c : Stages) (h : HubContent) → Steady c → IsReady h → IsReady (if b then record h { control = c } else h)
acked_by true c h s r = ready_with c h s
acked_by false c h s r = r

pub acked_ready : (ask : Ask) (h : HubContent) → IsReady h → IsReady (hub_acked ask h)
acked_ready ask h r = acked_by (suits ask h) (acked_with (stage_of (reply_under h) h.control) h.control.request h.control) h (acked_steady (stage_of (reply_under h) h.control) h.control.request h.control (steady_of h r)) r
