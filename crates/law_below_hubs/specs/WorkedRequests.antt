-- The read of `WorkedControl` where a packet is lost on each bus: the hub's ACK to the first start-split, and the device's ACK to its
-- SETUP.
--     HubRestsFirst            nothing is asked before
--     AnswerIsLost             the start was taken, and the host, which heard nothing, counted an error
--     WorksFirst               its queue head works on the SETUP
--     LossHeard                what the host hears: silence, so it starts again; NYET, as the hub asks the device once more; the answer
--     ActedOnce                the device acted once, at the end
--     IsAfterMicroframe         the microframe after the lost ACK, by the law
--     BothAskedBreaks          a start in the other direction at once breaks it
use Rattle.std.specs.Prelude.{◌≡◌, ℕ, true, false, List, [], ◌∷◌}
use Rattle.usb_base.specs.declared.packets.Fate.TheVariants.{Lost}
use Rattle.usb_base.specs.declared.packets.Pid.TheVariants as Pids
use Rattle.usb_base.specs.declared.packets.Reply.TheVariants.{Silent, Bytes, Hand}
use Rattle.usb_base.specs.declared.packets.Way.TheVariants as Ways
use Rattle.script_types.specs.declared.scripts.FateText.{FateText}
use Rattle.script_types.specs.declared.scripts.Script.{Script}
use Rattle.qh_qtd.specs.declared.queue_head.Qh.{Qh}
use Rattle.qh_qtd.specs.Blank.{blank_token, blank_head}
use Rattle.bus_wire.specs.Bus.{Wired, opening_wired}
use Rattle.bus_wire.specs.Samples.{Step, Begins, named, stepped, left_wired, heard}
use Rattle.law_request.specs.Line.{Line as Window, line_at}
use Rattle.law_below_hubs.specs.HostRequests.{RequestBelow, IsWorkingBelow, RequestBegins, HubRests}
use Rattle.law_below_hubs.specs.WorkedControl.{read_script, reading, reply, own, unset, start, complete, setup, stages_at, at_request}
use Rattle.law_below_hubs.specs.WorkedControl.{both_asked}

-- packet k of the endpoint is lost on the bus below, or on the high-speed bus
abbrev pub lost_below : ℕ → FateText
lost_below k = record { name = named 3 0 Ways.Ctl; down = true; k = k; fate = Lost }

abbrev pub lost_above : ℕ → FateText
lost_above k = record (lost_below k) { down = false }

abbrev pub lossy : Script
lossy = record read_script { fates = lost_above 2 ∷ lost_below 2 ∷ [] }

abbrev pub first : Wired
first = opening_wired lossy

abbrev pub answer_lost : Wired
answer_lost = stepped first (start Pids.Setup Pids.Data0 setup)

abbrev pub begun : Wired
begun = stepped answer_lost (Begins 1)

-- ---- the premises, at moments of it

abbrev pub HubRestsFirst : Type 0
HubRestsFirst = HubRests own 0 0 first unset

-- the host after one error
abbrev pub erred : Window
erred = record (line_at own reading false unset) {
  host = record (line_at own reading false unset).host {
    side = record (line_at own reading false unset).host.side { cerr = 2; xact_err = true };
  };
}

abbrev pub AnswerIsLost : Type 0
AnswerIsLost = RequestBelow own reading 0 0 answer_lost erred []

abbrev pub IsAfterMicroframe : Type 0
IsAfterMicroframe = RequestBegins own reading 0 0 answer_lost begun erred []

abbrev pub queue : Qh
queue = record blank_head {
  addr = 3;
  max = 64;
  hub = 9;
  port = 1;
  dtc = true;
  token = record blank_token { pid = 2; total = 8; cerr = 3; active = true };
}

abbrev pub WorksFirst : Type 0
WorksFirst = IsWorkingBelow own reading queue (line_at own reading false unset).host

-- ---- what comes of it

abbrev pub all_steps : List Step
all_steps =
    start Pids.Setup Pids.Data0 setup ∷ Begins 1 ∷ start Pids.Setup Pids.Data0 setup ∷ complete Pids.Setup Pids.Data0 ∷ Begins 2
    ∷ complete Pids.Setup Pids.Data0 ∷ start Pids.In Pids.Data1 [] ∷ Begins 3 ∷ complete Pids.In Pids.Data1
    ∷ start Pids.Out Pids.Data1 [] ∷ Begins 4 ∷ complete Pids.Out Pids.Data1 ∷ []

abbrev pub LossHeard : Type 0
LossHeard =
    heard first all_steps
    ≡ Silent ∷ Hand Pids.Ack ∷ Hand Pids.Nyet ∷ Hand Pids.Ack ∷ Hand Pids.Ack ∷ Bytes Pids.Data1 reply ∷ Hand Pids.Ack ∷ Hand Pids.Ack ∷ []

abbrev pub ActedOnce : Type 0
ActedOnce = stages_at (left_wired first all_steps) ≡ at_request 64 false true 1

-- ---- what breaks it

abbrev pub BothAskedBreaks : Type 0
BothAskedBreaks = (l : Window) → l.host ≡ (line_at own reading false unset).host → RequestBelow own reading 0 0 both_asked l [] → ⊥
