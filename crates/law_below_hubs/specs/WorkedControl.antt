-- A full-speed device with a control endpoint behind port 1 of hub 9, which knows a read of three bytes: the SETUP, the data and the status
-- of that request, each with its start-split, the microframe after it, and its complete-split.
use Rattle.std.specs.Prelude.{◌≡◌, ℕ, Bool, true, false, List, [], ◌∷◌, Option, Some, None}
use Rattle.std.specs.Option.{option_map}
use Rattle.usb_base.specs.declared.packets.Ask.{Ask}
use Rattle.usb_base.specs.declared.packets.DataPart.TheVariants.{All}
use Rattle.usb_base.specs.declared.packets.Dir.{Dir}
use Rattle.usb_base.specs.declared.packets.Dir.TheVariants as Directions
use Rattle.usb_base.specs.declared.packets.EpKind.TheVariants as Kinds
use Rattle.usb_base.specs.declared.packets.Pid.{Pid}
use Rattle.usb_base.specs.declared.packets.Pid.TheVariants as Pids
use Rattle.usb_base.specs.declared.packets.Reply.TheVariants.{Silent, Bytes, Hand}
use Rattle.usb_base.specs.declared.packets.Speed.TheVariants.{Full}
use Rattle.usb_base.specs.declared.packets.Split.{Split}
use Rattle.usb_base.specs.declared.packets.Split.TheVariants.{Start, Complete}
use Rattle.usb_base.specs.declared.packets.Way.TheVariants as Ways
use Rattle.script_types.specs.declared.devices.EpText.{EpText}
use Rattle.script_types.specs.declared.devices.Item.TheVariants as Items
use Rattle.script_types.specs.declared.scripts.Script.{Script}
use Rattle.dev_control.specs.Stages.{Stages}
use Rattle.endpoint_script.specs.Items.{requests_of}
use Rattle.hub_keys.specs.declared.key.Key.{Key}
use Rattle.tt_bulk.specs.Contents.{Taken}
use Rattle.bus_wire.specs.Bus.{Wired, opening_wired, reply_of}
use Rattle.bus_wire.specs.Samples.{Step, Asks, Begins, named, classic, script, asks, stepped, left_wired, heard}
use Rattle.claims_report.specs.Requests.{Request}
use Rattle.law_request.specs.Host.{Endpoint}
use Rattle.law_request.specs.Line.{line_at}
use Rattle.law_request.specs.Scripted.{scripted}
use Rattle.law_request.specs.Windows.{IsRequest}
use Rattle.law_devices.specs.request_calls.Bus.{device_of}
use Rattle.law_translated.specs.Windows.{Line, goes_on}
use Rattle.law_translated.specs.Lift.{Buffered, Waits, Empty, Asked, There, Told}
use Rattle.law_below_hubs.specs.SeatedControls.{control_at}
use Rattle.law_below_hubs.specs.HubsKeys.{HubsHave, AreRightHubs}
use Rattle.law_below_hubs.specs.ControlAsks.{IsRequestAsk}
use Rattle.law_below_hubs.specs.ControlWork.{control_key, IsInTurn, AnswerFits}
use Rattle.law_below_hubs.specs.ControlStands.{RequestHolds}

-- what an ask of its endpoint 0 in this direction has as its key
abbrev pub key : Dir → Key
key dir = record { addr = 3; ep = 0; dir = dir; kind = Kinds.Control }

abbrev pub setup : List ℕ
setup = 128 ∷ 6 ∷ 0 ∷ 1 ∷ 0 ∷ 0 ∷ 3 ∷ 0 ∷ []

abbrev pub reply : List ℕ
reply = 1 ∷ 2 ∷ 3 ∷ []

abbrev pub reading : Request
reading = record { setup = setup; bytes = [] }

abbrev pub endpoint : EpText
endpoint = record classic {
  desc = record classic.desc { name = named 3 0 Ways.Ctl; kind = Kinds.Control };
  items = Items.Request setup reply ∷ [];
}

abbrev pub read_script : Script
read_script = record (script []) {
  devices = record { addr = 3; speed = Full; eps = endpoint ∷ [] } ∷ [];
  endpoints = named 3 0 Ways.Ctl ∷ [];
}

-- the most bytes that the host can take
abbrev pub limit_at : Pid → ℕ
limit_at Pids.Setup = 8
limit_at Pids.In = 3
limit_at _ = 0

abbrev pub ask_by : Split → Pid → Pid → Ask
ask_by split pid toggle = record (asks split) { pid = pid; ep = 0; kind = Kinds.Control; toggle = toggle; limit = limit_at pid }

abbrev pub taken : Pid → Pid → List ℕ → Taken
taken pid toggle out = record { ask = ask_by (Start 9 1 All) pid toggle; packet = out; stuff = 0 }

-- ---- the three stages

abbrev pub start : Pid → Pid → List ℕ → Step
start pid toggle out = Asks (ask_by (Start 9 1 All) pid toggle) out

abbrev pub complete : Pid → Pid → Step
complete pid toggle = Asks (ask_by (Complete 9 1) pid toggle) []

abbrev pub opened : Wired
opened = opening_wired read_script

abbrev pub set_up : Wired
set_up = stepped opened (start Pids.Setup Pids.Data0 setup)

abbrev pub after_setup : Wired
after_setup = stepped set_up (Begins 1)

abbrev pub asked_data : Wired
asked_data = left_wired after_setup (complete Pids.Setup Pids.Data0 ∷ start Pids.In Pids.Data1 [] ∷ [])

abbrev pub after_data : Wired
after_data = stepped asked_data (Begins 2)

abbrev pub asked_status : Wired
asked_status = left_wired after_data (complete Pids.In Pids.Data1 ∷ start Pids.Out Pids.Data1 [] ∷ [])

abbrev pub after_status : Wired
after_status = stepped asked_status (Begins 3)

abbrev pub all_steps : List Step
all_steps =
    start Pids.Setup Pids.Data0 setup ∷ Begins 1 ∷ complete Pids.Setup Pids.Data0 ∷ start Pids.In Pids.Data1 [] ∷ Begins 2
    ∷ complete Pids.In Pids.Data1
    ∷ start Pids.Out Pids.Data1 [] ∷ Begins 3 ∷ complete Pids.Out Pids.Data1 ∷ []

abbrev pub stages_at : Wired → Option Stages
stages_at w = option_map (λ side. side.stages) (control_at w 3 0)

-- the request is so far, with this toggle
abbrev pub at_request : ℕ → Bool → Bool → ℕ → Option Stages
at_request moved toggle done acted = Some (record {
  max = 64;
  naks = 0;
  request = Some (record { setup = setup; moved = moved; toggle = toggle; done = done });
  acted = acted;
})

-- before each microframe and after it
pub record SetupComesTrue : Type 0 where
  pub before : HubsHave Buffered (key Directions.Out) 0 0 set_up.bus.hubs (Asked (taken Pids.Setup Pids.Data0 setup))
  pub aside : HubsHave Buffered (key Directions.In) 0 0 set_up.bus.hubs Empty
  pub right : AreRightHubs (IsRequestAsk reading 3 0) set_up.bus.hubs
  pub unset : stages_at set_up ≡ Some (record { max = 64; naks = 0; request = None; acted = 0 })
  pub after : HubsHave Buffered (key Directions.Out) 0 0 after_setup.bus.hubs (There (taken Pids.Setup Pids.Data0 setup) (Hand Pids.Ack))
  pub stages : stages_at after_setup ≡ at_request 0 true false 0

pub record DataComeTrue : Type 0 where
  pub before : HubsHave Buffered (key Directions.In) 0 0 asked_data.bus.hubs (Asked (taken Pids.In Pids.Data1 []))
  pub aside : HubsHave Buffered (key Directions.Out) 0 0 asked_data.bus.hubs (Told (taken Pids.Setup Pids.Data0 setup) (Hand Pids.Ack))
  pub right : AreRightHubs (IsRequestAsk reading 3 0) asked_data.bus.hubs
  pub after : HubsHave Buffered (key Directions.In) 0 0 after_data.bus.hubs (There (taken Pids.In Pids.Data1 []) (Bytes Pids.Data1 reply))
  pub stages : stages_at after_data ≡ at_request 64 false false 0

pub record StatusComesTrue : Type 0 where
  pub before : HubsHave Buffered (key Directions.Out) 0 0 asked_status.bus.hubs (Asked (taken Pids.Out Pids.Data1 []))
  pub right : AreRightHubs (IsRequestAsk reading 3 0) asked_status.bus.hubs
  pub after : HubsHave Buffered (key Directions.Out) 0 0 after_status.bus.hubs (There (taken Pids.Out Pids.Data1 []) (Hand Pids.Ack))
  pub stages : stages_at after_status ≡ at_request 64 false true 1

-- what the host hears, start and complete of each stage
abbrev pub HostHears : Type 0
HostHears =
    heard opened all_steps
    ≡ Hand Pids.Ack ∷ Hand Pids.Ack ∷ Hand Pids.Ack ∷ Bytes Pids.Data1 reply ∷ Hand Pids.Ack ∷ Hand Pids.Ack ∷ []

-- ---- what breaks it

-- an ask of another kind for the same endpoint, as no host makes it: the device takes it, though nothing is asked with its key
abbrev pub other_kind : Wired
other_kind = stepped opened (Asks (record (ask_by (Start 9 1 All) Pids.Setup Pids.Data0) { kind = Kinds.Bulk }) setup)

pub record OtherKindBreaks : Type 0 where
  pub wrong : AreRightHubs (IsRequestAsk reading 3 0) other_kind.bus.hubs → ⊥
  pub none : HubsHave Buffered (key Directions.Out) 0 0 other_kind.bus.hubs Empty
  pub stages : stages_at (stepped other_kind (Begins 1)) ≡ at_request 0 true false 0

-- a start that names a hub which isn't there is heard by nobody
abbrev pub elsewhere : Ask
elsewhere = ask_by (Start 10 1 All) Pids.Setup Pids.Data0

pub record NoHubHears : Type 0 where
  pub silent : reply_of opened.fixed opened.bus elsewhere setup ≡ Silent
  pub none : HubsHave Buffered (key Directions.Out) 0 0 (stepped opened (Asks elsewhere setup)).bus.hubs Empty
  pub stages : stages_at (left_wired opened (Asks elsewhere setup ∷ Begins 1 ∷ []))
      ≡ Some (record { max = 64; naks = 0; request = None; acted = 0 })

-- ---- the work as events of the request

abbrev pub own : Endpoint
own = scripted 3 0 64 (requests_of endpoint.items)

abbrev pub unset : Stages
unset = record { max = 64; naks = 0; request = None; acted = 0 }

abbrev pub under_way : Stages
under_way = record {
  max = 64;
  naks = 0;
  request = Some (record { setup = setup; moved = 0; toggle = true; done = false });
  acted = 0;
}

-- the request's window while the device is so
abbrev pub line_with : Stages → Line
line_with c = goes_on (line_at own reading false c)

-- the premises of the law, at the SETUP and at the data
pub record SetupIsInTurn : Type 0 where
  pub right : AreRightHubs (IsInTurn (control_key own Directions.Out)) set_up.bus.hubs
  pub fits : AnswerFits own (Asked (taken Pids.Setup Pids.Data0 setup)) (line_with unset)
  pub control : control_at set_up 3 0 ≡ Some (device_of own unset)

pub record DataAreInTurn : Type 0 where
  pub right : AreRightHubs (IsInTurn (control_key own Directions.In)) asked_data.bus.hubs
  pub fits : AnswerFits own (Asked (taken Pids.In Pids.Data1 [])) (line_with under_way)
  pub control : control_at asked_data 3 0 ≡ Some (device_of own under_way)

-- an IN that is asked while the SETUP still is, as no host does it
abbrev pub both_asked : Wired
both_asked = stepped set_up (start Pids.In Pids.Data1 [])

abbrev pub OutOfTurnBreaks : Type 0
OutOfTurnBreaks = AreRightHubs (IsInTurn (control_key own Directions.Out)) both_asked.bus.hubs → ⊥

-- a host that has room for two bytes wouldn't acknowledge three, as the translator does
abbrev pub for_two : Taken
for_two = record { ask = record (ask_by (Start 9 1 All) Pids.In Pids.Data1) { limit = 2 }; packet = []; stuff = 0 }

abbrev pub TooLongBreaks : Type 0
TooLongBreaks = AnswerFits own (Asked for_two) (line_with under_way) → ⊥

-- ---- how they stand

pub record SetupStands : Type 0 where
  pub is : IsRequest reading
  pub holds : RequestHolds own reading (line_with unset) Waits (Asked (taken Pids.Setup Pids.Data0 setup)) Empty

-- an IN isn't what this host asks at its SETUP
abbrev pub WrongAskBreaks : Type 0
WrongAskBreaks = RequestHolds own reading (line_with unset) Waits (Asked (taken Pids.In Pids.Data1 [])) Empty → ⊥
