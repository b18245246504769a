-- A hub of two ports and its asks for worked rows: a full-speed device at port 1.
use Rattle.std.specs.Prelude.{ℕ, true, false, List, [], ◌∷◌, Some, None}
use Rattle.std.specs.Option.{option_map_or}
use Rattle.usb_base.specs.declared.packets.Ask.{Ask}
use Rattle.usb_base.specs.declared.packets.EpKind.{EpKind}
use Rattle.usb_base.specs.declared.packets.EpKind.TheVariants.{Bulk, Control}
use Rattle.usb_base.specs.declared.packets.DataPart.TheVariants as Parts
use Rattle.usb_base.specs.declared.packets.Pid.{Pid}
use Rattle.usb_base.specs.declared.packets.Pid.TheVariants as Pids
use Rattle.usb_base.specs.declared.packets.Speed.TheVariants.{Full, High}
use Rattle.usb_base.specs.declared.packets.Split.{Split}
use Rattle.usb_base.specs.declared.packets.Split.TheVariants.{Plain, Start, Complete}
use Rattle.dev_control.specs.Stages.{opened}
use Rattle.hub_ports.specs.Ports.{opened_port}
use Rattle.tt_pipeline.specs.declared.entry.Entry.{Entry}
use Rattle.multi_tt.specs.Translators.{opening_of, translator_at}
use Rattle.hub_class.specs.HubContent.{HubContent}
use Rattle.hub_class.specs.EndpointZero.{hub_answered}
use Rattle.hub_class.specs.Translating.{transacted}

abbrev pub hub : HubContent
hub = record {
  address = 9;
  ports = opened_port (Some Full) ∷ opened_port None ∷ [];
  control = opened 64 0;
  translators = opening_of 2 false;
}

-- .. and one with a translator for each port
abbrev pub multi_hub : HubContent
multi_hub = record hub { translators = opening_of 2 true }

-- a plain ask of endpoint 0
abbrev pub ask : Pid → Pid → Ask
ask pid toggle = record { split = Plain; pid = pid; addr = 9; ep = 0; speed = High; kind = Control; toggle = toggle; limit = 64 }

abbrev pub setup_ask : Ask
setup_ask = ask Pids.Setup Pids.Data0

abbrev pub in_ask : Ask
in_ask = ask Pids.In Pids.Data1

abbrev pub status_ask : Ask
status_ask = ask Pids.Out Pids.Data1

abbrev pub port_2 : Split → Split
port_2 (Start hub port part) = Start hub 2 part
port_2 (Complete hub port) = Complete hub 2
port_2 Plain = Plain

-- split asks of endpoint 1 IN of device 3
abbrev pub start : EpKind → Ask
start kind = record { split = Start 9 1 Parts.All; pid = Pids.In; addr = 3; ep = 1; speed = Full; kind = kind; toggle = Pids.Data0; limit = 64 }

abbrev pub complete : EpKind → Ask
complete kind = record { split = Complete 9 1; pid = Pids.In; addr = 3; ep = 1; speed = Full; kind = kind; toggle = Pids.Data0; limit = 64 }

-- .. of device 4 at port 2
abbrev pub second : Ask → Ask
second a = record a { split = port_2 a.split; addr = 4 }

-- the pipeline that serves a port
abbrev pub pipeline_at : ℕ → HubContent → List Entry
pipeline_at port h = option_map_or (λ t. t.pipeline) (translator_at port h.translators) []

-- requests: the status of port 1, the reset of port 1 and of port 2, power off at port 1, and one that no hub knows
abbrev pub get_status : List ℕ
get_status = 163 ∷ 0 ∷ 0 ∷ 0 ∷ 1 ∷ 0 ∷ 4 ∷ 0 ∷ []

abbrev pub set_reset : List ℕ
set_reset = 35 ∷ 3 ∷ 4 ∷ 0 ∷ 1 ∷ 0 ∷ 0 ∷ 0 ∷ []

abbrev pub power_off : List ℕ
power_off = 35 ∷ 1 ∷ 8 ∷ 0 ∷ 1 ∷ 0 ∷ 0 ∷ 0 ∷ []

abbrev pub reset_translator : List ℕ
reset_translator = 35 ∷ 9 ∷ 0 ∷ 0 ∷ 1 ∷ 0 ∷ 0 ∷ 0 ∷ []

abbrev pub reset_second : List ℕ
reset_second = 35 ∷ 9 ∷ 0 ∷ 0 ∷ 2 ∷ 0 ∷ 0 ∷ 0 ∷ []

-- ClearTTBuffer of endpoint 1 IN of device 3 at port 1: 3 * 16 + 1, type 2, bit 15
abbrev pub clear_first : List ℕ
clear_first = 35 ∷ 8 ∷ 49 ∷ 144 ∷ 1 ∷ 0 ∷ 0 ∷ 0 ∷ []

abbrev pub get_descriptor : List ℕ
get_descriptor = 160 ∷ 6 ∷ 0 ∷ 41 ∷ 0 ∷ 0 ∷ 9 ∷ 0 ∷ []

-- the hub once it heard the SETUP of a request
abbrev pub told : List ℕ → HubContent → HubContent
told setup h = hub_answered setup_ask setup h

-- .. and one with a translator for each port, once a bulk start was taken at both
abbrev pub both_started : HubContent
both_started = transacted (second (start Bulk)) [] 0 (transacted (start Bulk) [] 0 multi_hub)
