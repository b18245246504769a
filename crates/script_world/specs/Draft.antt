-- A script as far as it is read: what is declared, the actions so far, and what counts toward the limits.
use Rattle.std.specs.Prelude.{ℕ, ◌+◌, ◌/◌, ◌%◌, Bool, true, false, count_by, ◌==◌, ◌&&◌, nat_le, if◌then◌else◌, List, [], ◌∷◌, length, map, Option, None, unwrap_or}
use Rattle.std.specs.List.{find, range_with_len}
use Rattle.std.specs.Option.{option_map, option_and_then, option_or}
use Rattle.std.specs.Simd.{first_chunks}
use Rattle.usb_base.specs.declared.packets.Way.{Way}
use Rattle.usb_base.specs.declared.packets.Way.TheVariants as way
use Rattle.usb_base.specs.declared.packets.Speed.{Speed}
use Rattle.usb_base.specs.declared.packets.Speed.TheVariants as speed
use Rattle.usb_base.specs.declared.packets.EpKind.TheVariants as kind
use Rattle.usb_base.specs.declared.endpoints.EpDesc.{EpDesc}
use Rattle.usb_base.specs.declared.endpoints.EpName.{EpName}
use Rattle.script_types.specs.declared.devices.EpText.{EpText}
use Rattle.script_types.specs.declared.devices.DeviceText.{DeviceText}
use Rattle.script_types.specs.declared.devices.HubText.{HubText}
use Rattle.script_types.specs.declared.devices.Item.{Item}
use Rattle.script_types.specs.declared.devices.Item.TheVariants as item
use Rattle.script_types.specs.declared.scripts.FateText.{FateText}
use Rattle.script_types.specs.declared.scripts.Line.{Line}
use Rattle.script_types.specs.declared.scripts.Script.{Script}
use Rattle.script_forms.specs.declared.statements.Name.{Name}

-- a declared device: where it is attached, and its endpoints in the order of their lines
pub record Placed : Type 0 where
  pub addr : ℕ
  pub speed : Speed
  pub hub : Option ℕ
  pub port : ℕ
  pub tt : ℕ  -- its port where the hub has a translator for each, else 0 (USB 2.0, 11.14)
  pub eps : List EpText

pub record Draft : Type 0 where
  pub version : ℕ  -- the version of the language
  pub words : Option ℕ  -- the words of memory, where a line said them
  pub declaring : Bool  -- something of the world but the memory is declared
  pub acting : Bool  -- an action came
  pub hubs : List HubText
  pub devices : List Placed
  pub endpoints : List EpName  -- the endpoints of all devices in the order of their lines
  pub stuffed : List EpName  -- the endpoints with a number of stuffed bits, in the order of their lines
  pub fates : List FateText
  pub holds : List (ℕ × ℕ)
  pub lines : List (ℕ × Line)
  pub commands : ℕ  -- how many commands there are
  pub steps : ℕ  -- how many steps of the driver and of the controller are ordered
  pub microframes : ℕ  -- how many microframes are ordered
  pub scripted : ℕ  -- how many bytes the script has
  pub asked : ℕ  -- how many bytes are asked for

-- nothing is read yet
abbrev pub empty : Draft
empty = record {
  version = 1;
  words = None;
  declaring = false;
  acting = false;
  hubs = [];
  devices = [];
  endpoints = [];
  stuffed = [];
  fates = [];
  holds = [];
  lines = [];
  commands = 0;
  steps = 0;
  microframes = 0;
  scripted = 0;
  asked = 0;
}

-- the number of a way, which tells it from the others
abbrev pub way_number : Way → ℕ
way_number way.In = 0
way_number way.Out = 1
way_number way.Ctl = 2

abbrev pub same_way : Way → Way → Bool
same_way a b = way_number a == way_number b

-- the endpoint has this number and this way
abbrev pub is_named : Name → EpText → Bool
is_named name e = e.desc.name.num == name.num && same_way e.desc.name.way name.way

abbrev pub device_of : List Placed → ℕ → Option Placed
device_of ds a = find (λ d. d.addr == a) ds

-- the speed of a declared device
abbrev pub speed_of : Draft → ℕ → Option Speed
speed_of w a = option_map (λ d. d.speed) (device_of w.devices a)

abbrev pub hub_of : List HubText → ℕ → Option HubText
hub_of hs a = find (λ h. h.addr == a) hs

-- an endpoint of a device
abbrev pub ep_of : List EpText → Name → Option EpDesc
ep_of es name = option_map (λ e. e.desc) (find (is_named name) es)

-- a declared endpoint of a declared device
abbrev pub device_ep : Draft → Name → Option EpDesc
device_ep w name = option_and_then (λ d. ep_of d.eps name) (device_of w.devices name.addr)

-- the endpoint of a declared device as it is told so far
abbrev pub ep_text : Draft → Name → Option EpText
ep_text w name = option_and_then (λ d. find (is_named name) d.eps) (device_of w.devices name.addr)

-- what stands behind it comes in the endpoint's next epoch
abbrev pub is_epoch : Item → Bool
is_epoch item.Epoch = true
is_epoch _ = false

-- how many epochs an endpoint has behind its first
abbrev pub epochs_after : EpText → ℕ
epochs_after e = count_by is_epoch e.items

-- the control endpoint 0 that each hub has, of 64 bytes (USB 2.0, 11.12.1)
abbrev pub hub_desc : ℕ → EpDesc
hub_desc a = record { name = record { addr = a; num = 0; way = way.Ctl }; speed = speed.High; kind = kind.Control; max = 64; period = 0; multi = 1; hub = None; port = 0; tt = 0 }

-- a hub's own endpoint
abbrev pub hub_ep : Draft → Name → Option EpDesc
hub_ep w name = if name.num == 0 && same_way name.way way.Ctl then option_map (λ h. hub_desc h.addr) (hub_of w.hubs name.addr) else None

-- an address to 127 and a number to 15 (USB 2.0, 8.3.2)
abbrev pub is_name : Name → Bool
is_name name = nat_le name.addr 127 && nat_le name.num 15

-- an endpoint that is declared, by a line of its own or by its hub's
abbrev pub known : Draft → Name → Option EpDesc
known w name = if is_name name then option_or (device_ep w name) (hub_ep w name) else None

-- the first element that passes is changed
abbrev pub change : {X : Type 0} → (X → Bool) → (X → X) → List X → List X
change p f [] = []
change p f (x ∷ xs) = if p x then f x ∷ xs else x ∷ change p f xs

-- n bytes, the first of them the seed, each one more than the one before, modulo 256
abbrev pub filled : ℕ → ℕ → List ℕ
filled n seed = map (λ i. (seed + i) % 256) (range_with_len 0 n)

-- how many packets of max bytes n bytes are
abbrev pub packet_count : ℕ → ℕ → ℕ
packet_count max n = n / max + (if n % max == 0 then 0 else 1)

-- bytes cut into packets of max, the last with the rest
abbrev pub packets : ℕ → List ℕ → List Item
packets max bytes = map item.Bytes (first_chunks max (packet_count max (length bytes)) bytes)

-- the script that was read; there are 65,536 words where no line says it
abbrev pub device_text : Placed → DeviceText
device_text d = record { addr = d.addr; speed = d.speed; eps = d.eps }

abbrev pub script_of : Draft → Script
script_of w = record { words = unwrap_or w.words 65536; hubs = w.hubs; devices = map device_text w.devices; endpoints = w.endpoints; fates = w.fates; holds = w.holds; lines = w.lines; version = w.version; frames = 1024; park = 0; roots = []; classics = []; disks = [] }
