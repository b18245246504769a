-- Where a run begins, no hub has anything of any key, and nothing was asked (USB 2.0, 11.14).
use Rattle.std.specs.Prelude.{◌≡◌, ℕ, ◌<◌, length, if◌then◌else◌, Some, slice_get}
use Rattle.usb_base.specs.declared.packets.Ask.{Ask}
use Rattle.script_types.specs.declared.devices.HubText.{HubText}
use Rattle.script_types.specs.declared.scripts.Script.{Script}
use Rattle.hub_keys.specs.declared.key.Key.{Key}
use Rattle.bus_wire.specs.Bus.{opening_bus}
use Rattle.law_translated.specs.Lift.{Way, Empty}
use Rattle.law_below_hubs.specs.HubsKeys.{HubsHave, AreRightHubs}

-- how many translators a hub has
abbrev pub translators_of : HubText → ℕ
translators_of h = if h.multi then length h.attached else 1

-- at each translator of each hub
abbrev pub OpensWithoutKeys : Type 0
OpensWithoutKeys = (s : Script) (way : Way) (k : Key) (i place : ℕ) (h : HubText) → slice_get s.hubs i ≡ Some h → place < translators_of h
    → HubsHave way k i place (opening_bus s).hubs Empty

abbrev pub OpensRight : (Ask → Type 0) → Type 0
OpensRight right = (s : Script) → AreRightHubs right (opening_bus s).hubs
