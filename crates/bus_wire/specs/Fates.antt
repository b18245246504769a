-- What becomes of the packets of an endpoint. The packets on the high-speed bus and those below a translator are numbered apart, from 0.
use Rattle.std.specs.Prelude.{ℕ, ◌==◌, ◌&&◌, not, Bool, true, false, List, map, filter, if◌then◌else◌}
use Rattle.std.specs.List.{list_any}
use Rattle.usb_base.specs.declared.endpoints.EpName.{EpName}
use Rattle.usb_base.specs.declared.packets.Fate.{Fate}
use Rattle.usb_base.specs.declared.packets.Fate.TheVariants.{Good, Lost, Damaged}
use Rattle.usb_base.specs.declared.packets.Way.{Way}
use Rattle.usb_base.specs.declared.packets.Way.TheVariants.{In, Out, Ctl}
use Rattle.script_types.specs.declared.scripts.FateText.{FateText}

abbrev pub is_same_way : Way → Way → Bool
is_same_way In In = true
is_same_way Out Out = true
is_same_way Ctl Ctl = true
is_same_way _ _ = false

abbrev pub is_same_name : EpName → EpName → Bool
is_same_name a b = a.addr == b.addr && (a.num == b.num && is_same_way a.way b.way)

abbrev pub is_bad : Fate → Bool
is_bad Good = false
is_bad Lost = true
is_bad Damaged = true

-- the fate speaks of a packet of this endpoint that doesn't get through, on the bus below a translator or on the high-speed bus
abbrev pub is_against : EpName → Bool → FateText → Bool
is_against name below f = (if below then f.down else not f.down) && (is_bad f.fate && is_same_name f.name name)

-- the numbers of those packets, in the order of the lines
abbrev pub bad_numbers : List FateText → EpName → Bool → List ℕ
bad_numbers fates name below = map (λ f. f.k) (filter (is_against name below) fates)

-- the packet with this number is lost or damaged
abbrev pub is_unheard : List FateText → EpName → Bool → ℕ → Bool
is_unheard fates name below k = list_any (λ n. n == k) (bad_numbers fates name below)
