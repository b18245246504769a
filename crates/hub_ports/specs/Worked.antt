-- Setup bytes and ports for worked rows: a hub of four ports, at the first of which a full-speed device is attached.
use Rattle.std.specs.Prelude.{ℕ, List, [], ◌∷◌, Some, None}
use Rattle.usb_base.specs.declared.packets.Speed.TheVariants.{Full, Low}
use Rattle.hub_ports.specs.declared.port.Port.{Port}
use Rattle.hub_ports.specs.Ports.{opened_port}

-- type, request, and the low and high bytes of wValue, wIndex and wLength
abbrev pub setup : ℕ → ℕ → ℕ → ℕ → ℕ → ℕ → List ℕ
setup kind request low high index length = kind ∷ request ∷ low ∷ high ∷ index ∷ 0 ∷ length ∷ 0 ∷ []

abbrev pub full : Port
full = opened_port (Some Full)

abbrev pub low : Port
low = opened_port (Some Low)

abbrev pub empty : Port
empty = opened_port None

abbrev pub four : List Port
four = full ∷ empty ∷ low ∷ empty ∷ []
