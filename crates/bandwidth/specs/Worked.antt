-- Endpoints and rules for worked rows.
use Rattle.std.specs.Prelude.{ℕ, true, Some, None}
use Rattle.usb_base.specs.declared.packets.Speed.TheVariants.{Full, High}
use Rattle.usb_base.specs.declared.packets.EpKind.TheVariants.{Iso, Interrupt}
use Rattle.usb_base.specs.declared.packets.Dir.TheVariants.{In, Out}
use Rattle.usb_base.specs.declared.rules.Rules.{Rules}
use Rattle.usb_base.specs.Rules.{first_rules}
use Rattle.bandwidth.specs.declared.placements.Want.{Want}
use Rattle.bandwidth.specs.declared.placements.Placement.{Placement}
use Rattle.bandwidth.specs.declared.placements.Placed.{Placed}

-- a high-speed interrupt IN endpoint of 8 bytes
abbrev pub mouse : ℕ → Want
mouse period = record { id = 1; speed = High; kind = Interrupt; dir = In; max = 8; multi = 1; period = period; hub = None; tt = 0 }

-- full-speed endpoints of period 8 below hub 9
abbrev pub keyboard : Want
keyboard = record { id = 2; speed = Full; kind = Interrupt; dir = In; max = 64; multi = 1; period = 8; hub = Some 9; tt = 0 }

abbrev pub camera : ℕ → Want
camera bytes = record { id = 3; speed = Full; kind = Iso; dir = In; max = bytes; multi = 1; period = 8; hub = Some 9; tt = 0 }

abbrev pub speaker : ℕ → Want
speaker bytes = record { id = 4; speed = Full; kind = Iso; dir = Out; max = bytes; multi = 1; period = 8; hub = Some 9; tt = 0 }

abbrev pub placed : ℕ → ℕ → ℕ → ℕ → Placement
placed period phase smask cmask = record { period = period; phase = phase; smask = smask; cmask = cmask }

-- the worst case of bit stuffing counts
abbrev pub stuffed_rules : Rules
stuffed_rules = record first_rules { stuffed = true }

-- the keyboard at the translator of this port
abbrev pub at_port : ℕ → Placed
at_port port = record { want = record keyboard { tt = port }; placement = placed 8 0 1 28 }
