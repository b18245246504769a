-- When a root port was made ready and when it was unmade, by looking back through the events.
use Rattle.std.specs.Prelude.{ℕ, ◌==◌, Bool, true, false, not, ◌&&◌, ◌||◌, List, [], ◌∷◌, Option, Some, None, if◌then◌else◌}
use Rattle.root_ports.specs.declared.port.Port.{Port}
use Rattle.root_ports.specs.declared.port_event.PortEvent.{PortEvent}
use Rattle.root_ports.specs.declared.port_event.PortEvent.TheVariants.{Plug, Unplug, Write, Route}
use Rattle.root_ports.specs.Ports.{is_high, bit, port_at, ports_after}

-- the ports after events, the newest first
abbrev pub played_back : List Port → List PortEvent → List Port
played_back opening [] = opening
played_back opening (e ∷ older) = ports_after e (played_back opening older)

-- whether an event is one of this port
abbrev pub concerns : ℕ → PortEvent → Bool
concerns port (Plug at) = at == port
concerns port (Unplug at) = at == port
concerns port (Write at word run) = at == port
concerns port (Route on) = true

-- a high-speed thing is plugged in, and the port has power and no other owner
abbrev pub can_serve : Port → Bool
can_serve p = (p.plugged && is_high p.thing) && (p.power && not p.owner)

-- A port is made ready by a write with which bit 8 of its PORTSC goes from 1 to 0, if it can serve then.
abbrev pub makes_ready : PortEvent → Port → Port → Bool
makes_ready (Write at word run) before after = before.reset && (not after.reset && can_serve after)
makes_ready _ before after = false

-- It is unmade by a plug or an unplug that changes something, by a write with bit 2 0, by one after which it has another owner, no power or is in reset, and by giving all ports away.
abbrev pub unmakes : PortEvent → Port → Port → Bool
unmakes (Plug at) before after = not before.plugged && after.plugged
unmakes (Unplug at) before after = before.plugged && not after.plugged
unmakes (Write at word run) before after = not (bit word 2) || (after.owner || (not after.power || after.reset))
unmakes (Route on) before after = not on

-- whether the port is ready after an event of it, by what it is before and after, and whether it was ready before
abbrev pub ready_after : PortEvent → Option Port → Option Port → Bool → Bool
ready_after e (Some before) (Some after) was = if makes_ready e before after then true else if unmakes e before after then false else was
ready_after e _ _ was = was

-- The port was made ready and not unmade since, after events, the newest first. What counts is the newest event that made it ready or unmade it.
abbrev pub is_ready : List Port → ℕ → List PortEvent → Bool
is_ready opening port [] = false
is_ready opening port (e ∷ older) =
    if concerns port e
    then ready_after e (port_at port (played_back opening older)) (port_at port (played_back opening (e ∷ older))) (is_ready opening port older)
    else is_ready opening port older
