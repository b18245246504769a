-- The ports of a hub: what changes of their bits, and what a request reads of them (USB 2.0, 11.24.2).
use Rattle.std.specs.Prelude.{ℕ, ◌+◌, ◌-◌, ◌==◌, Bool, true, false, ◌&&◌, ◌||◌, List, [], ◌∷◌, slice_get, slice_set, Option, Some, None, is_some, if◌then◌else◌}
use Rattle.usb_base.specs.declared.packets.Speed.{Speed}
use Rattle.usb_base.specs.declared.packets.Speed.TheVariants.{Low}
use Rattle.hub_ports.specs.declared.port.Port.{Port}
use Rattle.hub_ports.specs.declared.rows.HubReply.{HubReply}
use Rattle.hub_ports.specs.declared.rows.HubReply.TheVariants.{Bytes, Done, Stall}
use Rattle.hub_ports.specs.declared.rows.HubRequest.{HubRequest}
use Rattle.hub_ports.specs.declared.rows.HubRequest.TheVariants.{HubStatus, PortStatus, ChangePort, ClearBuffer, ResetTranslator}
use Rattle.hub_ports.specs.declared.rows.PortChange.{PortChange}
use Rattle.hub_ports.specs.declared.rows.PortChange.TheVariants.{PowerOn, Reset, Disable, PowerOff, ForgetConnection, ForgetEnable, ForgetReset}

-- ---- one port

-- with power, and connected and enabled where a device is attached
abbrev pub opened_port : Option Speed → Port
opened_port attached = record {
  attached = attached;
  power = true;
  connection = is_some attached;
  enable = is_some attached;
  connection_changed = false;
  reset_changed = false;
}

-- where power was off, a device that is attached there is connected
abbrev pub powered_port : Port → Port
powered_port p = if p.power then p else record p {
  power = true;
  connection = is_some p.attached || p.connection;
  connection_changed = is_some p.attached || p.connection_changed;
}

-- a reset is done at once, where there are power and a connection
abbrev pub reset_port : Port → Port
reset_port p = if p.power && p.connection then record p { enable = true; reset_changed = true } else p

-- The table of changes.
abbrev pub changed_port : PortChange → Port → Port
changed_port PowerOn p = powered_port p
changed_port Reset p = reset_port p
changed_port Disable p = record p { enable = false }
changed_port PowerOff p = record p { power = false; connection = false; enable = false; connection_changed = false; reset_changed = false }
changed_port ForgetConnection p = record p { connection_changed = false }
changed_port ForgetEnable p = p
changed_port ForgetReset p = record p { reset_changed = false }

abbrev pub bit_at : ℕ → Bool → ℕ
bit_at value true = value
bit_at value false = 0

abbrev pub is_low_speed : Option Speed → Bool
is_low_speed (Some Low) = true
is_low_speed _ = false

-- a low-speed device is connected
abbrev pub is_low : Port → Bool
is_low p = is_low_speed p.attached && p.connection

-- The status bits 0 connection, 1 enable, 8 power, 9 low speed, and the change bits 0 connection, 4 reset (11.24.2.7).
abbrev pub status_bytes : Port → List ℕ
status_bytes p =
    (bit_at 1 p.connection + bit_at 2 p.enable)
    ∷ (bit_at 1 p.power + bit_at 2 (is_low p))
    ∷ (bit_at 1 p.connection_changed + bit_at 16 p.reset_changed)
    ∷ 0 ∷ []

-- ---- all ports, which are numbered from 1

abbrev pub port_at : ℕ → List Port → Option Port
port_at port ports = if port == 0 then None else slice_get ports (port - 1)

-- the enable bit of a port, false for one that the hub doesn't have
abbrev pub enable_of : Option Port → Bool
enable_of None = false
enable_of (Some p) = p.enable

abbrev pub is_enabled : ℕ → List Port → Bool
is_enabled port ports = enable_of (port_at port ports)

abbrev pub with_port : ℕ → PortChange → Option Port → List Port → List Port
with_port port change None ports = ports
with_port port change (Some p) ports = slice_set ports (port - 1) (changed_port change p)

-- the ports after a change of this one
abbrev pub ports_changed : ℕ → PortChange → List Port → List Port
ports_changed port change ports = with_port port change (port_at port ports) ports

abbrev pub status_of : Option Port → HubReply
status_of None = Stall
status_of (Some p) = Bytes (status_bytes p)

-- what a request answers
abbrev pub reply_of : HubRequest → List Port → HubReply
reply_of HubStatus ports = Bytes (0 ∷ 0 ∷ 0 ∷ 0 ∷ [])
reply_of (PortStatus port) ports = status_of (port_at port ports)
reply_of (ChangePort _ _) ports = Done
reply_of (ClearBuffer _ _) ports = Done
reply_of (ResetTranslator _) ports = Done

-- what it leaves of the ports
abbrev pub ports_after : HubRequest → List Port → List Port
ports_after (ChangePort port change) ports = ports_changed port change ports
ports_after _ ports = ports
