-- The root ports: the bits of PORTSC, what each event makes of them, and what the driver reads (EHCI 1.0 section 2.3.9).
use Rattle.std.specs.Prelude.{ℕ, ◌+◌, ◌-◌, ◌*◌, ◌/◌, ◌%◌, ◌^◌, ◌==◌, Bool, true, false, not, ◌&&◌, ◌||◌, List, [], ◌∷◌, map, fold, zip, take, slice_get, slice_set, Option, Some, None, is_some, if◌then◌else◌}
use Rattle.std.specs.List.{list_any}
use Rattle.root_ports.specs.declared.port.Plugged.{Plugged}
use Rattle.root_ports.specs.declared.port.Plugged.TheVariants.{High, Full, Low}
use Rattle.root_ports.specs.declared.port.Port.{Port}
use Rattle.root_ports.specs.declared.port_event.PortEvent.{PortEvent}
use Rattle.root_ports.specs.declared.port_event.PortEvent.TheVariants.{Plug, Unplug, Write, Route}

-- ---- one port

-- a port opens with power and owner 0, and tells of what is plugged in
abbrev pub opened_port : Option Plugged → Bool → Port
opened_port thing plugged = record {
  thing = thing;
  plugged = plugged;
  power = true;
  owner = false;
  connection = plugged;
  connection_changed = plugged;
  enable = false;
  reset = false;
}

-- HCReset (section 2.3.1)
abbrev pub reopened : Port → Port
reopened p = opened_port p.thing p.plugged

-- where something is plugged in, it is connected
abbrev pub appeared : Port → Port
appeared p = if p.plugged then record p { connection = true; connection_changed = true } else p

-- what was connected no longer is
abbrev pub disappeared : Port → Port
disappeared p = if p.connection then record p { connection = false; connection_changed = true } else p

-- neither enabled nor in reset
abbrev pub stopped : Port → Port
stopped p = record p { enable = false; reset = false }

-- the connection follows what is plugged in where the port has power and no other owner
abbrev pub followed : Port → Port
followed p = if p.power && not p.owner then record p { connection = p.plugged; connection_changed = true } else p

-- what is declared at the port is plugged in
abbrev pub after_plug : Port → Port
after_plug p = if is_some p.thing && not p.plugged then followed (stopped (record p { plugged = true })) else p

-- it is unplugged
abbrev pub after_unplug : Port → Port
after_unplug p = if p.plugged then followed (stopped (record p { plugged = false })) else p

-- ---- a write of PORTSC, row by row

-- whether this bit of a word is 1
abbrev pub bit : ℕ → ℕ → Bool
bit word n = word / 2 ^ n % 2 == 1

-- bit 1, Connect Status Change: a 1 clears it
abbrev pub after_bit_1 : ℕ → Port → Port
after_bit_1 word p = if bit word 1 then record p { connection_changed = false } else p

-- bit 2, Port Enabled: a 0 clears it
abbrev pub after_bit_2 : ℕ → Port → Port
after_bit_2 word p = if bit word 2 then p else record p { enable = false }

abbrev pub powered : Port → Port
powered p = if p.power then p else if p.owner then record p { power = true } else appeared (record p { power = true })

abbrev pub unpowered : Port → Port
unpowered p = if p.power then record p { power = false; connection = false; connection_changed = false; enable = false; reset = false } else p

-- bit 12, Port Power
abbrev pub after_bit_12 : ℕ → Port → Port
after_bit_12 word p = if bit word 12 then powered p else unpowered p

-- given to a companion controller
abbrev pub given : Port → Port
given p = if p.owner then p else disappeared (stopped (record p { owner = true }))

-- taken back
abbrev pub taken_back : Port → Port
taken_back p = if p.owner then (if p.power then appeared (record p { owner = false }) else record p { owner = false }) else p

-- bit 13, Port Owner
abbrev pub after_owner : Bool → Port → Port
after_owner owner p = if owner then given p else taken_back p

abbrev pub is_high : Option Plugged → Bool
is_high (Some High) = true
is_high _ = false

-- a reset begins only at a connected port while the controller runs
abbrev pub reset_begun : Bool → Port → Port
reset_begun run p = if not p.reset && (p.connection && run) then record p { reset = true; enable = false } else p

-- a reset that ends enables the port where the thing is high speed
abbrev pub reset_ended : Port → Port
reset_ended p = if p.reset then record p { reset = false; enable = p.connection && is_high p.thing } else p

-- bit 8, Port Reset
abbrev pub after_bit_8 : ℕ → Bool → Port → Port
after_bit_8 word run p = if bit word 8 then reset_begun run p else reset_ended p

-- The rows act in this order.
abbrev pub after_port_write : ℕ → Bool → Port → Port
after_port_write word run p = after_bit_8 word run (after_owner (bit word 13) (after_bit_12 word (after_bit_2 word (after_bit_1 word p))))

-- ---- reading

abbrev pub one_if : Bool → ℕ
one_if b = if b then 1 else 0

-- Line Status: the K state for a low-speed thing, and the J state for the others
abbrev pub line_of : Option Plugged → ℕ
line_of (Some Low) = 1
line_of (Some _) = 2
line_of None = 0

-- it is told only of a connected port that is neither enabled nor in reset
abbrev pub line_status : Port → ℕ
line_status p = if p.connection && (not p.enable && not p.reset) then line_of p.thing else 0

-- PORTSC: 0 Current Connect Status, 1 Connect Status Change, 2 Port Enabled, 8 Port Reset, 11:10 Line Status, 12 Port Power, 13 Port Owner
abbrev pub port_word : Port → ℕ
port_word p =
    one_if p.connection + one_if p.connection_changed * 2 ^ 1 + one_if p.enable * 2 ^ 2 + one_if p.reset * 2 ^ 8 + line_status p * 2 ^ 10 + one_if p.power * 2 ^ 12
    + one_if p.owner * 2 ^ 13

-- ---- all ports, which are numbered from 1

abbrev pub port_at : ℕ → List Port → Option Port
port_at port ports = if port == 0 then None else slice_get ports (port - 1)

abbrev pub with_port : ℕ → (Port → Port) → Option Port → List Port → List Port
with_port port change None ports = ports
with_port port change (Some p) ports = slice_set ports (port - 1) (change p)

-- the ports after a change of this one
abbrev pub changed_at : ℕ → (Port → Port) → List Port → List Port
changed_at port change ports = with_port port change (port_at port ports) ports

-- The ports after an event. A write of CONFIGFLAG routes every port (section 2.3.8).
abbrev pub ports_after : PortEvent → List Port → List Port
ports_after (Plug port) ports = changed_at port after_plug ports
ports_after (Unplug port) ports = changed_at port after_unplug ports
ports_after (Write port word run) ports = changed_at port (after_port_write word run) ports
ports_after (Route on) ports = map (after_owner (not on)) ports

-- the first n of these things, each plugged in
abbrev pub opened : List (Option Plugged) → ℕ → List Port
opened things n = map (λ thing. opened_port thing (is_some thing)) (take n things)

-- the ports after a list of events
abbrev pub played : List Port → List PortEvent → List Port
played ports events = fold (λ before e. ports_after e before) ports events

abbrev pub enable_of : Option Port → Bool
enable_of None = false
enable_of (Some p) = p.enable

-- the enable bit of a port, false for one that isn't there
abbrev pub is_enabled : ℕ → List Port → Bool
is_enabled port ports = enable_of (port_at port ports)

abbrev pub word_of_port : Option Port → ℕ
word_of_port None = 0
word_of_port (Some p) = port_word p

-- PORTSC of a port, 0 for one that isn't there
abbrev pub port_status : ℕ → List Port → ℕ
port_status port ports = word_of_port (port_at port ports)

-- some connection change is 1
abbrev pub has_change : List Port → Bool
has_change ports = list_any (λ p. p.connection_changed) ports

-- the connection change went from 0 to 1
abbrev pub is_new_change : Port × Port → Bool
is_new_change ports = not ports.0.connection_changed && ports.1.connection_changed

-- some connection change went from 0 to 1, port by port
abbrev pub has_new_change : List Port → List Port → Bool
has_new_change before after = list_any is_new_change (zip before after)
