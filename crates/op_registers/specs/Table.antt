-- The table of the operational registers (EHCI 1.0 section 2.3): where each stands, what its bits are, how they begin and how they take a write of the driver.
use Rattle.std.specs.Prelude.{Bool, true, false, ℕ, ◌+◌, ◌-◌, ◌*◌, ◌/◌, ◌%◌, ◌^◌, ◌==◌, ◌&&◌, ◌||◌, not, if◌then◌else◌, nat_le, nat_lt, List, [], ◌∷◌, length, Option, Some, None, option_map, unwrap_or}
use Rattle.std.specs.List.{list_all}
use Rattle.root_ports.specs.declared.port.Port.{Port as RootPort}
use Rattle.root_ports.specs.declared.port_event.PortEvent.{PortEvent}
use Rattle.root_ports.specs.declared.port_event.PortEvent.TheVariants as Events
use Rattle.root_ports.specs.Ports.{ports_after, port_status, has_new_change}
use Rattle.op_registers.specs.RegisterFile.{RegisterFile, reset_file, reset_of}
use Rattle.op_registers.specs.declared.register.Register.{Register}
use Rattle.op_registers.specs.declared.register.Register.TheVariants.{Command, Status, InterruptEnable, FrameIndex, Segment, PeriodicListBase, AsyncListAddress, ConfigureFlag, PortStatus}

-- The number of root ports.
abbrev pub port_count : RegisterFile → ℕ
port_count r = unwrap_or (option_map length r.ports) 1

-- PORTSC of the ports, which are numbered from 1 (EHCI 1.0 section 2.3.9)
abbrev pub port_register_at : ℕ → ℕ → Option Register
port_register_at ports off = if nat_le 0x44 off && (nat_lt off (0x44 + 4 * ports) && (off % 4 == 0)) then Some (PortStatus (off / 4 - 0x10)) else None

-- The register at an offset, in bytes from the first operational register, of a controller with so many root ports.
abbrev pub register_at : ℕ → ℕ → Option Register
register_at ports off =
    if off == 0x00 then Some Command
    else if off == 0x04 then Some Status
    else if off == 0x08 then Some InterruptEnable
    else if off == 0x0c then Some FrameIndex
    else if off == 0x10 then Some Segment
    else if off == 0x14 then Some PeriodicListBase
    else if off == 0x18 then Some AsyncListAddress
    else if off == 0x40 then Some ConfigureFlag
    else port_register_at ports off

-- whether a controller with so many root ports has a register
abbrev pub has_register : ℕ → Register → Bool
has_register ports (PortStatus port) = nat_le 1 port && nat_le port ports
has_register ports _ = true

-- every register of a controller with one root port
abbrev pub registers : List Register
registers = Command ∷ Status ∷ InterruptEnable ∷ FrameIndex ∷ Segment ∷ PeriodicListBase ∷ AsyncListAddress ∷ ConfigureFlag ∷ PortStatus 1 ∷ []

-- What a row's bits are.
pub data Field : Type 0 where
  Run HCReset ListSize PeriodicEnable AsyncEnable Doorbell Threshold : Field
  Interrupt Error PortChange Rollover HostSystemError AsyncAdvance Halted Reclamation PeriodicStatus AsyncStatus : Field
  InterruptEnables FrameNumber SegmentBase ListBase AsyncAddress Configured : Field
  Port : ℕ → Field

-- How bits take a write of the driver.
-- * `Fixed` bits ignore it.
-- * `Stored` bits become what is written; `StoredHalted` ones only while the controller is halted, and else ignore it.
-- * A 1 clears a bit that is `ClearedByOne`, and sets one that is `SetByOne`; a 0 leaves either.
-- * A 1 to the bit that `Resets` resets all registers, at once, and nothing else of the word counts. The bit reads as 0.
-- * `OfPort` bits are those of a root port (crate root_ports); they ignore a write where there are no ports but the one that never changes.
pub data Write : Type 0 where
  Fixed Stored StoredHalted ClearedByOne SetByOne Resets OfPort : Write

-- A row of a register: its bits from `high` down to `low`, what they are, what they read after a reset, and how they take a write.
pub record RegisterRow : Type 0 where
  pub high : ℕ
  pub low : ℕ
  pub field : Field
  pub reset : ℕ
  pub write : Write

abbrev row : ℕ → ℕ → Field → ℕ → Write → RegisterRow
row high low field reset write = record { high = high; low = low; field = field; reset = reset; write = write }

-- The rows of each register, its lowest bits first. A bit of no row reads 0, and a write does nothing to it.
abbrev pub rows : Register → List RegisterRow
-- USBCMD, EHCI 1.0 section 2.3.1
rows Command =
    row 0 0 Run 0 Stored
    ∷ row 1 1 HCReset 0 Resets
    ∷ row 3 2 ListSize 0 StoredHalted
    ∷ row 4 4 PeriodicEnable 0 Stored
    ∷ row 5 5 AsyncEnable 0 Stored
    ∷ row 6 6 Doorbell 0 SetByOne
    ∷ row 23 16 Threshold 8 Stored
    ∷ []
-- USBSTS, section 2.3.2
rows Status =
    row 0 0 Interrupt 0 ClearedByOne
    ∷ row 1 1 Error 0 ClearedByOne
    ∷ row 2 2 PortChange 0 ClearedByOne
    ∷ row 3 3 Rollover 0 ClearedByOne
    ∷ row 4 4 HostSystemError 0 ClearedByOne
    ∷ row 5 5 AsyncAdvance 0 ClearedByOne
    ∷ row 12 12 Halted 1 Fixed
    ∷ row 13 13 Reclamation 0 Fixed
    ∷ row 14 14 PeriodicStatus 0 Fixed
    ∷ row 15 15 AsyncStatus 0 Fixed
    ∷ []
-- USBINTR, section 2.3.3
rows InterruptEnable = row 5 0 InterruptEnables 0 Stored ∷ []
-- FRINDEX, section 2.3.4
rows FrameIndex = row 13 0 FrameNumber 0 StoredHalted ∷ []
-- CTRLDSSEGMENT, section 2.3.5: this controller addresses 32 bits
rows Segment = row 31 0 SegmentBase 0 Fixed ∷ []
-- PERIODICLISTBASE, section 2.3.6
rows PeriodicListBase = row 31 12 ListBase 0 Stored ∷ []
-- ASYNCLISTADDR, section 2.3.7
rows AsyncListAddress = row 31 5 AsyncAddress 0 Stored ∷ []
-- CONFIGFLAG, section 2.3.8
rows ConfigureFlag = row 0 0 Configured 0 Stored ∷ []
-- PORTSC, section 2.3.9
rows (PortStatus port) = row 31 0 (Port port) 0x00001005 OfPort ∷ []

-- ---- reading

abbrev pub one_if : Bool → ℕ
one_if b = if b then 1 else 0

-- PORTSC of a port; of the one that never changes it is connected, enabled and powered
abbrev pub port_value : ℕ → Option (List RootPort) → ℕ
port_value port None = 0x00001005
port_value port (Some ports) = port_status port ports

-- what a field holds, as the number that its bits show
abbrev pub value_of : RegisterFile → Field → ℕ
value_of r Run = one_if r.run
value_of r HCReset = 0
value_of r ListSize = r.list_size
value_of r PeriodicEnable = one_if r.periodic_enable
value_of r AsyncEnable = one_if r.async_enable
value_of r Doorbell = one_if r.doorbell
value_of r Threshold = r.threshold
value_of r Interrupt = one_if r.interrupt
value_of r Error = one_if r.error
value_of r PortChange = one_if r.port_change
value_of r Rollover = one_if r.rollover
value_of r HostSystemError = one_if r.host_system_error
value_of r AsyncAdvance = one_if r.async_advance
value_of r Halted = one_if (not r.run)
value_of r Reclamation = one_if r.reclamation
value_of r PeriodicStatus = one_if (r.run && r.periodic_enable)
value_of r AsyncStatus = one_if (r.run && r.async_enable)
value_of r InterruptEnables = r.interrupt_enable
value_of r FrameNumber = r.frame_index
value_of r SegmentBase = 0
value_of r ListBase = r.periodic_list_base / 2 ^ 12
value_of r AsyncAddress = r.async_list_address / 2 ^ 5
value_of r Configured = one_if r.configured
value_of r (Port port) = port_value port r.ports

-- a number at a place of a word
abbrev at_place : ℕ → ℕ → ℕ
at_place value low = if low == 0 then value else value * 2 ^ low

-- the word that rows make together
abbrev pub word_of_rows : RegisterFile → List RegisterRow → ℕ
word_of_rows r [] = 0
word_of_rows r (row ∷ []) = at_place (value_of r row.field) row.low
word_of_rows r (row ∷ next ∷ rest) = at_place (value_of r row.field) row.low + word_of_rows r (next ∷ rest)

abbrev pub word_of : RegisterFile → Register → ℕ
word_of r register = word_of_rows r (rows register)

-- the word that the driver reads at an offset; None at one of no register
abbrev pub word_at : RegisterFile → ℕ → Option ℕ
word_at r off = option_map (word_of r) (register_at (port_count r) off)

-- ---- writing

-- the bits of a word from `high` down to `low`
abbrev pub bits_of : ℕ → ℕ → ℕ → ℕ
bits_of word high low = word / 2 ^ low % 2 ^ (high + 1 - low)

-- the registers with a number in a field that the driver can write
abbrev pub with_value : RegisterFile → Field → ℕ → RegisterFile
with_value r Run n = record r { run = n == 1 }
with_value r PeriodicEnable n = record r { periodic_enable = n == 1 }
with_value r AsyncEnable n = record r { async_enable = n == 1 }
with_value r Doorbell n = record r { doorbell = n == 1 }
with_value r ListSize n = record r { list_size = n }
with_value r Threshold n = record r { threshold = n }
with_value r Interrupt n = record r { interrupt = n == 1 }
with_value r Error n = record r { error = n == 1 }
with_value r PortChange n = record r { port_change = n == 1 }
with_value r Rollover n = record r { rollover = n == 1 }
with_value r HostSystemError n = record r { host_system_error = n == 1 }
with_value r AsyncAdvance n = record r { async_advance = n == 1 }
with_value r InterruptEnables n = record r { interrupt_enable = n }
with_value r FrameNumber n = record r { frame_index = n }
with_value r ListBase n = record r { periodic_list_base = n * 2 ^ 12 }
with_value r AsyncAddress n = record r { async_list_address = n * 2 ^ 5 }
with_value r Configured n = record r { configured = n == 1 }
with_value r _ n = r

-- what a field holds after a write: `old` is what it held, `bits` what the word has at its place
abbrev pub taken : Write → Bool → ℕ → ℕ → ℕ
taken Fixed running old bits = old
taken Stored running old bits = bits
taken StoredHalted running old bits = if running then old else bits
taken ClearedByOne running old bits = if bits == 1 then 0 else old
taken SetByOne running old bits = if bits == 1 then 1 else old
taken Resets running old bits = old
taken OfPort running old bits = old

-- the registers r after rows took a word, each bit as its row says over the registers `before` the write
abbrev pub after_rows : RegisterFile → List RegisterRow → ℕ → RegisterFile → RegisterFile
after_rows before [] word r = r
after_rows before (row ∷ rest) word r =
    after_rows before rest word (with_value r row.field (taken row.write before.run (value_of before row.field) (bits_of word row.high row.low)))

abbrev pub is_reset : Write → Bool
is_reset Resets = true
is_reset _ = false

-- whether a word has a 1 at the bit of a register that resets
abbrev pub asks_reset : List RegisterRow → ℕ → Bool
asks_reset [] word = false
asks_reset (row ∷ rest) word = (is_reset row.write && (bits_of word row.high row.low == 1)) || asks_reset rest word

-- the registers after an event of these root ports; Port Change Detect of USBSTS is raised where a connection change goes from 0 to 1 (section 2.3.2)
abbrev pub after_port_event : PortEvent → Option (List RootPort) → RegisterFile → RegisterFile
after_port_event e None r = r
after_port_event e (Some ports) r = record r { ports = Some (ports_after e ports); port_change = has_new_change ports (ports_after e ports) || r.port_change }

-- what a write makes of the root ports: a write of PORTSC, and one of CONFIGFLAG, which routes them (section 2.3.8)
abbrev pub after_port_write : Register → ℕ → RegisterFile → RegisterFile
after_port_write (PortStatus port) word r = after_port_event (Events.Write port word r.run) r.ports r
after_port_write ConfigureFlag word r = after_port_event (Events.Route r.configured) r.ports r
after_port_write _ word r = r

-- the registers after the driver wrote a word to a register
abbrev pub after_write_to : RegisterFile → Register → ℕ → RegisterFile
after_write_to r register word = if asks_reset (rows register) word then reset_of r else after_port_write register word (after_rows r (rows register) word r)

-- the registers after the driver wrote a word at an offset; the same at one of no register
abbrev pub after_write : RegisterFile → ℕ → ℕ → RegisterFile
after_write r off word = unwrap_or (option_map (λ register. after_write_to r register word) (register_at (port_count r) off)) r

-- the registers after the driver wrote words at offsets, in their order
abbrev pub after_writes : RegisterFile → List (ℕ × ℕ) → RegisterFile
after_writes r [] = r
after_writes r (write ∷ rest) = after_writes (after_write r write.0 write.1) rest

-- whether each row's value after a reset is what the registers hold then
abbrev pub shows_resets : List RegisterRow → Bool
shows_resets rows = list_all (λ row. value_of reset_file row.field == row.reset) rows
