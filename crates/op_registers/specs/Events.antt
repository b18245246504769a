-- What the controller itself does to the registers.
use Rattle.std.specs.Prelude.{Bool, true, false, ℕ, ◌+◌, ◌/◌, ◌%◌, ◌^◌, ◌==◌, ◌||◌, not}
use Rattle.std.specs.Int.RustNames.{bit_and}
use Rattle.root_ports.specs.declared.port_event.PortEvent.TheVariants as Events
use Rattle.op_registers.specs.RegisterFile.{RegisterFile, levels_of}
use Rattle.op_registers.specs.Table.{after_port_event}
use Rattle.op_registers.specs.declared.status.Status.{Status}

-- whether a number has the bits of a mask
abbrev pub has : ℕ → ℕ → Bool
has n mask = bit_and n mask == mask

-- The bits of a set raised in USBSTS (EHCI 1.0 section 2.3.2): those that are 1 stay or become 1, and none becomes 0. HCHalted and the status of the two schedules follow USBCMD at once,
-- so they aren't raised.
abbrev pub after_raise : RegisterFile → Status → RegisterFile
after_raise r set = record r {
  interrupt = has set.0 0x0001 || r.interrupt;
  error = has set.0 0x0002 || r.error;
  port_change = has set.0 0x0004 || r.port_change;
  rollover = has set.0 0x0008 || r.rollover;
  host_system_error = has set.0 0x0010 || r.host_system_error;
  async_advance = has set.0 0x0020 || r.async_advance;
  reclamation = has set.0 0x2000 || r.reclamation;
}

-- FRINDEX counts microframes, modulo 2 ^ 14 (EHCI 1.0 section 2.3.4).
abbrev pub next_index : ℕ → ℕ
next_index index = (index + 1) % 2 ^ 14

-- The next microframe. The frame list rolls over where bit 13 of FRINDEX changes, or of one of 512 elements bit 12, or of one of 256 bit 11 (EHCI 1.0 section 2.3.2).
abbrev pub after_begin : RegisterFile → RegisterFile
after_begin r = record r {
  frame_index = next_index r.frame_index;
  rollover = not (next_index r.frame_index / 2 ^ (3 + levels_of r.list_size) == r.frame_index / 2 ^ (3 + levels_of r.list_size)) || r.rollover;
}

-- The head of the ring was read with the doorbell set (EHCI 1.0 section 4.8.2).
abbrev pub after_advance : RegisterFile → RegisterFile
after_advance r = record r { async_advance = true; doorbell = false }

-- Reclamation set or cleared (EHCI 1.0 section 4.8.3).
abbrev pub after_reclamation : RegisterFile → Bool → RegisterFile
after_reclamation r on = record r { reclamation = on }

-- A host system error: the controller stops (EHCI 1.0 section 4.15.2.4).
abbrev pub after_fault : RegisterFile → RegisterFile
after_fault r = record r { host_system_error = true; run = false }

-- What is declared at a root port is plugged in, or unplugged.
abbrev pub after_plug : RegisterFile → ℕ → RegisterFile
after_plug r port = after_port_event (Events.Plug port) r.ports r

abbrev pub after_unplug : RegisterFile → ℕ → RegisterFile
after_unplug r port = after_port_event (Events.Unplug port) r.ports r
