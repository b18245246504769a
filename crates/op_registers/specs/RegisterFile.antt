-- What the operational registers hold (EHCI 1.0 section 2.3).
use Rattle.std.specs.Prelude.{Bool, false, ℕ, ◌≡◌, ◌%◌, ◌^◌, ◌==◌, ◌<◌, if◌then◌else◌, List, map, Option, None, option_map}
use Rattle.root_ports.specs.declared.port.Port.{Port}
use Rattle.root_ports.specs.Ports.{reopened}

-- Each field stands at a row of the table (Table.antt). Three rows have no field of their own: HCHalted reads 1 where `run` is false, and the status of a schedule where `run` and the
-- schedule's enable are both true. The two addresses are byte addresses. `ports` is None for a controller of one root port that is connected, enabled and
-- powered for ever.
pub record RegisterFile : Type 0 where
  pub run : Bool
  pub periodic_enable : Bool
  pub async_enable : Bool
  pub doorbell : Bool
  pub list_size : ℕ
  pub threshold : ℕ
  pub interrupt : Bool
  pub error : Bool
  pub port_change : Bool
  pub rollover : Bool
  pub host_system_error : Bool
  pub async_advance : Bool
  pub reclamation : Bool
  pub interrupt_enable : ℕ
  pub frame_index : ℕ
  pub periodic_list_base : ℕ
  pub async_list_address : ℕ
  pub configured : Bool
  pub ports : Option (List Port)

-- the registers after a reset (EHCI 1.0 sections 2.3 and 4.1): halted, with a threshold of 8 microframes
abbrev pub reset_file : RegisterFile
reset_file = record {
  run = false;
  periodic_enable = false;
  async_enable = false;
  doorbell = false;
  list_size = 0;
  threshold = 8;
  interrupt = false;
  error = false;
  port_change = false;
  rollover = false;
  host_system_error = false;
  async_advance = false;
  reclamation = false;
  interrupt_enable = 0;
  frame_index = 0;
  periodic_list_base = 0;
  async_list_address = 0;
  configured = false;
  ports = None;
}

-- the registers after HCReset (EHCI 1.0 section 2.3.1): the root ports open anew with what is plugged in
abbrev pub reset_of : RegisterFile → RegisterFile
reset_of r = record reset_file { ports = option_map (map reopened) r.ports }

-- The elements of the frame list are 2 ^ `levels_of` of Frame List Size: 1,024, or 512 where it is 1, or 256 where it is 2 (EHCI 1.0 section 2.3.1). A reserved 3 is as 0 here.
abbrev pub levels_of : ℕ → ℕ
levels_of size = if size == 1 then 9 else if size == 2 then 8 else 10

-- the ranges of the numbers: two bits of Frame List Size, six enables, a microframe of 1,024 frames, the address of a frame list of 4,096 bytes and that of a queue head
pub record IsInRange (size enables index base address : ℕ) : Type 0 where
  pub size_coded : size < 2 ^ 2
  pub enables_named : enables < 2 ^ 6
  pub index_wraps : index < 2 ^ 14
  pub base_aligned : base % 2 ^ 12 ≡ 0
  pub address_aligned : address % 2 ^ 5 ≡ 0
