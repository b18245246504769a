-- A controller between two microframes, as words that its caller keeps (EHCI 1.0, 2.3).
--     shown r cursor                      the words of the registers r, and the place in the ring
--     file_of s                           the registers that have the words of s
--     cursor_after_write cursor at word   the place in the ring after a driver's write
--     is_up s                             the interrupt line is up
--     WordsKeepRegisters                  what registers hold is got back from their words
use Rattle.std.specs.Prelude.{◌≡◌, ℕ, ◌/◌, ◌%◌, ◌^◌, ◌<◌, Bool, ◌==◌, ◌&&◌, ◌||◌, not, if◌then◌else◌, None, List, [], ◌∷◌}
use Rattle.std.specs.Int.RustNames.{bit_and}
use Rattle.op_registers.specs.declared.register.Register.TheVariants.{Command, Status, InterruptEnable, FrameIndex, PeriodicListBase, AsyncListAddress, ConfigureFlag}
use Rattle.op_registers.specs.RegisterFile.{RegisterFile, reset_file, IsInRange}
use Rattle.op_registers.specs.Table.{word_of, after_write, after_writes}
use Rattle.op_registers.specs.Events.{after_raise}
use Rattle.hc_microframe.specs.declared.state.State.{State}

abbrev pub shown : RegisterFile → ℕ → State
shown r cursor = record {
  command = word_of r Command;
  status = word_of r Status;
  interrupt_enable = word_of r InterruptEnable;
  frame_index = word_of r FrameIndex;
  list = word_of r PeriodicListBase;
  ring = word_of r AsyncListAddress;
  configured = word_of r ConfigureFlag;
  cursor = cursor;
}

abbrev pub halted_writes : State → List (ℕ × ℕ)
halted_writes s = (0x08, s.interrupt_enable) ∷ (0x0c, s.frame_index) ∷ (0x14, s.list) ∷ (0x18, s.ring) ∷ (0x40, s.configured) ∷ []

-- what a driver makes of reset registers that writes these words while they are halted, USBCMD last; bits of USBSTS are raised
abbrev pub file_of : State → RegisterFile
file_of s =
    after_write (after_raise (after_writes reset_file (halted_writes s)) (record { 0 = s.status })) 0x00 s.command

-- a reset (2.3.1), and a new ASYNCLISTADDR (2.3.7), have the walk of the ring begin anew
abbrev pub cursor_after_write : ℕ → ℕ → ℕ → ℕ
cursor_after_write cursor at word = if (at == 0x18) || ((at == 0x00) && (word / 2 % 2 == 1)) then 0 else cursor

-- a bit of USBSTS stands whose enable stands (4.15)
abbrev pub is_up : State → Bool
is_up s = not (bit_and (bit_and s.status s.interrupt_enable) 0x3f == 0)

-- of each number that a register holds no bit is lost
pub record IsHeld (r : RegisterFile) : Type 0 where
  pub ranges : IsInRange r.list_size r.interrupt_enable r.frame_index r.periodic_list_base r.async_list_address
  pub threshold : r.threshold < 2 ^ 8
  pub base_fits : r.periodic_list_base < 2 ^ 32
  pub address_fits : r.async_list_address < 2 ^ 32
  pub ports : r.ports ≡ None

abbrev pub WordsKeepRegisters : Type 0
WordsKeepRegisters = (r : RegisterFile) (cursor : ℕ) → IsHeld r → file_of (shown r cursor) ≡ r
