-- What the controller reads (EHCI 1.0, 2.3.2, 4.6 and 4.10): words of Lent blocks alone. Whatever the others hold, its event is the same.
--     ReadsLent .. c n ..      with the memory n in place of that of c the event asks the same of the wire and hears the same, leaves the same
--                              control and registers, and memories that are again the same in Lent blocks
use Rattle.std.specs.Prelude.{◌≡◌, ℕ, Bool, List}
use Rattle.usb_base.specs.declared.packets.Ask.{Ask}
use Rattle.usb_base.specs.declared.packets.Reply.{Reply}
use Rattle.word_mem.specs.Memory.{Mem}
use Rattle.hc_core.specs.Controller.{Content, microframe_row, HasRow}
use Rattle.claims_base.specs.Controller.{IsSameWhereLent}

pub record ReadsLent {W : Type 0} (begins : W → ℕ → Bool → W → Type 0) (transacts : W → Ask → List ℕ → Reply → W → Type 0) (c : Content) (n : Mem) (wire : W) (new : Content) (after : W) : Type 0 where
  pub other : Content
  pub made : HasRow begins transacts (microframe_row c.registers c.control) (record c { memory = n }) wire other after
  pub control : other.control ≡ new.control
  pub registers : other.registers ≡ new.registers
  pub memory : IsSameWhereLent new.memory other.memory
