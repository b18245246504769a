-- What an event of the controller may do to Run, to Host System Error and to the count of refusals (EHCI 1.0, 2.3.1, 2.3.2 and 4.15.2.4).
--     IsOnce before after     the count stays, or rises by one up to its last value
--     Stops ..                Run is 0 and Host System Error 1, and at most one refusal more is counted
--     IsEvent ..              one event of the controller over any wire
use Rattle.std.specs.Prelude.{◌≡◌, ℕ, ◌+◌, ◌-◌, ◌^◌, min, ◌⊎◌, Bool, true, false, List}
use Rattle.usb_base.specs.declared.packets.Ask.{Ask}
use Rattle.usb_base.specs.declared.packets.Reply.{Reply}
use Rattle.word_mem.specs.Memory.{Mem}
use Rattle.op_registers.specs.RegisterFile.{RegisterFile}
use Rattle.hc_core.specs.Controller.{Content, microframe_row, HasRow}
use Rattle.claims_base.specs.Controller.{GoesOn}

abbrev pub IsOnce : ℕ → ℕ → Type 0
IsOnce before after = (after ≡ before) ⊎ (after ≡ min (before + 1) (2 ^ 64 - 1))

pub record Stops (m : Mem) (s : RegisterFile) (n : Mem) : Type 0 where
  pub run : s.run ≡ false
  pub error : s.host_system_error ≡ true
  pub count : IsOnce m.foreign n.foreign

abbrev pub GoesOnOrStops : RegisterFile → Mem → RegisterFile → Mem → Type 0
GoesOnOrStops r m s n = GoesOn r m s n ⊎ Stops m s n

abbrev pub IsEvent : {W : Type 0} → (W → ℕ → Bool → W → Type 0) → (W → Ask → List ℕ → Reply → W → Type 0) → Content → W → Content → W → Type 0
IsEvent begins transacts old before new after = HasRow begins transacts (microframe_row old.registers old.control) old before new after
