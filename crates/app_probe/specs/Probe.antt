-- A controller over the words of an image, all of them Lent to it at their addresses, on a wire on which everything is silent (EHCI 1.0, 4.1 and 4.4 to 4.12).
--     opening i                   where it begins: reset registers with the image's, and USBCMD written 00080031h
--     Events start n steps end    n events, one after the other, of which `steps` weren't Idle
--     IsProbe i n p               what is told of n events over the image i
--     EndsSo n p                  how n events can end
use Rattle.std.specs.Prelude.{◌≡◌, ℕ, ◌+◌, ◌≤◌, ◌⊎◌, true, false, [], ◌∷◌}
use Rattle.word_mem.specs.Access.{IsByController}
use Rattle.op_registers.specs.RegisterFile.{RegisterFile, reset_file}
use Rattle.op_registers.specs.Table.{after_writes}
use Rattle.hc_core.specs.declared.controller.HcStep.{HcStep}
use Rattle.hc_core.specs.declared.controller.HcStep.TheVariants as steps
use Rattle.hc_core.specs.Controller.{Content, content, new_control, microframe_row, kind_of}
use Rattle.image_show.specs.declared.image_at.ImageAt.{ImageAt}
use Rattle.app_probe.specs.declared.probing.Probed.{Probed}
use Rattle.app_probe.specs.declared.silence.Silence.{Silence}
use Rattle.app_probe.specs.Silence.{may_be_used, is_silent}
use Rattle.app_probe.specs.Window.{lent_from}
use Rattle.law_refusals.specs.Refusals.{IsEvent}

-- FRINDEX, PERIODICLISTBASE and ASYNCLISTADDR of the image, then USBCMD: Run, both schedules, a threshold of 8 microframes (2.3)
abbrev pub opening_registers : ImageAt → RegisterFile
opening_registers i = after_writes reset_file ((0x0c, i.frindex) ∷ (0x14, i.list_base) ∷ (0x18, i.async_at) ∷ (0x00, 0x00080031) ∷ [])

abbrev pub opening : ImageAt → Content
opening i = content new_control (opening_registers i) (lent_from i.base i.words)

-- ---- events

-- the steps that an event is
abbrev pub counted : HcStep → ℕ
counted steps.Begin = 1
counted steps.Fetch = 1
counted steps.Advance = 1
counted steps.Transact = 1
counted steps.WriteBack = 1
counted steps.Skip = 1
counted steps.End = 1
counted steps.Idle = 0

pub record IsSilentEvent (old : Content) (new : Content) : Type 0 where
  pub before : Silence
  pub after : Silence
  pub event : IsEvent may_be_used is_silent old before new after

pub data Events (start : Content) : ℕ → ℕ → Content → Type 0 where
  none : Events start 0 0 start
  next : (n steps : ℕ) (old new : Content) → Events start n steps old → IsSilentEvent old new → Events start (n + 1) (steps + counted (kind_of (microframe_row old.registers old.control) old)) new

-- ---- what is told of them

pub record IsProbe (i : ImageAt) (n : ℕ) (p : Probed) : Type 0 where
  pub end : Content
  pub made : Events (opening i) n p.steps end
  pub only_lent : IsByController (lent_from i.base i.words) end.memory
  pub foreign : p.foreign ≡ end.memory.foreign
  pub fault : p.fault ≡ end.registers.host_system_error

-- each event was made and nothing refused
pub record Ran (n : ℕ) (p : Probed) : Type 0 where
  pub fault : p.fault ≡ false
  pub foreign : p.foreign ≡ 0
  pub steps : p.steps ≡ n

-- the last event was the fault, with at most one word or byte refused, and the controller was Idle from there on
pub record Failed (n : ℕ) (p : Probed) : Type 0 where
  pub fault : p.fault ≡ true
  pub foreign : p.foreign ≤ 1
  pub steps : p.steps ≤ n
  pub some : 1 ≤ p.steps

abbrev pub EndsSo : ℕ → Probed → Type 0
EndsSo n p = Ran n p ⊎ Failed n p
