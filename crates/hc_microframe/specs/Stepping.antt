-- One event of a controller whose state its caller keeps (EHCI 1.0, 4.1 and 4.6 to 4.12).
--     opening c s words                c over the registers and the words that were given
--     IsStepped s words desk kind ..   that is one row of the controller's table, and these are the state and the words after it, of which
--                                      some accesses may have been refused
--     IsHeldUp s words desk t          the row asks what has no answer
--     LeavesWords start desk ..        one row leads to this controller over these registers and words
--     control_after_write at word c    the controller after a driver's write
--     AsksOnce                         with an answer at hand no row is held up
--     RegistersAreKept                 the next call has the registers that this one left
use Rattle.std.specs.Prelude.{◌≡◌, ℕ, ◌/◌, ◌%◌, ◌^◌, ◌<◌, ◌==◌, ◌&&◌, true, is_some, if◌then◌else◌, List, ◌∷◌, None, Some}
use Rattle.word_mem.specs.Memory.{all_lent}
use Rattle.lent_words.specs.Lent.{lent_mem}
use Rattle.op_registers.specs.RegisterFile.{RegisterFile}
use Rattle.async_walk.specs.Walk.{new_walk}
use Rattle.hc_core.specs.declared.controller.HcStep.{HcStep}
use Rattle.hc_core.specs.Controller.{Control, Content, content, new_control, microframe_row, kind_of}
use Rattle.hc_microframe.specs.declared.state.State.{State}
use Rattle.hc_microframe.specs.declared.whole.Whole.{Whole}
use Rattle.hc_microframe.specs.State.{shown, file_of}
use Rattle.hc_microframe.specs.declared.answers.Answer.{Answer}
use Rattle.hc_microframe.specs.Answers.{Told, told}
use Rattle.hc_microframe.specs.Microframe.{IsEvent}
use Rattle.hc_microframe.specs.Numbers.{control_of}

abbrev pub opening : Control → State → List ℕ → Content
opening c s words = content c (file_of s) (all_lent words)

pub record IsStepped (s : Whole) (words : List ℕ) (desk : Told) (kind : HcStep) (new : Whole) (left : List ℕ) (after : Told) : Type 0 where
  pub control : Control
  pub end : Content
  pub from : control_of s ≡ Some control
  pub event : IsEvent (opening control s.registers words) desk end after
  pub kind_is : kind ≡ kind_of (microframe_row (file_of s.registers) control) (opening control s.registers words)
  pub answered : after.wanted ≡ None
  pub registers : new.registers ≡ shown end.registers 0
  pub to : control_of new ≡ Some end.control
  pub refused : ℕ
  pub memory : end.memory ≡ lent_mem left refused

pub record IsHeldUp (s : Whole) (words : List ℕ) (desk : Told) (after : Told) : Type 0 where
  pub control : Control
  pub end : Content
  pub from : control_of s ≡ Some control
  pub event : IsEvent (opening control s.registers words) desk end after
  pub wanted : is_some after.wanted ≡ true

-- some accesses may have been refused
pub record LeavesWords (start : Content) (desk : Told) (control : Control) (registers : RegisterFile) (words : List ℕ)
    (after : Told) : Type 0 where
  pub refused : ℕ
  pub event : IsEvent start desk (content control registers (lent_mem words refused)) after

-- a reset has the controller begin anew (2.3.1), a new ASYNCLISTADDR the walk of the ring (2.3.7)
abbrev pub control_after_write : ℕ → ℕ → Control → Control
control_after_write at word c =
    if (at == 0x00) && (word / 2 % 2 == 1) then new_control else if at == 0x18 then record c { walk = new_walk } else c

-- a row asks at most once: with an answer at hand it isn't held up
abbrev pub AsksOnce : Type 0
AsksOnce = (old : Content) (a : Answer) (rest : List Answer) (bytes : List ℕ) (new : Content) (after : Told)
    → IsEvent old (told (a ∷ rest) bytes) new after → after.wanted ≡ None

-- the words that a call leaves tell the registers after its row
abbrev pub RegistersAreKept : Type 0
RegistersAreKept = (s : Whole) (words : List ℕ) (desk : Told) (kind : HcStep) (new : Whole) (left : List ℕ) (after : Told)
    → s.registers.list < 2 ^ 32 → s.registers.ring < 2 ^ 32 → (m : IsStepped s words desk kind new left after)
    → file_of new.registers ≡ m.end.registers
