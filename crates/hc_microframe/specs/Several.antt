-- Events of a controller in a row, in one call (EHCI 1.0, 4.1 and 4.6 to 4.12). `n` is their number.
--     Reaches start desk n s words t      none of them is the last of its microframe; the state s and the words tell where they lead
--     ReachesEnd start desk n s words t   the last of them is the last of its microframe
--     ReachesAsk start desk n s words t   none of them is the last; they took all answers; the next asks what has none, and isn't made
--     IsRun, IsRunOver, IsRunHeldUp       the same, from a state and words that were passed
--     Leaves stop start desk most ..      what such a call leaves, by why it ended
--     Calls s words desk n ..             n calls for one event, none of them the last of its microframe
--     CallsAreRun, CallsAreRunOver        so many calls for one event are one call for so many
--     RunIsHeldUp                         where such a call wants an answer, a call for one event from there wants it
use Rattle.std.specs.Prelude.{◌≡◌, ℕ, ◌+◌, ◌^◌, ◌<◌, ◌≤◌, true, false, is_some, List, [], Option, None, Some}
use Rattle.word_mem.specs.Memory.{all_lent}
use Rattle.lent_words.specs.Lent.{lent_mem}
use Rattle.op_registers.specs.RegisterFile.{RegisterFile}
use Rattle.async_walk.specs.Causes.{AreRefusalsFaults}
use Rattle.hc_core.specs.declared.controller.HcStep.{HcStep}
use Rattle.hc_core.specs.Controller.{Control, Content, content, microframe_row, kind_of}
use Rattle.hc_microframe.specs.declared.several.RunStop.{RunStop}
use Rattle.hc_microframe.specs.declared.several.RunStop.TheVariants as stops
use Rattle.hc_microframe.specs.declared.whole.Whole.{Whole}
use Rattle.hc_microframe.specs.State.{shown}
use Rattle.hc_microframe.specs.Answers.{Told}
use Rattle.hc_microframe.specs.Microframe.{Goes, IsEvent, IsOver, is_last}
use Rattle.hc_microframe.specs.Numbers.{control_of}
use Rattle.hc_microframe.specs.Stepping.{opening, IsStepped, IsHeldUp}

-- no access was refused: that would have ended the microframe
pub record Reaches (start : Content) (desk : Told) (n : ℕ) (s : Whole) (words : List ℕ) (after : Told) : Type 0 where
  pub control : Control
  pub file : RegisterFile
  pub goes : Goes start desk n (content control file (all_lent words)) after
  pub registers : s.registers ≡ shown file 0
  pub to : control_of s ≡ Some control

pub record ReachesEnd (start : Content) (desk : Told) (n : ℕ) (s : Whole) (words : List ℕ) (after : Told) : Type 0 where
  pub control : Control
  pub file : RegisterFile
  pub refused : ℕ
  pub held : Option ℕ
  pub over : IsOver start desk n held (content control file (lent_mem words refused)) after
  pub registers : s.registers ≡ shown file 0
  pub to : control_of s ≡ Some control

pub record ReachesAsk (start : Content) (desk : Told) (n : ℕ) (s : Whole) (words : List ℕ) (after : Told) : Type 0 where
  pub before : Told
  pub made : Reaches start desk n s words before
  pub end : Content
  pub event : IsEvent (content made.control made.file (all_lent words)) before end after
  pub wanted : is_some after.wanted ≡ true
  pub all_taken : after.answers ≡ []

-- ---- from a state and words that were passed

pub record IsRun (s : Whole) (words : List ℕ) (desk : Told) (n : ℕ) (new : Whole) (left : List ℕ) (after : Told) : Type 0 where
  pub control : Control
  pub from : control_of s ≡ Some control
  pub made : Reaches (opening control s.registers words) desk n new left after

pub record IsRunOver (s : Whole) (words : List ℕ) (desk : Told) (n : ℕ) (new : Whole) (left : List ℕ) (after : Told) : Type 0 where
  pub control : Control
  pub from : control_of s ≡ Some control
  pub made : ReachesEnd (opening control s.registers words) desk n new left after

-- the state and the words are those before the event that asks
pub record IsRunHeldUp (s : Whole) (words : List ℕ) (desk : Told) (n : ℕ) (new : Whole) (left : List ℕ) (after : Told) : Type 0 where
  pub control : Control
  pub from : control_of s ≡ Some control
  pub made : ReachesAsk (opening control s.registers words) desk n new left after

abbrev pub Leaves : RunStop → Content → Told → ℕ → Whole → List ℕ → Told → Type 0
Leaves stops.Idle start desk most s words after = ⊥
Leaves (stops.Over n) start desk most s words after = (n ≤ most) × ReachesEnd start desk n s words after
Leaves (stops.WantsBus n) start desk most s words after = (n ≤ most) × ReachesAsk start desk n s words after
Leaves stops.Long start desk most s words after = Reaches start desk most s words after
Leaves stops.Unfit start desk most s words after = ⊥

-- ---- one event of a call

pub record MakesNext (old : Content) (before : Told) (kind : HcStep) (new : Content) (after : Told) : Type 0 where
  pub event : IsEvent old before new after
  pub answered : after.wanted ≡ None
  pub kind_is : kind ≡ kind_of (microframe_row old.registers old.control) old
  pub faults : AreRefusalsFaults old.memory new.memory new.registers

-- s tells the state before it
pub record AsksNext (old : Content) (before : Told) (s : Whole) (new : Content) (after : Told) : Type 0 where
  pub event : IsEvent old before new after
  pub wanted : is_some after.wanted ≡ true
  pub registers : s.registers ≡ shown old.registers 0
  pub to : control_of s ≡ Some old.control

-- ---- calls for one event

pub data Calls (s : Whole) (words : List ℕ) (desk : Told) : ℕ → Whole → List ℕ → Told → Type 0 where
  none : Calls s words desk 0 s words desk
  next : (n : ℕ) (mid : Whole) (between : List ℕ) (told : Told) (kind : HcStep) (new : Whole) (left : List ℕ) (after : Told)
      → Calls s words desk n mid between told → (m : IsStepped mid between told kind new left after)
      → is_last (opening m.control mid.registers between) m.end ≡ false → Calls s words desk (n + 1) new left after

-- the addresses in the registers that a caller passes have 32 bits
pub record AreWords (s : Whole) : Type 0 where
  pub list : s.registers.list < 2 ^ 32
  pub ring : s.registers.ring < 2 ^ 32

abbrev pub CallsAreRun : Type 0
CallsAreRun = (s : Whole) (words : List ℕ) (desk : Told) (n : ℕ) (mid : Whole) (between : List ℕ) (told : Told) (kind : HcStep)
    (new : Whole) (left : List ℕ) (after : Told) → AreWords s → Calls s words desk n mid between told
    → (m : IsStepped mid between told kind new left after) → is_last (opening m.control mid.registers between) m.end ≡ false
    → IsRun s words desk (n + 1) new left after

abbrev pub CallsAreRunOver : Type 0
CallsAreRunOver = (s : Whole) (words : List ℕ) (desk : Told) (n : ℕ) (mid : Whole) (between : List ℕ) (told : Told) (kind : HcStep)
    (new : Whole) (left : List ℕ) (after : Told) → AreWords s → Calls s words desk n mid between told
    → (m : IsStepped mid between told kind new left after) → is_last (opening m.control mid.registers between) m.end ≡ true
    → IsRunOver s words desk (n + 1) new left after

abbrev pub RunIsHeldUp : Type 0
RunIsHeldUp = (s : Whole) (words : List ℕ) (desk : Told) (n : ℕ) (new : Whole) (left : List ℕ) (after : Told) → AreWords s
    → (m : IsRunHeldUp s words desk n new left after) → IsHeldUp new left m.made.before after
