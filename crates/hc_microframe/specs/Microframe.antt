-- One microframe of a controller over words and answers that were told beforehand (EHCI 1.0, 4.6 to 4.12). Each of its events is a row of
-- the controller; its first is the Begin, and its last the End, or one that halts the controller.
--     opening s words                    where it begins
--     Goes start desk n c t              n events were made, and none of them was the last
--     IsOver start desk n held c t       n were made, and the last of them was the last; `held` was in hand before it
--     IsMade s words desk n ..           that is the whole microframe, and these are the state and the words after it
--     IsWanted s words desk n t          n were made, and the last asked what has no answer
use Rattle.std.specs.Prelude.{◌≡◌, ℕ, ◌+◌, ◌≤◌, ◌%◌, Bool, true, false, ◌||◌, ◌==◌, not, if◌then◌else◌, List, Option, None, is_some, unwrap_or}
use Rattle.usb_base.specs.Limits.{most_memory}
use Rattle.word_mem.specs.Memory.{all_lent}
use Rattle.op_registers.specs.RegisterFile.{RegisterFile}
use Rattle.op_registers.specs.Table.{after_write}
use Rattle.hc_core.specs.declared.controller.HcStep.{HcStep}
use Rattle.hc_core.specs.declared.controller.HcStep.TheVariants as steps
use Rattle.hc_core.specs.Controller.{Content, content, new_control, address_in_hand, microframe_row, HasRow, kind_of}
use Rattle.hc_microframe.specs.declared.state.State.{State}
use Rattle.hc_microframe.specs.State.{shown, file_of}
use Rattle.hc_microframe.specs.Answers.{Told, Begins, Answers}

-- the walk of the ring begins at the place where it goes on
abbrev pub entered_at : ℕ → RegisterFile → RegisterFile
entered_at cursor r = if cursor == 0 then r else after_write r 0x18 cursor

abbrev pub opening : State → List ℕ → Content
opening s words = content new_control (entered_at s.cursor (file_of s)) (all_lent words)

-- ---- events

abbrev pub IsEvent : Content → Told → Content → Told → Type 0
IsEvent old before new after = HasRow Begins Answers (microframe_row old.registers old.control) old before new after

abbrev pub is_end : HcStep → Bool
is_end steps.Begin = false
is_end steps.Fetch = false
is_end steps.Advance = false
is_end steps.Transact = false
is_end steps.WriteBack = false
is_end steps.Skip = false
is_end steps.End = true
is_end steps.Idle = false

-- an event is the last of its microframe: its End, or one that halts the controller (4.15.2.4)
abbrev pub is_last : Content → Content → Bool
is_last old new = is_end (kind_of (microframe_row old.registers old.control) old) || not new.registers.run

pub data Goes (start : Content) (desk : Told) : ℕ → Content → Told → Type 0 where
  none : Goes start desk 0 start desk
  next : (n : ℕ) (old : Content) (before : Told) (new : Content) (after : Told) → Goes start desk n old before
      → IsEvent old before new after → after.wanted ≡ None → is_last old new ≡ false → Goes start desk (n + 1) new after

pub record IsOver (start : Content) (desk : Told) (n : ℕ) (held : Option ℕ) (end : Content) (after : Told) : Type 0 where
  pub earlier : ℕ
  pub old : Content
  pub before : Told
  pub goes : Goes start desk earlier old before
  pub event : IsEvent old before end after
  pub answered : after.wanted ≡ None
  pub last : is_last old end ≡ true
  pub count : n ≡ earlier + 1
  pub hand : held ≡ address_in_hand old.control

pub record IsAsked (start : Content) (desk : Told) (n : ℕ) (after : Told) : Type 0 where
  pub earlier : ℕ
  pub old : Content
  pub before : Told
  pub new : Content
  pub goes : Goes start desk earlier old before
  pub event : IsEvent old before new after
  pub wanted : is_some after.wanted ≡ true
  pub count : n ≡ earlier + 1

-- ---- what is told of them

-- a memory of the controller has so many words
pub record IsFit (words : ℕ) : Type 0 where
  pub at_least : 1024 ≤ words
  pub at_most : words ≤ most_memory
  pub whole_pages : words % 1024 ≡ 0

-- Where the walk of the ring goes on in the next microframe (4.8): at the queue head that was in hand when time ran out, else at
-- ASYNCLISTADDR. It stays where the ring wasn't walked, and begins anew after a host system error.
abbrev pub cursor_after : ℕ → Option ℕ → RegisterFile → ℕ
cursor_after cursor held r = if not r.run then 0 else if r.async_enable then unwrap_or held 0 else cursor

pub record IsMade (s : State) (words : List ℕ) (desk : Told) (n : ℕ) (new : State) (new_words : List ℕ) (after : Told) : Type 0 where
  pub held : Option ℕ
  pub end : Content
  pub over : IsOver (opening s words) desk n held end after
  pub state : new ≡ shown (after_write end.registers 0x18 s.ring) (cursor_after s.cursor held end.registers)
  pub memory : new_words ≡ end.memory.words

abbrev pub IsWanted : State → List ℕ → Told → ℕ → Told → Type 0
IsWanted s words desk n after = IsAsked (opening s words) desk n after

pub record IsLong (s : State) (words : List ℕ) (desk : Told) (n : ℕ) : Type 0 where
  pub end : Content
  pub after : Told
  pub goes : Goes (opening s words) desk n end after
