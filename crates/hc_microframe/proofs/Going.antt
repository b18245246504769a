-- One event more of a microframe, and a microframe that was made.
use Rattle.std.proofs.Common.{◌≡◌, ℕ, ◌+◌, Bool, false, ◌||◌, not, List, Option, None, Some, refl, ap, sym, subst, ◌∙◌}
use Rattle.std.specs.Prelude.{is_some}
use Rattle.word_mem.specs.Memory.{Mem, all_lent}
use Rattle.op_registers.specs.RegisterFile.{RegisterFile}
use Rattle.op_registers.specs.Table.{after_write}
use Rattle.hc_core.specs.declared.controller.HcStep.{HcStep}
use Rattle.hc_core.specs.Controller.{Content, Control, content, new_control, microframe_row, kind_of}
use Rattle.hc_microframe.specs.declared.answers.Wanted.{Wanted}
use Rattle.hc_microframe.specs.declared.running.Ran.TheVariants as runs
use Rattle.hc_microframe.specs.declared.state.State.{State}
use Rattle.hc_microframe.specs.Answers.{Told}
use Rattle.hc_microframe.specs.State.{shown, file_of}
use Rattle.hc_microframe.specs.Microframe.{entered_at, opening, IsEvent, is_end, Goes, IsOver, cursor_after, IsMade}
use Rattle.hc_microframe.specs.Microframe.Goes.{next}

pub nothing_wanted : (wanted : Option Wanted) → is_some wanted ≡ false → wanted ≡ None
nothing_wanted None is = refl
nothing_wanted (Some w) is = absurd cc

pub one_more : (start : Content) (desk : Told) (n : ℕ) (old : Content) (before : Told) (new : Content) (after : Told)
    (step : HcStep) (asked last running : Bool)
    → Goes start desk n old before → IsEvent old before new after → asked ≡ is_some after.wanted → asked ≡ false
    → step ≡ kind_of (microframe_row old.registers old.control) old → running ≡ new.registers.run
    → last ≡ (is_end step || not running) → last ≡ false
    → Goes start desk (n + 1) new after
one_more start desk n old before new after step asked last running goes event wants unasked kind runs_on is goes_on =
    next n old before new after goes event (nothing_wanted after.wanted (sym wants ∙ unasked))
    (sym (ap (λ (s : HcStep). is_end s || not new.registers.run) kind) ∙ sym (ap (λ (b : Bool). is_end step || not b) runs_on)
    ∙ sym is ∙ goes_on)

opens : (s : State) (words : List ℕ) (control : Control) (held regs : RegisterFile) (mem : Mem)
    → control ≡ new_control → held ≡ file_of s → regs ≡ entered_at s.cursor held → mem ≡ all_lent words
    → content control regs mem ≡ opening s words
opens s words control held regs mem fresh file enters lent =
    ap (λ (c : Control). content c regs mem) fresh
    ∙ ap (λ (r : RegisterFile). content new_control r mem) (enters ∙ ap (entered_at s.cursor) file)
    ∙ ap (λ (m : Mem). content new_control (entered_at s.cursor (file_of s)) m) lent

same_number : (a b : ℕ) → runs.Made a ≡ runs.Made b → a ≡ b
same_number a b e = cc

pub is_made : (s : State) (words : List ℕ) (desk : Told) (n k : ℕ) (in_hand : Option ℕ) (control : Control) (held regs : RegisterFile)
    (mem : Mem) (end : Content) (after : Told) (new : State) (new_words : List ℕ)
    → control ≡ new_control → held ≡ file_of s → regs ≡ entered_at s.cursor held → mem ≡ all_lent words
    → IsOver (content control regs mem) desk n in_hand end after
    → new ≡ shown (after_write end.registers 0x18 s.ring) (cursor_after s.cursor in_hand end.registers) → new_words ≡ end.memory.words
    → runs.Made n ≡ runs.Made k → IsMade s words desk k new new_words after
is_made s words desk n k in_hand control held regs mem end after new new_words fresh file enters lent over state memory same =
    subst (λ (m : ℕ). IsMade s words desk m new new_words after) (same_number n k same) (record {
      held = in_hand;
      end = end;
      over =
          subst (λ (start : Content). IsOver start desk n in_hand end after)
          (opens s words control held regs mem fresh file enters lent) over;
      state = state;
      memory = memory;
    })
