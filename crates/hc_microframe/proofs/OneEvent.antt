-- An event that was made, and one that is held up.
use Rattle.std.proofs.Common.{◌≡◌, ℕ, Bool, true, false, List, Option, Some, None, ap, sym, subst, ◌∙◌}
use Rattle.std.specs.Prelude.{is_some}
use Rattle.word_mem.specs.Memory.{Mem, all_lent}
use Rattle.lent_words.specs.Lent.{lent_mem}
use Rattle.op_registers.specs.RegisterFile.{RegisterFile}
use Rattle.hc_core.specs.declared.controller.HcStep.{HcStep}
use Rattle.hc_core.specs.Controller.{Content, Control, content, microframe_row, kind_of}
use Rattle.hc_microframe.specs.declared.stepping.Stepped.TheVariants as came
use Rattle.hc_microframe.specs.declared.whole.Whole.{Whole}
use Rattle.hc_microframe.specs.Answers.{Told}
use Rattle.hc_microframe.specs.State.{shown, file_of}
use Rattle.hc_microframe.specs.Microframe.{IsEvent}
use Rattle.hc_microframe.specs.Numbers.{control_of}
use Rattle.hc_microframe.specs.Stepping.{opening, IsStepped, IsHeldUp, LeavesWords}
use Rattle.hc_microframe.proofs.Going.{nothing_wanted}
use Rattle.hc_microframe.proofs.HeldUp.{held_up_keeps}

opens : (s : Whole) (words : List ℕ) (control : Control) (regs : RegisterFile) (mem : Mem)
    → regs ≡ file_of s.registers → mem ≡ all_lent words → content control regs mem ≡ opening control s.registers words
opens s words control regs mem file lent =
    ap (λ (r : RegisterFile). content control r mem) file ∙ ap (content control (file_of s.registers)) lent

same_kind : (a b : HcStep) → came.Event a ≡ came.Event b → a ≡ b
same_kind a b e = cc

abbrev kind_at : Content → HcStep
kind_at c = kind_of (microframe_row c.registers c.control) c

pub is_stepped : (s : Whole) (words lent : List ℕ) (desk : Told) (kind k : HcStep) (read : Option Control) (control : Control)
    (regs : RegisterFile) (next : Control) (next_regs : RegisterFile) (now : List ℕ) (after : Told) (asked : Bool) (new : Whole)
    (left : List ℕ)
    → read ≡ control_of s → read ≡ Some control → regs ≡ file_of s.registers → lent ≡ words
    → kind ≡ kind_of (microframe_row regs control) (content control regs (all_lent lent))
    → LeavesWords (content control regs (all_lent lent)) desk next next_regs now after
    → asked ≡ is_some after.wanted → asked ≡ false
    → new.registers ≡ shown next_regs 0 → control_of new ≡ Some next → left ≡ now
    → came.Event kind ≡ came.Event k → IsStepped s words desk k new left after
is_stepped s words lent desk kind k read control regs next next_regs now after asked new left reads is file lend kind_is row asks unasked
    registers to memory same =
    let at = opens s words control regs (all_lent lent) file (ap all_lent lend) in
    let end : Content = content next next_regs (lent_mem now row.refused) in
    subst (λ (it : HcStep). IsStepped s words desk it new left after) (same_kind kind k same) (record {
      control = control;
      end = end;
      from = sym reads ∙ is;
      event = subst (λ (start : Content). IsEvent start desk end after) at row.event;
      kind_is = kind_is ∙ ap kind_at at;
      answered = nothing_wanted after.wanted (sym asks ∙ unasked);
      registers = registers;
      to = to;
      refused = row.refused;
      memory = ap (λ (ws : List ℕ). lent_mem ws row.refused) (sym memory);
    })

pub is_held_up : (s : Whole) (words lent : List ℕ) (desk : Told) (read : Option Control) (control : Control) (regs : RegisterFile)
    (next : Control) (next_regs : RegisterFile) (now : List ℕ) (after : Told) (asked : Bool)
    → read ≡ control_of s → read ≡ Some control → regs ≡ file_of s.registers → lent ≡ words
    → LeavesWords (content control regs (all_lent lent)) desk next next_regs now after
    → asked ≡ is_some after.wanted → asked ≡ true → IsHeldUp s words desk after
is_held_up s words lent desk read control regs next next_regs now after asked reads is file lend row asks wants =
    let end : Content = content next next_regs (lent_mem now row.refused) in
    let at = opens s words control regs (all_lent lent) file (ap all_lent lend) in
    record {
      control = control;
      end = end;
      from = sym reads ∙ is;
      event = subst (λ (start : Content). IsEvent start desk end after) at row.event;
      wanted = sym asks ∙ wants;
    }

pub words_stay : (words lent : List ℕ) (desk : Told) (control : Control) (regs : RegisterFile) (next : Control) (next_regs : RegisterFile)
    (now : List ℕ) (after : Told) (asked : Bool) → desk.wanted ≡ None → lent ≡ words
    → LeavesWords (content control regs (all_lent lent)) desk next next_regs now after
    → asked ≡ is_some after.wanted → asked ≡ true → now ≡ words
words_stay words lent desk control regs next next_regs now after asked none lend row asks wants =
    held_up_keeps (content control regs (all_lent lent)) (content next next_regs (lent_mem now row.refused)) desk after none
    (sym asks ∙ wants) row.event ∙ lend
