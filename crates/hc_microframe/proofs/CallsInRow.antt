-- Calls for one event in a row.
use Rattle.std.proofs.Common.{◌≡◌, ◌≢◌, ℕ, ◌+◌, Bool, true, false, List, Option, Some, refl, ap, sym, subst, ◌∙◌}
use Rattle.word_mem.specs.Memory.{Mem, all_lent, reaches}
use Rattle.lent_words.specs.Lent.{lent_mem}
use Rattle.op_registers.specs.RegisterFile.{RegisterFile}
use Rattle.op_registers.specs.Events.{after_begin}
use Rattle.async_walk.specs.Causes.{AreRefusalsFaults}
use Rattle.async_walk.proofs.Refusals.{refusals_are_faults as ring_faults}
use Rattle.periodic_walk.proofs.Refusals.{refusals_are_faults as frame_faults}
use Rattle.hc_core.specs.declared.controller.ControllerRow.{ControllerRow}
use Rattle.hc_core.specs.declared.controller.ControllerRow.TheVariants as events
use Rattle.hc_core.specs.declared.controller.HcStep.{HcStep}
use Rattle.hc_core.specs.Controller.{Content, Control, content, address_in_hand, element_address, begun_at, entered, walk_place, frame_place, microframe_row, kind_of, HasRow}
use Rattle.hc_microframe.specs.declared.whole.Whole.{Whole}
use Rattle.hc_microframe.specs.Answers.{Told, Begins, Answers}
use Rattle.hc_microframe.specs.State.{file_of, IsHeld}
use Rattle.hc_microframe.specs.Microframe.{IsEvent, is_last, Goes}
use Rattle.hc_microframe.specs.Microframe.Goes.{none as no_event, next as next_event}
use Rattle.hc_microframe.specs.Numbers.{control_of}
use Rattle.hc_microframe.specs.Stepping.{opening, IsStepped}
use Rattle.hc_microframe.specs.Several.{Calls, AreWords, CallsAreRun, CallsAreRunOver, RunIsHeldUp}
use Rattle.hc_microframe.specs.Several.Calls.{none as no_call, next as next_call}
use Rattle.hc_microframe.proofs.Words.{words_keep_registers}
use Rattle.hc_microframe.proofs.KeptRegisters.{row_held, told_held}
use Rattle.hc_microframe.proofs.EventsInRow.{none_refused, not_last}

-- ---- a refusal is the fault

begun_faults : (b allowed : Bool) (c : Content) → AreRefusalsFaults c.memory (begun_at b allowed c).memory (begun_at b allowed c).registers
begun_faults true allowed c other = absurd (other refl)
begun_faults false allowed c other = refl

row_faults : (row : ControllerRow) (old : Content) (before : Told) (new : Content) (after : Told)
    → HasRow Begins Answers row old before new after → AreRefusalsFaults old.memory new.memory new.registers
row_faults events.Idle old before new after l = λ other. absurd (other (ap (λ (c : Content). c.memory.foreign) l.0))
row_faults events.Begin old before new after l =
    let stepped : Content = record old { registers = after_begin old.registers } in
    subst (λ (c : Content). AreRefusalsFaults old.memory c.memory c.registers) (sym l.contents)
    (begun_faults (reaches old.memory (element_address stepped.registers)) l.allowed stepped)
row_faults events.Frame old before new after l = frame_faults Answers (frame_place old) (frame_place new) before after l.walked
row_faults events.Enter old before new after l = ring_faults Answers (walk_place (entered old)) (walk_place new) before after l.walked
row_faults events.Go old before new after l = ring_faults Answers (walk_place old) (walk_place new) before after l.walked
row_faults events.End old before new after l = λ other. absurd (other (ap (λ (c : Content). c.memory.foreign) l.0))

-- ---- where the calls lead

record Stands (s : Whole) (words : List ℕ) (desk : Told) (n : ℕ) (mid : Whole) (between : List ℕ) (told : Told)
    (next : Control) : Type 0 where
  pub control : Control
  pub from : control_of s ≡ Some control
  pub goes : Goes (opening control s.registers words) desk n (opening next mid.registers between) told
  pub held : IsHeld (file_of mid.registers)

same_control : (a b : Control) (o : Option Control) → o ≡ Some a → o ≡ Some b → a ≡ b
same_control a b o e f = let g : Some a ≡ Some b = sym e ∙ f in cc

-- an event that isn't the last leaves words that are all lent
left_words : (s : Whole) (words : List ℕ) (desk : Told) (kind : HcStep) (new : Whole) (left : List ℕ) (after : Told)
    (m : IsStepped s words desk kind new left after) → is_last (opening m.control s.registers words) m.end ≡ false
    → m.end.memory ≡ all_lent left
left_words s words desk kind new left after m goes_on =
    let start : Content = opening m.control s.registers words in
    let faults : m.end.memory.foreign ≢ 0 → m.end.registers.run ≡ false =
    row_faults (microframe_row start.registers start.control) start desk m.end after m.event
    in
    let runs : m.end.registers.run ≡ true =
    not_last (kind_of (microframe_row start.registers start.control) start) m.end.registers.run goes_on in
    let zero : m.end.memory.foreign ≡ 0 = none_refused 0 m.end.memory.foreign m.end.registers.run refl faults runs in
    let counted : m.refused ≡ 0 = sym (ap (λ (x : Mem). x.foreign) m.memory) ∙ zero in
    m.memory ∙ ap (lent_mem left) counted

stands : (s : Whole) (words : List ℕ) (desk : Told) (n : ℕ) (mid : Whole) (between : List ℕ) (told : Told) (next : Control) → AreWords s
    → Calls s words desk n mid between told → control_of mid ≡ Some next → Stands s words desk n mid between told next
stands s words desk _ _ _ _ next w no_call is =
    record { control = next; from = is; goes = no_event; held = told_held s.registers w.list w.ring }
stands s words desk _ _ _ _ next w (next_call n mid between told kind new left after c m goes_on) is =
    let before = stands s words desk n mid between told m.control w c m.from in
    let start : Content = opening m.control mid.registers between in
    let held : IsHeld m.end.registers =
    row_held (microframe_row start.registers start.control) start told m.end after m.event before.held
    in
    let file : file_of new.registers ≡ m.end.registers = ap file_of m.registers ∙ words_keep_registers m.end.registers 0 held in
    let same : m.end ≡ opening next new.registers left =
    ap (content m.end.control m.end.registers) (left_words mid between told kind new left after m goes_on)
    ∙ ap (λ (r : RegisterFile). content m.end.control r (all_lent left)) (sym file)
    ∙ ap (λ (k : Control). opening k new.registers left) (same_control m.end.control next (control_of new) m.to is)
    in
    record {
      control = before.control;
      from = before.from;
      goes =
          subst (λ (e : Content). Goes (opening before.control s.registers words) desk (n + 1) e after) same
          (next_event n start told m.end after before.goes m.event m.answered goes_on);
      held = subst IsHeld (sym file) held;
    }

pub calls_are_run : CallsAreRun
calls_are_run s words desk n mid between told kind new left after w c m goes_on =
    let before = stands s words desk n mid between told m.control w c m.from in
    let start : Content = opening m.control mid.registers between in
    record {
      control = before.control;
      from = before.from;
      made = record {
        control = m.end.control;
        file = m.end.registers;
        goes =
            subst (λ (e : Content). Goes (opening before.control s.registers words) desk (n + 1) e after)
            (ap (content m.end.control m.end.registers) (left_words mid between told kind new left after m goes_on))
            (next_event n start told m.end after before.goes m.event m.answered goes_on);
        registers = m.registers;
        to = m.to;
      };
    }

pub calls_are_run_over : CallsAreRunOver
calls_are_run_over s words desk n mid between told kind new left after w c m ends =
    let before = stands s words desk n mid between told m.control w c m.from in
    let start : Content = opening m.control mid.registers between in
    record {
      control = before.control;
      from = before.from;
      made = record {
        control = m.end.control;
        file = m.end.registers;
        refused = m.refused;
        held = address_in_hand start.control;
        over = record {
          earlier = n;
          old = start;
          before = told;
          goes = before.goes;
          event =
              subst (λ (e : Content). IsEvent start told e after) (ap (content m.end.control m.end.registers) m.memory) m.event;
          answered = m.answered;
          last = ends;
          count = refl;
          hand = refl;
        };
        registers = m.registers;
        to = m.to;
      };
    }

-- ---- the call that is held up

goes_held : (start : Content) (desk : Told) (n : ℕ) (c : Content) (t : Told) → IsHeld start.registers → Goes start desk n c t
    → IsHeld c.registers
goes_held start desk _ _ _ h no_event = h
goes_held start desk _ _ _ h (next_event n old before new after g e wanted last) =
    row_held (microframe_row old.registers old.control) old before new after e (goes_held start desk n old before h g)

pub run_is_held_up : RunIsHeldUp
run_is_held_up s words desk n new left after w m =
    let r = m.made.made in
    let held : IsHeld r.file =
    goes_held (opening m.control s.registers words) desk n (content r.control r.file (all_lent left)) m.made.before
    (told_held s.registers w.list w.ring) r.goes
    in
    let file : r.file ≡ file_of new.registers = sym (ap file_of r.registers ∙ words_keep_registers r.file 0 held) in
    record {
      control = r.control;
      end = m.made.end;
      from = r.to;
      event =
          subst (λ (f : RegisterFile). IsEvent (content r.control f (all_lent left)) m.made.before m.made.end after) file m.made.event;
      wanted = m.made.wanted;
    }
