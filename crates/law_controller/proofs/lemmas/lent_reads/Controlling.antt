-- Each event of the controller is the same over memories that are the same in Lent blocks.
use Rattle.std.proofs.Common.{◌≡◌, ℕ, ◌%◌, Bool, true, false, List, ap, refl, sym, subst, ◌∙◌}
use Rattle.usb_base.specs.declared.packets.Ask.{Ask}
use Rattle.usb_base.specs.declared.packets.Reply.{Reply}
use Rattle.word_mem.specs.Memory.{Mem, reaches}
use Rattle.op_registers.specs.Events.{after_begin}
use Rattle.async_walk.specs.Walk.{Walk}
use Rattle.periodic_walk.specs.Walk.{Walk as FrameWalk}
use Rattle.periodic_walk.specs.Rows.{effect_of}
use Rattle.hc_core.specs.declared.controller.MicroframePart.{MicroframePart}
use Rattle.hc_core.specs.declared.controller.MicroframePart.TheVariants.{Periodic, Asynchronous}
use Rattle.hc_core.specs.declared.controller.ControllerRow.{ControllerRow}
use Rattle.hc_core.specs.declared.controller.ControllerRow.TheVariants as rows
use Rattle.hc_core.specs.Controller.{Control, Content, microframe_row, element_address, time_of, begun_control, begun_at, began, ended, entered, frame_place, frame_step, walk_place, walk_step, part_after, Walks, WalksFrame, HasRow}
use Rattle.law_controller.specs.aligned_copies.Aligned.{IsRingAligned, AreAligned}
use Rattle.claims_base.specs.Controller.{IsSameWhereLent}
use Rattle.law_controller.specs.lent_reads.Reading.{ReadsLent}
use Rattle.law_controller.proofs.lemmas.lent_reads.Same.{same_reaches, same_refused}
use Rattle.law_controller.proofs.lemmas.lent_reads.Ringing.{RingAlike, ring_alike, event_step_same}
use Rattle.law_controller.proofs.lemmas.lent_reads.Framing.{FrameAlike, frame_alike, frame_step_same}

abbrev over : Content → Mem → Content
over c n = record c { memory = n }

-- with the other memory, by any row
record RowAlike {W : Type 0} (begins : W → ℕ → Bool → W → Type 0) (transacts : W → Ask → List ℕ → Reply → W → Type 0) (row : ControllerRow) (c : Content) (wire : W) (new : Content) (after : W) : Type 0 where
  other : Content
  made : HasRow begins transacts row c wire other after
  control : other.control ≡ new.control
  registers : other.registers ≡ new.registers
  memory : IsSameWhereLent new.memory other.memory

control_is : (part : MicroframePart) (frame : FrameWalk) (walk : Walk) (b : Control) → part ≡ b.part → frame ≡ b.frame → walk ≡ b.walk → record { part = part; frame = frame; walk = walk } ≡ b
control_is part frame walk b one two three =
    ap (λ (x : MicroframePart). let c : Control = record { part = x; frame = frame; walk = walk } in c) one
    ∙ ap (λ (x : FrameWalk). let c : Control = record { part = b.part; frame = x; walk = walk } in c) two
    ∙ ap (λ (x : Walk). let c : Control = record { part = b.part; frame = b.frame; walk = x } in c) three

-- ---- a microframe begins

record AreAlike (c d : Content) : Type 0 where
  control : d.control ≡ c.control
  registers : d.registers ≡ c.registers
  memory : IsSameWhereLent c.memory d.memory

begun_by : (c : Content) (n : Mem) (allowed b : Bool) → IsSameWhereLent c.memory n → reaches c.memory (element_address c.registers) ≡ b → AreAlike (begun_at b allowed c) (begun_at b allowed (over c n))
begun_by c n allowed true k is = record {
  control = ap (λ (word : ℕ). begun_control word c.registers.frame_index (time_of allowed) c.control) (k.words (element_address c.registers) is);
  registers = refl;
  memory = k;
}
begun_by c n allowed false k is = record { control = refl; registers = refl; memory = same_refused c.memory n k }

begun_alike : (c : Content) (n : Mem) (allowed : Bool) → IsSameWhereLent c.memory n
    → AreAlike (begun_at (reaches c.memory (element_address c.registers)) allowed c) (begun_at (reaches n (element_address c.registers)) allowed (over c n))
begun_alike c n allowed k =
    subst (λ (b : Bool). AreAlike (begun_at (reaches c.memory (element_address c.registers)) allowed c) (begun_at b allowed (over c n))) (sym (same_reaches c.memory n (element_address c.registers) k))
    (begun_by c n allowed (reaches c.memory (element_address c.registers)) k refl)

-- ---- an event of a walk

module _ {W : Type 0} (begins : W → ℕ → Bool → W → Type 0) (transacts : W → Ask → List ℕ → Reply → W → Type 0) (wire : W) (new : Content) (after : W) (n : Mem) where
  record WalkAlike (c : Content) : Type 0 where
    other : Content
    made : Walks transacts (over c n) wire other after
    control : other.control ≡ new.control
    registers : other.registers ≡ new.registers
    memory : IsSameWhereLent new.memory other.memory

  walk_alike : (c : Content) → IsSameWhereLent c.memory n → c.registers.async_list_address % 32 ≡ 0 → IsRingAligned c.control.walk → Walks transacts c wire new after → WalkAlike c
  walk_alike c k start is row =
      let g : RingAlike transacts (walk_place (over c n)) wire (walk_place new) after = ring_alike transacts (walk_place c) n wire (walk_place new) after k start is row.walked in
      let step : walk_step (over c n) ≡ walk_step c = event_step_same (walk_place c) n k start is in
      record {
        other = record {
          control = record { part = part_after Asynchronous (walk_step (over c n)); frame = c.control.frame; walk = g.other.walk };
          registers = g.other.registers;
          memory = g.other.memory;
        };
        made = record { part = refl; frame = refl; walked = g.made };
        control = control_is (part_after Asynchronous (walk_step (over c n))) c.control.frame g.other.walk new.control (ap (part_after Asynchronous) step ∙ sym row.part) (sym row.frame) g.same.walk;
        registers = g.same.registers;
        memory = g.same.memory;
      }

  frame_row_alike : (c : Content) → IsSameWhereLent c.memory n → AreAligned c → WalksFrame transacts c wire new after → RowAlike begins transacts rows.Frame (over c n) wire new after
  frame_row_alike c k is row =
      let g : FrameAlike transacts (effect_of (frame_place (over c n))) wire (frame_place new) after = frame_alike transacts (frame_place c) n wire (frame_place new) after k is.frame row.walked in
      let step : frame_step (over c n) ≡ frame_step c = frame_step_same (frame_place c) n k is.frame in
      record {
        other = record {
          control = record { part = part_after Periodic (frame_step (over c n)); frame = g.other.walk; walk = c.control.walk };
          registers = g.other.registers;
          memory = g.other.memory;
        };
        made = record { part = refl; ring = refl; walked = g.made };
        control = control_is (part_after Periodic (frame_step (over c n))) g.other.walk c.control.walk new.control (ap (part_after Periodic) step ∙ sym row.part) g.same.walk (sym row.ring);
        registers = g.same.registers;
        memory = g.same.memory;
      }

  goes_alike : (row : ControllerRow) (c x other : Content) → new ≡ x → AreAlike x other → HasRow begins transacts row (over c n) wire other after → RowAlike begins transacts row (over c n) wire new after
  goes_alike row c x other is same made =
      let moved : AreAlike new other = subst (λ (y : Content). AreAlike y other) (sym is) same in
      record { other = other; made = made; control = moved.control; registers = moved.registers; memory = moved.memory }

  row_alike : (row : ControllerRow) (c : Content) → IsSameWhereLent c.memory n → AreAligned c → HasRow begins transacts row c wire new after → RowAlike begins transacts row (over c n) wire new after
  row_alike rows.Idle c k is row = goes_alike rows.Idle c c (over c n) row.0 (record { control = refl; registers = refl; memory = k }) (refl, row.1)
  row_alike rows.Begin c k is row =
      let stepped : Content = record c { registers = after_begin c.registers } in
      goes_alike rows.Begin c (began row.allowed c) (began row.allowed (over c n)) row.contents (begun_alike stepped n row.allowed k) (record { allowed = row.allowed; asked = row.asked; contents = refl })
  row_alike rows.Frame c k is row = frame_row_alike c k is row
  row_alike rows.Enter c k is row =
      let g : WalkAlike (entered c) = walk_alike (entered c) k is.start (record { cursor = is.ring.cursor; held = tt }) row in
      record { other = g.other; made = g.made; control = g.control; registers = g.registers; memory = g.memory }
  row_alike rows.Go c k is row =
      let g : WalkAlike c = walk_alike c k is.start is.ring row in
      record { other = g.other; made = g.made; control = g.control; registers = g.registers; memory = g.memory }
  row_alike rows.End c k is row =
      goes_alike rows.End c (record c { control = ended c.control }) (record (over c n) { control = ended c.control }) row.0 (record { control = refl; registers = refl; memory = k }) (refl, row.1)

pub each_event_reads_lent_words : {W : Type 0} (begins : W → ℕ → Bool → W → Type 0) (transacts : W → Ask → List ℕ → Reply → W → Type 0) (c : Content) (n : Mem) (wire : W) (new : Content) (after : W) → AreAligned c → IsSameWhereLent c.memory n
    → HasRow begins transacts (microframe_row c.registers c.control) c wire new after → ReadsLent begins transacts c n wire new after
each_event_reads_lent_words begins transacts c n wire new after is k row =
    let g : RowAlike begins transacts (microframe_row c.registers c.control) (over c n) wire new after = row_alike begins transacts wire new after n (microframe_row c.registers c.control) c k is row in
    record { other = g.other; made = g.made; control = g.control; registers = g.registers; memory = g.memory }
