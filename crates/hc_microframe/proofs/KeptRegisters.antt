-- The registers after an event are got back from their words.
use Rattle.std.proofs.Common.{◌≡◌, ◌^◌, ◌<◌, Bool, true, false, if◌then◌else◌, arith, refl, sym, ap, subst, ◌∙◌}
use Rattle.word_mem.specs.Memory.{reaches}
use Rattle.op_registers.specs.declared.register.Register.TheVariants.{Command}
use Rattle.op_registers.specs.RegisterFile.{RegisterFile, reset_file}
use Rattle.op_registers.specs.Events.{after_begin, after_fault}
use Rattle.op_registers.specs.Table.{rows, asks_reset}
use Rattle.hc_core.specs.declared.controller.ControllerRow.{ControllerRow}
use Rattle.hc_core.specs.declared.controller.ControllerRow.TheVariants as events
use Rattle.hc_core.specs.Controller.{Content, microframe_row, HasRow, element_address, begun_at, entered, walk_place, frame_place}
use Rattle.hc_microframe.specs.declared.state.State.{State}
use Rattle.hc_microframe.specs.Answers.{Told, Begins, Answers}
use Rattle.hc_microframe.specs.State.{file_of, IsHeld}
use Rattle.hc_microframe.specs.Stepping.{opening, RegistersAreKept}
use Rattle.hc_microframe.proofs.Words.{words_keep_registers}
use Rattle.hc_microframe.proofs.RingShapes.{shape, ring_shape}
use Rattle.hc_microframe.proofs.FrameShapes.{frame_shape}

to_shape : (r : RegisterFile) → IsHeld r → IsHeld (shape r)
to_shape r h = record {
  ranges = record {
    size_coded = h.ranges.size_coded;
    enables_named = h.ranges.enables_named;
    index_wraps = h.ranges.index_wraps;
    base_aligned = h.ranges.base_aligned;
    address_aligned = h.ranges.address_aligned;
  };
  threshold = h.threshold;
  base_fits = h.base_fits;
  address_fits = h.address_fits;
  ports = h.ports;
}

from_shape : (r : RegisterFile) → IsHeld (shape r) → IsHeld r
from_shape r h = record {
  ranges = record {
    size_coded = h.ranges.size_coded;
    enables_named = h.ranges.enables_named;
    index_wraps = h.ranges.index_wraps;
    base_aligned = h.ranges.base_aligned;
    address_aligned = h.ranges.address_aligned;
  };
  threshold = h.threshold;
  base_fits = h.base_fits;
  address_fits = h.address_fits;
  ports = h.ports;
}

of_shape : (r q : RegisterFile) → shape q ≡ shape r → IsHeld r → IsHeld q
of_shape r q e h = from_shape q (subst IsHeld (sym e) (to_shape r h))

begun_held : (r : RegisterFile) → IsHeld r → IsHeld (after_begin r)
begun_held r h = record {
  ranges = record {
    size_coded = h.ranges.size_coded;
    enables_named = h.ranges.enables_named;
    index_wraps = omega arith;
    base_aligned = h.ranges.base_aligned;
    address_aligned = h.ranges.address_aligned;
  };
  threshold = h.threshold;
  base_fits = h.base_fits;
  address_fits = h.address_fits;
  ports = h.ports;
}

begun_at_held : (b allowed : Bool) (c : Content) → IsHeld c.registers → IsHeld (begun_at b allowed c).registers
begun_at_held true allowed c h = h
begun_at_held false allowed c h = of_shape c.registers (after_fault c.registers) refl h

abbrev registers_of : Content → RegisterFile
registers_of c = c.registers

pub row_held : (row : ControllerRow) (old : Content) (before : Told) (new : Content) (after : Told)
    → HasRow Begins Answers row old before new after → IsHeld old.registers → IsHeld new.registers
row_held events.Idle old before new after l h = subst IsHeld (sym (ap registers_of l.0)) h
row_held events.Begin old before new after l h =
    let stepped : Content = record old { registers = after_begin old.registers } in
    subst IsHeld (sym (ap registers_of l.contents))
    (begun_at_held (reaches old.memory (element_address stepped.registers)) l.allowed stepped (begun_held old.registers h))
row_held events.Frame old before new after l h =
    of_shape old.registers new.registers (frame_shape (frame_place old) before (frame_place new) after l.walked) h
row_held events.Enter old before new after l h =
    of_shape old.registers new.registers (ring_shape (walk_place (entered old)) before (walk_place new) after l.walked) h
row_held events.Go old before new after l h =
    of_shape old.registers new.registers (ring_shape (walk_place old) before (walk_place new) after l.walked) h
row_held events.End old before new after l h = subst IsHeld (sym (ap registers_of l.0)) h

-- ---- the registers that a state tells

either_held : (b : Bool) (x y : RegisterFile) → IsHeld x → IsHeld y → IsHeld (if b then x else y)
either_held true x y hx hy = hx
either_held false x y hx hy = hy

reset_held : IsHeld reset_file
reset_held = record {
  ranges = record { size_coded = omega arith; enables_named = omega arith; index_wraps = omega arith; base_aligned = refl; address_aligned = refl };
  threshold = omega arith;
  base_fits = omega arith;
  address_fits = omega arith;
  ports = refl;
}

pub told_held : (s : State) → s.list < 2 ^ 32 → s.ring < 2 ^ 32 → IsHeld (file_of s)
told_held s list ring =
    either_held (asks_reset (rows Command) s.command) reset_file _ reset_held (record {
      ranges = record { size_coded = omega arith; enables_named = omega arith; index_wraps = omega arith; base_aligned = omega arith; address_aligned = omega arith };
      threshold = omega arith;
      base_fits = omega (arith, list);
      address_fits = omega (arith, ring);
      ports = refl;
    })

pub registers_are_kept : RegistersAreKept
registers_are_kept s words desk kind new left after list ring m =
    let start : Content = opening m.control s.registers words in
    let held = told_held s.registers list ring in
    ap file_of m.registers
    ∙ words_keep_registers m.end.registers 0 (row_held (microframe_row start.registers start.control) start desk m.end after m.event held)
