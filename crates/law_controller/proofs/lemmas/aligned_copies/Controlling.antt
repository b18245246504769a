-- Each event of the controller leaves the addresses that it follows multiples of 32.
use Rattle.std.proofs.Common.{◌≡◌, ℕ, ◌%◌, Bool, true, false, List, Option, Some, None, ap, sym, subst, ◌∙◌}
use Rattle.std.specs.Prelude.{IfSome}
use Rattle.usb_base.specs.declared.packets.Ask.{Ask}
use Rattle.usb_base.specs.declared.packets.Reply.{Reply}
use Rattle.word_mem.specs.Memory.{reaches, word_at}
use Rattle.op_registers.specs.RegisterFile.{RegisterFile}
use Rattle.op_registers.specs.Events.{after_begin}
use Rattle.hc_copy.specs.declared.held.Held.{Held}
use Rattle.periodic_walk.specs.declared.state.Hand.{Hand}
use Rattle.periodic_walk.specs.declared.state.Hand.TheVariants as hands
use Rattle.hc_core.specs.declared.controller.ControllerRow.{ControllerRow}
use Rattle.hc_core.specs.declared.controller.ControllerRow.TheVariants as rows
use Rattle.hc_core.specs.Controller.{Content, new_control, content, microframe_row, element_address, begun_at, entered, frame_place, walk_place, HasRow}
use Rattle.word_mem.specs.Memory.{Mem}
use Rattle.law_controller.specs.lent_writes.Hands.{IsCopyPlaced, IsHandPlaced, ArePlaced}
use Rattle.law_controller.specs.aligned_copies.Aligned.{IsCopyAligned, IsHandAligned, IsRingAligned, IsFrameAligned, AreAligned}
use Rattle.law_controller.proofs.lemmas.aligned_copies.Reading.{word_aligned}
use Rattle.law_controller.proofs.lemmas.aligned_copies.Ringing.{Keeps, ring_keeps}
use Rattle.law_controller.proofs.lemmas.aligned_copies.Framing.{Keeps as FrameKeeps, frame_keeps}

begun_aligned : (b allowed : Bool) (c : Content) → AreAligned c → AreAligned (begun_at b allowed c)
begun_aligned true allowed c is = record {
  frame = record { cursor = word_aligned (word_at c.memory (element_address c.registers)); hand = tt };
  ring = record { cursor = is.ring.cursor; held = is.ring.held };
  start = is.start;
}
begun_aligned false allowed c is = record { frame = is.frame; ring = is.ring; start = is.start }

from_ring : (a : ℕ) (c new : Content) → a % 32 ≡ 0 → IsFrameAligned c.control.frame → new.control.frame ≡ c.control.frame → Keeps a (walk_place new) → AreAligned new
from_ring a c new start is frame keeps = record {
  frame = subst IsFrameAligned (sym frame) is;
  ring = keeps.walk;
  start = ap (λ (n : ℕ). n % 32) keeps.begins ∙ start;
}

row_aligned : {W : Type 0} (begins : W → ℕ → Bool → W → Type 0) (transacts : W → Ask → List ℕ → Reply → W → Type 0) (c : Content) (wire : W) (new : Content) (after : W) (row : ControllerRow) → AreAligned c → HasRow begins transacts row c wire new after → AreAligned new
row_aligned begins transacts c wire new after rows.Idle is row = subst AreAligned (sym row.0) is
row_aligned begins transacts c wire new after rows.Begin is row =
    let stepped : Content = record c { registers = after_begin c.registers } in
    subst AreAligned (sym row.contents) (begun_aligned (reaches c.memory (element_address stepped.registers)) row.allowed stepped (record { frame = is.frame; ring = is.ring; start = is.start }))
row_aligned begins transacts c wire new after rows.Frame is row =
    let keeps : FrameKeeps c.registers.async_list_address (frame_place new) = frame_keeps transacts (frame_place c) wire (frame_place new) after is.frame row.walked in
    record {
      frame = keeps.walk;
      ring = subst IsRingAligned (sym row.ring) is.ring;
      start = ap (λ (n : ℕ). n % 32) keeps.begins ∙ is.start;
    }
row_aligned begins transacts c wire new after rows.Enter is row =
    from_ring c.registers.async_list_address (entered c) new is.start (record { cursor = is.frame.cursor; hand = tt }) row.frame
    (ring_keeps transacts (walk_place (entered c)) wire (walk_place new) after is.start (record { cursor = is.ring.cursor; held = tt }) row.walked)
row_aligned begins transacts c wire new after rows.Go is row =
    from_ring c.registers.async_list_address c new is.start is.frame row.frame (ring_keeps transacts (walk_place c) wire (walk_place new) after is.start is.ring row.walked)
row_aligned begins transacts c wire new after rows.End is row = subst AreAligned (sym row.0) (record {
  frame = record { cursor = is.frame.cursor; hand = tt };
  ring = record { cursor = is.ring.cursor; held = tt };
  start = is.start;
})

pub each_event_keeps_addresses_aligned : {W : Type 0} (begins : W → ℕ → Bool → W → Type 0) (transacts : W → Ask → List ℕ → Reply → W → Type 0) (c : Content) (wire : W) (new : Content) (after : W) → AreAligned c → HasRow begins transacts (microframe_row c.registers c.control) c wire new after
    → AreAligned new
each_event_keeps_addresses_aligned begins transacts c wire new after is row = row_aligned begins transacts c wire new after (microframe_row c.registers c.control) is row

pub a_new_controller_is_aligned : (r : RegisterFile) (m : Mem) → r.async_list_address % 32 ≡ 0 → AreAligned (content new_control r m)
a_new_controller_is_aligned r m start =
    record { frame = record { cursor = tt; hand = tt }; ring = record { cursor = tt; held = tt }; start = start }

-- ---- so they are placed

held_placed : (o : Option Held) → IfSome o IsCopyAligned → IfSome o IsCopyPlaced
held_placed None is = tt
held_placed (Some h) is = record { at = is.at; current = is.queue.current }

hand_placed : (o : Option Hand) → IfSome o IsHandAligned → IfSome o IsHandPlaced
hand_placed (Some (hands.Queue h)) is = record { at = is.at; current = is.queue.current }
hand_placed (Some (hands.Sitd h)) is = is.0
hand_placed _ is = tt

pub aligned_placed : (c : Content) → AreAligned c → ArePlaced c.control
aligned_placed c is = record { frame = hand_placed c.control.frame.hand is.frame.hand; ring = held_placed c.control.walk.held is.ring.held }
