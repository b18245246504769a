-- Each event of the controller writes words of Lent blocks alone.
use Rattle.std.proofs.Common.{ℕ, Bool, List, Option, Some, None}
use Rattle.std.specs.Prelude.{IfSome}
use Rattle.law_controller.proofs.Common.{goes_to, begun_writes}
use Rattle.usb_base.specs.declared.packets.Ask.{Ask}
use Rattle.usb_base.specs.declared.packets.Reply.{Reply}
use Rattle.word_mem.specs.Memory.{reaches}
use Rattle.op_registers.specs.Events.{after_begin}
use Rattle.hc_copy.specs.declared.held.Held.{Held}
use Rattle.hc_core.specs.declared.controller.ControllerRow.{ControllerRow}
use Rattle.hc_core.specs.declared.controller.ControllerRow.TheVariants as rows
use Rattle.hc_core.specs.Controller.{Content, microframe_row, element_address, began, entered, frame_place, walk_place, HasRow}
use Rattle.law_ring.specs.walk_writes.Writes.{WritesLent, IsPlaced}
use Rattle.law_ring.proofs.lemmas.walk_writes.Walking.{unchanged, each_event_writes_lent_words}
use Rattle.law_controller.specs.lent_writes.Hands.{IsCopyPlaced, ArePlaced}
use Rattle.law_controller.proofs.lemmas.lent_writes.Framing.{frame_writes}

held_placed : (o : Option Held) → IfSome o IsCopyPlaced → IfSome o IsPlaced
held_placed None is = tt
held_placed (Some h) is = record { at = is.at; current = λ outcome settled. is.current }

row_writes : {W : Type 0} (begins : W → ℕ → Bool → W → Type 0) (transacts : W → Ask → List ℕ → Reply → W → Type 0) (c : Content) (wire : W) (new : Content) (after : W) (row : ControllerRow) → ArePlaced c.control → HasRow begins transacts row c wire new after → WritesLent c.memory new.memory
row_writes begins transacts c wire new after rows.Idle k row = goes_to c.memory new c row.0 (unchanged c.memory)
row_writes begins transacts c wire new after rows.Begin k row =
    let stepped : Content = record c { registers = after_begin c.registers } in
    goes_to c.memory new (began row.allowed c) row.contents (begun_writes stepped (reaches c.memory (element_address stepped.registers)) row.allowed)
row_writes begins transacts c wire new after rows.Frame k row = frame_writes transacts (frame_place c) wire (frame_place new) after k.frame row.walked
row_writes begins transacts c wire new after rows.Enter k row = each_event_writes_lent_words transacts (walk_place (entered c)) wire (walk_place new) after tt row.walked
row_writes begins transacts c wire new after rows.Go k row = each_event_writes_lent_words transacts (walk_place c) wire (walk_place new) after (held_placed c.control.walk.held k.ring) row.walked
row_writes begins transacts c wire new after rows.End k row = goes_to c.memory new _ row.0 (unchanged c.memory)

pub each_event_of_the_controller_writes_lent_words : {W : Type 0} (begins : W → ℕ → Bool → W → Type 0) (transacts : W → Ask → List ℕ → Reply → W → Type 0) (c : Content) (wire : W) (new : Content) (after : W) → ArePlaced c.control → HasRow begins transacts (microframe_row c.registers c.control) c wire new after → WritesLent c.memory new.memory
each_event_of_the_controller_writes_lent_words begins transacts c wire new after k row = row_writes begins transacts c wire new after (microframe_row c.registers c.control) k row
