-- An event of the controller goes on, or stops with at most one refusal counted more.
use Rattle.std.proofs.Common.{◌≡◌, ℕ, Bool, true, false, List, refl, sym, subst, inr}
use Rattle.usb_base.specs.declared.packets.Ask.{Ask}
use Rattle.usb_base.specs.declared.packets.Reply.{Reply}
use Rattle.word_mem.specs.Memory.{reaches}
use Rattle.op_registers.specs.Events.{after_begin}
use Rattle.hc_core.specs.declared.controller.ControllerRow.{ControllerRow}
use Rattle.hc_core.specs.declared.controller.ControllerRow.TheVariants as rows
use Rattle.hc_core.specs.Controller.{Content, microframe_row, element_address, began, begun_at, ended, entered, frame_place, walk_place, HasRow}
use Rattle.law_refusals.specs.Refusals.{IsEvent, GoesOnOrStops}
use Rattle.law_refusals.proofs.Counting.{goes_on, stops}
use Rattle.law_refusals.proofs.Ring.{ring_counts}
use Rattle.law_refusals.proofs.Frame.{frame_counts}

-- what an event leaves
abbrev Counts : Content → Content → Type 0
Counts old new = GoesOnOrStops old.registers old.memory new.registers new.memory

counts_at : (old new expected : Content) → new ≡ expected → Counts old expected → Counts old new
counts_at old new expected is counts = subst (λ (c : Content). Counts old c) (sym is) counts

-- the element of the frame list may be read, or that is the fault
begun_counts : (reach allowed : Bool) (c : Content) → Counts c (begun_at reach allowed (record c { registers = after_begin c.registers }))
begun_counts true allowed c = goes_on c.registers _ c.memory _ refl refl refl
begun_counts false allowed c = stops c.registers _ c.memory _ refl refl (inr refl)

module _ {W : Type 0} (begins : W → ℕ → Bool → W → Type 0) (transacts : W → Ask → List ℕ → Reply → W → Type 0) (old new : Content) (before after : W) where
  row_counts : (row : ControllerRow) → HasRow begins transacts row old before new after → Counts old new
  row_counts rows.Idle has = counts_at old new old has.0 (goes_on old.registers old.registers old.memory old.memory refl refl refl)
  row_counts rows.Begin has =
      counts_at old new (began has.allowed old) has.contents (begun_counts (reaches old.memory (element_address (after_begin old.registers))) has.allowed old)
  row_counts rows.Frame has = frame_counts transacts (frame_place old) (frame_place new) before after has.walked
  row_counts rows.Enter has = ring_counts transacts (walk_place (entered old)) (walk_place new) before after has.walked
  row_counts rows.Go has = ring_counts transacts (walk_place old) (walk_place new) before after has.walked
  row_counts rows.End has = counts_at old new (record old { control = ended old.control }) has.0 (goes_on old.registers old.registers old.memory old.memory refl refl refl)

pub each_event_counts_once : {W : Type 0} (begins : W → ℕ → Bool → W → Type 0) (transacts : W → Ask → List ℕ → Reply → W → Type 0) (old new : Content) (before after : W) → IsEvent begins transacts old before new after → GoesOnOrStops old.registers old.memory new.registers new.memory
each_event_counts_once begins transacts old new before after event = row_counts begins transacts old new before after (microframe_row old.registers old.control) event
