-- Each event of the controller writes words of Lent blocks alone, and leaves the first three words of every queue head.
use Rattle.std.proofs.Common.{◌≡◌, ℕ, ◌%◌, Bool, true, false, not, ◌&&◌, if◌then◌else◌, List, Option, Some, None, ap, refl, sym, subst, ◌∙◌}
use Rattle.std.specs.Prelude.{IfSome}
use Rattle.law_controller.proofs.Common.{ring_off, enter_off, goes_to, begun_writes}
use Rattle.usb_base.specs.declared.packets.Ask.{Ask}
use Rattle.usb_base.specs.declared.packets.Reply.{Reply}
use Rattle.word_mem.specs.Memory.{reaches}
use Rattle.op_registers.specs.Events.{after_begin}
use Rattle.qh_qtd.specs.declared.queue_head.Qh.{Qh}
use Rattle.qh_qtd.specs.QueueHead.{IsQhInRange}
use Rattle.toggle_error.specs.declared.host.Outcome.{Outcome}
use Rattle.hc_copy.specs.declared.held.Held.{Held}
use Rattle.hc_copy.specs.Overlay.{settled_queue}
use Rattle.async_walk.specs.Rows.{WalkPlace}
use Rattle.periodic_walk.specs.Walk.{is_over}
use Rattle.hc_core.specs.declared.controller.MicroframePart.{MicroframePart}
use Rattle.hc_core.specs.declared.controller.MicroframePart.TheVariants.{Over, Periodic, Asynchronous}
use Rattle.hc_core.specs.declared.controller.ControllerRow.{ControllerRow}
use Rattle.hc_core.specs.declared.controller.ControllerRow.TheVariants as rows
use Rattle.hc_core.specs.Controller.{Content, microframe_row, part_row, enter_row, element_address, began, entered, walk_place, HasRow}
use Rattle.law_structures.specs.lent_structures.Structures.{QueueHead, HoldsQueueHead, StructureSets}
use Rattle.law_structures.specs.lent_structures.Sound.{IsMember}
use Rattle.law_ring.specs.Hand.{Copy, copied_queue, Settlement, settled_queue_of, Hand, Empty, Copied, Settled, Stale, held_of}
use Rattle.claims_base.specs.Controller.{Base, base_of}
use Rattle.law_ring.specs.Ring.{IsCopied, IsRing}
use Rattle.law_ring.specs.Effects.{AreBytesHeard}
use Rattle.law_controller.specs.controlled_streams.Control.{IsOn, IsFrameless, off, empty, IsControlled, ControlEffect, a_microframe, a_step, Controls}
use Rattle.law_controller.proofs.lemmas.controlled_streams.Controlling.{each_event_of_the_controller}
use Rattle.law_ring.specs.walk_writes.Writes.{WritesLent, IsPlaced}
use Rattle.law_ring.proofs.lemmas.walk_writes.Lent.{same_writes}
use Rattle.law_ring.proofs.lemmas.walk_writes.Walking.{each_event_writes_lent_words}
use Rattle.law_controller.specs.controller_writes.Leaving.{LeavesRest}
use Rattle.law_controller.proofs.lemmas.controller_writes.Fronts.{KeepsFronts, same_fronts, effect_fronts, fronts_stay}

-- ---- the copy in hand

current_aligned : (q : Qh) → IsQhInRange q → q.current % 32 ≡ 0
current_aligned q (link, (chars, (caps, (current, rest)))) = current.0

settled_current : (c : Copy) (s : Settlement) → (settled_queue_of c s).current ≡ c.queue.current
unfolding settled_queue
settled_current c s = refl

not_settled : (outcome : Outcome) → ◌≡◌ {A = Option Outcome} None (Some outcome) → ⊥
not_settled outcome is = cc

head_aligned : (base : Base) (member : ℕ → Bool) (parts : StructureSets) (hand : Hand) (p : WalkPlace) (n : ℕ) → IsRing base member parts hand p → member n ≡ true → n % 32 ≡ 0
head_aligned base member parts hand p n k on =
    let m : IsMember member n (parts n) = k.members n on in
    let h : HoldsQueueHead p.memory n m.queue = k.tells.each n n (QueueHead m.queue) m.here in
    h.aligned

hand_placed : (base : Base) (member : ℕ → Bool) (parts : StructureSets) (hand : Hand) (p : WalkPlace) → IsRing base member parts hand p → IfSome (held_of hand) IsPlaced
hand_placed base member parts Empty p k = tt
hand_placed base member parts (Copied c) p k = record { at = head_aligned base member parts (Copied c) p c.at k k.in_hand.on; current = λ outcome is. absurd (not_settled outcome is) }
hand_placed base member parts (Settled c s) p k =
    let copied : IsCopied member parts c = k.in_hand.0 in
    record {
      at = head_aligned base member parts (Settled c s) p c.at k copied.on;
      current = λ outcome is. ap (λ (n : ℕ). n % 32) (settled_current c s) ∙ current_aligned (copied_queue c) copied.range;
    }
hand_placed base member parts (Stale n q) p k = record { at = head_aligned base member parts (Stale n q) p n k k.in_hand.on; current = λ outcome is. absurd (not_settled outcome is) }

held_placed : (base : Base) (member : ℕ → Bool) (parts : StructureSets) (hand : Hand) (p : WalkPlace) → IsRing base member parts hand p → IfSome p.walk.held IsPlaced
held_placed base member parts hand p k = subst (λ (o : Option Held). IfSome o IsPlaced) (sym k.held) (hand_placed base member parts hand p k)

-- ---- no event is one of a frame's chain

no_frame : (base : Base) (words : List ℕ) (c : Content) (b : Bool) → base_of c.registers ≡ base → c.registers.periodic_enable ≡ b → IsFrameless base words c → c.control.part ≡ Periodic → (b && not (is_over c.control.frame)) ≡ false
no_frame base words c false same here frameless part = refl
no_frame base words c true same here (off is) part = absurd (let e : true ≡ false = sym here ∙ ap (λ (b : Base). b.periodic_enable) same ∙ is in cc)
no_frame base words c true same here (empty none over) part = ap not (over part)

periodic_not_frame : (b more : Bool) → more ≡ false → (if more then rows.Frame else enter_row b) ≡ rows.Frame → ⊥
periodic_not_frame b true none is = cc
periodic_not_frame b false none is = enter_off b is

part_not_frame : (base : Base) (words : List ℕ) (c : Content) (part : MicroframePart) → base_of c.registers ≡ base → IsFrameless base words c → c.control.part ≡ part → part_row c.registers c.control.frame part ≡ rows.Frame → ⊥
part_not_frame base words c Over same frameless part is = cc
part_not_frame base words c Periodic same frameless part is =
    periodic_not_frame c.registers.async_enable (c.registers.periodic_enable && not (is_over c.control.frame))
    (no_frame base words c c.registers.periodic_enable same refl frameless part) is
part_not_frame base words c Asynchronous same frameless part is = ring_off c.registers.async_enable is

run_not_frame : (base : Base) (words : List ℕ) (c : Content) (run : Bool) → base_of c.registers ≡ base → IsFrameless base words c → (if run then part_row c.registers c.control.frame c.control.part else rows.Idle) ≡ rows.Frame → ⊥
run_not_frame base words c true same frameless is = part_not_frame base words c c.control.part same frameless refl is
run_not_frame base words c false same frameless is = cc

-- ---- what it writes

row_writes : {W : Type 0} (begins : W → ℕ → Bool → W → Type 0) (transacts : W → Ask → List ℕ → Reply → W → Type 0) (base : Base) (member : ℕ → Bool) (parts : StructureSets) (hand : Hand) (c : Content) (wire : W) (new : Content) (after : W) (row : ControllerRow) → microframe_row c.registers c.control ≡ row → IsControlled base member parts hand c → HasRow begins transacts row c wire new after → WritesLent c.memory new.memory
row_writes begins transacts base member parts hand c wire new after rows.Idle is k row = goes_to c.memory new c row.0 (same_writes c.memory c.memory refl refl)
row_writes begins transacts base member parts hand c wire new after rows.Begin is k row =
    let stepped : Content = record c { registers = after_begin c.registers } in
    goes_to c.memory new (began row.allowed c) row.contents (begun_writes stepped (reaches c.memory (element_address stepped.registers)) row.allowed)
row_writes begins transacts base member parts hand c wire new after rows.Frame is k row = absurd (run_not_frame base k.list.words c c.registers.run k.ring.registers k.frameless is)
row_writes begins transacts base member parts hand c wire new after rows.Enter is k row = each_event_writes_lent_words transacts (walk_place (entered c)) wire (walk_place new) after tt row.walked
row_writes begins transacts base member parts hand c wire new after rows.Go is k row =
    each_event_writes_lent_words transacts (walk_place c) wire (walk_place new) after
    (held_placed base member parts hand (walk_place c) k.ring) row.walked
row_writes begins transacts base member parts hand c wire new after rows.End is k row = goes_to c.memory new _ row.0 (same_writes c.memory c.memory refl refl)

-- ---- an event

control_fronts : {W : Type 0} (begins : W → ℕ → Bool → W → Type 0) (transacts : W → Ask → List ℕ → Reply → W → Type 0) (base : Base) (member : ℕ → Bool) (parts : StructureSets) (hand : Hand) (c : Content) (wire after : W) (now : StructureSets) (later : Hand) → IsControlled base member parts hand c → ControlEffect begins transacts parts hand wire after now later → KeepsFronts parts now
control_fronts begins transacts base member parts hand c wire after now later k (a_microframe b) = same_fronts parts now b.parts_stay
control_fronts begins transacts base member parts hand c wire after now later k (a_step w) = effect_fronts transacts base member parts hand (walk_place c) wire after now later w.kind k.ring w.effect

pub each_event_leaves_the_rest : {W : Type 0} (begins : W → ℕ → Bool → W → Type 0) (transacts : W → Ask → List ℕ → Reply → W → Type 0) (base : Base) (member : ℕ → Bool) (parts : StructureSets) (hand : Hand) (c : Content) (wire : W) (new : Content) (after : W) → IsControlled base member parts hand c → IsOn base → AreBytesHeard transacts wire after → HasRow begins transacts (microframe_row c.registers c.control) c wire new after → LeavesRest parts c.memory new.memory
each_event_leaves_the_rest begins transacts base member parts hand c wire new after k on heard row =
    let e : Controls begins transacts base member parts hand wire after new = each_event_of_the_controller begins transacts base member parts hand c wire new after k on heard row in
    let keeps = control_fronts begins transacts base member parts hand c wire after e.now e.later k e.effect in
    record {
      lent = row_writes begins transacts base member parts hand c wire new after (microframe_row c.registers c.control) refl k row;
      heads = λ n a q i here below. fronts_stay c.memory new.memory parts e.now n a q i k.ring.tells e.controlled.ring.tells keeps here below;
    }
