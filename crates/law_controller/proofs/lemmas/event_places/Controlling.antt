-- A word beside the places of what the controller has in hand stays, whatever its event is.
use Rattle.std.proofs.Common.{◌≡◌, ℕ, ◌%◌, Bool, true, false, List, Option, None, Some, refl, sym, subst, arith}
use Rattle.std.specs.Prelude.{IfSome}
use Rattle.usb_base.specs.declared.packets.Ask.{Ask}
use Rattle.usb_base.specs.declared.packets.Reply.{Reply}
use Rattle.word_mem.specs.Memory.{Mem, reaches}
use Rattle.op_registers.specs.Events.{after_begin}
use Rattle.hc_copy.specs.declared.held.Held.{Held}
use Rattle.periodic_walk.specs.declared.state.Hand.{Hand}
use Rattle.periodic_walk.specs.declared.state.Hand.TheVariants as hands
use Rattle.hc_core.specs.declared.controller.ControllerRow.{ControllerRow}
use Rattle.hc_core.specs.declared.controller.ControllerRow.TheVariants as rows
use Rattle.hc_core.specs.Controller.{Content, microframe_row, element_address, begun_at, began, entered, frame_place, walk_place, HasRow}
use Rattle.law_controller.specs.aligned_copies.Aligned.{IsCopyAligned, IsHandAligned, AreAligned}
use Rattle.law_controller.specs.event_places.Places.{heard, IsBesideQueue, IsBesideHand, IsBeside, IsLinkBesideQueue, IsLinkBesideHand, IsLinkBeside}
use Rattle.law_controller.proofs.lemmas.event_places.Writing.{Stays}
use Rattle.law_controller.proofs.lemmas.event_places.Ringing.{ring_stays}
use Rattle.law_controller.proofs.lemmas.event_places.Framing.{frame_stays}

goes_to : (at : ℕ) (m : Mem) (new expected : Content) → new ≡ expected → Stays at m expected.memory → Stays at m new.memory
goes_to at m new expected is stays = subst (λ (x : Content). Stays at m x.memory) (sym is) stays

begun_stays : (at : ℕ) (c : Content) (b allowed : Bool) → Stays at c.memory (begun_at b allowed c).memory
begun_stays at c true allowed = refl
begun_stays at c false allowed = refl

row_stays : {W : Type 0} (begins : W → ℕ → Bool → W → Type 0) (transacts : W → Ask → List ℕ → Reply → W → Type 0) (at : ℕ) (c : Content) (wire : W) (new : Content) (after : W) (row : ControllerRow) → IsBeside c.control at
    → HasRow begins transacts row c wire new after → Stays at c.memory new.memory
row_stays begins transacts at c wire new after rows.Idle is row = goes_to at c.memory new c row.0 refl
row_stays begins transacts at c wire new after rows.Begin is row =
    let stepped : Content = record c { registers = after_begin c.registers } in
    goes_to at c.memory new (began row.allowed c) row.contents (begun_stays at stepped (reaches c.memory (element_address stepped.registers)) row.allowed)
row_stays begins transacts at c wire new after rows.Frame is row = frame_stays transacts at (frame_place c) wire (frame_place new) after is.frame row.walked
row_stays begins transacts at c wire new after rows.Enter is row = ring_stays transacts at (walk_place (entered c)) wire (walk_place new) after tt row.walked
row_stays begins transacts at c wire new after rows.Go is row = ring_stays transacts at (walk_place c) wire (walk_place new) after is.ring row.walked
row_stays begins transacts at c wire new after rows.End is row = goes_to at c.memory new _ row.0 refl

pub each_event_writes_its_places : {W : Type 0} (begins : W → ℕ → Bool → W → Type 0) (transacts : W → Ask → List ℕ → Reply → W → Type 0) (c : Content) (wire : W) (new : Content) (after : W) (at : ℕ) → IsBeside c.control at
    → HasRow begins transacts (microframe_row c.registers c.control) c wire new after → Stays at c.memory new.memory
each_event_writes_its_places begins transacts c wire new after at is row = row_stays begins transacts at c wire new after (microframe_row c.registers c.control) is row

-- ---- the first word of a block

queue_link : (h : Held) (n a : ℕ) → a % 32 ≡ 0 → IsCopyAligned h → IsLinkBesideQueue h n a → IsBesideQueue h n a
queue_link h n a low is beside =
    let at = is.at in
    let current = is.queue.current in
    record {
      overlay = λ i below same. beside.second (omega (arith, low, at, below, same));
      token = λ same. omega (arith, low, current, same);
      bytes = beside.bytes;
    }

hand_link : (got : List ℕ) (n a : ℕ) (h : Hand) → a % 32 ≡ 0 → IsHandAligned h → IsLinkBesideHand got n a h → IsBesideHand got n a h
hand_link got n a (hands.Queue h) low is beside = queue_link h.copy n a low is beside
hand_link got n a (hands.Itd h) low is beside = record {
  slot = λ same. let at = is.at in let few = is.number in beside.second (omega (arith, low, at, few, same));
  bytes = beside.bytes;
}
hand_link got n a (hands.Sitd h) low is beside = record { state = λ i below same. omega (arith, low, is.0, below, same); bytes = beside }

ring_link : (o : Option Held) (n a : ℕ) → a % 32 ≡ 0 → IfSome o IsCopyAligned → IfSome o (λ h. IsLinkBesideQueue h n a) → IfSome o (λ h. IsBesideQueue h n a)
ring_link None n a low is beside = tt
ring_link (Some h) n a low is beside = queue_link h n a low is beside

frame_link : (o : Option Hand) (got : List ℕ) (n a : ℕ) → a % 32 ≡ 0 → IfSome o IsHandAligned → IfSome o (IsLinkBesideHand got n a) → IfSome o (IsBesideHand got n a)
frame_link None got n a low is beside = tt
frame_link (Some h) got n a low is beside = hand_link got n a h low is beside

pub a_link_word_stays : {W : Type 0} (begins : W → ℕ → Bool → W → Type 0) (transacts : W → Ask → List ℕ → Reply → W → Type 0) (c : Content) (wire : W) (new : Content) (after : W) (a : ℕ) → AreAligned c → a % 32 ≡ 0 → IsLinkBeside c.control a
    → HasRow begins transacts (microframe_row c.registers c.control) c wire new after → Stays a c.memory new.memory
a_link_word_stays begins transacts c wire new after a is low beside row =
    each_event_writes_its_places begins transacts c wire new after a
    (record {
      frame = frame_link c.control.frame.hand c.control.frame.got (heard c.control.frame.reply) a low is.frame.hand beside.frame;
      ring = ring_link c.control.walk.held (heard c.control.walk.reply) a low is.ring.held beside.ring;
    }) row
