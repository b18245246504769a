-- The streams of a driver's queues at an event of either walk, and what it adds to them.
use Rattle.std.proofs.Common.{◌≡◌, ℕ, ◌≤◌, Bool, true, false, if◌then◌else◌, List, Option, Some, ap, refl, sym, subst, ◌∙◌}
use Rattle.law_ring.proofs.Common.{endpoint_kept}
use Rattle.usb_base.specs.declared.packets.Ask.{Ask}
use Rattle.usb_base.specs.declared.packets.Reply.{Reply}
use Rattle.qh_qtd.specs.declared.qtd.Qtd.{Qtd}
use Rattle.qh_qtd.specs.declared.queue_head.Qh.{Qh}
use Rattle.hc_copy.specs.Planning.{transaction_of}
use Rattle.drv_table.specs.DriverContent.{DriverContent}
use Rattle.hc_core.specs.declared.controller.MicroframePart.TheVariants.{Periodic}
use Rattle.hc_core.specs.Controller.{Content, walk_place, frame_place}
use Rattle.claims_driver.specs.Owners.{views_of}
use Rattle.law_structures.specs.lent_structures.Structures.{Structure, QueueHead, Element, Structures, StructureSets}
use Rattle.law_structures.specs.lent_structures.Alters.{Alters}
use Rattle.law_structures.proofs.lemmas.lent_structures.Altering.{unaltered}
use Rattle.law_ring.specs.Hand.{Hand}
use Rattle.claims_base.specs.Controller.{Base}
use Rattle.law_ring.specs.QueueParts.{IsQueuePart}
use Rattle.law_ring.specs.Effects.{AreSent, Asks}
use Rattle.law_ring.specs.Told.{SameTold}
use Rattle.law_ring.specs.Streams.{StreamEffect}
use Rattle.law_ring.specs.Streams.StreamEffect.{same, aside, grows}
use Rattle.law_ring.proofs.Keeping.{bytes_kept, toggle_kept}
use Rattle.law_ring.proofs.Growing.{asked_grows}
use Rattle.law_ring.specs.Order.{IsOrdered, Accounts, GoesOnInOrder}
use Rattle.law_ring.proofs.Adding.{Placed, same_placed, placed_by, element_before, goes_on_in_order}
use Rattle.law_controller.specs.controlled_streams.Control.{a_microframe, a_step}
use Rattle.law_controller.specs.controlled_streams.Kept.{KeepsEach}
use Rattle.law_frames.specs.Met.{Kind}
use Rattle.law_frames.specs.FrameHand.{FrameHand}
use Rattle.law_frames.specs.Frame.{IsFrame}
use Rattle.law_frames.specs.FrameStreams.{IsIsoAsk}
use Rattle.law_frames.proofs.FrameOrder.{frame_placed, frame_before}
use Rattle.law_controller.specs.frame_control.Both.{RunsBoth, BothEffect, of_ring, of_frame}
use Rattle.law_controller.specs.frame_control.Joined.{joined, BothStreamEffect, begun, moved}
use Rattle.law_controller.proofs.lemmas.frame_control.Joining.{walks_move_streams}
use Rattle.law_descriptors.specs.Both.{owns, both, parts_now}
use Rattle.law_descriptors.specs.PartLaws.{IsDescribing}
use Rattle.law_descriptors.proofs.Standing.{both_off}
use Rattle.law_descriptors.proofs.Telling.{queue_off}
use Rattle.law_descriptors.proofs.Rings.{other_off}
use Rattle.law_descriptors.proofs.QueueQueues.{parts_same}
use Rattle.law_descriptors.specs.queue_events.Streams.{BothStreams, bytes_of_both, BothAdds}
use Rattle.law_descriptors.proofs.lemmas.queue_events.Events.{both_keeps_structures}

off_now : (descs parts now : StructureSets) (n : ℕ) → owns descs n ≡ false → parts_now descs parts now n ≡ now n
off_now descs parts now n off = ap (λ (b : Bool). if b then parts n else now n) off

on_now : (descs parts now : StructureSets) (n : ℕ) → owns descs n ≡ true → parts_now descs parts now n ≡ parts n
on_now descs parts now n on = ap (λ (b : Bool). if b then parts n else now n) on

-- ---- what is told of all structures is told of the queues'

module _ (d : DriverContent) (descs parts : StructureSets) (k : IsDescribing d descs parts) where
  told_of_queues : (hand later : Hand) (now : StructureSets) → SameTold hand (both descs parts) later now
      → SameTold hand parts later (parts_now descs parts now)
  told_of_queues hand later now s = record {
    bytes = λ n e xs told.
        let off = queue_off d descs parts k n n (QueueHead told.queue) told.head in
        bytes_kept later later now (parts_now descs parts now) n e xs (off_now descs parts now n off) (λ q t bs. refl)
        (s.bytes n e xs (bytes_kept hand hand parts (both descs parts) n e xs (both_off descs parts n off) (λ q t bs. refl) told));
    toggle = λ n b has.
        let off = queue_off d descs parts k n n (QueueHead has.queue) has.head in
        toggle_kept later later now (parts_now descs parts now) n b (off_now descs parts now n off) (λ q. refl)
        (s.toggle n b (toggle_kept hand hand parts (both descs parts) n b (both_off descs parts n off) (λ q. refl) has));
    endpoint = λ n x has.
        let off = queue_off d descs parts k n n (QueueHead has.queue) has.head in
        endpoint_kept now (parts_now descs parts now) n x (off_now descs parts now n off)
        (s.endpoint n x (endpoint_kept parts (both descs parts) n x (both_off descs parts n off) has));
  }

  module _ {W : Type 0} (begins : W → ℕ → Bool → W → Type 0) (transacts : W → Ask → List ℕ → Reply → W → Type 0) (hand later : Hand)
      (wire after : W) (now : StructureSets) where
    -- the queue head that is asked is of the queues
    asks_of_queues : Asks transacts (both descs parts) hand wire after later → Asks transacts parts hand wire after later
    asks_of_queues m =
        let off : owns descs m.copy.at ≡ false = other_off (views_of d) descs parts m.copy.at
        (QueueHead m.copy.queue) k.described refl m.here in
        let there : both descs parts m.copy.at ≡ parts m.copy.at = both_off descs parts m.copy.at off in
        record {
          copy = m.copy;
          in_hand = m.in_hand;
          here = ap (λ (part : Structures). part m.copy.at) (sym there) ∙ m.here;
          part_is = subst (IsQueuePart m.copy.at) there m.part_is;
          works = m.works;
          kind = m.kind;
          last = m.last;
          asked_as = m.asked_as;
          out = m.out;
          sent = subst (λ (part : Structures). AreSent part m.copy.queue (transaction_of m.kind m.copy.queue).bytes m.out) there m.sent;
          reply = m.reply;
          made = m.made;
          held = m.held;
          at_same = m.at_same;
          queue_same = m.queue_same;
          later_is = m.later_is;
        }

    streams_of_queues : StreamEffect (IsIsoAsk (both descs parts)) transacts (both descs parts) hand wire after now later
        → StreamEffect (IsIsoAsk (both descs parts)) transacts parts hand wire after (parts_now descs parts now) later
    streams_of_queues (same told quiet) = same (told_of_queues hand later now told) quiet
    streams_of_queues (aside told ask out reply beside made) = aside (told_of_queues hand later now told) ask out reply beside made
    streams_of_queues (grows m all g) =
        let asked : Asks transacts parts hand wire after later = asks_of_queues m in
        grows asked (parts_same (views_of d) descs parts k.described now all) (asked_grows transacts parts hand wire after later asked)

    pub effect_of_queues : BothStreamEffect begins (IsIsoAsk (both descs parts)) transacts (both descs parts) hand wire after now later
        → BothStreamEffect begins (IsIsoAsk (both descs parts)) transacts parts hand wire after (parts_now descs parts now) later
    effect_of_queues (begun index allowed asked told) = begun index allowed asked (told_of_queues hand later now told)
    effect_of_queues (moved z) = moved (streams_of_queues z)

pub both_streams : {W : Type 0} (begins : W → ℕ → Bool → W → Type 0) (transacts : W → Ask → List ℕ → Reply → W → Type 0)
    → BothStreams begins transacts
both_streams begins transacts base member met d descs parts hand frame c wire after now later frame_later k runs effect =
    effect_of_queues d descs parts k begins transacts (joined hand frame) (joined later frame_later) wire after now
    (walks_move_streams begins transacts base member met (both descs parts) hand frame c wire after now later frame_later runs effect)

-- ---- what is added

module _ {W : Type 0} (begins : W → ℕ → Bool → W → Type 0) (transacts : W → Ask → List ℕ → Reply → W → Type 0) (base : Base)
    (member : ℕ → Bool) (met : ℕ → Option Kind) (descs parts : StructureSets) (hand : Hand) (frame : FrameHand) (c : Content)
    (wire after : W) (now : StructureSets) (later : Hand) (frame_later : FrameHand)
    (runs : RunsBoth base member met (both descs parts) hand frame c)
    (effect : BothEffect begins transacts (both descs parts) c.control hand frame wire after now later frame_later) (order : ℕ → ℕ)
    (place n : ℕ) (sound : IsQueuePart n (parts n)) where
  alters : Alters (parts n) (parts_now descs parts now n)
  alters =
      let kept : KeepsEach parts (parts_now descs parts now) = both_keeps_structures begins transacts base member met descs parts hand
      frame c wire after now later frame_later runs effect in
      (kept n).alters

  abbrev all : StructureSets
  all = both descs parts

  frame_there : c.control.part ≡ Periodic → IsFrame met all frame (frame_place c)
  frame_there part = record { tells = runs.ring.tells; members = runs.members; walk = runs.walk part }

  -- of all structures, where this queue head is of the queues
  module _ (head : both descs parts n n ≡ Some (QueueHead sound.queue)) where
    all_placed : BothEffect begins transacts all c.control hand frame wire after now later frame_later → IsOrdered order place n (all n)
        → Placed order place n now
    all_placed (of_ring (a_microframe b) free) o = same_placed order place n all now o (ap (λ (ps : StructureSets). ps n) b.parts_stay)
    all_placed (of_ring (a_step w) free) o = placed_by transacts member all hand
        (walk_place c).walk.reply wire after now later order place n runs.ring.in_hand w.kind w.effect o
    all_placed (of_frame w) o = frame_placed transacts met all frame (frame_place c) wire after now frame_later
        (frame_there w.part) order place n sound.queue head w.kind w.effect o

    all_before : BothEffect begins transacts all c.control hand frame wire after now later frame_later → IsOrdered order place n (all n)
        → (a : ℕ) (u : Qtd) → now n a ≡ Some (Element u) → place ≤ order a → all n a ≡ Some (Element u)
    all_before (of_ring (a_microframe b) free) o a u here from = sym (ap (λ (ps : StructureSets). ps n a) b.parts_stay) ∙ here
    all_before (of_ring (a_step w) free) o a u here from = element_before transacts member all hand
        (walk_place c).walk.reply wire after now later order place n runs.ring.in_hand w.kind w.effect o a u here from
    all_before (of_frame w) o a u here from = frame_before transacts met all frame (frame_place c) wire after now frame_later
        (frame_there w.part) order place n sound.queue head w.kind w.effect o a u here from

  head_of : owns descs n ≡ false → both descs parts n n ≡ Some (QueueHead sound.queue)
  head_of off = ap (λ (part : Structures). part n) (both_off descs parts n off) ∙ sound.here

  queue_placed : (b : Bool) → owns descs n ≡ b → IsOrdered order place n (parts n) → Placed order place n (parts_now descs parts now)
  queue_placed true on o = same_placed order place n parts (parts_now descs parts now) o (on_now descs parts now n on)
  queue_placed false off o =
      let p : Placed order place n now = all_placed (head_of off) effect
      (subst (IsOrdered order place n) (sym (both_off descs parts n off)) o) in
      record {
        at = p.at;
        goes_on = p.goes_on;
        queue = λ q here. p.queue q
            (ap (λ (part : Structures). part n) (sym (off_now descs parts now n off)) ∙ here);
      }

  queue_before : (b : Bool) → owns descs n ≡ b → IsOrdered order place n (parts n) → (a : ℕ) (u : Qtd)
      → parts_now descs parts now n a ≡ Some (Element u) → place ≤ order a → parts n a ≡ Some (Element u)
  queue_before true on o a u here from = ap (λ (part : Structures). part a) (sym (on_now descs parts now n on)) ∙ here
  queue_before false off o a u here from =
      ap (λ (part : Structures). part a) (sym (both_off descs parts n off))
      ∙ all_before (head_of off) effect (subst (IsOrdered order place n) (sym (both_off descs parts n off)) o) a u
      (ap (λ (part : Structures). part a) (sym (off_now descs parts now n off)) ∙ here) from

  abbrev Beside : Ask → Type 0
  Beside = IsIsoAsk (both descs parts)

  goes_on : (out xs : List ℕ) (z : BothStreamEffect begins (IsIsoAsk (both descs parts)) transacts parts (joined hand frame) wire after
      (parts_now descs parts now) (joined later frame_later))
      → Accounts order place out (joined hand frame) parts n xs
      → GoesOnInOrder order out (joined later frame_later) (parts_now descs parts now) n xs (bytes_of_both n z)
  goes_on out xs (begun index allowed asked told) acc =
      goes_on_in_order Beside transacts parts (joined hand frame) after after (parts_now descs parts now)
      (joined later frame_later) order place out n alters (queue_placed (owns descs n) refl) (queue_before (owns descs n) refl) xs
      (same told refl) acc
  goes_on out xs (moved z) acc =
      goes_on_in_order Beside transacts parts (joined hand frame) wire after (parts_now descs parts now)
      (joined later frame_later) order place out n alters (queue_placed (owns descs n) refl) (queue_before (owns descs n) refl) xs z acc

pub both_adds : {W : Type 0} (begins : W → ℕ → Bool → W → Type 0) (transacts : W → Ask → List ℕ → Reply → W → Type 0)
    → BothAdds begins transacts
both_adds begins transacts base member met descs parts hand frame c wire after now later frame_later runs effect z order place out n xs
    sound acc =
    goes_on begins transacts base member met descs parts hand frame c wire after now later frame_later runs effect order place n sound out
    xs z acc
