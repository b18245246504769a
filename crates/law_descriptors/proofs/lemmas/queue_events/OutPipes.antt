-- Both sides of the pipe of an OUT endpoint agree after an event of either walk.
use Rattle.std.proofs.Common.{◌≡◌, ℕ, Bool, true, false, if◌then◌else◌, List, ◌++◌, Option, ap, refl, sym, subst, ◌∙◌}
use Rattle.usb_base.specs.declared.packets.Ask.{Ask}
use Rattle.usb_base.specs.declared.packets.Reply.{Reply}
use Rattle.law_structures.specs.lent_structures.Structures.{QueueHead, Structures, StructureSets}
use Rattle.law_structures.specs.lent_structures.Alters.{Alters}
use Rattle.law_ring.specs.Hand.{Hand}
use Rattle.law_ring.specs.QueueParts.{IsQueuePart}
use Rattle.law_ring.specs.Told.{HasToggle, Endpoint}
use Rattle.law_ring.specs.Streams.StreamEffect.{same}
use Rattle.law_ring.specs.OutBus.{Taker, KeepsTakers}
use Rattle.law_ring.specs.OutPipes.{IsOut, OutAgrees, IsOutPipe}
use Rattle.law_controller.specs.controlled_streams.Kept.{KeepsEach}
use Rattle.law_frames.specs.FrameStreams.{IsIsoAsk}
use Rattle.law_controller.specs.frame_control.Joined.{joined, BothStreamEffect, begun, moved}
use Rattle.law_descriptors.specs.Both.{owns, both, parts_now}
use Rattle.law_descriptors.proofs.Standing.{both_off}
use Rattle.law_descriptors.proofs.Telling.{queue_off}
use Rattle.law_descriptors.specs.queue_events.Streams.{bytes_of_both}
use Rattle.law_descriptors.specs.queue_events.OutPipes.{OutPipeGoesOn, BothKeepOutPipes}
use Rattle.law_descriptors.proofs.lemmas.queue_events.Events.{both_keeps_structures}
use Rattle.law_descriptors.proofs.lemmas.queue_events.Carrying.{Carries, walks_carry}
use Rattle.law_descriptors.proofs.lemmas.queue_events.OutGoing.{goes_on}

-- a microframe begins, and no taker goes on
begun_pipe : {W : Type 0} (begins : W → ℕ → Bool → W → Type 0) (stream : ℕ → ℕ → Bool) (taker : W → ℕ → ℕ → Option Taker)
    (parts : StructureSets) (hand : Hand) (wire after : W) (index : ℕ) (allowed : Bool) (n : ℕ) (x : Endpoint) (known : List ℕ)
    → KeepsTakers begins stream taker → begins wire index allowed after → stream x.addr x.ep ≡ true
    → IsOutPipe (taker wire x.addr x.ep) known parts hand n x → IsOutPipe (taker after x.addr x.ep) known parts hand n x
begun_pipe begins stream taker parts hand wire after index allowed n x known keeps asked streamed k = record {
  named = k.named;
  outs = k.outs;
  toggle = k.toggle;
  expects = k.expects;
  taker = k.taker;
  is = keeps wire index allowed after x.addr x.ep k.taker asked streamed k.is;
  agrees = k.agrees;
}

-- of the structures of a queue head alone
same_toggle : (hand : Hand) (parts others : StructureSets) (n : ℕ) (h : Bool) → others n ≡ parts n → HasToggle hand parts n h
    → HasToggle hand others n h
same_toggle hand parts others n h is has = record
    { queue = has.queue; head = ap (λ (part : Structures). part n) is ∙ has.head; own = has.own; is = has.is }

same_carries : (parts now : StructureSets) (hand later : Hand) (n : ℕ) (h : Bool) (known : List ℕ) (s : Taker)
    (parts_also now_also : StructureSets) → parts_also n ≡ parts n → now_also n ≡ now n
    → Carries parts_also now_also hand later n h known s → Carries parts now hand later n h known s
same_carries parts now hand later n h known s parts_also now_also is now_is carries q r here there k =
    subst (λ (part : Structures). OutAgrees part later n r h known s) now_is
    (carries q r (ap (λ (part : Structures). part n) is ∙ here) (ap (λ (part : Structures). part n) now_is ∙ there)
    (subst (λ (part : Structures). OutAgrees part hand n q h known s) (sym is) k))

pub both_keep_out_pipes : {W : Type 0} (begins : W → ℕ → Bool → W → Type 0) (transacts : W → Ask → List ℕ → Reply → W → Type 0)
    → BothKeepOutPipes begins transacts
both_keep_out_pipes {W} begins transacts stream taker near n x known base member met d descs parts hand frame c wire after now later
    frame_later bus keeps describing runs effect asked misses z part_is part_now k = by z
  where
    alters : (m : ℕ) → Alters (parts m) (parts_now descs parts now m)
    alters m =
        let kept : KeepsEach parts (parts_now descs parts now) =
        both_keeps_structures begins transacts base member met descs parts hand frame c wire after now later frame_later runs effect in
        (kept m).alters

    off : owns descs n ≡ false
    off = queue_off d descs parts describing n n (QueueHead part_is.queue) part_is.here

    there : both descs parts n ≡ parts n
    there = both_off descs parts n off

    now_is : now n ≡ parts_now descs parts now n
    now_is = sym (ap (λ (b : Bool). if b then parts n else now n) off)

    carries : (h : Bool) (s : Taker) → HasToggle (joined hand frame) parts n h
        → HasToggle (joined later frame_later) (parts_now descs parts now) n h
        → Carries parts (parts_now descs parts now) (joined hand frame) (joined later frame_later) n h known s
    carries h s had has =
        same_carries parts (parts_now descs parts now) (joined hand frame) (joined later frame_later) n h known s (both descs parts) now
        there now_is
        (walks_carry begins transacts base member met (both descs parts) hand frame c wire after now later frame_later runs n h known s
        (subst (IsQueuePart n) (sym there) part_is) (subst (IsQueuePart n) (sym now_is) part_now) (subst IsOut (sym there) k.pipe.outs)
        (subst (λ (part : Structures). Alters (both descs parts n) part) (sym now_is)
        (subst (λ (part : Structures). Alters part (parts_now descs parts now n)) (sym there) (alters n))) effect
        (same_toggle (joined hand frame) parts (both descs parts) n h there had)
        (same_toggle (joined later frame_later) (parts_now descs parts now) now n h now_is has))

    by : (z : BothStreamEffect begins (IsIsoAsk (both descs parts)) transacts parts (joined hand frame) wire after
        (parts_now descs parts now) (joined later frame_later))
        → OutPipeGoesOn stream (taker after x.addr x.ep) near (known ++ bytes_of_both n z) (parts_now descs parts now)
        (joined later frame_later) n x
    by (begun index allowed begins_so told) =
        let pipe : IsOutPipe (taker after x.addr x.ep) known parts (joined hand frame) n x =
        begun_pipe begins stream taker parts (joined hand frame) wire after index allowed n x known keeps begins_so k.only.streamed
        k.pipe in
        goes_on transacts stream taker bus near parts (joined hand frame) after after (parts_now descs parts now)
        (joined later frame_later) n x known part_is k.only pipe alters {Beside = IsIsoAsk (both descs parts)} misses
        (λ m. asked m.copy m.in_hand m.here m.works) (carries pipe.toggle pipe.taker) (same told refl)
    by (moved z) =
        goes_on transacts stream taker bus near parts (joined hand frame) wire after (parts_now descs parts now)
        (joined later frame_later) n x known part_is k.only k.pipe alters misses
        (λ m. asked m.copy m.in_hand m.here m.works)
        (carries k.pipe.toggle k.pipe.taker) z
