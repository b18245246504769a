-- Both sides of each pipe agree after an event of either walk.
use Rattle.std.proofs.Common.{ℕ, Bool, List, Option, refl}
use Rattle.usb_base.specs.declared.packets.Ask.{Ask}
use Rattle.usb_base.specs.declared.packets.Reply.{Reply}
use Rattle.law_structures.specs.lent_structures.Structures.{StructureSets}
use Rattle.law_structures.specs.lent_structures.Alters.{Alters}
use Rattle.law_ring.specs.Hand.{Hand}
use Rattle.law_ring.specs.Told.{Endpoint}
use Rattle.law_ring.specs.Streams.StreamEffect.{same}
use Rattle.law_ring.specs.Bus.{Sender, KeepsSenders}
use Rattle.law_ring.specs.Pipes.{AreEndpoints, ArePiped}
use Rattle.law_ring.proofs.PipeAgreeing.{PipesGoOn, rest_by}
use Rattle.law_controller.specs.controlled_streams.Kept.{KeepsEach}
use Rattle.law_frames.specs.FrameStreams.{IsIsoAsk}
use Rattle.law_controller.specs.frame_control.Joined.{joined, BothStreamEffect, begun, moved}
use Rattle.law_descriptors.specs.Both.{both, parts_now}
use Rattle.law_descriptors.specs.queue_events.Pipes.{BothPipes, BothKeepPipes}
use Rattle.law_descriptors.proofs.lemmas.queue_events.Events.{both_keeps_structures}

-- a microframe begins, and no sender goes on
begun_pipes : {W : Type 0} (begins : W → ℕ → Bool → W → Type 0) (stream : ℕ → ℕ → Bool) (packets : ℕ → ℕ → List (List ℕ))
    (sender : W → ℕ → ℕ → Option Sender) (near streams : ℕ → Bool) (endpoint : ℕ → Endpoint) (acc : ℕ → List (List ℕ))
    (parts : StructureSets) (hand : Hand) (wire after : W) (index : ℕ) (allowed : Bool)
    → AreEndpoints stream near streams endpoint → KeepsSenders begins stream sender → begins wire index allowed after
    → ArePiped stream packets sender near streams endpoint acc parts hand wire
    → ArePiped stream packets sender near streams endpoint acc parts hand after
begun_pipes begins stream packets sender near streams endpoint acc parts hand wire after index allowed ends keeps asked piped = record {
  pipes = λ n on.
      let k = piped.pipes n on in
      record {
        named = k.named;
        ins = k.ins;
        toggle = k.toggle;
        expects = k.expects;
        sender = k.sender;
        is = keeps wire index allowed after (endpoint n).addr (endpoint n).ep k.sender asked (ends.on n on) k.is;
        half = k.half;
      };
  others = piped.others;
}

pub both_keep_pipes : {W : Type 0} (begins : W → ℕ → Bool → W → Type 0) (transacts : W → Ask → List ℕ → Reply → W → Type 0)
    → BothKeepPipes begins transacts
both_keep_pipes {W} begins transacts stream packets sender near streams endpoint acc base member met descs parts hand frame c wire after
    now later frame_later ends bus keeps runs effect asked misses z piped = by z piped
  where
    alters : (n : ℕ) → Alters (parts n) (parts_now descs parts now n)
    alters n =
        let kept : KeepsEach parts (parts_now descs parts now) =
        both_keeps_structures begins transacts base member met descs parts hand frame c wire after now later frame_later runs effect in
        (kept n).alters

    by : (z : BothStreamEffect begins (IsIsoAsk (both descs parts)) transacts parts (joined hand frame) wire after
        (parts_now descs parts now) (joined later frame_later))
        → ArePiped stream packets sender near streams endpoint acc parts (joined hand frame) wire
        → BothPipes stream packets sender near streams endpoint acc z
    by (begun index allowed begins_so told) piped =
        let r = rest_by {Beside = IsIsoAsk (both descs parts)} transacts stream packets sender near streams endpoint ends bus acc parts
        (joined hand frame) after
        (begun_pipes begins stream packets sender near streams endpoint acc parts
        (joined hand frame) wire after index allowed ends keeps begins_so piped)
        after (parts_now descs parts now) (joined later frame_later) alters (λ m. asked m.copy m.in_hand m.here m.works) misses
        (same told refl) in
        record { at = r.at; more = r.more; few = r.few; all = r.all; told = r.told }
    by (moved z) piped =
        let r : PipesGoOn stream packets sender near streams endpoint acc z =
        rest_by transacts stream packets sender near streams endpoint ends bus acc parts (joined hand frame) wire piped after
        (parts_now descs parts now) (joined later frame_later) alters (λ m. asked m.copy m.in_hand m.here m.works) misses z in
        record { at = r.at; more = r.more; few = r.few; all = r.all; told = r.told }
