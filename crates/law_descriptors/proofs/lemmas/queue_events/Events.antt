-- The laws.
use Rattle.std.proofs.Common.{◌≡◌, ℕ, ◌*◌, Bool, true, false, List, Option, Some, None, ap, refl, sym, subst, ◌∙◌, arith}
use Rattle.law_common.proofs.Lists.{all_more}
use Rattle.usb_base.specs.declared.packets.Ask.{Ask}
use Rattle.usb_base.specs.declared.packets.Reply.{Reply}
use Rattle.qh_qtd.specs.declared.queue_head.Qh.{Qh}
use Rattle.hc_core.specs.Controller.{Content}
use Rattle.law_structures.specs.lent_structures.Structures.{QueueHead, Isochronous, SplitIsochronous, Structures, StructureSets}
use Rattle.law_ring.specs.Hand.{Hand}
use Rattle.claims_base.specs.Controller.{Base}
use Rattle.law_ring.specs.Front.{LinksRise, HasFront, FrontGoesOn}
use Rattle.law_ring.specs.Halted.{HaltStops}
use Rattle.law_controller.specs.controlled_streams.Kept.{Keeps, KeepsEach}
use Rattle.law_controller.proofs.lemmas.controlled_streams.Keeping.{kept_part}
use Rattle.law_frames.specs.Met.{Kind, AQueue, AnItd, ASitd, IsQueuePart, IsMetItd, IsMetSitd}
use Rattle.law_frames.specs.FrameHand.{FrameHand}
use Rattle.law_frames.proofs.Queues.{a_members_part_is_linked}
use Rattle.law_controller.specs.frame_control.Both.{RunsBoth, BothEffect}
use Rattle.law_descriptors.specs.Both.{both, parts_now}
use Rattle.law_frames.proofs.lemmas.framed_fronts.Fronts.{links_rise}
use Rattle.law_queues.specs.mended_heads.Owed.{StalledQueue}
use Rattle.law_queues.specs.mended_heads.Waiting.{StandsHalted, AreAllPublished, Waits}
use Rattle.law_queues.proofs.lemmas.fed_events.Beside.{fed_stays_beside, last_stays_beside}
use Rattle.law_queues.proofs.lemmas.standing_fronts.Walking.{stands_on}
use Rattle.law_queues.proofs.lemmas.standing_fronts.Reaching.{reaches_on}
use Rattle.law_descriptors.specs.queue_events.Events.{BothKeepsStructures, BothKeepsFed, BothKeepsLast, BothKeepsLinks, BothKeepsFronts, BothKeepsReaches, BothKeepsHalts, BothLeavesHalted, BothKeepsMends, BothKeepsParts}
use Rattle.law_descriptors.proofs.lemmas.queue_events.Beside.{beside}
use Rattle.law_descriptors.proofs.lemmas.queue_events.Walks.{all_kept, front_on, halts_on, halted_on, unmet_left}

module _ {W : Type 0} (begins : W → ℕ → Bool → W → Type 0) (transacts : W → Ask → List ℕ → Reply → W → Type 0) (base : Base) (member : ℕ → Bool) (met : ℕ → Option Kind) (descs parts : StructureSets) (hand : Hand) (frame : FrameHand) (c : Content) (wire after : W) (now : StructureSets) (later : Hand) (frame_later : FrameHand) (k : RunsBoth base member met (both descs parts) hand frame c)
    (effect : BothEffect begins transacts (both descs parts) c.control hand frame wire after now later frame_later) where
  queues_kept : KeepsEach parts (parts_now descs parts now)
  queues_kept n =
      beside descs parts now Keeps n (kept_part (parts n)) (λ same. all_kept begins transacts base member met (both descs parts) hand frame c wire after now later frame_later k effect n)

  -- the front of one queue head, by the parts alone
  Goes : (ℕ → ℕ) → ℕ → List ℕ → ℕ → Structures → Structures → Type 0
  Goes order front out n part new = HasFront order front out n part → FrontGoesOn order front out n (λ i. part) (λ i. new)

  queue_on : (order : ℕ → ℕ) (front : ℕ) (out : List ℕ) (n : ℕ) → IsQueuePart n (parts n) → LinksRise order (parts n) → HasFront order front out n (parts n)
      → FrontGoesOn order front out n (λ i. parts n) (λ i. parts_now descs parts now n)
  unfolding Goes
  queue_on order front out n sound rise =
      beside descs parts now (Goes order front out n) n (λ has. record { front_now = front; goes_on = omega arith; has = has; still = λ a old. old; passed = λ a old. old; tail = λ c within old. old })
      (λ same has.
      let g : FrontGoesOn order front out n (both descs parts) now =
      front_on begins transacts base member met (both descs parts) hand frame c wire after now later frame_later k n sound.queue (ap (λ (part : Structures). part n) same ∙ sound.here) order front out effect
      (subst (LinksRise order) (sym same) rise) has in
      record { front_now = g.front_now; goes_on = g.goes_on; has = g.has; still = g.still; passed = g.passed; tail = g.tail })

  Stops : (ℕ → ℕ) → ℕ → List ℕ → ℕ → Structures → Structures → Type 0
  Stops order front out n part new = HasFront order front out n part → HaltStops order out n part → HaltStops order out n new

  queue_stops : (order : ℕ → ℕ) (front : ℕ) (out : List ℕ) (n : ℕ) → IsQueuePart n (parts n) → HasFront order front out n (parts n) → HaltStops order out n (parts n) → HaltStops order out n (parts_now descs parts now n)
  unfolding Stops
  queue_stops order front out n sound =
      beside descs parts now (Stops order front out n) n (λ has stops. stops)
      (λ same has stops.
      halts_on begins transacts base member met (both descs parts) hand frame c wire after now later frame_later k n sound.queue (ap (λ (part : Structures). part n) same ∙ sound.here) order front out effect has stops)

  -- a halted queue head has what it had
  Left : ℕ → Structures → Structures → Type 0
  Left n part new = (q : Qh) → part n ≡ Some (QueueHead q) → q.token.halted ≡ true → new ≡ part

  queue_left : (n : ℕ) (q : Qh) → parts n n ≡ Some (QueueHead q) → q.token.halted ≡ true → parts_now descs parts now n ≡ parts n
  unfolding Left
  queue_left n =
      beside descs parts now (Left n) n (λ q here halted. refl)
      (λ same q here halted. halted_on begins transacts base member met (both descs parts) hand frame c wire after now later frame_later k n q here halted effect)

  waits_on : (out : ℕ → List ℕ) (s : StalledQueue) → Waits s parts out → Waits s (parts_now descs parts now) out
  waits_on out s w =
      let n = 32 * s.queue in
      let same : parts_now descs parts now n ≡ parts n = queue_left n w.stands.head w.stands.here w.stands.halted in
      record { stands = subst (StandsHalted s) (sym same) w.stands; published = subst (AreAllPublished (out n)) (sym same) w.published }

  module _ (new : Content) (then : RunsBoth base member met now later frame_later new) where
    by_met : (n : ℕ) → IsQueuePart n (both descs parts n) → member n ≡ false → (o : Option Kind) → met n ≡ o → IsQueuePart n (now n)
    by_met n sound off None none =
        subst (IsQueuePart n) (sym (unmet_left begins transacts base member met (both descs parts) hand frame c wire after now later frame_later k n effect off none)) sound
    by_met n sound off (Some AQueue) on = (then.members n AQueue on).part_is
    by_met n sound off (Some AnItd) on =
        let m : IsMetItd met n (both descs parts n) = k.members n AnItd on in
        absurd (let e : Some (QueueHead sound.queue) ≡ Some (Isochronous m.itd) = sym sound.here ∙ m.here in cc)
    by_met n sound off (Some ASitd) on =
        let m : IsMetSitd met n (both descs parts n) = k.members n ASitd on in
        absurd (let e : Some (QueueHead sound.queue) ≡ Some (SplitIsochronous m.sitd) = sym sound.here ∙ m.here in cc)

    sound_on : (n : ℕ) → IsQueuePart n (both descs parts n) → (b : Bool) → member n ≡ b → IsQueuePart n (now n)
    sound_on n sound true on = (a_members_part_is_linked member n (now n) (then.ring.members n on)).part_is
    sound_on n sound false off = by_met n sound off (met n) refl

    -- if it was sound, it is
    Sound : ℕ → Structures → Structures → Type 0
    Sound n part new = IsQueuePart n part → IsQueuePart n new

    queue_sound : (n : ℕ) → IsQueuePart n (parts n) → IsQueuePart n (parts_now descs parts now n)
    unfolding Sound
    queue_sound n = beside descs parts now (Sound n) n (λ sound. sound) (λ same sound. sound_on n sound (member n) refl)

pub both_keeps_structures : {W : Type 0} (begins : W → ℕ → Bool → W → Type 0) (transacts : W → Ask → List ℕ → Reply → W → Type 0) → BothKeepsStructures begins transacts
both_keeps_structures begins transacts base member met descs parts hand frame c wire after now later frame_later k effect =
    queues_kept begins transacts base member met descs parts hand frame c wire after now later frame_later k effect

pub both_keeps_fed : {W : Type 0} (begins : W → ℕ → Bool → W → Type 0) (transacts : W → Ask → List ℕ → Reply → W → Type 0) → BothKeepsFed begins transacts
both_keeps_fed begins transacts base member met descs parts hand frame c wire after now later frame_later k effect d fed =
    fed_stays_beside d parts (parts_now descs parts now) (queues_kept begins transacts base member met descs parts hand frame c wire after now later frame_later k effect) fed

pub both_keeps_last : {W : Type 0} (begins : W → ℕ → Bool → W → Type 0) (transacts : W → Ask → List ℕ → Reply → W → Type 0) → BothKeepsLast begins transacts
both_keeps_last begins transacts base member met descs parts hand frame c wire after now later frame_later k effect d order last =
    last_stays_beside d parts (parts_now descs parts now) order (queues_kept begins transacts base member met descs parts hand frame c wire after now later frame_later k effect) last

pub both_keeps_links : {W : Type 0} (begins : W → ℕ → Bool → W → Type 0) (transacts : W → Ask → List ℕ → Reply → W → Type 0) → BothKeepsLinks begins transacts
both_keeps_links begins transacts base member met descs parts hand frame c wire after now later frame_later k effect order n rise =
    links_rise order (parts n) (parts_now descs parts now n) (queues_kept begins transacts base member met descs parts hand frame c wire after now later frame_later k effect n).alters rise

pub both_keeps_fronts : {W : Type 0} (begins : W → ℕ → Bool → W → Type 0) (transacts : W → Ask → List ℕ → Reply → W → Type 0) → BothKeepsFronts begins transacts
both_keeps_fronts begins transacts base member met descs parts hand frame c wire after now later frame_later k effect d order out sound rise stand e x here is_met =
    let n = 32 * x.queue in
    let f = stand e x here is_met in
    stands_on d (λ i. parts n) (λ i. parts_now descs parts now n) (order n) (out n) e x f
    (queue_on begins transacts base member met descs parts hand frame c wire after now later frame_later k effect (order n) f.front (out n) n (sound e x here is_met) (rise e x here is_met) f.has)

pub both_keeps_reaches : {W : Type 0} (begins : W → ℕ → Bool → W → Type 0) (transacts : W → Ask → List ℕ → Reply → W → Type 0) → BothKeepsReaches begins transacts
both_keeps_reaches begins transacts base member met descs parts hand frame c wire after now later frame_later k effect d order out i x t sound rise r =
    let n = 32 * x.queue in
    reaches_on d (λ j. parts n) (λ j. parts_now descs parts now n) order out i x t r (queues_kept begins transacts base member met descs parts hand frame c wire after now later frame_later k effect n).alters
    (queue_on begins transacts base member met descs parts hand frame c wire after now later frame_later k effect order r.stands.front out n sound rise r.stands.has)

pub both_keeps_halts : {W : Type 0} (begins : W → ℕ → Bool → W → Type 0) (transacts : W → Ask → List ℕ → Reply → W → Type 0) → BothKeepsHalts begins transacts
both_keeps_halts begins transacts base member met descs parts hand frame c wire after now later frame_later k effect d order out sound stand stops e x here is_met =
    let n = 32 * x.queue in
    let f = stand e x here is_met in
    queue_stops begins transacts base member met descs parts hand frame c wire after now later frame_later k effect (order n) f.front (out n) n (sound e x here is_met) f.has (stops e x here is_met)

pub both_leaves_halted : {W : Type 0} (begins : W → ℕ → Bool → W → Type 0) (transacts : W → Ask → List ℕ → Reply → W → Type 0) → BothLeavesHalted begins transacts
both_leaves_halted begins transacts base member met descs parts hand frame c wire after now later frame_later k effect n q here halted =
    queue_left begins transacts base member met descs parts hand frame c wire after now later frame_later k effect n q here halted

pub both_keeps_mends : {W : Type 0} (begins : W → ℕ → Bool → W → Type 0) (transacts : W → Ask → List ℕ → Reply → W → Type 0) → BothKeepsMends begins transacts
both_keeps_mends begins transacts base member met descs parts hand frame c wire after now later frame_later k effect d out m = record {
  queues = m.queues;
  are = record {
    mends = m.are.mends;
    owed = m.are.owed;
    wait = all_more (λ (s : StalledQueue). Waits s parts out) (λ (s : StalledQueue). Waits s (parts_now descs parts now) out) m.queues
        (λ s w. waits_on begins transacts base member met descs parts hand frame c wire after now later frame_later k effect out s w) m.are.wait;
    apart = m.are.apart;
  };
}

pub both_keeps_parts : {W : Type 0} (begins : W → ℕ → Bool → W → Type 0) (transacts : W → Ask → List ℕ → Reply → W → Type 0) → BothKeepsParts begins transacts
both_keeps_parts begins transacts base member met descs parts hand frame c wire after now later frame_later new k effect then n sound =
    queue_sound begins transacts base member met descs parts hand frame c wire after now later frame_later k effect new then n sound
