-- One event of the walk of the frames, and however many.
use Rattle.std.proofs.Common.{◌≡◌, ℕ, List, Option, Some, ◌∙◌, ap, arith}
use Rattle.usb_base.specs.declared.packets.Ask.{Ask}
use Rattle.usb_base.specs.declared.packets.Reply.{Reply}
use Rattle.qh_qtd.specs.declared.queue_head.Qh.{Qh}
use Rattle.async_walk.specs.declared.state.WalkStep.{WalkStep}
use Rattle.periodic_walk.specs.Place.{FramePlace}
use Rattle.law_structures.specs.lent_structures.Structures.{QueueHead, Structures, StructureSets}
use Rattle.law_ring.specs.Front.{LinksRise, LinksWithin, HasFront, FrontGoesOn}
use Rattle.law_ring.specs.Halted.{HaltStops}
use Rattle.law_ring.proofs.Tails.{tail_stays}
use Rattle.law_frames.specs.Met.{Kind}
use Rattle.law_frames.specs.FrameHand.{FrameHand}
use Rattle.law_frames.specs.Frame.{IsFrame}
use Rattle.law_frames.specs.Walks.{HappenInTurn, none, first}
use Rattle.law_frames.specs.framed_fronts.FrameFronts.{FrameKeepsLinks, FrameKeepsTail, FrameKeepsFront, FrameKeepsHalts, FrameLeavesHalted, FramesKeepFront, FramesKeepHalts}
use Rattle.law_frames.proofs.lemmas.framed_fronts.Queues.{QueueEvent, stays, advances, settles, HasEvent, event_of}
use Rattle.law_frames.proofs.lemmas.framed_fronts.Fronts.{links_rise, front_by}
use Rattle.law_frames.proofs.lemmas.framed_fronts.Halts.{halts_by, halted_stays}

-- ---- one event

pub links_kept : {W : Type 0} (transacts : W → Ask → List ℕ → Reply → W → Type 0) → FrameKeepsLinks transacts
links_kept transacts met parts w hand wire after now later kind order n q members in_hand effect here rise =
    links_rise order (parts n) (now n) (event_of met parts w hand now later n q members in_hand here transacts wire after kind effect).alters rise

pub tail_kept : {W : Type 0} (transacts : W → Ask → List ℕ → Reply → W → Type 0) → FrameKeepsTail transacts
tail_kept transacts met parts w hand wire after now later kind order tail n q members in_hand effect here within =
    tail_stays order tail (parts n) (now n) (event_of met parts w hand now later n q members in_hand here transacts wire after kind effect).alters within

pub front_kept : {W : Type 0} (transacts : W → Ask → List ℕ → Reply → W → Type 0) → FrameKeepsFront transacts
front_kept transacts met parts w hand wire after now later kind order front out n q members in_hand effect here rise k =
    let e : HasEvent n (parts n) (now n) = event_of met parts w hand now later n q members in_hand here transacts wire after kind effect in
    front_by parts now order front out n rise k e.alters e.event

pub halts_kept : {W : Type 0} (transacts : W → Ask → List ℕ → Reply → W → Type 0) → FrameKeepsHalts transacts
halts_kept transacts met parts w hand wire after now later kind order front out n q members in_hand effect here k stops =
    halts_by (parts n) (now n) order front out n k stops (event_of met parts w hand now later n q members in_hand here transacts wire after kind effect).event

pub halted_left : {W : Type 0} (transacts : W → Ask → List ℕ → Reply → W → Type 0) → FrameLeavesHalted transacts
halted_left transacts met parts w hand wire after now later kind n q members in_hand effect here halted =
    halted_stays n q (parts n) (now n) here halted (event_of met parts w hand now later n q members in_hand here transacts wire after kind effect).event

-- ---- the next one

record IsHead (n : ℕ) (part : Structures) : Type 0 where
  queue : Qh
  here : part n ≡ Some (QueueHead queue)

head_after : (n : ℕ) (q : Qh) (part now : Structures) → part n ≡ Some (QueueHead q) → QueueEvent n part now → IsHead n now
head_after n q part now here (stays same) = record { queue = q; here = ap (λ (p : Structures). p n) same ∙ here }
head_after n q part now here (advances t) = record { queue = t.new; here = t.head_now }
head_after n q part now here (settles s) = record { queue = s.new; here = s.head_now }

goes_further : (order : ℕ → ℕ) (front : ℕ) (out : List ℕ) (n : ℕ) (parts mid now : StructureSets) → ((c : ℕ) → LinksWithin order c (parts n) → LinksWithin order c (mid n))
    → (one : FrontGoesOn order front out n parts mid) → FrontGoesOn order one.front_now out n mid now → FrontGoesOn order front out n parts now
goes_further order front out n parts mid now within one two = record {
  front_now = two.front_now;
  goes_on = (let a = one.goes_on in let b = two.goes_on in omega (arith, a, b));
  has = two.has;
  still = λ a old. two.still a (one.still a old);
  passed = λ a old. two.passed a (one.passed a old);
  tail = λ c k old. two.tail c (within c k) (one.tail c k old);
}

stays_there : (order : ℕ → ℕ) (front : ℕ) (out : List ℕ) (n : ℕ) (parts : StructureSets) → HasFront order front out n (parts n) → FrontGoesOn order front out n parts parts
stays_there order front out n parts k = record { front_now = front; goes_on = omega arith; has = k; still = λ a old. old; passed = λ a old. old; tail = λ c within old. old }

module _ {W : Type 0} (transacts : W → Ask → List ℕ → Reply → W → Type 0) (met : ℕ → Option Kind) (new : FramePlace) (after : W) (now : StructureSets) (later : FrameHand) (order : ℕ → ℕ) (out : List ℕ) (n : ℕ) where
  runs_on : (kinds : List WalkStep) (p : FramePlace) (wire : W) (parts : StructureSets) (hand : FrameHand) (front : ℕ) (q : Qh) → IsFrame met parts hand p → HappenInTurn transacts met new after now later kinds p wire parts hand
      → parts n n ≡ Some (QueueHead q) → LinksRise order (parts n) → HasFront order front out n (parts n) → FrontGoesOn order front out n parts now
  runs_on _ p wire parts hand front q frame none here rise k = stays_there order front out n parts k
  runs_on _ p wire parts hand front q frame (first kind kinds from mid before between begun ended is leads h more) here rise k =
      let e : HasEvent n (parts n) (h.now n) = event_of met parts p.walk hand h.now h.later n q frame.members frame.walk.in_hand here transacts wire between kind h.effect in
      let one : FrontGoesOn order front out n parts h.now = front_by parts h.now order front out n rise k e.alters e.event in
      let head : IsHead n (h.now n) = head_after n q (parts n) (h.now n) here e.event in
      goes_further order front out n parts h.now now (λ c within. tail_stays order c (parts n) (h.now n) e.alters within) one
      (runs_on kinds mid between h.now h.later one.front_now head.queue h.frame more head.here (links_rise order (parts n) (h.now n) e.alters rise) one.has)

  halts_on : (kinds : List WalkStep) (p : FramePlace) (wire : W) (parts : StructureSets) (hand : FrameHand) (front : ℕ) (q : Qh) → IsFrame met parts hand p → HappenInTurn transacts met new after now later kinds p wire parts hand
      → parts n n ≡ Some (QueueHead q) → LinksRise order (parts n) → HasFront order front out n (parts n) → HaltStops order out n (parts n) → HaltStops order out n (now n)
  halts_on _ p wire parts hand front q frame none here rise k stops = stops
  halts_on _ p wire parts hand front q frame (first kind kinds from mid before between begun ended is leads h more) here rise k stops =
      let e : HasEvent n (parts n) (h.now n) = event_of met parts p.walk hand h.now h.later n q frame.members frame.walk.in_hand here transacts wire between kind h.effect in
      let one : FrontGoesOn order front out n parts h.now = front_by parts h.now order front out n rise k e.alters e.event in
      let head : IsHead n (h.now n) = head_after n q (parts n) (h.now n) here e.event in
      halts_on kinds mid between h.now h.later one.front_now head.queue h.frame more head.here (links_rise order (parts n) (h.now n) e.alters rise) one.has
      (halts_by (parts n) (h.now n) order front out n k stops e.event)

pub frames_keep_front : {W : Type 0} (transacts : W → Ask → List ℕ → Reply → W → Type 0) → FramesKeepFront transacts
frames_keep_front transacts met parts hand wire after p new now later kinds order front out n q frame events here rise k =
    runs_on transacts met new after now later order out n kinds p wire parts hand front q frame events here rise k

pub frames_keep_halts : {W : Type 0} (transacts : W → Ask → List ℕ → Reply → W → Type 0) → FramesKeepHalts transacts
frames_keep_halts transacts met parts hand wire after p new now later kinds order front out n q frame events here rise k stops =
    halts_on transacts met new after now later order out n kinds p wire parts hand front q frame events here rise k stops
