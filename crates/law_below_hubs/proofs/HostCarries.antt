-- The host's side of a queue head at an event of either walk that makes no transaction of it; and the walk that makes one.
use Rattle.std.proofs.Common.{◌≡◌, ◌≢◌, ℕ, Bool, true, false, if◌then◌else◌, Option, Some, ap, refl, sym, subst, ◌∙◌, ⊎_elim}
use Rattle.std.proofs.lemmas.Bool.{cases_eq, eq-eqb, true≢false}
use Rattle.usb_base.specs.declared.packets.EpKind.TheVariants.{Interrupt}
use Rattle.bus_wire.specs.Bus.{Wired}
use Rattle.qh_qtd.specs.declared.qtd.Qtd.{Qtd}
use Rattle.qh_qtd.specs.declared.queue_head.Qh.{Qh}
use Rattle.toggle_error.specs.declared.host.HostSide.{HostSide}
use Rattle.hc_copy.specs.Overlay.{settled_queue, moved, advanced}
use Rattle.hc_copy.specs.Planning.{host_in}
use Rattle.hc_copy.specs.WriteBack.{moved_by}
use Rattle.async_walk.specs.declared.state.WalkStep.{WalkStep}
use Rattle.async_walk.specs.Naks.{kind_at}
use Rattle.periodic_walk.specs.Place.{FramePlace}
use Rattle.periodic_walk.specs.Walk.{Walk}
use Rattle.hc_interrupt.specs.Turns.{is_last_of}
use Rattle.hc_core.specs.Controller.{Content, walk_place, frame_place}
use Rattle.claims_base.specs.Controller.{Base}
use Rattle.law_structures.specs.lent_structures.Structures.{QueueHead, StructureSets}
use Rattle.law_structures.specs.lent_structures.Changes.{relinked}
use Rattle.law_structures.specs.lent_structures.Sound.{IsSoundQueue}
use Rattle.law_ring.specs.QueueParts.{IsQueuePart}
use Rattle.law_structures.proofs.lemmas.lent_structures.Names.{put_beside, put_here, with_here}
use Rattle.law_common.proofs.Numbers.{other_number}
use Rattle.law_structures.proofs.lemmas.lent_structures.Altering.{found_queue}
use Rattle.law_ring.specs.Hand.{Copy, Settlement, settled_queue_of, Hand, Copied, Settled}
use Rattle.law_ring.specs.Ring.{IsCopied, IsSettled, IsInHand}
use Rattle.law_ring.specs.Effects.{Takes, Effect, counted, settlement, Asks}
use Rattle.law_ring.proofs.Growing.{ring_asks}
use Rattle.law_ring.proofs.QueueParts.{member_part}
use Rattle.law_ring.proofs.Keeping.{IsUnsettled, empty_unsettled, copied_unsettled}
use Rattle.law_ring.proofs.Written.{WritesCopy, beside, head_now, ring_writes}
use Rattle.law_controller.specs.controlled_streams.Control.{ControlEffect, a_microframe, a_step}
use Rattle.law_frames.specs.Met.{Kind, AQueue}
use Rattle.law_frames.specs.FrameHand.{FrameHand, QueueSettlement, queue_hand, came, settled_in}
use Rattle.law_frames.specs.Frame.{IsCopiedQueue, IsInFrame, IsFrame}
use Rattle.law_frames.specs.FrameEffects.{MakesOne, MakesOfQueue, TakesOne, WritesOne, WritesQueue, of_queue, of_itd, of_sitd, FrameEffect}
use Rattle.law_frames.specs.FrameEffects.{IsSettledFrom, was_worked, was_missed, missed_settlement}
use Rattle.law_below_hubs.proofs.FramesSend.{frame_asks}
use Rattle.law_frames.proofs.Telling.{empty_is, fetched_unsettled, passed_unsettled, taken_there, writes_copy}
use Rattle.law_frames.proofs.Telling.{itd_leaves, sitd_leaves}
use Rattle.law_controller.specs.frame_control.Both.{RunsBoth, WalksFrames, BothEffect, of_ring, of_frame}
use Rattle.law_controller.specs.frame_control.Joined.{joined}
use Rattle.law_controller.proofs.lemmas.frame_control.Joining.{joined_frame}
use Rattle.law_devices.specs.scripted_requests.Controls.{transacts_by, begins_by}
use Rattle.law_below_hubs.specs.HostEvents.{hand_host, RestsToStart, StartsFirst, IsHostLike, IsApart}

-- ---- what is in hand

pub apart_host : (hand : Hand) (n : ℕ) (q : Qh) → IsApart hand n → hand_host hand n q ≡ host_in q
apart_host (Settled c z) n q apart =
    ap (λ (b : Bool). if b then z.host else host_in q) (other_number c.at n (λ same. apart c z refl same))
apart_host _ n q apart = refl

pub unsettled_apart : (hand : Hand) (n : ℕ) → IsUnsettled hand → IsApart hand n
unsettled_apart hand n un c z is at = un c z is

pub settled_apart : (hand : Hand) (n : ℕ) (c : Copy) (z : Settlement) → hand ≡ Settled c z → c.at ≢ n → IsApart hand n
settled_apart hand n c z is differs d y also at = differs (same c d (sym is ∙ also) ∙ at)
  where
    same : (c d : Copy) → Settled c z ≡ Settled d y → c.at ≡ d.at
    same c d e = cc

pub copied_settled : (hand : Hand) (c d : Copy) (z : Settlement) → hand ≡ Copied d → hand ≡ Settled c z → ⊥
copied_settled hand c d z one other = by (sym one ∙ other)
  where
    by : Copied d ≡ Settled c z → ⊥
    by e = cc

-- ---- an overlay that is taken, or written back

advanced_host : (q : Qh) (a : ℕ) (t : Qtd) → t.token.active ≡ true → t.token.split_state ≡ false
    → ((host_in (advanced q a t)).waiting ≡ false) × RestsToStart (host_in (advanced q a t))
unfolding advanced
advanced_host q a t on starts = (starts, λ off going. starts)

-- what is written back has the host's side
record HasHost (c : Copy) (z : Settlement) (settled : Qh) : Type 0 where
  waiting : (host_in (relinked c.queue (moved settled (moved_by z.outcome)))).waiting ≡ z.host.waiting
  rests : RestsToStart z.host → RestsToStart (host_in (relinked c.queue (moved settled (moved_by z.outcome))))
  halted : (host_in (relinked c.queue (moved settled (moved_by z.outcome)))).halted ≡ z.host.halted

ring_host : (c : Copy) (z : Settlement) → HasHost c z (settled_queue_of c z)
unfolding moved settled_queue
ring_host c z = record { waiting = refl; rests = λ rests. rests; halted = refl }

frame_host : (c : Copy) (z : QueueSettlement) → HasHost c (came z) (settled_in c z)
unfolding moved settled_queue
frame_host c z = record { waiting = refl; rests = λ rests. rests; halted = refl }

-- ---- which walk makes a transaction (4.6 and 4.8)

pub data IsMadeBy (member : ℕ → Bool) (met : ℕ → Option Kind) (parts : StructureSets) (walk : Walk) (frame frame_later : FrameHand)
    (hand later : Hand) (wire after : Wired) (m : Asks transacts_by parts hand wire after later) : Type 0 where
  by_ring : member m.copy.at ≡ true → m.kind ≡ kind_at m.copy.queue.dtc → m.last ≡ false
      → IsMadeBy member met parts walk frame frame_later hand later wire after m
  by_frames : met m.copy.at ≡ Some AQueue → m.kind ≡ Interrupt
      → (r : MakesOfQueue transacts_by parts walk frame wire after frame_later) → r.copy ≡ m.copy
      → m.last ≡ is_last_of walk.index r.copy.queue
      → IsMadeBy member met parts walk frame frame_later hand later wire after m

-- ---- the host's side stays

module _ (parts now : StructureSets) (hand later : Hand) (n : ℕ) where
  abbrev pub HostStays : Type 0
  HostStays = (q r : Qh) → parts n n ≡ Some (QueueHead q) → now n n ≡ Some (QueueHead r) → StartsFirst (parts n)
      → RestsToStart (hand_host hand n q) → IsHostLike (hand_host hand n q) (hand_host later n r)

  -- no transaction of it was made
  abbrev pub IsUnmade : Type 0
  IsUnmade = (c : Copy) (z : Settlement) → later ≡ Settled c z → c.at ≡ n → (d : Copy) → hand ≡ Copied d → ⊥

  pub data HostGoes (wire after : Wired) (Made : Asks transacts_by parts hand wire after later → Type 0) : Type 0 where
    makes_own : (m : Asks transacts_by parts hand wire after later) → m.copy.at ≡ n → now ≡ parts → Made m → HostGoes wire after Made
    stays : HostStays → IsUnmade → HostGoes wire after Made

  like_itself : (one other : HostSide) → other ≡ one → RestsToStart one → IsHostLike one other
  like_itself one other same rests = record {
    waiting = ap (λ (host : HostSide). host.waiting) same;
    rests = subst RestsToStart (sym same) rests;
    halted = λ off. ap (λ (host : HostSide). host.halted) (sym same) ∙ off;
  }

  apart_stays : now n ≡ parts n → IsApart hand n → IsApart later n → HostStays
  apart_stays same before behind q r here there first rests =
      let is : r ≡ q = found_queue (parts n n) r q (sym (ap (λ part. part n) same) ∙ there) here in
      let old : hand_host hand n q ≡ host_in q = apart_host hand n q before in
      let new : hand_host later n r ≡ hand_host hand n q = apart_host later n r behind ∙ ap host_in is ∙ sym old in
      like_itself (hand_host hand n q) (hand_host later n r) new rests

  apart_unmade : IsApart later n → IsUnmade
  apart_unmade apart c z is at d also = apart c z is at

  apart_goes : (wire after : Wired) (Made : Asks transacts_by parts hand wire after later → Type 0) → now n ≡ parts n → IsApart hand n
      → IsApart later n → HostGoes wire after Made
  apart_goes wire after Made same before behind = stays (apart_stays same before behind) (apart_unmade behind)

  -- ---- a qTD is taken

  take_stays : (k : Takes parts hand now later) → parts k.copy.at k.copy.at ≡ Some (QueueHead k.copy.queue) → HostStays
  take_stays k head q r here there first rests =
      ⊎_elim
      (λ (at : n ≡ k.copy.at).
      let is_q : q ≡ k.copy.queue = found_queue (parts n n) q k.copy.queue here (ap (λ (i : ℕ). parts i i) at ∙ head) in
      let new : Qh = advanced k.copy.queue k.element k.qtd in
      let is_r : r ≡ new = found_queue (now n n) r new there
      (ap (λ (i : ℕ). now i i) at ∙ ap (λ (ps : StructureSets). ps k.copy.at k.copy.at) k.now_is
      ∙ ap (λ part. part k.copy.at) (put_here parts k.copy.at k.copy.at (QueueHead new)) ∙ with_here (parts k.copy.at) k.copy.at
      (QueueHead new)) in
      let old : hand_host hand n q ≡ host_in k.copy.queue = apart_host hand n q
      (unsettled_apart hand n (copied_unsettled hand k.copy k.in_hand)) ∙ ap host_in is_q in
      let idle : (hand_host hand n q).waiting ≡ false = rests (ap (λ (host : HostSide). host.active) old ∙ k.idle)
      (ap (λ (host : HostSide). host.halted) old ∙ k.goes_on) in
      let is_new : hand_host later n r ≡ host_in new =
      apart_host later n r (unsettled_apart later n (copied_unsettled later _ k.later_is)) ∙ ap host_in is_r in
      let z = advanced_host k.copy.queue k.element k.qtd k.published
      (first k.element k.qtd (ap (λ (i : ℕ). parts i k.element) at ∙ k.here) k.published) in
      record {
        waiting = ap (λ (host : HostSide). host.waiting) is_new ∙ z.0 ∙ sym idle;
        rests = subst RestsToStart (sym is_new) z.1;
        halted = λ off. ap (λ (host : HostSide). host.halted) old ∙ k.goes_on;
      })
      (λ (differs : n ≢ k.copy.at).
      apart_stays (ap (λ (ps : StructureSets). ps n) k.now_is ∙ put_beside parts k.copy.at k.copy.at
      (QueueHead (advanced k.copy.queue k.element k.qtd)) n differs)
      (unsettled_apart hand n (copied_unsettled hand k.copy k.in_hand))
      (unsettled_apart later n (copied_unsettled later _ k.later_is)) q r here
      there first rests)
      (cases_eq n k.copy.at)

  -- ---- a transaction is written back

  write_stays : (c : Copy) (z : Settlement) (settled : Qh) → HasHost c z settled → WritesCopy parts hand now later c z settled → HostStays
  write_stays c z settled y w q r here there first rests =
      ⊎_elim
      (λ (at : n ≡ c.at).
      let new : Qh = relinked c.queue (moved settled (moved_by z.outcome)) in
      let is_r : r ≡ new = found_queue (now n n) r new there
      (ap (λ (i : ℕ). now i i) at ∙ head_now parts hand now later c z settled w) in
      let old : hand_host hand n q ≡ z.host = ap (λ (l : Hand). hand_host l n q) w.in_hand
      ∙ ap (λ (b : Bool). if b then z.host else host_in q) (eq-eqb c.at n (sym at)) in
      let is_new : hand_host later n r ≡ host_in new = apart_host later n r (unsettled_apart later n w.unsettled) ∙ ap host_in is_r in
      record {
        waiting = ap (λ (host : HostSide). host.waiting) is_new ∙ y.waiting ∙ sym (ap (λ (host : HostSide). host.waiting) old);
        rests = subst RestsToStart (sym is_new) (y.rests (subst RestsToStart old rests));
        halted = λ off.
            ap (λ (host : HostSide). host.halted) old ∙ sym y.halted ∙ ap (λ (host : HostSide). host.halted) (sym is_new) ∙ off;
      })
      (λ (differs : n ≢ c.at).
      apart_stays (beside parts hand now later c z settled w n differs)
      (settled_apart hand n c z w.in_hand (λ (at : c.at ≡ n). differs (sym at)))
      (unsettled_apart later n w.unsettled) q r here there first rests)
      (cases_eq n c.at)

-- a missed microframe halts it, and is written back at once
missed_stays : (parts now : StructureSets) (c : Copy) (later : Hand) (n : ℕ) → parts c.at c.at ≡ Some (QueueHead c.queue)
    → HostStays parts now (Settled c (came (missed_settlement c.queue))) later n → HostStays parts now (Copied c) later n
missed_stays parts now c later n head stays_so q r here there first rests =
    ⊎_elim
    (λ (at : n ≡ c.at).
    let is : q ≡ c.queue = found_queue (parts n n) q c.queue here (ap (λ (i : ℕ). parts i i) at ∙ head) in
    let old : hand_host (Settled c (came (missed_settlement c.queue))) n q ≡ (missed_settlement c.queue).host =
    ap (λ (b : Bool). if b then (missed_settlement c.queue).host else host_in q) (eq-eqb c.at n (sym at)) in
    let k = stays_so q r here there first
    (λ off on. absurd (true≢false (ap (λ (host : HostSide). host.halted) (sym old) ∙ on))) in
    record {
      waiting = k.waiting ∙ ap (λ (host : HostSide). host.waiting) old ∙ ap (λ (y : Qh). y.token.split_state) (sym is);
      rests = k.rests;
      halted = λ off. absurd (true≢false (ap (λ (host : HostSide). host.halted) (sym old) ∙ k.halted off));
    })
    (λ (differs : n ≢ c.at).
    let old : hand_host (Settled c (came (missed_settlement c.queue))) n q ≡ host_in q =
    ap (λ (b : Bool). if b then (missed_settlement c.queue).host else host_in q) (other_number c.at n (λ is. differs (sym is))) in
    subst (λ (host : HostSide). IsHostLike host (hand_host later n r)) old (stays_so q r here there first (subst RestsToStart
    (sym old) rests)))
    (cases_eq n c.at)

-- ---- an event of either walk

module _ (base : Base) (member : ℕ → Bool) (met : ℕ → Option Kind) (parts : StructureSets) (hand : Hand) (frame : FrameHand) (c : Content)
    (wire after : Wired) (now : StructureSets) (later : Hand) (frame_later : FrameHand)
    (runs : RunsBoth base member met parts hand frame c) (n : ℕ) (q0 : Qh) (head : parts n n ≡ Some (QueueHead q0)) where
  abbrev Made : (one other : Hand) → Asks transacts_by parts one wire after other → Type 0
  Made one other = IsMadeBy member met parts c.control.frame frame frame_later one other wire after

  abbrev Goes : Hand → Hand → Type 0
  Goes one other = HostGoes parts now one other n wire after
      (IsMadeBy member met parts c.control.frame frame frame_later one other wire after)

  -- ---- of the ring

  all_apart : (one other : Hand) → now ≡ parts → IsUnsettled one → IsUnsettled other → Goes one other
  all_apart one other all before behind =
      apart_goes parts now one other n wire after (Made one other) (ap (λ (ps : StructureSets). ps n) all) (unsettled_apart one n before)
      (unsettled_apart other n behind)

  in_ring : (kind : WalkStep) → Effect transacts_by parts hand wire after now later kind → Goes hand later
  in_ring _ (Effect.reads k all quiet) = all_apart hand later all (empty_unsettled hand k.nothing) (copied_unsettled later k.copy k.in_hand)
  in_ring _ (Effect.passes k all quiet) = all_apart hand later all k.unsettled (empty_unsettled later k.nothing)
  in_ring _ (Effect.ends k all quiet) = all_apart hand later all k.unsettled (empty_unsettled later k.nothing)
  in_ring _ (Effect.takes k quiet) =
      let copied : IsCopied member parts k.copy = subst (IsInHand member parts (walk_place c).walk.reply) k.in_hand runs.ring.in_hand in
      stays (take_stays parts now hand later n k copied.here)
      (apart_unmade parts now hand later n (unsettled_apart later n (copied_unsettled later _ k.later_is)))
  in_ring _ (Effect.makes k all) =
      let copied : IsCopied member parts k.copy = subst (IsInHand member parts (walk_place c).walk.reply) k.in_hand runs.ring.in_hand in
      ⊎_elim
      (λ (at : k.copy.at ≡ n).
      makes_own (ring_asks transacts_by parts hand wire after later k
      (member_part member k.copy.at (parts k.copy.at) (runs.ring.members k.copy.at copied.on)) copied.here) at all
      (by_ring copied.on refl refl))
      (λ (differs : k.copy.at ≢ n).
      apart_goes parts now hand later n wire after (Made hand later) (ap (λ (ps : StructureSets). ps n) all)
      (unsettled_apart hand n (copied_unsettled hand k.copy k.in_hand))
      (settled_apart later n (counted k.copy k.out k.reply) (settlement k.copy.queue k.out k.reply) k.later_is differs))
      (cases_eq k.copy.at n)
  in_ring _ (Effect.writes_back k quiet) =
      let two : IsCopied member parts k.copy × IsSettled k.copy.queue (walk_place c).walk.reply k.settled =
      subst (IsInHand member parts (walk_place c).walk.reply) k.in_hand runs.ring.in_hand in
      let w = ring_writes member parts hand now later k (walk_place c).walk.reply two.0 two.1 in
      stays (write_stays parts now hand later n k.copy k.settled (settled_queue_of k.copy k.settled) (ring_host k.copy k.settled) w)
      (apart_unmade parts now hand later n (unsettled_apart later n w.unsettled))

  of_control : ControlEffect begins_by transacts_by parts hand wire after now later → Goes hand later
  of_control (a_microframe b) =
      stays
      (λ q r here there first rests.
      let is : r ≡ q = found_queue (parts n n) r q (sym (ap (λ (ps : StructureSets). ps n n) b.parts_stay) ∙ there) here in
      let same : hand_host later n r ≡ hand_host hand n q = ap (λ (l : Hand). hand_host l n r) b.hand_stays ∙ ap (hand_host hand n) is in
      like_itself parts now hand later n (hand_host hand n q) (hand_host later n r) same rests)
      (λ d z is at e also. copied_settled hand d e z also (sym b.hand_stays ∙ is))
  of_control (a_step w) = in_ring w.kind w.effect

  -- ---- of the frames

  abbrev p : FramePlace
  p = frame_place c

  module _ (there : IsFrame met parts frame (frame_place c)) where
    abbrev Framed : Type 0
    Framed = Goes (queue_hand frame) (queue_hand frame_later)

    frame_goes : now n ≡ parts n → IsApart (queue_hand frame) n → IsApart (queue_hand frame_later) n
        → Goes (queue_hand frame) (queue_hand frame_later)
    frame_goes same before behind =
        apart_goes parts now (queue_hand frame) (queue_hand frame_later) n wire after (Made (queue_hand frame)
        (queue_hand frame_later)) same
        before behind

    unsettled_before : IsUnsettled (queue_hand frame) → IsApart (queue_hand frame) n
    unsettled_before un = unsettled_apart (queue_hand frame) n un

    unsettled_behind : IsUnsettled (queue_hand frame_later) → IsApart (queue_hand frame_later) n
    unsettled_behind un = unsettled_apart (queue_hand frame_later) n un

    made_one : MakesOne transacts_by parts p.walk frame wire after frame_later → now ≡ parts
        → Goes (queue_hand frame) (queue_hand frame_later)
    made_one (of_queue r) all =
        let k : IsCopiedQueue met parts r.copy = subst (IsInFrame met parts p.walk.got p.walk.reply) r.in_hand there.walk.in_hand in
        ⊎_elim
        (λ (at : r.copy.at ≡ n).
        let part : IsQueuePart r.copy.at (parts r.copy.at) = (runs.members r.copy.at AQueue k.on).part_is in
        makes_own (frame_asks transacts_by met parts frame p wire after frame_later there r k part
        ((subst (IsSoundQueue (parts r.copy.at)) (found_queue (parts r.copy.at r.copy.at) part.queue r.copy.queue part.here k.here)
        part.sound).work r.works)) at all (by_frames k.on refl r refl refl))
        (λ (differs : r.copy.at ≢ n).
        frame_goes (ap (λ (ps : StructureSets). ps n) all)
        (unsettled_before (copied_unsettled (queue_hand frame) r.copy (ap queue_hand r.in_hand)))
        (settled_apart (queue_hand frame_later) n r.copy _ (ap queue_hand r.later_is) differs))
        (cases_eq r.copy.at n)
    made_one (of_itd r) all =
        frame_goes (ap (λ (ps : StructureSets). ps n) all) (unsettled_before (empty_is frame (ap queue_hand r.in_hand)))
        (unsettled_behind (empty_is frame_later (ap queue_hand r.later_is)))
    made_one (of_sitd r) all =
        frame_goes (ap (λ (ps : StructureSets). ps n) all) (unsettled_before (empty_is frame (ap queue_hand r.in_hand)))
        (unsettled_behind (empty_is frame_later (ap queue_hand r.later_is)))

    module _ (r : WritesQueue parts p.walk frame now frame_later) where
      own : WritesCopy parts (Settled r.copy (came r.settled)) now (queue_hand frame_later) r.copy (came r.settled)
          (settled_in r.copy r.settled)
      own = writes_copy transacts_by met parts frame p wire after now frame_later there r

      own_stays : HostStays parts now (Settled r.copy (came r.settled)) (queue_hand frame_later) n
      own_stays =
          write_stays parts now (Settled r.copy (came r.settled)) (queue_hand frame_later) n r.copy (came r.settled)
          (settled_in r.copy r.settled) (frame_host r.copy r.settled) own

      wrote_queue : IsSettledFrom p.walk frame r.copy r.settled r.made → HostStays parts now (queue_hand frame) (queue_hand frame_later) n
      wrote_queue (was_worked is) =
          subst (λ (h : Hand). HostStays parts now h (queue_hand frame_later) n) (sym (ap queue_hand is)) own_stays
      wrote_queue (was_missed is turn missed_is) =
          subst (λ (h : Hand). HostStays parts now h (queue_hand frame_later) n) (sym (ap queue_hand is))
          (missed_stays parts now r.copy (queue_hand frame_later) n own.head
          (subst (λ (z : QueueSettlement). HostStays parts now (Settled r.copy (came z)) (queue_hand frame_later) n) missed_is own_stays))

    wrote : WritesOne parts p.walk frame now frame_later → Goes (queue_hand frame) (queue_hand frame_later)
    wrote (of_queue r) =
        stays (wrote_queue r r.from)
        (apart_unmade parts now (queue_hand frame) (queue_hand frame_later) n (unsettled_behind (own r).unsettled))
    wrote (of_itd r) =
        frame_goes (itd_leaves transacts_by met parts frame p wire after now frame_later there r n q0 head)
        (unsettled_before (empty_is frame (ap queue_hand r.in_hand)))
        (unsettled_behind (empty_is frame_later (ap queue_hand r.nothing)))
    wrote (of_sitd r) =
        frame_goes (sitd_leaves transacts_by met parts frame p wire after now frame_later there r n q0 head)
        (unsettled_before (empty_is frame (ap queue_hand r.in_hand)))
        (unsettled_behind (empty_is frame_later (ap queue_hand r.nothing)))

    took : TakesOne parts frame now frame_later → Goes (queue_hand frame) (queue_hand frame_later)
    took r =
        stays
        (subst (λ (h : Hand). HostStays parts now h (queue_hand frame_later) n) (sym (ap queue_hand r.in_hand))
        (subst (λ (l : Hand). HostStays parts now (Copied r.copy) l n) (sym (ap queue_hand r.later_is))
        (take_stays parts now (Copied r.copy) (Copied r.new) n r.takes
        (taken_there transacts_by met parts frame p wire after now frame_later there r))))
        (apart_unmade parts now (queue_hand frame) (queue_hand frame_later) n
        (unsettled_behind (copied_unsettled (queue_hand frame_later) r.new (ap queue_hand r.later_is))))

    in_frames : (kind : WalkStep) → FrameEffect transacts_by parts p.walk frame wire after now frame_later kind
        → Goes (queue_hand frame) (queue_hand frame_later)
    in_frames _ (FrameEffect.fetches none r all quiet) =
        frame_goes (ap (λ (ps : StructureSets). ps n) all) (unsettled_before (empty_is frame (ap queue_hand none)))
        (unsettled_behind (fetched_unsettled parts p.walk frame_later r))
    in_frames _ (FrameEffect.passes un nothing all quiet) =
        frame_goes (ap (λ (ps : StructureSets). ps n) all) (unsettled_before (passed_unsettled frame un))
        (unsettled_behind (empty_is frame_later (ap queue_hand nothing)))
    in_frames _ (FrameEffect.ends none nothing all quiet) =
        frame_goes (ap (λ (ps : StructureSets). ps n) all) (unsettled_before (empty_is frame (ap queue_hand none)))
        (unsettled_behind (empty_is frame_later (ap queue_hand nothing)))
    in_frames _ (FrameEffect.takes r quiet) = took r
    in_frames _ (FrameEffect.makes r all) = made_one r all
    in_frames _ (FrameEffect.writes r quiet) = wrote r

  by_frame : WalksFrames transacts_by parts c.control hand frame wire after now later frame_later → Goes (joined hand frame)
      (joined later frame_later)
  by_frame w =
      subst (λ (l : Hand). Goes l (joined later frame_later)) (sym (joined_frame hand frame w.nothing))
      (subst (λ (l : Hand). Goes (queue_hand frame) l) (sym (joined_frame later frame_later (w.hand_stays ∙ w.nothing)))
      (in_frames (record { tells = runs.ring.tells; members = runs.members; walk = runs.walk w.part }) w.kind w.effect))

  pub host_goes : BothEffect begins_by transacts_by parts c.control hand frame wire after now later frame_later
      → Goes (joined hand frame) (joined later frame_later)
  host_goes (of_ring effect free) =
      subst (λ (f : FrameHand). Goes (joined hand f) (joined later frame_later)) (sym free.0)
      (subst (λ (f : FrameHand). Goes hand (joined later f)) (sym free.1) (of_control effect))
  host_goes (of_frame w) = by_frame w
