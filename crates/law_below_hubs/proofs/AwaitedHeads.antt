-- The queue head of an endpoint that the frames don't meet, at an event of either walk that makes no transaction of it: what its host waits
-- for has the PID that it had, and goes on.
use Rattle.std.proofs.Common.{◌≡◌, ◌≢◌, ℕ, Bool, true, false, if◌then◌else◌, Option, Some, ap, refl, sym, subst, ◌∙◌, ⊎_elim}
use Rattle.std.proofs.lemmas.Bool.{cases_eq, eq-eqb, false≢true}
use Rattle.bus_wire.specs.Bus.{Wired}
use Rattle.qh_qtd.specs.declared.queue_head.Qh.{Qh}
use Rattle.toggle_error.specs.declared.host.HostSide.{HostSide}
use Rattle.hc_copy.specs.Overlay.{settled_queue, moved}
use Rattle.hc_copy.specs.Planning.{host_in}
use Rattle.hc_copy.specs.WriteBack.{moved_by}
use Rattle.async_walk.specs.declared.state.WalkStep.{WalkStep}
use Rattle.hc_core.specs.Controller.{Content, walk_place, frame_place}
use Rattle.claims_base.specs.Controller.{Base}
use Rattle.law_structures.specs.lent_structures.Structures.{QueueHead, StructureSets}
use Rattle.law_structures.specs.lent_structures.Changes.{relinked}
use Rattle.law_structures.proofs.lemmas.lent_structures.Names.{put_beside}
use Rattle.law_structures.proofs.lemmas.lent_structures.Altering.{found_queue}
use Rattle.law_ring.specs.Hand.{Copy, Settlement, settled_queue_of, Hand, Copied}
use Rattle.law_ring.specs.Ring.{IsCopied, IsSettled, IsInHand}
use Rattle.law_ring.specs.Effects.{Takes, Effect, counted, settlement}
use Rattle.law_ring.proofs.Keeping.{IsUnsettled, empty_unsettled, copied_unsettled}
use Rattle.law_ring.proofs.Written.{WritesCopy, beside, head_now, ring_writes}
use Rattle.law_controller.specs.controlled_streams.Control.{ControlEffect, a_microframe, a_step}
use Rattle.law_frames.specs.Met.{Kind, AQueue, AnItd, ASitd, IsMetItd, IsMetSitd}
use Rattle.law_frames.specs.FrameHand.{FrameHand, Nothing, OfQueue, OfSettled, OfItd, OfSitd, queue_hand}
use Rattle.law_frames.specs.Frame.{IsInFrame}
use Rattle.law_frames.specs.FrameEffects.{MakesOne, WritesOne, of_queue, of_itd, of_sitd, FrameEffect}
use Rattle.law_frames.proofs.Leaving.{frame_leaves}
use Rattle.law_frames.proofs.Telling.{empty_is, fetched_unsettled, writes_copy}
use Rattle.law_controller.specs.frame_control.Both.{RunsBoth, WalksFrames, BothEffect, of_ring, of_frame}
use Rattle.law_controller.specs.frame_control.Joined.{joined}
use Rattle.law_controller.proofs.lemmas.frame_control.Joining.{joined_frame}
use Rattle.law_devices.specs.scripted_requests.Controls.{transacts_by, begins_by}
use Rattle.law_below_hubs.specs.Awaited.{RestsIdle}
use Rattle.law_below_hubs.specs.HostEvents.{hand_host, IsApart}
use Rattle.law_below_hubs.proofs.HostCarries.{apart_host, unsettled_apart, settled_apart, IsUnmade}

-- what is written back has the PID and the host's side
record HasToken (c : Copy) (z : Settlement) (settled : Qh) : Type 0 where
  pid : (relinked c.queue (moved settled (moved_by z.outcome))).token.pid ≡ c.queue.token.pid
  active : (host_in (relinked c.queue (moved settled (moved_by z.outcome)))).active ≡ z.host.active

ring_token : (c : Copy) (z : Settlement) → HasToken c z (settled_queue_of c z)
unfolding moved settled_queue
ring_token c z = record { pid = refl; active = refl }

-- while its host waits
pub record IsHeadStill (hand later : Hand) (n : ℕ) (q r : Qh) : Type 0 where
  pub pid : (hand_host hand n q).waiting ≡ true → r.token.pid ≡ q.token.pid
  pub active : (hand_host hand n q).waiting ≡ true → (hand_host later n r).active ≡ (hand_host hand n q).active

module _ (parts now : StructureSets) (hand later : Hand) (n : ℕ) where
  abbrev pub HeadStays : Type 0
  HeadStays = (q r : Qh) → parts n n ≡ Some (QueueHead q) → now n n ≡ Some (QueueHead r) → RestsIdle (hand_host hand n q)
      → IsHeadStill hand later n q r

  alike_still : (q r : Qh) → r ≡ q → hand_host later n r ≡ hand_host hand n q → IsHeadStill hand later n q r
  alike_still q r is same = record {
    pid = λ on. ap (λ (y : Qh). y.token.pid) is;
    active = λ on. ap (λ (host : HostSide). host.active) same;
  }

  apart_still : now n ≡ parts n → IsApart hand n → IsApart later n → HeadStays
  apart_still same before behind q r here there rests =
      let is : r ≡ q = found_queue (parts n n) r q (sym (ap (λ part. part n) same) ∙ there) here in
      alike_still q r is (apart_host later n r behind ∙ ap host_in is ∙ sym (apart_host hand n q before))

  -- one that takes a qTD waited for nothing
  take_still : (k : Takes parts hand now later) → parts k.copy.at k.copy.at ≡ Some (QueueHead k.copy.queue) → HeadStays
  take_still k head q r here there rests =
      ⊎_elim
      (λ (at : n ≡ k.copy.at).
      let is_q : q ≡ k.copy.queue = found_queue (parts n n) q k.copy.queue here (ap (λ (i : ℕ). parts i i) at ∙ head) in
      let old : hand_host hand n q ≡ host_in k.copy.queue = apart_host hand n q
      (unsettled_apart hand n (copied_unsettled hand k.copy k.in_hand)) ∙ ap host_in is_q in
      let idle : (hand_host hand n q).waiting ≡ false = rests (ap (λ (host : HostSide). host.active) old ∙ k.idle) in
      record { pid = λ on. absurd (false≢true (sym idle ∙ on)); active = λ on. absurd (false≢true (sym idle ∙ on)) })
      (λ (differs : n ≢ k.copy.at).
      apart_still (ap (λ (ps : StructureSets). ps n) k.now_is ∙ put_beside parts k.copy.at k.copy.at _ n differs)
      (unsettled_apart hand n (copied_unsettled hand k.copy k.in_hand))
      (unsettled_apart later n (copied_unsettled later _ k.later_is)) q r here there rests)
      (cases_eq n k.copy.at)

  write_still : (c : Copy) (z : Settlement) (settled : Qh) → HasToken c z settled → WritesCopy parts hand now later c z settled → HeadStays
  write_still c z settled y w q r here there rests =
      ⊎_elim
      (λ (at : n ≡ c.at).
      let new : Qh = relinked c.queue (moved settled (moved_by z.outcome)) in
      let is_r : r ≡ new = found_queue (now n n) r new there
      (ap (λ (i : ℕ). now i i) at ∙ head_now parts hand now later c z settled w) in
      let is_q : q ≡ c.queue = found_queue (parts n n) q c.queue here (ap (λ (i : ℕ). parts i i) at ∙ w.head) in
      let old : hand_host hand n q ≡ z.host = ap (λ (l : Hand). hand_host l n q) w.in_hand
      ∙ ap (λ (b : Bool). if b then z.host else host_in q) (eq-eqb c.at n (sym at)) in
      let is_new : hand_host later n r ≡ host_in new = apart_host later n r (unsettled_apart later n w.unsettled) ∙ ap host_in is_r in
      record {
        pid = λ on. ap (λ (y : Qh). y.token.pid) is_r ∙ y.pid ∙ ap (λ (y : Qh). y.token.pid) (sym is_q);
        active = λ on. ap (λ (host : HostSide). host.active) is_new ∙ y.active ∙ ap (λ (host : HostSide). host.active) (sym old);
      })
      (λ (differs : n ≢ c.at).
      apart_still (beside parts hand now later c z settled w n differs)
      (settled_apart hand n c z w.in_hand (λ (at : c.at ≡ n). differs (sym at)))
      (unsettled_apart later n w.unsettled) q r here there rests)
      (cases_eq n c.at)

-- ---- an event of either walk

module _ (base : Base) (member : ℕ → Bool) (met : ℕ → Option Kind) (parts : StructureSets) (hand : Hand) (frame : FrameHand) (c : Content)
    (wire after : Wired) (now : StructureSets) (later : Hand) (frame_later : FrameHand)
    (runs : RunsBoth base member met parts hand frame c) (n : ℕ) (q0 : Qh) (head : parts n n ≡ Some (QueueHead q0))
    (unmet : met n ≡ Some AQueue → ⊥) where
  abbrev Stays : Hand → Hand → Type 0
  Stays one other = HeadStays parts now one other n

  all_apart : (one other : Hand) → now ≡ parts → IsUnsettled one → IsUnsettled other → Stays one other
  all_apart one other all before behind =
      apart_still parts now one other n (ap (λ (ps : StructureSets). ps n) all) (unsettled_apart one n before)
      (unsettled_apart other n behind)

  in_ring : (kind : WalkStep) → Effect transacts_by parts hand wire after now later kind
      → IsUnmade parts now hand later n → Stays hand later
  in_ring _ (Effect.reads k all quiet) unmade =
      all_apart hand later all (empty_unsettled hand k.nothing) (copied_unsettled later k.copy k.in_hand)
  in_ring _ (Effect.passes k all quiet) unmade = all_apart hand later all k.unsettled (empty_unsettled later k.nothing)
  in_ring _ (Effect.ends k all quiet) unmade = all_apart hand later all k.unsettled (empty_unsettled later k.nothing)
  in_ring _ (Effect.takes k quiet) unmade =
      let copied : IsCopied member parts k.copy = subst (IsInHand member parts (walk_place c).walk.reply) k.in_hand runs.ring.in_hand in
      take_still parts now hand later n k copied.here
  in_ring _ (Effect.makes k all) unmade =
      ⊎_elim
      (λ (at : k.copy.at ≡ n).
      absurd (unmade (counted k.copy k.out k.reply) (settlement k.copy.queue k.out k.reply) k.later_is at k.copy k.in_hand))
      (λ (differs : k.copy.at ≢ n).
      apart_still parts now hand later n (ap (λ (ps : StructureSets). ps n) all)
      (unsettled_apart hand n (copied_unsettled hand k.copy k.in_hand))
      (settled_apart later n (counted k.copy k.out k.reply) (settlement k.copy.queue k.out k.reply) k.later_is differs))
      (cases_eq k.copy.at n)
  in_ring _ (Effect.writes_back k quiet) unmade =
      let two : IsCopied member parts k.copy × IsSettled k.copy.queue (walk_place c).walk.reply k.settled =
      subst (IsInHand member parts (walk_place c).walk.reply) k.in_hand runs.ring.in_hand in
      write_still parts now hand later n k.copy k.settled (settled_queue_of k.copy k.settled) (ring_token k.copy k.settled)
      (ring_writes member parts hand now later k (walk_place c).walk.reply two.0 two.1)

  of_control : ControlEffect begins_by transacts_by parts hand wire after now later → IsUnmade parts now hand later n → Stays hand later
  of_control (a_microframe b) unmade q r here there rests =
      let is : r ≡ q = found_queue (parts n n) r q (sym (ap (λ (ps : StructureSets). ps n n) b.parts_stay) ∙ there) here in
      alike_still parts now hand later n q r is (ap (λ (l : Hand). hand_host l n r) b.hand_stays ∙ ap (hand_host hand n) is)
  of_control (a_step w) unmade q r here there rests = in_ring w.kind w.effect unmade q r here there rests

  -- ---- the frames don't meet it

  never : (a : ℕ) (kind : Kind) → met a ≡ Some kind → n ≢ a
  never a AQueue on same = unmet (ap met same ∙ on)
  never a AnItd on same =
      let m : IsMetItd met n (parts n) = runs.members n AnItd (ap met same ∙ on) in let both : _ ≡ _ = sym m.here ∙ head in cc
  never a ASitd on same =
      let m : IsMetSitd met n (parts n) = runs.members n ASitd (ap met same ∙ on) in let both : _ ≡ _ = sym m.here ∙ head in cc

  others : (one : Copy) → met one.at ≡ Some AQueue → one.at ≢ n
  others one on same = never one.at AQueue on (sym same)

  module _ (f : WalksFrames transacts_by parts c.control hand frame wire after now later frame_later) where
    before_apart : IsApart (queue_hand frame) n
    before_apart = by frame (runs.walk f.part).in_hand
      where
        by : (h : FrameHand) → IsInFrame met parts (frame_place c).walk.got (frame_place c).walk.reply h → IsApart (queue_hand h) n
        by Nothing k = unsettled_apart (queue_hand Nothing) n (empty_is Nothing refl)
        by (OfQueue d made) k = unsettled_apart (Copied d) n (copied_unsettled (Copied d) d refl)
        by (OfSettled d s made) k = settled_apart (queue_hand (OfSettled d s made)) n d _ refl (others d k.0.on)
        by (OfItd d) k = unsettled_apart (queue_hand (OfItd d)) n (empty_is (OfItd d) refl)
        by (OfSitd d) k = unsettled_apart (queue_hand (OfSitd d)) n (empty_is (OfSitd d) refl)

    abbrev then_apart : Type 0
    then_apart = IsApart (queue_hand frame_later) n

    made_apart : MakesOne transacts_by parts c.control.frame frame wire after frame_later → IsApart (queue_hand frame_later) n
    made_apart (of_queue r) =
        settled_apart (queue_hand frame_later) n r.copy _ (ap queue_hand r.later_is)
        (others r.copy
        (subst (IsInFrame met parts (frame_place c).walk.got (frame_place c).walk.reply) r.in_hand (runs.walk f.part).in_hand).on)
    made_apart (of_itd r) = unsettled_apart (queue_hand frame_later) n (empty_is frame_later (ap queue_hand r.later_is))
    made_apart (of_sitd r) = unsettled_apart (queue_hand frame_later) n (empty_is frame_later (ap queue_hand r.later_is))

    wrote_apart : WritesOne parts c.control.frame frame now frame_later → IsApart (queue_hand frame_later) n
    wrote_apart (of_queue r) =
        unsettled_apart (queue_hand frame_later) n
        (writes_copy transacts_by met parts frame (frame_place c) wire after now frame_later
        (record { tells = runs.ring.tells; members = runs.members; walk = runs.walk f.part }) r).unsettled
    wrote_apart (of_itd r) = unsettled_apart (queue_hand frame_later) n (empty_is frame_later (ap queue_hand r.nothing))
    wrote_apart (of_sitd r) = unsettled_apart (queue_hand frame_later) n (empty_is frame_later (ap queue_hand r.nothing))

    behind_apart : (kind : WalkStep) → FrameEffect transacts_by parts c.control.frame frame wire after now frame_later kind
        → IsApart (queue_hand frame_later) n
    behind_apart _ (FrameEffect.fetches none r all quiet) =
        unsettled_apart (queue_hand frame_later) n (fetched_unsettled parts c.control.frame frame_later r)
    behind_apart _ (FrameEffect.passes un nothing all quiet) =
        unsettled_apart (queue_hand frame_later) n (empty_is frame_later (ap queue_hand nothing))
    behind_apart _ (FrameEffect.ends none nothing all quiet) =
        unsettled_apart (queue_hand frame_later) n (empty_is frame_later (ap queue_hand nothing))
    behind_apart _ (FrameEffect.takes r quiet) =
        unsettled_apart (queue_hand frame_later) n (copied_unsettled (queue_hand frame_later) r.new (ap queue_hand r.later_is))
    behind_apart _ (FrameEffect.makes r all) = made_apart r
    behind_apart _ (FrameEffect.writes r quiet) = wrote_apart r

    by_frame : Stays (joined hand frame) (joined later frame_later)
    by_frame =
        subst (λ (l : Hand). Stays l (joined later frame_later)) (sym (joined_frame hand frame f.nothing))
        (subst (λ (l : Hand). Stays (queue_hand frame) l) (sym (joined_frame later frame_later (f.hand_stays ∙ f.nothing)))
        (apart_still parts now (queue_hand frame) (queue_hand frame_later) n
        (frame_leaves transacts_by met parts c.control.frame frame wire after now frame_later f.kind n
        (runs.walk f.part).in_hand f.effect never)
        before_apart (behind_apart f.kind f.effect)))

  pub head_stays : BothEffect begins_by transacts_by parts c.control hand frame wire after now later frame_later
      → IsUnmade parts now (joined hand frame) (joined later frame_later) n → Stays (joined hand frame) (joined later frame_later)
  head_stays (of_ring effect free) unmade =
      subst (λ (f : FrameHand). Stays (joined hand f) (joined later frame_later)) (sym free.0)
      (subst (λ (f : FrameHand). Stays hand (joined later f)) (sym free.1)
      (of_control effect
      (subst (λ (f : FrameHand). IsUnmade parts now hand (joined later f) n) free.1
      (subst (λ (f : FrameHand). IsUnmade parts now (joined hand f) (joined later frame_later) n) free.0 unmade))))
  head_stays (of_frame w) unmade = by_frame w
