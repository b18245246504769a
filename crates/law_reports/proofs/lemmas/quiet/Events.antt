-- Each event of the controller, of either walk, leaves errors where its transaction counts none.
use Rattle.std.proofs.Common.{◌≡◌, ℕ, ◌==◌, cond, Bool, true, false, not, ◌&&◌, if◌then◌else◌, List, Option, Some, ap, refl, sym}
use Rattle.std.proofs.Common.{subst, ◌∙◌, ⊎_elim}
use Rattle.std.proofs.lemmas.Bool.{eq-eqb, false≢true}
use Rattle.std.proofs.lemmas.Option.{same_Some}
use Rattle.usb_base.specs.declared.packets.Ask.{Ask}
use Rattle.usb_base.specs.declared.packets.Reply.{Reply}
use Rattle.qh_qtd.specs.declared.qtd.Qtd.{Qtd}
use Rattle.qh_qtd.specs.declared.queue_head.Qh.{Qh}
use Rattle.itd_sitd.specs.declared.itd.Itd.{Itd}
use Rattle.itd_sitd.specs.declared.sitd.Sitd.{Sitd}
use Rattle.hc_copy.specs.declared.held.Visit.{Visit}
use Rattle.hc_copy.specs.declared.held.Visit.TheVariants as visits
use Rattle.hc_copy.specs.Overlay.{advanced, moved, settled_queue}
use Rattle.hc_copy.specs.Visits.{visit_of}
use Rattle.hc_copy.specs.WriteBack.{moved_by}
use Rattle.hc_interrupt.specs.declared.turns.Turn.TheVariants as queue_turns
use Rattle.hc_interrupt.specs.Turns.{turn_of, complete_turn, start_turn, is_missed, microframe_of}
use Rattle.hc_iso.specs.WriteBack.{sitd_received, moved_by as sitd_moved_by}
use Rattle.hc_masks.specs.Masks.{has}
use Rattle.async_walk.specs.declared.state.WalkStep.{WalkStep}
use Rattle.periodic_walk.specs.Walk.{Walk}
use Rattle.law_structures.specs.lent_structures.Changes.{relinked}
use Rattle.law_structures.specs.lent_structures.Structures.{QueueHead, Element, Buffer, Isochronous, SplitIsochronous, StructureSets, put}
use Rattle.law_structures.specs.lent_structures.WriteBack.{Received, Nothing, Into, qtd_after, received_parts, parts_back}
use Rattle.law_structures.proofs.lemmas.lent_structures.Names.{put_found, put_same}
use Rattle.law_structures.proofs.lemmas.lent_structures.Altering.{same_queue}
use Rattle.law_ring.specs.Hand.{Copy, Settlement, settled_queue_of, Hand, Empty, Copied}
use Rattle.law_ring.specs.Effects.{settlement, received_into, Takes, Makes, Effect}
use Rattle.law_ring.specs.Effects.Effect.{reads as ring_reads, passes as ring_passes, ends as ring_ends, takes as ring_takes}
use Rattle.law_ring.specs.Effects.Effect.{makes as ring_makes, writes_back as ring_writes}
use Rattle.law_ring.specs.Ring.{IsCopied, IsSettled, IsInHand}
use Rattle.law_frames.specs.Met.{Kind}
use Rattle.law_frames.specs.FrameHand.{QueueSettlement, settled_in, FrameHand, OfQueue}
use Rattle.law_frames.specs.FrameHand.FrameHand.{Nothing as NoneHeld}
use Rattle.law_frames.specs.Frame.{IsQueueSettled, IsCopiedQueue, IsInFrame}
use Rattle.law_frames.specs.FrameEffects.{IsSettledFrom, was_worked, was_missed, itd_back, sitd_back, frame_settlement, WritesQueue}
use Rattle.law_frames.specs.FrameEffects.{MakesOfQueue, FrameEffect}
use Rattle.law_frames.specs.FrameEffects.FrameEffect.{fetches as frame_fetches, passes as frame_passes, ends as frame_ends}
use Rattle.law_frames.specs.FrameEffects.FrameEffect.{takes as frame_takes, makes as frame_makes, writes as frame_writes}
use Rattle.law_frames.specs.FrameEffects.WritesOne.{of_queue as write_queue, of_itd as write_itd, of_sitd as write_sitd}
use Rattle.law_frames.specs.FrameEffects.MakesOne.{of_queue as make_queue, of_itd as make_itd, of_sitd as make_sitd}
use Rattle.law_frames.specs.FrameEffects.Fetches.{of_queue as fetch_queue, of_itd as fetch_itd, of_sitd as fetch_sitd}
use Rattle.law_controller.specs.frame_control.Joined.{joined}
use Rattle.law_reports.specs.quiet.Errors.{Key, key_of, TokenHasLeft, HostHasLeft, PartHasLeft, HandHasLeft}
use Rattle.law_reports.proofs.lemmas.quiet.Writing.{token_as, head_put, element_put, other_put}

-- ---- fields

advanced_key : (q : Qh) (a : ℕ) (t : Qtd) → key_of (advanced q a t) ≡ key_of q
unfolding advanced
advanced_key q a t = refl

advanced_token : (Q : Key → Bool) (x : Key) (q : Qh) (a : ℕ) (t : Qtd) → TokenHasLeft Q x t.token → TokenHasLeft Q x (advanced q a t).token
unfolding advanced
advanced_token Q x q a t k = record { met = k.met; going = k.going; stopped = k.stopped; setup = k.setup }

-- the queue head that a write-back leaves
ring_back : (Q : Key → Bool) (x : Key) (c : Copy) (z : Settlement) (n : ℕ) → HostHasLeft Q x c.queue.token.pid z.host
    → TokenHasLeft Q x (moved (settled_queue_of c z) n).token
unfolding moved settled_queue
ring_back Q x c z n k = record { met = k.met; going = k.going; stopped = k.stopped; setup = k.setup }

frame_back : (Q : Key → Bool) (x : Key) (c : Copy) (z : QueueSettlement) (n : ℕ)
    → HostHasLeft Q x c.queue.token.pid z.host
    → TokenHasLeft Q x (moved (settled_in c z) n).token
unfolding moved settled_queue
frame_back Q x c z n k = record { met = k.met; going = k.going; stopped = k.stopped; setup = k.setup }

ring_key : (c : Copy) (z : Settlement) (n : ℕ) → key_of (relinked c.queue (moved (settled_queue_of c z) n)) ≡ key_of c.queue
unfolding moved settled_queue
ring_key c z n = refl

frame_key : (c : Copy) (z : QueueSettlement) (n : ℕ) → key_of (relinked c.queue (moved (settled_in c z) n)) ≡ key_of c.queue
unfolding moved settled_queue
frame_key c z n = refl

-- only below high speed is a microframe missed
rests : (q : Qh) (u : ℕ) → start_turn (visit_of (has q.smask u) q) ≡ queue_turns.Miss → ⊥
rests q u is = none (visit_of (has q.smask u) q) is
  where
    none : (v : Visit) → start_turn v ≡ queue_turns.Miss → ⊥
    none visits.Rest e = cc
    none visits.Work e = cc
    none (visits.Take l) e = cc

misses_below : (f : ℕ) (q : Qh) → turn_of f q ≡ queue_turns.Miss → q.eps ≡ 2 → ⊥
misses_below f q is high =
    rests q (microframe_of f)
    (sym (ap (λ (b : Bool). if not b && (q.token.split_state && (q.token.active && not q.token.halted))
    then complete_turn (is_missed f q) (has q.cmask (microframe_of f)) else start_turn (visit_of (has q.smask (microframe_of f)) q))
    (eq-eqb q.eps 2 high)) ∙ is)

-- .. and of a split transaction that goes on
misses_active : (f : ℕ) (q : Qh) → turn_of f q ≡ queue_turns.Miss → q.token.active ≡ true
misses_active f q is = by q.token.active refl
  where
    not_waiting : (slow wait : Bool) → (slow && (wait && false)) ≡ false
    not_waiting true true = refl
    not_waiting true false = refl
    not_waiting false wait = refl

    by : (b : Bool) → q.token.active ≡ b → b ≡ true
    by true on = refl
    by false off =
        absurd (rests q (microframe_of f)
        (sym (ap (λ (b : Bool). if not (q.eps == 2) && (q.token.split_state && (b && not q.token.halted))
        then complete_turn (is_missed f q) (has q.cmask (microframe_of f)) else start_turn (visit_of (has q.smask (microframe_of f)) q)) off
        ∙ ap (λ (b : Bool). if b then complete_turn (is_missed f q) (has q.cmask (microframe_of f))
        else start_turn (visit_of (has q.smask (microframe_of f)) q)) (not_waiting (not (q.eps == 2)) q.token.split_state)) ∙ is))

module _ (Q : Key → Bool) where
  after_left : (x : Key) (c : Qh) (t : Qtd) (b : Bool) → TokenHasLeft Q x c.token → TokenHasLeft Q x t.token
      → TokenHasLeft Q x (cond b t (record t { token = c.token })).token
  after_left x c t true new old = old
  after_left x c t false new old = new

  no_buffer_queue : (pages : List ℕ) (k : ℕ) (bs : List ℕ) (q : Qh) → QueueHead q ≡ Buffer pages k bs → ⊥
  no_buffer_queue pages k bs q e = cc

  no_buffer_qtd : (pages : List ℕ) (k : ℕ) (bs : List ℕ) (t : Qtd) → Element t ≡ Buffer pages k bs → ⊥
  no_buffer_qtd pages k bs t e = cc

  pub received_left : (parts : StructureSets) (m : ℕ) (got : List ℕ) (r : Received) (n : ℕ) → PartHasLeft Q n (parts n)
      → PartHasLeft Q n (received_parts parts m got r n)
  received_left parts m got Nothing n k = k
  received_left parts m got (Into pages i bs j) n k =
      other_put Q parts m _ (Buffer pages i _) (no_buffer_queue pages i _) (no_buffer_qtd pages i _) n k

  received_element : (parts : StructureSets) (m : ℕ) (got : List ℕ) (r : Received) (b : ℕ) (t : Qtd)
      → received_parts parts m got r m b ≡ Some (Element t)
      → parts m b ≡ Some (Element t)
  received_element parts m got Nothing b t here = here
  received_element parts m got (Into pages i bs j) b t here =
      ⊎_elim (λ (is : (m ≡ m) × (b ≡ _) × (Element t ≡ Buffer pages i _)). absurd (no_buffer_qtd pages i _ t is.2))
      (λ (old : parts m b ≡ Some (Element t)). old) (put_found parts m _ (Buffer pages i _) m b (Element t) here)

  -- ---- a qTD is taken

  pub takes_left : (parts : StructureSets) (hand : Hand) (now : StructureSets) (later : Hand) (t : Takes parts hand now later)
      → parts t.copy.at t.copy.at ≡ Some (QueueHead t.copy.queue) → ((n : ℕ) → PartHasLeft Q n (parts n)) → (n : ℕ)
      → PartHasLeft Q n (now n)
  takes_left parts hand now later t here k n =
      let c = t.copy in
      let own = k c.at in
      let key = advanced_key c.queue t.element t.qtd in
      let was : TokenHasLeft Q (key_of (advanced c.queue t.element t.qtd)) t.qtd.token =
      token_as Q (key_of c.queue) (key_of (advanced c.queue t.element t.qtd)) t.qtd.token.missed t.qtd.token.active t.qtd.token.halted
      t.qtd.token.cerr t.qtd.token.pid t.qtd.token.total key
      (own.elements c.queue t.element t.qtd here t.here) in
      subst (λ (ps : StructureSets). PartHasLeft Q n (ps n)) (sym t.now_is)
      (head_put Q parts c.at c.at (advanced c.queue t.element t.qtd)
      (advanced_token Q (key_of (advanced c.queue t.element t.qtd)) c.queue t.element t.qtd was)
      (λ u b there. token_as Q (key_of c.queue) (key_of (advanced c.queue t.element t.qtd)) u.token.missed u.token.active u.token.halted
      u.token.cerr u.token.pid u.token.total key
      (own.elements c.queue b u here there)) n (k n))

  -- ---- a write-back

  pub back_parts : (parts : StructureSets) (c : Copy) (h : Qh) (count : ℕ) (got : List ℕ) (r : Received) (t : Qtd)
      → parts c.at c.at ≡ Some (QueueHead c.queue) → parts c.at c.queue.current ≡ Some (Element t)
      → TokenHasLeft Q (key_of c.queue) (moved h count).token → key_of (relinked c.queue (moved h count)) ≡ key_of c.queue
      → ((n : ℕ) → PartHasLeft Q n (parts n)) → (n : ℕ) → PartHasLeft Q n (parts_back parts c.at c.at c.queue h count got r t n)
  back_parts parts c h count got r t here there new key k n =
      let q = moved h count in
      let head = relinked c.queue q in
      let one = received_parts parts c.at got r in
      let two = put one c.at c.at (QueueHead (relinked c.queue q)) in
      let own = k c.at in
      let old : TokenHasLeft Q (key_of c.queue) t.token = own.elements c.queue c.queue.current t here there in
      let first : (m : ℕ) → PartHasLeft Q m (two m) = λ m.
      head_put Q one c.at c.at head (token_as Q (key_of c.queue)
      (key_of head) q.token.missed q.token.active q.token.halted q.token.cerr q.token.pid q.token.total key new)
      (λ u b found. token_as Q (key_of c.queue) (key_of head) u.token.missed u.token.active u.token.halted u.token.cerr
      u.token.pid u.token.total key
      (own.elements c.queue b u here (received_element parts c.at got r b u found))) m
      (received_left parts c.at got r m (k m)) in
      let last = after_left (key_of c.queue) q t q.token.active new old in
      let left = qtd_after q t in
      element_put Q two c.at h.current left
      (λ r here_now.
      let same : r ≡ head = same_queue r head (same_Some (QueueHead r) (QueueHead head) (sym here_now ∙ put_same one c.at c.at
      (QueueHead head))) in
      token_as Q (key_of c.queue) (key_of r) left.token.missed left.token.active left.token.halted left.token.cerr
      left.token.pid left.token.total (ap key_of same
      ∙ key) last)
      n (first n)

  -- ---- the walk of the ring

  module _ {W : Type 0} (transacts : W → Ask → List ℕ → Reply → W → Type 0) (member : ℕ → Bool) (parts : StructureSets) (hand : Hand)
      (wire after : W) (now : StructureSets) (later : Hand) (reply : Reply) (in_hand : IsInHand member parts reply hand)
      (answers : (m : Makes transacts parts hand wire after later) → parts m.copy.at m.copy.at ≡ Some (QueueHead m.copy.queue)
      → HostHasLeft Q (key_of m.copy.queue) m.copy.queue.token.pid (settlement m.copy.queue m.out m.reply).host) where
    pub ring_parts : (kind : WalkStep) → Effect transacts parts hand wire after now later kind → HandHasLeft Q hand
        → ((n : ℕ) → PartHasLeft Q n (parts n)) → (n : ℕ) → PartHasLeft Q n (now n)
    ring_parts kind (ring_reads r same quiet) had k n = subst (λ (ps : StructureSets). PartHasLeft Q n (ps n)) (sym same) (k n)
    ring_parts kind (ring_passes r same quiet) had k n = subst (λ (ps : StructureSets). PartHasLeft Q n (ps n)) (sym same) (k n)
    ring_parts kind (ring_ends r same quiet) had k n = subst (λ (ps : StructureSets). PartHasLeft Q n (ps n)) (sym same) (k n)
    ring_parts kind (ring_makes m same) had k n = subst (λ (ps : StructureSets). PartHasLeft Q n (ps n)) (sym same) (k n)
    ring_parts kind (ring_takes t quiet) had k n =
        let copied : IsCopied member parts t.copy = subst (IsInHand member parts reply) t.in_hand in_hand in
        takes_left parts hand now later t copied.here k n
    ring_parts kind (ring_writes w quiet) had k n =
        let c = w.copy in
        let copied : IsCopied member parts w.copy × IsSettled w.copy.queue reply w.settled = subst
        (IsInHand member parts reply) w.in_hand in_hand in
        let host : HostHasLeft Q (key_of c.queue) c.queue.token.pid w.settled.host = subst (HandHasLeft Q) w.in_hand had in
        subst (λ (ps : StructureSets). PartHasLeft Q n (ps n)) (sym w.now_is)
        (back_parts parts c (settled_queue_of c w.settled) (moved_by w.settled.outcome) w.settled.got
        (received_into (parts c.at) c.queue w.element w.settled.got) w.element copied.0.here w.here
        (ring_back Q (key_of c.queue) c w.settled (moved_by w.settled.outcome) host) (ring_key c w.settled
        (moved_by w.settled.outcome)) k n)

    pub ring_hand : (kind : WalkStep) → Effect transacts parts hand wire after now later kind → HandHasLeft Q later
    ring_hand kind (ring_reads r same quiet) = subst (HandHasLeft Q) (sym r.in_hand) tt
    ring_hand kind (ring_passes r same quiet) = subst (HandHasLeft Q) (sym r.nothing) tt
    ring_hand kind (ring_ends r same quiet) = subst (HandHasLeft Q) (sym r.nothing) tt
    ring_hand kind (ring_takes t quiet) = subst (HandHasLeft Q) (sym t.later_is) tt
    ring_hand kind (ring_writes w quiet) = subst (HandHasLeft Q) (sym w.nothing) tt
    ring_hand kind (ring_makes m same) =
        let copied : IsCopied member parts m.copy = subst (IsInHand member parts reply) m.in_hand in_hand in
        subst (HandHasLeft Q) (sym m.later_is) (answers m copied.here)

  -- ---- the walk of the frames

  no_itd_queue : (v : Itd) (q : Qh) → QueueHead q ≡ Isochronous v → ⊥
  no_itd_queue v q e = cc

  no_itd_qtd : (v : Itd) (t : Qtd) → Element t ≡ Isochronous v → ⊥
  no_itd_qtd v t e = cc

  no_sitd_queue : (v : Sitd) (q : Qh) → QueueHead q ≡ SplitIsochronous v → ⊥
  no_sitd_queue v q e = cc

  no_sitd_qtd : (v : Sitd) (t : Qtd) → Element t ≡ SplitIsochronous v → ⊥
  no_sitd_qtd v t e = cc

  same_copy : (c e : Copy) → Copied c ≡ Copied e → c ≡ e
  same_copy c e is = cc

  module _ {W : Type 0} (transacts : W → Ask → List ℕ → Reply → W → Type 0) (met : ℕ → Option Kind) (parts : StructureSets) (w : Walk) (frame : FrameHand)
      (wire after : W) (now : StructureSets) (later : FrameHand) (in_hand : IsInFrame met parts w.got w.reply frame)
      (answers : (m : MakesOfQueue transacts parts w frame wire after later) → IsCopiedQueue met parts m.copy
      → HostHasLeft Q (key_of m.copy.queue) m.copy.queue.token.pid (frame_settlement w.index m.copy.queue m.out m.reply).host) where
    abbrev FrameHas : FrameHand → Type 0
    FrameHas h = HandHasLeft Q (joined Empty h)

    module _ (v : WritesQueue parts w frame now later) (had : FrameHas frame) (k : (n : ℕ) → PartHasLeft Q n (parts n)) where
      from_here : IsSettledFrom w frame v.copy v.settled v.made → parts v.copy.at v.copy.at ≡ Some (QueueHead v.copy.queue)
      from_here (was_worked is) =
          let both : IsCopiedQueue met parts v.copy × IsQueueSettled v.copy.queue w.reply v.settled = subst
          (IsInFrame met parts w.got w.reply) is in_hand in
          both.0.here
      from_here (was_missed is turn settled) =
          let copied : IsCopiedQueue met parts v.copy = subst (IsInFrame met parts w.got w.reply) is in_hand in copied.here

      from_host : IsSettledFrom w frame v.copy v.settled v.made → HostHasLeft Q (key_of v.copy.queue) v.copy.queue.token.pid v.settled.host
      from_host (was_worked is) = subst FrameHas is had
      from_host (was_missed is turn settled) =
          let old : TokenHasLeft Q (key_of v.copy.queue) v.copy.queue.token =
          (k v.copy.at).head v.copy.queue (from_here (was_missed is turn settled)) in
          subst (λ (z : QueueSettlement). HostHasLeft Q (key_of v.copy.queue) v.copy.queue.token.pid z.host) (sym settled)
          (record {
            met = λ fast. absurd (misses_below w.index v.copy.queue turn fast);
            going = λ on act. absurd (false≢true act);
            stopped = λ on act. old.going on (misses_active w.index v.copy.queue turn);
            setup = λ on pid act. absurd (false≢true act);
          })

      queue_parts : (n : ℕ) → PartHasLeft Q n (now n)
      queue_parts n =
          let c = v.copy in
          subst (λ (ps : StructureSets). PartHasLeft Q n (ps n)) (sym v.now_is)
          (back_parts parts c (settled_in c v.settled) (moved_by v.settled.outcome) v.settled.got
          (received_into (parts c.at) c.queue v.element v.settled.got) v.element (from_here v.from) v.here
          (frame_back Q (key_of c.queue) c v.settled (moved_by v.settled.outcome) (from_host v.from)) (frame_key c v.settled
          (moved_by v.settled.outcome)) k n)

    pub frame_parts : (kind : WalkStep) → FrameEffect transacts parts w frame wire after now later kind → FrameHas frame
        → ((n : ℕ) → PartHasLeft Q n (parts n)) → (n : ℕ) → PartHasLeft Q n (now n)
    frame_parts kind (frame_fetches none f same quiet) had k n = subst (λ (ps : StructureSets). PartHasLeft Q n (ps n)) (sym same) (k n)
    frame_parts kind (frame_passes some none same quiet) had k n = subst (λ (ps : StructureSets). PartHasLeft Q n (ps n)) (sym same) (k n)
    frame_parts kind (frame_ends none also same quiet) had k n = subst (λ (ps : StructureSets). PartHasLeft Q n (ps n)) (sym same) (k n)
    frame_parts kind (frame_makes m same) had k n = subst (λ (ps : StructureSets). PartHasLeft Q n (ps n)) (sym same) (k n)
    frame_parts kind (frame_takes t quiet) had k n =
        let copied : IsCopiedQueue met parts t.copy = subst (IsInFrame met parts w.got w.reply) t.in_hand in_hand in
        let same : t.copy ≡ t.takes.copy = same_copy t.copy t.takes.copy t.takes.in_hand in
        takes_left parts (Copied t.copy) now (Copied t.new) t.takes
        (subst (λ (c : Copy). parts c.at c.at ≡ Some (QueueHead c.queue)) same copied.here) k n
    frame_parts kind (frame_writes (write_queue v) quiet) had k n = queue_parts v had k n
    frame_parts kind (frame_writes (write_itd v) quiet) had k n =
        let at = v.copy.held.at in
        let one = received_parts parts at w.got v.into in
        subst (λ (ps : StructureSets). PartHasLeft Q n (ps n)) (sym v.now_is)
        (other_put Q one at at (Isochronous (itd_back v.copy)) (no_itd_queue (itd_back v.copy)) (no_itd_qtd (itd_back v.copy)) n
        (received_left parts at w.got v.into n (k n)))
    frame_parts kind (frame_writes (write_sitd v) quiet) had k n =
        let at = v.back.held.at in
        let count = sitd_moved_by v.outcome in
        let got = sitd_received v.back.held.sitd.dir_in v.outcome w.reply in
        let one = received_parts parts at got v.into in
        subst (λ (ps : StructureSets). PartHasLeft Q n (ps n)) (sym v.now_is)
        (other_put Q one at at (SplitIsochronous (sitd_back v.back count)) (no_sitd_queue (sitd_back v.back count)) (no_sitd_qtd
        (sitd_back v.back count)) n
        (received_left parts at got v.into n (k n)))

    after_has : (b : Bool) (c : Copy) (made : ℕ) → FrameHas (if b then OfQueue c made else NoneHeld)
    after_has true c made = tt
    after_has false c made = tt

    pub frame_hand : (kind : WalkStep) → FrameEffect transacts parts w frame wire after now later kind → FrameHas later
    frame_hand kind (frame_fetches none (fetch_queue f) same quiet) = subst FrameHas (sym f.in_hand) tt
    frame_hand kind (frame_fetches none (fetch_itd f) same quiet) = subst FrameHas (sym f.in_hand) tt
    frame_hand kind (frame_fetches none (fetch_sitd f) same quiet) = subst FrameHas (sym f.in_hand) tt
    frame_hand kind (frame_passes some none same quiet) = subst FrameHas (sym none) tt
    frame_hand kind (frame_ends none also same quiet) = subst FrameHas (sym also) tt
    frame_hand kind (frame_takes t quiet) = subst FrameHas (sym t.later_is) tt
    frame_hand kind (frame_makes (make_queue m) same) =
        let copied : IsCopiedQueue met parts m.copy = subst (IsInFrame met parts w.got w.reply) m.in_hand in_hand in
        subst FrameHas (sym m.later_is) (answers m copied)
    frame_hand kind (frame_makes (make_itd m) same) = subst FrameHas (sym m.later_is) tt
    frame_hand kind (frame_makes (make_sitd m) same) = subst FrameHas (sym m.later_is) tt
    frame_hand kind (frame_writes (write_queue v) quiet) = subst FrameHas (sym v.later_is) (after_has _ _ _)
    frame_hand kind (frame_writes (write_itd v) quiet) = subst FrameHas (sym v.nothing) tt
    frame_hand kind (frame_writes (write_sitd v) quiet) = subst FrameHas (sym v.nothing) tt
