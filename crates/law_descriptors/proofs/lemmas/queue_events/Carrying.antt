-- Both sides of the pipe of an OUT endpoint agree where an event of either walk tells nothing otherwise, whichever queue head it is of.
use Rattle.std.proofs.Common.{◌≡◌, ◌≢◌, ℕ, ◌-◌, min, Bool, true, false, not, if◌then◌else◌, List, [], take, drop, Option, Some, ap, refl, sym, subst, ◌∙◌, ⊎_elim, arith}
use Rattle.std.proofs.lemmas.Bool.{cases_eq, eq-eqb, false≢true}
use Rattle.law_queues.proofs.Common2.{silent_bytes}
use Rattle.law_ring.proofs.Common.{by_none}
use Rattle.usb_base.specs.declared.packets.Ask.{Ask}
use Rattle.usb_base.specs.declared.packets.Pid.TheVariants as Packets
use Rattle.usb_base.specs.declared.packets.Reply.{Reply}
use Rattle.qh_qtd.specs.declared.qtd.Qtd.{Qtd}
use Rattle.qh_qtd.specs.declared.queue_head.Qh.{Qh}
use Rattle.hc_copy.specs.Overlay.{buffer_place, moved, advanced}
use Rattle.hc_copy.specs.Planning.{pid_at}
use Rattle.hc_copy.specs.WriteBack.{moved_by}
use Rattle.async_walk.specs.declared.state.WalkStep.{WalkStep}
use Rattle.periodic_walk.specs.Place.{FramePlace}
use Rattle.hc_core.specs.Controller.{Content, walk_place, frame_place}
use Rattle.law_structures.specs.lent_structures.Settles.{is_moved}
use Rattle.law_structures.specs.lent_structures.Structures.{Structure, QueueHead, Element, Structures, StructureSets, with_structure}
use Rattle.law_structures.specs.lent_structures.Changes.{relinked}
use Rattle.law_structures.proofs.lemmas.lent_structures.Names.{put_beside, with_here, with_there}
use Rattle.law_structures.specs.lent_structures.WriteBack.{CanBeWritten, Nothing as Nowhere, parts_back}
use Rattle.law_structures.specs.lent_structures.Sound.{buffer_name, IsWorking, IsSoundQueue}
use Rattle.law_structures.specs.lent_structures.Alters.{HadElement, Alters}
use Rattle.law_structures.proofs.lemmas.lent_structures.Altering.{found_queue, found_element}
use Rattle.law_structures.proofs.lemmas.lent_structures.Members.{still_active}
use Rattle.law_ring.specs.Hand.{Copy, Settlement, settled_queue_of, Hand, Empty, Copied, Settled}
use Rattle.claims_base.specs.Controller.{Base}
use Rattle.law_ring.specs.Ring.{IsCopied, IsSettled, IsInHand}
use Rattle.law_ring.specs.Effects.{bytes_in, buffer_of, received_into, Takes, Effect, Asks, came_to}
use Rattle.law_ring.specs.QueueParts.{IsQueuePart}
use Rattle.law_ring.proofs.QueueParts.{member_part}
use Rattle.law_ring.specs.Told.{hand_toggle, HasToggle, Endpoint}
use Rattle.law_ring.proofs.Keeping.{IsUnsettled, empty_unsettled, copied_unsettled, unsettled_toggle}
use Rattle.law_ring.proofs.Growing.{ring_asks}
use Rattle.law_ring.proofs.Written.{WritesCopy, can, beside, head_now, ring_writes}
use Rattle.law_ring.specs.OutBus.{Taker}
use Rattle.law_ring.specs.OutPipes.{IsOut, IsNext, IsUnmoved, OutAgrees, level, ahead, ended}
use Rattle.law_ring.proofs.Transporting.{carried}
use Rattle.law_ring.proofs.OutPipeEvents.{unmoved_made}
use Rattle.law_controller.specs.controlled_streams.Control.{ControlEffect, a_microframe, a_step}
use Rattle.law_frames.specs.Met.{Kind}
use Rattle.law_frames.specs.FrameHand.{QueueSettlement, came, settled_in, FrameHand, queue_hand}
use Rattle.law_frames.specs.Frame.{IsCopiedQueue, IsQueueSettled, IsFrame}
use Rattle.law_frames.specs.FrameEffects.{MakesOne, missed_settlement, IsSettledFrom, was_worked, was_missed, WritesQueue, WritesOne, of_queue, of_itd, of_sitd, FrameEffect}
use Rattle.law_frames.proofs.QueueBacks.{hand_is_settled}
use Rattle.law_frames.proofs.Telling.{empty_is, fetched_unsettled, taken_there, asked, writes_copy, itd_leaves, sitd_leaves}
use Rattle.law_controller.specs.frame_control.Both.{RunsBoth, WalksFrames, BothEffect, of_ring, of_frame}
use Rattle.law_controller.specs.frame_control.Joined.{joined}
use Rattle.law_controller.proofs.lemmas.frame_control.Joining.{joined_frame}

-- ---- what is in hand

unsettled_unmoved : (hand : Hand) (n : ℕ) → IsUnsettled hand → IsUnmoved hand n
unsettled_unmoved (Settled c z) n un = absurd (un c z refl)
unsettled_unmoved _ n un = tt

-- a microframe that was missed moved nothing, and halts the queue head
missed_unmoved : (c : Copy) (n : ℕ) → IsUnmoved (Settled c (came (missed_settlement c.queue))) n
missed_unmoved c n at = (refl, λ off. refl)

-- ---- a write-back without bytes leaves all buffers

unread : (part : Structures) (a : ℕ) (u : Structure) (b : ℕ) → bytes_in (part a) ≡ [] → bytes_in (Some u) ≡ []
    → bytes_in (with_structure part a u b) ≡ bytes_in (part b)
unread part a u b was is =
    ⊎_elim (λ (same_one : b ≡ a). ap (λ (i : ℕ). bytes_in (with_structure part a u i)) same_one ∙ ap bytes_in (with_here part a u) ∙ is
    ∙ sym (ap (λ (i : ℕ). bytes_in (part i)) same_one ∙ was))
    (λ (differs : b ≢ a). ap bytes_in (with_there part a u b differs)) (cases_eq b a)

-- ---- both sides agree still

module _ (parts now : StructureSets) (hand later : Hand) (n : ℕ) (h : Bool) (known : List ℕ) (s : Taker) where
  abbrev pub Carries : Type 0
  Carries = (q r : Qh) → parts n n ≡ Some (QueueHead q) → now n n ≡ Some (QueueHead r) → OutAgrees (parts n) hand n q h known s
      → OutAgrees (now n) later n r h known s

  still_carries : now n ≡ parts n → IsUnmoved later n → Carries
  still_carries is un q r here there k =
      carried (parts n) (now n) hand later n q r h known s is
      (found_queue (parts n n) r q (sym (ap (λ (part : Structures). part n) is) ∙ there) here) un k

  -- a microframe begins
  begun_carries : now ≡ parts → later ≡ hand → Carries
  begun_carries all stays q r here there k =
      subst (λ (l : Hand). OutAgrees (now n) l n r h known s) (sym stays)
      (subst (λ (ps : StructureSets). OutAgrees (ps n) hand n r h known s) (sym all)
      (subst (λ (y : Qh). OutAgrees (parts n) hand n y h known s)
      (found_queue (parts n n) q r here (sym (ap (λ (ps : StructureSets). ps n n) all) ∙ there)) k))

  -- a qTD is taken: the queue head rested, and wasn't halted
  leveled : (q r : Qh) → q.token.active ≡ false → q.token.halted ≡ false → OutAgrees (parts n) hand n q h known s
      → OutAgrees (now n) later n r h known s
  leveled q r idle goes (level e t) = level e t
  leveled q r idle goes (ahead y e t own on next un) = absurd (false≢true (sym idle ∙ on))
  leveled q r idle goes (ended y e t off halted) = absurd (false≢true (sym goes ∙ halted))

  take_carries : (held held_later : Hand) (k : Takes parts held now held_later)
      → parts k.copy.at k.copy.at ≡ Some (QueueHead k.copy.queue) → IsUnmoved later n → Carries
  take_carries held held_later k head un q r here there agreed =
      ⊎_elim (λ (is : n ≡ k.copy.at).
      leveled k.copy.queue r k.idle k.goes_on
      (subst (λ (y : Qh). OutAgrees (parts n) hand n y h known s)
      (found_queue (parts n n) q k.copy.queue here (ap (λ (i : ℕ). parts i i) is ∙ head)) agreed))
      (λ (differs : n ≢ k.copy.at).
      still_carries (ap (λ (ps : StructureSets). ps n) k.now_is
      ∙ put_beside parts k.copy.at k.copy.at (QueueHead (advanced k.copy.queue k.element k.qtd)) n differs) un q r here there agreed)
      (cases_eq n k.copy.at)

  -- a transaction that turned no toggle moved nothing
  asked_carries : {W : Type 0} (transacts : W → Ask → List ℕ → Reply → W → Type 0) (wire after : W)
      (m : Asks transacts parts hand wire after later) → now ≡ parts → HasToggle hand parts n h → HasToggle later now n h → Carries
  asked_carries transacts wire after m all had has =
      still_carries (ap (λ (ps : StructureSets). ps n) all) (subst (λ (l : Hand). IsUnmoved l n) (sym m.later_is) unmoved)
    where
      unmoved : IsUnmoved (Settled m.held (came_to m)) n
      unmoved at =
          let is : m.copy.at ≡ n = sym m.at_same ∙ at in
          let here : parts n n ≡ Some (QueueHead m.copy.queue) = ap (λ (i : ℕ). parts i i) (sym is) ∙ m.here in
          let before : h ≡ m.copy.queue.token.toggle = had.is
          ∙ unsettled_toggle hand n had.queue (copied_unsettled hand m.copy m.in_hand)
          ∙ ap (λ (q : Qh). q.token.toggle) (found_queue (parts n n) had.queue m.copy.queue had.head here) in
          let behind : h ≡ (came_to m).host.toggle = has.is ∙ ap (λ (l : Hand). hand_toggle l n has.queue) m.later_is
          ∙ ap (λ (b : Bool). if b then (came_to m).host.toggle else has.queue.token.toggle) (eq-eqb m.held.at n at) in
          unmoved_made m.kind m.last m.held m.copy.queue m.out m.reply n m.works m.sent.all (sym behind ∙ before) at

-- ---- a transaction is written back

module _ (parts : StructureSets) (hand : Hand) (now : StructureSets) (later : Hand) (c : Copy) (z : Settlement) (x : Qh)
    (w : WritesCopy parts hand now later c z x) (reply : Reply) (settled : IsSettled c.queue reply z) (n : ℕ) (h : Bool)
    (known : List ℕ) (s : Taker) (part_is : IsQueuePart n (parts n)) (part_now : IsQueuePart n (now n)) (outs : IsOut (parts n))
    (alters : Alters (parts n) (now n)) where
  abbrev new : Qh
  new = relinked c.queue (moved x (moved_by z.outcome))

  not_in : Packets.Out ≡ Packets.In → ⊥
  not_in e = cc

  module _ (is : n ≡ c.at) where
    head : parts n n ≡ Some (QueueHead c.queue)
    head = ap (λ (i : ℕ). parts i i) is ∙ w.head

    head_then : now n n ≡ Some (QueueHead new)
    head_then = ap (λ (i : ℕ). now i i) is ∙ head_now parts hand now later c z x w

    work : IsWorking (parts n) c.queue
    work = (subst (IsSoundQueue (parts n)) (found_queue (parts n n) part_is.queue c.queue part_is.here head) part_is.sound).work w.works

    pid : c.queue.token.pid ≡ 0
    pid = work.pid ∙ outs c.queue.current work.element work.here work.published

    -- the buffers keep their bytes
    bytes_stay : (a : ℕ) → bytes_in (now n a) ≡ bytes_in (parts n a)
    bytes_stay a =
        let none : z.got ≡ [] = settled.bytes.none (λ e. not_in (ap pid_at (sym pid) ∙ e)) in
        let back : List ℕ → StructureSets = λ (got : List ℕ). parts_back parts c.at c.at c.queue x (moved_by z.outcome) got
        (received_into (parts c.at) c.queue w.element got) w.element in
        let can_be = can parts hand now later c z x w in
        let quiet : CanBeWritten parts c.at c.at c.queue x [] Nowhere w.element = record
        { copy = can_be.copy; element = can_be.element; received = refl } in
        ap (λ (ps : StructureSets). bytes_in (ps n a)) w.now_is ∙ ap (λ (got : List ℕ). bytes_in (back got n a)) none
        ∙ ap (λ (i : ℕ). bytes_in (back [] i a)) is
        ∙ silent_bytes parts c.at c.queue x (moved_by z.outcome) w.element a quiet ∙ ap (λ (i : ℕ). bytes_in (parts i a)) (sym is)

    -- the qTD goes on: its next packet is the same
    next_still : is_moved z.outcome ≡ false → z.host.active ≡ true → (y : List ℕ) → IsNext (parts n) c.queue y → IsNext (now n) new y
    next_still still on y next =
        let q : Qh = c.queue in
        let w0 : IsWorking (parts n) q = work in
        let w1 : IsWorking (now n) new = (subst (IsSoundQueue (now n)) (found_queue (now n n) part_now.queue new part_now.here head_then)
        part_now.sound).work (w.written.active ∙ on) in
        let had : HadElement (parts n) new.current w1.element = alters.element_before new.current w1.element w1.here in
        let kept : w1.element ≡ had.qtd = still_active had.qtd w1.element had.after w1.published in
        let t0_is : w0.element ≡ next.element = found_element (parts n q.current) w0.element next.element w0.here next.here in
        let t1_is : w1.element ≡ next.element = kept ∙ found_element (parts n q.current) had.qtd next.element
        (ap (parts n) (sym w.written.current) ∙ had.here) next.here in
        let zero = by_none z.outcome still in
        let left = settled.host.left in
        let total_is = w.written.total in
        let total : new.token.total ≡ q.token.total = omega (arith, zero, left, total_is) in
        let place0 = w0.place in
        let place1 = w1.place in
        let o0 = ap (λ (u : Qtd). u.offset) t0_is in
        let o1 = ap (λ (u : Qtd). u.offset) t1_is in
        let e0 = ap (λ (u : Qtd). u.token.total) t0_is in
        let e1 = ap (λ (u : Qtd). u.token.total) t1_is in
        let place : buffer_place new ≡ buffer_place q = omega (arith, place0, place1, total, o0, o1, e0, e1) in
        let max : new.max ≡ q.max = ap (λ (e : Endpoint). e.max) w.named in
        record {
          element = next.element;
          here = w1.here ∙ ap (λ (u : Qtd). Some (Element u)) t1_is;
          is = next.is
              ∙ ap (λ (i : ℕ). take (min i q.token.total) (drop (buffer_place q - next.element.offset) (buffer_of (parts n) next.element)))
              (sym max)
              ∙ ap (λ (i : ℕ). take (min new.max i) (drop (buffer_place q - next.element.offset) (buffer_of (parts n) next.element)))
              (sym total)
              ∙ ap (λ (i : ℕ). take (min new.max new.token.total) (drop (i - next.element.offset) (buffer_of (parts n) next.element)))
              (sym place)
              ∙ ap (λ (ys : List ℕ). take (min new.max new.token.total) (drop (buffer_place new - next.element.offset) ys))
              (sym (bytes_stay (buffer_name next.element)));
        }

    agreed : OutAgrees (parts n) hand n c.queue h known s → OutAgrees (now n) later n new h known s
    agreed (level e y) = level e y
    agreed (ended y e k off halted) = absurd (false≢true (sym off ∙ w.works))
    agreed (ahead y e k own on next old) = by z.host.active refl
      where
        un : (is_moved z.outcome ≡ false) × (z.host.active ≡ false → z.host.halted ≡ true)
        un = subst (λ (l : Hand). IsUnmoved l n) w.in_hand old (sym is)

        by : (b : Bool) → z.host.active ≡ b → OutAgrees (now n) later n new h known s
        by true active = ahead y e k
            (own ∙ sym (w.written.toggle ∙ settled.host.toggle
            ∙ ap (λ (b : Bool). if b then not c.queue.token.toggle else c.queue.token.toggle) un.0))
            (w.written.active ∙ active) (next_still un.0 active y next) (unsettled_unmoved later n w.unsettled)
        by false over = ended y e k (w.written.active ∙ over) (w.written.halted ∙ un.1 over)

  write_carries : Carries parts now hand later n h known s
  write_carries q r here there k =
      ⊎_elim (λ (is : n ≡ c.at).
      subst (λ (y : Qh). OutAgrees (now n) later n y h known s) (found_queue (now n n) new r (head_then is) there)
      (agreed is (subst (λ (y : Qh). OutAgrees (parts n) hand n y h known s) (found_queue (parts n n) q c.queue here (head is)) k)))
      (λ (differs : n ≢ c.at).
      still_carries parts now hand later n h known s (beside parts hand now later c z x w n differs)
      (unsettled_unmoved later n w.unsettled) q r here there k) (cases_eq n c.at)

-- ---- an event of either walk

module _ {W : Type 0} (begins : W → ℕ → Bool → W → Type 0) (transacts : W → Ask → List ℕ → Reply → W → Type 0) (base : Base)
    (member : ℕ → Bool) (met : ℕ → Option Kind) (parts : StructureSets) (hand : Hand) (frame : FrameHand) (c : Content) (wire after : W)
    (now : StructureSets) (later : Hand) (frame_later : FrameHand) (runs : RunsBoth base member met parts hand frame c) (n : ℕ)
    (h : Bool) (known : List ℕ) (s : Taker) (part_is : IsQueuePart n (parts n)) (part_now : IsQueuePart n (now n))
    (outs : IsOut (parts n)) (alters : Alters (parts n) (now n)) where
  abbrev FromTo : Hand → Hand → Type 0
  FromTo one other = Carries parts now one other n h known s

  abbrev Told : Hand → Hand → Type 0
  Told one other = HasToggle one parts n h → HasToggle other now n h → FromTo one other

  -- ---- of the ring

  reply : Reply
  reply = (walk_place c).walk.reply

  stays : (one other : Hand) → now ≡ parts → IsUnsettled other → FromTo one other
  stays one other all un =
      still_carries parts now one other n h known s (ap (λ (ps : StructureSets). ps n) all) (unsettled_unmoved other n un)

  in_ring : (kind : WalkStep) → Effect transacts parts hand wire after now later kind → Told hand later
  in_ring _ (Effect.reads k all quiet) had has = stays hand later all (copied_unsettled later k.copy k.in_hand)
  in_ring _ (Effect.passes k all quiet) had has = stays hand later all (empty_unsettled later k.nothing)
  in_ring _ (Effect.ends k all quiet) had has = stays hand later all (empty_unsettled later k.nothing)
  in_ring _ (Effect.takes k quiet) had has =
      let copied : IsCopied member parts k.copy = subst (IsInHand member parts (walk_place c).walk.reply) k.in_hand runs.ring.in_hand in
      take_carries parts now hand later n h known s hand later k copied.here
      (unsettled_unmoved later n (copied_unsettled later _ k.later_is))
  in_ring _ (Effect.makes k all) had has =
      let copied : IsCopied member parts k.copy = subst (IsInHand member parts (walk_place c).walk.reply) k.in_hand runs.ring.in_hand in
      asked_carries parts now hand later n h known s transacts wire after
      (ring_asks transacts parts hand wire after later k
      (member_part member k.copy.at (parts k.copy.at) (runs.ring.members k.copy.at copied.on)) copied.here) all had has
  in_ring _ (Effect.writes_back k quiet) had has =
      let both : IsCopied member parts k.copy × IsSettled k.copy.queue (walk_place c).walk.reply k.settled =
      subst (IsInHand member parts (walk_place c).walk.reply) k.in_hand runs.ring.in_hand in
      write_carries parts hand now later k.copy k.settled (settled_queue_of k.copy k.settled)
      (ring_writes member parts hand now later k (walk_place c).walk.reply both.0 both.1) (walk_place c).walk.reply both.1 n h known s
      part_is part_now outs alters

  of_control : ControlEffect begins transacts parts hand wire after now later → Told hand later
  of_control (a_microframe b) had has = begun_carries parts now hand later n h known s b.parts_stay b.hand_stays
  of_control (a_step w) had has = in_ring w.kind w.effect had has

  -- ---- of the frames

  module _ (p : FramePlace) (there : IsFrame met parts frame p) where
    emptied : queue_hand frame_later ≡ Empty → now n ≡ parts n → FromTo (queue_hand frame) (queue_hand frame_later)
    emptied is same =
        still_carries parts now (queue_hand frame) (queue_hand frame_later) n h known s same
        (unsettled_unmoved (queue_hand frame_later) n (empty_is frame_later is))

    made_one : MakesOne transacts parts p.walk frame wire after frame_later → now ≡ parts
        → Told (queue_hand frame) (queue_hand frame_later)
    made_one (of_queue r) all had has =
        asked_carries parts now (queue_hand frame) (queue_hand frame_later) n h known s transacts wire after
        (asked transacts met parts frame p wire after now frame_later there r) all had has
    made_one (of_itd r) all had has = emptied (ap queue_hand r.later_is) (ap (λ (ps : StructureSets). ps n) all)
    made_one (of_sitd r) all had has = emptied (ap queue_hand r.later_is) (ap (λ (ps : StructureSets). ps n) all)

    module _ (r : WritesQueue parts p.walk frame now frame_later) where
      settled : IsCopiedQueue met parts r.copy × IsQueueSettled r.copy.queue p.walk.reply r.settled
      settled = hand_is_settled met parts p.walk frame r.copy r.settled r.made there.walk.in_hand r.from

      from_settled : FromTo (Settled r.copy (came r.settled)) (queue_hand frame_later)
      from_settled =
          write_carries parts (Settled r.copy (came r.settled)) now (queue_hand frame_later) r.copy (came r.settled)
          (settled_in r.copy r.settled) (writes_copy transacts met parts frame p wire after now frame_later there r) p.walk.reply
          settled.1.came_to n h known s part_is part_now outs alters

      wrote_queue : IsSettledFrom p.walk frame r.copy r.settled r.made → FromTo (queue_hand frame) (queue_hand frame_later)
      wrote_queue (was_worked is) = subst (λ (l : Hand). FromTo l (queue_hand frame_later)) (sym (ap queue_hand is)) from_settled
      wrote_queue (was_missed is turn missed_is) =
          let un : IsUnmoved (Settled r.copy (came r.settled)) n =
          subst (λ (y : QueueSettlement). IsUnmoved (Settled r.copy (came y)) n) (sym missed_is) (missed_unmoved r.copy n) in
          λ q x here there k. from_settled q x here there
          (carried (parts n) (parts n) (queue_hand frame) (Settled r.copy (came r.settled)) n q q h known s refl refl un k)

    wrote : WritesOne parts p.walk frame now frame_later → FromTo (queue_hand frame) (queue_hand frame_later)
    wrote (of_queue r) = wrote_queue r r.from
    wrote (of_itd r) = emptied (ap queue_hand r.nothing)
        (itd_leaves transacts met parts frame p wire after now frame_later there r n part_is.queue part_is.here)
    wrote (of_sitd r) = emptied (ap queue_hand r.nothing)
        (sitd_leaves transacts met parts frame p wire after now frame_later there r n part_is.queue part_is.here)

    in_frames : (kind : WalkStep) → FrameEffect transacts parts p.walk frame wire after now frame_later kind
        → Told (queue_hand frame) (queue_hand frame_later)
    in_frames _ (FrameEffect.fetches none r all quiet) had has =
        stays (queue_hand frame) (queue_hand frame_later) all (fetched_unsettled parts p.walk frame_later r)
    in_frames _ (FrameEffect.passes un nothing all quiet) had has =
        stays (queue_hand frame) (queue_hand frame_later) all (empty_is frame_later (ap queue_hand nothing))
    in_frames _ (FrameEffect.ends none nothing all quiet) had has =
        stays (queue_hand frame) (queue_hand frame_later) all (empty_is frame_later (ap queue_hand nothing))
    in_frames _ (FrameEffect.takes r quiet) had has =
        take_carries parts now (queue_hand frame) (queue_hand frame_later) n h known s (Copied r.copy) (Copied r.new) r.takes
        (taken_there transacts met parts frame p wire after now frame_later there r)
        (unsettled_unmoved (queue_hand frame_later) n (copied_unsettled (queue_hand frame_later) r.new (ap queue_hand r.later_is)))
    in_frames _ (FrameEffect.makes r all) had has = made_one r all had has
    in_frames _ (FrameEffect.writes r quiet) had has = wrote r

  by_frame : WalksFrames transacts parts c.control hand frame wire after now later frame_later
      → Told (joined hand frame) (joined later frame_later)
  by_frame w =
      subst (λ (l : Hand). Told l (joined later frame_later)) (sym (joined_frame hand frame w.nothing))
      (subst (λ (l : Hand). Told (queue_hand frame) l) (sym (joined_frame later frame_later (w.hand_stays ∙ w.nothing)))
      (in_frames (frame_place c) (record { tells = runs.ring.tells; members = runs.members; walk = runs.walk w.part }) w.kind w.effect))

  pub walks_carry : BothEffect begins transacts parts c.control hand frame wire after now later frame_later
      → Told (joined hand frame) (joined later frame_later)
  walks_carry (of_ring effect free) =
      subst (λ (f : FrameHand). Told (joined hand f) (joined later frame_later)) (sym free.0)
      (subst (λ (f : FrameHand). Told hand (joined later f)) (sym free.1) (of_control effect))
  walks_carry (of_frame w) = by_frame w
