-- What the walk of the frames reads of the queues of interrupt endpoints are data alone.
use Rattle.std.proofs.Common.{◌≡◌, ℕ, ◌*◌, ◌<◌, Bool, true, false, nat_lt, if◌then◌else◌, List, slice_get, Option, Some, None, option_map, ap, refl, sym, subst, ◌∙◌, arith}
use Rattle.std.proofs.lemmas.Bool.{false≢true}
use Rattle.std.proofs.lemmas.Option.{same_Some}
use Rattle.law_common.proofs.Booleans.{or_both}
use Rattle.usb_base.specs.declared.packets.Dir.{Dir}
use Rattle.usb_base.specs.declared.packets.Reply.{Reply}
use Rattle.link_words.specs.declared.kinds.QtdLink.{QtdLink}
use Rattle.link_words.specs.declared.kinds.QtdLink.TheVariants as qtd_links
use Rattle.link_words.specs.Links.{qtd_link_of}
use Rattle.qh_qtd.specs.declared.qtd.Qtd.{Qtd}
use Rattle.qh_qtd.specs.declared.queue_head.Qh.{Qh}
use Rattle.toggle_error.specs.declared.host.HostSide.{HostSide}
use Rattle.mem_queues.specs.Structures.{qtd_at_address}
use Rattle.hc_copy.specs.declared.held.Transaction.{Transaction}
use Rattle.hc_copy.specs.Overlay.{settled_queue}
use Rattle.hc_copy.specs.Visits.{next_pointer}
use Rattle.hc_interrupt.specs.declared.turns.Turn.{Turn}
use Rattle.hc_interrupt.specs.Turns.{turn_of, planned}
use Rattle.periodic_walk.specs.declared.queue.QueueRow.TheVariants as queue_rows
use Rattle.periodic_walk.specs.declared.state.HeldQueue.{HeldQueue}
use Rattle.periodic_walk.specs.declared.state.Hand.TheVariants as hands
use Rattle.periodic_walk.specs.Queue.{taken_row, take_row, turn_row, queue_row}
use Rattle.hc_core.specs.Controller.{frame_place}
use Rattle.drv_table.specs.Kinds.{is_iso}
use Rattle.drv_table.specs.DriverContent.{DriverContent}
use Rattle.drv_table.specs.Words.{dummy_qtd}
use Rattle.mem_runs.specs.Book.{slot_of}
use Rattle.claims_driver.specs.Owners.{Owner, QueueHead as HeadOf, EndpointRuns, TransferRuns, runs_of_endpoint, runs_of_transfer, note_in, views_of, IsQueueIn, IsPieceOf}
use Rattle.claims_driver.specs.Leaving.{HasOwners}
use Rattle.law_driver.specs.chained_transfers.Chains.{piece_at}
use Rattle.law_driver_ring.specs.Inventory.{Sort, OfElement, IsLent, sort_of, IsTransferIn, IsDriverOwned, the_list, the_head, a_queue, a_dummy, a_piece, a_buffer}
use Rattle.law_structures.specs.lent_structures.Structures.{QueueHead, Element, Isochronous, SplitIsochronous, Structures, StructureSets, Tells}
use Rattle.law_structures.specs.lent_structures.Sound.{IsElement, LeadsOn, IsWorking}
use Rattle.law_structures.proofs.lemmas.lent_structures.Altering.{found_queue, found_element}
use Rattle.law_structures.proofs.lemmas.lent_structures.Reading.{head_read, element_read}
use Rattle.law_ring.specs.Hand.{Copy, copied_queue}
use Rattle.law_queues.proofs.lemmas.mended_heads.Lent.{queue_placed}
use Rattle.law_queues.proofs.lemmas.released_queues.Pieces.{HasNumber, number_of}
use Rattle.law_driver.specs.queued_drivers.Queued.{with_queue}
use Rattle.law_driver.proofs.lemmas.queued_drivers.RowLists.{queue_at}
use Rattle.law_frames.specs.Met.{AQueue, IsMetQueue}
use Rattle.law_frames.specs.FrameHand.{FrameHand, OfQueue, OfSettled, frame_held}
use Rattle.law_frames.specs.Frame.{IsCopiedQueue, IsFrameWalk, IsInFrame}
use Rattle.law_frames.proofs.QueueStepTurning.{TurnOf, rests, works, goes_on, misses, turn_found}
use Rattle.law_descriptors.specs.Described.{HasDescriptor}
use Rattle.law_descriptors.specs.Both.{owns, both}
use Rattle.law_descriptors.specs.Meeting.{met}
use Rattle.law_descriptors.proofs.Standing.{both_off, IsAtOwner, on_owner}
use Rattle.bus_world.specs.World.{World, controller_parts}
use Rattle.law_world.specs.memory.Mixed.{Standing, IsMixedAt}
use Rattle.law_world.proofs.lemmas.memory.QueueViews.{queues_told}
use Rattle.law_microframes.specs.visits.Belonging.{IsQueueAt}
use Rattle.law_microframes.specs.time.DataQueues.{pid_of, GoesBy, qtd_in, SendsData, QueuesSendData, HeadsSendData, CopiesSendData, TakesSendData}
use Rattle.law_microframes.proofs.lemmas.time.DataWords.{told_qtd}

-- ---- lists that are told

record WasMapped {X Y : Type 0} (f : X → Y) (o : Option X) (y : Y) : Type 0 where
  item : X
  here : o ≡ Some item
  is : f item ≡ y

was_mapped : {X Y : Type 0} (f : X → Y) (o : Option X) (y : Y) → option_map f o ≡ Some y → WasMapped f o y
was_mapped f None y is = absurd (cc)
was_mapped f (Some x) y is = record { item = x; here = refl; is = same_Some (f x) y is }

abbrev number_in : Owner → ℕ
number_in (HeadOf e) = e
number_in o = 0

-- ---- a queue head stands where no descriptor does

no_both : (split : Bool) (part : Structures) (n : ℕ) (q : Qh) → part n ≡ Some (QueueHead q) → HasDescriptor split part n → ⊥
no_both true part n q here d = let e : QueueHead q ≡ SplitIsochronous d.sitd = same_Some (QueueHead q) (SplitIsochronous d.sitd) (sym here ∙ d.here) in cc
no_both false part n q here d = let e : QueueHead q ≡ Isochronous d.itd = same_Some (QueueHead q) (Isochronous d.itd) (sym here ∙ d.here) in cc

settled_pid : (host : HostSide) (q : Qh) → (settled_queue host q).token.pid ≡ q.token.pid
unfolding settled_queue
settled_pid host q = refl

module _ (s : Standing) (w : World) (k : IsMixedAt s w) (all : QueuesSendData w.driver w.memory) where
  abbrev d : DriverContent
  d = w.driver

  abbrev every : StructureSets
  every = both s.descs s.parts

  owners : HasOwners w.driver
  owners = k.now.framed.place.sound.owners

  tells : Tells w.memory (both s.descs s.parts)
  tells = k.now.framed.runs.ring.tells

  tells_queues : Tells w.memory s.parts
  tells_queues =
      let f = k.now.framed in queues_told d w.memory s.descs s.parts (record { owners = f.place.sound.owners; driven = f.driven; described = f.described }) tells

  -- ---- the qTDs of a queue

  dummy_sends : (dir : Dir) (e : ℕ) (x : EndpointRuns) (u : Qtd) → IsQueueIn (views_of w.driver) e x
      → IsLent (slot_of w.driver.book.slots x.dummy) → s.parts (32 * x.queue) (32 * x.dummy) ≡ Some (Element u)
      → SendsData dir u
  dummy_sends dir e x u is lent here on =
      let z = was_mapped runs_of_endpoint (slice_get d.endpoints e) x is.here in
      let alive = or_both (is_iso z.item.desc.kind) z.item.gone (ap (λ (r : EndpointRuns). r.bare) z.is ∙ is.queued) in
      let there : s.parts (32 * z.item.queue) (32 * z.item.dummy) ≡ Some (Element dummy_qtd) =
      k.queues.queues.fed.dummies e (with_queue z.item) (queue_at d.endpoints e z.item z.here alive.0) alive.1 (subst (λ (r : EndpointRuns). IsLent (slot_of d.book.slots r.dummy)) (sym z.is) lent) in
      let same : dummy_qtd ≡ u =
      found_element (s.parts (32 * x.queue) (32 * x.dummy)) dummy_qtd u (subst (λ (r : EndpointRuns). s.parts (32 * r.queue) (32 * r.dummy) ≡ Some (Element dummy_qtd)) z.is there) here in
      absurd (false≢true (ap (λ (q : Qtd). q.token.active) same ∙ on))

  module _ (n : ℕ) (dir : Dir) (by : GoesBy w.driver n dir) where
    abbrev b : IsQueueAt w.driver n
    b = by.at

    piece_sends : (t c : ℕ) (y : TransferRuns) (x : EndpointRuns) (u : Qtd) → IsTransferIn (views_of w.driver) t y x → IsPieceOf (note_in w.driver.notes) y.first y.qtds c → 32 * x.queue ≡ n
        → s.parts (32 * x.queue) (32 * c) ≡ Some (Element u) → SendsData dir u
    piece_sends t c y x u is piece at here =
        let z = was_mapped runs_of_transfer (slice_get d.transfers t) y is.here in
        let v = was_mapped runs_of_endpoint (slice_get d.endpoints y.endpoint) x is.queue.here in
        let own = b.belongs.endpoint in
        let queue : x.queue ≡ own.queue = omega (arith, at, b.name) in
        let mine = queue_placed d owners b.belongs.number own b.belongs.here (ap is_iso b.kind) b.belongs.kept in
        let its = owners.owned.each.queue y.endpoint x is.queue.here is.queue.queued in
        let number : y.endpoint ≡ b.belongs.number = ap number_in (sym its.owned ∙ ap owners.owner queue ∙ mine.owned) in
        let endpoint : slice_get d.endpoints z.item.endpoint ≡ Some own
        = ap (λ (r : TransferRuns). slice_get d.endpoints r.endpoint) z.is ∙ ap (slice_get d.endpoints) number ∙ b.belongs.here in
        let i : HasNumber (note_in d.notes) y.first y.qtds c = number_of (note_in d.notes) y.first y.qtds c piece in
        let below : i.number < z.item.qtds = subst (λ (r : TransferRuns). i.number < r.qtds) (sym z.is) i.below in
        let sends = all t i.number z.item own z.here (ap (λ (r : TransferRuns). r.isochronous) z.is ∙ is.qtds) (ap (λ (r : TransferRuns). r.released) z.is ∙ is.held) endpoint b.kind below in
        let block : piece_at (note_in d.notes) z.item.first i.number ≡ c = ap (λ (r : TransferRuns). piece_at (note_in d.notes) r.first i.number) z.is ∙ sym i.at in
        subst (SendsData dir) (ap (qtd_in w.memory) block ∙ told_qtd w.memory c u (tells_queues.each (32 * x.queue) (32 * c) _ here))
        (subst (λ (way : Dir). SendsData way (qtd_in w.memory (piece_at (note_in w.driver.notes) z.item.first i.number))) by.way sends)

    owned_sends : (m a : ℕ) (o : Sort) (u : Qtd) → IsDriverOwned (views_of w.driver) m a o → o ≡ OfElement → m ≡ n
        → s.parts m a ≡ Some (Element u) → SendsData dir u
    owned_sends _ _ _ u (the_list) is at here = absurd (cc)
    owned_sends _ _ _ u (the_head) is at here = absurd (cc)
    owned_sends _ _ _ u (a_queue e x q lent) is at here = absurd (cc)
    owned_sends _ _ _ u (a_dummy e x q lent) is at here = dummy_sends dir e x u q lent here
    owned_sends _ _ _ u (a_piece t c y x q piece lent) is at here = piece_sends t c y x u q piece at here
    owned_sends _ _ _ u (a_buffer t c e cs y x q piece first lent) is at here = absurd (cc)

    pub element_sends : (a : ℕ) (u : Qtd) → s.parts n a ≡ Some (Element u) → SendsData dir u
    element_sends a u here = owned_sends n a OfElement u (k.now.framed.driven.only n a OfElement (ap (option_map sort_of) here)) refl refl here

  -- ---- a queue head that is met

  module _ (n : ℕ) (dir : Dir) (by : GoesBy w.driver n dir) (is : met w.driver s.recent n ≡ Some AQueue) where
    member : IsMetQueue (met w.driver s.recent) n (both s.descs s.parts n)
    member = k.now.framed.runs.members n AQueue is

    off : (b : Bool) → owns s.descs n ≡ b → owns s.descs n ≡ false
    off false none = none
    off true on =
        let f = k.now.framed in
        let a : IsAtOwner (views_of d) n = on_owner (views_of d) s.descs n f.described on in
        let h = f.described.descriptors a.number a.transfer a.lent in
        let here : s.descs n n ≡ Some (QueueHead member.part_is.queue) = ap (λ (b : Bool). (if b then s.descs n else s.parts n) n) (sym on) ∙ member.part_is.here in
        absurd (no_both ((views_of d).descriptor a.transfer.first).split (s.descs n) n member.part_is.queue here
        (subst (λ (i : ℕ). HasDescriptor ((views_of d).descriptor a.transfer.first).split (s.descs i) i) (sym a.name) h))

    of_queue : (a : ℕ) (u : Qtd) → both s.descs s.parts n a ≡ Some (Element u) → SendsData dir u
    of_queue a u here = element_sends n dir by a u
        (ap (λ (part : Structures). part a) (sym (both_off s.descs s.parts n (off (owns s.descs n) refl))) ∙ here)

    head_sends : (q : Qh) → both s.descs s.parts n n ≡ Some (QueueHead q) → q.token.active ≡ true → q.token.pid ≡ pid_of dir
    head_sends q here on =
        let same : member.part_is.queue ≡ q = found_queue (both s.descs s.parts n n) member.part_is.queue q member.part_is.here here in
        let v : IsWorking (every n) member.part_is.queue = member.part_is.sound.work (ap (λ (z : Qh). z.token.active) same ∙ on) in
        subst (λ (i : ℕ). i ≡ pid_of dir) (sym v.pid ∙ ap (λ (z : Qh). z.token.pid) same)
        (of_queue member.part_is.queue.current v.element v.here v.published)

    -- what it leads to
    lead_sends : (q : Qh) (a : ℕ) (t : Qtd) → both s.descs s.parts n n ≡ Some (QueueHead q) → q.token.halted ≡ false → q.token.active ≡ false → qtd_link_of (next_pointer q) ≡ qtd_links.To a
        → qtd_at_address w.memory a ≡ Some t → t.token.active ≡ true → t.token.pid ≡ pid_of dir
    lead_sends q a t here goes rest link read on =
        let same : member.part_is.queue ≡ q = found_queue (both s.descs s.parts n n) member.part_is.queue q member.part_is.here here in
        let leads : LeadsOn (every n) (qtd_link_of (next_pointer member.part_is.queue)) =
        member.part_is.sound.rest (ap (λ (z : Qh). z.token.halted) same ∙ goes) (ap (λ (z : Qh). z.token.active) same ∙ rest) in
        let e : IsElement (every n) a = subst (LeadsOn (every n)) (ap (λ (z : Qh). qtd_link_of (next_pointer z)) same ∙ link) leads in
        let is_it : e.qtd ≡ t = same_Some e.qtd t (sym (element_read w.memory every n a e.qtd tells e.here) ∙ read) in
        subst (λ (z : Qtd). z.token.pid ≡ pid_of dir) is_it (of_queue a e.qtd e.here (ap (λ (z : Qtd). z.token.active) is_it ∙ on))

  -- ---- the copy in hand

  same_hand : (h g : HeldQueue) → Some (hands.Queue g) ≡ Some (hands.Queue h) → g ≡ h
  same_hand h g same = cc

  of_copy : (c : Copy) (dir : Dir) → GoesBy w.driver c.at dir → IsCopiedQueue (met w.driver s.recent) (both s.descs s.parts) c
      → c.queue.token.active ≡ true → c.queue.token.pid ≡ pid_of dir
  of_copy c dir by is on = head_sends c.at dir by is.on c.queue is.here on

  same_by : (h g : HeldQueue) (dir : Dir) → g ≡ h → GoesBy w.driver h.copy.at dir → GoesBy w.driver g.copy.at dir
  same_by h g dir same by = subst (λ (z : HeldQueue). GoesBy w.driver z.copy.at dir) (sym same) by

  hand_sends : (h : HeldQueue) (dir : Dir) (got : List ℕ) (reply : Reply) (hand : FrameHand) → GoesBy w.driver h.copy.at dir
      → frame_held hand ≡ Some (hands.Queue h) → IsInFrame (met w.driver s.recent) (both s.descs s.parts) got reply hand
      → h.copy.queue_head.token.active ≡ true → h.copy.queue_head.token.pid ≡ pid_of dir
  hand_sends h dir got reply (OfQueue c made) by held is on =
      let same = same_hand h _ held in
      subst (λ (z : HeldQueue). z.copy.queue_head.token.pid ≡ pid_of dir) same
      (of_copy c dir (same_by h _ dir same by) is (ap (λ (z : HeldQueue). z.copy.queue_head.token.active) same ∙ on))
  hand_sends h dir got reply (OfSettled c z made) by held is on =
      let same = same_hand h _ held in
      subst (λ (i : ℕ). i ≡ pid_of dir)
      (sym (settled_pid z.host (copied_queue c)) ∙ ap (λ (z : HeldQueue). z.copy.queue_head.token.pid) same)
      (of_copy c dir (same_by h _ dir same by) is.0 is.1.came_to.works)
  hand_sends h dir got reply _ by held is on = absurd (cc)

  -- ---- what is taken

  never_timed : (left a : ℕ) (x : Transaction) (t : Qtd) → (b : Bool) → (if b then queue_rows.Skip else queue_rows.Transact x) ≡ queue_rows.Advance a t → ⊥
  never_timed left a x t true is = cc
  never_timed left a x t false is = cc

  taken_active : (e a : ℕ) (t u : Qtd) → (b : Bool) → u.token.active ≡ b → (if b then queue_rows.Advance e u else queue_rows.Skip) ≡ queue_rows.Advance a t → (e ≡ a) × (u ≡ t) × (t.token.active ≡ true)
  taken_active e a t u false off is = absurd (cc)
  taken_active e a t u true on is = let same : u ≡ t = cc in (cc, same, ap (λ (z : Qtd). z.token.active) (sym same) ∙ on)

  taken_is : (e a : ℕ) (t : Qtd) (o : Option Qtd) → taken_row e o ≡ queue_rows.Advance a t → (e ≡ a) × (o ≡ Some t) × (t.token.active ≡ true)
  taken_is e a t None is = absurd (cc)
  taken_is e a t (Some u) is = let r = taken_active e a t u u.token.active refl is in (r.0, ap Some r.1, r.2)

  module _ (c : Copy) (dir : Dir) (by : GoesBy w.driver c.at dir) (copied : IsCopiedQueue (met w.driver s.recent) (both s.descs s.parts) c)
    where
      take_sends : (link : QtdLink) (a : ℕ) (t : Qtd) → qtd_link_of (next_pointer (copied_queue c)) ≡ link → (copied_queue c).token.halted ≡ false → (copied_queue c).token.active ≡ false
          → take_row w.memory link ≡ queue_rows.Advance a t → t.token.pid ≡ pid_of dir
      take_sends qtd_links.End a t at goes rest is = absurd (cc)
      take_sends (qtd_links.To e) a t at goes rest is =
          let r = taken_is e a t (qtd_at_address w.memory e) is in
          lead_sends c.at dir by copied.on c.queue e t copied.here goes rest at r.1 r.2

      turn_sends : (left : ℕ) (turn : Turn) (a : ℕ) (t : Qtd) → TurnOf (copied_queue c) turn
          → turn_row w.memory left (copied_queue c) turn ≡ queue_rows.Advance a t → t.token.pid ≡ pid_of dir
      turn_sends left _ a t (rests) is = absurd (cc)
      turn_sends left _ a t (works on) is = absurd (never_timed left a (planned (copied_queue c)) t (nat_lt left (planned (copied_queue c)).price.0) is)
      turn_sends left _ a t (goes_on goes rest) is = take_sends (qtd_link_of (next_pointer (copied_queue c))) a t refl goes rest is
      turn_sends left _ a t (misses) is = absurd (cc)

  hand_takes : (h : HeldQueue) (a : ℕ) (t : Qtd) (dir : Dir) (got : List ℕ) (reply : Reply) (hand : FrameHand)
      → GoesBy w.driver h.copy.at dir → frame_held hand ≡ Some (hands.Queue h)
      → IsInFrame (met w.driver s.recent) (both s.descs s.parts) got reply hand
      → queue_row (frame_place (controller_parts w)) h ≡ queue_rows.Advance a t → t.token.pid ≡ pid_of dir
  hand_takes h a t dir got reply (OfQueue c made) by held is row =
      turn_sends c dir (same_by h _ dir (same_hand h _ held) by) is w.control.frame.left (turn_of w.control.frame.index (copied_queue c)) a
      t (turn_found w.control.frame.index (copied_queue c))
      (ap (queue_row (frame_place (controller_parts w))) (same_hand h _ held) ∙ row)
  hand_takes h a t dir got reply (OfSettled c z made) by held is row =
      absurd (let e = ap (queue_row (frame_place (controller_parts w))) (same_hand h _ held) ∙ row in cc)
  hand_takes h a t dir got reply _ by held is row = absurd (cc)

-- ---- the laws

pub heads_send_data : HeadsSendData
heads_send_data s w n dir q by k all is read on =
    let here = (k.now.framed.runs.members n AQueue is).part_is in
    let same : here.queue ≡ q = same_Some here.queue q (sym (head_read w.memory (both s.descs s.parts) n n here.queue k.now.framed.runs.ring.tells here.here) ∙ read) in
    head_sends s w k all n dir by is q (here.here ∙ ap (λ (z : Qh). Some (QueueHead z)) same) on

pub copies_send_data : CopiesSendData
copies_send_data s w h dir by k all periodic held on =
    let walk : IsFrameWalk (met w.driver s.recent) (both s.descs s.parts) s.frame (frame_place (controller_parts w)) = k.now.framed.runs.walk periodic in
    hand_sends s w k all h dir w.control.frame.got w.control.frame.reply s.frame by (sym walk.held ∙ held) walk.in_hand on

pub takes_send_data : TakesSendData
takes_send_data s w h a t dir by k all periodic held row =
    let walk : IsFrameWalk (met w.driver s.recent) (both s.descs s.parts) s.frame (frame_place (controller_parts w)) = k.now.framed.runs.walk periodic in
    hand_takes s w k all h a t dir w.control.frame.got w.control.frame.reply s.frame by (sym walk.held ∙ held) walk.in_hand row
