-- The queue head in hand of an interrupt endpoint below a hub asks for that endpoint, and names its hub and port.
use Rattle.std.proofs.Common.{◌≡◌, ℕ, ◌+◌, ◌*◌, ◌≤◌, max, Bool, true, false, List, slice_get, slice_index, Option, Some, None, Ok, refl, sym, ap, subst, ◌∙◌, arith, if◌then◌else◌}
use Rattle.std.specs.Prelude.{◌==◌, unwrap_or}
use Rattle.std.proofs.lemmas.Bool.{true≢false}
use Rattle.law_microframes.proofs.Common.{read_ok}
use Rattle.law_common.proofs.Lists.{nth_all}
use Rattle.usb_base.specs.declared.endpoints.EpDesc.{EpDesc}
use Rattle.usb_base.specs.declared.packets.EpKind.{EpKind}
use Rattle.usb_base.specs.declared.packets.EpKind.TheVariants as kinds
use Rattle.usb_base.specs.declared.packets.Speed.{Speed}
use Rattle.usb_base.specs.declared.packets.Speed.TheVariants as speeds
use Rattle.usb_base.specs.declared.packets.Way.{Way}
use Rattle.usb_base.specs.declared.packets.Way.TheVariants as ways
use Rattle.script_types.specs.declared.scripts.Script.{Script}
use Rattle.word_mem.specs.Memory.{Mem, word_at}
use Rattle.word_mem.specs.Views.{words_at}
use Rattle.link_words.specs.Layout.{bits}
use Rattle.qh_qtd.specs.declared.queue_head.Qh.{Qh}
use Rattle.qh_qtd.specs.QueueHead.{qh_words, qh_at, qh_read, IsQhInRange}
use Rattle.qh_qtd.proofs.QhLaws.{qh_read-words, qh_read-is}
use Rattle.mem_queues.specs.Structures.{reaches_queue_head, queue_head_at_address}
use Rattle.hc_copy.specs.Planning.{pid_at}
use Rattle.hc_interrupt.specs.declared.turns.Turn.{Turn}
use Rattle.hc_interrupt.specs.declared.turns.Turn.TheVariants as turns
use Rattle.hc_interrupt.specs.Turns.{turn_of}
use Rattle.bandwidth.specs.declared.placements.Placement.{Placement}
use Rattle.periodic_walk.specs.declared.state.Hand.TheVariants as hands
use Rattle.periodic_walk.specs.declared.state.HeldQueue.{HeldQueue}
use Rattle.hc_core.specs.declared.controller.MicroframePart.TheVariants.{Periodic}
use Rattle.hc_core.specs.Controller.{frame_place}
use Rattle.drv_periodic_table.specs.Periodic.{dir_of}
use Rattle.drv_table.specs.Kinds.{is_iso}
use Rattle.drv_table.specs.Words.{is_high, speed_field, interrupt_head}
use Rattle.bus_wire.specs.Seats.{token_kind}
use Rattle.bus_wire.specs.Bus.{fixed_of, opening_bus}
use Rattle.bus_world.specs.World.{World, controller_parts}
use Rattle.law_structures.proofs.lemmas.lent_structures.Reading.{head_read}
use Rattle.law_driver.specs.queued_drivers.Queued.{IsOfWay, FitsKind}
use Rattle.law_ring.specs.Hand.{Copy, copied_queue}
use Rattle.law_frames.specs.FrameHand.{FrameHand, OfQueue, OfSettled, frame_held}
use Rattle.law_frames.specs.Frame.{IsCopiedQueue, IsFrameWalk, IsInFrame}
use Rattle.law_frames.proofs.QueueStepTurning.{TurnOf, works, turn_found}
use Rattle.law_descriptors.specs.Both.{both}
use Rattle.law_descriptors.specs.Meeting.{met}
use Rattle.law_world.specs.memory.Mixed.{Standing, IsMixedAt}
use Rattle.law_world.specs.memory.framed_memory.Masks.{HasMasks}
use Rattle.law_world.proofs.lemmas.memory.lemmas.framed_memory.ChainedRuns.{chained_head_is_in_range}
use Rattle.law_microframes.specs.visits.Belonging.{IsQueueAt, HaveFields, HeadsHaveFields}
use Rattle.law_microframes.proofs.lemmas.visits.BelongQueues.{queue_belongs}
use Rattle.law_microframes.proofs.lemmas.visits.BelongReads.{word_one, word_two}
use Rattle.law_microframes.specs.time.DataQueues.{pid_of, way_of, ReadsData}
use Rattle.law_microframes.specs.due.repeats.Hearing.{token_of_way, is_control_way, IsHeardOn, AsksFor}
use Rattle.law_microframes.specs.time.Repeats.{asked_pid}
use Rattle.law_microframes.proofs.lemmas.due.lemmas.repeats.Endpoints.{Stands, AllStand}

-- ---- the fields of what is read

pub record HasPlace (first second : ℕ) (q : Qh) : Type 0 where
  pub addr : q.addr ≡ bits 6 0 first
  pub ep : q.ep ≡ bits 11 8 first
  pub eps : q.eps ≡ bits 13 12 first
  pub hub : q.hub ≡ bits 22 16 second
  pub port : q.port ≡ bits 29 23 second

place_at : (ws : List ℕ) → HasPlace (slice_index ws 1) (slice_index ws 2) (qh_at ws)
unfolding qh_at
place_at ws = record { addr = refl; ep = refl; eps = refl; hub = refl; port = refl }

place_read : (ws : List ℕ) (q : Qh) → qh_read ws ≡ Ok q → HasPlace (slice_index ws 1) (slice_index ws 2) q
place_read ws q is = subst (HasPlace (slice_index ws 1) (slice_index ws 2)) (sym (qh_read-is ws q is)) (place_at ws)

pub places_read : (m : Mem) (a : ℕ) (q : Qh) → queue_head_at_address m a ≡ Some q → HasPlace (word_at m (a + 4)) (word_at m (a + 8)) q
places_read m a q is =
    subst (λ (second : ℕ). HasPlace (word_at m (a + 4)) second q) (word_two m.words a)
    (subst (λ (first : ℕ). HasPlace first (slice_index (words_at m a 12) 2) q) (word_one m.words a)
    (place_read (words_at m a 12) q (read_ok m a q (reaches_queue_head m a) is)))

-- ---- those of an endpoint

abbrev pub no_masks : Placement → Placement
no_masks p = record p { smask = 0; cmask = 0 }

pub written : (q : Qh) → IsQhInRange q → HasPlace (slice_index (qh_words q) 1) (slice_index (qh_words q) 2) q
written q range = place_read (qh_words q) q (qh_read-words q range)

pub few_more : (n second : ℕ) → max 1 (bits 31 30 second) ≡ n → n ≤ 3
few_more n second is = omega (arith, is)

pub low_field : (s : Speed) → (speed_field s == 2) ≡ false → is_high s ≡ false
low_field speeds.Full is = refl
low_field speeds.Low is = refl
low_field speeds.High is = absurd (true≢false is)

way_token : (w : Way) → is_control_way w ≡ false
    → (inward : Bool) × (pid_at (pid_of (dir_of w)) ≡ asked_pid inward) × (token_of_way w ≡ token_kind (asked_pid inward))
way_token ways.In is = (true, refl, refl)
way_token ways.Out is = (false, refl, refl)
way_token ways.Ctl is = absurd (true≢false is)

pub no_control : (x : EpDesc) → FitsKind x → x.kind ≡ kinds.Interrupt → is_control_way x.name.way ≡ false
no_control x fits kind = by x.name.way x.kind fits kind
  where
    by : (w : Way) (k : EpKind) → IsOfWay w k → k ≡ kinds.Interrupt → is_control_way w ≡ false
    by ways.In k fits is = refl
    by ways.Out k fits is = refl
    by ways.Ctl k fits is = absurd (let e = sym fits ∙ is in cc)

works_active : (q : Qh) (t : Turn) → TurnOf q t → t ≡ turns.Work → q.token.active ≡ true
works_active q turns.Work (works on) is = on
works_active q _ t is = absurd cc

-- ---- what is in hand

pub same_hand : (h g : HeldQueue) → Some (hands.Queue g) ≡ Some (hands.Queue h) → g ≡ h
same_hand h g same = cc

module _ (s : Script) (st : Standing) (w : World) (k : IsMixedAt st w) (fields : HeadsHaveFields w.driver w.memory) (reads : ReadsData w)
    (stand : AllStand s w.driver)
    (hears : (x : EpDesc) → IsHeardOn (fixed_of s) (opening_bus s) x
    → IsHeardOn (fixed_of s) w.bus x) (periodic : w.control.part ≡ Periodic) where
  abbrev held_as : Copy → ℕ → HeldQueue
  held_as c made = record { copy = record { at = c.at; queue_head = copied_queue c; settled = None }; made = made }

  copy_asks : (c : Copy) (made : ℕ) → w.control.frame.hand ≡ Some (hands.Queue (held_as c made))
      → IsCopiedQueue (met w.driver st.recent) (both st.descs st.parts) c
      → (c.queue.eps == 2) ≡ false → c.queue.token.active ≡ true → AsksFor (fixed_of s) w.bus (copied_queue c)
  copy_asks c made held is low on =
      let at : IsQueueAt w.driver c.at = queue_belongs st w c.at k is.on in
      let x = at.belongs.endpoint in
      let p : Placement = at.belongs.placement in
      let e : ℕ = at.belongs.number in
      let here : slice_get w.driver.endpoints e ≡ Some x = at.belongs.here in
      let first : ℕ = word_at w.memory (32 * x.queue + 4) in
      let second : ℕ = word_at w.memory (32 * x.queue + 8) in
      let f : HaveFields first second x.desc p = fields e x p here (ap is_iso at.kind) at.belongs.kept at.belongs.placed in
      let read : queue_head_at_address w.memory c.at ≡ Some c.queue = head_read w.memory (both st.descs st.parts) c.at c.at c.queue
      k.now.framed.runs.ring.tells is.here in
      let pl : HasPlace first second c.queue = places_read w.memory (32 * x.queue) c.queue
      (ap (queue_head_at_address w.memory) (sym at.name) ∙ read) in
      let stands : Stands s x.desc = stand e x here in
      let slow : is_high x.desc.speed ≡ false = low_field x.desc.speed (ap (λ (n : ℕ). n == 2) (sym (pl.eps ∙ f.speed)) ∙ low) in
      let carries = no_control x.desc (k.turns.kinds_fit e x here) at.kind in
      let heard : IsHeardOn (fixed_of s) w.bus x.desc = hears x.desc (stands.heard slow carries) in
      let few = few_more x.desc.multi second f.multi in
      let masks : HasMasks p = nth_all (λ y. HasMasks y.placement) w.driver.periodic.plan.placed at.belongs.planned.place _ k.masks
      at.belongs.planned.there in
      let one = written (interrupt_head x.desc 0 0 0 0) (chained_head_is_in_range x.desc (no_masks p) 0 0 (k.numbers e x here) stands.max
      stands.port few (record { smask = omega arith; cmask = omega arith })) in
      let two = written (interrupt_head x.desc p.smask p.cmask 0 0) (chained_head_is_in_range x.desc p 0 0 (k.numbers e x here) stands.max
      stands.port few masks) in
      let way = way_token x.desc.name.way carries in
      let pid : (copied_queue c).token.pid ≡ pid_of (way_of x) = reads.copies (held_as c made) (way_of x)
      (record { at = at; way = refl }) periodic held on in
      record {
        desc = x.desc;
        heard = heard;
        inward = way.0;
        pid = ap pid_at pid ∙ way.1;
        way = way.2;
        addr = pl.addr ∙ ap (bits 6 0) f.characteristics ∙ sym one.addr;
        ep = pl.ep ∙ ap (bits 11 8) f.characteristics ∙ sym one.ep;
        hub =
            pl.hub ∙ ap (bits 22 16) f.capabilities ∙ sym two.hub ∙ ap (λ (b : Bool). if b then 0 else unwrap_or x.desc.hub 0) slow ∙ ap
            (λ (o : Option ℕ). unwrap_or o 0) heard.behind;
        port = pl.port ∙ ap (bits 29 23) f.capabilities ∙ sym two.port ∙ ap (λ (b : Bool). if b then 0 else x.desc.port) slow;
      }

  by_hand : (h : HeldQueue) (frame : FrameHand) → w.control.frame.hand ≡ frame_held frame → w.control.frame.hand ≡ Some (hands.Queue h)
      → IsInFrame (met w.driver st.recent) (both st.descs st.parts) w.control.frame.got w.control.frame.reply frame
      → (h.copy.queue_head.eps == 2) ≡ false → h.copy.settled ≡ None
      → turn_of w.control.frame.index h.copy.queue_head ≡ turns.Work → AsksFor (fixed_of s) w.bus h.copy.queue_head
  by_hand h (OfQueue c made) told held is low unset work =
      let same : held_as c made ≡ h = same_hand h (held_as c made) (sym told ∙ held) in
      let low' : (c.queue.eps == 2) ≡ false = ap (λ (z : HeldQueue). z.copy.queue_head.eps == 2) same ∙ low in
      let work' : turn_of w.control.frame.index (copied_queue c) ≡ turns.Work = ap
      (λ (z : HeldQueue). turn_of w.control.frame.index z.copy.queue_head) same ∙ work in
      let on : c.queue.token.active ≡ true = works_active (copied_queue c) (turn_of w.control.frame.index (copied_queue c))
      (turn_found w.control.frame.index (copied_queue c)) work' in
      subst (λ (z : HeldQueue). AsksFor (fixed_of s) w.bus z.copy.queue_head) same (copy_asks c made told is low' on)
  by_hand h (OfSettled c z made) told held is low unset work =
      absurd (let same = same_hand h _ (sym told ∙ held) in let e = ap (λ (z : HeldQueue). z.copy.settled) same ∙ unset in cc)
  by_hand h _ told held is low unset work = absurd (let e = sym told ∙ held in cc)

  pub hand_asks : (h : HeldQueue) → w.control.frame.hand ≡ Some (hands.Queue h) → (h.copy.queue_head.eps == 2) ≡ false
      → h.copy.settled ≡ None
      → turn_of w.control.frame.index h.copy.queue_head ≡ turns.Work → AsksFor (fixed_of s) w.bus h.copy.queue_head
  hand_asks h held low unset work =
      let walk : IsFrameWalk (met w.driver st.recent) (both st.descs st.parts) st.frame
      (frame_place (controller_parts w)) = k.now.framed.runs.walk periodic in
      by_hand h st.frame walk.held held walk.in_hand low unset work
