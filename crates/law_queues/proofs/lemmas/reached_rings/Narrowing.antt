-- The members of a ring are the queue heads that its walk may reach.
use Rattle.std.proofs.Common.{◌≡◌, ℕ, ◌*◌, Bool, true, false, Some, None, ap, sym, subst, ◌∙◌, refl}
use Rattle.std.specs.Prelude.{List}
use Rattle.usb_base.specs.declared.packets.Ask.{Ask}
use Rattle.usb_base.specs.declared.packets.Reply.{Reply}
use Rattle.word_mem.specs.Memory.{Mem}
use Rattle.link_words.specs.declared.fields.LinkBits.{LinkBits}
use Rattle.link_words.specs.Fields.{link_at}
use Rattle.link_words.specs.Links.{link_of}
use Rattle.qh_qtd.specs.declared.queue_head.Qh.{Qh}
use Rattle.mem_queues.specs.Structures.{queue_head_at_address}
use Rattle.hc_copy.specs.Overlay.{settled_queue}
use Rattle.async_walk.specs.Rows.{WalkPlace, at_event, event_row, step_of, cursor_link}
use Rattle.drv_table.specs.DriverContent.{DriverContent}
use Rattle.drv_table.specs.Words.{head_block}
use Rattle.claims_driver.specs.Owners.{views_of}
use Rattle.claims_driver.specs.Ring.{link_in}
use Rattle.law_driver.specs.ring_members.Words.{IsRing as IsRingOf}
use Rattle.law_structures.specs.lent_structures.Structures.{QueueHead, StructureSets, Tells}
use Rattle.law_structures.proofs.lemmas.lent_structures.Reading.{head_read}
use Rattle.law_structures.specs.lent_structures.Sound.{LeadsAmong}
use Rattle.law_controller.specs.controlled_streams.Kept.{HadHead, KeepsEach}
use Rattle.law_controller.proofs.lemmas.controlled_streams.Events.{effect_keeps}
use Rattle.law_ring.specs.Hand.{Copy, copied_queue, Settlement, settled_queue_of, Hand, Empty, Copied, Settled, Stale, held_of}
use Rattle.claims_base.specs.Controller.{Base}
use Rattle.law_ring.specs.Ring.{IsRing}
use Rattle.law_ring.specs.Effects.{Happens}
use Rattle.law_ring.proofs.Stepping.{each_event}
use Rattle.law_ring.specs.Stores.{IsWider, IsClosed, IsHandAmong}
use Rattle.law_ring.proofs.Driving.{ring_narrowed}
use Rattle.law_driver_ring.proofs.Sorts.{effect_same, driven_same}
use Rattle.claims_driver.specs.Walk.{IsReached, at_head, LeadsOn, IsCopyIn, IsWalkIn}
use Rattle.law_driver_ring.proofs.lemmas.walk_members.Decoding.{read_link, link_decoded}
use Rattle.law_driver_ring.proofs.lemmas.walk_members.Leading.{WordLeads, reached_leads}
use Rattle.law_driver_ring.proofs.lemmas.walk_members.Walking.{event_in}
use Rattle.law_queues.specs.reached_rings.Reaching.{is_reached, ReachedAt, NarrowRing, NarrowDrives, EventNarrows, AnswerNarrows}
use Rattle.law_queues.proofs.lemmas.reached_rings.Computing.{reached_is_reached, is_reached_reached, answer_reaches_fewer}
use Rattle.law_queues.proofs.lemmas.reached_rings.Falling.{event_falls}

-- ---- the members, where they are these

abbrev Are : (ℕ → Bool) → DriverContent → Bool → Type 0
Are narrow d rings = (n : ℕ) → narrow n ≡ is_reached d rings n

on_at : (narrow : ℕ → Bool) (d : DriverContent) (rings : Bool) (n b : ℕ) → Are narrow d rings → n ≡ 32 * b → IsReached d rings b → narrow n ≡ true
on_at narrow d rings n b are at may = ap narrow at ∙ are (32 * b) ∙ is_reached_reached d rings b may

leads_on : (narrow : ℕ → Bool) (d : DriverContent) (rings : Bool) (l : LinkBits) → Are narrow d rings → LeadsOn d rings (link_of l) → LeadsAmong narrow l
leads_on narrow d rings l are leads = record { to = 32 * leads.block; leads = leads.is; on = on_at narrow d rings (32 * leads.block) leads.block are refl leads.reached }

-- the link of each leads to one
read_at : (m : Mem) (parts : StructureSets) (n b : ℕ) (q : Qh) → Tells m parts → parts n n ≡ Some (QueueHead q) → n ≡ 32 * b → q.link ≡ link_at (link_in m b)
read_at m parts n b q tells here at = read_link m b q (subst (λ (a : ℕ). queue_head_at_address m a ≡ Some q) at (head_read m parts n n q tells here))

closed_by : (m : Mem) (parts : StructureSets) (narrow : ℕ → Bool) (d : DriverContent) (rings : Bool) → Tells m parts → IsRingOf (link_in m) d → Are narrow d rings → IsClosed narrow parts
closed_by m parts narrow d rings tells ring are n q on here =
    let r : ReachedAt d rings n = reached_is_reached d rings n (sym (are n) ∙ on) in
    let l : WordLeads d rings (link_in m r.block) = reached_leads (link_in m) d rings r.block ring r.reached in
    record {
      to = 32 * l.to;
      leads = ap link_of (read_at m parts n r.block q tells here r.at ∙ ap link_at l.link) ∙ link_decoded l.to;
      on = on_at narrow d rings (32 * l.to) l.to are refl l.reached;
    }

-- ---- what is in hand

settled_link : (c : Copy) (s : Settlement) → (settled_queue_of c s).link ≡ c.link
unfolding settled_queue
settled_link c s = refl

hand_by : (narrow : ℕ → Bool) (d : DriverContent) (p : WalkPlace) (hand : Hand) → Are narrow d p.registers.doorbell → IsWalkIn d p.registers p.walk → p.walk.held ≡ held_of hand → IsHandAmong narrow hand
hand_by narrow d p Empty are walk held = tt
hand_by narrow d p (Copied c) are walk held =
    let k : IsCopyIn d p.registers.doorbell (record { at = c.at; queue_head = copied_queue c; settled = None }) = walk.copy _ held in
    (on_at narrow d p.registers.doorbell c.at k.block are k.at k.reached, leads_on narrow d p.registers.doorbell c.link are k.next)
hand_by narrow d p (Settled c s) are walk held =
    let k : IsCopyIn d p.registers.doorbell (record { at = c.at; queue_head = settled_queue_of c s; settled = Some s.outcome }) = walk.copy _ held in
    (on_at narrow d p.registers.doorbell c.at k.block are k.at k.reached, subst (LeadsAmong narrow) (settled_link c s) (leads_on narrow d p.registers.doorbell (settled_queue_of c s).link are k.next))
hand_by narrow d p (Stale n q) are walk held =
    let k : IsCopyIn d p.registers.doorbell (record { at = n; queue_head = q; settled = None }) = walk.copy _ held in
    (on_at narrow d p.registers.doorbell n k.block are k.at k.reached, leads_on narrow d p.registers.doorbell q.link are k.next)

-- ---- the ring

narrowed : (base : Base) (member narrow : ℕ → Bool) (parts : StructureSets) (hand : Hand) (p : WalkPlace) (d : DriverContent) → IsRing base member parts hand p → IsClosed narrow parts → IsWalkIn d p.registers p.walk → IsWider narrow member → Are narrow d p.registers.doorbell → IsRing base narrow parts hand p
narrowed base member narrow parts hand p d ring closed walk fewer are =
    let c : LeadsOn d p.registers.doorbell (cursor_link p.registers p.walk.cursor) = walk.cursor in
    ring_narrowed base member narrow parts hand p ring fewer closed
    (on_at narrow d p.registers.doorbell base.async_list_address head_block are (ap (λ (b : Base). b.async_list_address) (sym ring.registers) ∙ walk.start) (at_head refl))
    (record {
      cursor = record { to = 32 * c.block; leads = c.is; on = on_at narrow d p.registers.doorbell (32 * c.block) c.block are refl c.reached };
      in_hand = hand_by narrow d p hand are walk ring.held;
    })

pub narrow_ring : NarrowRing
narrow_ring base member narrow parts hand p d ring words walk fewer are =
    narrowed base member narrow parts hand p d ring (closed_by p.memory parts narrow d p.registers.doorbell ring.tells words are) walk fewer are

pub narrow_drives : NarrowDrives
narrow_drives base member narrow parts hand p d k words walk fewer are =
    record { ring = narrow_ring base member narrow parts hand p d k.ring words walk fewer are; driven = k.driven }

-- ---- an event of the walk

-- it leaves the links of queue heads
still_closed : (narrow : ℕ → Bool) (parts now : StructureSets) → KeepsEach parts now → IsClosed narrow parts → IsClosed narrow now
still_closed narrow parts now keeps closed n q on here =
    let h : HadHead (parts n) n q = (keeps n).head_before n q here in
    subst (LeadsAmong narrow) (sym (ap (λ (z : Qh). z.link) h.same)) (closed n h.queue on h.here)

fewer_by : (d : DriverContent) (b rings : Bool) → (b ≡ true → rings ≡ true) → IsWider (is_reached d b) (is_reached d rings)
fewer_by d false rings falls n on = answer_reaches_fewer d rings n on
fewer_by d true rings falls n on = subst (λ (r : Bool). is_reached d r n ≡ true) (sym (falls refl)) on

pub event_narrows : {W : Type 0} (transacts : W → Ask → List ℕ → Reply → W → Type 0) → EventNarrows transacts
event_narrows transacts base member narrow parts hand p d wire new after k words fixed heads walk heard leads wide are =
    let kind = step_of (event_row p) (at_event p) in
    let e : Happens transacts base member parts hand wire after new kind = each_event transacts base member parts hand p wire new after k.ring heard leads in
    let next = event_in transacts d p wire new after words fixed heads walk leads in
    let closed = closed_by p.memory parts narrow d new.registers.doorbell k.ring.tells words are in
    let keeps = effect_keeps transacts base member parts hand p wire after e.now e.later kind k.ring e.effect in
    let fewer : IsWider narrow member = λ n on. wide n (fewer_by d new.registers.doorbell p.registers.doorbell (event_falls transacts p wire new after leads) n (sym (are n) ∙ on)) in
    record {
      now = e.now;
      later = e.later;
      drives = record {
        ring = narrowed base member narrow e.now e.later new d e.ring (still_closed narrow parts e.now keeps closed) next fewer are;
        driven = driven_same (views_of d) parts e.now (effect_same transacts base member parts hand p wire after e.now e.later kind k.ring e.effect) k.driven;
      };
      walk = next;
      effect = e.effect;
    }

pub answer_narrows : {W : Type 0} (transacts : W → Ask → List ℕ → Reply → W → Type 0) → AnswerNarrows transacts
answer_narrows transacts base member parts hand p d wire new after k words fixed heads walk heard leads wide answered =
    event_narrows transacts base member (is_reached d false) parts hand p d wire new after k words fixed heads walk heard leads wide (λ n. ap (λ (b : Bool). is_reached d b n) (sym answered))
