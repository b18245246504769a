-- A queue head that is being opened begins with DATA0 and a start-split, and nothing of it is active, until it is met.
use Rattle.std.proofs.Common.{◌≡◌, ℕ, Bool, true, false, if◌then◌else◌, Some, refl, sym, ap, ◌∙◌}
use Rattle.bus_wire.specs.Bus.{Fixed}
use Rattle.link_words.specs.declared.fields.LinkBits.{LinkBits}
use Rattle.qh_qtd.specs.declared.qtd.Qtd.{Qtd}
use Rattle.qh_qtd.specs.declared.queue_head.Qh.{Qh}
use Rattle.toggle_error.specs.declared.host.HostSide.{HostSide}
use Rattle.claims_base.specs.Controller.{opening_base}
use Rattle.law_structures.specs.lent_structures.Structures.{QueueHead, Element}
use Rattle.law_structures.specs.lent_structures.Alters.{HadElement}
use Rattle.law_structures.proofs.lemmas.lent_structures.Altering.{found_queue}
use Rattle.law_structures.proofs.lemmas.lent_structures.Members.{still_active}
use Rattle.law_ring.specs.Hand.{Hand, Empty, Copied, Settled, Stale}
use Rattle.law_ring.specs.Told.{Endpoint as Told, HasToggle, hand_toggle}
use Rattle.law_controller.specs.frame_control.Joined.{joined}
use Rattle.law_devices.specs.scripted_requests.Controls.{transacts_by, begins_by}
use Rattle.law_descriptors.specs.Both.{owns, both, parts_now}
use Rattle.law_descriptors.specs.Meeting.{met}
use Rattle.law_descriptors.specs.PartLaws.{IsDescribing}
use Rattle.law_descriptors.proofs.Standing.{both_off}
use Rattle.law_descriptors.proofs.Telling.{queue_off}
use Rattle.law_descriptors.proofs.lemmas.queue_events.Events.{both_keeps_structures}
use Rattle.law_below_hubs.specs.HostEvents.{hand_host, IsHostLike}
use Rattle.law_below_hubs.specs.HostOpens.{IsFirst}
use Rattle.law_below_hubs.proofs.HostAsks.{host_toggle}
use Rattle.law_below_hubs.proofs.HostCarries.{IsMadeBy, HostGoes, makes_own, stays, host_goes}
use Rattle.law_world.specs.memory.Mixed.{Standing, IsMixedAt}
use Rattle.law_world.specs.memory.SameQueues.{IsRelinked}
use Rattle.law_world.specs.memory.Steps.{AreTold, IsMixedControlled}
use Rattle.law_world.specs.steps.Streaming.{wired}
use Rattle.law_microframes.proofs.lemmas.visits.AskedHeads.{asked_is_near}
use Rattle.law_world.proofs.lemmas.memory.lemmas.pipe_steps.Stays.{stays_tells_one_hand}
use Rattle.bus_world.specs.World.{World, controller_parts, controller_next}
use Rattle.law_reports.specs.lines.Lined.{in_hand}
use Rattle.law_reports.specs.pipes.Piped.{IsNewHead}
use Rattle.law_reports.proofs.lemmas.pipes.lemmas.below_hubs.Spared.{stays_host}

-- ---- an event of the driver

linked_host : (h : Hand) (n : ℕ) (q : Qh) (l : LinkBits) → hand_host h n (record q { link = l }) ≡ hand_host h n q
linked_host Empty n q l = refl
linked_host (Copied c) n q l = refl
linked_host (Settled c z) n q l = refl
linked_host (Stale m old) n q l = refl

pub told_new_head : (s t : Standing) → AreTold s t → (n : ℕ) (u : Told) → IsNewHead s n u → IsNewHead t n u
told_new_head s t told n u h =
    let same = stays_tells_one_hand s t told in
    record {
      named = same.endpoint n u h.named;
      first = λ own. same.toggle n false (h.first own);
      starts = λ q here.
          let was : IsRelinked (s.parts n) n q = (told.parts n).head_was q here in
          ap (λ (host : HostSide). host.waiting) (stays_host s.hand t.hand s.frame t.frame told.hand told.frame n q
          ∙ sym (linked_host (in_hand s) n q was.link)) ∙ h.starts (record q { link = was.link }) was.here;
      idle = λ a u here on. h.idle a u ((told.parts n).elements_were a u here) on;
    }

-- ---- an event of the controller

module _ (fixed : Fixed) (s : Standing) (w : World) (mixed : IsMixedAt s w) (c : IsMixedControlled fixed s w) (n : ℕ)
    (none : s.near n ≡ false) (u : Told) (h : IsNewHead s n u) where
  abbrev q0 : Qh
  q0 = h.named.queue

  off : owns s.descs n ≡ false
  off =
      let f = mixed.now.framed in
      let describing : IsDescribing w.driver s.descs s.parts =
      record { owners = f.place.sound.owners; driven = f.driven; described = f.described } in
      queue_off w.driver s.descs s.parts describing n n (QueueHead h.named.queue) h.named.head

  there : both s.descs s.parts n ≡ s.parts n
  there = both_off s.descs s.parts n off

  now_is : c.event.now n ≡ parts_now s.descs s.parts c.event.now n
  now_is = sym (ap (λ (b : Bool). if b then s.parts n else c.event.now n) off)

  idle_before : (a : ℕ) (t : Qtd) → both s.descs s.parts n a ≡ Some (Element t) → t.token.active ≡ true → ⊥
  idle_before a t here on = h.idle a t (ap (λ part. part a) (sym there) ∙ here) on

  pub idle_then : (a : ℕ) (t : Qtd) → parts_now s.descs s.parts c.event.now n a ≡ Some (Element t) → t.token.active ≡ true → ⊥
  idle_then a t here on =
      let kept = both_keeps_structures begins_by transacts_by opening_base s.member (met w.driver s.recent) s.descs s.parts s.hand s.frame
      (controller_parts w) (wired fixed w) (wired fixed (controller_next fixed w)) c.event.now c.event.later c.event.frame_later
      mixed.now.framed.runs c.event.effect n in
      let had : HadElement (s.parts n) a t = kept.alters.element_before a t here in
      let same : t ≡ had.qtd = still_active had.qtd t had.after on in
      h.idle a had.qtd had.here (ap (λ (x : Qtd). x.token.active) (sym same) ∙ on)

  pub starts_then : (q : Qh) → parts_now s.descs s.parts c.event.now n n ≡ Some (QueueHead q)
      → (hand_host (joined c.event.later c.event.frame_later) n q).waiting ≡ false
  starts_then q here =
      by (host_goes opening_base s.member (met w.driver s.recent) (both s.descs s.parts) s.hand s.frame (controller_parts w) (wired fixed w)
      (wired fixed (controller_next fixed w)) c.event.now c.event.later c.event.frame_later mixed.now.framed.runs n h.named.queue
      (ap (λ part. part n) there ∙ h.named.head) c.event.effect)
    where
      still : (hand_host (in_hand s) n h.named.queue).waiting ≡ false
      still = h.starts h.named.queue h.named.head

      by : HostGoes (both s.descs s.parts) c.event.now (in_hand s) (joined c.event.later c.event.frame_later) n (wired fixed w)
          (wired fixed (controller_next fixed w))
          (IsMadeBy s.member (met w.driver s.recent) (both s.descs s.parts) (controller_parts w).control.frame s.frame c.event.frame_later
          (in_hand s) (joined c.event.later c.event.frame_later) (wired fixed w) (wired fixed (controller_next fixed w)))
          → (hand_host (joined c.event.later c.event.frame_later) n q).waiting ≡ false
      by (makes_own m at all made) =
          let near : s.near m.copy.at ≡ true =
          asked_is_near s w mixed m.copy m.in_hand
          (ap (λ (i : ℕ). s.parts i i) at ∙ ap (λ part. part n) (sym there) ∙ ap (λ (i : ℕ). both s.descs s.parts i i) (sym at) ∙ m.here)
          m.works in
          absurd (let e : true ≡ false = sym near ∙ ap s.near at ∙ none in cc)
      by (stays goes unmade) =
          let k : IsHostLike (hand_host (in_hand s) n h.named.queue) (hand_host (joined c.event.later c.event.frame_later) n q) =
          goes h.named.queue q (ap (λ part. part n) there ∙ h.named.head) (ap (λ part. part n) now_is ∙ here)
          (λ a t there_it on. absurd (idle_before a t there_it on)) (λ idle going. still) in
          k.waiting ∙ still

-- ---- where it is met

pub new_first : (t : Standing) (n : ℕ) (u : Told) → IsNewHead t n u → u.dtc ≡ false → (q : Qh) → t.parts n n ≡ Some (QueueHead q)
    → IsFirst (hand_host (in_hand t) n q)
new_first t n u h own q here =
    let has : HasToggle (in_hand t) t.parts n false = h.first own in
    record {
      toggle = host_toggle (in_hand t) n q
          ∙ sym (has.is ∙ ap (λ (r : Qh). hand_toggle (in_hand t) n r) (found_queue (t.parts n n) has.queue q has.head here));
      waiting = h.starts q here;
    }
