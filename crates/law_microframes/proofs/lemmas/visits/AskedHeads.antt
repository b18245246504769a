-- A queue head that works is met, or will be given back: one that is being opened isn't there yet, or rests.
use Rattle.std.proofs.Common.{◌≡◌, ◌≢◌, ℕ, suc, ◌-◌, ◌*◌, ◌||◌, not, Bool, true, false, length, slice_get, Option, Some, None, option_map, if◌then◌else◌, ap, refl, sym, subst, ◌∙◌, ⊎_elim, arith}
use Rattle.std.specs.Prelude.{◌⊎◌}
use Rattle.std.proofs.lemmas.Bool.{false≢true}
use Rattle.law_world.proofs.Common.{same_queue}
use Rattle.law_descriptors.proofs.Common.{none_some}
use Rattle.law_driver.proofs.Common.{ring_queue}
use Rattle.law_common.proofs.Numbers.{same_blocks}
use Rattle.usb_base.specs.declared.packets.EpKind.{EpKind}
use Rattle.usb_base.specs.declared.packets.EpKind.TheVariants as kinds
use Rattle.qh_qtd.specs.declared.queue_head.Qh.{Qh}
use Rattle.drv_periodic_table.specs.Periodic.{is_periodic}
use Rattle.drv_table.specs.declared.content.Command.{Command}
use Rattle.drv_table.specs.declared.content.Command.TheVariants as unfinished
use Rattle.drv_table.specs.declared.content.Endpoint.{Endpoint}
use Rattle.drv_table.specs.DriverContent.{DriverContent}
use Rattle.drv_table.specs.Kinds.{is_iso}
use Rattle.drv_table.specs.Words.{head_block, queue_head, dummy_qtd}
use Rattle.claims_base.specs.Controller.{opening_base}
use Rattle.claims_driver.specs.Leaving.{HasOwners}
use Rattle.claims_driver.specs.Owners.{EndpointRuns, runs_of_endpoint, views_of, IsQueueIn}
use Rattle.law_driver.specs.endpoint_lives.Lives.{is_one_of}
use Rattle.law_driver.specs.queued_drivers.Queued.{with_queue, queued_command, queue_of, queued}
use Rattle.law_driver.proofs.lemmas.queued_drivers.RowLists.{queue_at}
use Rattle.law_driver.proofs.lemmas.ring_members.Placed.{in_ring_alive}
use Rattle.law_structures.specs.lent_structures.Structures.{QueueHead, Element, with_structure}
use Rattle.law_structures.proofs.lemmas.lent_structures.Names.{with_here, with_there}
use Rattle.law_structures.proofs.lemmas.lent_structures.Altering.{found_queue}
use Rattle.law_ring.specs.Hand.{Copy}
use Rattle.law_controller.specs.frame_control.Joined.{IsAsked}
use Rattle.law_controller.proofs.lemmas.frame_control.Joining.{joined_is_asked}
use Rattle.law_driver_ring.specs.LendOpened.{IsOpened}
use Rattle.law_driver_ring.specs.Linked.{no_part, opened_part}
use Rattle.law_driver_ring.specs.fed_queues.Places.{IsMet, HasHead}
use Rattle.law_driver_ring.proofs.LendOwning.{queue_no_dummy, none_there}
use Rattle.law_driver_ring.proofs.LendOpening.{lent_content, two_lent}
use Rattle.law_frames.specs.Met.{AQueue}
use Rattle.law_descriptors.specs.Both.{both}
use Rattle.law_descriptors.specs.Meeting.{met}
use Rattle.law_queues.specs.open_laws.Lends.{IsOpenReady}
use Rattle.law_queues.specs.open_laws.Opens.{IsOpenLent}
use Rattle.bus_world.specs.World.{World, controller_parts}
use Rattle.law_world.specs.memory.framed_memory.Chained.{chained_queue}
use Rattle.law_world.specs.memory.Mixed.{IsChainToLend, IsChainThere, IsUnderWay, Standing, IsMixedAt}
use Rattle.law_world.proofs.lemmas.memory.RingBasis.{linked_still, near_ring}
use Rattle.law_microframes.specs.visits.AskedHeads.{AskedIsNear}
use Rattle.law_microframes.specs.visits.Belonging.{IsQueueAt}
use Rattle.law_microframes.proofs.lemmas.visits.BelongQueues.{queue_belongs}

interrupt_periodic : (kind : EpKind) → kind ≡ kinds.Interrupt → (is_periodic kind ≡ true) × (is_iso kind ≡ false)
interrupt_periodic kind is = (ap is_periodic is, ap is_iso is)

-- the number of the newest
newest_is : (n e : ℕ) → suc e ≡ n → n - 1 ≡ e
newest_is n e is = omega (arith, is)

-- a queue head stands in its part, whatever its inactive qTD's place is
part_head : (x : EndpointRuns) (q : Qh) → x.queue ≢ x.dummy → opened_part x q (32 * x.queue) ≡ Some (QueueHead q)
part_head x q differs =
    with_there (with_structure no_part (32 * x.queue) (QueueHead q)) (32 * x.dummy) (Element dummy_qtd) (32 * x.queue)
    (λ same. differs (same_blocks x.queue x.dummy same))
    ∙ with_here no_part (32 * x.queue) (QueueHead q)

module _ (s : Standing) (w : World) (k : IsMixedAt s w) (copy : Copy) (here : s.parts copy.at copy.at ≡ Some (QueueHead copy.queue))
    (works : copy.queue.token.active ≡ true) where
  abbrev d : DriverContent
  d = w.driver

  owners : HasOwners w.driver
  owners = k.now.framed.place.sound.owners

  -- ---- one that is being opened

  absent : (q : ℕ) → copy.at ≡ 32 * q → s.parts (32 * q) (32 * q) ≡ None → ⊥
  absent q at none = none_some (QueueHead copy.queue) (sym none ∙ ap (λ (i : ℕ). s.parts i i) (sym at) ∙ here)

  rests : (q : ℕ) (x : Qh) → copy.at ≡ 32 * q → s.parts (32 * q) (32 * q) ≡ Some (QueueHead x) → x.token.active ≡ false → ⊥
  rests q x at there idle =
      false≢true (sym idle ∙ ap (λ (y : Qh). y.token.active)
      (found_queue (s.parts (32 * q) (32 * q)) x copy.queue there (ap (λ (i : ℕ). s.parts i i) (sym at) ∙ here)) ∙ works)

  unlent : (e : ℕ) (x : EndpointRuns) (q : Qh) → IsOpened w.driver w.memory e x q → copy.at ≡ 32 * x.queue → ⊥
  unlent e x q opened at =
      absent x.queue at
      (none_there (views_of w.driver) (views_of (lent_content w.driver w.memory)) owners.owner e x s.parts (32 * x.queue)
      (two_lent w.driver w.memory e x q opened owners) k.now.framed.driven)

  in_ring : (b q : ℕ) → b ≡ q → w.driver.command ≡ Some (unfinished.Open b) → copy.at ≡ 32 * q
      → IsOpenReady w.driver w.memory ⊎ IsOpenLent w.driver s.member s.parts → ⊥
  in_ring b q same is at stand =
      ⊎_elim
      (λ (r : IsOpenReady w.driver w.memory).
      let one : r.endpoint.queue ≡ q = same_queue r.endpoint.queue b (sym r.command ∙ is) ∙ same in
      unlent r.number (runs_of_endpoint r.endpoint) (queue_head r.endpoint.desc r.link r.endpoint.dummy) r.opened
      (at ∙ ap (λ (i : ℕ). 32 * i) (sym one)))
      (λ (l : IsOpenLent w.driver s.member s.parts).
      let one : l.endpoint.queue ≡ q = same_queue l.endpoint.queue b (sym l.command ∙ is) ∙ same in
      let runs : EndpointRuns = runs_of_endpoint l.endpoint in
      let queued_in : IsQueueIn (views_of w.driver) l.number runs = record {
        here = ap (option_map runs_of_endpoint) l.here;
        queued = in_ring_alive w.driver l.number l.endpoint owners.orderly l.here l.fresh;
      } in
      rests l.endpoint.queue (queue_head l.endpoint.desc l.link l.endpoint.dummy) (at ∙ ap (λ (i : ℕ). 32 * i) (sym one))
      (l.part (32 * l.endpoint.queue) ∙ part_head runs (queue_head l.endpoint.desc l.link l.endpoint.dummy)
      (queue_no_dummy (views_of w.driver) owners.owner l.number l.number runs runs owners.owned.each queued_in queued_in)) refl) stand

  in_frames : (q : ℕ) → queued_command w.driver.endpoints (Some unfinished.Chain) ≡ Some (unfinished.Open q)
      → w.driver.command ≡ Some unfinished.Chain → copy.at ≡ 32 * q
      → IsChainToLend w.driver w.memory ⊎ IsChainThere w.driver s.member s.recent s.parts → ⊥
  in_frames q same is at stand =
      ⊎_elim
      (λ (r : IsChainToLend w.driver w.memory).
      let last : slice_get w.driver.endpoints (length w.driver.endpoints - 1) ≡ Some r.ready.endpoint =
      ap (slice_get w.driver.endpoints) (newest_is (length w.driver.endpoints) r.ready.number r.newest) ∙ r.ready.here in
      let one : r.ready.endpoint.queue ≡ q = ap queue_of (sym last)
      ∙ same_queue (queue_of (slice_get w.driver.endpoints (length w.driver.endpoints - 1))) q same in
      unlent r.ready.number (runs_of_endpoint r.ready.endpoint) (chained_queue r.ready.endpoint r.ready.place r.ready.link) r.ready.opened
      (at ∙ ap (λ (i : ℕ). 32 * i) (sym one)))
      (λ (t : IsChainThere w.driver s.member s.recent s.parts).
      let one : t.there.endpoint.queue ≡ q = same_queue t.there.endpoint.queue q
      (sym t.there.command ∙ ap (queued_command w.driver.endpoints) is ∙ same) in
      rests t.there.endpoint.queue t.there.part.queue (at ∙ ap (λ (i : ℕ). 32 * i) (sym one)) t.there.part.here t.there.part.rests.idle)
      stand

  not_opened : (c : Option Command) → w.driver.command ≡ c → (q : ℕ) → queued_command w.driver.endpoints c ≡ Some (unfinished.Open q)
      → copy.at ≡ 32 * q → ⊥
  not_opened (Some (unfinished.Open b)) is q same at =
      in_ring b q (same_queue b q same) is at
      (subst (IsUnderWay w.driver w.memory s.member s.recent s.parts) is k.under_way)
  not_opened (Some unfinished.Chain) is q same at =
      in_frames q same is at (subst (IsUnderWay w.driver w.memory s.member s.recent s.parts) is k.under_way)
  not_opened None is q same at = cc
  not_opened (Some (unfinished.Publish b words)) is q same at = cc
  not_opened (Some (unfinished.Unlink e b link)) is q same at = cc
  not_opened (Some (unfinished.Iso e t count)) is q same at = cc
  not_opened (Some (unfinished.Unchain e)) is q same at = cc

  -- ---- one that is met

  near_by : (e : ℕ) (x : Endpoint) → slice_get w.driver.endpoints e ≡ Some x → is_iso x.desc.kind ≡ false → x.gone ≡ false
      → ((with_queue x).linked || (is_one_of e w.driver.waiting || is_one_of e w.driver.rung)) ≡ true → copy.at ≡ 32 * x.queue
      → s.near copy.at ≡ true
  near_by e x there queue kept near at =
      let is_met : IsMet (queued w.driver) e (with_queue x) = record {
        there = record { linked = λ opens. not_opened w.driver.command refl x.queue opens at; kept = kept };
        near = near;
      } in
      ap s.near at ∙ k.queues.queues.met.each e (with_queue x) (queue_at w.driver.endpoints e x there queue) is_met

  of_ring : s.member copy.at ≡ true → s.near copy.at ≡ true
  of_ring on =
      ⊎_elim (λ (head : copy.at ≡ 32 * head_block). ap s.near head ∙ k.queues.queues.met.head)
      (λ (h : HasHead w.driver copy.at).
      let own : is_periodic h.endpoint.desc.kind ≡ false = (near_ring w.driver h.number h.endpoint owners h.here h.met.near).0 in
      near_by h.number h.endpoint h.here (ring_queue h.endpoint.desc.kind own) h.met.there.kept
      (ap (λ (b : Bool). b || (is_one_of h.number w.driver.waiting || is_one_of h.number w.driver.rung)) (linked_still h.endpoint own)
      ∙ h.met.near) h.at) (k.ring.only copy.at on)

  of_frames : met w.driver s.recent copy.at ≡ Some AQueue → s.near copy.at ≡ true
  of_frames on =
      let q : IsQueueAt w.driver copy.at = queue_belongs s w copy.at k on in
      let x : Endpoint = q.belongs.endpoint in
      let periodic = interrupt_periodic x.desc.kind q.kind in
      near_by q.belongs.number x q.belongs.here periodic.1 q.belongs.kept
      (ap (λ (b : Bool). (if b then not x.gone else x.linked)
      || (is_one_of q.belongs.number w.driver.waiting || is_one_of q.belongs.number w.driver.rung)) periodic.0
      ∙ ap (λ (b : Bool). not b || (is_one_of q.belongs.number w.driver.waiting || is_one_of q.belongs.number w.driver.rung))
      q.belongs.kept) q.name

  asked_near : IsAsked s.member (met w.driver s.recent) copy → s.near copy.at ≡ true
  asked_near asked = ⊎_elim of_ring of_frames asked

pub asked_is_near : AskedIsNear
asked_is_near s w k copy in_hand here works =
    asked_near s w k copy here works
    (joined_is_asked opening_base s.member (met w.driver s.recent) (both s.descs s.parts) s.hand s.frame (controller_parts w) copy
    k.now.framed.runs in_hand)
