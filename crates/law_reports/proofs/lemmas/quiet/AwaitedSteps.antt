-- What a step of a queue leaves of the queue head of a control endpoint: its host, and qTDs that begin with a start-split; or it is mended,
-- and then it rests.
use Rattle.std.proofs.Common.{◌≡◌, ◌≢◌, ℕ, zero, suc, ◌-◌, ◌*◌, ◌==◌, ◌<◌, ◌≤◌, ◌&&◌, not, Bool, true, false, List, ◌∷◌, Option, Some}
use Rattle.std.proofs.Common.{ap, refl, sym, subst, ◌∙◌, ⊎_elim, inl, inr, arith}
use Rattle.std.specs.Prelude.{◌⊎◌}
use Rattle.std.proofs.lemmas.Bool.{and_parts, cases_eq, cases_lt, eq-eqb, false≢true, true≢false}
use Rattle.qh_qtd.specs.declared.qtd.Qtd.{Qtd}
use Rattle.qh_qtd.specs.declared.queue_head.Qh.{Qh}
use Rattle.toggle_error.specs.declared.host.HostSide.{HostSide}
use Rattle.hc_copy.specs.Planning.{host_in}
use Rattle.hc_core.specs.declared.controller.MicroframePart.{MicroframePart}
use Rattle.hc_core.specs.declared.controller.MicroframePart.TheVariants.{Periodic, Over, Asynchronous}
use Rattle.hc_core.specs.Controller.{Content, walk_place, frame_place}
use Rattle.claims_base.specs.Controller.{Base, opening_base}
use Rattle.claims_driver.specs.Owners.{runs_of_endpoint, runs_of_transfer}
use Rattle.drv_table.specs.declared.content.Command.TheVariants as unfinished
use Rattle.drv_table.specs.declared.content.Endpoint.{Endpoint}
use Rattle.drv_table.specs.declared.content.Transfer.{Transfer}
use Rattle.drv_table.specs.DriverContent.{DriverContent}
use Rattle.drv_table.specs.Words.{dummy_qtd, to_queue_head}
use Rattle.law_driver.proofs.lemmas.chained_transfers.Holding.{held_alive}
use Rattle.law_driver.specs.queued_drivers.Queued.{queued, queued_parts}
use Rattle.law_driver.proofs.lemmas.queued_drivers.RowOwners.{queued_has_owners}
use Rattle.law_structures.specs.lent_structures.Structures.{QueueHead, Element, Structures, StructureSets, put}
use Rattle.law_structures.specs.lent_structures.Sound.{IsWorking, IsSoundQueue}
use Rattle.law_structures.proofs.lemmas.lent_structures.Altering.{found_queue}
use Rattle.law_structures.proofs.lemmas.lent_structures.Names.{put_beside, put_here, put_found, with_here}
use Rattle.law_ring.specs.Fewer.{without_those}
use Rattle.law_ring.specs.QueueParts.{IsQueuePart}
use Rattle.law_ring.specs.Hand.{Copy, Settlement, Hand, Settled}
use Rattle.law_ring.specs.Ring.{IsInHand, IsCopied, IsSettled}
use Rattle.law_ring.specs.Sparing.{SparesHead}
use Rattle.law_ring.specs.Told.{endpoint_of}
use Rattle.law_ring.specs.Together.{Item}
use Rattle.law_ring.proofs.Returning.{those_found}
use Rattle.law_controller.specs.frame_control.Both.{RunsBoth}
use Rattle.law_controller.specs.frame_control.Joined.{joined}
use Rattle.law_controller.proofs.Common.{heads_stay}
use Rattle.law_controller.proofs.lemmas.controlled_streams.Returning.{spares_head as returned_head}
use Rattle.law_controller.proofs.lemmas.controlled_streams.Storing.{element_found, spares_head as stored_head}
use Rattle.law_frames.specs.Met.{Kind}
use Rattle.law_frames.specs.Frame.{IsInFrame}
use Rattle.law_frames.specs.FrameHand.{FrameHand, Nothing, OfQueue, OfSettled, OfItd, OfSitd, came}
use Rattle.law_descriptors.specs.Both.{both}
use Rattle.law_descriptors.specs.Meeting.{met as met_by}
use Rattle.law_descriptors.proofs.Standing.{both_off}
use Rattle.law_descriptors.proofs.Telling.{queue_off}
use Rattle.law_driver_ring.specs.Published.{partly}
use Rattle.law_driver_ring.specs.Released.{goes_of}
use Rattle.law_driver_ring.specs.TransferLaws.{items_of, lent_memory}
use Rattle.law_driver_ring.specs.fed_queues.Fed.{IsPublished}
use Rattle.law_driver_ring.specs.fed_queues.Places.{IsMet}
use Rattle.law_driver_ring.proofs.Common.{partly_idle}
use Rattle.law_driver_ring.proofs.Lots.{IsItem, all_found}
use Rattle.law_queues.specs.fed_lends.ToLend.{IsToBeLent}
use Rattle.law_queues.specs.lent_fronts.Stands.{parts_with}
use Rattle.law_queues.specs.mended_heads.Mended.{IsAtMend, mended_by, mended, head_at, parts_then as parts_mended, hand_then as hand_mended}
use Rattle.law_queues.specs.open_laws.Queues.{IsOpenToLend, parts_opened}
use Rattle.law_queues.specs.publish_laws.Stores.{parts_then as parts_stored}
use Rattle.law_queues.specs.released_queues.Released.{IsReturning}
use Rattle.law_queues.specs.released_queues.Staying.{QueuesAreTold}
use Rattle.law_queues.proofs.lemmas.mended_heads.Mending.{keeps_endpoint}
use Rattle.law_queues.proofs.lemmas.mended_heads.Parts.{element_was}
use Rattle.law_queues.proofs.lemmas.mended_heads.Row.{mend_spares_heads}
use Rattle.law_queues.proofs.lemmas.released_queues.StayingParts.{head_stays}
use Rattle.law_world.specs.steps.unlinked_streams.Unlinks.{IsAtUnlink, parts_unlinked, hand_unlinked}
use Rattle.law_world.specs.steps.endpoint_releases.Released.{without_queue}
use Rattle.law_world.proofs.lemmas.steps.lemmas.endpoint_releases.Owning.{queue_beside}
use Rattle.law_world.proofs.lemmas.steps.lemmas.unlinked_streams.Streams.{unlink_spares_heads}
use Rattle.law_world.specs.memory.Mixed.{Standing, IsMixedAt}
use Rattle.law_world.specs.memory.SameQueues.{IsRelinked}
use Rattle.law_world.specs.memory.Steps.{AreTold, IsNextStore, QueueStep, stays, harvests, returns, lends, stores, mends, begins, opens}
use Rattle.law_world.specs.memory.Steps.{unlinks, narrows, goes}
use Rattle.law_world.proofs.Common.{none_some}
use Rattle.law_world.proofs.lemmas.memory.HarvestKept.{owners_of, driven_of, runs_of, fronts_of}
use Rattle.law_world.proofs.lemmas.memory.lemmas.pipe_steps.Begins.{opening_apart}
use Rattle.law_below_hubs.specs.HostEvents.{hand_host}
use Rattle.law_below_hubs.proofs.HostCarries.{apart_host}
use Rattle.bus_world.specs.World.{World, driver_parts, controller_parts}
use Rattle.law_reports.specs.lines.Lined.{in_hand}
use Rattle.law_reports.specs.pipes.below_hubs.Steps.{PublishesStart}
use Rattle.law_reports.proofs.lemmas.pipes.lemmas.below_hubs.Spared.{HostAlike, host_itself, host_linked, host_stale, same_frames, stays_host}
use Rattle.law_reports.proofs.lemmas.quiet.Setups.{stages_whole, items_are}

-- ---- what a transaction left in hand is of a queue head that works

module _ (base : Base) (member : ℕ → Bool) (met : ℕ → Option Kind) (parts : StructureSets) (hand : Hand) (frame : FrameHand) (c : Content)
    (k : RunsBoth base member met parts hand frame c) (copy : Copy) (z : Settlement) where
  pub record IsWorked : Type 0 where
    pub here : parts copy.at copy.at ≡ Some (QueueHead copy.queue)
    pub works : copy.queue.token.active ≡ true

  of_ring : hand ≡ Settled copy z → IsWorked
  of_ring is =
      let two : IsCopied member parts copy × IsSettled copy.queue (walk_place c).walk.reply z =
      subst (IsInHand member parts (walk_place c).walk.reply) is k.ring.in_hand in
      record { here = two.0.here; works = two.1.works }

  in_periodic : (f : FrameHand) → frame ≡ f → (f ≡ Nothing → ⊥) → (part : MicroframePart) → c.control.part ≡ part
      → c.control.part ≡ Periodic
  in_periodic f is some Periodic part = part
  in_periodic f is some Over part =
      absurd (some (sym is ∙ k.outside (inl (λ on. let e : Over ≡ Periodic = sym part ∙ on in cc))))
  in_periodic f is some Asynchronous part =
      absurd (some (sym is ∙ k.outside (inl (λ on. let e : Asynchronous ≡ Periodic = sym part ∙ on in cc))))

  same_copy : (one other : Copy) (y x : Settlement) → Settled one y ≡ Settled other x → one ≡ other
  same_copy one other y x is = cc

  of_frames : (d : Copy) (s : _) (made : ℕ) → frame ≡ OfSettled d s made → d ≡ copy → IsWorked
  of_frames d s made is same =
      let walk = k.walk (in_periodic (OfSettled d s made) is (λ e. cc) c.control.part refl) in
      let there : IsInFrame met parts (frame_place c).walk.got (frame_place c).walk.reply (OfSettled d s made) =
      subst (IsInFrame met parts (frame_place c).walk.got (frame_place c).walk.reply) is walk.in_hand in
      record {
        here = subst (λ (e : Copy). parts e.at e.at ≡ Some (QueueHead e.queue)) same there.0.here;
        works = subst (λ (e : Copy). e.queue.token.active ≡ true) same there.1.came_to.works;
      }

  by_frame : (f : FrameHand) → frame ≡ f → joined hand f ≡ Settled copy z → IsWorked
  by_frame Nothing is e = of_ring e
  by_frame (OfQueue d made) is e = absurd cc
  by_frame (OfSettled d s made) is e = of_frames d s made is (same_copy d copy (came s) z e)
  by_frame (OfItd d) is e = of_ring e
  by_frame (OfSitd d) is e = of_ring e

  pub settled_works : joined hand frame ≡ Settled copy z → IsWorked
  settled_works e = by_frame frame refl e

-- ---- one that is spared

pub record SparesHost (parts now : StructureSets) (hand later : Hand) (n : ℕ) : Type 0 where
  pub hosts : HostAlike hand later
  pub head : SparesHead parts now n
  pub asks : (a : ℕ) (u : Qtd) → now n a ≡ Some (Element u) → u.token.active ≡ true
      → (parts n a ≡ Some (Element u)) ⊎ (u.token.split_state ≡ false)

-- one that is mended: it rested, and rests
pub record MendsHost (parts now : StructureSets) (hand later : Hand) (n : ℕ) : Type 0 where
  pub queue : Qh
  pub was : parts n n ≡ Some (QueueHead queue)
  pub idle : (hand_host hand n queue).active ≡ false
  pub new : Qh
  pub head : now n n ≡ Some (QueueHead new)
  pub endpoint : endpoint_of new ≡ endpoint_of queue
  pub host : hand_host later n new ≡ host_in new
  pub active : new.token.active ≡ false
  pub rests : queue.token.split_state ≡ false → new.token.split_state ≡ false
  pub before : hand_host hand n queue ≡ host_in queue
  pub asks : (a : ℕ) (u : Qtd) → now n a ≡ Some (Element u) → parts n a ≡ Some (Element u)

abbrev pub LeavesHost : StructureSets → StructureSets → Hand → Hand → ℕ → Type 0
LeavesHost parts now hand later n = SparesHost parts now hand later n ⊎ MendsHost parts now hand later n

module _ (s : Standing) (w new : World) (mixed : IsMixedAt s w) (starts : PublishesStart (queued w.driver)) (n : ℕ) (near : s.near n ≡ true)
    (part_is : IsQueuePart n (s.parts n)) where
  off_queue : both s.descs s.parts n ≡ s.parts n
  off_queue =
      let f = mixed.now.framed in
      both_off s.descs s.parts n (queue_off w.driver s.descs s.parts
      (record { owners = f.place.sound.owners; driven = f.driven; described = f.described }) n n (QueueHead part_is.queue) part_is.here)

  abbrev Leaves : StructureSets → Hand → Type 0
  Leaves parts hand = LeavesHost s.parts parts (in_hand s) hand n

  abbrev Starts : StructureSets → Type 0
  Starts parts = (a : ℕ) (u : Qtd) → parts n a ≡ Some (Element u) → u.token.active ≡ true
      → (s.parts n a ≡ Some (Element u)) ⊎ (u.token.split_state ≡ false)

  spares : (parts : StructureSets) (hand : Hand) → HostAlike (in_hand s) hand → SparesHead s.parts parts n → Starts parts → Leaves parts hand
  spares parts hand hosts head asks = inl (record { hosts = hosts; head = head; asks = asks })

  unchanged : (parts : StructureSets) → parts n ≡ s.parts n → Leaves parts (in_hand s)
  unchanged parts same =
      spares parts (in_hand s) (host_itself (in_hand s)) (heads_stay s.parts parts n same)
      (λ a u here on. inl (ap (λ (part : Structures). part a) (sym same) ∙ here))

  told : (t : Standing) → AreTold s t → Leaves t.parts (in_hand t)
  told t k =
      spares t.parts (in_hand t) (stays_host s.hand t.hand s.frame t.frame k.hand k.frame)
      (λ q here. let r : IsRelinked (t.parts n) n q = (k.parts n).head q here in
      record {
        queue = record q { link = r.link };
        here = r.here;
        overlay = record { token = refl; current = refl; offset = refl; endpoint = refl };
      })
      (λ a u here on. inl ((k.parts n).elements_were a u here))

  -- ---- a transfer is given back

  module _ (i : ℕ) (y : Transfer) (x : Endpoint) (r : IsReturning (queued w.driver) i y x) where
    met : IsMet (queued w.driver) y.endpoint x
    met = record {
      there = record {
        linked = λ is. none_some (unfinished.Open x.queue) (sym r.free ∙ is);
        kept = held_alive (queued w.driver) i y x mixed.turns.turns.turns r.here r.held r.endpoint;
      };
      near = r.near;
    }

    queues : QueuesAreTold s.parts (queued_parts (driver_parts w)) s.order s.out
    queues = record {
      driven = driven_of s w mixed;
      owners = owners_of s w mixed;
      in_runs = runs_of s w mixed;
      asynchronous = mixed.turns.turns.asynchronous;
      chained = mixed.turns.turns.chained;
      turns = mixed.turns.turns.turns;
      fed = mixed.queues.queues.fed;
      last = mixed.queues.queues.last;
      still_out = mixed.queues.queues.out_are;
      fronts = fronts_of s w mixed;
      rise = mixed.queues.controls.rises;
    }

    off : goes_of w.driver y (32 * x.queue) ≡ false
    off = head_stays s.parts (queued_parts (driver_parts w)) s.order s.out i y x queues r (mixed.queues.sound y.endpoint x r.endpoint met)

    returned : Leaves (without_those s.parts (32 * x.queue) (goes_of w.driver y)) (in_hand s)
    returned =
        spares (without_those s.parts (32 * x.queue) (goes_of w.driver y)) (in_hand s) (host_itself (in_hand s))
        (returned_head s.parts (32 * x.queue) (goes_of w.driver y) off n)
        (λ a u here on. inl (those_found s.parts (32 * x.queue) (goes_of w.driver y) n a (Element u) here))

  -- ---- a transfer is lent

  module _ (b : ℕ) (words : List ℕ) (get : IsToBeLent (queued w.driver) w.memory b words) where
    abbrev d : DriverContent
    d = queued w.driver

    abbrev items : List Item
    items = items_of (queued w.driver) w.memory (runs_of_transfer get.transfer) (runs_of_endpoint get.endpoint) get.stage get.further

    item_starts : (a : ℕ) (u : Qtd) → IsItem items a (Element u) → u.token.split_state ≡ false
    item_starts a u there =
        items_are (λ (t : Qtd). t.token.split_state ≡ false) d.notes get.endpoint.dummy refl (λ z c last whole. refl)
        (lent_memory (queued w.driver) w.memory) get.stage get.further get.transfer.first a u
        (stages_whole get.endpoint.desc.name.way (get.stage ∷ get.further) get.stages).1 there

    lent_starts : Starts (parts_with get s.parts)
    lent_starts a u here on =
        ⊎_elim (λ (fresh : (n ≡ 32 * get.endpoint.queue) × IsItem items a (Element u)). inr (item_starts a u fresh.1))
        (λ (old : s.parts n a ≡ Some (Element u)). inl old) (all_found s.parts (32 * get.endpoint.queue) items n a (Element u) here)

  -- ---- its first qTD is published

  module _ (b : ℕ) (words : List ℕ) (g : IsPublished (queued w.driver) s.parts b words) (next : IsNextStore s w new b words g) where
    first : (partly g.qtd (queued w.driver).made).token.active ≡ true → (partly g.qtd (queued w.driver).made).token.split_state ≡ false
    first on =
        ⊎_elim (λ (low : (queued w.driver).made < 8). absurd (false≢true (sym (partly_idle g.qtd (queued w.driver).made low) ∙ on)))
        (λ (over : 8 ≤ (queued w.driver).made).
        let few = g.few in
        let eighth : (queued w.driver).made ≡ 8 = omega (arith, few, over) in
        ap (λ (j : ℕ). (partly g.qtd j).token.split_state) eighth ∙ starts b words g.qtd next.command next.made g.are g.range)
        (cases_lt (queued w.driver).made 8)

    stored_starts : Starts (parts_stored g)
    stored_starts a u here on =
        ⊎_elim
        (λ (is : (n ≡ 32 * g.endpoint.queue) × (a ≡ 32 * b) × (u ≡ partly g.qtd (queued w.driver).made)).
        inr (ap (λ (t : Qtd). t.token.split_state) is.2 ∙ first (ap (λ (t : Qtd). t.token.active) (sym is.2) ∙ on)))
        (λ (was : s.parts n a ≡ Some (Element u)). inl was)
        (element_found s.parts (32 * g.endpoint.queue) (32 * b) (partly g.qtd ((queued w.driver).made - 1))
        (partly g.qtd (queued w.driver).made) g.stored n a u here)

  -- ---- a halted queue head is mended

  mended_idle : (b made : ℕ) (q : Qh) → q.token.active ≡ false → (mended_by b made q).token.active ≡ false
  mended_idle b zero q idle = idle
  mended_idle b (suc zero) q idle = idle
  mended_idle b (suc (suc made)) q idle = refl

  mended_rests : (b made : ℕ) (q : Qh) → q.token.split_state ≡ false → (mended_by b made q).token.split_state ≡ false
  mended_rests b zero q still = still
  mended_rests b (suc zero) q still = still
  mended_rests b (suc (suc made)) q still = refl

  module _ (k : IsAtMend (driver_parts w) s.parts s.out) where
    abbrev own : ℕ
    own = 32 * k.stalled.queue

    own_mends : n ≡ own → Leaves (parts_mended k) (joined (hand_mended k s.hand) s.frame)
    own_mends at =
        let q : Qh = head_at k in
        let r : Qh = mended k.stalled (head_at k) in
        let here : s.parts n n ≡ Some (QueueHead q) = ap (λ (i : ℕ). s.parts i i) at ∙ k.are.wait.0.stands.here in
        let idle : q.token.active ≡ false = stopped q here k.are.wait.0.stands.halted in
        let alike : HostAlike (in_hand s) (joined (hand_mended k s.hand) s.frame) =
        same_frames s.hand (hand_mended k s.hand) s.frame (host_stale own s.hand) in
        let before : hand_host (in_hand s) n q ≡ host_in q = unsettled q q here idle in
        inr (record {
          queue = q;
          was = here;
          idle = ap (λ (host : HostSide). host.active) before ∙ idle;
          new = r;
          head = ap (λ (i : ℕ). parts_mended k i i) at ∙ ap (λ (part : Structures). part own) (put_here s.parts own own (QueueHead r))
              ∙ with_here (s.parts own) own (QueueHead r);
          endpoint = keeps_endpoint k.stalled.onward k.stalled.made q;
          host = alike n r ∙ unsettled q r here idle;
          active = mended_idle k.stalled.onward k.stalled.made q idle;
          rests = mended_rests k.stalled.onward k.stalled.made q;
          before = before;
          asks = λ a u there.
              element_was s.parts own (head_at k) (mended k.stalled (head_at k)) k.are.wait.0.stands.here n a u there;
        })
      where
        stopped : (q : Qh) → s.parts n n ≡ Some (QueueHead q) → q.token.halted ≡ true → q.token.active ≡ false
        stopped q here halted = by q.token.active refl
          where
            by : (b : Bool) → q.token.active ≡ b → q.token.active ≡ false
            by false idle = idle
            by true on =
                let work : IsWorking (s.parts n) q = (subst (IsSoundQueue (s.parts n))
                (found_queue (s.parts n n) part_is.queue q part_is.here here) part_is.sound).work on in
                absurd (false≢true (sym work.goes_on ∙ halted))

        -- no transaction of it is to be written back
        unsettled : (q r : Qh) → s.parts n n ≡ Some (QueueHead q) → q.token.active ≡ false → hand_host (in_hand s) n r ≡ host_in r
        unsettled q r here idle = apart_host (in_hand s) n r (λ c z is same.
            let work = settled_works opening_base s.member (met_by w.driver s.recent) (both s.descs s.parts) s.hand s.frame (controller_parts w)
            mixed.now.framed.runs c z is in
            let there : s.parts n n ≡ Some (QueueHead c.queue) = ap (λ (part : Structures). part n) (sym off_queue)
            ∙ ap (λ (i : ℕ). both s.descs s.parts i i) (sym same) ∙ work.here in
            false≢true (sym idle ∙ ap (λ (y : Qh). y.token.active) (found_queue (s.parts n n) q c.queue here there) ∙ work.works))

    mended_so : Leaves (parts_mended k) (joined (hand_mended k s.hand) s.frame)
    mended_so =
        ⊎_elim own_mends
        (λ (differs : n ≢ own).
        spares (parts_mended k) (joined (hand_mended k s.hand) s.frame)
        (same_frames s.hand (hand_mended k s.hand) s.frame (host_stale own s.hand)) (mend_spares_heads (driver_parts w) s.parts s.out k n differs)
        (λ a u here on. inl (element_was s.parts own (head_at k) (mended k.stalled (head_at k)) k.are.wait.0.stands.here n a u here)))
        (cases_eq n own)

  -- ---- a queue head leaves the ring, or is lent

  module _ (k : IsAtUnlink (queued w.driver) s.near s.parts) where
    no_element : (q : Qh) (u : Qtd) → Element u ≡ QueueHead q → ⊥
    no_element q u e = cc

    unlinked_starts : Starts (parts_unlinked s.parts k.before k.queue k.after)
    unlinked_starts a u here on =
        ⊎_elim
        (λ (is : (n ≡ 32 * k.before) × (a ≡ 32 * k.before) × (Element u ≡ QueueHead (record k.queue { link = to_queue_head k.after }))).
        absurd (no_element (record k.queue { link = to_queue_head k.after }) u is.2))
        (λ (was : s.parts n a ≡ Some (Element u)). inl was)
        (put_found s.parts (32 * k.before) (32 * k.before) (QueueHead (record k.queue { link = to_queue_head k.after })) n a
        (Element u) here)

  lent_beside : (k : IsOpenToLend (queued w.driver) w.memory) → parts_opened k s.parts n ≡ s.parts n
  lent_beside k =
      let differs : n ≢ 32 * k.endpoint.queue = opening_apart (queued w.driver) s.near k.number k.endpoint
      (queued_has_owners w.driver mixed.now.framed.place.sound.owners mixed.turns) mixed.queues.queues.met k.here k.command k.fresh n near in
      put_beside (put s.parts (32 * k.endpoint.queue) (32 * k.endpoint.queue) (QueueHead k.queue)) (32 * k.endpoint.queue)
      (32 * k.endpoint.dummy) (Element dummy_qtd) n differs
      ∙ put_beside s.parts (32 * k.endpoint.queue) (32 * k.endpoint.queue) (QueueHead k.queue) n differs

  -- ---- an endpoint is given back

  gone : (t : Standing) (m : ℕ) → t.near n ≡ (s.near n && not (n == m)) → t.parts ≡ without_queue s.parts m → t.hand ≡ s.hand
      → t.frame ≡ s.frame → t.near n ≡ true → Leaves t.parts (in_hand t)
  gone t m is_near is_parts is_hand is_frame on =
      let differs : n ≢ m = λ same. true≢false (sym ((and_parts (s.near n) (not (n == m)) (sym is_near ∙ on)).1)
      ∙ ap not (eq-eqb n m same)) in
      subst (λ (parts : StructureSets). Leaves parts (in_hand t)) (sym is_parts)
      (subst (λ (hand : Hand). Leaves (without_queue s.parts m) (joined hand t.frame)) (sym is_hand)
      (subst (λ (frame : FrameHand). Leaves (without_queue s.parts m) (joined s.hand frame)) (sym is_frame)
      (unchanged (without_queue s.parts m) (queue_beside s.parts m n differs))))

  -- ---- each step

  pub step_leaves_host : (t : Standing) → QueueStep s w new t → t.near n ≡ true → Leaves t.parts (in_hand t)
  step_leaves_host _ (stays t none still) on = told t still.told
  step_leaves_host _ (harvests e t found due later row out) on = unchanged s.parts refl
  step_leaves_host _ (returns t y x row r) on = returned t y x r
  step_leaves_host _ (lends b words get order out row behind) on =
      spares (parts_with get s.parts) (in_hand s) (host_itself (in_hand s)) (behind.heads n) (lent_starts b words get)
  step_leaves_host _ (stores b words g next) on =
      spares (parts_stored g) (in_hand s) (host_itself (in_hand s))
      (stored_head s.parts (32 * g.endpoint.queue) (32 * b) (partly g.qtd ((queued w.driver).made - 1))
      (partly g.qtd (queued w.driver).made) g.stored n) (stored_starts b words g next)
  step_leaves_host _ (mends k row) on = mended_so k
  step_leaves_host _ (begins k row alike) on = unchanged (parts_opened k s.parts) (lent_beside k)
  step_leaves_host _ (opens k t alike opened) on = told t opened.told
  step_leaves_host _ (unlinks k row) on =
      spares (parts_unlinked s.parts k.before k.queue k.after) (joined (hand_unlinked s.hand k.before k.after) s.frame)
      (same_frames s.hand (hand_unlinked s.hand k.before k.after) s.frame (host_linked (32 * k.before) (to_queue_head k.after) s.hand))
      (unlink_spares_heads (queued w.driver) s.near s.parts k n) (unlinked_starts k)
  step_leaves_host _ (narrows member near_then row are fewer) on = unchanged s.parts refl
  step_leaves_host _ (goes e x d t back is) on = gone t (32 * x.queue) (is.near n) is.parts is.hand is.frame on
