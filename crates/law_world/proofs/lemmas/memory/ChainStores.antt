-- The queue head of an interrupt endpoint is linked in its frames by one store after the other: the world goes on with each, and the last finishes the open.
use Rattle.std.proofs.Common.{◌≡◌, ◌≢◌, ℕ, ◌*◌, false, List, Option, Some, None, ap, refl, sym, subst, ◌∙◌, ⊎_elim, inr}
use Rattle.law_world.proofs.Common.{none_some}
use Rattle.drv_table.specs.declared.content.Command.{Command}
use Rattle.drv_table.specs.declared.content.Command.TheVariants as unfinished
use Rattle.drv_table.specs.declared.rows.DriverRow.{DriverRow}
use Rattle.drv_table.specs.declared.rows.DriverRow.TheVariants as rows
use Rattle.drv_table.specs.DriverContent.{DriverContent}
use Rattle.drv_table.specs.Parts.{Parts}
use Rattle.drv_table.specs.Rows.{driver_row, after_driver_row}
use Rattle.law_driver.specs.run_owners.Due.{IsLinkOf, IsDue}
use Rattle.claims_driver.specs.Leaving.{HasOwners}
use Rattle.law_structures.specs.lent_structures.Structures.{StructureSets}
use Rattle.law_driver_ring.specs.Linked.{with_member}
use Rattle.claims_base.specs.Controller.{opening_base}
use Rattle.law_controller.specs.controlled_streams.Opened.{with_end, with_none}
use Rattle.law_driver_ring.specs.fed_queues.Places.{AreMet}
use Rattle.law_frames.specs.Met.{Kind}
use Rattle.law_descriptors.specs.Both.{descs_now, parts_now}
use Rattle.law_descriptors.specs.ListRows.{leaves_now, recent_with}
use Rattle.law_world.specs.memory.framed_memory.NowRows.{FramedLinked}
use Rattle.law_world.specs.memory.framed_memory.Chained.{IsChainReady, IsChainLent, ChainStands, ChainGoesOn, lends, stores, rests}
use Rattle.law_world.proofs.lemmas.memory.lemmas.framed_memory.ChainedRuns.{chain_goes_on_now}
use Rattle.law_queues.specs.open_laws.Opens.{end_then, streams_then}
use Rattle.law_queues.specs.open_laws.Queues.{IsOpenThere, open_finished}
use Rattle.law_driver.specs.queued_drivers.Queued.{queued_made, queued}
use Rattle.law_driver.specs.queued_drivers.Rows.{QueuesAlike, TellsAlike, LeavesQueues, IsFinishedAlike}
use Rattle.law_driver.proofs.lemmas.queued_drivers.RowFrames.{frames_leave, chains_finish}
use Rattle.law_driver.proofs.lemmas.queued_drivers.RowOwners.{queued_has_owners}
use Rattle.bus_world.specs.World.{World, driver_parts, controller_parts, driver_next}
use Rattle.law_world.specs.memory.Mixed.{QueuesGoOn, IsChainToLend, IsChainThere, IsUnderWay, Standing, IsMixedAt}
use Rattle.law_world.specs.memory.SameQueues.{IsSameQueue}
use Rattle.law_world.specs.memory.Steps.{AreTold, left_alike, QueueStep, stays, opens, IsMixedNext}
use Rattle.law_world.proofs.lemmas.memory.Next.{mixed_next}
use Rattle.law_world.proofs.lemmas.memory.Stepping.{told_stored}
use Rattle.law_world.proofs.lemmas.memory.FrameRegisters.{rest_mixed}
use Rattle.law_world.proofs.lemmas.memory.Alike.{same_lent, goes_on_alike, there_alike, new_still, goes_on_still, queues_stored}
use Rattle.law_world.proofs.lemmas.memory.ChainSteps.{AfterChain, after_chain, ring_on, finished_goes}
use Rattle.law_world.proofs.lemmas.memory.ChainLends.{lend_world}

module _ (s : Standing) (w : World) (k : IsMixedAt s w) (t : IsChainThere w.driver s.member s.recent s.parts) (why : IsLinkOf (driver_parts w) (driver_row (driver_parts w))) (e : FramedLinked opening_base s.member s.recent s.descs s.parts s.hand s.frame (controller_parts w) w.driver why.store)
    (stands : ChainStands (driver_next w).driver (driver_next w).memory s.member (recent_with w.driver.periodic (leaves_now w.driver.periodic.list) s.recent) (parts_now s.descs s.parts e.event.now)) where
  abbrev d : DriverContent
  d = w.driver

  abbrev p : Parts
  p = driver_parts w

  abbrev row : DriverRow
  row = rows.Store why.store.block why.store.at why.store.value

  abbrev f : DriverContent
  f = (after_driver_row (rows.Store why.store.block why.store.at why.store.value) (driver_parts w)).driver

  abbrev recent : ℕ → Option Kind
  recent = recent_with w.driver.periodic (leaves_now w.driver.periodic.list) s.recent

  abbrev parts : StructureSets
  parts = parts_now s.descs s.parts e.event.now

  owners : HasOwners w.driver
  owners = k.now.framed.place.sound.owners

  chain : w.driver.command ≡ Some unfinished.Chain
  chain = t.lent.command

  driver_is : (driver_next w).driver ≡ f
  driver_is = ap (λ (r : DriverRow). (after_driver_row r p).driver) why.is

  link : IsLinkOf (driver_parts w) (rows.Store why.store.block why.store.at why.store.value)
  link = subst (IsLinkOf p) why.is why

  due : IsDue (driver_parts w) (rows.Store why.store.block why.store.at why.store.value)
  due = inr link

  after : AfterChain w.driver f
  after = after_chain d chain

  -- ---- the structures after the store

  like : (n : ℕ) → IsSameQueue n (s.parts n) (parts n)
  like = queues_stored opening_base s.descs s.parts s.frame why.store.at why.store.value e.event.now e.event.frame_later e.event.stored

  never_publishes : (b : ℕ) (words : List ℕ) → (queued w.driver).command ≢ Some (unfinished.Publish b words)
  never_publishes b words is = other (sym t.there.command ∙ is)
    where
      other : {q : ℕ} → ◌≡◌ {A = Option Command} (Some (unfinished.Open q)) (Some (unfinished.Publish b words)) → ⊥
      other same = cc

  stored_goes : QueuesGoOn (queued w.driver) s.near s.streams s.ends parts s.order s.out
  stored_goes = goes_on_still (queued d) s.parts parts like never_publishes s.near s.streams s.ends s.order s.out k.queues

  abbrev there : IsOpenThere (queued w.driver) parts
  there = record {
    number = t.there.number;
    endpoint = t.there.endpoint;
    here = t.there.here;
    command = t.there.command;
    fresh = t.there.fresh;
    none = t.there.none;
    part = new_still t.there.endpoint (s.parts (32 * t.there.endpoint.queue)) (parts (32 * t.there.endpoint.queue)) (like (32 * t.there.endpoint.queue)) t.there.part;
  }

  ring : AreMet (driver_next w).driver s.member
  ring = subst (λ (g : DriverContent). AreMet g s.member) (sym driver_is) (ring_on d f chain after.ring s.member k.ring)

  told_then : AreTold s (record s { recent = recent; descs = descs_now s.descs e.event.now; parts = parts; frame = e.event.frame_later })
  told_then = told_stored s recent (descs_now s.descs e.event.now) why.store.at why.store.value e.event.now e.event.frame_later e.event.stored

  -- ---- more stores are to come

  module _ (on : f.command ≡ Some unfinished.Chain) where
    leaves : LeavesQueues (driver_parts w) (rows.Store why.store.block why.store.at why.store.value)
    leaves = frames_leave row p owners k.turns due (record { link = link; goes_on = λ same none. none_some unfinished.Chain (sym none ∙ on) })

    goes_on : QueuesGoOn (queued f) s.near s.streams s.ends parts s.order s.out
    goes_on = goes_on_alike (queued d) (queued f) s.near s.streams s.ends parts s.order s.out leaves.queues (same_lent (queued d) (queued f) (leaves.book refl)) stored_goes

    abbrev there_on : IsOpenThere (queued f) parts
    there_on = there_alike (queued d) (queued f) parts leaves.queues there

    next_command : (driver_next w).driver.command ≡ Some unfinished.Chain
    next_command = ap (λ (g : DriverContent). g.command) driver_is ∙ on

    -- it was lent before
    not_ready : IsChainReady (driver_next w).driver (driver_next w).memory → ⊥
    not_ready r =
        let now : (queued f).made ≡ 0 =
        ap (λ (o : Option Command). queued_made o f.made) on ∙ ap (queued_made (Some unfinished.Chain)) (sym (ap (λ (g : DriverContent). g.made) driver_is) ∙ r.made) in
        let was : (queued d).made ≡ 1 = ap (λ (o : Option Command). queued_made o d.made) chain ∙ ap (queued_made (Some unfinished.Chain)) t.lent.made in
        never (sym now ∙ leaves.queues.made ∙ was)
      where
        never : ◌≡◌ {A = ℕ} 0 1 → ⊥
        never same = cc

    lent_on : IsChainLent (driver_next w).driver s.member recent parts
    lent_on =
        ⊎_elim (λ (r : IsChainReady (driver_next w).driver (driver_next w).memory). absurd (not_ready r)) (λ (l : IsChainLent (driver_next w).driver s.member recent parts). l) (stands next_command)

    unmet_on : s.member (32 * there_on.endpoint.queue) ≡ false
    unmet_on = t.unmet

    there_next : IsChainThere (driver_next w).driver s.member recent parts
    there_next =
        subst (λ (g : DriverContent). IsChainThere g s.member recent parts) (sym driver_is)
        (record { lent = subst (λ (g : DriverContent). IsChainLent g s.member recent parts) driver_is lent_on; there = there_on; unmet = unmet_on })

    abbrev after_it : Standing
    after_it = record s { recent = recent; descs = descs_now s.descs e.event.now; parts = parts; frame = e.event.frame_later }

    step_on : QueueStep s w (driver_next w) after_it
    step_on =
        stays after_it
        (left_alike (subst (λ (g : DriverContent). QueuesAlike (queued d) (queued g)) (sym driver_is) leaves.queues)
        (subst (λ (g : DriverContent). TellsAlike (queued d) (queued g)) (sym driver_is) (leaves.tells refl)))
        (record { near = refl; streams = refl; ends = refl; order = refl; out = refl; told = told_then })

    world_on : IsMixedNext s w (driver_next w)
    world_on =
        mixed_next s w k after_it step_on e.framed ring
        (subst (λ (g : DriverContent). QueuesGoOn (queued g) s.near s.streams s.ends parts s.order s.out) (sym driver_is) goes_on)
        (subst (IsUnderWay (driver_next w).driver (driver_next w).memory s.member recent parts) (sym next_command) (inr there_next))

  -- ---- it was the last

  module _ (over : f.command ≡ None) where
    ended : IsFinishedAlike (driver_parts w) (rows.Store why.store.block why.store.at why.store.value)
    ended = chains_finish p row due (record { chain = chain; finished = over })

    goes_over : QueuesGoOn (queued f) (with_member s.near (32 * there.endpoint.queue)) (streams_then s.streams there.endpoint) (with_end s.ends (32 * there.endpoint.queue) (end_then there.endpoint)) parts s.order (with_none s.out (32 * there.endpoint.queue))
    goes_over =
        goes_on_alike (open_finished (queued d)) (queued f) (with_member s.near (32 * there.endpoint.queue)) (streams_then s.streams there.endpoint) (with_end s.ends (32 * there.endpoint.queue) (end_then there.endpoint)) parts s.order
        (with_none s.out (32 * there.endpoint.queue)) ended.queues (same_lent (open_finished (queued d)) (queued f) after.book) (finished_goes (queued d) s.near s.streams s.ends parts s.order s.out (queued_has_owners d owners k.turns) k.turns.turns there stored_goes)

    abbrev opened : Standing
    opened = record s {
      near = with_member s.near (32 * there.endpoint.queue);
      streams = streams_then s.streams there.endpoint;
      ends = with_end s.ends (32 * there.endpoint.queue) (end_then there.endpoint);
      recent = recent;
      descs = descs_now s.descs e.event.now;
      parts = parts;
      frame = e.event.frame_later;
      out = with_none s.out (32 * there.endpoint.queue);
    }

    step_over : QueueStep s w (driver_next w) opened
    step_over =
        opens t.there opened (subst (λ (g : DriverContent). QueuesAlike (open_finished (queued d)) (queued g)) (sym driver_is) ended.queues)
        (record {
          near = refl;
          streams = refl;
          ends = refl;
          order = refl;
          out = refl;
          told = record { parts = told_then.parts; hand = told_then.hand; frame = told_then.frame };
        })

    world_over : IsMixedNext s w (driver_next w)
    world_over =
        mixed_next s w k opened step_over e.framed ring
        (subst (λ (g : DriverContent). QueuesGoOn (queued g) (with_member s.near (32 * there.endpoint.queue)) (streams_then s.streams there.endpoint) (with_end s.ends (32 * there.endpoint.queue) (end_then there.endpoint)) parts s.order (with_none s.out (32 * there.endpoint.queue)))
        (sym driver_is) goes_over)
        (subst (IsUnderWay (driver_next w).driver (driver_next w).memory s.member recent parts) (sym (ap (λ (g : DriverContent). g.command) driver_is ∙ over)) tt)

  store_world : IsMixedNext s w (driver_next w)
  store_world = ⊎_elim world_on world_over after.ring.command

-- ---- each event of the open

pub chain_mixed : (s : Standing) (w : World) → IsMixedAt s w → w.driver.command ≡ Some unfinished.Chain → IsMixedNext s w (driver_next w)
chain_mixed s w k is =
    ⊎_elim (λ (t : IsChainToLend w.driver w.memory). lend_world s w k t)
    (λ (t : IsChainThere w.driver s.member s.recent s.parts).
    by t (chain_goes_on_now opening_base s.member s.recent s.descs s.parts s.hand s.frame (controller_parts w) w.driver k.now is (λ chain. inr t.lent)))
    (subst (IsUnderWay w.driver w.memory s.member s.recent s.parts) is k.under_way)
  where
    never : (n : ℕ) → n ≡ 0 → n ≡ 1 → ⊥
    never n zero one = cc

    by : IsChainThere w.driver s.member s.recent s.parts → ChainGoesOn opening_base s.member s.recent s.descs s.parts s.hand s.frame (controller_parts w) w.driver → IsMixedNext s w (driver_next w)
    by t (lends r lend framed then) = absurd (never w.driver.made r.made t.lent.made)
    by t (stores why e then) = store_world s w k t why e then
    by t (rests rest framed then) = rest_mixed s w k rest
