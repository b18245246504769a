-- A cancelled endpoint's queue head leaves the ring, in a world with endpoints of every kind: the queue head before it leads past it, and it waits for the doorbell.
use Rattle.std.proofs.Common.{◌≡◌, ◌≢◌, ℕ, ◌*◌, ◌||◌, Bool, true, false, slice_get, Option, Some, None, ap, sym, subst, ◌∙◌, ⊎_elim}
use Rattle.std.proofs.lemmas.Bool.{cases_eq}
use Rattle.law_world.proofs.Common.{unlink_open}
use Rattle.law_driver.proofs.Common.{ring_queue}
use Rattle.drv_periodic_table.specs.Periodic.{is_periodic}
use Rattle.drv_table.specs.declared.content.Endpoint.{Endpoint}
use Rattle.drv_table.specs.declared.content.Command.{Command}
use Rattle.drv_table.specs.declared.content.Command.TheVariants as unfinished
use Rattle.drv_table.specs.declared.rows.DriverRow.{DriverRow}
use Rattle.drv_table.specs.declared.rows.DriverRow.TheVariants as rows
use Rattle.drv_table.specs.DriverContent.{DriverContent}
use Rattle.drv_table.specs.Parts.{Parts}
use Rattle.drv_table.specs.Commands.{events_of, command_row}
use Rattle.drv_table.specs.Rows.{row_for, driver_row, after_driver_row}
use Rattle.drv_table.specs.Words.{head_block, to_queue_head, queue_head_link}
use Rattle.law_driver.specs.endpoint_lives.Lives.{is_one_of}
use Rattle.law_driver.specs.run_owners.Due.{IsNextOf}
use Rattle.claims_driver.specs.Leaving.{HasOwners}
use Rattle.law_driver.proofs.lemmas.ring_members.Placed.{linked_alive}
use Rattle.law_structures.specs.lent_structures.Structures.{QueueHead, Structures, StructureSets}
use Rattle.law_structures.specs.lent_structures.Sound.{IsMember}
use Rattle.law_structures.proofs.lemmas.lent_structures.Names.{put_beside}
use Rattle.claims_base.specs.Controller.{opening_base}
use Rattle.law_driver_ring.specs.fed_queues.Places.{IsMet, HasHead}
use Rattle.law_queues.specs.publish_laws.Stores.{QueuesThen, next_of}
use Rattle.law_queues.specs.standing_fronts.Reaching.{Reaches}
use Rattle.law_queues.specs.standing_fronts.Tails.{tail_of, TailsStand}
use Rattle.law_world.specs.steps.unlinked_streams.Unlinks.{IsAtUnlink, IsUnlinked, parts_unlinked, hand_unlinked}
use Rattle.law_world.proofs.lemmas.steps.lemmas.unlinked_streams.Passing.{row_is, unlink_row}
use Rattle.law_world.proofs.lemmas.steps.lemmas.unlinked_streams.Queues.{unlink_leaves_queues}
use Rattle.law_world.proofs.lemmas.steps.lemmas.unlinked_streams.Streams.{unlink_leaves_fronts}
use Rattle.law_queues.specs.leaving_drivers.Before.{WasSame, IsAsBefore, NearSame}
use Rattle.law_queues.proofs.lemmas.leaving_drivers.Alike.{met_before, near_fewer}
use Rattle.law_queues.proofs.lemmas.leaving_drivers.Leaving.{unlink_is_as_before}
use Rattle.law_world.proofs.lemmas.steps.lemmas.control_queues.Heads.{unlink_keeps_controls}
use Rattle.law_descriptors.specs.queue_events.Events.{PartsStand}
use Rattle.law_frames.specs.Met.{IsQueuePart}
use Rattle.law_world.specs.memory.framed_memory.Now.{FramedNext}
use Rattle.law_world.proofs.lemmas.memory.lemmas.framed_memory.RingLinks.{ring_now}
use Rattle.law_world.proofs.lemmas.memory.lemmas.framed_memory.RingLinksLeave.{unlink_now, unlink_is_due}
use Rattle.law_world.proofs.lemmas.memory.lemmas.framed_memory.RingLinksMet.{unlink_meets}
use Rattle.law_queues.specs.shared_memory.Shared.{next_parts, after_driver}
use Rattle.law_driver.specs.queued_drivers.Queued.{with_queue, queued_command, queued_made, queued, queued_parts}
use Rattle.law_driver.proofs.lemmas.queued_drivers.RowLists.{queue_at}
use Rattle.law_queues.proofs.lemmas.lent_fronts.Parts.{member_head}
use Rattle.bus_world.specs.World.{World, driver_parts, controller_parts, driver_next}
use Rattle.law_world.specs.memory.Mixed.{QueuesGoOn, IsUnderWay, Standing, IsMixedAt}
use Rattle.law_world.specs.memory.Steps.{QueueStep, unlinks, IsMixedNext}
use Rattle.law_world.proofs.lemmas.memory.Next.{mixed_next}
use Rattle.law_world.proofs.lemmas.memory.RingBasis.{linked_still, near_ring, queued_next, told_row as told_by}
use Rattle.law_world.proofs.lemmas.memory.CommandTails.{idle_tail}

module _ (s : Standing) (w : World) (k : IsMixedAt s w) (at : IsAtUnlink w.driver s.member s.parts) where
  abbrev p : Parts
  p = driver_parts w

  abbrev d : DriverContent
  d = w.driver

  abbrev q : DriverContent
  q = queued d

  abbrev owners : HasOwners d
  owners = k.now.framed.place.sound.owners

  abbrev x : Endpoint
  x = at.endpoint

  abbrev n : ℕ
  n = 32 * at.before

  abbrev now : StructureSets
  now = parts_unlinked s.parts at.before at.queue at.after

  abbrev store : DriverRow
  store = rows.Store at.before (32 * at.before) (queue_head_link at.after)

  -- ---- memory

  framed : FramedNext opening_base s.member s.recent s.descs now (hand_unlinked s.hand at.before at.after) s.frame (controller_parts w) d
  framed = unlink_now opening_base s.member s.recent s.descs s.parts s.hand s.frame (controller_parts w) d k.now at

  real : IsUnlinked p at.number at.endpoint at.before at.after
  real = unlink_row p s.member s.parts at

  -- ---- the queues tell the same store

  ring : is_periodic x.desc.kind ≡ false
  ring = (linked_alive d at.number x owners.orderly at.here at.linked).0

  command : q.command ≡ Some (unfinished.Unlink at.number at.before (queue_head_link at.after))
  command = ap (queued_command d.endpoints) at.command

  -- the queue head before it is met
  near_before : s.near n ≡ true
  near_before =
      ⊎_elim (λ (head : n ≡ 32 * head_block). ap s.near head ∙ k.queues.queues.met.head)
      (λ (h : HasHead d n).
      let y : Endpoint = h.endpoint in
      let own : is_periodic y.desc.kind ≡ false = (near_ring d h.number y owners h.here h.met.near).0 in
      let met : IsMet q h.number (with_queue y)
      = record {
        there = record { linked = λ opens. unlink_open at.number at.before (queue_head_link at.after) y.queue (sym command ∙ opens); kept = h.met.there.kept };
        near = ap (λ (b : Bool). b || (is_one_of h.number d.waiting || is_one_of h.number d.rung)) (linked_still y own) ∙ h.met.near;
      } in
      ap s.near h.at ∙ k.queues.queues.met.each h.number (with_queue y) (queue_at d.endpoints h.number y h.here (ring_queue y.desc.kind own)) met) (k.ring.only n at.met)

  told : IsAtUnlink q s.near s.parts
  told = record {
    number = at.number;
    endpoint = with_queue x;
    here = queue_at d.endpoints at.number x at.here (ring_queue x.desc.kind ring);
    linked = linked_still x ring ∙ at.linked;
    cancelled = at.cancelled;
    before = at.before;
    after = at.after;
    command = command;
    made = ap (λ (o : Option Command). queued_made o d.made) at.command ∙ at.made;
    can = at.can;
    met = near_before;
    queue = at.queue;
    head = at.head;
    leads = at.leads;
    own = at.own;
    there = at.there;
    onward = at.onward;
  }

  abbrev g : DriverContent
  g = (next_of (queued_parts (driver_parts w))).driver

  told_row : driver_row (queued_parts p) ≡ store
  unfolding told
  told_row = row_is (queued_parts p) s.near s.parts told

  of_queues : IsNextOf p store
  of_queues = record {
    command = unfinished.Unlink at.number at.before (queue_head_link at.after);
    unfinished = at.command;
    next = ap (slice_get (events_of (unfinished.Unlink at.number at.before (queue_head_link at.after)))) at.made;
  }

  next_is : g ≡ queued (driver_next w).driver
  next_is = ap (λ (r : DriverRow). (after_driver_row r (queued_parts p)).driver) told_row ∙ queued_next s w k store real.row of_queues

  -- ---- what was there

  was : IsAsBefore q g × NearSame q g
  was = subst (λ (r : DriverRow). IsAsBefore q (after_driver_row r (queued_parts p)).driver × NearSame q (after_driver_row r (queued_parts p)).driver) (sym told_row)
      (unlink_is_as_before (queued_parts p) at.number at.before (queue_head_link at.after) at.before (32 * at.before) (queue_head_link at.after) command)

  was_met : (e : ℕ) (y : Endpoint) (there : slice_get g.endpoints e ≡ Some y) → IsMet g e y → IsMet q e (was.0.ends e y there).endpoint
  was_met e y there met = met_before q g e y (was.0.ends e y there) there was.0 (near_fewer q g was.1) met

  done : g.command ≡ None
  unfolding told
  done = (unlink_row (queued_parts p) s.near s.parts told).done

  -- ---- queues

  queues : QueuesThen g s.near s.streams s.ends now s.order s.out
  unfolding told
  queues =
      let u = k.queues.queues in
      unlink_leaves_queues (queued_parts p) s.near s.streams s.ends s.parts s.order s.out told
      (record { met = u.met; streams_are = u.streams_are; fed = u.fed; last = u.last; out_are = u.out_are })

  unlink_tail : (e : ℕ) (y : Endpoint) → tail_of q e y ≡ 32 * y.dummy
  unlink_tail e y = ap (λ (c : Option Command). tail_of (record q { command = c }) e y) command

  tails : TailsStand g now s.order s.out
  unfolding told
  tails e y there met =
      let u : WasSame q e y = was.0.ends e y there in
      let z : Endpoint = u.endpoint in
      let old : Reaches q (s.parts (32 * z.queue)) (s.order (32 * z.queue)) (s.out (32 * z.queue)) e z (tail_of q e z) = k.queues.tails e z u.here (was_met e y there met) in
      let back : Reaches q (s.parts (32 * z.queue)) (s.order (32 * y.queue)) (s.out (32 * y.queue)) e z (tail_of q e z)
      = subst (λ (b : ℕ). Reaches q (s.parts (32 * z.queue)) (s.order (32 * b)) (s.out (32 * b)) e z (tail_of q e z)) (sym u.queue) old in
      subst (λ (c : ℕ). Reaches g (now (32 * y.queue)) (s.order (32 * y.queue)) (s.out (32 * y.queue)) e y c)
      (unlink_tail e z ∙ ap (λ (b : ℕ). 32 * b) (sym u.dummy) ∙ sym (idle_tail g e y done))
      (unlink_leaves_fronts (s.order (32 * y.queue)) (s.out (32 * y.queue)) e (tail_of q e z) z y (queued_parts p) s.near s.parts told u.queue back)

  sound : PartsStand g now
  sound e y there met =
      let u : WasSame q e y = was.0.ends e y there in
      let m = 32 * y.queue in
      ⊎_elim
      (λ (same : m ≡ n).
      let c = after_driver (controller_parts w) d in
      let i : IsMember s.member n (now n)
      = (ring_now opening_base s.member s.recent s.descs now (hand_unlinked s.hand at.before at.after) s.frame c (next_parts (controller_parts w) d).driver framed).ring.members n at.met in
      subst (λ (a : ℕ). IsQueuePart a (now a)) (sym same) (member_head s.member n (now n) i))
      (λ (differs : m ≢ n).
      subst (λ (part : Structures). IsQueuePart m part) (sym (put_beside s.parts n n (QueueHead (record at.queue { link = to_queue_head at.after })) m differs))
      (subst (λ (b : ℕ). IsQueuePart (32 * b) (s.parts (32 * b))) (sym u.queue) (k.queues.sound e u.endpoint u.here (was_met e y there met)))) (cases_eq m n)

  go : QueuesGoOn g s.near s.streams s.ends now s.order s.out
  unfolding told
  go = record {
    queues = record { met = queues.met; streams_are = queues.streams_are; fed = queues.fed; last = queues.last; out_are = queues.out_are };
    sound = sound;
    tails = tails;
    controls = unlink_keeps_controls (queued_parts p) s.near s.parts s.order s.out told k.queues.controls;
  }

  abbrev after_unlink : Standing
  after_unlink = record s { parts = now; hand = hand_unlinked s.hand at.before at.after }

  its_step : QueueStep s w (driver_next w) after_unlink
  unfolding told
  its_step = unlinks told (told_by s w k store real.row of_queues)

  pub unlinked_next : IsMixedNext s w (driver_next w)
  unlinked_next =
      mixed_next s w k after_unlink its_step framed (unlink_meets (controller_parts w) d s.member s.parts at k.ring)
      (subst (λ (f : DriverContent). QueuesGoOn f s.near s.streams s.ends now s.order s.out) next_is go)
      (subst (λ (c : Option Command). IsUnderWay (driver_next w).driver (driver_next w).memory s.member s.recent now c) (sym real.done) tt)

pub unlink_mixed : (s : Standing) (w : World) (e before link : ℕ) → IsMixedAt s w → w.driver.command ≡ Some (unfinished.Unlink e before link) → IsMixedNext s w (driver_next w)
unlink_mixed s w e before link k leaves =
    let made : w.driver.made ≡ 0 = subst (λ (c : Option Command). IsUnderWay w.driver w.memory s.member s.recent s.parts c) leaves k.under_way in
    let row : driver_row (driver_parts w) ≡ rows.Store before (32 * before) link = ap (row_for (driver_parts w)) leaves ∙ ap (command_row (unfinished.Unlink e before link)) made in
    unlinked_next s w k (unlink_is_due opening_base s.member s.recent s.descs s.parts s.hand s.frame (controller_parts w) w.driver e before link k.now leaves row k.ring)
