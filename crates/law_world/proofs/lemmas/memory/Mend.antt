-- The next store that a stalled control endpoint is owed leaves a world mixed, whether the walk of the ring may still meet its queue head or not.
use Rattle.std.proofs.Common.{◌≡◌, ◌≢◌, ℕ, ◌*◌, ◌||◌, not, Bool, true, false, if◌then◌else◌, ◌∷◌, slice_get, Some, None, ap, sym, subst, ◌∙◌, ⊎_elim}
use Rattle.std.proofs.lemmas.Bool.{cases_eq}
use Rattle.std.proofs.lemmas.Option.{same_Some}
use Rattle.law_common.proofs.Numbers.{same_blocks}
use Rattle.law_common.proofs.Lists.{all_more}
use Rattle.law_driver.proofs.Common.{control_kind, of_queue}
use Rattle.law_world.proofs.Common.{none_some}
use Rattle.drv_periodic_table.specs.Periodic.{is_periodic}
use Rattle.drv_table.specs.declared.content.Command.TheVariants as unfinished
use Rattle.drv_table.specs.declared.content.Endpoint.{Endpoint}
use Rattle.drv_table.specs.declared.content.Mend.{Mend}
use Rattle.drv_table.specs.declared.rows.DriverRow.{DriverRow}
use Rattle.drv_table.specs.declared.rows.DriverRow.TheVariants as rows
use Rattle.drv_table.specs.DriverContent.{DriverContent}
use Rattle.drv_table.specs.Kinds.{is_iso}
use Rattle.drv_table.specs.Rows.{driver_row, after_driver_row}
use Rattle.law_driver.specs.endpoint_lives.Lives.{is_one_of, may_meet}
use Rattle.claims_driver.specs.Leaving.{HasOwners}
use Rattle.claims_driver.specs.LentRuns.{AreLent}
use Rattle.law_structures.specs.lent_structures.Structures.{QueueHead, StructureSets}
use Rattle.law_structures.proofs.lemmas.lent_structures.Names.{put_beside}
use Rattle.claims_base.specs.Controller.{opening_base}
use Rattle.law_queues.proofs.lemmas.publish_laws.Apart.{queues_same}
use Rattle.law_frames.specs.Met.{IsQueuePart}
use Rattle.law_driver_ring.specs.fed_queues.Places.{IsMet}
use Rattle.law_queues.specs.fed_lends.Commands.{QueuesStand}
use Rattle.law_queues.specs.mended_heads.Owed.{IsOwed, store_due}
use Rattle.law_queues.specs.mended_heads.Mended.{IsAtMend, mended, head_at, parts_then, hand_then, driver_mended}
use Rattle.law_queues.proofs.lemmas.mended_heads.Lent.{queue_placed}
use Rattle.law_queues.proofs.lemmas.mended_heads.Queues.{mend_leaves_met}
use Rattle.law_queues.specs.released_queues.Fronts.{FrontsStand}
use Rattle.law_queues.specs.standing_fronts.Reaching.{Reaches}
use Rattle.law_world.specs.steps.control_queues.Controls.{ControlsStand}
use Rattle.law_descriptors.specs.Both.{owns, both}
use Rattle.law_descriptors.specs.Meeting.{met}
use Rattle.law_descriptors.proofs.Standing.{both_off}
use Rattle.law_descriptors.proofs.Telling.{queue_off}
use Rattle.law_world.specs.memory.framed_memory.Now.{FramedNext}
use Rattle.law_world.proofs.lemmas.memory.lemmas.framed_memory.LeavingUnmet.{ring_is_unmet}
use Rattle.law_driver.specs.queued_drivers.Queued.{with_queue, queued_endpoint, queued, queued_parts}
use Rattle.law_driver.specs.queued_drivers.Rows.{IsToldAlike}
use Rattle.law_driver.proofs.lemmas.queued_drivers.RowEvents.{idle_told}
use Rattle.law_driver.proofs.lemmas.queued_drivers.RowLists.{IsMapped, mapped}
use Rattle.law_descriptors.specs.queue_events.Events.{PartsStand}
use Rattle.law_queues.proofs.lemmas.lent_fronts.Parts.{member_head}
use Rattle.bus_world.specs.World.{World, controller_parts, driver_parts, driver_next}
use Rattle.law_world.specs.memory.Mixed.{Standing, IsMixedAt}
use Rattle.law_world.specs.memory.Steps.{mends, IsMixedNext}
use Rattle.law_world.specs.memory.Laws.{RowKeepsMixed}
use Rattle.law_world.proofs.lemmas.memory.HarvestKept.{idle_lent, owners_of, describes, driven_of, IsIdleNext, idle_mixed}
use Rattle.law_world.proofs.lemmas.memory.RingBasis.{due_is, row_alike, queued_next, told_row}
use Rattle.law_world.proofs.lemmas.memory.CommandTails.{idle_tail}
use Rattle.law_world.proofs.lemmas.memory.MendNow.{mend_stays_now}
use Rattle.law_world.proofs.lemmas.memory.MendTurned.{turned, turned_parts, its_row, mend_at, of_ring, has_queue, owed_of}
use Rattle.law_world.proofs.lemmas.memory.MendQueues.{AllReach, queues_then, controls_then, fronts_then}

-- a member of the ring is sound
module _ (s : Standing) (w : World) (k : IsMixedAt s w) (m : Mend) (row : driver_row (driver_parts w) ≡ rows.Mend m) where
  abbrev d : DriverContent
  d = queued w.driver

  abbrev f : DriverContent
  f = (after_driver_row (rows.Mend m) (queued_parts (driver_parts w))).driver

  due : (w.driver.command ≡ None) × (slice_get w.driver.mends 0 ≡ Some m)
  due = due_is s w k (rows.Mend m) row

  told : IsToldAlike (driver_parts w) (rows.Mend m)
  told = row_alike s w k (rows.Mend m) row tt

  idle : (queued w.driver).command ≡ None
  idle = idle_told w.driver due.0

  owners : HasOwners w.driver
  owners = k.now.framed.place.sound.owners

  lent : AreLent (queued w.driver)
  lent = idle_lent w.driver due.0 k.now.framed.place.lent

  at : IsAtMend (turned_parts (queued w.driver) w.registers w.memory) s.parts s.out
  at =
      mend_at (queued w.driver) w.registers w.memory m s.parts s.out idle due.1 k.now.framed.place.sound.stands (owners_of s w k) lent k.turns.turns (driven_of s w k) k.queues.controls.mends

  -- the same of the driver
  owed : IsOwed w.driver at.stalled
  owed = owed_of w.driver at.stalled k.turns at.are.owed.0

  abbrev own_at : IsAtMend (driver_parts w) s.parts s.out
  own_at = record {
    stalled = at.stalled;
    others = at.others;
    row = row ∙ sym (its_row (queued w.driver) w.registers w.memory m idle due.1) ∙ at.row;
    idle = due.0;
    are = record {
      mends = at.are.mends;
      owed = all_more (IsOwed (turned (queued w.driver))) (IsOwed w.driver) (at.stalled ∷ at.others) (λ i o. owed_of w.driver i k.turns o)
          at.are.owed;
      wait = at.are.wait;
      apart = at.are.apart;
    };
    can = at.can;
    onward = at.onward;
  }

  pub mend_there : IsAtMend (driver_parts w) s.parts s.out
  mend_there = own_at

  abbrev n : ℕ
  n = 32 * at.stalled.queue

  abbrev parts_now : StructureSets
  parts_now = parts_then at

  ring_kind : is_periodic owed.endpoint.desc.kind ≡ false
  ring_kind = of_ring owed.endpoint.desc.kind owed.control

  unmet : met w.driver s.recent (32 * at.stalled.queue) ≡ None
  unmet =
      subst (λ (b : ℕ). met w.driver s.recent (32 * b) ≡ None) owed.queue
      (ring_is_unmet w.driver s.recent w.registers.frame_index owed.number owed.endpoint owners k.now.framed.place.sound.listed k.now.recent_are due.0 owed.here ring_kind owed.kept)

  now : FramedNext opening_base s.member s.recent s.descs (parts_then at) (hand_then at s.hand) s.frame (controller_parts w) w.driver
  now = mend_stays_now opening_base s.member s.recent s.descs s.parts s.hand s.frame (controller_parts w) w.driver s.out k.now own_at unmet

  -- ---- the queues

  old : QueuesStand (queued w.driver) s.near s.streams s.ends s.parts s.order s.out
  old = k.queues.queues

  reach : AllReach (queued w.driver) s.parts s.order s.out
  reach e z here is =
      subst (Reaches (queued w.driver) (s.parts (32 * z.queue)) (s.order (32 * z.queue)) (s.out (32 * z.queue)) e z) (idle_tail (queued w.driver) e z idle) (k.queues.tails e z here is)

  fronts : FrontsStand (driver_mended (queued w.driver)) (parts_then at) s.order s.out
  fronts =
      fronts_then (queued w.driver) w.registers w.memory s.near s.streams s.ends s.parts s.order s.out at old (owners_of s w k) lent k.turns.turns k.queues.sound k.queues.controls reach

  -- where the queue head that is mended is met, the walk of the ring meets it
  module _ (e : ℕ) (z : Endpoint) (here : slice_get (queued w.driver).endpoints e ≡ Some z) (is : IsMet (queued w.driver) e z) (same : z.queue ≡ at.stalled.queue) where
    its : IsMapped queued_endpoint w.driver.endpoints e z
    its = mapped queued_endpoint w.driver.endpoints e z here

    off : is_iso its.one.desc.kind ≡ false
    off = has_queue its.one z its.is is.there.kept

    told_as : with_queue its.one ≡ z
    told_as = sym (of_queue its.one off) ∙ its.is

    queue : its.one.queue ≡ at.stalled.queue
    queue = ap (λ (i : Endpoint). i.queue) told_as ∙ same

    kept : its.one.gone ≡ false
    kept = ap (λ (i : Endpoint). i.gone) told_as ∙ is.there.kept

    number : e ≡ owed.number
    number =
        queues_same its.one.queue owed.endpoint.queue e owed.number (queue ∙ sym owed.queue) (queue_placed w.driver owners e its.one its.here off kept)
        (queue_placed w.driver owners owed.number owed.endpoint owed.here (control_kind owed.endpoint.desc.kind owed.control) owed.kept)

    itself : its.one ≡ owed.endpoint
    itself = same_Some its.one owed.endpoint (sym its.here ∙ ap (slice_get w.driver.endpoints) number ∙ owed.here)

    of_the_ring : is_periodic its.one.desc.kind ≡ false
    of_the_ring = ap (λ (i : Endpoint). is_periodic i.desc.kind) itself ∙ ring_kind

    near : may_meet w.driver e its.one ≡ true
    near =
        sym (ap (λ (b : Bool). (if b then not its.one.gone else its.one.linked) || (is_one_of e w.driver.waiting || is_one_of e w.driver.rung)) of_the_ring)
        ∙ ap (may_meet (queued w.driver) e) told_as ∙ is.near

    on : s.member (32 * at.stalled.queue) ≡ true
    on =
        ap (λ (b : ℕ). s.member (32 * b)) (sym queue)
        ∙ k.ring.each e its.one its.here (record { there = record { linked = λ opens. none_some (unfinished.Open its.one.queue) (sym due.0 ∙ opens); kept = kept }; near = near })

    sound_own : IsQueuePart (32 * z.queue) (parts_then at (32 * z.queue))
    sound_own =
        let none : owns s.descs (32 * at.stalled.queue) ≡ false
        = queue_off w.driver s.descs s.parts (describes s w k) (32 * at.stalled.queue) (32 * at.stalled.queue) (QueueHead (head_at at)) at.are.wait.0.stands.here in
        subst (λ (b : ℕ). IsQueuePart (32 * b) (parts_then at (32 * b))) (sym same)
        (subst (IsQueuePart (32 * at.stalled.queue)) (both_off s.descs (parts_then at) (32 * at.stalled.queue) none)
        (member_head s.member (32 * at.stalled.queue) (both s.descs (parts_then at) (32 * at.stalled.queue)) (now.framed.runs.ring.members (32 * at.stalled.queue) on)))

  sound : PartsStand (driver_mended (queued w.driver)) (parts_then at)
  sound e z here is =
      let was : IsMet (queued w.driver) e z = record { there = record { linked = is.there.linked; kept = is.there.kept }; near = is.near } in
      ⊎_elim (λ (same : z.queue ≡ at.stalled.queue). sound_own e z here was same)
      (λ (differs : z.queue ≢ at.stalled.queue).
      subst (IsQueuePart (32 * z.queue))
      (sym (put_beside s.parts n n (QueueHead (mended at.stalled (head_at at))) (32 * z.queue) (λ names. differs (same_blocks z.queue at.stalled.queue names))))
      (k.queues.sound e z here was)) (cases_eq z.queue at.stalled.queue)

  -- ---- the world

  abbrev new : DriverContent
  new = (after_driver_row (driver_row (driver_parts w)) (driver_parts w)).driver

  tells_new : queued new ≡ f
  tells_new = sym (queued_next s w k (rows.Mend m) row tt)

  abbrev standing_then : Standing
  standing_then = record s { parts = parts_then at; hand = hand_then at s.hand }

  leaves : IsIdleNext s standing_then w
  leaves = record {
    step = mends own_at (told_row s w k (rows.Mend (store_due at.stalled)) own_at.row tt);
    idle = ap (λ (r : DriverRow). (after_driver_row r (driver_parts w)).driver.command) row ∙ due.0;
    now = now;
    ring = mend_leaves_met (driver_parts w) s.parts s.out s.member own_at k.ring;
    queues = subst (λ (i : DriverContent). QueuesStand i s.near s.streams s.ends (parts_then at) s.order s.out) (sym tells_new)
        (queues_then (queued w.driver) w.registers w.memory s.near s.streams s.ends s.parts s.order s.out at old);
    sound = subst (λ (i : DriverContent). PartsStand i (parts_then at)) (sym tells_new) sound;
    fronts = subst (λ (i : DriverContent). FrontsStand i (parts_then at) s.order s.out) (sym tells_new) fronts;
    controls = subst (λ (i : DriverContent). ControlsStand i (parts_then at) s.order s.out) (sym tells_new)
        (controls_then (queued w.driver) w.registers w.memory s.near s.streams s.ends s.parts s.order s.out at old k.queues.controls);
  }

  pub mend_leaves : IsMixedNext s w (driver_next w)
  mend_leaves = idle_mixed s standing_then w k leaves

pub mend_mixed : (m : Mend) → RowKeepsMixed (rows.Mend m)
mend_mixed m s w k row = mend_leaves s w k m row
