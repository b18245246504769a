-- The row that gives back the blocks of a harvested get, put or request leaves a world mixed, wherever its queue head stands.
use Rattle.std.proofs.Common.{◌≡◌, ℕ, ◌*◌, ◌≤◌, ◌==◌, Bool, true, false, if◌then◌else◌, List, [], slice_get, Option, Some, None, ap, refl, sym, subst, ◌∙◌, inl, arith}
use Rattle.law_common.proofs.Lists.{there_at}
use Rattle.law_driver.proofs.Common.{times_of}
use Rattle.law_common.proofs.Booleans.{owed_by}
use Rattle.law_world.proofs.Common.{none_some}
use Rattle.mem_runs.specs.Book.{holding}
use Rattle.drv_table.specs.declared.content.Command.TheVariants as unfinished
use Rattle.drv_table.specs.declared.content.Endpoint.{Endpoint}
use Rattle.drv_table.specs.declared.content.Transfer.{Transfer}
use Rattle.drv_table.specs.declared.rows.DriverRow.{DriverRow}
use Rattle.drv_table.specs.declared.rows.DriverRow.TheVariants as rows
use Rattle.drv_table.specs.DriverContent.{DriverContent}
use Rattle.drv_table.specs.Parts.{Parts}
use Rattle.drv_table.specs.Kinds.{is_iso}
use Rattle.drv_table.specs.Rows.{driver_row, after_driver_row}
use Rattle.drv_table.specs.Releases.{after_transfer, freed_by}
use Rattle.claims_driver.specs.Owners.{is_descriptor, runs_of_endpoint}
use Rattle.claims_driver.specs.Leaving.{owes, HasOwners}
use Rattle.law_driver.specs.run_owners.Due.{IsTransferDue}
use Rattle.law_structures.specs.lent_structures.Structures.{QueueHead, Element, StructureSets}
use Rattle.law_ring.specs.Fewer.{without_those}
use Rattle.law_ring.specs.Halted.{HaltStops}
use Rattle.law_ring.specs.Order.{IsAmong}
use Rattle.law_ring.proofs.HaltSparing.{halt_is_spared}
use Rattle.law_ring.proofs.Returning.{those_found}
use Rattle.claims_base.specs.Controller.{opening_base}
use Rattle.law_driver_ring.specs.Released.{goes_of, IsToGo}
use Rattle.law_controller.specs.controlled_streams.Returned.{staying, staying_of}
use Rattle.law_driver.proofs.lemmas.chained_transfers.Holding.{held_alive}
use Rattle.law_frames.specs.Met.{IsQueuePart}
use Rattle.law_driver_ring.specs.fed_queues.Places.{IsMet, AreMet}
use Rattle.law_driver_ring.proofs.lemmas.fed_queues.Places.{SameQueues, same_ends, life_back, met_as, met_stays}
use Rattle.law_queues.specs.fed_lends.Commands.{QueuesStand}
use Rattle.law_queues.specs.mended_heads.Waiting.{MendsStand}
use Rattle.law_queues.proofs.lemmas.mended_heads.Rows.{gives_back, given_mends, given_owes_none}
use Rattle.law_queues.specs.released_queues.Released.{IsReturning}
use Rattle.law_queues.specs.released_queues.Staying.{QueuesAreTold, ReleaseLeaves}
use Rattle.law_queues.proofs.lemmas.released_queues.Fewer.{fewer_rise}
use Rattle.law_queues.proofs.lemmas.released_queues.Releasing.{release_keeps_met}
use Rattle.law_queues.proofs.lemmas.released_queues.Staying.{release_stays}
use Rattle.law_queues.specs.released_queues.Fronts.{FrontsStand}
use Rattle.law_world.specs.steps.control_queues.Controls.{ControlsStand}
use Rattle.law_world.proofs.lemmas.steps.lemmas.control_queues.Alike.{same_there, stand_by}
use Rattle.law_world.proofs.lemmas.steps.lemmas.control_queues.Lists.{IsPart, all_part, staying_part, part_among, part_sorted}
use Rattle.law_world.proofs.lemmas.memory.lemmas.framed_memory.Releasing.{release_transfer_keeps_now}
use Rattle.law_driver.specs.queued_drivers.Queued.{with_queue, queued, queued_parts}
use Rattle.law_driver.specs.queued_drivers.Rows.{IsToldAlike}
use Rattle.law_driver.proofs.lemmas.queued_drivers.RowLists.{queue_at, moves_at}
use Rattle.law_descriptors.specs.queue_events.Events.{PartsStand}
use Rattle.bus_world.specs.World.{World, controller_parts, driver_parts, driver_next}
use Rattle.law_world.specs.memory.Mixed.{Standing, IsMixedAt}
use Rattle.law_world.specs.memory.Steps.{returns, IsMixedNext}
use Rattle.law_world.specs.memory.Laws.{RowKeepsMixed}
use Rattle.law_world.proofs.lemmas.memory.QueueViews.{queue_back}
use Rattle.law_world.proofs.lemmas.memory.HarvestKept.{owners_of, driven_of, runs_of, fronts_of, IsIdleNext, idle_mixed}
use Rattle.law_world.proofs.lemmas.memory.RingBasis.{due_is, row_alike, queued_next, told_row}

-- ---- what is owed

record IsOwed (o : Option Transfer) : Type 0 where
  transfer : Transfer
  here : o ≡ Some transfer
  reported : transfer.reported ≡ true
  held : transfer.released ≡ false

owed_one : (o : Option Transfer) → 1 ≤ owes o → IsOwed o
owed_one None some = absurd (omega (arith, some))
owed_one (Some y) some = let both = owed_by y.reported y.released some in record { transfer = y; here = refl; reported = both.0; held = both.1 }

-- ---- structures that are gone

fewer_stop : (parts : StructureSets) (n : ℕ) (goes : ℕ → Bool) (order : ℕ → ℕ) (out later : List ℕ) (m : ℕ) → ((a : ℕ) → IsAmong a later → IsAmong a out) → HaltStops order out m (parts m) → HaltStops order later m (without_those parts n goes m)
fewer_stop parts n goes order out later m fewer s =
    halt_is_spared order out later m (parts m) (without_those parts n goes m)
    (λ r is. record { queue = r; here = those_found parts n goes m m (QueueHead r) is; rest = record { token = refl; current = refl; next = refl; alternate = refl } })
    (λ a t among is. inl (fewer a among, those_found parts n goes m a (Element t) is)) s

of_part : (n : ℕ) (goes : ℕ → Bool) (out : ℕ → List ℕ) (m : ℕ) → IsPart (staying_of n goes out m) (out m)
of_part n goes out m = by (m == n)
  where
    by : (b : Bool) → IsPart (if b then staying goes (out m) else out m) (out m)
    by true = staying_part goes (out m)
    by false = all_part (out m)

-- ---- the row

module _ (s : Standing) (w : World) (k : IsMixedAt s w) (t : ℕ) (row : driver_row (driver_parts w) ≡ rows.ReleaseTransfer t) where
  abbrev d : DriverContent
  d = queued w.driver

  abbrev f : DriverContent
  f = (after_driver_row (rows.ReleaseTransfer t) (queued_parts (driver_parts w))).driver

  due : IsTransferDue (driver_parts w) t
  due = due_is s w k (rows.ReleaseTransfer t) row

  told : IsToldAlike (driver_parts w) (rows.ReleaseTransfer t)
  told = row_alike s w k (rows.ReleaseTransfer t) row tt

  now_due : IsTransferDue (queued_parts (driver_parts w)) t
  now_due = told.due

  owners : HasOwners w.driver
  owners = k.now.framed.place.sound.owners

  owed : IsOwed (slice_get w.driver.transfers t)
  owed =
      let some = times_of w.driver.harvested 0 t due.first in
      let most = k.now.framed.place.sound.owners.orderly.harvests t in
      owed_one (slice_get w.driver.transfers t) (omega (arith, some, most))

  abbrev y : Transfer
  y = owed.transfer

  its_endpoint : (z : Endpoint) × (slice_get w.driver.endpoints owed.transfer.endpoint ≡ Some z)
  its_endpoint = there_at w.driver.endpoints owed.transfer.endpoint (k.now.framed.place.sound.owners.orderly.within t owed.transfer owed.here)

  abbrev z : Endpoint
  z = its_endpoint.0

  moves : is_descriptor owed.transfer.sort ≡ false
  moves = k.turns.harvested 0 t owed.transfer due.first owed.here

  queue : is_iso its_endpoint.0.desc.kind ≡ false
  queue = sym (owners.orderly.sorts t owed.transfer its_endpoint.0 owed.here its_endpoint.1) ∙ moves

  -- as the queues tell them
  abbrev x : Endpoint
  x = with_queue z

  there : slice_get (queued w.driver).transfers t ≡ Some owed.transfer
  there = moves_at w.driver.endpoints w.driver.transfers t owed.transfer owed.here moves

  here : slice_get (queued w.driver).endpoints owed.transfer.endpoint ≡ Some (with_queue its_endpoint.0)
  here = queue_at w.driver.endpoints owed.transfer.endpoint its_endpoint.0 its_endpoint.1 queue

  returning : IsReturning (queued w.driver) t owed.transfer (with_queue its_endpoint.0)
  returning = record {
    free = now_due.idle;
    first = now_due.first;
    here = there;
    held = owed.held;
    reported = owed.reported;
    endpoint = here;
    near = k.owed 0 t owed.transfer (with_queue its_endpoint.0) due.first there here;
  }

  abbrev n : ℕ
  n = 32 * z.queue

  abbrev goes : ℕ → Bool
  goes = goes_of w.driver y

  abbrev now : StructureSets
  now = without_those s.parts n goes

  abbrev later : ℕ → List ℕ
  later = staying_of n goes s.out

  met : IsMet (queued w.driver) owed.transfer.endpoint (with_queue its_endpoint.0)
  met = record {
    there = record { linked = λ is. none_some (unfinished.Open its_endpoint.0.queue) (sym now_due.idle ∙ is); kept = held_alive (queued w.driver) t owed.transfer (with_queue its_endpoint.0) k.turns.turns.turns there owed.held here };
    near = returning.near;
  }

  are_told : QueuesAreTold s.parts (queued_parts (driver_parts w)) s.order s.out
  are_told = record {
    driven = driven_of s w k;
    owners = owners_of s w k;
    in_runs = runs_of s w k;
    asynchronous = k.turns.turns.asynchronous;
    chained = k.turns.turns.chained;
    turns = k.turns.turns.turns;
    fed = k.queues.queues.fed;
    last = k.queues.queues.last;
    still_out = k.queues.queues.out_are;
    fronts = fronts_of s w k;
    rise = k.queues.controls.rises;
  }

  g : ReleaseLeaves s.parts (queued_parts (driver_parts w)) s.order s.out t y x n goes
  g = release_stays s.parts (queued_parts (driver_parts w)) s.order s.out t owed.transfer (with_queue its_endpoint.0) are_told returning (k.queues.sound owed.transfer.endpoint (with_queue its_endpoint.0) here met)

  -- ---- what the row changes

  abbrev after_of : Parts → Parts
  after_of r = after_transfer r t (Some y) (freed_by r.driver (holding r.driver.book r.memory) (Some y))

  row_is : (r : Parts) → slice_get r.driver.transfers t ≡ Some owed.transfer → after_driver_row (rows.ReleaseTransfer t) r ≡ after_of r
  row_is r at = ap (λ (o : Option Transfer). after_transfer r t o (freed_by r.driver (holding r.driver.book r.memory) o)) at

  -- no endpoint, and nothing of the ring
  stays : (r : Parts) → slice_get r.driver.transfers t ≡ Some owed.transfer → SameQueues r.driver (after_driver_row (rows.ReleaseTransfer t) r).driver
  stays r at =
      subst (λ (i : Parts). SameQueues r.driver i.driver) (sym (row_is r at))
      (same_ends r.driver (after_of r).driver (record { waiting = refl; rung = refl; opens = λ c is. is }) (record { waiting = refl; rung = refl; opens = λ c is. is }) refl)

  queues : QueuesStand f s.near s.streams s.ends now s.order later
  queues =
      let kept = release_keeps_met (queued_parts (driver_parts w)) t owed.transfer s.near s.streams s.ends there k.queues.queues.met k.queues.queues.streams_are in
      record { met = kept.0; streams_are = kept.1; fed = g.fed; last = g.last; out_are = g.still_out }

  sound : PartsStand f now
  sound i v at is =
      let same : SameQueues (queued w.driver) f = stays (queued_parts (driver_parts w)) there in
      let was = same.was i v at in
      subst (λ (b : ℕ). IsQueuePart (32 * b) (now (32 * b))) (sym was.life.queue)
      (g.part (32 * was.endpoint.queue)
      (k.queues.sound i was.endpoint was.here (met_as f (queued w.driver) i v was.endpoint same.back (life_back was.endpoint v was.life) is)))

  -- the row comes behind all stores that are owed
  none_owed : MendsStand f now later
  none_owed = record {
    queues = [];
    are = record {
      mends = given_mends (rows.ReleaseTransfer t) (queued_parts (driver_parts w)) refl ∙ given_owes_none (driver_parts w) (ap gives_back row);
      owed = tt;
      wait = tt;
      apart = tt;
    };
  }

  controls : ControlsStand f now s.order later
  controls =
      let is = row_is (queued_parts (driver_parts w)) there in
      stand_by (queued w.driver) f s.parts now s.order s.order s.out later
      (same_there (queued w.driver) f (ap (λ (r : Parts). r.driver.endpoints) is) (λ b opens. ap (λ (r : Parts). r.driver.command) is ∙ opens) (ap (λ (r : Parts). r.driver.waiting) is) (ap (λ (r : Parts). r.driver.rung) is))
      (λ i v at on r. fewer_rise s.parts n goes (s.order (32 * v.queue)) (32 * v.queue) r)
      (λ i v at on r. part_sorted (s.order (32 * v.queue)) (later (32 * v.queue)) (s.out (32 * v.queue)) (of_part n goes s.out (32 * v.queue)) r)
      (λ i v at on r.
      fewer_stop s.parts n goes (s.order (32 * v.queue)) (s.out (32 * v.queue)) (later (32 * v.queue)) (32 * v.queue)
      (λ a among. part_among a (later (32 * v.queue)) (s.out (32 * v.queue)) (of_part n goes s.out (32 * v.queue)) among) r)
      none_owed k.queues.controls

  -- ---- the world

  abbrev new : DriverContent
  new = (after_driver_row (driver_row (driver_parts w)) (driver_parts w)).driver

  tells_new : queued new ≡ f
  tells_new = sym (queued_next s w k (rows.ReleaseTransfer t) row tt)

  to_go : IsToGo w.driver t owed.transfer (runs_of_endpoint (with_queue its_endpoint.0))
  to_go = record { here = owed.here; held = owed.held; qtds = moves; queue = queue_back w.driver owed.transfer.endpoint (runs_of_endpoint (with_queue its_endpoint.0)) g.to_go.queue }

  abbrev standing_then : Standing
  standing_then = record s { parts = now; out = later }

  leaves : IsIdleNext s standing_then w
  leaves = record {
    step = returns t owed.transfer (with_queue its_endpoint.0) (told_row s w k (rows.ReleaseTransfer t) row tt) returning;
    idle = ap (λ (r : DriverRow). (after_driver_row r (driver_parts w)).driver.command) row ∙ ap (λ (r : Parts). r.driver.command) (row_is (driver_parts w) owed.here) ∙ due.idle;
    now = release_transfer_keeps_now opening_base s.member s.recent s.descs s.parts s.hand s.frame (controller_parts w) w.driver t owed.transfer (runs_of_endpoint (with_queue its_endpoint.0)) k.now row to_go
        (λ on q is. g.may_go q is) (λ on q is. g.may_go q is);
    ring = subst (λ (r : DriverRow). AreMet (after_driver_row r (driver_parts w)).driver s.member) (sym row)
        (met_stays w.driver (after_driver_row (rows.ReleaseTransfer t) (driver_parts w)).driver s.member (stays (driver_parts w) owed.here) k.ring);
    queues = subst (λ (i : DriverContent). QueuesStand i s.near s.streams s.ends now s.order later) (sym tells_new) queues;
    sound = subst (λ (i : DriverContent). PartsStand i now) (sym tells_new) sound;
    fronts = subst (λ (i : DriverContent). FrontsStand i now s.order later) (sym tells_new) g.fronts;
    controls = subst (λ (i : DriverContent). ControlsStand i now s.order later) (sym tells_new) controls;
  }

  pub release_leaves : IsMixedNext s w (driver_next w)
  release_leaves = idle_mixed s standing_then w k leaves

pub release_mixed : (t : ℕ) → RowKeepsMixed (rows.ReleaseTransfer t)
release_mixed t s w k row = release_leaves s w k t row
