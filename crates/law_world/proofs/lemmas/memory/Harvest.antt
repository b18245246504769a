-- The harvest of a get, a put or a request leaves a world mixed, wherever its queue head stands.
use Rattle.std.proofs.Common.{◌≡◌, ◌≢◌, ℕ, ◌*◌, Bool, false, if◌then◌else◌, List, ◌++◌, slice_get, Some, ap, refl, sym, subst, ◌∙◌, ⊎_elim}
use Rattle.std.proofs.lemmas.Bool.{eq-eqb}
use Rattle.law_world.proofs.Common.{none_some}
use Rattle.law_queues.proofs.Common.{stall_or}
use Rattle.drv_table.specs.declared.content.Command.TheVariants as unfinished
use Rattle.drv_table.specs.declared.content.Transfer.{Transfer}
use Rattle.drv_table.specs.declared.rows.DriverRow.{DriverRow}
use Rattle.drv_table.specs.declared.rows.DriverRow.TheVariants as rows
use Rattle.drv_table.specs.declared.rows.Found.{Found}
use Rattle.drv_table.specs.declared.rows.Found.TheVariants as founds
use Rattle.drv_table.specs.DriverContent.{DriverContent}
use Rattle.drv_table.specs.Parts.{Parts}
use Rattle.drv_table.specs.Rows.{driver_row, after_driver_row}
use Rattle.claims_driver.specs.Owners.{is_descriptor}
use Rattle.law_driver.specs.run_owners.Due.{IsHarvestDue}
use Rattle.claims_driver.specs.Leaving.{HasOwners}
use Rattle.claims_driver.specs.LentRuns.{AreLent}
use Rattle.claims_base.specs.Controller.{opening_base}
use Rattle.law_driver.specs.chained_transfers.AsynchronousTurns.{AsynchronousTakesTurns}
use Rattle.law_frames.specs.Met.{IsQueuePart}
use Rattle.law_driver_ring.specs.fed_queues.Places.{IsMet, AreStillOut}
use Rattle.law_driver_ring.proofs.lemmas.fed_queues.Places.{SameQueues, life_back, met_as, met_stays, stands_met}
use Rattle.law_queues.specs.fed_lends.Commands.{QueuesStand}
use Rattle.law_queues.specs.fed_harvests.Harvests.{with_out, HarvestLeaves}
use Rattle.law_queues.specs.fed_harvests.Stalls.{StallLeaves}
use Rattle.law_queues.proofs.lemmas.fed_harvests.Harvests.{unstalled_stands, wait_stands}
use Rattle.law_queues.proofs.lemmas.fed_harvests.Stalls.{stall_stands}
use Rattle.law_queues.specs.mended_heads.Stalling.{IsStall, HaltsQueue}
use Rattle.law_queues.proofs.lemmas.stalled_fronts.Halted.{stall_stops_queue}
use Rattle.law_queues.proofs.lemmas.stalled_fronts.Stalled.{stall_moves_fronts}
use Rattle.law_queues.specs.released_queues.Fronts.{FrontsStand}
use Rattle.law_queues.proofs.lemmas.standing_fronts.Rows.{harvest_keeps_fronts}
use Rattle.law_world.specs.steps.control_queues.Controls.{ControlsStand}
use Rattle.law_world.proofs.lemmas.memory.lemmas.framed_memory.Harvesting.{harvest_keeps_now}
use Rattle.law_driver.specs.queued_drivers.Queued.{queued, queued_parts}
use Rattle.law_driver.specs.queued_drivers.Rows.{IsToldAlike}
use Rattle.law_descriptors.specs.queue_events.Events.{PartsStand}
use Rattle.bus_world.specs.World.{World, controller_parts, driver_parts, driver_next}
use Rattle.law_world.specs.memory.Mixed.{Standing, IsMixedAt}
use Rattle.law_world.specs.memory.Steps.{OutAfter, waits as none_read, passes, stalls, harvests, IsMixedNext}
use Rattle.law_world.proofs.lemmas.memory.HarvestTold.{ToldAnew, due_told, same_queues}
use Rattle.law_world.proofs.lemmas.memory.HarvestControls.{harvest_keeps_queues}
use Rattle.law_world.proofs.lemmas.memory.HarvestKept.{idle_lent, owners_of, tells_of, driven_of, fronts_of, IsIdleNext, idle_mixed}
use Rattle.law_world.proofs.lemmas.memory.RingBasis.{due_is, row_alike, queued_next, told_row}

module _ (s : Standing) (w : World) (k : IsMixedAt s w) (e t : ℕ) (found : Found) (row : driver_row (driver_parts w) ≡ rows.Harvest e t found) (moves : (y : Transfer) → slice_get w.driver.transfers t ≡ Some y → is_descriptor y.sort ≡ false) where
  abbrev p : Parts
  p = driver_parts w

  abbrev q : Parts
  q = queued_parts (driver_parts w)

  abbrev d : DriverContent
  d = queued w.driver

  -- the queues after it
  abbrev f : DriverContent
  f = (after_driver_row (rows.Harvest e t found) (queued_parts (driver_parts w))).driver

  raw : IsHarvestDue (driver_parts w) e t found
  raw = due_is s w k (rows.Harvest e t found) row

  told : IsToldAlike (driver_parts w) (rows.Harvest e t found)
  told = row_alike s w k (rows.Harvest e t found) row moves

  due : IsHarvestDue (queued_parts (driver_parts w)) e t found
  due = told.due

  abbrev n : ℕ
  n = 32 * due.endpoint.queue

  owners : HasOwners (queued w.driver)
  owners = owners_of s w k

  lent : AreLent (queued w.driver)
  lent = idle_lent w.driver raw.idle k.now.framed.place.lent

  turns : AsynchronousTakesTurns (queued w.driver)
  turns = k.turns.turns

  old : QueuesStand (queued w.driver) s.near s.streams s.ends s.parts s.order s.out
  old = k.queues.queues

  fronts : FrontsStand (queued w.driver) s.parts s.order s.out
  fronts = fronts_of s w k

  met : IsMet (queued w.driver) e due.endpoint
  met = stands_met (queued w.driver) e due.endpoint (turns.asynchronous.endpoints e due.endpoint due.here) due.goes_on (λ is. none_some (unfinished.Open due.endpoint.queue) (sym due.idle ∙ is))

  part : IsQueuePart (32 * due.endpoint.queue) (s.parts (32 * due.endpoint.queue))
  part = k.queues.sound e due.endpoint due.here met

  -- ---- the queues

  -- what is out then
  record IsHarvested : Type 0 where
    later : ℕ → List ℕ
    out_then : OutAfter (queued_parts (driver_parts w)) e t found due s.out later
    stand : QueuesStand f s.near s.streams s.ends s.parts s.order later
    fronts_now : FrontsStand f s.parts s.order later

  unstalled_fronts : (IsStall due.endpoint.desc.kind found → ⊥) → (later : ℕ → List ℕ) → AreStillOut f later → FrontsStand f s.parts s.order later
  unstalled_fronts never later still =
      harvest_keeps_fronts (queued_parts (driver_parts w)) e t found s.parts s.order s.out later due owners turns never (tells_of s w k) old.fed (λ i x here is. k.queues.controls.rises i x here is.there) old.out_are still fronts

  waits : found ≡ founds.Active → IsHarvested
  waits is =
      let stand : QueuesStand f s.near s.streams s.ends s.parts s.order s.out =
      subst (λ (z : Found). QueuesStand (after_driver_row (rows.Harvest e t z) (queued_parts (driver_parts w))).driver s.near s.streams s.ends s.parts s.order s.out) (sym is)
      (wait_stands (queued_parts (driver_parts w)) e t s.near s.streams s.ends s.parts s.order s.out (subst (IsHarvestDue (queued_parts (driver_parts w)) e t) is due) old) in
      record { later = s.out; out_then = none_read is; stand = stand; fronts_now = unstalled_fronts (λ stall. subst (IsStall due.endpoint.desc.kind) is stall) s.out stand.out_are }

  unstalled : found ≢ founds.Active → (IsStall due.endpoint.desc.kind found → ⊥) → IsHarvested
  unstalled done never =
      let l : HarvestLeaves (queued_parts (driver_parts w)) e t found due s.near s.streams s.ends s.parts s.order s.out
      = unstalled_stands (queued_parts (driver_parts w)) e t found s.near s.streams s.ends s.parts s.order s.out due done never owners turns old in
      let later = with_out s.out (32 * due.endpoint.queue) (l.harvested.before ++ l.harvested.behind) in
      record { later = later; out_then = passes done never l.harvested; stand = l.stand; fronts_now = unstalled_fronts never later l.stand.out_are }

  stalled : IsStall due.endpoint.desc.kind found → IsHarvested
  stalled stall =
      let l : StallLeaves (queued_parts (driver_parts w)) e t found due s.near s.streams s.ends s.parts s.order s.out
      = stall_stands (queued_parts (driver_parts w)) e t found s.near s.streams s.ends s.parts s.order s.out due stall owners turns old in
      let out : List ℕ = l.stalled.before ++ l.stalled.later in
      let later : ℕ → List ℕ = with_out s.out (32 * due.endpoint.queue) out in
      let here : later (32 * due.endpoint.queue) ≡ out
      = ap (λ (b : Bool). if b then out else s.out (32 * due.endpoint.queue)) (eq-eqb (32 * due.endpoint.queue) (32 * due.endpoint.queue) refl) in
      let halts : HaltsQueue (later (32 * due.endpoint.queue)) s.parts (32 * due.endpoint.queue)
      = subst (λ (now : List ℕ). HaltsQueue now s.parts (32 * due.endpoint.queue)) (l.stalled.now ∙ sym here)
      (stall_stops_queue (queued_parts (driver_parts w)) e t found s.near s.streams s.ends s.parts s.order s.out due stall owners turns (tells_of s w k) old met part (k.queues.controls.stops e due.endpoint due.here met)
      (k.queues.controls.sorted e due.endpoint due.here met.there) fronts) in
      record {
        later = later;
        out_then = stalls stall l.stalled;
        stand = l.stand;
        fronts_now = stall_moves_fronts (queued_parts (driver_parts w)) e t found s.near s.streams s.ends s.parts s.order s.out later due stall owners lent turns old l.stand.out_are part halts fronts;
      }

  is_done : found ≢ founds.Active → IsHarvested
  is_done done = ⊎_elim {C = IsHarvested} stalled (λ (never : IsStall due.endpoint.desc.kind found → ⊥). unstalled done never) (stall_or due.endpoint.desc.kind found)

  by_found : (z : Found) → found ≡ z → IsHarvested
  by_found founds.Active is = waits is
  by_found (founds.Moved i) is = is_done (λ active. never (sym is ∙ active))
    where
      never : founds.Moved i ≡ founds.Active → ⊥
      never same = cc
  by_found (founds.Ended i what) is = is_done (λ active. never (sym is ∙ active))
    where
      never : founds.Ended i what ≡ founds.Active → ⊥
      never same = cc
  by_found (founds.Served i) is = is_done (λ active. never (sym is ∙ active))
    where
      never : founds.Served i ≡ founds.Active → ⊥
      never same = cc

  harvested : IsHarvested
  harvested = by_found found refl

  controls : ControlsStand f s.parts s.order harvested.later
  controls =
      harvest_keeps_queues (queued_parts (driver_parts w)) e t found s.near s.streams s.ends s.parts s.order s.out harvested.later due owners lent turns (tells_of s w k) (driven_of s w k) old part harvested.stand.out_are fronts
      k.queues.controls

  -- the same queue heads are met
  same : SameQueues (queued w.driver) f
  same = same_queues (queued w.driver) f e due.endpoint due.here (due_told (queued_parts (driver_parts w)) e t found due)

  sound : PartsStand f s.parts
  sound i z here is =
      let was = same.was i z here in
      subst (λ (b : ℕ). IsQueuePart (32 * b) (s.parts (32 * b))) (sym was.life.queue)
      (k.queues.sound i was.endpoint was.here (met_as f (queued w.driver) i z was.endpoint same.back (life_back was.endpoint z was.life) is))

  -- ---- the world

  abbrev new : DriverContent
  new = (after_driver_row (driver_row (driver_parts w)) (driver_parts w)).driver

  tells_new : queued new ≡ f
  tells_new = sym (queued_next s w k (rows.Harvest e t found) row moves)

  after : ToldAnew w.driver new e raw.endpoint
  after = subst (λ (r : DriverRow). ToldAnew w.driver (after_driver_row r (driver_parts w)).driver e raw.endpoint) (sym row) (due_told (driver_parts w) e t found raw)

  abbrev standing_then : Standing
  standing_then = record s { out = harvested.later }

  leaves : IsIdleNext s standing_then w
  leaves = record {
    step = harvests e t found due harvested.later (told_row s w k (rows.Harvest e t found) row moves) harvested.out_then;
    idle = after.command ∙ raw.idle;
    now = harvest_keeps_now opening_base s.member s.recent s.descs s.parts s.hand s.frame (controller_parts w) w.driver e t found k.now row;
    ring = met_stays w.driver new s.member (same_queues w.driver new e raw.endpoint raw.here after) k.ring;
    queues = subst (λ (g : DriverContent). QueuesStand g s.near s.streams s.ends s.parts s.order harvested.later) (sym tells_new) harvested.stand;
    sound = subst (λ (g : DriverContent). PartsStand g s.parts) (sym tells_new) sound;
    fronts = subst (λ (g : DriverContent). FrontsStand g s.parts s.order harvested.later) (sym tells_new) harvested.fronts_now;
    controls = subst (λ (g : DriverContent). ControlsStand g s.parts s.order harvested.later) (sym tells_new) controls;
  }

  pub harvest_leaves : IsMixedNext s w (driver_next w)
  harvest_leaves = idle_mixed s standing_then w k leaves

-- the harvested transfer is one of qTDs
abbrev pub HarvestKeepsMixed : Type 0
HarvestKeepsMixed = (e t : ℕ) (found : Found) (s : Standing) (w : World) → IsMixedAt s w → driver_row (driver_parts w) ≡ rows.Harvest e t found
    → ((y : Transfer) → slice_get w.driver.transfers t ≡ Some y → is_descriptor y.sort ≡ false) → IsMixedNext s w (driver_next w)

pub harvest_mixed : HarvestKeepsMixed
harvest_mixed e t found s w k row moves = harvest_leaves s w k e t found row moves
