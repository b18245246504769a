-- An endpoint that left the ring is given back: all is framed without it.
use Rattle.std.proofs.Common.{◌≡◌, ℕ, ◌*◌, Bool, true, false, List, map, set, slice_get, Option, Some, None, ⊎_elim, inl, ap, refl, sym, subst, ◌∙◌}
use Rattle.std.proofs.lemmas.Option.{same_Some}
use Rattle.law_common.proofs.Options.{none_is_some}
use Rattle.law_driver.proofs.Common.{ring_queue}
use Rattle.mem_runs.specs.Book.{Holding, holding}
use Rattle.drv_periodic_table.specs.Periodic.{PeriodicContent}
use Rattle.drv_table.specs.declared.content.Endpoint.{Endpoint}
use Rattle.drv_table.specs.declared.content.Transfer.{Transfer}
use Rattle.drv_table.specs.declared.rows.DriverRow.{DriverRow}
use Rattle.drv_table.specs.declared.rows.DriverRow.TheVariants as rows
use Rattle.drv_table.specs.DriverContent.{DriverContent}
use Rattle.drv_table.specs.Parts.{Parts}
use Rattle.drv_table.specs.Releases.{free_endpoint, is_told, cancel_told, let_go, after_endpoint}
use Rattle.drv_table.specs.Kinds.{is_iso}
use Rattle.drv_table.specs.Rows.{driver_row, after_driver_row}
use Rattle.law_driver.specs.run_owners.Due.{IsDue, IsEndpointDue}
use Rattle.law_driver.proofs.lemmas.run_owners.Orders.{IsLeft}
use Rattle.law_driver.proofs.lemmas.run_owners.Leaves.{first_left}
use Rattle.law_driver.proofs.lemmas.run_owners.Reasons.{each_event_is_due}
use Rattle.law_driver.proofs.lemmas.run_owners.Released.{AreUntouched, cancel_same}
use Rattle.hc_core.specs.Controller.{Content}
use Rattle.law_structures.specs.lent_structures.Structures.{StructureSets}
use Rattle.law_ring.specs.Hand.{Hand}
use Rattle.claims_base.specs.Controller.{Base}
use Rattle.law_world.specs.steps.endpoint_releases.Released.{without_queue}
use Rattle.law_driver.specs.in_place.InPlace.{IsInPlace}
use Rattle.law_queues.specs.shared_memory.Shared.{parts_of}
use Rattle.law_frames.specs.Met.{Kind}
use Rattle.law_frames.specs.FrameHand.{FrameHand}
use Rattle.law_controller.specs.frame_control.Both.{RunsBoth}
use Rattle.law_descriptors.specs.Both.{both}
use Rattle.law_descriptors.specs.Told.{with_memory}
use Rattle.law_descriptors.specs.Meeting.{standing_in, or_recent, met}
use Rattle.law_descriptors.specs.Removed.{IsRemovedSince, IsUnchainedNow}
use Rattle.law_descriptors.specs.Recent.{AreRecent}
use Rattle.law_world.specs.memory.framed_memory.Now.{IsFramedNow}
use Rattle.law_world.proofs.lemmas.memory.lemmas.framed_memory.Now.{RowLeaves, next_now}
use Rattle.law_world.specs.memory.framed_memory.Leaving.{EndpointReleaseNow}
use Rattle.law_world.proofs.lemmas.memory.lemmas.framed_memory.LeavingUnmet.{ring_is_unmet}
use Rattle.law_world.proofs.lemmas.memory.lemmas.framed_memory.LeavingViews.{IsWithout}
use Rattle.law_world.proofs.lemmas.memory.lemmas.framed_memory.LeavingRuns.{still_removed, told_beside, runs_then}
use Rattle.law_world.proofs.lemmas.memory.lemmas.framed_memory.LeavingRows.{LeavesAt, row_leaves, placed_then}

module _ (base : Base) (member : ℕ → Bool) (recent : ℕ → Option Kind) (descs parts : StructureSets) (hand : Hand) (frame : FrameHand) (c : Content) (d : DriverContent) (e : ℕ) (x : Endpoint) (k : IsFramedNow base member recent descs parts hand frame c d) (is : driver_row (parts_of c d) ≡ rows.ReleaseEndpoint e) (here : slice_get d.endpoints e ≡ Some x) (off : member (32 * x.queue) ≡ false) where
  abbrev p : Parts
  p = parts_of c d

  abbrev row : DriverRow
  row = rows.ReleaseEndpoint e

  abbrev now : StructureSets
  now = without_queue parts (32 * x.queue)

  abbrev freed : Holding
  freed = free_endpoint d e x (holding d.book c.memory)

  abbrev later : Parts
  later = after_endpoint p e (Some x)

  abbrev f : DriverContent
  f = later.driver

  abbrev gone : Endpoint
  gone = record x { gone = true }

  abbrev reported : DriverContent
  reported = cancel_told d c.memory e x

  same : AreUntouched d reported
  same = cancel_same d c.memory e x

  due : IsEndpointDue p e
  due = subst (IsDue p) is (each_event_is_due p)

  left : IsLeft d.endpoints e
  left = first_left e due.first k.framed.place.sound.owners.orderly

  left_is : left.endpoint ≡ x
  left_is = same_Some left.endpoint x (sym left.here ∙ here)

  after_is : after_driver_row row p ≡ later
  after_is = ap (after_endpoint p e) here

  endpoints_are : f.endpoints ≡ set d.endpoints e gone
  endpoints_are = ap (λ (xs : List Endpoint). set xs e gone) same.endpoints

  transfers_are : f.transfers ≡ map (let_go e (is_told x)) d.transfers
  transfers_are = ap (map (let_go e (is_told x))) same.transfers

  without : IsWithout d c.memory e x f
  without = record {
    told = is_told x;
    book = refl;
    endpoints = endpoints_are;
    transfers = transfers_are;
    notes = same.notes;
    descriptors = ap (λ (q : PeriodicContent). q.notes) same.periodic;
  }

  queued : is_iso x.desc.kind ≡ false
  queued = ap (λ (z : Endpoint). is_iso z.desc.kind) (sym left_is) ∙ ring_queue left.endpoint.desc.kind left.ring

  kept : x.gone ≡ false
  kept = ap (λ (z : Endpoint). z.gone) (sym left_is) ∙ left.gone

  unmet : met d recent (32 * x.queue) ≡ None
  unmet = subst (λ (z : Endpoint). met d recent (32 * z.queue) ≡ None) left_is
      (ring_is_unmet d recent c.registers.frame_index e left.endpoint k.framed.place.sound.owners k.framed.place.sound.listed k.recent_are due.idle left.here left.ring left.gone)

  placed : IsInPlace freed.memory f
  placed = placed_then p later row is after_is k.framed.place

  runs_freed : RunsBoth base member (met d recent) (both descs now) hand frame (with_memory c freed.memory)
  runs_freed = runs_then base member recent descs parts hand frame c d e x k here queued kept off unmet f without placed

  runs_later : RunsBoth base member (met f recent) (both descs now) hand frame (with_memory c later.memory)
  runs_later = subst (λ (q : PeriodicContent). RunsBoth base member (λ i. or_recent (standing_in q i) (recent i)) (both descs now) hand frame (with_memory c freed.memory)) (sym same.periodic) runs_freed

  -- ---- what was unlinked

  since : (i : ℕ) → IsRemovedSince d.endpoints d.transfers d.periodic.removals c.registers.frame_index i → IsRemovedSince f.endpoints f.transfers f.periodic.removals c.registers.frame_index i
  since i s =
      subst (λ (q : PeriodicContent). IsRemovedSince f.endpoints f.transfers q.removals c.registers.frame_index i) (sym same.periodic)
      (subst (λ (ts : List Transfer). IsRemovedSince f.endpoints ts d.periodic.removals c.registers.frame_index i) (sym transfers_are)
      (subst (λ (xs : List Endpoint). IsRemovedSince xs (map (let_go e (is_told x)) d.transfers) d.periodic.removals c.registers.frame_index i) (sym endpoints_are)
      (record {
        place = s.place;
        removal = s.removal;
        here = s.here;
        what = still_removed d.endpoints d.transfers e x (is_told x) here queued i s.removal.what s.what;
        within = s.within;
      })))

  recent_are : AreRecent f c.registers.frame_index recent
  recent_are i kind on =
      ⊎_elim (λ (s : IsRemovedSince d.endpoints d.transfers d.periodic.removals c.registers.frame_index i). inl (since i s))
      (λ (u : IsUnchainedNow d.endpoints d.transfers d.command i). absurd (none_is_some _ (sym due.idle ∙ u.command)))
      (k.recent_are i kind on)

  at_then : LeavesAt base member recent descs now hand frame c later
  at_then = record {
    runs = runs_later;
    told = told_beside base member recent descs parts hand frame c d e x k here queued kept off unmet f without;
    recent_are = recent_are;
    apart = λ i kind on. ap (λ (q : PeriodicContent). standing_in q i) same.periodic ∙ k.apart i kind on;
  }

  leaves : RowLeaves base member recent descs now hand frame c d row
  leaves = row_leaves base member recent descs now hand frame c d row later after_is at_then

pub endpoint_release_now : EndpointReleaseNow
endpoint_release_now base member recent descs parts hand frame c d e x k is here off =
    next_now base member recent recent descs parts descs (without_queue parts (32 * x.queue)) hand hand frame frame c d k
    (subst (RowLeaves base member recent descs (without_queue parts (32 * x.queue)) hand frame c d) (sym is)
    (leaves base member recent descs parts hand frame c d e x k is here off))
