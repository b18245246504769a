-- An interrupt endpoint that left its frames is given back: all is framed without it.
use Rattle.std.proofs.Common.{◌≡◌, ℕ, ◌*◌, Bool, true, false, if◌then◌else◌, List, map, set, slice_get, Option, Some, None, ap, sym, subst, ◌∙◌}
use Rattle.mem_runs.specs.Book.{Holding, holding}
use Rattle.drv_periodic_table.specs.Periodic.{PeriodicContent}
use Rattle.drv_periodic_table.specs.declared.content.Removed.TheVariants as removed
use Rattle.drv_table.specs.declared.content.Endpoint.{Endpoint}
use Rattle.drv_table.specs.declared.rows.DriverRow.{DriverRow}
use Rattle.drv_table.specs.declared.rows.DriverRow.TheVariants as rows
use Rattle.drv_table.specs.DriverContent.{DriverContent}
use Rattle.drv_table.specs.Parts.{Parts}
use Rattle.drv_table.specs.Removals.{free_descriptors, free_placed, let_go_placed, after_placed}
use Rattle.drv_table.specs.Releases.{free_endpoint, is_told, cancel_told, let_go}
use Rattle.drv_table.specs.Kinds.{is_iso}
use Rattle.drv_table.specs.Rows.{driver_row, after_driver_row}
use Rattle.law_driver.proofs.lemmas.run_owners.Released.{AreUntouched, cancel_same}
use Rattle.hc_core.specs.Controller.{Content}
use Rattle.law_structures.specs.lent_structures.Structures.{StructureSets}
use Rattle.law_ring.specs.Hand.{Hand}
use Rattle.claims_base.specs.Controller.{Base}
use Rattle.law_world.specs.steps.endpoint_releases.Released.{without_queue}
use Rattle.law_driver.specs.in_place.InPlace.{IsInPlace}
use Rattle.law_queues.specs.shared_memory.Shared.{parts_of}
use Rattle.law_frames.specs.Met.{Kind}
use Rattle.law_frames.specs.FrameHand.{FrameHand}
use Rattle.law_controller.specs.frame_control.Both.{RunsBoth}
use Rattle.law_descriptors.specs.Both.{both}
use Rattle.law_descriptors.specs.Told.{with_memory}
use Rattle.law_descriptors.specs.Meeting.{standing_in, or_recent, met}
use Rattle.law_descriptors.specs.Recent.{AreRecent}
use Rattle.law_descriptors.specs.Returned.{IsGivenBack}
use Rattle.law_descriptors.proofs.GivenRow.{row_gives_back_passed}
use Rattle.law_descriptors.proofs.GivenRecent.{endpoint_leaves_recent}
use Rattle.law_world.specs.memory.framed_memory.Now.{IsFramedNow}
use Rattle.law_world.proofs.lemmas.memory.lemmas.framed_memory.Now.{RowLeaves, next_now}
use Rattle.law_world.specs.memory.framed_memory.Leaving.{EndpointLeavesNow}
use Rattle.law_world.proofs.lemmas.memory.lemmas.framed_memory.LeavingUnmet.{still_kept, interrupt_is_unmet}
use Rattle.law_world.proofs.lemmas.memory.lemmas.framed_memory.LeavingViews.{IsWithout}
use Rattle.law_world.proofs.lemmas.memory.lemmas.framed_memory.LeavingRuns.{told_beside, runs_then}
use Rattle.law_world.proofs.lemmas.memory.lemmas.framed_memory.LeavingRows.{LeavesAt, row_leaves, placed_then}

module _ (base : Base) (member : ℕ → Bool) (recent : ℕ → Option Kind) (descs parts : StructureSets) (hand : Hand) (frame : FrameHand) (c : Content) (d : DriverContent) (e : ℕ) (x : Endpoint) (k : IsFramedNow base member recent descs parts hand frame c d) (is : driver_row (parts_of c d) ≡ rows.ReleaseRemoved (removed.Endpoint e)) (here : slice_get d.endpoints e ≡ Some x) (queued : is_iso x.desc.kind ≡ false) (off : member (32 * x.queue) ≡ false) where
  abbrev p : Parts
  p = parts_of c d

  abbrev row : DriverRow
  row = rows.ReleaseRemoved (removed.Endpoint e)

  abbrev now : StructureSets
  now = without_queue parts (32 * x.queue)

  abbrev h : Holding
  h = holding d.book c.memory

  abbrev freed : Holding
  freed = free_endpoint d e x h

  abbrev later : Parts
  later = after_placed p e (Some x)

  abbrev f : DriverContent
  f = later.driver

  abbrev reported : DriverContent
  reported = cancel_told d c.memory e x

  same : AreUntouched d reported
  same = cancel_same d c.memory e x

  given : IsGivenBack p (removed.Endpoint e)
  given = row_gives_back_passed p (removed.Endpoint e) is

  after_is : after_driver_row row p ≡ later
  after_is = ap (after_placed p e) here

  freed_is : free_placed d e x h ≡ freed
  freed_is = ap (λ (b : Bool). if b then free_descriptors d.periodic.notes e h d.transfers else free_endpoint d e x h) queued

  without : IsWithout d c.memory e x f
  without = record {
    told = is_told x;
    book = ap (λ (i : Holding). i.book) freed_is;
    endpoints = ap (λ (xs : List Endpoint). set xs e (record x { gone = true })) same.endpoints;
    transfers = ap (λ (b : Bool). map (let_go_placed b e (is_told x)) reported.transfers) queued ∙ ap (map (let_go e (is_told x))) same.transfers;
    notes = same.notes;
    descriptors = ap (λ (q : PeriodicContent). q.notes) same.periodic;
  }

  kept : x.gone ≡ false
  kept = still_kept p c.registers.frame_index e x k.framed.place.sound.owners given here

  unmet : met d recent (32 * x.queue) ≡ None
  unmet = interrupt_is_unmet p recent c.registers.frame_index e x k.framed.place.sound.owners k.framed.place.sound.listed k.recent_are given here queued

  placed : IsInPlace freed.memory f
  placed = subst (λ (i : Holding). IsInPlace i.memory f) freed_is (placed_then p later row is after_is k.framed.place)

  runs_freed : RunsBoth base member (met d recent) (both descs now) hand frame (with_memory c freed.memory)
  runs_freed = runs_then base member recent descs parts hand frame c d e x k here queued kept off unmet f without placed

  runs_later : RunsBoth base member (met f recent) (both descs now) hand frame (with_memory c later.memory)
  runs_later =
      subst (λ (i : Holding). RunsBoth base member (met f recent) (both descs now) hand frame (with_memory c i.memory)) (sym freed_is)
      (subst (λ (q : PeriodicContent). RunsBoth base member (λ i. or_recent (standing_in q i) (recent i)) (both descs now) hand frame (with_memory c freed.memory)) (sym same.periodic) runs_freed)

  at_then : LeavesAt base member recent descs now hand frame c later
  at_then = record {
    runs = runs_later;
    told = told_beside base member recent descs parts hand frame c d e x k here queued kept off unmet f without;
    recent_are = subst (λ (q : Parts). AreRecent q.driver c.registers.frame_index recent) after_is
        (endpoint_leaves_recent p recent c.registers.frame_index e x k.framed.place.sound.owners given here k.recent_are);
    apart = λ i kind on. ap (λ (q : PeriodicContent). standing_in q i) same.periodic ∙ k.apart i kind on;
  }

  leaves : RowLeaves base member recent descs now hand frame c d row
  leaves = row_leaves base member recent descs now hand frame c d row later after_is at_then

pub endpoint_leaves_now : EndpointLeavesNow
endpoint_leaves_now base member recent descs parts hand frame c d e x k is here queued off =
    next_now base member recent recent descs parts descs (without_queue parts (32 * x.queue)) hand hand frame frame c d k
    (subst (RowLeaves base member recent descs (without_queue parts (32 * x.queue)) hand frame c d) (sym is)
    (leaves base member recent descs parts hand frame c d e x k is here queued off))
