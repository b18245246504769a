-- Each event of the driver leaves a mixed world one: by the unfinished command, and by which row it is.
use Rattle.std.proofs.Common.{◌≡◌, ℕ, zero, suc, ◌⊎◌, true, false, slice_get, Option, Some, ap, refl, sym, subst, ◌∙◌, ⊎_elim, inl, inr, arith}
use Rattle.std.proofs.lemmas.Bool.{cases_Bool}
use Rattle.std.proofs.lemmas.Option.{same_Some}
use Rattle.drv_periodic_table.specs.declared.content.Removed.{Removed}
use Rattle.drv_periodic_table.specs.declared.content.Removed.TheVariants as removed
use Rattle.drv_table.specs.declared.content.Command.{Command}
use Rattle.drv_table.specs.declared.content.Command.TheVariants as unfinished
use Rattle.drv_table.specs.declared.content.Transfer.{Transfer}
use Rattle.drv_table.specs.declared.rows.DriverRow.{DriverRow}
use Rattle.drv_table.specs.declared.rows.DriverRow.TheVariants as rows
use Rattle.drv_table.specs.declared.rows.Found.{Found}
use Rattle.drv_table.specs.Kinds.{is_iso}
use Rattle.drv_table.specs.Parts.{Parts}
use Rattle.drv_table.specs.Commands.{events_of}
use Rattle.drv_table.specs.Rows.{driver_row}
use Rattle.claims_driver.specs.Owners.{is_descriptor}
use Rattle.law_driver.specs.run_owners.Due.{IsDue, IsNextOf, IsLinkOf, IsHarvestDue, IsRemovalDue}
use Rattle.claims_driver.specs.Leaving.{HasOwners}
use Rattle.law_driver.proofs.lemmas.run_owners.Reasons.{each_event_is_due}
use Rattle.law_driver.proofs.lemmas.run_owners.Orders.{one_same, endpoint_first, IsRemoved, has_removed}
use Rattle.law_world.specs.memory.framed_memory.Isochronous.{IsFramesCommand}
use Rattle.bus_world.specs.World.{World, driver_parts, driver_next}
use Rattle.law_world.specs.memory.Mixed.{Standing, IsMixedAt}
use Rattle.law_world.specs.memory.Steps.{IsMixedNext}
use Rattle.law_world.specs.memory.Laws.{DriverKeepsMixed, DriverTellsStep}
use Rattle.law_world.proofs.lemmas.memory.Stepping.{mixed_world}
use Rattle.law_world.proofs.lemmas.memory.FrameRegisters.{rest_mixed, frame_read_mixed, status_read_mixed, doorbell_mixed}
use Rattle.law_world.proofs.lemmas.memory.FrameRows.{frames_chosen_mixed, descriptor_harvested_mixed, unlinked_mixed, descriptor_returned_mixed, isochronous_returned_mixed, stored_mixed}
use Rattle.law_world.proofs.lemmas.memory.FrameLends.{descriptors_lent_mixed}
use Rattle.law_world.proofs.lemmas.memory.Harvest.{harvest_mixed}
use Rattle.law_world.proofs.lemmas.memory.Release.{release_mixed}
use Rattle.law_world.proofs.lemmas.memory.Mend.{mend_mixed}
use Rattle.law_world.proofs.lemmas.memory.Publish.{publish_mixed}
use Rattle.law_world.proofs.lemmas.memory.ChainStores.{chain_mixed}
use Rattle.law_world.proofs.lemmas.memory.Removed.{removed_mixed}
use Rattle.law_world.proofs.lemmas.memory.RingOpening.{opening_mixed}
use Rattle.law_world.proofs.lemmas.memory.RingUnlinking.{unlink_mixed}
use Rattle.law_world.proofs.lemmas.memory.RingClearing.{clear_mixed}
use Rattle.law_world.proofs.lemmas.memory.RingReleasing.{endpoint_mixed}

-- ---- while no open, no transfer and no unlink of the ring is unfinished

no_own_event : (c : Command) (n : ℕ) (row : DriverRow) → IsFramesCommand (Some c) → slice_get (events_of c) n ≡ Some row → (row ≡ rows.Frames) ⊎ (row ≡ rows.LendDescriptors)
no_own_event (unfinished.Iso e t count) zero row only next = inl (sym (same_Some rows.Frames row next))
no_own_event (unfinished.Iso e t count) (suc zero) row only next = inr (sym (same_Some rows.LendDescriptors row next))
no_own_event (unfinished.Iso e t count) (suc (suc n)) row only next = absurd (cc)
no_own_event (unfinished.Unchain e) n row only next = absurd (cc)
no_own_event _ n row only next = absurd only

endpoint_there : (p : Parts) (e : ℕ) → HasOwners p.driver → IsRemovalDue p (removed.Endpoint e) → IsRemoved p.driver.endpoints e
endpoint_there p e has due =
    let most = has.orderly.removed e in
    let first = endpoint_first e e p.driver.periodic.removals due.removal due.first due.is in
    let one = one_same e in
    has_removed p.driver.endpoints e (slice_get p.driver.endpoints e) refl (omega (arith, most, first, one))

module _ (s : Standing) (w : World) (k : IsMixedAt s w) where
  abbrev p : Parts
  p = driver_parts w

  removal : (what : Removed) → driver_row (driver_parts w) ≡ rows.ReleaseRemoved what → IsRemovalDue (driver_parts w) what → IsMixedNext s w (driver_next w)
  removal (removed.Descriptor t) is due = descriptor_returned_mixed t s w k is
  removal (removed.Endpoint e) is due =
      let at : IsRemoved w.driver.endpoints e = endpoint_there p e k.now.framed.place.sound.owners due in
      ⊎_elim (λ (iso : is_iso at.endpoint.desc.kind ≡ true). isochronous_returned_mixed e at.endpoint s w k is at.here iso)
      (λ (queue : is_iso at.endpoint.desc.kind ≡ false). removed_mixed s w e at.endpoint k is at.here queue) (cases_Bool (is_iso at.endpoint.desc.kind))

  harvest : (e t : ℕ) (found : Found) → driver_row (driver_parts w) ≡ rows.Harvest e t found → IsHarvestDue (driver_parts w) e t found → IsMixedNext s w (driver_next w)
  harvest e t found is due =
      let same : (y : Transfer) → slice_get w.driver.transfers t ≡ Some y → due.transfer ≡ y = λ y there. same_Some due.transfer y (sym due.there ∙ there) in
      ⊎_elim
      (λ (iso : is_descriptor due.transfer.sort ≡ true). descriptor_harvested_mixed e t found s w k is (λ y there. ap (λ (z : Transfer). is_descriptor z.sort) (sym (same y there)) ∙ iso))
      (λ (queue : is_descriptor due.transfer.sort ≡ false). harvest_mixed e t found s w k is (λ y there. ap (λ (z : Transfer). is_descriptor z.sort) (sym (same y there)) ∙ queue))
      (cases_Bool (is_descriptor due.transfer.sort))

  own_store : (row : DriverRow) → (row ≡ rows.Frames → ⊥) → (row ≡ rows.LendDescriptors → ⊥) → IsFramesCommand w.driver.command → IsNextOf (driver_parts w) row → ⊥
  own_store row frames lends only next =
      ⊎_elim frames lends (no_own_event next.command w.driver.made row (subst IsFramesCommand next.unfinished only) next.next)

  by_row : (row : DriverRow) → driver_row (driver_parts w) ≡ row → IsDue (driver_parts w) row → IsFramesCommand w.driver.command → IsMixedNext s w (driver_next w)
  by_row rows.Lend is due only = absurd (own_store rows.Lend (λ same. cc) (λ same. cc) only due)
  by_row (rows.Store b at v) is due only =
      ⊎_elim (λ (next : IsNextOf (driver_parts w) (rows.Store b at v)). absurd (own_store (rows.Store b at v) (λ same. cc) (λ same. cc) only next))
      (λ (link : IsLinkOf (driver_parts w) (rows.Store b at v)). stored_mixed s w k (subst (IsLinkOf (driver_parts w)) (sym is) link) only) due
  by_row (rows.Mend m) is due only = mend_mixed m s w k is
  by_row rows.Frames is due only = frames_chosen_mixed s w k is
  by_row rows.LendDescriptors is due only = descriptors_lent_mixed s w k is
  by_row (rows.Unlink t) is due only = unlinked_mixed t s w k is
  by_row (rows.ReleaseRemoved what) is due only = removal what is due
  by_row (rows.ReleaseTransfer t) is due only = release_mixed t s w k is
  by_row (rows.ReleaseEndpoint e) is due only = endpoint_mixed e s w k is
  by_row rows.ClearAdvance is due only = clear_mixed s w k is
  by_row rows.RingBell is due only = doorbell_mixed s w k is
  by_row (rows.ReadStatus heard) is due only = status_read_mixed heard s w k is
  by_row (rows.ReadFrame n) is due only = frame_read_mixed n s w k is
  by_row (rows.Harvest e t found) is due only = harvest e t found is due
  by_row rows.Rest is due only = rest_mixed s w k is

  next_row : IsFramesCommand w.driver.command → IsMixedNext s w (driver_next w)
  next_row only = by_row (driver_row (driver_parts w)) refl (each_event_is_due (driver_parts w)) only

  by_command : (o : Option Command) → w.driver.command ≡ o → IsMixedNext s w (driver_next w)
  by_command (Some (unfinished.Open queue)) is = opening_mixed s w queue k is
  by_command (Some (unfinished.Publish b words)) is = publish_mixed s w b words k is
  by_command (Some (unfinished.Unlink e b link)) is = unlink_mixed s w e b link k is
  by_command (Some unfinished.Chain) is = chain_mixed s w k is
  by_command _ is = next_row (subst IsFramesCommand (sym is) tt)

pub driver_tells_step : DriverTellsStep
driver_tells_step s w k = by_command s w k w.driver.command refl

pub driver_keeps_mixed : DriverKeepsMixed
driver_keeps_mixed w k = mixed_world k.standing w (driver_next w) (driver_tells_step k.standing w k.mixed)
