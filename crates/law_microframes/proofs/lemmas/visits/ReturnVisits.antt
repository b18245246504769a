-- The visits go on where the driver gives back what has passed: the runs of what may be met stay, with their words.
use Rattle.std.proofs.Common.{◌≡◌, ℕ, ◌/◌, true, false, inl, inr, List, slice_get, set, map, Option, Some, None, ⊎_elim, ap, refl, sym, subst, ◌∙◌}
use Rattle.law_frame_list.proofs.Common.{told_command}
use Rattle.law_descriptors.proofs.Common.{let_go}
use Rattle.law_driver.proofs.Common.{ring_queue}
use Rattle.law_common.proofs.Booleans.{either_if}
use Rattle.law_driver.proofs.lemmas.run_owners.Released.{AreUntouched, cancel_same}
use Rattle.word_mem.specs.Memory.{Mem, IsShaped, word_at}
use Rattle.link_words.specs.Links.{link_read}
use Rattle.mem_runs.specs.Book.{Holding, holding, slot_of, IsAt, Stands}
use Rattle.drv_periodic_table.specs.declared.content.Removed.{Removed}
use Rattle.drv_periodic_table.specs.declared.content.Removed.TheVariants as removed
use Rattle.drv_table.specs.declared.content.Command.TheVariants as unfinished
use Rattle.drv_table.specs.declared.content.Endpoint.{Endpoint}
use Rattle.drv_table.specs.declared.content.Transfer.{Transfer}
use Rattle.drv_table.specs.declared.rows.DriverRow.{DriverRow}
use Rattle.drv_table.specs.declared.rows.DriverRow.TheVariants as rows
use Rattle.drv_table.specs.DriverContent.{DriverContent}
use Rattle.drv_table.specs.Parts.{Parts}
use Rattle.drv_table.specs.Kinds.{is_iso}
use Rattle.drv_table.specs.Releases.{let_go as let_go_of, freed_by, after_transfer, is_told, cancel_told, after_endpoint}
use Rattle.drv_table.specs.Removals.{after_descriptor, after_placed, after_removed}
use Rattle.drv_table.specs.Rows.{driver_row, after_driver_row}
use Rattle.law_driver.specs.run_owners.Due.{IsDue, IsEndpointDue}
use Rattle.claims_driver.specs.Leaving.{HasOwners}
use Rattle.law_driver.specs.listed_members.Members.{IsListed}
use Rattle.op_registers.specs.RegisterFile.{RegisterFile}
use Rattle.claims_driver.specs.Owners.{SlotHas}
use Rattle.claims_base.specs.Controller.{opening_base}
use Rattle.law_driver.proofs.lemmas.ring_members.Freed.{rest_qtds, rest_endpoint, rest_descriptor, rest_placed}
use Rattle.law_driver.proofs.lemmas.run_owners.Reasons.{each_event_is_due}
use Rattle.law_driver.proofs.lemmas.run_owners.Orders.{IsLeft}
use Rattle.law_driver.proofs.lemmas.run_owners.Leaves.{first_left}
use Rattle.drv_periodic_table.specs.Periodic.{PeriodicContent}
use Rattle.law_world.proofs.lemmas.memory.lemmas.framed_memory.LeavingRuns.{still_removed}
use Rattle.drv_members.specs.Members.{is_linked}
use Rattle.drv_chains.specs.Chains.{Schedule}
use Rattle.law_frames.specs.Met.{Kind}
use Rattle.claims_driver.specs.Unlinked.{led, led_in}
use Rattle.law_descriptors.specs.Removed.{IsRemovedSince, IsUnchainedNow}
use Rattle.law_descriptors.specs.Recent.{AreRecent}
use Rattle.law_descriptors.proofs.GivenRow.{row_gives_back_passed}
use Rattle.law_descriptors.proofs.GivenRecent.{endpoint_leaves_recent}
use Rattle.law_descriptors.proofs.RowStaying.{release_leaves_recent}
use Rattle.bus_world.specs.World.{World, driver_parts, controller_parts, with_parts, driver_next}
use Rattle.law_world.proofs.lemmas.memory.Driving.{driver_keeps_mixed}
use Rattle.law_world.proofs.lemmas.memory.lemmas.framed_memory.Now.{now_has_frames}
use Rattle.law_world.specs.memory.Mixed.{Standing, IsMixedAt, IsMixedWorld}
use Rattle.law_microframes.specs.visits.Ranks.{name_of}
use Rattle.law_microframes.specs.visits.Visited.{IsGoneOn, VisitsGoOnAt}
use Rattle.law_microframes.proofs.lemmas.visits.DriverGoesOn.{IsListSpread, IsMetStill, met_still, standing_is_met, left_is_met, stands_still}
use Rattle.law_microframes.proofs.lemmas.visits.LeftOwned.{HasName, has_name, slot_there}
use Rattle.law_microframes.proofs.lemmas.visits.OwnSteps.{same_list}
use Rattle.law_microframes.proofs.lemmas.visits.DriverVisits.{elsewhere, no_unfinished}

-- ---- what is given back

record IsRest (p new : Parts) : Type 0 where
  list : new.driver.periodic.list ≡ p.driver.periodic.list
  command : new.driver.command ≡ p.driver.command
  registers : new.registers ≡ p.registers
  words : (c at : ℕ) → SlotHas (slot_of new.driver.book.slots c) (at / 32) → word_at new.memory at ≡ word_at p.memory at
  placed : (b : ℕ) → IsAt b (slot_of new.driver.book.slots b)

none_rest : (p : Parts) → Stands (holding p.driver.book p.memory) → IsRest p p
none_rest p stands = record { list = refl; command = refl; registers = refl; words = λ c at has. refl; placed = stands.placed }

told_list : (d : DriverContent) (m : Mem) (e : ℕ) (x : Endpoint) → (cancel_told d m e x).periodic.list ≡ d.periodic.list
told_list d m e x = either_if (λ (f : DriverContent). f.periodic.list ≡ d.periodic.list) (is_told x) _ d (λ on. refl) (λ on. refl)

transfer_rest : (p : Parts) (t : ℕ) (o : Option Transfer) → Stands (holding p.driver.book p.memory) → IsShaped p.memory → IsRest p (after_transfer p t o (freed_by p.driver (holding p.driver.book p.memory) o))
transfer_rest p t None stands shape = none_rest p stands
transfer_rest p t (Some x) stands shape =
    let r = rest_qtds p.driver.notes (holding p.driver.book p.memory) x.first x.qtds stands shape in
    record { list = refl; command = refl; registers = refl; words = r.words; placed = r.stands.placed }

endpoint_rest : (p : Parts) (e : ℕ) (o : Option Endpoint) → Stands (holding p.driver.book p.memory) → IsShaped p.memory → IsRest p (after_endpoint p e o)
endpoint_rest p e None stands shape = none_rest p stands
endpoint_rest p e (Some x) stands shape =
    let r = rest_endpoint p.driver e x (holding p.driver.book p.memory) stands shape in
    record { list = told_list p.driver p.memory e x; command = told_command p.driver p.memory e x; registers = refl; words = r.words; placed = r.stands.placed }

descriptor_rest : (p : Parts) (t : ℕ) (o : Option Transfer) → Stands (holding p.driver.book p.memory) → IsShaped p.memory → IsRest p (after_descriptor p t o)
descriptor_rest p t None stands shape = none_rest p stands
descriptor_rest p t (Some x) stands shape =
    let r = rest_descriptor p.driver.periodic.notes (holding p.driver.book p.memory) x.first stands shape in
    record { list = refl; command = refl; registers = refl; words = r.words; placed = r.stands.placed }

placed_rest : (p : Parts) (e : ℕ) (o : Option Endpoint) → Stands (holding p.driver.book p.memory) → IsShaped p.memory → IsRest p (after_placed p e o)
placed_rest p e None stands shape = none_rest p stands
placed_rest p e (Some x) stands shape =
    let r = rest_placed p.driver e x (holding p.driver.book p.memory) stands shape in
    record { list = told_list p.driver p.memory e x; command = told_command p.driver p.memory e x; registers = refl; words = r.words; placed = r.stands.placed }

removed_rest : (p : Parts) (what : Removed) → Stands (holding p.driver.book p.memory) → IsShaped p.memory → IsRest p (after_removed p what)
removed_rest p (removed.Descriptor t) stands shape = descriptor_rest p t (slice_get p.driver.transfers t) stands shape
removed_rest p (removed.Endpoint e) stands shape = placed_rest p e (slice_get p.driver.endpoints e) stands shape

-- ---- what was unlinked

transfer_recent : (p : Parts) (left : ℕ → Option Kind) (index t : ℕ) (h : Holding) (o : Option Transfer) → slice_get p.driver.transfers t ≡ o → AreRecent p.driver index left
    → AreRecent (after_transfer p t o h).driver index left
transfer_recent p left index t h None there are = are
transfer_recent p left index t h (Some y) there are = λ n kind on.
    ⊎_elim (λ (s : IsRemovedSince p.driver.endpoints p.driver.transfers p.driver.periodic.removals index n).
    inl (record { place = s.place; removal = s.removal; here = s.here; what = let_go p.driver.endpoints p.driver.transfers n t y s.removal.what there s.what; within = s.within }))
    (λ (u : IsUnchainedNow p.driver.endpoints p.driver.transfers p.driver.command n).
    inr (record { endpoint = u.endpoint; command = u.command; what = let_go p.driver.endpoints p.driver.transfers n t y (removed.Endpoint u.endpoint) there u.what })) (are n kind on)

-- ---- the row

module _ (s : Standing) (w : World) (k : IsMixedAt s w) (start : World) (vs : List ℕ) (v : VisitsGoOnAt s start w vs) where
  abbrev next_by : DriverRow → World
  next_by row = with_parts w (after_driver_row row (driver_parts w))

  abbrev Owned : World → Type 0
  Owned x = HasOwners x.driver × (IsListed x.driver × IsListSpread x.driver)

  owned_next : Owned (driver_next w)
  owned_next =
      let m : IsMixedWorld (driver_next w) = driver_keeps_mixed w (record { standing = s; mixed = k }) in
      let n : Standing = m.standing in
      let sound = m.mixed.now.framed.place.sound in
      (sound.owners, (sound.listed, (now_has_frames opening_base n.member n.recent n.descs n.parts n.hand n.frame (controller_parts (driver_next w)) (driver_next w).driver m.mixed.now).spread))

  returned : (row : DriverRow) → driver_row (driver_parts w) ≡ row → IsRest (driver_parts w) (after_driver_row row (driver_parts w)) → ((e : ℕ) → w.driver.command ≡ Some (unfinished.Unchain e) → ⊥)
      → AreRecent (after_driver_row row (driver_parts w)).driver w.registers.frame_index v.visits.left → IsGoneOn start w (driver_next w) vs
  returned row is rest stays are =
      let d : DriverContent = w.driver in
      let new : DriverContent = (next_by row).driver in
      let after : Owned (next_by row) = subst (λ (r : DriverRow). Owned (next_by r)) is owned_next in
      let led_same : led new ≡ led d = ap led_in rest.list in
      elsewhere s w k start vs v row is (same_list d new rest.list)
      (λ n on.
      let there = v.left_within n on in
      let still : IsMetStill new v.visits.left n
      = met_still d new v.visits.left v.visits.left n there.0 there.1
      (λ kind stood. standing_is_met new v.visits.left n (stands_still d new n kind after.1.1 (λ x linked. ap (λ (t : Schedule). is_linked t x) led_same ∙ linked) stood))
      (λ kind gone. left_is_met new v.visits.left n kind gone) in
      let h : HasName new after.0.owner n
      = has_name new v.visits.left w.registers.frame_index after.0 after.1.0 (λ e unchain. stays e (sym rest.command ∙ unchain)) are n still.kind still.is in
      ap (λ (x : ℕ). name_of (link_read x)) (rest.words h.block n (slot_there new after.0.owner n rest.placed h)))
      (subst (λ (r : RegisterFile). AreRecent new r.frame_index v.visits.left) (sym rest.registers) are)

  pub transfer_visits : (t : ℕ) → driver_row (driver_parts w) ≡ rows.ReleaseTransfer t → IsGoneOn start w (driver_next w) vs
  transfer_visits t is =
      let due : IsDue (driver_parts w) (rows.ReleaseTransfer t) = subst (IsDue (driver_parts w)) is (each_event_is_due (driver_parts w)) in
      let sound = k.now.framed.place.sound in
      returned (rows.ReleaseTransfer t) is (transfer_rest (driver_parts w) t (slice_get w.driver.transfers t) sound.stands sound.shape) (no_unfinished w.driver.command due.idle)
      (transfer_recent (driver_parts w) v.visits.left w.registers.frame_index t _ (slice_get w.driver.transfers t) refl v.visits.left_are)

  removed_recent : (what : Removed) → driver_row (driver_parts w) ≡ rows.ReleaseRemoved what → AreRecent (after_removed (driver_parts w) what).driver w.registers.frame_index v.visits.left
  removed_recent (removed.Descriptor t) is = by (slice_get w.driver.transfers t) refl
    where
      by : (o : Option Transfer) → slice_get w.driver.transfers t ≡ o → AreRecent (after_removed (driver_parts w) (removed.Descriptor t)).driver w.registers.frame_index v.visits.left
      by None none = subst (λ (o : Option Transfer). AreRecent (after_descriptor (driver_parts w) t o).driver w.registers.frame_index v.visits.left) (sym none) v.visits.left_are
      by (Some y) there =
          release_leaves_recent (driver_parts w) v.visits.left w.registers.frame_index t y (row_gives_back_passed (driver_parts w) (removed.Descriptor t) is) there v.visits.left_are
  removed_recent (removed.Endpoint e) is = by (slice_get w.driver.endpoints e) refl
    where
      by : (o : Option Endpoint) → slice_get w.driver.endpoints e ≡ o → AreRecent (after_removed (driver_parts w) (removed.Endpoint e)).driver w.registers.frame_index v.visits.left
      by None none = subst (λ (o : Option Endpoint). AreRecent (after_placed (driver_parts w) e o).driver w.registers.frame_index v.visits.left) (sym none) v.visits.left_are
      by (Some x) here =
          endpoint_leaves_recent (driver_parts w) v.visits.left w.registers.frame_index e x k.now.framed.place.sound.owners (row_gives_back_passed (driver_parts w) (removed.Endpoint e) is) here v.visits.left_are

  pub removed_visits : (what : Removed) → driver_row (driver_parts w) ≡ rows.ReleaseRemoved what → IsGoneOn start w (driver_next w) vs
  removed_visits what is =
      let due : IsDue (driver_parts w) (rows.ReleaseRemoved what) =
      subst (IsDue (driver_parts w)) is (each_event_is_due (driver_parts w)) in
      let sound = k.now.framed.place.sound in
      returned (rows.ReleaseRemoved what) is (removed_rest (driver_parts w) what sound.stands sound.shape) (no_unfinished w.driver.command due.idle) (removed_recent what is)

  -- an endpoint of the ring
  endpoint_since : (e n : ℕ) (x : Endpoint) → slice_get w.driver.endpoints e ≡ Some x → is_iso x.desc.kind ≡ false → IsRemovedSince w.driver.endpoints w.driver.transfers w.driver.periodic.removals w.registers.frame_index n
      → IsRemovedSince (after_endpoint (driver_parts w) e (Some x)).driver.endpoints (after_endpoint (driver_parts w) e (Some x)).driver.transfers
      (after_endpoint (driver_parts w) e (Some x)).driver.periodic.removals w.registers.frame_index n
  endpoint_since e n x here queued r =
      let d : DriverContent = w.driver in
      let f : DriverContent = (after_endpoint (driver_parts w) e (Some x)).driver in
      let same : AreUntouched d (cancel_told d w.memory e x) = cancel_same d w.memory e x in
      let ends : f.endpoints ≡ set d.endpoints e (record x { gone = true }) = ap (λ (xs : List Endpoint). set xs e (record x { gone = true })) same.endpoints in
      let ts : f.transfers ≡ map (let_go_of e (is_told x)) d.transfers = ap (map (let_go_of e (is_told x))) same.transfers in
      subst (λ (q : PeriodicContent). IsRemovedSince f.endpoints f.transfers q.removals w.registers.frame_index n) (sym same.periodic)
      (subst (λ (us : List Transfer). IsRemovedSince f.endpoints us d.periodic.removals w.registers.frame_index n) (sym ts)
      (subst (λ (xs : List Endpoint). IsRemovedSince xs (map (let_go_of e (is_told x)) d.transfers) d.periodic.removals w.registers.frame_index n) (sym ends)
      (record {
        place = r.place;
        removal = r.removal;
        here = r.here;
        what = still_removed d.endpoints d.transfers e x (is_told x) here queued n r.removal.what r.what;
        within = r.within;
      })))

  pub endpoint_visits : (e : ℕ) → driver_row (driver_parts w) ≡ rows.ReleaseEndpoint e → IsGoneOn start w (driver_next w) vs
  endpoint_visits e is =
      let due : IsEndpointDue (driver_parts w) e = subst (IsDue (driver_parts w)) is (each_event_is_due (driver_parts w)) in
      let sound = k.now.framed.place.sound in
      let gone : IsLeft w.driver.endpoints e = first_left e due.first sound.owners.orderly in
      let queued : is_iso gone.endpoint.desc.kind ≡ false = ring_queue gone.endpoint.desc.kind gone.ring in
      let stays : (f : ℕ) → w.driver.command ≡ Some (unfinished.Unchain f) → ⊥ = no_unfinished w.driver.command due.idle in
      returned (rows.ReleaseEndpoint e) is (endpoint_rest (driver_parts w) e (slice_get w.driver.endpoints e) sound.stands sound.shape) stays
      (subst (λ (o : Option Endpoint). AreRecent (after_endpoint (driver_parts w) e o).driver w.registers.frame_index v.visits.left) (sym gone.here)
      (λ n kind on.
      ⊎_elim (λ (r : IsRemovedSince w.driver.endpoints w.driver.transfers w.driver.periodic.removals w.registers.frame_index n). inl (endpoint_since e n gone.endpoint gone.here queued r))
      (λ (u : IsUnchainedNow w.driver.endpoints w.driver.transfers w.driver.command n). absurd (stays u.endpoint u.command)) (v.visits.left_are n kind on)))
