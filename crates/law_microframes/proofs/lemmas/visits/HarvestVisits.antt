-- The visits go on where a token or a descriptor is harvested: memory is read, and whatever was unlinked in this microframe is what it was, since the endpoint that is harvested
-- hasn't ended.
use Rattle.std.proofs.Common.{◌≡◌, ◌≢◌, ℕ, zero, suc, ◌-◌, ◌*◌, Bool, true, false, cond, inl, List, [], ◌∷◌, ◌++◌, length, set, Option, Some, None, option_map, ⊎_elim, ap, refl, sym, subst, ◌∙◌}
use Rattle.std.specs.Prelude.{slice_get}
use Rattle.std.proofs.lemmas.Option.{same_Some}
use Rattle.law_common.proofs.Lists.{set_there}
use Rattle.usb_base.specs.declared.endpoints.EpName.{EpName}
use Rattle.usb_base.specs.declared.endpoints.EndCause.{EndCause}
use Rattle.usb_base.specs.declared.endpoints.EndCause.TheVariants as causes
use Rattle.usb_base.specs.declared.reports.What.TheVariants as lines
use Rattle.word_mem.specs.Memory.{Mem}
use Rattle.drv_periodic_table.specs.Periodic.{PeriodicContent}
use Rattle.drv_periodic_table.specs.declared.content.Removal.{Removal}
use Rattle.drv_periodic_table.specs.declared.content.Removed.{Removed}
use Rattle.drv_periodic_table.specs.declared.content.Removed.TheVariants as removed
use Rattle.drv_table.specs.declared.content.Endpoint.{Endpoint}
use Rattle.drv_table.specs.declared.content.Transfer.{Transfer}
use Rattle.drv_table.specs.declared.rows.DriverRow.TheVariants as rows
use Rattle.drv_table.specs.declared.rows.Found.{Found}
use Rattle.drv_table.specs.declared.rows.Found.TheVariants as founds
use Rattle.drv_table.specs.DriverContent.{DriverContent, waits_for, next_after}
use Rattle.drv_table.specs.Harvests.{note_at, noted, is_stall, end_of, reported}
use Rattle.drv_table.specs.Harvesting.{served, told_with, mends_of, behind_one, behind, after_end, harvested_as, after_harvest}
use Rattle.drv_table.specs.Rows.{driver_row, after_driver_row}
use Rattle.claims_driver.specs.Owners.{TransferRuns, runs_of_transfer, transfer_in}
use Rattle.law_driver.specs.run_owners.Due.{IsDue, IsHarvestDue}
use Rattle.law_driver.proofs.lemmas.run_owners.Reasons.{each_event_is_due}
use Rattle.law_driver.proofs.lemmas.run_owners.Harvest.{waits_is}
use Rattle.law_driver.proofs.lemmas.run_owners.Stays.{harvest_stays}
use Rattle.law_frames.specs.Met.{Kind}
use Rattle.law_descriptors.proofs.Returning.{none_some}
use Rattle.law_world.proofs.lemmas.memory.lemmas.framed_memory.Ended.{owners_tell_leaving}
use Rattle.law_descriptors.specs.Removed.{IsRemovedAt, a_descriptor, a_queue, a_waiting, IsRemovedSince, IsUnchainedNow}
use Rattle.law_descriptors.specs.Recent.{AreRecent}
use Rattle.bus_world.specs.World.{World, driver_parts, driver_next}
use Rattle.law_world.specs.memory.Mixed.{Standing, IsMixedAt}
use Rattle.law_microframes.specs.visits.Visited.{IsGoneOn, VisitsGoOnAt}
use Rattle.law_microframes.proofs.lemmas.visits.OwnSteps.{same_list}
use Rattle.law_microframes.proofs.lemmas.visits.DriverVisits.{elsewhere}

-- ---- the transfers of other endpoints

abbrev LeavesOthers : ℕ → List Transfer → List Transfer → Type 0
LeavesOthers e ts us = (t : ℕ) (y : Transfer) → slice_get ts t ≡ Some y → y.endpoint ≢ e → slice_get us t ≡ Some y

set_others : (e t : ℕ) (ts : List Transfer) (y z : Transfer) → slice_get ts t ≡ Some y → y.endpoint ≡ e → LeavesOthers e ts (set ts t z)
set_others e t ts y z there its u v at other =
    set_there ts t u z (λ same. other (ap (λ (w : Transfer). w.endpoint) (same_Some v y (sym at ∙ ap (slice_get ts) same ∙ there)) ∙ its)) ∙ at

-- ---- what a harvest leaves

-- but for the endpoint that is harvested and its transfers, and for what is to be unlinked
record HarvestLeaves (e : ℕ) (d f : DriverContent) : Type 0 where
  transfers : LeavesOthers e d.transfers f.transfers
  endpoints : (i : ℕ) → i ≢ e → slice_get f.endpoints i ≡ slice_get d.endpoints i
  unlinks : List ℕ
  periodic : f.periodic ≡ record d.periodic { unlinks = unlinks }

leaves_all : (e : ℕ) (d : DriverContent) → HarvestLeaves e d d
leaves_all e d = record { transfers = λ t y at other. at; endpoints = λ i other. refl; unlinks = d.periodic.unlinks; periodic = refl }

leaves_both : (e : ℕ) (d f g : DriverContent) → HarvestLeaves e d f → HarvestLeaves e f g → HarvestLeaves e d g
leaves_both e d f g one two = record {
  transfers = λ t y at other. two.transfers t y (one.transfers t y at other) other;
  endpoints = λ i other. two.endpoints i other ∙ one.endpoints i other;
  unlinks = two.unlinks;
  periodic = two.periodic ∙ ap (λ (q : PeriodicContent). record q { unlinks = two.unlinks }) one.periodic;
}

one_leaves : (d : DriverContent) (e : ℕ) (name : EpName) (k : ℕ) (o : Option Transfer) → slice_get d.transfers k ≡ o → HarvestLeaves e d (behind_one d e name k o)
one_leaves d e name k None there = leaves_all e d
one_leaves d e name k (Some y) there = by (waits_for e y) refl
  where
    by : (b : Bool) → waits_for e y ≡ b
        → HarvestLeaves e d (cond b (record (reported d (lines.Halt causes.Stall) name []) { transfers = set d.transfers k (record y { reported = true }); harvested = d.harvested ++ k ∷ [] }) d)
    by true waits = record {
      transfers = set_others e k d.transfers y (record y { reported = true }) there (waits_is e y waits).endpoint;
      endpoints = λ i other. refl;
      unlinks = d.periodic.unlinks;
      periodic = refl;
    }
    by false waits = leaves_all e d

behind_leaves : (d : DriverContent) (e : ℕ) (name : EpName) (k n : ℕ) → HarvestLeaves e d (behind d e name k n)
unfolding behind
behind_leaves d e name k zero = leaves_all e d
behind_leaves d e name k (suc n) =
    let f = behind_one d e name k (slice_get d.transfers k) in
    leaves_both e d f (behind f e name (suc k) n) (one_leaves d e name k (slice_get d.transfers k) refl) (behind_leaves f e name (suc k) n)

-- the endpoint has the next transfer, or none, or has ended
endpoint_leaves : (d f : DriverContent) (e : ℕ) (x : Endpoint) → f.endpoints ≡ set d.endpoints e x → f.transfers ≡ d.transfers → f.periodic ≡ d.periodic → HarvestLeaves e d f
endpoint_leaves d f e x ends ts same = record {
  transfers = λ t y at other. ap (λ (us : List Transfer). slice_get us t) ts ∙ at;
  endpoints = λ i other. ap (λ (xs : List Endpoint). slice_get xs i) ends ∙ set_there d.endpoints e i x other;
  unlinks = d.periodic.unlinks;
  periodic = same;
}

end_leaves : (d : DriverContent) (e t : ℕ) (x : Endpoint) (stall : Bool) (o : Option EndCause) → HarvestLeaves e d (after_end d e t x stall o)
end_leaves d e t x stall (Some cause) = endpoint_leaves d _ e (record x { ended = Some cause }) refl refl refl
end_leaves d e t x false None = endpoint_leaves d _ e (record x { next = next_after d.transfers e t }) refl refl refl
end_leaves d e t x true None =
    let now = record d { harvested = d.harvested ++ t ∷ []; endpoints = set d.endpoints e (record x { next = None }); mends = d.mends ++ mends_of x } in
    leaves_both e d now (behind now e x.desc.name (suc t) (length d.transfers - suc t)) (endpoint_leaves d now e (record x { next = None }) refl refl refl)
    (behind_leaves now e x.desc.name (suc t) (length d.transfers - suc t))

-- so it is with one transfer of the endpoint
transfer_leaves : (d f : DriverContent) (e t : ℕ) (y z : Transfer) → slice_get d.transfers t ≡ Some y → y.endpoint ≡ e → f.transfers ≡ set d.transfers t z → f.endpoints ≡ d.endpoints
    → f.periodic ≡ d.periodic → HarvestLeaves e d f
transfer_leaves d f e t y z there its ts ends same = record {
  transfers = subst (LeavesOthers e d.transfers) (sym ts) (set_others e t d.transfers y z there its);
  endpoints = λ i other. ap (λ (xs : List Endpoint). slice_get xs i) ends;
  unlinks = d.periodic.unlinks;
  periodic = same;
}

read_leaves : (d : DriverContent) (m : Mem) (e t : ℕ) (x : Endpoint) (y : Transfer) (found : Found) → slice_get d.transfers t ≡ Some y → y.endpoint ≡ e → HarvestLeaves e d (harvested_as d m e t x y found)
read_leaves d m e t x y founds.Active there its = leaves_all e d
read_leaves d m e t x y (founds.Moved n) there its = transfer_leaves d _ e t y (record y { place = (note_at d.notes y.place).next; left = y.left - 1 }) there its refl refl refl
read_leaves d m e t x y (founds.Served errors) there its = record {
  transfers = set_others e t d.transfers y (record y { reported = true }) there its;
  endpoints = λ i other. set_there d.endpoints e i (record x { next = next_after d.transfers e t }) other;
  unlinks = d.periodic.unlinks ++ t ∷ [];
  periodic = refl;
}
read_leaves d m e t x y (founds.Ended n what) there its =
    let told = told_with d m t y what x.desc.name (noted d.notes y.place n) in
    leaves_both e d told (after_end told e t x (is_stall what) (end_of x.desc.kind what)) (transfer_leaves d told e t y (record y { reported = true }) there its refl refl refl)
    (end_leaves told e t x (is_stall what) (end_of x.desc.kind what))

harvest_leaves : (d : DriverContent) (m : Mem) (e t : ℕ) (found : Found) (o : Option Endpoint) (q : Option Transfer) → slice_get d.transfers t ≡ q → HarvestLeaves e d (after_harvest d m e t found o q)
harvest_leaves d m e t found None q there = leaves_all e d
harvest_leaves d m e t found (Some x) None there = leaves_all e d
harvest_leaves d m e t found (Some x) (Some y) there = by (waits_for e y) refl
  where
    by : (b : Bool) → waits_for e y ≡ b → HarvestLeaves e d (cond b (served (harvested_as d m e t x y found) e) d)
    by true waits =
        let r : HarvestLeaves e d (harvested_as d m e t x y found) = read_leaves d m e t x y found there (waits_is e y waits).endpoint in
        record { transfers = r.transfers; endpoints = r.endpoints; unlinks = r.unlinks; periodic = r.periodic }
    by false waits = leaves_all e d

-- ---- what was unlinked

record IsSameDescriptor (ts : List Transfer) (t : ℕ) (y : Transfer) : Type 0 where
  transfer : Transfer
  there : slice_get ts t ≡ Some transfer
  first : transfer.first ≡ y.first

same_descriptor : (ts : List Transfer) (t : ℕ) (y : Transfer) (o : Option Transfer) → slice_get ts t ≡ o → option_map runs_of_transfer o ≡ Some (runs_of_transfer y) → IsSameDescriptor ts t y
same_descriptor ts t y None there is = absurd (none_some (runs_of_transfer y) is)
same_descriptor ts t y (Some z) there is =
    record { transfer = z; there = there; first = ap (λ (r : TransferRuns). r.first) (same_Some (runs_of_transfer z) (runs_of_transfer y) is) }

-- it isn't of the endpoint that is harvested
still_removed : (d f : DriverContent) (e n : ℕ) (w : Removed) → HarvestLeaves e d f → ((t : ℕ) → transfer_in f.transfers t ≡ transfer_in d.transfers t) → (w ≡ removed.Endpoint e → ⊥)
    → IsRemovedAt d.endpoints d.transfers n w → IsRemovedAt f.endpoints f.transfers n w
still_removed d f e n _ leaves views other (a_descriptor t y at is) =
    let s : IsSameDescriptor f.transfers t y = same_descriptor f.transfers t y (slice_get f.transfers t) refl (views t ∙ ap (option_map runs_of_transfer) at) in
    a_descriptor t s.transfer s.there (is ∙ ap (λ (b : ℕ). 32 * b) (sym s.first))
still_removed d f e n _ leaves views other (a_queue i z at queued is) = a_queue i z (leaves.endpoints i (λ same. other (ap removed.Endpoint same)) ∙ at) queued is
still_removed d f e n _ leaves views other (a_waiting i t z y at iso in_list sort waits is) =
    let differs : i ≢ e = λ same. other (ap removed.Endpoint same) in
    a_waiting i t z y (leaves.endpoints i differs ∙ at) iso (leaves.transfers t y in_list (λ same. differs (sym (waits_is i y waits).endpoint ∙ same))) sort waits is

harvest_recent : (d f : DriverContent) (e index : ℕ) (recent : ℕ → Option Kind) → HarvestLeaves e d f → ((t : ℕ) → transfer_in f.transfers t ≡ transfer_in d.transfers t)
    → ((i : ℕ) (r : Removal) → slice_get d.periodic.removals i ≡ Some r → r.what ≡ removed.Endpoint e → ⊥) → d.command ≡ None → AreRecent d index recent → AreRecent f index recent
harvest_recent d f e index recent leaves views other idle are n kind on =
    ⊎_elim (λ (s : IsRemovedSince d.endpoints d.transfers d.periodic.removals index n).
    inl (record {
      place = s.place;
      removal = s.removal;
      here = ap (λ (q : PeriodicContent). slice_get q.removals s.place) leaves.periodic ∙ s.here;
      what = still_removed d f e n s.removal.what leaves views (other s.place s.removal s.here) s.what;
      within = s.within;
    }))
    (λ (now : IsUnchainedNow d.endpoints d.transfers d.command n). absurd (none_some _ (sym idle ∙ now.command))) (are n kind on)

-- ---- the row

module _ (s : Standing) (w : World) (k : IsMixedAt s w) (start : World) (vs : List ℕ) (v : VisitsGoOnAt s start w vs) where
  pub harvest_visits : (e t : ℕ) (found : Found) → driver_row (driver_parts w) ≡ rows.Harvest e t found → IsGoneOn start w (driver_next w) vs
  harvest_visits e t found is =
      let d : DriverContent = w.driver in
      let due : IsHarvestDue (driver_parts w) e t found = subst (IsDue (driver_parts w)) is (each_event_is_due (driver_parts w)) in
      let f : DriverContent = (after_driver_row (rows.Harvest e t found) (driver_parts w)).driver in
      let l : HarvestLeaves e d f = harvest_leaves d w.memory e t found (slice_get d.endpoints e) (slice_get d.transfers t) refl in
      elsewhere s w k start vs v (rows.Harvest e t found) is (same_list d f (ap (λ (q : PeriodicContent). q.list) l.periodic)) (λ n on. refl)
      (harvest_recent d f e w.registers.frame_index v.visits.left l
      (harvest_stays d w.memory e t found (slice_get d.endpoints e) (slice_get d.transfers t) refl refl).same.transfers
      (λ i r here what. (owners_tell_leaving d k.now.framed.place.sound.owners).removed_ended i e r due.endpoint here what due.here due.goes_on) due.idle v.visits.left_are)
