-- What the rows of the ring stand on, in a world with endpoints of every kind: an event of a queue is the same one as the queues tell it, and its inventory is theirs.
use Rattle.std.proofs.Common.{◌≡◌, ◌≢◌, ℕ, Bool, true, false, not, if◌then◌else◌, slice_get, Option, Some, None, option_map, ap, refl, sym, subst, ◌∙◌, arith}
use Rattle.std.proofs.lemmas.Option.{same_Some, slice_get-map}
use Rattle.law_queues.proofs.Common2.{one_among}
use Rattle.law_world.proofs.Common2.{queued_owner}
use Rattle.drv_periodic_table.specs.Periodic.{is_periodic}
use Rattle.drv_table.specs.declared.content.Endpoint.{Endpoint}
use Rattle.drv_table.specs.declared.content.Transfer.{Transfer}
use Rattle.drv_table.specs.declared.rows.DriverRow.{DriverRow}
use Rattle.drv_table.specs.DriverContent.{DriverContent}
use Rattle.drv_table.specs.Parts.{Parts}
use Rattle.drv_table.specs.Rows.{driver_row, after_driver_row}
use Rattle.claims_driver.specs.Owners.{TransferRuns, runs_of_transfer, views_of}
use Rattle.law_driver.specs.run_owners.Due.{IsDue}
use Rattle.claims_driver.specs.Leaving.{HasOwners}
use Rattle.law_driver.proofs.lemmas.run_owners.Reasons.{each_event_is_due}
use Rattle.law_driver.specs.endpoint_lives.Lives.{may_meet}
use Rattle.law_driver.proofs.lemmas.endpoint_lives.Lives.{IsNear, in_ring, has_left, is_rung, met_where}
use Rattle.law_driver.proofs.lemmas.ring_members.Placed.{left_ring, linked_alive}
use Rattle.law_driver.specs.queued_drivers.Queued.{with_queue, queued_transfer, queued, queued_parts}
use Rattle.law_driver.specs.queued_drivers.Rows.{IsOfQueues, IsToldAlike}
use Rattle.law_driver.proofs.lemmas.queued_drivers.RowEvents.{row_told}
use Rattle.bus_world.specs.World.{World, driver_parts, driver_next}
use Rattle.law_world.specs.memory.Mixed.{Standing, IsMixedAt}
use Rattle.law_world.specs.memory.Steps.{IsToldRow}

-- ---- endpoints

-- one that is in the ring is told so
pub linked_still : (x : Endpoint) → is_periodic x.desc.kind ≡ false → (with_queue x).linked ≡ x.linked
linked_still x ring = ap (λ (b : Bool). if b then not x.gone else x.linked) ring

-- .. and isn't one of frames
pub near_ring : (d : DriverContent) (e : ℕ) (x : Endpoint) → HasOwners d → slice_get d.endpoints e ≡ Some x → may_meet d e x ≡ true → (is_periodic x.desc.kind ≡ false) × (x.gone ≡ false)
near_ring d e x owners here near = by (met_where d e x near)
  where
    by : IsNear d e x → (is_periodic x.desc.kind ≡ false) × (x.gone ≡ false)
    by (in_ring on) = linked_alive d e x owners.orderly here on
    by (has_left on) = left_ring d e x d.waiting owners.orderly (omega arith) (one_among e d.waiting on) here
    by (is_rung on) = left_ring d e x d.rung owners.orderly (omega arith) (one_among e d.rung on) here

-- ---- transfers

module _ (d : DriverContent) where
  -- no transfer is one of this endpoint, as the queues tell it
  pub none_of_end : (e : ℕ) → ((t : ℕ) (y : Transfer) → slice_get d.transfers t ≡ Some y → y.endpoint ≢ e) → (t : ℕ) (y : Transfer) → slice_get (queued d).transfers t ≡ Some y → y.endpoint ≢ e
  none_of_end e none t y there = by (slice_get d.transfers t) refl (sym (slice_get-map (queued_transfer d.endpoints) d.transfers t) ∙ there)
    where
      by : (o : Option Transfer) → slice_get d.transfers t ≡ o → option_map (queued_transfer d.endpoints) o ≡ Some y → y.endpoint ≢ e
      by None at is = absurd (cc)
      by (Some z) at is = λ same. none t z at (sym (queued_owner d.endpoints z) ∙ ap (λ (u : Transfer). u.endpoint) (same_Some (queued_transfer d.endpoints z) y is) ∙ same)

  pub none_in_end : (e : ℕ) → ((t : ℕ) (y : TransferRuns) → (views_of d).transfer t ≡ Some y → y.endpoint ≢ e) → (t : ℕ) (y : TransferRuns) → (views_of (queued d)).transfer t ≡ Some y → y.endpoint ≢ e
  none_in_end e none t y there = by (slice_get d.transfers t) refl (sym (ap (option_map runs_of_transfer) (slice_get-map (queued_transfer d.endpoints) d.transfers t)) ∙ there)
    where
      by : (o : Option Transfer) → slice_get d.transfers t ≡ o → option_map runs_of_transfer (option_map (queued_transfer d.endpoints) o) ≡ Some y → y.endpoint ≢ e
      by None at is = absurd (cc)
      by (Some z) at is = λ same.
          none t (runs_of_transfer z) (ap (option_map runs_of_transfer) at)
          (sym (queued_owner d.endpoints z) ∙ ap (λ (u : TransferRuns). u.endpoint)
          (same_Some (runs_of_transfer (queued_transfer d.endpoints z)) y is) ∙ same)

-- ---- the next event

module _ (s : Standing) (w : World) (k : IsMixedAt s w) where
  abbrev p : Parts
  p = driver_parts w

  abbrev owners : HasOwners w.driver
  owners = k.now.framed.place.sound.owners

  pub due_is : (row : DriverRow) → driver_row (driver_parts w) ≡ row → IsDue (driver_parts w) row
  due_is row is = subst (IsDue p) is (each_event_is_due p)

  pub row_alike : (row : DriverRow) → driver_row (driver_parts w) ≡ row → IsOfQueues (driver_parts w) row → IsToldAlike (driver_parts w) row
  row_alike row is of = row_told row p owners k.turns (due_is row is) of

  pub queued_next : (row : DriverRow) → driver_row (driver_parts w) ≡ row → IsOfQueues (driver_parts w) row → (after_driver_row row (queued_parts (driver_parts w))).driver ≡ queued (driver_next w).driver
  queued_next row is of = sym (ap (λ (q : Parts). q.driver) (row_alike row is of).same) ∙ ap (λ (r : DriverRow). queued (after_driver_row r p).driver) (sym is)

  pub told_row : (row : DriverRow) → driver_row (driver_parts w) ≡ row → IsOfQueues (driver_parts w) row → IsToldRow w (driver_next w) row
  told_row row is of = record { next = is; told = sym (queued_next row is of) }
