-- Each field that a row doesn't change, as an equation: for tactics, and for laws over any row whose footprint misses the field.
-- Written by docs/footprints.py.
use Rattle.std.proofs.Common.{◌≡◌, Bool, false, cond, Option, ap, ◌∙◌}
use Rattle.drv_table.specs.declared.content.Command.{Command}
use Rattle.drv_table.specs.declared.rows.DriverRow.{DriverRow}
use Rattle.drv_table.specs.Parts.{Parts}
use Rattle.drv_table.specs.Rows.{after_driver_row}
use Rattle.law_footprints.specs.Footprint.{footprint}
use Rattle.law_footprints.proofs.Frame.{frame}

module _ (row : DriverRow) (p : Parts) (o : Option Command) (is : p.driver.command ≡ o) where
  picked : {X : Type 0} (b : Bool) (new old : X) → b ≡ false → cond b new old ≡ old
  picked b new old e = ap (λ (c : Bool). cond c new old) e

  pub book_stays : (footprint row o).book ≡ false
      → (after_driver_row row p).driver.book ≡ p.driver.book
  book_stays misses =
      ap (λ (q : Parts). q.driver.book) (frame row p o is)
      ∙ picked (footprint row o).book (after_driver_row row p).driver.book p.driver.book misses

  pub endpoints_stays : (footprint row o).endpoints ≡ false
      → (after_driver_row row p).driver.endpoints ≡ p.driver.endpoints
  endpoints_stays misses =
      ap (λ (q : Parts). q.driver.endpoints) (frame row p o is)
      ∙ picked (footprint row o).endpoints (after_driver_row row p).driver.endpoints p.driver.endpoints misses

  pub transfers_stays : (footprint row o).transfers ≡ false
      → (after_driver_row row p).driver.transfers ≡ p.driver.transfers
  transfers_stays misses =
      ap (λ (q : Parts). q.driver.transfers) (frame row p o is)
      ∙ picked (footprint row o).transfers (after_driver_row row p).driver.transfers p.driver.transfers misses

  pub notes_stays : (footprint row o).notes ≡ false
      → (after_driver_row row p).driver.notes ≡ p.driver.notes
  notes_stays misses =
      ap (λ (q : Parts). q.driver.notes) (frame row p o is)
      ∙ picked (footprint row o).notes (after_driver_row row p).driver.notes p.driver.notes misses

  pub command_stays : (footprint row o).command ≡ false
      → (after_driver_row row p).driver.command ≡ p.driver.command
  command_stays misses =
      ap (λ (q : Parts). q.driver.command) (frame row p o is)
      ∙ picked (footprint row o).command (after_driver_row row p).driver.command p.driver.command misses

  pub made_stays : (footprint row o).made ≡ false
      → (after_driver_row row p).driver.made ≡ p.driver.made
  made_stays misses =
      ap (λ (q : Parts). q.driver.made) (frame row p o is)
      ∙ picked (footprint row o).made (after_driver_row row p).driver.made p.driver.made misses

  pub turn_stays : (footprint row o).turn ≡ false
      → (after_driver_row row p).driver.turn ≡ p.driver.turn
  turn_stays misses =
      ap (λ (q : Parts). q.driver.turn) (frame row p o is)
      ∙ picked (footprint row o).turn (after_driver_row row p).driver.turn p.driver.turn misses

  pub place_stays : (footprint row o).place ≡ false
      → (after_driver_row row p).driver.place ≡ p.driver.place
  place_stays misses =
      ap (λ (q : Parts). q.driver.place) (frame row p o is)
      ∙ picked (footprint row o).place (after_driver_row row p).driver.place p.driver.place misses

  pub mends_stays : (footprint row o).mends ≡ false
      → (after_driver_row row p).driver.mends ≡ p.driver.mends
  mends_stays misses =
      ap (λ (q : Parts). q.driver.mends) (frame row p o is)
      ∙ picked (footprint row o).mends (after_driver_row row p).driver.mends p.driver.mends misses

  pub harvested_stays : (footprint row o).harvested ≡ false
      → (after_driver_row row p).driver.harvested ≡ p.driver.harvested
  harvested_stays misses =
      ap (λ (q : Parts). q.driver.harvested) (frame row p o is)
      ∙ picked (footprint row o).harvested (after_driver_row row p).driver.harvested p.driver.harvested misses

  pub waiting_stays : (footprint row o).waiting ≡ false
      → (after_driver_row row p).driver.waiting ≡ p.driver.waiting
  waiting_stays misses =
      ap (λ (q : Parts). q.driver.waiting) (frame row p o is)
      ∙ picked (footprint row o).waiting (after_driver_row row p).driver.waiting p.driver.waiting misses

  pub rung_stays : (footprint row o).rung ≡ false
      → (after_driver_row row p).driver.rung ≡ p.driver.rung
  rung_stays misses =
      ap (λ (q : Parts). q.driver.rung) (frame row p o is)
      ∙ picked (footprint row o).rung (after_driver_row row p).driver.rung p.driver.rung misses

  pub cleared_stays : (footprint row o).cleared ≡ false
      → (after_driver_row row p).driver.cleared ≡ p.driver.cleared
  cleared_stays misses =
      ap (λ (q : Parts). q.driver.cleared) (frame row p o is)
      ∙ picked (footprint row o).cleared (after_driver_row row p).driver.cleared p.driver.cleared misses

  pub bell_stays : (footprint row o).bell ≡ false
      → (after_driver_row row p).driver.bell ≡ p.driver.bell
  bell_stays misses =
      ap (λ (q : Parts). q.driver.bell) (frame row p o is)
      ∙ picked (footprint row o).bell (after_driver_row row p).driver.bell p.driver.bell misses

  pub reports_stays : (footprint row o).reports ≡ false
      → (after_driver_row row p).driver.reports ≡ p.driver.reports
  reports_stays misses =
      ap (λ (q : Parts). q.driver.reports) (frame row p o is)
      ∙ picked (footprint row o).reports (after_driver_row row p).driver.reports p.driver.reports misses

  pub store_stays : (footprint row o).store ≡ false
      → (after_driver_row row p).driver.store ≡ p.driver.store
  store_stays misses =
      ap (λ (q : Parts). q.driver.store) (frame row p o is)
      ∙ picked (footprint row o).store (after_driver_row row p).driver.store p.driver.store misses

  pub room_stays : (footprint row o).room ≡ false
      → (after_driver_row row p).driver.room ≡ p.driver.room
  room_stays misses =
      ap (λ (q : Parts). q.driver.room) (frame row p o is)
      ∙ picked (footprint row o).room (after_driver_row row p).driver.room p.driver.room misses

  pub plan_stays : (footprint row o).plan ≡ false
      → (after_driver_row row p).driver.periodic.plan ≡ p.driver.periodic.plan
  plan_stays misses =
      ap (λ (q : Parts). q.driver.periodic.plan) (frame row p o is)
      ∙ picked (footprint row o).plan (after_driver_row row p).driver.periodic.plan p.driver.periodic.plan misses

  pub list_stays : (footprint row o).list ≡ false
      → (after_driver_row row p).driver.periodic.list ≡ p.driver.periodic.list
  list_stays misses =
      ap (λ (q : Parts). q.driver.periodic.list) (frame row p o is)
      ∙ picked (footprint row o).list (after_driver_row row p).driver.periodic.list p.driver.periodic.list misses

  pub queued_stays : (footprint row o).queued ≡ false
      → (after_driver_row row p).driver.periodic.queued ≡ p.driver.periodic.queued
  queued_stays misses =
      ap (λ (q : Parts). q.driver.periodic.queued) (frame row p o is)
      ∙ picked (footprint row o).queued (after_driver_row row p).driver.periodic.queued p.driver.periodic.queued misses

  pub descriptors_stays : (footprint row o).descriptors ≡ false
      → (after_driver_row row p).driver.periodic.notes ≡ p.driver.periodic.notes
  descriptors_stays misses =
      ap (λ (q : Parts). q.driver.periodic.notes) (frame row p o is)
      ∙ picked (footprint row o).descriptors (after_driver_row row p).driver.periodic.notes p.driver.periodic.notes misses

  pub unlinks_stays : (footprint row o).unlinks ≡ false
      → (after_driver_row row p).driver.periodic.unlinks ≡ p.driver.periodic.unlinks
  unlinks_stays misses =
      ap (λ (q : Parts). q.driver.periodic.unlinks) (frame row p o is)
      ∙ picked (footprint row o).unlinks (after_driver_row row p).driver.periodic.unlinks p.driver.periodic.unlinks misses

  pub removals_stays : (footprint row o).removals ≡ false
      → (after_driver_row row p).driver.periodic.removals ≡ p.driver.periodic.removals
  removals_stays misses =
      ap (λ (q : Parts). q.driver.periodic.removals) (frame row p o is)
      ∙ picked (footprint row o).removals (after_driver_row row p).driver.periodic.removals p.driver.periodic.removals misses

  pub status_next_stays : (footprint row o).status_next ≡ false
      → (after_driver_row row p).driver.periodic.status_next ≡ p.driver.periodic.status_next
  status_next_stays misses =
      ap (λ (q : Parts). q.driver.periodic.status_next) (frame row p o is)
      ∙ picked (footprint row o).status_next (after_driver_row row p).driver.periodic.status_next p.driver.periodic.status_next misses

  pub registers_stays : (footprint row o).registers ≡ false
      → (after_driver_row row p).registers ≡ p.registers
  registers_stays misses =
      ap (λ (q : Parts). q.registers) (frame row p o is)
      ∙ picked (footprint row o).registers (after_driver_row row p).registers p.registers misses

  pub memory_stays : (footprint row o).memory ≡ false
      → (after_driver_row row p).memory ≡ p.memory
  memory_stays misses =
      ap (λ (q : Parts). q.memory) (frame row p o is)
      ∙ picked (footprint row o).memory (after_driver_row row p).memory p.memory misses
