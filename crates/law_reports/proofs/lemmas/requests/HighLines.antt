-- An event of the frame list or of isochronous descriptors adds no line, or one of an isochronous endpoint, and tells the same of each
-- control endpoint.
use Rattle.std.proofs.Common.{◌≡◌, ℕ, Bool, true, false, cond, List, [], ◌∷◌, ◌++◌, length, take, slice_get, Option, Some, None, ap, refl}
use Rattle.std.proofs.Common.{sym, subst, ◌∙◌}
use Rattle.usb_base.specs.declared.endpoints.EpName.{EpName}
use Rattle.usb_base.specs.declared.reports.Report.{Report}
use Rattle.usb_base.specs.declared.reports.What.{What}
use Rattle.usb_base.specs.declared.reports.What.TheVariants as lines
use Rattle.bus_wire.specs.Fates.{is_same_name}
use Rattle.claims_report.specs.Reports.{is_line_of, is_refusal}
use Rattle.claims_report.specs.Requests.{Request, Window}
use Rattle.claims_driver.specs.Owners.{is_descriptor}
use Rattle.claims_driver.specs.Leaving.{HasOwners}
use Rattle.drv_periodic_table.specs.Periodic.{note_at as periodic_note}
use Rattle.drv_periodic_table.specs.Descriptors.{told_bytes}
use Rattle.drv_periodic_table.specs.declared.content.Removed.TheVariants as removed
use Rattle.drv_table.specs.declared.content.Endpoint.{Endpoint}
use Rattle.drv_table.specs.declared.rows.DriverRow.{DriverRow}
use Rattle.drv_table.specs.declared.rows.DriverRow.TheVariants as rows
use Rattle.drv_table.specs.declared.rows.Found.{Found}
use Rattle.drv_table.specs.declared.rows.Found.TheVariants as founds
use Rattle.drv_table.specs.DriverContent.{DriverContent}
use Rattle.drv_table.specs.Harvests.{reported}
use Rattle.drv_table.specs.Kinds.{is_iso}
use Rattle.drv_table.specs.Parts.{Parts}
use Rattle.drv_table.specs.Releases.{is_told, cancelled_bytes}
use Rattle.drv_table.specs.Removals.{after_placed}
use Rattle.drv_table.specs.Rows.{after_driver_row}
use Rattle.law_driver.specs.run_owners.Due.{IsHarvestDue, IsDue}
use Rattle.law_driver.proofs.lemmas.run_owners.Harvest.{waits_is}
use Rattle.law_driver.specs.queued_drivers.Queued.{queued, QueuesTakeTurns}
use Rattle.law_driver.specs.queued_drivers.Rows.{TellsAlike, IsOfFrames}
use Rattle.law_driver.proofs.lemmas.queued_drivers.RowFrames.{frames_leave}
use Rattle.law_queues.specs.told_endpoints.Telling.{lines_in}
use Rattle.law_queues.proofs.lemmas.told_endpoints.Lines.{line_of_other}
use Rattle.law_queues.proofs.lemmas.told_endpoints.Tellings.{line_by}
use Rattle.law_reports.proofs.lemmas.lines.Described.{read_is, never_moved, never_ended}
use Rattle.law_reports.specs.requests.told_requests.Told.{AreToldTo}
use Rattle.law_reports.proofs.lemmas.requests.lemmas.told_requests.Lines.{other_line_is_told}

-- the report of f is that of d, or has one line more, of an isochronous endpoint
pub data TellsOfFrames (d f : DriverContent) : Type 0 where
  as_before : TellsAlike d f → TellsOfFrames d f
  one_line : (e : ℕ) (x : Endpoint) (what : What) (bytes : List ℕ) → slice_get d.endpoints e ≡ Some x → is_iso x.desc.kind ≡ true
      → is_refusal what ≡ false → f.reports ≡ (reported d what x.desc.name bytes).reports
      → f.store ≡ (reported d what x.desc.name bytes).store → TellsOfFrames d f

module _ (p : Parts) where
  abbrev After : DriverRow → Type 0
  After row = TellsOfFrames p.driver (after_driver_row row p).driver

  -- a descriptor is read
  module _ (e t : ℕ) (found : Found) (due : IsHarvestDue p e t found) (descriptor : is_descriptor due.transfer.sort ≡ true)
      (owners : HasOwners p.driver) where
    iso : is_iso due.endpoint.desc.kind ≡ true
    iso =
        sym (owners.orderly.sorts t due.transfer due.endpoint due.there
        (ap (slice_get p.driver.endpoints) (waits_is e due.transfer due.waits).endpoint ∙ due.here))
        ∙ descriptor

    read_lines : (z : Found) → found ≡ z → After (rows.Harvest e t found)
    read_lines founds.Active is =
        let same = read_is p e t found due founds.Active is in
        as_before (record {
          reports = ap (λ (f : DriverContent). f.reports) same;
          store = ap (λ (f : DriverContent). f.store) same;
        })
    read_lines (founds.Served errors) is =
        let same = read_is p e t found due (founds.Served errors) is in
        let x : Endpoint = due.endpoint in
        let bytes : List ℕ =
        take due.transfer.most (told_bytes (periodic_note p.driver.periodic.notes due.transfer.first) p.memory due.transfer.first) in
        one_line e x (lines.Iso errors) bytes due.here iso refl
        (ap (λ (f : DriverContent). f.reports) same) (ap (λ (f : DriverContent). f.store) same)
    read_lines (founds.Moved n) is = absurd (never_moved p e t found due descriptor n is)
    read_lines (founds.Ended n what) is = absurd (never_ended p e t found due descriptor n what is)

  -- an isochronous endpoint is given back
  cancel_line : (e : ℕ) (x : Endpoint) (b : Bool) → is_told x ≡ b → slice_get p.driver.endpoints e ≡ Some x → is_iso x.desc.kind ≡ true
      → After (rows.ReleaseRemoved (removed.Endpoint e))
  cancel_line e x false off here kind =
      let bytes : List ℕ = cancelled_bytes p.driver.notes p.memory e x.queue p.driver.transfers in
      as_before (record {
        reports = ap (λ (o : Option Endpoint). (after_placed p e o).driver.reports) here
            ∙ ap (λ (c : Bool). (cond c (reported p.driver lines.Cancel x.desc.name bytes) p.driver).reports) off;
        store = ap (λ (o : Option Endpoint). (after_placed p e o).driver.store) here
            ∙ ap (λ (c : Bool). (cond c (reported p.driver lines.Cancel x.desc.name bytes) p.driver).store) off;
      })
  cancel_line e x true on here kind =
      let bytes : List ℕ = cancelled_bytes p.driver.notes p.memory e x.queue p.driver.transfers in
      one_line e x lines.Cancel bytes here kind refl
      (ap (λ (o : Option Endpoint). (after_placed p e o).driver.reports) here
      ∙ ap (λ (c : Bool). (cond c (reported p.driver lines.Cancel x.desc.name bytes) p.driver).reports) on)
      (ap (λ (o : Option Endpoint). (after_placed p e o).driver.store) here
      ∙ ap (λ (c : Bool). (cond c (reported p.driver lines.Cancel x.desc.name bytes) p.driver).store) on)

  given_line : (e : ℕ) (o : Option Endpoint) → slice_get p.driver.endpoints e ≡ o → IsOfFrames p (rows.ReleaseRemoved (removed.Endpoint e))
      → After (rows.ReleaseRemoved (removed.Endpoint e))
  given_line e None none of =
      as_before (record {
        reports = ap (λ (o : Option Endpoint). (after_placed p e o).driver.reports) none;
        store = ap (λ (o : Option Endpoint). (after_placed p e o).driver.store) none;
      })
  given_line e (Some x) here of = cancel_line e x (is_told x) refl here (of x here)

  of_queues : (f : DriverContent) → TellsAlike (queued p.driver) (queued f) → TellsOfFrames p.driver f
  of_queues f k = as_before (record { reports = k.reports; store = k.store })

  pub frame_lines : (row : DriverRow) → HasOwners p.driver → QueuesTakeTurns p.driver → IsDue p row → IsOfFrames p row → After row
  frame_lines (rows.ReleaseRemoved (removed.Endpoint e)) owners turns due of = given_line e (slice_get p.driver.endpoints e) refl of
  frame_lines (rows.Harvest e t found) owners turns due of = read_lines e t found due (of due.transfer due.there) owners found refl
  frame_lines row owners turns due of = of_queues (after_driver_row row p).driver ((frames_leave row p owners turns due of).tells refl)

-- ---- lines of another name

module _ (d f : DriverContent) (name : EpName)
    (other : (e : ℕ) (x : Endpoint) → slice_get d.endpoints e ≡ Some x → is_iso x.desc.kind ≡ true
    → is_same_name x.desc.name name ≡ false) where
  abbrev line_of : Endpoint → What → List ℕ → Report
  line_of x what bytes = record { name = x.desc.name; what = what; from = length d.store; len = length bytes }

  is_other : (e : ℕ) (x : Endpoint) (what : What) (bytes : List ℕ) → slice_get d.endpoints e ≡ Some x → is_iso x.desc.kind ≡ true
      → is_refusal what ≡ false → is_line_of name (line_of x what bytes) ≡ false
  is_other e x what bytes here iso tells = line_by name (line_of x what bytes) false (other e x here iso) tells

  pub frame_lines_same : TellsOfFrames d f → lines_in name f.reports ≡ lines_in name d.reports
  frame_lines_same (as_before k) = ap (lines_in name) k.reports
  frame_lines_same (one_line e x what bytes here iso tells reports store) =
      ap (lines_in name) reports ∙ line_of_other name d.reports (line_of x what bytes) (is_other e x what bytes here iso tells)

  pub frame_lines_tell : (whole : Request → List ℕ) (ws left : List Window) → TellsOfFrames d f
      → AreToldTo d.reports d.store name whole ws left
      → AreToldTo f.reports f.store name whole ws left
  frame_lines_tell whole ws left (as_before k) told =
      subst (λ (rs : List Report). AreToldTo rs f.store name whole ws left) (sym k.reports)
      (subst (λ (bs : List ℕ). AreToldTo d.reports bs name whole ws left) (sym k.store) told)
  frame_lines_tell whole ws left (one_line e x what bytes here iso tells reports store) told =
      subst (λ (rs : List Report). AreToldTo rs f.store name whole ws left) (sym reports)
      (subst (λ (bs : List ℕ). AreToldTo (d.reports ++ line_of x what bytes ∷ []) bs name whole ws left) (sym store)
      (other_line_is_told d.reports d.store bytes name whole ws left (line_of x what bytes) (is_other e x what bytes here iso tells) told))
