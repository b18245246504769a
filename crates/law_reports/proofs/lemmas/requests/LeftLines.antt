-- An event of the driver leaves the lines of a control endpoint that has ended, but for that of its cancel.
use Rattle.std.proofs.Common.{◌≡◌, ◌≢◌, ℕ, Bool, true, false, cond, List, [], ◌∷◌, ◌++◌, length, slice_get, Option, Some, None}
use Rattle.std.proofs.Common.{ap, refl, sym, ◌∙◌}
use Rattle.std.proofs.lemmas.Bool.{true≢false}
use Rattle.std.proofs.lemmas.Option.{same_Some}
use Rattle.std.proofs.lemmas.List.{append-nil}
use Rattle.usb_base.specs.declared.endpoints.EpName.{EpName}
use Rattle.usb_base.specs.declared.reports.Report.{Report}
use Rattle.usb_base.specs.declared.reports.What.TheVariants as lines
use Rattle.bus_wire.specs.Fates.{is_same_name}
use Rattle.claims_driver.specs.Leaving.{HasOwners}
use Rattle.drv_periodic_table.specs.declared.content.Removed.TheVariants as removed
use Rattle.drv_table.specs.declared.content.Endpoint.{Endpoint}
use Rattle.drv_table.specs.declared.rows.DriverRow.{DriverRow}
use Rattle.drv_table.specs.declared.rows.DriverRow.TheVariants as rows
use Rattle.drv_table.specs.declared.rows.Found.{Found}
use Rattle.drv_table.specs.DriverContent.{DriverContent}
use Rattle.drv_table.specs.Harvests.{reported}
use Rattle.drv_table.specs.Parts.{Parts}
use Rattle.drv_table.specs.Releases.{is_told, cancelled_bytes, after_endpoint}
use Rattle.drv_table.specs.Removals.{after_placed}
use Rattle.drv_table.specs.Rows.{after_driver_row}
use Rattle.law_driver.specs.run_owners.Due.{IsHarvestDue, IsDue}
use Rattle.law_driver.specs.queued_drivers.Queued.{QueuesTakeTurns}
use Rattle.law_driver.specs.queued_drivers.Rows.{TellsAlike}
use Rattle.law_queues.specs.told_endpoints.Telling.{lines_in}
use Rattle.law_queues.proofs.lemmas.leaving_drivers.Reading.{AddsLines}
use Rattle.law_queues.proofs.lemmas.leaving_drivers.Telling.{lines_not}
use Rattle.law_reports.proofs.lemmas.lines.IsoGoing.{AreApart}
use Rattle.law_reports.proofs.lemmas.lines.Reports.{tells_by}
use Rattle.law_reports.proofs.lemmas.pipes.GoneLines.{TellsOf, of_none, of_one, harvest_tells_of}

pub record LinesStay (d f : DriverContent) (name : EpName) : Type 0 where
  pub lines : lines_in name f.reports ≡ lines_in name d.reports
  pub bytes : List ℕ
  pub store : f.store ≡ d.store ++ bytes

pub same_lines : (d f : DriverContent) (name : EpName) → f.reports ≡ d.reports → f.store ≡ d.store → LinesStay d f name
same_lines d f name reports store = record {
  lines = ap (λ (rs : List Report). lines_in name rs) reports;
  bytes = [];
  store = store ∙ sym (append-nil d.store);
}

of_others : (d f : DriverContent) (name other : EpName) → is_same_name other name ≡ false → AddsLines d f other → LinesStay d f name
of_others d f name other differs l = record {
  lines = ap (lines_in name) l.reports ∙ lines_not name other d.reports l.lines l.named differs;
  bytes = l.bytes;
  store = l.store;
}

-- where the row gives endpoint i back, no line tells of it
abbrev pub TellsNot : DriverRow → ℕ → Endpoint → Type 0
TellsNot (rows.ReleaseEndpoint e) i y = e ≡ i → is_told y ≡ false
TellsNot (rows.ReleaseRemoved (removed.Endpoint e)) i y = e ≡ i → is_told y ≡ false
TellsNot _ i y = Unit {0}

module _ (p : Parts) (i : ℕ) (y : Endpoint) (there : slice_get p.driver.endpoints i ≡ Some y) (over : y.ended ≢ None)
    (apart : AreApart p.driver) where
  abbrev Stays : DriverRow → Type 0
  Stays row = LinesStay p.driver (after_driver_row row p).driver y.desc.name

  -- an endpoint is given back
  given : (f : DriverContent) (e : ℕ) (x : Endpoint) (bytes : List ℕ) → slice_get p.driver.endpoints e ≡ Some x
      → (e ≡ i → is_told y ≡ false) → (b : Bool) → is_told x ≡ b
      → f.reports ≡ (cond b (reported p.driver lines.Cancel x.desc.name bytes) p.driver).reports
      → f.store ≡ (cond b (reported p.driver lines.Cancel x.desc.name bytes) p.driver).store → LinesStay p.driver f y.desc.name
  given f e x bytes here untold false is reports store = same_lines p.driver f y.desc.name reports store
  given f e x bytes here untold true is reports store =
      of_others p.driver f y.desc.name x.desc.name (unlike (is_same_name x.desc.name y.desc.name) refl)
      (record {
        lines = (record { name = x.desc.name; what = lines.Cancel; from = length p.driver.store; len = length bytes }) ∷ [];
        bytes = bytes;
        reports = reports;
        store = store;
        named = (refl, tt);
      })
    where
      unlike : (b : Bool) → is_same_name x.desc.name y.desc.name ≡ b → is_same_name x.desc.name y.desc.name ≡ false
      unlike false same = same
      unlike true same =
          let own : e ≡ i = apart e i x y here there same in
          let one : x ≡ y = same_Some x y (sym here ∙ ap (slice_get p.driver.endpoints) own ∙ there) in
          absurd (true≢false (sym is ∙ ap is_told one ∙ untold own))

  released : (e : ℕ) (o : Option Endpoint) → slice_get p.driver.endpoints e ≡ o → (e ≡ i → is_told y ≡ false)
      → Stays (rows.ReleaseEndpoint e)
  released e None none untold =
      same_lines p.driver (after_driver_row (rows.ReleaseEndpoint e) p).driver y.desc.name
      (ap (λ (o : Option Endpoint). (after_endpoint p e o).driver.reports) none)
      (ap (λ (o : Option Endpoint). (after_endpoint p e o).driver.store) none)
  released e (Some x) here untold =
      given (after_driver_row (rows.ReleaseEndpoint e) p).driver e x (cancelled_bytes p.driver.notes p.memory e x.queue p.driver.transfers)
      here untold (is_told x) refl (ap (λ (o : Option Endpoint). (after_endpoint p e o).driver.reports) here)
      (ap (λ (o : Option Endpoint). (after_endpoint p e o).driver.store) here)

  removed_end : (e : ℕ) (o : Option Endpoint) → slice_get p.driver.endpoints e ≡ o → (e ≡ i → is_told y ≡ false)
      → Stays (rows.ReleaseRemoved (removed.Endpoint e))
  removed_end e None none untold =
      same_lines p.driver (after_driver_row (rows.ReleaseRemoved (removed.Endpoint e)) p).driver y.desc.name
      (ap (λ (o : Option Endpoint). (after_placed p e o).driver.reports) none)
      (ap (λ (o : Option Endpoint). (after_placed p e o).driver.store) none)
  removed_end e (Some x) here untold =
      given (after_driver_row (rows.ReleaseRemoved (removed.Endpoint e)) p).driver e x
      (cancelled_bytes p.driver.notes p.memory e x.queue p.driver.transfers) here untold
      (is_told x) refl (ap (λ (o : Option Endpoint). (after_placed p e o).driver.reports) here)
      (ap (λ (o : Option Endpoint). (after_placed p e o).driver.store) here)

  alike : (row : DriverRow) → TellsAlike p.driver (after_driver_row row p).driver → Stays row
  alike row k = same_lines p.driver (after_driver_row row p).driver y.desc.name k.reports k.store

  module _ (e t : ℕ) (found : Found) (due : IsHarvestDue p e t found) where
    -- what is harvested goes on
    other : (b : Bool) → is_same_name due.endpoint.desc.name y.desc.name ≡ b → is_same_name due.endpoint.desc.name y.desc.name ≡ false
    other false is = is
    other true is =
        let own : e ≡ i = apart e i due.endpoint y due.here there is in
        let one : due.endpoint ≡ y = same_Some due.endpoint y (sym due.here ∙ ap (slice_get p.driver.endpoints) own ∙ there) in
        absurd (over (ap (λ (z : Endpoint). z.ended) (sym one) ∙ due.goes_on))

    read : TellsOf p.driver (after_driver_row (rows.Harvest e t found) p).driver due.endpoint → Stays (rows.Harvest e t found)
    read (of_none reports store) =
        same_lines p.driver (after_driver_row (rows.Harvest e t found) p).driver y.desc.name reports store
    read (of_one l) =
        of_others p.driver (after_driver_row (rows.Harvest e t found) p).driver y.desc.name due.endpoint.desc.name
        (other (is_same_name due.endpoint.desc.name y.desc.name) refl) l

  pub row_keeps_lines : (row : DriverRow) → TellsNot row i y → HasOwners p.driver → QueuesTakeTurns p.driver → IsDue p row
      → LinesStay p.driver (after_driver_row row p).driver y.desc.name
  row_keeps_lines rows.Lend other owners turns due = alike rows.Lend (tells_by rows.Lend p refl refl)
  row_keeps_lines (rows.Store b at v) other owners turns due = alike (rows.Store b at v) (tells_by (rows.Store b at v) p refl refl)
  row_keeps_lines rows.Frames other owners turns due = alike rows.Frames (tells_by rows.Frames p refl refl)
  row_keeps_lines rows.LendDescriptors other owners turns due = alike rows.LendDescriptors (tells_by rows.LendDescriptors p refl refl)
  row_keeps_lines (rows.Unlink t) other owners turns due = alike (rows.Unlink t) (tells_by (rows.Unlink t) p refl refl)
  row_keeps_lines (rows.ReleaseRemoved (removed.Descriptor t)) other owners turns due =
      alike (rows.ReleaseRemoved (removed.Descriptor t)) (tells_by (rows.ReleaseRemoved (removed.Descriptor t)) p refl refl)
  row_keeps_lines (rows.ReleaseRemoved (removed.Endpoint e)) other owners turns due =
      removed_end e (slice_get p.driver.endpoints e) refl other
  row_keeps_lines (rows.ReleaseTransfer t) other owners turns due =
      alike (rows.ReleaseTransfer t) (tells_by (rows.ReleaseTransfer t) p refl refl)
  row_keeps_lines (rows.ReleaseEndpoint e) other owners turns due = released e (slice_get p.driver.endpoints e) refl other
  row_keeps_lines (rows.Harvest e t found) other owners turns due = read e t found due (harvest_tells_of p e t found due owners turns)
  row_keeps_lines _ other owners turns due = same_lines p.driver _ y.desc.name refl refl
