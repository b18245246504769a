-- An event of the driver leaves the lines of a cancelled control endpoint, but for the one of its cancel.
use Rattle.std.proofs.Common.{◌≡◌, ◌≢◌, ℕ, Bool, true, false, cond, not, if◌then◌else◌, List, [], ◌∷◌, ◌++◌, filter, length, slice_get}
use Rattle.std.proofs.Common.{Option}
use Rattle.std.proofs.Common.{Some, None, ap, refl, sym, ◌∙◌}
use Rattle.std.proofs.lemmas.Option.{same_Some}
use Rattle.std.proofs.lemmas.List.{append-nil}
use Rattle.std.proofs.lemmas.List.Elements.{filter-append}
use Rattle.usb_base.specs.declared.endpoints.EpName.{EpName}
use Rattle.usb_base.specs.declared.reports.Report.{Report}
use Rattle.usb_base.specs.declared.reports.What.TheVariants as lines
use Rattle.bus_wire.specs.Fates.{is_same_name}
use Rattle.claims_report.specs.Reports.{is_line_of}
use Rattle.claims_driver.specs.Leaving.{HasOwners}
use Rattle.claims_world.specs.Pending.{is_cancel}
use Rattle.law_reports.specs.requests.CancelledTold.{before_cancel}
use Rattle.drv_periodic_table.specs.declared.content.Removed.TheVariants as removed
use Rattle.drv_table.specs.declared.content.Endpoint.{Endpoint}
use Rattle.drv_table.specs.declared.rows.DriverRow.{DriverRow}
use Rattle.drv_table.specs.declared.rows.DriverRow.TheVariants as rows
use Rattle.drv_table.specs.declared.rows.Found.{Found}
use Rattle.drv_table.specs.DriverContent.{DriverContent}
use Rattle.drv_table.specs.Harvests.{reported}
use Rattle.drv_table.specs.Parts.{Parts}
use Rattle.drv_table.specs.Releases.{is_told, cancelled_bytes, after_endpoint}
use Rattle.drv_table.specs.Removals.{after_placed}
use Rattle.drv_table.specs.Rows.{after_driver_row}
use Rattle.law_common.proofs.Booleans.{or_both}
use Rattle.law_driver.specs.run_owners.Due.{IsHarvestDue, IsDue}
use Rattle.law_driver.specs.queued_drivers.Queued.{QueuesTakeTurns}
use Rattle.law_driver.specs.queued_drivers.Rows.{TellsAlike}
use Rattle.law_queues.specs.told_endpoints.Telling.{lines_in}
use Rattle.law_queues.proofs.lemmas.leaving_drivers.Reading.{AddsLines}
use Rattle.law_queues.proofs.lemmas.leaving_drivers.Telling.{lines_not}
use Rattle.law_reports.proofs.lemmas.lines.IsoGoing.{AreApart}
use Rattle.law_reports.proofs.lemmas.lines.Reports.{tells_by}
use Rattle.law_reports.proofs.lemmas.pipes.GoneLines.{TellsOf, of_none, of_one, harvest_tells_of}
use Rattle.law_reports.specs.requests.told_requests.Told.{has_cancel}

-- ---- lines of a cancel

abbrev told : Report → Bool
told line = not (is_cancel line.what)

pub none_told : (line : Report) → is_cancel line.what ≡ true → before_cancel (line ∷ []) ≡ []
none_told line is = ap (λ (b : Bool). if not b then line ∷ [] else []) is

-- without one they are all of them
pub all_before : (ls : List Report) → has_cancel ls ≡ false → before_cancel ls ≡ ls
all_before [] none = refl
all_before (line ∷ ls) none =
    let both = or_both (is_cancel line.what) (has_cancel ls) none in
    ap (λ (b : Bool). if not b then line ∷ before_cancel ls else before_cancel ls) both.0
    ∙ ap (λ (rest : List Report). line ∷ rest) (all_before ls both.1)

one_by : (name : EpName) (line : Report) (b : Bool) → is_cancel line.what ≡ true → before_cancel (if b then line ∷ [] else []) ≡ []
one_by name line true is = none_told line is
one_by name line false is = refl

-- the line of a cancel, whosever it is, is none of them
cancel_left : (name : EpName) (reports : List Report) (line : Report) → is_cancel line.what ≡ true
    → before_cancel (lines_in name (reports ++ line ∷ [])) ≡ before_cancel (lines_in name reports)
cancel_left name reports line is =
    ap before_cancel (filter-append (is_line_of name) reports (line ∷ []))
    ∙ filter-append told (lines_in name reports) (lines_in name (line ∷ []))
    ∙ ap (λ (ls : List Report). before_cancel (lines_in name reports) ++ ls) (one_by name line (is_line_of name line) is)
    ∙ append-nil (before_cancel (lines_in name reports))

-- ---- what an event leaves

pub record LinesStayBefore (d f : DriverContent) (name : EpName) : Type 0 where
  pub lines : before_cancel (lines_in name f.reports) ≡ before_cancel (lines_in name d.reports)
  pub bytes : List ℕ
  pub store : f.store ≡ d.store ++ bytes

pub same_lines : (d f : DriverContent) (name : EpName) → f.reports ≡ d.reports → f.store ≡ d.store → LinesStayBefore d f name
same_lines d f name reports store = record {
  lines = ap (λ (rs : List Report). before_cancel (lines_in name rs)) reports;
  bytes = [];
  store = store ∙ sym (append-nil d.store);
}

of_others : (d f : DriverContent) (name other : EpName) → is_same_name other name ≡ false → AddsLines d f other → LinesStayBefore d f name
of_others d f name other differs l = record {
  lines = ap before_cancel (ap (lines_in name) l.reports ∙ lines_not name other d.reports l.lines l.named differs);
  bytes = l.bytes;
  store = l.store;
}

module _ (p : Parts) (name : EpName) where
  abbrev Stays : DriverRow → Type 0
  Stays row = LinesStayBefore p.driver (after_driver_row row p).driver name

  -- an endpoint is given back
  given : (f : DriverContent) (x : Endpoint) (bytes : List ℕ) (b : Bool) → is_told x ≡ b
      → f.reports ≡ (cond b (reported p.driver lines.Cancel x.desc.name bytes) p.driver).reports
      → f.store ≡ (cond b (reported p.driver lines.Cancel x.desc.name bytes) p.driver).store → LinesStayBefore p.driver f name
  given f x bytes false is reports store = same_lines p.driver f name reports store
  given f x bytes true is reports store = record {
    lines = ap (λ (rs : List Report). before_cancel (lines_in name rs)) reports
        ∙ cancel_left name p.driver.reports
        (record { name = x.desc.name; what = lines.Cancel; from = length p.driver.store; len = length bytes }) refl;
    bytes = bytes;
    store = store;
  }

  released : (e : ℕ) (o : Option Endpoint) → slice_get p.driver.endpoints e ≡ o → Stays (rows.ReleaseEndpoint e)
  released e None none =
      same_lines p.driver (after_driver_row (rows.ReleaseEndpoint e) p).driver name
      (ap (λ (o : Option Endpoint). (after_endpoint p e o).driver.reports) none)
      (ap (λ (o : Option Endpoint). (after_endpoint p e o).driver.store) none)
  released e (Some x) here =
      given (after_driver_row (rows.ReleaseEndpoint e) p).driver x (cancelled_bytes p.driver.notes p.memory e x.queue p.driver.transfers)
      (is_told x) refl (ap (λ (o : Option Endpoint). (after_endpoint p e o).driver.reports) here)
      (ap (λ (o : Option Endpoint). (after_endpoint p e o).driver.store) here)

  removed_end : (e : ℕ) (o : Option Endpoint) → slice_get p.driver.endpoints e ≡ o → Stays (rows.ReleaseRemoved (removed.Endpoint e))
  removed_end e None none =
      same_lines p.driver (after_driver_row (rows.ReleaseRemoved (removed.Endpoint e)) p).driver name
      (ap (λ (o : Option Endpoint). (after_placed p e o).driver.reports) none)
      (ap (λ (o : Option Endpoint). (after_placed p e o).driver.store) none)
  removed_end e (Some x) here =
      given (after_driver_row (rows.ReleaseRemoved (removed.Endpoint e)) p).driver x
      (cancelled_bytes p.driver.notes p.memory e x.queue p.driver.transfers)
      (is_told x) refl (ap (λ (o : Option Endpoint). (after_placed p e o).driver.reports) here)
      (ap (λ (o : Option Endpoint). (after_placed p e o).driver.store) here)

  alike : (row : DriverRow) → TellsAlike p.driver (after_driver_row row p).driver → Stays row
  alike row k = same_lines p.driver (after_driver_row row p).driver name k.reports k.store

-- of endpoint i, which is y, has this name and has ended
module _ (p : Parts) (i : ℕ) (y : Endpoint) (there : slice_get p.driver.endpoints i ≡ Some y) (over : y.ended ≢ None)
    (apart : AreApart p.driver) where
  module _ (e t : ℕ) (found : Found) (due : IsHarvestDue p e t found) where
    -- what is harvested goes on
    other : (b : Bool) → is_same_name due.endpoint.desc.name y.desc.name ≡ b → is_same_name due.endpoint.desc.name y.desc.name ≡ false
    other false is = is
    other true is =
        let own : e ≡ i = apart e i due.endpoint y due.here there is in
        let one : due.endpoint ≡ y = same_Some due.endpoint y (sym due.here ∙ ap (slice_get p.driver.endpoints) own ∙ there) in
        absurd (over (ap (λ (z : Endpoint). z.ended) (sym one) ∙ due.goes_on))

    read : TellsOf p.driver (after_driver_row (rows.Harvest e t found) p).driver due.endpoint
        → LinesStayBefore p.driver (after_driver_row (rows.Harvest e t found) p).driver y.desc.name
    read (of_none reports store) =
        same_lines p.driver (after_driver_row (rows.Harvest e t found) p).driver y.desc.name reports store
    read (of_one l) =
        of_others p.driver (after_driver_row (rows.Harvest e t found) p).driver y.desc.name due.endpoint.desc.name
        (other (is_same_name due.endpoint.desc.name y.desc.name) refl) l

  pub row_leaves_lines : (row : DriverRow) → HasOwners p.driver → QueuesTakeTurns p.driver → IsDue p row
      → LinesStayBefore p.driver (after_driver_row row p).driver y.desc.name
  row_leaves_lines rows.Lend owners turns due = alike p y.desc.name rows.Lend (tells_by rows.Lend p refl refl)
  row_leaves_lines (rows.Store b at v) owners turns due = alike p y.desc.name (rows.Store b at v) (tells_by (rows.Store b at v) p refl refl)
  row_leaves_lines rows.Frames owners turns due = alike p y.desc.name rows.Frames (tells_by rows.Frames p refl refl)
  row_leaves_lines rows.LendDescriptors owners turns due =
      alike p y.desc.name rows.LendDescriptors (tells_by rows.LendDescriptors p refl refl)
  row_leaves_lines (rows.Unlink t) owners turns due = alike p y.desc.name (rows.Unlink t) (tells_by (rows.Unlink t) p refl refl)
  row_leaves_lines (rows.ReleaseRemoved (removed.Descriptor t)) owners turns due =
      alike p y.desc.name (rows.ReleaseRemoved (removed.Descriptor t)) (tells_by (rows.ReleaseRemoved (removed.Descriptor t)) p refl refl)
  row_leaves_lines (rows.ReleaseRemoved (removed.Endpoint e)) owners turns due =
      removed_end p y.desc.name e (slice_get p.driver.endpoints e) refl
  row_leaves_lines (rows.ReleaseTransfer t) owners turns due =
      alike p y.desc.name (rows.ReleaseTransfer t) (tells_by (rows.ReleaseTransfer t) p refl refl)
  row_leaves_lines (rows.ReleaseEndpoint e) owners turns due = released p y.desc.name e (slice_get p.driver.endpoints e) refl
  row_leaves_lines (rows.Harvest e t found) owners turns due = read e t found due (harvest_tells_of p e t found due owners turns)
  row_leaves_lines _ owners turns due = same_lines p.driver _ y.desc.name refl refl
