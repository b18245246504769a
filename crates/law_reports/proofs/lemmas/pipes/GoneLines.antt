-- What an event of the driver adds to the report: nothing, or lines of one endpoint that wasn't given back. So what is told of one that
-- was stays.
use Rattle.std.proofs.Common.{◌≡◌, ℕ, Bool, true, false, cond, List, [], ◌∷◌, length, take, slice_get, Option, Some, None, ap, refl, sym}
use Rattle.std.proofs.Common.{subst, ◌∙◌, ⊎_elim}
use Rattle.std.specs.List.{AllByRecursion}
use Rattle.std.proofs.lemmas.Bool.{cases_Bool, false≢true}
use Rattle.std.proofs.lemmas.Option.{same_Some}
use Rattle.usb_base.specs.declared.endpoints.EpName.{EpName}
use Rattle.usb_base.specs.declared.reports.Report.{Report}
use Rattle.bus_wire.specs.Fates.{is_same_name}
use Rattle.claims_report.specs.Reports.{is_line_of}
use Rattle.claims_driver.specs.Owners.{is_descriptor}
use Rattle.claims_driver.specs.Leaving.{HasOwners}
use Rattle.drv_periodic_table.specs.Periodic.{note_at as periodic_note}
use Rattle.drv_periodic_table.specs.Descriptors.{told_bytes}
use Rattle.drv_table.specs.declared.content.Endpoint.{Endpoint}
use Rattle.drv_table.specs.declared.content.Transfer.{Transfer}
use Rattle.drv_table.specs.declared.rows.DriverRow.{DriverRow}
use Rattle.drv_table.specs.declared.rows.Found.{Found}
use Rattle.drv_table.specs.DriverContent.{DriverContent}
use Rattle.drv_table.specs.Harvests.{reported}
use Rattle.drv_table.specs.Parts.{Parts}
use Rattle.drv_table.specs.Releases.{is_told, cancelled_bytes, after_endpoint}
use Rattle.drv_table.specs.Removals.{after_placed}
use Rattle.drv_table.specs.Rows.{after_driver_row}
use Rattle.law_driver.specs.run_owners.Due.{IsHarvestDue, IsDue}
use Rattle.law_driver.specs.queued_drivers.Queued.{queued_endpoint, queued_parts, QueuesTakeTurns}
use Rattle.law_driver.specs.queued_drivers.Rows.{IsToldAlike, TellsAlike}
use Rattle.law_driver.proofs.lemmas.queued_drivers.CommandFields.{name_same}
use Rattle.law_driver.proofs.lemmas.queued_drivers.RowEvents.{row_told}
use Rattle.law_queues.specs.told_endpoints.Telling.{lines_in}
use Rattle.law_queues.proofs.lemmas.leaving_drivers.Reading.{read_row, AddsLines}
use Rattle.law_queues.proofs.lemmas.leaving_drivers.Telling.{lines_not}
use Rattle.law_queues.proofs.lemmas.told_endpoints.Lines.{told_more, stored_filtered}
use Rattle.law_reports.proofs.lemmas.lines.Described.{read_is, never_moved, never_ended}
use Rattle.std.specs.Prelude.{is_some}
use Rattle.law_driver.proofs.Common.{get_queued}
use Rattle.claims_report.specs.Streams.{told_in}
use Rattle.report_text.specs.ReportText.{AreStored}
use Rattle.law_queues.specs.leaving_drivers.Told.{told_to}
use Rattle.law_reports.proofs.lemmas.lines.Reports.{tells_by}
use Rattle.law_reports.proofs.lemmas.lines.FrameLines.{told_alive}
use Rattle.usb_base.specs.declared.reports.What.TheVariants as lines
use Rattle.drv_periodic_table.specs.declared.content.Removed.TheVariants as removed
use Rattle.drv_table.specs.declared.rows.DriverRow.TheVariants as rows
use Rattle.drv_table.specs.declared.rows.Found.TheVariants as founds
use Rattle.usb_base.specs.declared.endpoints.EndCause.{EndCause}
use Rattle.law_reports.proofs.lemmas.lines.IsoGoing.{AreApart}

-- ---- lines of one endpoint

pub data TellsAtMost (d f : DriverContent) : Type 0 where
  tells_none : f.reports ≡ d.reports → f.store ≡ d.store → TellsAtMost d f
  tells_one : (e : ℕ) (x : Endpoint) → slice_get d.endpoints e ≡ Some x → x.gone ≡ false → AddsLines d f x.desc.name → TellsAtMost d f

-- .. of this one
pub data TellsOf (d f : DriverContent) (x : Endpoint) : Type 0 where
  of_none : f.reports ≡ d.reports → f.store ≡ d.store → TellsOf d f x
  of_one : AddsLines d f x.desc.name → TellsOf d f x

names_differ : (d : DriverContent) → AreApart d → (e i : ℕ) (x y : Endpoint) → slice_get d.endpoints e ≡ Some x → x.gone ≡ false
    → slice_get d.endpoints i ≡ Some y → y.gone ≡ true → (b : Bool) → is_same_name x.desc.name y.desc.name ≡ b
    → is_same_name x.desc.name y.desc.name ≡ false
names_differ d apart e i x y here kept there gone false is = is
names_differ d apart e i x y here kept there gone true is =
    let own : e ≡ i = apart e i x y here there is in
    let one : x ≡ y = same_Some x y (sym here ∙ ap (slice_get d.endpoints) own ∙ there) in
    absurd (false≢true (sym kept ∙ ap (λ (v : Endpoint). v.gone) one ∙ gone))

-- its lines stay, and what they tell
pub gone_lines : (d f : DriverContent) → AreApart d → AreStored d.reports (length d.store) → TellsAtMost d f → (i : ℕ) (y : Endpoint)
    → slice_get d.endpoints i ≡ Some y → y.gone ≡ true → told_to f y.desc.name ≡ told_to d y.desc.name
gone_lines d f apart stored (tells_none reports store) i y there gone =
    ap (λ (rs : List Report). told_in f.store (lines_in y.desc.name rs)) reports
    ∙ ap (λ (bytes : List ℕ). told_in bytes (lines_in y.desc.name d.reports)) store
gone_lines d f apart stored (tells_one e x here kept l) i y there gone =
    ap (λ (rs : List Report). told_in f.store (lines_in y.desc.name rs)) l.reports
    ∙ ap (told_in f.store) (lines_not y.desc.name x.desc.name d.reports l.lines l.named
    (names_differ d apart e i x y here kept there gone (is_same_name x.desc.name y.desc.name) refl))
    ∙ ap (λ (bytes : List ℕ). told_in bytes (lines_in y.desc.name d.reports)) l.store
    ∙ told_more (lines_in y.desc.name d.reports) d.store l.bytes
    (stored_filtered (is_line_of y.desc.name) d.reports (length d.store) stored)

-- ---- each event

module _ (p : Parts) where
  abbrev AtMost : DriverRow → Type 0
  AtMost row = TellsAtMost p.driver (after_driver_row row p).driver

  tells_so : (row : DriverRow) → TellsAlike p.driver (after_driver_row row p).driver → AtMost row
  tells_so row k = tells_none k.reports k.store

  -- an endpoint is given back
  given : (f : DriverContent) (e : ℕ) (x : Endpoint) (bytes : List ℕ) (b : Bool) → is_told x ≡ b → slice_get p.driver.endpoints e ≡ Some x
      → f.reports ≡ (cond b (reported p.driver lines.Cancel x.desc.name bytes) p.driver).reports
      → f.store ≡ (cond b (reported p.driver lines.Cancel x.desc.name bytes) p.driver).store → TellsAtMost p.driver f
  given f e x bytes false is here reports store = tells_none reports store
  given f e x bytes true is here reports store =
      tells_one e x here (told_alive x is) (record {
        lines = (record { name = x.desc.name; what = lines.Cancel; from = length p.driver.store; len = length bytes }) ∷ [];
        bytes = bytes;
        reports = reports;
        store = store;
        named = (refl, tt);
      })

  released : (e : ℕ) (o : Option Endpoint) → slice_get p.driver.endpoints e ≡ o → AtMost (rows.ReleaseEndpoint e)
  released e None none =
      tells_none (ap (λ (o : Option Endpoint). (after_endpoint p e o).driver.reports) none)
      (ap (λ (o : Option Endpoint). (after_endpoint p e o).driver.store) none)
  released e (Some x) here =
      given (after_driver_row (rows.ReleaseEndpoint e) p).driver e x (cancelled_bytes p.driver.notes p.memory e x.queue p.driver.transfers)
      (is_told x) refl here (ap (λ (o : Option Endpoint). (after_endpoint p e o).driver.reports) here)
      (ap (λ (o : Option Endpoint). (after_endpoint p e o).driver.store) here)

  removed_end : (e : ℕ) (o : Option Endpoint) → slice_get p.driver.endpoints e ≡ o → AtMost (rows.ReleaseRemoved (removed.Endpoint e))
  removed_end e None none =
      tells_none (ap (λ (o : Option Endpoint). (after_placed p e o).driver.reports) none)
      (ap (λ (o : Option Endpoint). (after_placed p e o).driver.store) none)
  removed_end e (Some x) here =
      given (after_driver_row (rows.ReleaseRemoved (removed.Endpoint e)) p).driver e x
      (cancelled_bytes p.driver.notes p.memory e x.queue p.driver.transfers)
      (is_told x) refl here (ap (λ (o : Option Endpoint). (after_placed p e o).driver.reports) here)
      (ap (λ (o : Option Endpoint). (after_placed p e o).driver.store) here)

  module _ (e t : ℕ) (found : Found) (due : IsHarvestDue p e t found) (owners : HasOwners p.driver) (turns : QueuesTakeTurns p.driver) where
    alive : due.endpoint.gone ≡ false
    alive =
        let steady = owners.orderly.steady e due.endpoint due.here in
        ⊎_elim (λ (g : due.endpoint.gone ≡ true).
        absurd (false≢true (ap (λ (o : Option EndCause). is_some o) (sym due.goes_on) ∙ steady.ended (steady.gone g).0 (steady.gone g).1)))
        (λ (g : due.endpoint.gone ≡ false). g) (cases_Bool due.endpoint.gone)

    abbrev Of : Type 0
    Of = TellsOf p.driver (after_driver_row (rows.Harvest e t found) p).driver due.endpoint

    -- a descriptor is read
    described : is_descriptor due.transfer.sort ≡ true → (z : Found) → found ≡ z → Of
    described is founds.Active same =
        let now = read_is p e t found due founds.Active same in
        of_none (ap (λ (f : DriverContent). f.reports) now) (ap (λ (f : DriverContent). f.store) now)
    described is (founds.Served errors) same =
        let bytes : List ℕ = take due.transfer.most
        (told_bytes (periodic_note p.driver.periodic.notes due.transfer.first) p.memory due.transfer.first) in
        let x : Endpoint = due.endpoint in
        let line : Report =
        record { name = x.desc.name; what = lines.Iso errors; from = length p.driver.store; len = length bytes } in
        let now = read_is p e t found due (founds.Served errors) same in
        of_one (record {
          lines = line ∷ [];
          bytes = bytes;
          reports = ap (λ (f : DriverContent). f.reports) now;
          store = ap (λ (f : DriverContent). f.store) now;
          named = (refl, tt);
        })
    described is (founds.Moved n) same = absurd (never_moved p e t found due is n same)
    described is (founds.Ended n what) same = absurd (never_ended p e t found due is n what same)

    -- a token of a qTD is
    told_qtds : is_descriptor due.transfer.sort ≡ false → Of
    told_qtds moves =
        let row : DriverRow = rows.Harvest e t found in
        let told : IsToldAlike p row =
        row_told row p owners turns due
        (λ y there. ap (λ (z : Transfer). is_descriptor z.sort) (same_Some y due.transfer (sym there ∙ due.there)) ∙ moves) in
        let l = (read_row (queued_parts p) e t found told.due turns.turns.asynchronous).leaves.lines in
        let x : Endpoint = told.due.endpoint in
        let same : x ≡ queued_endpoint due.endpoint =
        same_Some x (queued_endpoint due.endpoint) (sym told.due.here ∙ get_queued p.driver.endpoints e due.endpoint due.here) in
        of_one (record {
          lines = l.lines;
          bytes = l.bytes;
          reports = ap (λ (q : Parts). q.driver.reports) told.same ∙ l.reports;
          store = ap (λ (q : Parts). q.driver.store) told.same ∙ l.store;
          named = subst (λ (n : EpName). AllByRecursion (λ (line : Report). line.name ≡ n) l.lines)
              (ap (λ (z : Endpoint). z.desc.name) same ∙ name_same due.endpoint) l.named;
        })

    pub harvest_tells_of : Of
    harvest_tells_of =
        ⊎_elim (λ (is : is_descriptor due.transfer.sort ≡ true). described is found refl)
        (λ (is : is_descriptor due.transfer.sort ≡ false). told_qtds is)
        (cases_Bool (is_descriptor due.transfer.sort))

    harvest_tells : TellsOf p.driver (after_driver_row (rows.Harvest e t found) p).driver due.endpoint → AtMost (rows.Harvest e t found)
    harvest_tells (of_none reports store) = tells_none reports store
    harvest_tells (of_one l) = tells_one e due.endpoint due.here alive l

  pub row_tells : (row : DriverRow) → HasOwners p.driver → QueuesTakeTurns p.driver → IsDue p row → AtMost row
  row_tells rows.Lend owners turns due = tells_so rows.Lend (tells_by rows.Lend p refl refl)
  row_tells (rows.Store b at v) owners turns due = tells_so (rows.Store b at v) (tells_by (rows.Store b at v) p refl refl)
  row_tells rows.Frames owners turns due = tells_so rows.Frames (tells_by rows.Frames p refl refl)
  row_tells rows.LendDescriptors owners turns due = tells_so rows.LendDescriptors (tells_by rows.LendDescriptors p refl refl)
  row_tells (rows.Unlink t) owners turns due = tells_so (rows.Unlink t) (tells_by (rows.Unlink t) p refl refl)
  row_tells (rows.ReleaseRemoved (removed.Descriptor t)) owners turns due =
      tells_so (rows.ReleaseRemoved (removed.Descriptor t)) (tells_by (rows.ReleaseRemoved (removed.Descriptor t)) p refl refl)
  row_tells (rows.ReleaseRemoved (removed.Endpoint e)) owners turns due = removed_end e (slice_get p.driver.endpoints e) refl
  row_tells (rows.ReleaseTransfer t) owners turns due = tells_so (rows.ReleaseTransfer t) (tells_by (rows.ReleaseTransfer t) p refl refl)
  row_tells (rows.ReleaseEndpoint e) owners turns due = released e (slice_get p.driver.endpoints e) refl
  row_tells (rows.Harvest e t found) owners turns due =
      harvest_tells e t found due owners turns (harvest_tells_of e t found due owners turns)
  row_tells _ owners turns due = tells_none refl refl
