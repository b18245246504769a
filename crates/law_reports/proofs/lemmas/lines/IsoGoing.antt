-- No line of an isochronous endpoint ends it before it is given back: so it stays at each event of the driver.
use Rattle.std.proofs.Common.{◌≡◌, ◌≢◌, ℕ, Bool, true, false, cond, List, [], ◌∷◌, ◌++◌, length, take, set, slice_get}
use Rattle.std.proofs.Common.{Option, Some, None, option_map, ap, refl, sym, subst, ◌∙◌, ⊎_elim}
use Rattle.std.specs.List.{AllByRecursion}
use Rattle.std.proofs.lemmas.Bool.{cases_eq, cases_Bool, false≢true}
use Rattle.std.proofs.lemmas.Option.{same_Some}
use Rattle.law_queues.proofs.Common2.{not_same}
use Rattle.law_driver.proofs.Common.{get_queued}
use Rattle.law_common.proofs.Lists.{set_here}
use Rattle.law_queues.proofs.Common.{set_which}
use Rattle.usb_base.specs.declared.endpoints.EpDesc.{EpDesc}
use Rattle.usb_base.specs.declared.endpoints.EpName.{EpName}
use Rattle.usb_base.specs.declared.reports.Report.{Report}
use Rattle.usb_base.specs.declared.reports.What.TheVariants as lines
use Rattle.bus_wire.specs.Fates.{is_same_name}
use Rattle.claims_report.specs.Reports.{is_refusal, is_end}
use Rattle.claims_driver.specs.Owners.{is_descriptor}
use Rattle.claims_driver.specs.Leaving.{HasOwners}
use Rattle.drv_periodic_table.specs.Periodic.{note_at as periodic_note}
use Rattle.drv_periodic_table.specs.Descriptors.{told_bytes}
use Rattle.drv_periodic_table.specs.declared.content.Removed.TheVariants as removed
use Rattle.drv_table.specs.declared.content.Endpoint.{Endpoint}
use Rattle.drv_table.specs.declared.content.Transfer.{Transfer}
use Rattle.drv_table.specs.declared.rows.DriverRow.{DriverRow}
use Rattle.drv_table.specs.declared.rows.DriverRow.TheVariants as rows
use Rattle.drv_table.specs.declared.rows.Found.{Found}
use Rattle.drv_table.specs.declared.rows.Found.TheVariants as founds
use Rattle.drv_table.specs.DriverContent.{DriverContent}
use Rattle.drv_table.specs.Harvests.{reported}
use Rattle.drv_table.specs.Kinds.{is_iso}
use Rattle.drv_table.specs.Parts.{Parts}
use Rattle.drv_table.specs.Releases.{is_told, cancelled_bytes, after_endpoint}
use Rattle.drv_table.specs.Removals.{after_placed}
use Rattle.drv_table.specs.Rows.{after_driver_row}
use Rattle.law_footprints.specs.Changes.{EndpointChange, off_ring, off_frames, let_go, over, onward, EndpointsStep, same as none_changes, one as one_changes}
use Rattle.law_footprints.proofs.EndpointsChanged.{endpoints_step}
use Rattle.law_footprints.proofs.Fields.{reports_stays}
use Rattle.law_driver.specs.run_owners.Due.{IsHarvestDue, IsDue}
use Rattle.law_driver.specs.queued_drivers.Queued.{queued_endpoint, queued, queued_parts, QueuesTakeTurns}
use Rattle.law_driver.specs.queued_drivers.Rows.{IsToldAlike}
use Rattle.law_driver.proofs.lemmas.queued_drivers.CommandFields.{name_same}
use Rattle.law_driver.proofs.lemmas.queued_drivers.RowEvents.{row_told}
use Rattle.law_driver.proofs.lemmas.run_owners.Harvest.{waits_is}
use Rattle.law_structures.specs.lent_structures.Structures.{StructureSets}
use Rattle.law_ring.specs.Hand.{Hand}
use Rattle.law_queues.specs.told_endpoints.Telling.{named_of, lines_in, has_end}
use Rattle.law_queues.specs.harvest_laws.Told.{ToldStands}
use Rattle.law_queues.proofs.lemmas.leaving_drivers.Reading.{read_row}
use Rattle.law_queues.proofs.lemmas.leaving_drivers.Telling.{lines_not}
use Rattle.law_queues.proofs.lemmas.told_endpoints.Lines.{none_then, line_of_it}
use Rattle.law_queues.proofs.lemmas.told_endpoints.Names.{name_is_same}
use Rattle.law_queues.proofs.lemmas.told_endpoints.Tellings.{line_by}
use Rattle.law_reports.specs.lines.Lined.{AreIsoGoing}
use Rattle.law_reports.proofs.lemmas.lines.Described.{read_is, never_moved, never_ended}

-- ---- names are apart

abbrev pub AreApart : DriverContent → Type 0
AreApart d = (e k : ℕ) (x y : Endpoint) → slice_get d.endpoints e ≡ Some x → slice_get d.endpoints k ≡ Some y
    → is_same_name x.desc.name y.desc.name ≡ true → e ≡ k

pub told_apart : (d : DriverContent) (hand : Hand) (parts : StructureSets) (harvested : ℕ → List ℕ)
    → ToldStands (queued d) hand parts harvested
    → AreApart d
told_apart d hand parts harvested told e k x y one two same =
    told.tells.apart e k (named_of (queued_endpoint x)) (named_of (queued_endpoint y))
    (ap (option_map named_of) (get_queued d.endpoints e x one)) (ap (option_map named_of) (get_queued d.endpoints k y two))
    (ap (λ (n : EpName). is_same_name n (queued_endpoint y).desc.name) (name_same x)
    ∙ ap (is_same_name x.desc.name) (name_same y) ∙ same)

-- ---- an endpoint that wasn't given back was none before

record WasAlive (old : List Endpoint) (e : ℕ) (y : Endpoint) : Type 0 where
  endpoint : Endpoint
  here : slice_get old e ≡ Some endpoint
  desc : y.desc ≡ endpoint.desc
  alive : endpoint.gone ≡ false

changed : (old : List Endpoint) (e : ℕ) (x y : Endpoint) → slice_get old e ≡ Some x → EndpointChange x y → y.gone ≡ false → WasAlive old e y
changed old e x _ here off_ring kept = record { endpoint = x; here = here; desc = refl; alive = kept }
changed old e x _ here off_frames kept = record { endpoint = x; here = here; desc = refl; alive = kept }
changed old e x _ here let_go kept = absurd (false≢true (sym kept))
changed old e x _ here (over cause) kept = record { endpoint = x; here = here; desc = refl; alive = kept }
changed old e x _ here (onward t) kept = record { endpoint = x; here = here; desc = refl; alive = kept }

was_alive : (old new : List Endpoint) → EndpointsStep old new → (i : ℕ) (z : Endpoint) → slice_get new i ≡ Some z → z.gone ≡ false
    → WasAlive old i z
was_alive old _ none_changes i z here kept = record { endpoint = z; here = here; desc = refl; alive = kept }
was_alive old _ (one_changes e x y at change) i z here kept =
    ⊎_elim (λ (own : (i ≡ e) × (z ≡ y)).
    subst (λ (j : ℕ). WasAlive old j z) (sym own.0)
    (subst (WasAlive old e) (sym own.1) (changed old e x y at change (sym (ap (λ (v : Endpoint). v.gone) own.1) ∙ kept))))
    (λ (other : (i ≢ e) × (slice_get old i ≡ Some z)). record { endpoint = z; here = other.1; desc = refl; alive = kept })
    (set_which old e i x y z at here)

-- ---- lines of others

pub iso_still : (d f : DriverContent) → AreIsoGoing d → f.reports ≡ d.reports → EndpointsStep d.endpoints f.endpoints → AreIsoGoing f
iso_still d f going reports step e y here iso kept =
    let v = was_alive d.endpoints f.endpoints step e y here kept in
    ap (λ (c : EpDesc). has_end (lines_in c.name f.reports)) v.desc
    ∙ ap (λ (ls : List Report). has_end (lines_in v.endpoint.desc.name ls)) reports
    ∙ going e v.endpoint v.here (sym (ap (λ (c : EpDesc). is_iso c.kind) v.desc) ∙ iso) v.alive

module _ (d f : DriverContent) (going : AreIsoGoing d) (apart : AreApart d) (step : EndpointsStep d.endpoints f.endpoints) (e : ℕ)
    (x : Endpoint)
    (here : slice_get d.endpoints e ≡ Some x) where
  beside_goes : (more : List Report) → f.reports ≡ d.reports ++ more → AllByRecursion (λ (line : Report). line.name ≡ x.desc.name) more
      → (i : ℕ) (y : Endpoint) → i ≢ e → slice_get f.endpoints i ≡ Some y → is_iso y.desc.kind ≡ true → y.gone ≡ false
      → has_end (lines_in y.desc.name f.reports) ≡ false
  beside_goes more reports named i y differs there iso kept =
      let v = was_alive d.endpoints f.endpoints step i y there kept in
      let other : is_same_name x.desc.name v.endpoint.desc.name ≡ false =
      not_same x.desc.name v.endpoint.desc.name (is_same_name x.desc.name v.endpoint.desc.name) refl
      (λ alike. differs (sym (apart e i x v.endpoint here v.here alike))) in
      ap (λ (c : EpDesc). has_end (lines_in c.name f.reports)) v.desc
      ∙ ap (λ (ls : List Report). has_end (lines_in v.endpoint.desc.name ls)) reports
      ∙ ap has_end (lines_not v.endpoint.desc.name x.desc.name d.reports more named other)
      ∙ going i v.endpoint v.here (sym (ap (λ (c : EpDesc). is_iso c.kind) v.desc) ∙ iso) v.alive

  -- the endpoint has a queue, or it was given back
  pub iso_more : (more : List Report) → f.reports ≡ d.reports ++ more → AllByRecursion (λ (line : Report). line.name ≡ x.desc.name) more
      → ((y : Endpoint) → slice_get f.endpoints e ≡ Some y → is_iso y.desc.kind ≡ true → y.gone ≡ false → ⊥) → AreIsoGoing f
  iso_more more reports named none i y there iso kept =
      ⊎_elim (λ (is : i ≡ e). absurd (none y (sym (ap (slice_get f.endpoints) is) ∙ there) iso kept))
      (λ (differs : i ≢ e). beside_goes more reports named i y differs there iso kept) (cases_eq i e)

  -- it is isochronous, and goes on
  pub iso_goes : (line : Report) → f.reports ≡ d.reports ++ line ∷ [] → line.name ≡ x.desc.name → is_end line.what ≡ false
      → is_refusal line.what ≡ false → AreIsoGoing f
  iso_goes line reports named last tells i y there iso kept =
      ⊎_elim (λ (is : i ≡ e).
      let v = was_alive d.endpoints f.endpoints step i y there kept in
      let same : v.endpoint ≡ x = same_Some v.endpoint x (sym v.here ∙ ap (slice_get d.endpoints) is ∙ here) in
      let its : is_iso x.desc.kind ≡ true =
      sym (ap (λ (c : EpDesc). is_iso c.kind) (v.desc ∙ ap (λ (z : Endpoint). z.desc) same)) ∙ iso in
      let alive : x.gone ≡ false = sym (ap (λ (z : Endpoint). z.gone) same) ∙ v.alive in
      ap (λ (c : EpDesc). has_end (lines_in c.name f.reports)) (v.desc ∙ ap (λ (z : Endpoint). z.desc) same)
      ∙ ap (λ (ls : List Report). has_end (lines_in x.desc.name ls)) reports
      ∙ ap has_end (line_of_it x.desc.name d.reports line
      (line_by x.desc.name line true (ap (λ (n : EpName). is_same_name n x.desc.name) named ∙ name_is_same x.desc.name) tells))
      ∙ none_then (lines_in x.desc.name d.reports) line (going e x here its alive) last)
      (λ (differs : i ≢ e). beside_goes (line ∷ []) reports (named, tt) i y differs there iso kept) (cases_eq i e)

-- ---- each event

module _ (p : Parts) (going : AreIsoGoing p.driver) (apart : AreApart p.driver) where
  abbrev Goes : DriverRow → Type 0
  Goes row = AreIsoGoing (after_driver_row row p).driver

  goes_on : (row : DriverRow) → (after_driver_row row p).driver.reports ≡ p.driver.reports → Goes row
  goes_on row reports = iso_still p.driver (after_driver_row row p).driver going reports (endpoints_step row p p.driver.command refl)

  -- an endpoint is given back
  given : (row : DriverRow) (e : ℕ) (x : Endpoint) (bytes : List ℕ) (b : Bool) → slice_get p.driver.endpoints e ≡ Some x
      → (after_driver_row row p).driver.endpoints ≡ set p.driver.endpoints e (record x { gone = true })
      → (after_driver_row row p).driver.reports ≡ (cond b (reported p.driver lines.Cancel x.desc.name bytes) p.driver).reports → Goes row
  given row e x bytes false here ends reports = goes_on row reports
  given row e x bytes true here ends reports =
      iso_more p.driver (after_driver_row row p).driver going apart (endpoints_step row p p.driver.command refl) e x here
      ((record { name = x.desc.name; what = lines.Cancel; from = length p.driver.store; len = length bytes }) ∷ []) reports (refl, tt)
      (λ y there iso kept.
      false≢true (sym kept ∙ ap (λ (z : Endpoint). z.gone) (same_Some y (record x { gone = true })
      (sym there ∙ ap (λ (xs : List Endpoint). slice_get xs e) ends ∙ set_here p.driver.endpoints e x (record x { gone = true }) here))))

  released : (e : ℕ) (o : Option Endpoint) → slice_get p.driver.endpoints e ≡ o → Goes (rows.ReleaseEndpoint e)
  released e None none = goes_on (rows.ReleaseEndpoint e) (ap (λ (o : Option Endpoint). (after_endpoint p e o).driver.reports) none)
  released e (Some x) here =
      given (rows.ReleaseEndpoint e) e x (cancelled_bytes p.driver.notes p.memory e x.queue p.driver.transfers) (is_told x) here
      (ap (λ (o : Option Endpoint). (after_endpoint p e o).driver.endpoints) here
      ∙ ends_by (is_told x))
      (ap (λ (o : Option Endpoint). (after_endpoint p e o).driver.reports) here)
    where
      ends_by : (b : Bool) → set (cond b (reported p.driver lines.Cancel x.desc.name
          (cancelled_bytes p.driver.notes p.memory e x.queue p.driver.transfers)) p.driver).endpoints e (record x { gone = true })
          ≡ set p.driver.endpoints e (record x { gone = true })
      ends_by true = refl
      ends_by false = refl

  removed_end : (e : ℕ) (o : Option Endpoint) → slice_get p.driver.endpoints e ≡ o → Goes (rows.ReleaseRemoved (removed.Endpoint e))
  removed_end e None none =
      goes_on (rows.ReleaseRemoved (removed.Endpoint e)) (ap (λ (o : Option Endpoint). (after_placed p e o).driver.reports) none)
  removed_end e (Some x) here =
      given (rows.ReleaseRemoved (removed.Endpoint e)) e x (cancelled_bytes p.driver.notes p.memory e x.queue p.driver.transfers)
      (is_told x) here
      (ap (λ (o : Option Endpoint). (after_placed p e o).driver.endpoints) here ∙ ends_by (is_told x))
      (ap (λ (o : Option Endpoint). (after_placed p e o).driver.reports) here)
    where
      ends_by : (b : Bool) → set (cond b (reported p.driver lines.Cancel x.desc.name
          (cancelled_bytes p.driver.notes p.memory e x.queue p.driver.transfers)) p.driver).endpoints e (record x { gone = true })
          ≡ set p.driver.endpoints e (record x { gone = true })
      ends_by true = refl
      ends_by false = refl

  module _ (e t : ℕ) (found : Found) (due : IsHarvestDue p e t found) (owners : HasOwners p.driver) (turns : QueuesTakeTurns p.driver) where
    -- a descriptor is read
    described : is_descriptor due.transfer.sort ≡ true → (z : Found) → found ≡ z → Goes (rows.Harvest e t found)
    described is founds.Active same =
        goes_on (rows.Harvest e t found) (ap (λ (f : DriverContent). f.reports) (read_is p e t found due founds.Active same))
    described is (founds.Served errors) same =
        let bytes : List ℕ = take due.transfer.most
        (told_bytes (periodic_note p.driver.periodic.notes due.transfer.first) p.memory due.transfer.first) in
        let row : DriverRow = rows.Harvest e t found in
        iso_goes p.driver (after_driver_row row p).driver going apart (endpoints_step row p p.driver.command refl) e due.endpoint due.here
        (record { name = due.endpoint.desc.name; what = lines.Iso errors; from = length p.driver.store; len = length bytes })
        (ap (λ (f : DriverContent). f.reports) (read_is p e t found due (founds.Served errors) same)) refl refl refl
    described is (founds.Moved n) same = absurd (never_moved p e t found due is n same)
    described is (founds.Ended n what) same = absurd (never_ended p e t found due is n what same)

    -- a token of a qTD is
    told_qtds : is_descriptor due.transfer.sort ≡ false → Goes (rows.Harvest e t found)
    told_qtds moves =
        let row : DriverRow = rows.Harvest e t found in
        let at : slice_get p.driver.endpoints due.transfer.endpoint ≡ Some due.endpoint =
        ap (slice_get p.driver.endpoints) (waits_is e due.transfer due.waits).endpoint ∙ due.here in
        let queue : is_iso due.endpoint.desc.kind ≡ false =
        sym (owners.orderly.sorts t due.transfer due.endpoint due.there at) ∙ moves in
        let told : IsToldAlike p row =
        row_told row p owners turns due
        (λ y there. ap (λ (z : Transfer). is_descriptor z.sort) (same_Some y due.transfer (sym there ∙ due.there)) ∙ moves) in
        let l = (read_row (queued_parts p) e t found told.due turns.turns.asynchronous).leaves.lines in
        let x : Endpoint = told.due.endpoint in
        let same : x ≡ queued_endpoint due.endpoint =
        same_Some x (queued_endpoint due.endpoint) (sym told.due.here ∙ get_queued p.driver.endpoints e due.endpoint due.here) in
        iso_more p.driver (after_driver_row row p).driver going apart (endpoints_step row p p.driver.command refl) e due.endpoint due.here
        l.lines
        (ap (λ (q : Parts). q.driver.reports) told.same ∙ l.reports)
        (subst (λ (n : EpName). AllByRecursion (λ (line : Report). line.name ≡ n) l.lines)
        (ap (λ (z : Endpoint). z.desc.name) same ∙ name_same due.endpoint) l.named)
        (λ y there iso kept.
        let v = was_alive p.driver.endpoints (after_driver_row row p).driver.endpoints (endpoints_step row p p.driver.command refl) e y
        there kept in
        false≢true (sym queue ∙ sym (ap (λ (c : EpDesc). is_iso c.kind)
        (v.desc ∙ ap (λ (z : Endpoint). z.desc) (same_Some v.endpoint due.endpoint (sym v.here ∙ due.here)))) ∙ iso))

  pub row_goes : (row : DriverRow) → HasOwners p.driver → QueuesTakeTurns p.driver → IsDue p row
      → AreIsoGoing (after_driver_row row p).driver
  row_goes (rows.ReleaseRemoved (removed.Endpoint e)) owners turns due = removed_end e (slice_get p.driver.endpoints e) refl
  row_goes (rows.ReleaseEndpoint e) owners turns due = released e (slice_get p.driver.endpoints e) refl
  row_goes (rows.Harvest e t found) owners turns due =
      ⊎_elim (λ (is : is_descriptor due.transfer.sort ≡ true). described e t found due owners turns is found refl)
      (λ (is : is_descriptor due.transfer.sort ≡ false). told_qtds e t found due owners turns is)
      (cases_Bool (is_descriptor due.transfer.sort))
  row_goes row owners turns due = goes_on row (reports_stays row p p.driver.command refl refl)
