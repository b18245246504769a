-- An event of the frame list or of isochronous descriptors: the report has no line more, or one of an isochronous endpoint, and tells the
-- same of each bulk and interrupt endpoint.
use Rattle.std.proofs.Common.{◌≡◌, ◌≢◌, ℕ, Bool, true, false, cond, List, [], ◌∷◌, ◌++◌, length, take, slice_get, Option, Some, None, option_map, ap, refl, sym, ◌∙◌, ⊎_elim}
use Rattle.std.specs.Prelude.{◌==◌, ◌&&◌, not, is_some}
use Rattle.std.proofs.lemmas.Bool.{cases_Bool, eq-eqb, false≢true}
use Rattle.std.proofs.lemmas.Option.{slice_get-map, same_Some}
use Rattle.usb_base.specs.declared.endpoints.EpName.{EpName}
use Rattle.usb_base.specs.declared.endpoints.EndCause.{EndCause}
use Rattle.usb_base.specs.declared.reports.Report.{Report}
use Rattle.usb_base.specs.declared.reports.What.{What}
use Rattle.usb_base.specs.declared.reports.What.TheVariants as lines
use Rattle.claims_report.specs.Reports.{is_refusal}
use Rattle.claims_report.specs.Streams.{told_in, ends_once}
use Rattle.claims_driver.specs.Owners.{is_descriptor}
use Rattle.claims_driver.specs.Leaving.{HasOwners}
use Rattle.drv_periodic_table.specs.Periodic.{note_at as periodic_note}
use Rattle.drv_periodic_table.specs.Descriptors.{told_bytes}
use Rattle.drv_periodic_table.specs.declared.content.Removed.TheVariants as removed
use Rattle.drv_table.specs.declared.content.Endpoint.{Endpoint}
use Rattle.drv_table.specs.declared.rows.DriverRow.{DriverRow}
use Rattle.drv_table.specs.declared.rows.DriverRow.TheVariants as rows
use Rattle.drv_table.specs.declared.rows.Found.{Found}
use Rattle.drv_table.specs.declared.rows.Found.TheVariants as founds
use Rattle.drv_table.specs.DriverContent.{DriverContent}
use Rattle.drv_table.specs.Harvests.{reported}
use Rattle.drv_table.specs.Kinds.{is_iso}
use Rattle.drv_table.specs.Parts.{Parts}
use Rattle.drv_table.specs.Releases.{ended_by_cancel, is_told, cancelled_bytes}
use Rattle.drv_table.specs.Removals.{after_placed}
use Rattle.drv_table.specs.Rows.{driver_row, after_driver_row}
use Rattle.law_driver.specs.run_owners.Due.{IsHarvestDue, IsDue}
use Rattle.law_driver.proofs.lemmas.run_owners.Harvest.{waits_is}
use Rattle.law_driver.proofs.lemmas.run_owners.Reasons.{each_event_is_due}
use Rattle.law_driver.proofs.lemmas.run_owners.Released.{same_by_test}
use Rattle.law_driver.specs.endpoint_lives.Lives.{told_end}
use Rattle.law_driver.specs.queued_drivers.Queued.{without_queue, with_queue, queued_endpoint, queued, QueuesTakeTurns}
use Rattle.law_driver.specs.queued_drivers.Rows.{QueuesAlike, TellsAlike, IsOfFrames}
use Rattle.law_driver.proofs.lemmas.queued_drivers.RowFrames.{frames_leave}
use Rattle.law_structures.specs.lent_structures.Structures.{StructureSets}
use Rattle.law_ring.specs.Hand.{Hand}
use Rattle.law_queues.specs.told_endpoints.Telling.{Named, named_of, named_in, lines_in, has_end, IsToldTo}
use Rattle.law_queues.specs.harvest_laws.Told.{ToldStands}
use Rattle.law_queues.proofs.lemmas.harvest_laws.Standing.{alike_is_told}
use Rattle.law_queues.proofs.lemmas.told_endpoints.Lines.{once_then, line_of_it}
use Rattle.law_queues.proofs.lemmas.told_endpoints.Names.{name_is_same}
use Rattle.law_queues.proofs.lemmas.told_endpoints.Tellings.{line_by, line_placed}
use Rattle.law_world.specs.memory.Mixed.{Standing, IsMixedAt}
use Rattle.law_world.specs.memory.Steps.{AreStill}
use Rattle.bus_world.specs.World.{World, driver_parts, driver_next}
use Rattle.law_reports.specs.lines.Lined.{in_hand, Lines, IsTelling, AreIsoGoing}
use Rattle.law_reports.proofs.lemmas.lines.Described.{read_is, never_moved, never_ended}
use Rattle.law_reports.proofs.lemmas.lines.ToldStays.{same_told, alike_there, still_telling}

-- ---- one line more of an isochronous endpoint

beside_by : (b : Bool) (here beside : List ℕ) → b ≡ false → cond b here beside ≡ beside
beside_by b here beside is = ap (λ (c : Bool). cond c here beside) is

not_eq : (i e : ℕ) (b : Bool) → (i == e) ≡ b → i ≢ e → (i == e) ≡ false
not_eq i e true is differs = absurd (differs (same_by_test i e is))
not_eq i e false is differs = is

module _ (d : DriverContent) (e : ℕ) (x : Endpoint) (here : slice_get d.endpoints e ≡ Some x) (iso : is_iso x.desc.kind ≡ true) where
  pub gone_at : slice_get (queued d).endpoints e ≡ Some (without_queue x)
  gone_at =
      slice_get-map queued_endpoint d.endpoints e ∙ ap (option_map queued_endpoint) here
      ∙ ap (λ (b : Bool). Some (cond b (without_queue x) (with_queue x))) iso

  not_there : (i : ℕ) (y : Endpoint) → i ≡ e → slice_get (queued d).endpoints i ≡ Some y → y.gone ≡ false → ⊥
  not_there i y is there kept =
      false≢true (sym kept ∙ ap (λ (z : Endpoint). z.gone) (same_Some y (without_queue x)
      (sym there ∙ ap (slice_get (queued d).endpoints) is ∙ gone_at)))

  pub iso_line : (hand : Hand) (parts : StructureSets) (harvested : ℕ → List ℕ) (what : What) (bytes : List ℕ) → is_refusal what ≡ false
      → has_end (lines_in x.desc.name d.reports) ≡ false → ToldStands (queued d) hand parts harvested
      → ToldStands (reported (queued d) what x.desc.name bytes) hand parts harvested
  iso_line hand parts harvested what bytes tells none k =
      let line : Report = record { name = x.desc.name; what = what; from = length d.store; len = length bytes } in
      let more : List Report = d.reports ++ line ∷ [] in
      let store : List ℕ = d.store ++ bytes in
      let named : ℕ → Option Named = named_in (queued d).endpoints in
      let u : Named = named_of (without_queue x) in
      let at : named e ≡ Some u = ap (option_map named_of) gone_at in
      let own : List ℕ = told_in store (lines_in x.desc.name more) ++ k.held e in
      let now : ℕ → List ℕ = λ i. cond (i == e) own (k.told i) in
      record {
        held = k.held;
        told = now;
        holds = record {
          next = λ i t y z n. k.holds.next i t y z (record {
            endpoint = n.endpoint;
            going = n.going;
            next = n.next;
            transfer = n.transfer;
          });
          none = k.holds.none;
          to_come = k.holds.to_come;
          within = k.holds.within;
        };
        tells = line_placed d.reports d.store bytes named named k.held k.held k.told now e u u line at
            (record { here = at; beside = λ i differs. refl }) refl refl
            tells refl refl (λ i differs. refl) (λ i differs. beside_by (i == e) own (k.told i) (not_eq i e (i == e) refl differs))
            (λ on.
            let was : IsToldTo d.reports d.store u (k.held e) (k.told e) = k.tells.each e u at on in
            let lines_now : lines_in x.desc.name more ≡ lines_in x.desc.name d.reports ++ line ∷ [] =
            line_of_it x.desc.name d.reports line (line_by x.desc.name line true (name_is_same x.desc.name) tells) in
            record {
              sum = sym (ap (λ (b : Bool). cond b own (k.told e)) (eq-eqb e e refl));
              going = λ going. absurd (never_none going);
              over = λ cause ended. (
                (was.over cause ended).0,
                ap ends_once lines_now
                    ∙ once_then (lines_in x.desc.name d.reports) line none,
              );
            })
            k.tells;
        met = λ i y there meets.
            beside_by (i == e) own (k.told i) (not_eq i e (i == e) refl (λ is. not_there i y is there meets.kept))
            ∙ k.met i y there (record { linked = meets.linked; kept = meets.kept });
        opening = λ i y there kept opens.
            beside_by (i == e) own (k.told i) (not_eq i e (i == e) refl (λ is. not_there i y is there kept))
            ∙ k.opening i y there kept opens;
      }
    where
      never_none : told_end (without_queue x) ≡ None → ⊥
      never_none is = cc

-- ---- each event of frames

-- the report of f is this one
by_line : (d f : DriverContent) (what : What) (name : EpName) (bytes : List ℕ) (hand : Hand) (parts : StructureSets)
    (harvested : ℕ → List ℕ)
    → QueuesAlike (queued d) (queued f) → f.reports ≡ (reported d what name bytes).reports → f.store ≡ (reported d what name bytes).store
    → ToldStands (reported (queued d) what name bytes) hand parts harvested → ToldStands (queued f) hand parts harvested
by_line d f what name bytes hand parts harvested k reports store told =
    alike_is_told (reported (queued d) what name bytes) (queued f) hand parts harvested
    (record { reports = reports; store = store; endpoints = k.endpoints; transfers = k.transfers; notes = k.notes })
    (λ x there. record { linked = λ is. there.linked (k.command ∙ is); kept = there.kept }) (λ x is. sym k.command ∙ is) told

pub told_alive : (x : Endpoint) → is_told x ≡ true → x.gone ≡ false
told_alive x on = by (ended_by_cancel x.ended) x.cancelled x.gone on
  where
    by : (a b g : Bool) → (a && b && not g) ≡ true → g ≡ false
    by a b false is = refl
    by true true true is = absurd (false≢true is)
    by true false true is = absurd (false≢true is)
    by false true true is = absurd (false≢true is)
    by false false true is = absurd (false≢true is)

module _ (p : Parts) (hand : Hand) (parts : StructureSets) (harvested : ℕ → List ℕ) (going : AreIsoGoing p.driver)
    (told : ToldStands (queued p.driver) hand parts harvested) where
  abbrev After : DriverRow → Type 0
  After row = QueuesAlike (queued p.driver) (queued (after_driver_row row p).driver)
      → ToldStands (queued (after_driver_row row p).driver) hand parts harvested

  same_after : (row : DriverRow) → TellsAlike (queued p.driver) (queued (after_driver_row row p).driver) → After row
  same_after row tells k = same_told (queued p.driver) (queued (after_driver_row row p).driver) hand parts harvested k tells told

  -- a descriptor is read
  module _ (e t : ℕ) (found : Found) (due : IsHarvestDue p e t found) (descriptor : is_descriptor due.transfer.sort ≡ true)
      (owners : HasOwners p.driver) where
    iso : is_iso due.endpoint.desc.kind ≡ true
    iso =
        sym (owners.orderly.sorts t due.transfer due.endpoint due.there
        (ap (slice_get p.driver.endpoints) (waits_is e due.transfer due.waits).endpoint ∙ due.here))
        ∙ descriptor

    alive : due.endpoint.gone ≡ false
    alive =
        let steady = owners.orderly.steady e due.endpoint due.here in
        ⊎_elim (λ (g : due.endpoint.gone ≡ true).
        absurd (false≢true (ap (λ (o : Option EndCause). is_some o) (sym due.goes_on) ∙ steady.ended (steady.gone g).0 (steady.gone g).1)))
        (λ (g : due.endpoint.gone ≡ false). g) (cases_Bool due.endpoint.gone)

    read_told : (z : Found) → found ≡ z → After (rows.Harvest e t found)
    read_told founds.Active is k =
        let same = read_is p e t found due founds.Active is in
        same_after (rows.Harvest e t found) (record {
          reports = ap (λ (f : DriverContent). f.reports) same;
          store = ap (λ (f : DriverContent). f.store) same;
        }) k
    read_told (founds.Served errors) is k =
        let same = read_is p e t found due (founds.Served errors) is in
        let x : Endpoint = due.endpoint in
        let bytes : List ℕ =
        take due.transfer.most (told_bytes (periodic_note p.driver.periodic.notes due.transfer.first) p.memory due.transfer.first) in
        by_line p.driver (after_driver_row (rows.Harvest e t found) p).driver (lines.Iso errors) x.desc.name bytes hand parts harvested k
        (ap (λ (f : DriverContent). f.reports) same) (ap (λ (f : DriverContent). f.store) same)
        (iso_line p.driver e x due.here iso hand parts harvested (lines.Iso errors) bytes refl (going e x due.here iso alive) told)
    read_told (founds.Moved n) is k = absurd (never_moved p e t found due descriptor n is)
    read_told (founds.Ended n what) is k = absurd (never_ended p e t found due descriptor n what is)

  -- an isochronous endpoint is given back
  cancel_line : (e : ℕ) (x : Endpoint) (b : Bool) → is_told x ≡ b → slice_get p.driver.endpoints e ≡ Some x → is_iso x.desc.kind ≡ true
      → After (rows.ReleaseRemoved (removed.Endpoint e))
  cancel_line e x false off here kind k =
      let row : DriverRow = rows.ReleaseRemoved (removed.Endpoint e) in
      let bytes : List ℕ = cancelled_bytes p.driver.notes p.memory e x.queue p.driver.transfers in
      same_after row (record {
        reports = ap (λ (o : Option Endpoint). (after_placed p e o).driver.reports) here
            ∙ ap (λ (c : Bool). (cond c (reported p.driver lines.Cancel x.desc.name bytes) p.driver).reports) off;
        store = ap (λ (o : Option Endpoint). (after_placed p e o).driver.store) here
            ∙ ap (λ (c : Bool). (cond c (reported p.driver lines.Cancel x.desc.name bytes) p.driver).store) off;
      }) k
  cancel_line e x true on here kind k =
      let row : DriverRow = rows.ReleaseRemoved (removed.Endpoint e) in
      let bytes : List ℕ = cancelled_bytes p.driver.notes p.memory e x.queue p.driver.transfers in
      by_line p.driver (after_driver_row row p).driver lines.Cancel x.desc.name bytes hand parts harvested k
      (ap (λ (o : Option Endpoint). (after_placed p e o).driver.reports) here
      ∙ ap (λ (c : Bool). (cond c (reported p.driver lines.Cancel x.desc.name bytes) p.driver).reports) on)
      (ap (λ (o : Option Endpoint). (after_placed p e o).driver.store) here
      ∙ ap (λ (c : Bool). (cond c (reported p.driver lines.Cancel x.desc.name bytes) p.driver).store) on)
      (iso_line p.driver e x here kind hand parts harvested lines.Cancel bytes refl
      (going e x here kind (told_alive x on)) told)

  given_line : (e : ℕ) (o : Option Endpoint) → slice_get p.driver.endpoints e ≡ o → IsOfFrames p (rows.ReleaseRemoved (removed.Endpoint e))
      → After (rows.ReleaseRemoved (removed.Endpoint e))
  given_line e None none of k =
      same_after (rows.ReleaseRemoved (removed.Endpoint e)) (record {
        reports = ap (λ (o : Option Endpoint). (after_placed p e o).driver.reports) none;
        store = ap (λ (o : Option Endpoint). (after_placed p e o).driver.store) none;
      }) k
  given_line e (Some x) here of k = cancel_line e x (is_told x) refl here (of x here) k

  pub frame_told : (row : DriverRow) → HasOwners p.driver → QueuesTakeTurns p.driver → IsDue p row → IsOfFrames p row → After row
  frame_told (rows.ReleaseRemoved (removed.Endpoint e)) owners turns due of k = given_line e (slice_get p.driver.endpoints e) refl of k
  frame_told (rows.Harvest e t found) owners turns due of k = read_told e t found due (of due.transfer due.there) owners found refl k
  frame_told row owners turns due of k = same_after row ((frames_leave row p owners turns due of).tells refl) k

pub frame_tells : (s t : Standing) (m : Lines) (w : World) → IsMixedAt s w → IsTelling s m w → AreIsoGoing w.driver → AreStill s t
    → QueuesAlike (queued w.driver) (queued (driver_next w).driver) → IsOfFrames (driver_parts w) (driver_row (driver_parts w))
    → IsTelling t m (driver_next w)
frame_tells s t m w k g going still alike of =
    still_telling s t m w (driver_next w) still
    (frame_told (driver_parts w) (in_hand s) s.parts m.reported going g.told (driver_row (driver_parts w)) k.now.framed.place.sound.owners
    k.turns
    (each_event_is_due (driver_parts w)) of alike)
    (alike_there (queued w.driver) (queued (driver_next w).driver) alike) g
