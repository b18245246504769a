-- What the line of the cancel of an endpoint that was given back tells stays, and is told where it is given back.
use Rattle.std.proofs.Common.{◌≡◌, ◌≢◌, ℕ, zero, suc, if◌then◌else◌, ◌*◌, ◌&&◌, not, Bool, true, false, cond, List, [], ◌∷◌, length, drop}
use Rattle.std.proofs.Common.{map}
use Rattle.std.proofs.Common.{slice_get, Option, Some, None, ap, refl, sym, subst, ◌∙◌, ⊎_elim, inl, inr, arith}
use Rattle.std.specs.Prelude.{◌⊎◌}
use Rattle.std.proofs.lemmas.Bool.{false≢true, true≢false, cases_eq}
use Rattle.std.proofs.lemmas.Option.{same_Some}
use Rattle.std.proofs.lemmas.List.{length-append}
use Rattle.law_descriptors.proofs.Returning.{none_some}
use Rattle.law_driver.proofs.Common.{get_queued, of_queue}
use Rattle.usb_base.specs.declared.endpoints.EpDesc.{EpDesc}
use Rattle.usb_base.specs.declared.endpoints.EpName.{EpName}
use Rattle.usb_base.specs.declared.packets.EpKind.{EpKind}
use Rattle.usb_base.specs.declared.packets.EpKind.TheVariants as kinds
use Rattle.usb_base.specs.declared.reports.Report.{Report}
use Rattle.usb_base.specs.declared.reports.What.TheVariants.{Cancel}
use Rattle.bus_wire.specs.Bus.{Fixed}
use Rattle.report_text.specs.ReportText.{bytes_of}
use Rattle.claims_driver.specs.Leaving.{leaves_frames}
use Rattle.claims_report.specs.Requests.{Request, AreBegun}
use Rattle.claims_world.specs.Requests.{Windows, numbers_of}
use Rattle.drv_periodic_table.specs.declared.content.Removed.TheVariants as removed
use Rattle.drv_periodic_table.specs.Periodic.{is_periodic}
use Rattle.drv_table.specs.declared.content.Command.TheVariants as unfinished
use Rattle.drv_table.specs.declared.content.Endpoint.{Endpoint}
use Rattle.drv_table.specs.declared.rows.DriverRow.{DriverRow}
use Rattle.drv_table.specs.declared.rows.DriverRow.TheVariants as rows
use Rattle.drv_table.specs.DriverContent.{DriverContent}
use Rattle.drv_table.specs.Harvests.{reported}
use Rattle.drv_table.specs.Kinds.{is_iso}
use Rattle.drv_table.specs.Parts.{Parts}
use Rattle.drv_table.specs.Releases.{ended_by_cancel, is_told, cancelled_bytes, after_endpoint}
use Rattle.drv_table.specs.Rows.{driver_row}
use Rattle.drv_table.specs.Words.{is_control}
use Rattle.law_driver.specs.queued_drivers.Queued.{queued_desc, with_queue, queued_endpoint, queued}
use Rattle.law_driver.specs.run_owners.Due.{IsRemovalDue}
use Rattle.law_driver.proofs.lemmas.queued_drivers.CommandFields.{name_same}
use Rattle.law_driver.proofs.lemmas.run_owners.Reasons.{each_event_is_due}
use Rattle.law_queues.proofs.lemmas.told_endpoints.Lines.{bytes_more}
use Rattle.law_queues.specs.cancelled_bytes.Cancelled.{SettlesElsewhere}
use Rattle.law_queues.specs.told_endpoints.Telling.{lines_in}
use Rattle.law_world.specs.memory.Mixed.{Standing, IsMixedAt}
use Rattle.law_world.specs.memory.Steps.{told_parts, LeftBy, left_the_ring, left_its_frames, IsGivenBack, IsWithout, given_by}
use Rattle.law_world.specs.memory.Steps.{QueueStep, stays, harvests, returns, lends, stores, mends, begins, opens, unlinks, narrows, goes}
use Rattle.law_world.specs.steps.endpoint_releases.Released.{IsToLeave}
use Rattle.law_world.proofs.lemmas.memory.HarvestKept.{owners_of}
use Rattle.law_world.proofs.lemmas.memory.RingBasis.{due_is}
use Rattle.law_world.proofs.lemmas.memory.RingReleasing.{was}
use Rattle.law_world.proofs.lemmas.steps.lemmas.left_queues.Unmet.{cleared_is}
use Rattle.bus_world.specs.World.{World, driver_parts, driver_next}
use Rattle.law_reports.specs.lines.Lined.{in_hand}
use Rattle.law_reports.specs.pipes.Declared.{Sides as Pipes}
use Rattle.law_reports.proofs.lemmas.lines.ToldGoes.{IsKnown, known}
use Rattle.law_reports.proofs.lemmas.pipes.Across.{WasIn, was_in, row_ends}
use Rattle.law_reports.proofs.lemmas.pipes.Leaving.{IsNoReturn, step_keeps}
use Rattle.law_reports.specs.requests.Asking.{Sides}
use Rattle.law_reports.specs.requests.HighAsking.{HasHighAsks}
use Rattle.law_reports.specs.requests.LeftStays.{HasLeft}
use Rattle.law_reports.specs.requests.Telling.{IsUncancelled}
use Rattle.law_reports.specs.requests.told_requests.Told.{has_cancel}
use Rattle.law_reports.proofs.lemmas.requests.CancelledTold.{names_apart, told as told_as}
use Rattle.law_reports.proofs.lemmas.requests.HighLeft.{first_removed, periodic_by}
use Rattle.law_reports.proofs.lemmas.requests.HighWindows.{numbers_told}
use Rattle.law_reports.proofs.lemmas.requests.lemmas.driver_requests.RowOrder.{row_numbers}
use Rattle.law_reports.specs.requests.LeftTold.{RestHasBegun, IsLeftToTell, AreLeftToTell, IsCancelTold, AreCancelsTold}
use Rattle.law_reports.proofs.lemmas.requests.LeftGoes.{bytes_begun, line_told}
use Rattle.law_reports.proofs.lemmas.requests.LeftLines.{LinesStay, TellsNot, row_keeps_lines}

abbrev pub IsToldOrNot : DriverContent → (ℕ → Request) → ℕ → EpName → (Request → List ℕ) → Type 0
IsToldOrNot d asks e name whole = IsUncancelled name d ⊎ IsCancelTold d asks e name whole

-- ---- where its lines stay

pub stays_told : (d f : DriverContent) (asks now : ℕ → Request) (e : ℕ) (name : EpName) (whole : Request → List ℕ) → LinesStay d f name
    → numbers_of f e ≡ numbers_of d e → map now (numbers_of d e) ≡ map asks (numbers_of d e) → IsToldOrNot d asks e name whole
    → IsToldOrNot f now e name whole
stays_told d f asks now e name whole l numbers same k =
    ⊎_elim (λ (none : IsUncancelled name d). inl (ap has_cancel l.lines ∙ none))
    (λ (c : IsCancelTold d asks e name whole).
    inr (record {
      before = c.before;
      line = c.line;
      lines = l.lines ∙ c.lines;
      none = c.none;
      is = c.is;
      stored = let long = length-append d.store l.bytes in let all = ap (λ (bs : List ℕ). length bs) l.store in let was = c.stored in
          omega (arith, long, all, was);
      begun = subst (λ (bs : List ℕ). AreBegun bs (map (λ t. whole (now t)) (drop (length c.before) (numbers_of f e))))
          (sym (ap (bytes_of c.line) l.store ∙ bytes_more c.line d.store l.bytes c.stored))
          (subst (λ (ts : List ℕ). AreBegun (bytes_of c.line d.store) (map (λ t. whole (now t)) (drop (length c.before) ts))) (sym numbers)
          (subst (AreBegun (bytes_of c.line d.store)) (sym (dropped (length c.before) (numbers_of d e) same)) c.begun));
    })) k
  where
    dropped : (n : ℕ) (ts : List ℕ) → map now ts ≡ map asks ts
        → map (λ t. whole (now t)) (drop n ts) ≡ map (λ t. whole (asks t)) (drop n ts)
    dropped n ts is = fused now (drop n ts) ∙ ap (map whole) (map_dropped n ts is) ∙ sym (fused asks (drop n ts))
      where
        fused : (f : ℕ → Request) (us : List ℕ) → map (λ t. whole (f t)) us ≡ map whole (map f us)
        fused f [] = refl
        fused f (u ∷ us) = ap (λ (xs : List (List ℕ)). whole (f u) ∷ xs) (fused f us)

        map_dropped : (n : ℕ) (us : List ℕ) → map now us ≡ map asks us → map now (drop n us) ≡ map asks (drop n us)
        map_dropped zero us is = is
        map_dropped (suc n) [] is = refl
        map_dropped (suc n) (u ∷ us) is = map_dropped n us (ap (drop 1) is)

-- ---- an event of the driver

untold_gone : (a b c : Bool) → c ≡ true → (a && b && not c) ≡ false
untold_gone a b c gone = ap (λ (g : Bool). a && b && not g) gone ∙ by a b
  where
    by : (a b : Bool) → (a && b && false) ≡ false
    by true true = refl
    by true false = refl
    by false true = refl
    by false false = refl

tells_not : (row : DriverRow) (i : ℕ) (y : Endpoint) → is_told y ≡ false → TellsNot row i y
tells_not (rows.ReleaseEndpoint e) i y untold = λ own. untold
tells_not (rows.ReleaseRemoved (removed.Endpoint e)) i y untold = λ own. untold
tells_not (rows.ReleaseRemoved (removed.Descriptor t)) i y untold = tt
tells_not _ i y untold = tt

no_periodic : (kind : EpKind) → is_control kind ≡ true → is_periodic kind ≡ true → ⊥
no_periodic kinds.Control on periodic = false≢true periodic
no_periodic kinds.Bulk on periodic = false≢true on
no_periodic kinds.Interrupt on periodic = false≢true on
no_periodic kinds.Iso on periodic = false≢true on

module _ (g : Sides) (fixed : Fixed) (p : Pipes) (v : Windows) (asks : ℕ → Request) (w : World) (h : HasHighAsks g fixed p v asks w)
    (to : AreLeftToTell g h.standing asks w) (k : AreCancelsTold g asks w) (e : ℕ) (z : Endpoint)
    (there : slice_get (driver_next w).driver.endpoints e ≡ Some z) (control : is_control z.desc.kind ≡ true)
    (on : g.asks (queued_desc z.desc) ≡ true) (gone : z.gone ≡ true) where
  abbrev s : Standing
  s = h.standing

  mixed : IsMixedAt h.standing w
  mixed = h.piped.mixed

  abbrev Then : Type 0
  Then = IsToldOrNot (driver_next w).driver asks e z.desc.name (g.whole z.desc.name)

  pub before : WasIn w.driver.endpoints e z
  before = was_in w.driver.endpoints (driver_next w).driver.endpoints (row_ends (driver_row (driver_parts w)) (driver_parts w)) e z there

  abbrev y : Endpoint
  y = before.endpoint

  control_was : is_control y.desc.kind ≡ true
  control_was = ap (λ (c : EpDesc). is_control c.kind) (sym before.comes.desc) ∙ control

  on_was : g.asks (queued_desc y.desc) ≡ true
  on_was = ap (λ (c : EpDesc). g.asks (queued_desc c)) (sym before.comes.desc) ∙ on

  as_queue : queued_endpoint y ≡ with_queue y
  as_queue = told_as g fixed p v asks w h e y before.here control_was on_was

  at : slice_get (queued w.driver).endpoints e ≡ Some (queued_endpoint y)
  at = get_queued w.driver.endpoints e y before.here

  numbers : numbers_of (driver_next w).driver e ≡ numbers_of w.driver e
  numbers = row_numbers (driver_parts w) (driver_row (driver_parts w)) e

  -- ---- it was given back before

  gone_before : y.gone ≡ true → Then
  gone_before old =
      let stands = mixed.turns.turns.asynchronous.endpoints e (queued_endpoint y) at in
      let ended : y.ended ≢ None = λ none.
      stands.ended (stands.unlinked (stands.gone (ap (λ (x : Endpoint). x.gone) as_queue ∙ old)))
      (ap (λ (x : Endpoint). x.ended) as_queue ∙ none) in
      let l : LinesStay w.driver (driver_next w).driver y.desc.name =
      row_keeps_lines (driver_parts w) e y before.here ended (names_apart g fixed p v asks w h) (driver_row (driver_parts w))
      (tells_not (driver_row (driver_parts w)) e y (untold_gone
      (ended_by_cancel y.ended) y.cancelled y.gone old)) mixed.now.framed.place.sound.owners mixed.turns
      (each_event_is_due (driver_parts w)) in
      subst (λ (c : EpDesc). IsToldOrNot (driver_next w).driver asks e c.name (g.whole c.name)) (sym before.comes.desc)
      (stays_told w.driver (driver_next w).driver asks asks e y.desc.name (g.whole y.desc.name) l numbers refl
      (k.each e y before.here control_was on_was old))

  -- ---- it is given back by this event

  module _ (kept : y.gone ≡ false) where
    abbrev x : Endpoint
    x = queued_endpoint y

    kept_told : (queued_endpoint y).gone ≡ false
    kept_told = ap (λ (u : Endpoint). u.gone) as_queue ∙ kept

    asked : g.asks (queued_endpoint y).desc ≡ true
    asked = ap (λ (u : Endpoint). g.asks u.desc) as_queue ∙ on_was

    no_iso : is_iso y.desc.kind ≡ false
    no_iso = control_iso_off y.desc.kind control_was
      where
        control_iso_off : (kind : EpKind) → is_control kind ≡ true → is_iso kind ≡ false
        control_iso_off kinds.Control is = refl
        control_iso_off kinds.Bulk is = refl
        control_iso_off kinds.Interrupt is = refl
        control_iso_off kinds.Iso is = absurd (false≢true is)

    by_other : (t : Standing) (step : QueueStep h.standing w (driver_next w) t) → IsNoReturn step → Then
    by_other t step other =
        absurd (true≢false (sym (step_keeps s w mixed t step other e y z before.here there no_iso
        (ap (λ (c : EpDesc). is_iso c.kind) before.comes.desc ∙ no_iso) gone) ∙ kept))

    module _ (i : ℕ) (c : Endpoint) (d : DriverContent) (back : IsGivenBack w (driver_next w) i c d) where
      what : IsKnown w i c d
      what = known s w mixed i c d back.left back.leaves

      -- it is that one
      same_number : e ≡ i
      same_number = ⊎_elim (λ (is : e ≡ i). is) (λ (differs : e ≢ i). absurd (other differs)) (cases_eq e i)
        where
          other : e ≢ i → ⊥
          other differs =
              let now : slice_get (given_by (told_parts w) i d).endpoints e ≡ Some (queued_endpoint z) =
              sym (ap (λ (es : List Endpoint). slice_get es e) back.told.endpoints)
              ∙ get_queued (driver_next w).driver.endpoints e z there in
              let old : slice_get d.endpoints e ≡ Some (queued_endpoint z) =
              was (record (told_parts w) { driver = d }) i c back.leaves.here e (queued_endpoint z) now differs in
              let b = what.before.ends e (queued_endpoint z) old in
              let one : b.endpoint ≡ queued_endpoint y = same_Some b.endpoint (queued_endpoint y) (sym b.here ∙ at) in
              true≢false (sym gone ∙ sym (ap (λ (u : Endpoint). u.gone) (of_queue z (ap
              (λ (r : EpDesc). is_iso r.kind) before.comes.desc ∙ no_iso)))
              ∙ b.gone ∙ ap (λ (u : Endpoint). u.gone) one ∙ kept_told)

    -- no control endpoint leaves frames
    no_frames : (i : ℕ) → e ≡ i → driver_row (driver_parts w) ≡ rows.ReleaseRemoved (removed.Endpoint i) → ⊥
    no_frames i own row =
        let due : IsRemovalDue (driver_parts w) (removed.Endpoint i) = due_is s w mixed (rows.ReleaseRemoved (removed.Endpoint i)) row in
        let some = first_removed w.driver.periodic.removals due.removal i due.first due.is in
        let most = mixed.now.framed.place.sound.owners.orderly.removed i in
        let place = ap leaves_frames (ap (slice_get w.driver.endpoints) (sym own) ∙ before.here) in
        no_periodic y.desc.kind control_was (periodic_by y.chained y.gone (is_periodic y.desc.kind) (omega (arith, some, most, place)))

    module _ (row : driver_row (driver_parts w) ≡ rows.ReleaseEndpoint e) (leaves : IsToLeave (queued w.driver) e (queued_endpoint y))
        (tells : IsKnown w e (queued_endpoint y) (queued w.driver)) (settled : SettlesElsewhere (in_hand h.standing) (32 *
        (queued_endpoint y).queue)) where
      abbrev q : Parts
      q = told_parts w

      left : HasLeft (queued w.driver) e (queued_endpoint y)
      left = record {
        here = leaves.here;
        there = record { linked = λ opens. none_some (unfinished.Open x.queue) (sym tells.idle ∙ opens); kept = leaves.held };
        unmet = (cleared_is (queued w.driver) 0 e x (owners_of s w mixed).orderly leaves.first leaves.here).near;
      }

      told : IsLeftToTell g h.standing asks (queued w.driver) e (queued_endpoint y)
      told = to.each e x left asked

      abbrev bytes : List ℕ
      bytes = cancelled_bytes w.driver.notes w.memory e (queued_endpoint y).queue (queued w.driver).transfers

      abbrev lined : Bool → DriverContent
      lined b = cond b (reported (queued w.driver) Cancel (queued_endpoint y).desc.name bytes) (queued w.driver)

      reports : (driver_next w).driver.reports ≡ (lined (is_told x)).reports
      reports = tells.tells.reports ∙ ap (λ (o : Option Endpoint). (after_endpoint q e o).driver.reports) leaves.here

      store : (driver_next w).driver.store ≡ (lined (is_told x)).store
      store = tells.tells.store ∙ ap (λ (o : Option Endpoint). (after_endpoint q e o).driver.store) leaves.here

      by_line : (b : Bool) → is_told x ≡ b → IsToldOrNot (driver_next w).driver asks e x.desc.name (g.whole x.desc.name)
      by_line false is =
          inl (ap (λ (rs : List Report). has_cancel (lines_in x.desc.name rs)) (reports ∙ ap (λ (b : Bool). (lined b).reports) is)
          ∙ told.uncancelled)
      by_line true is =
          let r : RestHasBegun (queued w.driver) (in_hand s) s.parts e x (g.whole x.desc.name) asks =
          told.rest (ap (λ (b : Bool). if b then None else x.ended) is) in
          inr (line_told (queued w.driver) (driver_next w).driver asks e x.desc.name (g.whole x.desc.name) bytes r.reported r.waits
          told.uncancelled r.many
          (bytes_begun s h.lines w mixed h.piped.telling h.silent asks (g.whole x.desc.name) e x leaves.here tells.idle settled r)
          (reports ∙ ap (λ (b : Bool). (lined b).reports) is) (store ∙ ap (λ (b : Bool). (lined b).store) is)
          (numbers ∙ sym (numbers_told w.driver e) ∙ r.numbers))

      pub goes_told : Then
      goes_told =
          subst (λ (n : EpName). IsToldOrNot (driver_next w).driver asks e n (g.whole n))
          (name_same y ∙ ap (λ (c : EpDesc). c.name) (sym before.comes.desc)) (by_line (is_told x) refl)

  -- ---- each step, where what waits for its write-back is known

  module _ (settled : (c : Endpoint) (d : DriverContent) (t : Standing) → IsGivenBack w (driver_next w) e c d → IsWithout s t (32 * c.queue)
      → IsMixedAt t (driver_next w) → SettlesElsewhere (in_hand h.standing) (32 * c.queue)) where
    by_back : (y.gone ≡ false) → (t : Standing) → IsMixedAt t (driver_next w) → (c : Endpoint) (d : DriverContent)
        → IsGivenBack w (driver_next w) e c d
        → IsWithout s t (32 * c.queue) → Then
    by_back kept t now c d back without = in_case d back.left back
      where
        in_case : (d : DriverContent) → LeftBy w e d → IsGivenBack w (driver_next w) e c d → Then
        in_case _ (left_its_frames row) back = absurd (no_frames kept e refl row)
        in_case _ (left_the_ring row) back =
            let one : c ≡ queued_endpoint y = same_Some c (queued_endpoint y) (sym back.leaves.here ∙ at) in
            goes_told kept row (subst (IsToLeave (queued w.driver) e) one back.leaves)
            (subst (λ (u : Endpoint). IsKnown w e u (queued w.driver)) one (known s w mixed e c (queued w.driver) back.left back.leaves))
            (subst (λ (u : Endpoint). SettlesElsewhere (in_hand h.standing) (32 * u.queue)) one (settled c
            (queued w.driver) t back without now))

    by_step : (y.gone ≡ false) → (t : Standing) (step : QueueStep h.standing w (driver_next w) t) → IsMixedAt t (driver_next w) → Then
    by_step kept t (goes i c d _ back without) now =
        let own : e ≡ i = same_number kept i c d back in
        by_back kept t now c d (subst (λ (j : ℕ). IsGivenBack w (driver_next w) j c d) (sym own) back) without
    by_step kept t (stays _ none still) now = by_other kept t (stays t none still) tt
    by_step kept t (opens a _ alike opened) now = by_other kept t (opens a t alike opened) tt
    by_step kept _ (harvests a u found due later row out) now = by_other kept _ (harvests a u found due later row out) tt
    by_step kept _ (returns u o own row r) now = by_other kept _ (returns u o own row r) tt
    by_step kept _ (lends b words get order out row behind) now = by_other kept _ (lends b words get order out row behind) tt
    by_step kept _ (stores b words q is) now = by_other kept _ (stores b words q is) tt
    by_step kept _ (mends a row) now = by_other kept _ (mends a row) tt
    by_step kept _ (begins a row alike) now = by_other kept _ (begins a row alike) tt
    by_step kept _ (unlinks a row) now = by_other kept _ (unlinks a row) tt
    by_step kept _ (narrows member near row are fewer) now = by_other kept _ (narrows member near row are fewer) tt

    pub cancels_then : (t : Standing) (step : QueueStep h.standing w (driver_next w) t) → IsMixedAt t (driver_next w) → Then
    cancels_then t step now = by y.gone refl
      where
        by : (b : Bool) → y.gone ≡ b → Then
        by true old = gone_before old
        by false kept = by_step kept t step now
