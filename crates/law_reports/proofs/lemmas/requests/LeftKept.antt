-- Each event leaves what is told of control endpoints that left the ring.
use Rattle.std.proofs.Common.{◌≡◌, ◌≢◌, ℕ, ◌*◌, ◌≤◌, ◌==◌, ◌&&◌, ◌||◌, not, Bool, true, false, List, length, slice_get}
use Rattle.std.proofs.Common.{Option, Some, None, ap, refl, sym, subst, ◌∙◌, ⊎_elim, arith}
use Rattle.std.proofs.lemmas.Bool.{false≢true, true≢false}
use Rattle.std.proofs.lemmas.Option.{same_Some}
use Rattle.law_common.proofs.Booleans.{or_both}
use Rattle.law_common.proofs.Numbers.{same_blocks, other_number}
use Rattle.law_descriptors.proofs.Returning.{none_some}
use Rattle.law_driver.proofs.Common.{of_queue}
use Rattle.usb_base.specs.declared.endpoints.EpDesc.{EpDesc}
use Rattle.usb_base.specs.declared.endpoints.EpName.{EpName}
use Rattle.usb_base.specs.declared.reports.Report.{Report}
use Rattle.bus_wire.specs.Bus.{Fixed}
use Rattle.claims_report.specs.Requests.{Request}
use Rattle.claims_world.specs.Requests.{Windows}
use Rattle.drv_periodic_table.specs.declared.content.Removed.TheVariants as removed
use Rattle.drv_table.specs.declared.content.Command.TheVariants as unfinished
use Rattle.drv_table.specs.declared.content.Endpoint.{Endpoint}
use Rattle.drv_table.specs.declared.content.QtdNote.{QtdNote}
use Rattle.drv_table.specs.declared.content.Transfer.{Transfer}
use Rattle.drv_table.specs.declared.rows.DriverRow.{DriverRow}
use Rattle.drv_table.specs.declared.rows.DriverRow.TheVariants as rows
use Rattle.drv_table.specs.DriverContent.{DriverContent}
use Rattle.drv_table.specs.Harvests.{note_at}
use Rattle.drv_table.specs.Rows.{driver_row, after_driver_row}
use Rattle.law_driver.specs.endpoint_lives.Lives.{may_meet}
use Rattle.law_driver.specs.queued_drivers.Queued.{queued}
use Rattle.law_driver.proofs.lemmas.queued_drivers.CommandFields.{name_same}
use Rattle.law_driver.proofs.lemmas.queued_drivers.RowEvents.{idle_told}
use Rattle.law_driver.proofs.lemmas.run_owners.Reasons.{each_event_is_due}
use Rattle.law_driver_ring.specs.fed_queues.Places.{IsThere}
use Rattle.law_driver_ring.specs.told_harvests.Held.{IsOneFrom}
use Rattle.law_queues.proofs.lemmas.publish_laws.Apart.{queue_placed, queues_same}
use Rattle.law_queues.specs.leaving_drivers.Before.{WasSame}
use Rattle.law_queues.specs.told_endpoints.Telling.{lines_in}
use Rattle.law_world.specs.memory.Mixed.{Standing, IsMixedAt}
use Rattle.law_world.specs.memory.Steps.{told_parts, IsToldRow, IsGivenBack}
use Rattle.law_world.specs.memory.Steps.{QueueStep, stays, harvests, returns, lends, stores, mends, begins, opens, unlinks, narrows, goes}
use Rattle.law_world.proofs.lemmas.memory.HarvestKept.{owners_of}
use Rattle.law_world.proofs.lemmas.memory.RingBasis.{due_is}
use Rattle.bus_world.specs.World.{World, driver_parts, driver_next}
use Rattle.law_reports.specs.lines.Lined.{in_hand}
use Rattle.law_reports.specs.pipes.Declared.{Sides as Pipes}
use Rattle.law_reports.proofs.lemmas.lines.Reports.{tells_by}
use Rattle.law_reports.proofs.lemmas.lines.ToldGoes.{known}
use Rattle.law_reports.proofs.lemmas.pipes.Names.{WasQueued, was_queued, kept_as}
use Rattle.law_reports.specs.requests.Asking.{Sides}
use Rattle.law_reports.specs.requests.HighAsking.{HasHighAsks}
use Rattle.law_reports.specs.requests.LeftStays.{StaysTold, HasLeft, IsWaiting, IsBeside}
use Rattle.law_reports.specs.requests.request_bytes.Fresh.{next_of}
use Rattle.law_reports.specs.requests.told_requests.Told.{has_cancel}
use Rattle.law_reports.proofs.lemmas.requests.CancelledTold.{foot, names_apart}
use Rattle.law_reports.proofs.lemmas.requests.LeftStays.{step_leaves_told}
use Rattle.law_reports.proofs.lemmas.requests.Lists.{all_map}
use Rattle.law_reports.proofs.lemmas.requests.Moves.{first_one, second_one}
use Rattle.law_reports.proofs.lemmas.requests.lemmas.driver_requests.Owning.{qtds_case}
use Rattle.std.specs.Prelude.{if◌then◌else◌}
use Rattle.std.proofs.lemmas.Bool.{eq-eqb}
use Rattle.law_common.proofs.Lists.{set_here}
use Rattle.law_world.proofs.Common.{same_queue}
use Rattle.usb_base.specs.declared.reports.What.TheVariants.{Cancel}
use Rattle.drv_table.specs.Harvests.{reported}
use Rattle.drv_table.specs.Kinds.{is_iso}
use Rattle.drv_table.specs.Parts.{Parts}
use Rattle.drv_table.specs.Releases.{is_told, cancelled_bytes}
use Rattle.drv_table.specs.Removals.{after_placed}
use Rattle.law_queues.specs.mended_heads.Owed.{store_due}
use Rattle.law_ring.specs.Hand.{Hand}
use Rattle.law_ring.specs.Told.{Told}
use Rattle.law_structures.specs.lent_structures.Structures.{StructureSets}
use Rattle.law_world.specs.steps.left_queues.Standing.{met_streams}
use Rattle.law_world.proofs.lemmas.memory.RingReleasing.{other_by}
use Rattle.law_reports.specs.requests.LeftTold.{DataHasBegun, WaitHasBegun, RestHasBegun, IsLeftToTell, AreLeftToTell}
use Rattle.law_reports.proofs.lemmas.requests.LeftBegins.{met_to_tell}
use Rattle.law_reports.proofs.lemmas.requests.LeftLeaves.{LeavesIt}
use Rattle.law_reports.proofs.lemmas.requests.LeftLines.{LinesStay, TellsNot, row_keeps_lines}
use Rattle.law_reports.proofs.lemmas.requests.LeftMends.{clear_owes_none, stored_queue}
use Rattle.law_reports.proofs.lemmas.requests.LeftWas.{far_of, left_before, closed_by, step_leaves, cleared_leaves, differs, given_back}

placed_gone : (p : Parts) (e : ℕ) (y z : Endpoint) → slice_get p.driver.endpoints e ≡ Some y
    → slice_get (after_driver_row (rows.ReleaseRemoved (removed.Endpoint e)) p).driver.endpoints e ≡ Some z → z.gone ≡ true
placed_gone p e y z here there =
    ap (λ (x : Endpoint). x.gone)
    (sym (same_Some (record y { gone = true }) z
    (sym (set_here (lined (is_told y)).endpoints e y (record y { gone = true }) (ap
    (λ (xs : List Endpoint). slice_get xs e) (same (is_told y)) ∙ here))
    ∙ sym (ap (λ (o : Option Endpoint). slice_get (after_placed p e o).driver.endpoints e) here) ∙ there)))
  where
    lined : Bool → DriverContent
    lined b = if b then reported p.driver Cancel y.desc.name
        (cancelled_bytes p.driver.notes p.memory e y.queue p.driver.transfers) else p.driver

    same : (b : Bool) → (lined b).endpoints ≡ p.driver.endpoints
    same true = refl
    same false = refl

-- ---- what stays of one endpoint

-- told in another standing
abbrev StaysWhole : Standing → Standing → DriverContent → ℕ → ℕ → Type 0
StaysWhole s t d i n = (u b : ℕ) (y : Transfer) → IsWaiting d i u y → IsOneFrom (note_at d.notes) y.first y.qtds b
    → StaysTold s t n (32 * b)

module _ (g : Sides) (s t : Standing) (asks : ℕ → Request) (d f : DriverContent) (i : ℕ) (z : Endpoint) (l : LeavesIt d f i z)
    (lines : lines_in z.desc.name f.reports ≡ lines_in z.desc.name d.reports)
    (still : StaysWhole s t d i (32 * l.was.endpoint.queue)) where
  abbrev x : Endpoint
  x = l.was.endpoint

  abbrev n : ℕ
  n = 32 * l.was.endpoint.queue

  module _ (whole : Request → List ℕ) (u : ℕ) (b : WaitHasBegun d (in_hand s) s.parts (32 * l.was.endpoint.queue) i whole asks u) where
    abbrev own : Transfer
    own = b.own

    abbrev next : ℕ
    next = next_of d.notes b.own.first

    two : 2 ≤ b.own.qtds
    two =
        ⊎_elim (λ none. let is = b.begun.qtds in let few = none.1 in omega (arith, is, few))
        (λ some. let is = b.begun.qtds in let few = some.1 in omega (arith, is, few)) (qtds_case (asks u))

    first_same : note_at f.notes b.own.first ≡ note_at d.notes b.own.first
    first_same = l.notes u own.first own b.waits (let more = two in first_one (note_at d.notes) own.first own.qtds (omega (arith, more)))

    next_same : next_of f.notes b.own.first ≡ next_of d.notes b.own.first
    next_same = ap (λ (o : QtdNote). o.next) first_same

    in_next : IsOneFrom (note_at d.notes) own.first own.qtds next
    in_next = second_one (note_at d.notes) own.first own.qtds two

    wait_still : WaitHasBegun f (in_hand t) t.parts (32 * l.was.endpoint.queue) i whole asks u
    wait_still = record {
      own = own;
      waits = record {
        here = l.transfers u own b.waits;
        endpoint = b.waits.endpoint;
        reported = b.waits.reported;
        released = b.waits.released;
      };
      begun = record {
        sort = b.begun.sort;
        qtds = b.begun.qtds;
        setup = ap (λ (o : QtdNote). o.moved) first_same ∙ b.begun.setup;
        data_at = λ carries.
            let v = b.begun.data_at carries in
            subst (λ (c : ℕ). DataHasBegun (in_hand t) t.parts n c (note_at f.notes c) own.left (whole (asks u))) (sym next_same)
            (subst (λ (o : QtdNote). DataHasBegun (in_hand t) t.parts n next o own.left (whole (asks u)))
            (sym (l.notes u next own b.waits in_next))
            (record { bytes = v.bytes; told = still u next own b.waits in_next v.bytes v.told; done = v.done; begins = v.begins }));
      };
    }

  pub still_to_tell : IsLeftToTell g s asks d i l.was.endpoint → IsLeftToTell g t asks f i z
  still_to_tell k = record {
    uncancelled = ap has_cancel lines ∙ ap (λ (c : EpDesc). has_cancel (lines_in c.name d.reports)) l.was.desc ∙ k.uncancelled;
    owed = λ j o at same.
        ⊎_elim (λ (old : (m : ℕ) × (slice_get d.mends m ≡ Some o)). k.owed old.0 o old.1 (same ∙ l.was.queue)) (λ other. other same)
        (l.mends j o at);
    rest = λ going.
        let r = k.rest (sym l.was.ends ∙ going) in
        let whole : Request → List ℕ = g.whole l.was.endpoint.desc.name in
        subst (λ (c : EpDesc). RestHasBegun f (in_hand t) t.parts i z (g.whole c.name) asks) (sym l.was.desc)
        (record {
          reported = r.reported;
          waits = r.waits;
          numbers = l.numbers ∙ r.numbers;
          many = r.many ∙ sym (ap length lines ∙ ap (λ (c : EpDesc). length (lines_in c.name d.reports)) l.was.desc);
          wait = r.wait ∙ sym l.waiting_same;
          each = all_map (WaitHasBegun d (in_hand s) s.parts n i whole asks) (WaitHasBegun f (in_hand t) t.parts
              (32 * z.queue) i whole asks)
              (λ u b. subst (λ (q : ℕ). WaitHasBegun f (in_hand t) t.parts (32 * q) i whole asks u) (sym l.was.queue)
              (wait_still whole u b))
              r.waits r.each;
        });
  }

-- ---- an event of the driver

module _ (g : Sides) (fixed : Fixed) (p : Pipes) (v : Windows) (asks : ℕ → Request) (w : World) (h : HasHighAsks g fixed p v asks w)
    (to : AreLeftToTell g h.standing asks w) (i : ℕ) (z : Endpoint) (left : HasLeft (queued (driver_next w).driver) i z)
    (on : g.asks z.desc ≡ true) where
  abbrev s : Standing
  s = h.standing

  abbrev d : DriverContent
  d = queued w.driver

  abbrev f : DriverContent
  f = queued (driver_next w).driver

  k : IsMixedAt s w
  k = h.piped.mixed

  abbrev Leaves : Type 0
  Leaves = LeavesIt (queued w.driver) (queued (driver_next w).driver) i z

  asked : (l : Leaves) → g.asks l.was.endpoint.desc ≡ true
  asked l = ap g.asks (sym l.was.desc) ∙ on

  -- ---- its lines

  real : WasQueued (driver_next w).driver.endpoints i z
  real = was_queued (driver_next w).driver.endpoints i z left.here

  kept : (real.endpoint.gone ≡ false) × (is_iso real.endpoint.desc.kind ≡ false)
  kept = kept_as real.endpoint (ap (λ (y : Endpoint). y.gone) (sym real.is) ∙ left.there.kept)

  -- an endpoint that this event gives back is gone then
  not_given : (row : DriverRow) → driver_row (driver_parts w) ≡ row → (y : Endpoint) → slice_get w.driver.endpoints i ≡ Some y
      → TellsNot row i y
  not_given (rows.ReleaseEndpoint e) is y here = λ own.
      absurd (other_by (driver_parts w) e y (ap (slice_get w.driver.endpoints) own ∙ here) i real.endpoint
      (ap (λ (r : DriverRow). slice_get (after_driver_row r (driver_parts w)).driver.endpoints i) (sym is) ∙ real.here) kept.0 (sym own))
  not_given (rows.ReleaseRemoved (removed.Endpoint e)) is y here = λ own.
      absurd (false≢true (sym kept.0 ∙ placed_gone (driver_parts w) e y real.endpoint (ap (slice_get w.driver.endpoints) own ∙ here)
      (ap (slice_get (after_driver_row (rows.ReleaseRemoved (removed.Endpoint e)) (driver_parts w)).driver.endpoints) own
      ∙ ap (λ (r : DriverRow). slice_get (after_driver_row r (driver_parts w)).driver.endpoints i) (sym is) ∙ real.here)))
  not_given (rows.ReleaseRemoved (removed.Descriptor u)) is y here = tt
  not_given _ is y here = tt

  module _ (l : Leaves) (before : HasLeft (queued w.driver) i l.was.endpoint) where
    was : WasQueued w.driver.endpoints i l.was.endpoint
    was = was_queued w.driver.endpoints i l.was.endpoint l.was.here

    queue : is_iso was.endpoint.desc.kind ≡ false
    queue = (kept_as was.endpoint (ap (λ (y : Endpoint). y.gone) (sym was.is) ∙ before.there.kept)).1

    over : was.endpoint.ended ≢ None
    over none =
        let stands = k.turns.turns.asynchronous.endpoints i l.was.endpoint l.was.here in
        let unlinked = (or_both l.was.endpoint.linked _ before.unmet).0 in
        stands.ended (stands.unlinked unlinked) (ap (λ (y : Endpoint). y.ended) (was.is ∙ of_queue was.endpoint queue) ∙ none)

    lines_stay : LinesStay w.driver (driver_next w).driver was.endpoint.desc.name
    lines_stay =
        row_keeps_lines (driver_parts w) i was.endpoint was.here over (names_apart g fixed p v asks w h) (driver_row (driver_parts w))
        (not_given (driver_row (driver_parts w)) refl was.endpoint was.here) h.piped.mixed.now.framed.place.sound.owners
        h.piped.mixed.turns (each_event_is_due (driver_parts w))

    name : was.endpoint.desc.name ≡ z.desc.name
    name = sym (name_same was.endpoint) ∙ ap (λ (y : Endpoint). y.desc.name) (sym was.is) ∙ ap (λ (c : EpDesc). c.name) (sym l.was.desc)

    lines : lines_in z.desc.name (driver_next w).driver.reports ≡ lines_in z.desc.name w.driver.reports
    lines = subst (λ (m : EpName). lines_in m (driver_next w).driver.reports ≡ lines_in m w.driver.reports) name lines_stay.lines

  -- ---- each step but the one that clears Async Advance

  module _ (t : Standing) (step : QueueStep h.standing w (driver_next w) t) (beside : IsBeside step (32 * z.queue))
      (far : h.standing.near (32 * z.queue) ≡ false)
      (closed : (r : WasSame (queued w.driver) i z) → (queued w.driver).command ≡ Some (unfinished.Open r.endpoint.queue) → ⊥) where
    l : Leaves
    l = step_leaves s w k i z left t step far

    before : HasLeft (queued w.driver) i l.was.endpoint
    before = left_before s w k i z left l.was far (closed l.was)

    still : StaysWhole h.standing t (queued w.driver) i (32 * l.was.endpoint.queue)
    still u b y waits one =
        step_leaves_told s h.lines w t step k h.piped.telling i u b l.was.endpoint y before waits one
        (subst (λ (q : ℕ). IsBeside step (32 * q)) l.was.queue beside)

    left_still : IsLeftToTell g t asks (queued (driver_next w).driver) i z
    left_still =
        still_to_tell g s t asks d f i z l (lines l before) still (to.each i l.was.endpoint before (asked l))

  -- ---- .. and that one

  module _ (row : IsToldRow w (driver_next w) rows.ClearAdvance) where
    cleared : Leaves
    cleared = cleared_leaves s w k i z left row

    idle : (queued w.driver).command ≡ None
    idle = idle_told w.driver (due_is s w k rows.ClearAdvance row.next).0

    there : IsThere (queued w.driver) cleared.was.endpoint
    there = record {
      linked = λ opens. none_some (unfinished.Open cleared.was.endpoint.queue) (sym idle ∙ opens);
      kept = sym cleared.was.gone ∙ left.there.kept;
    }

    told_before : (b : Bool) → may_meet (queued w.driver) i cleared.was.endpoint ≡ b
        → IsLeftToTell g s asks (queued w.driver) i cleared.was.endpoint
    told_before true near =
        met_to_tell g fixed p s h.lines h.heads w h.piped (foot g fixed p v asks w h) h.head h.suited h.asking v asks h.world idle i
        cleared.was.endpoint
        (record {
          is = record { here = cleared.was.here; control = asked cleared };
          met = record { there = there; near = near };
        }) (clear_owes_none (driver_parts w) row.next)
    told_before false far =
        to.each i cleared.was.endpoint (record { here = cleared.was.here; there = there; unmet = far }) (asked cleared)

    same_reports : lines_in z.desc.name (queued (driver_next w).driver).reports ≡ lines_in z.desc.name (queued w.driver).reports
    same_reports =
        ap (λ (c : DriverContent). lines_in z.desc.name c.reports) row.told
        ∙ ap (λ (rs : List Report). lines_in z.desc.name rs) (tells_by rows.ClearAdvance (told_parts w) refl refl).reports

    pub narrowed_still : (t : Standing) → t.parts ≡ s.parts → in_hand t ≡ in_hand s
        → IsLeftToTell g t asks (queued (driver_next w).driver) i z
    narrowed_still t parts hand =
        still_to_tell g s t asks d f i z cleared same_reports
        (λ u b y waits one xs told.
        subst (λ (ps : StructureSets). Told (in_hand t) ps (32 * cleared.was.endpoint.queue) (32 * b) xs) (sym parts)
        (subst (λ (hd : Hand). Told hd s.parts (32 * cleared.was.endpoint.queue) (32 * b) xs) (sym hand) told))
        (told_before (may_meet (queued w.driver) i cleared.was.endpoint) refl)

  -- ---- any of them

  pub left_then : (t : Standing) (step : QueueStep h.standing w (driver_next w) t) → IsMixedAt t (driver_next w)
      → IsLeftToTell g t asks (queued (driver_next w).driver) i z
  left_then _ (narrows member near row are fewer) mixed =
      narrowed_still row (record s { member = member; near = near; streams = met_streams s.streams near }) refl refl
  left_then t (opens at _ alike opened) mixed =
      let now : t.near (32 * z.queue) ≡ false = far_of t (driver_next w) mixed i z left in
      let n : ℕ = 32 * at.endpoint.queue in
      let other : (32 * z.queue) ≢ (32 * at.endpoint.queue) = λ same.
      true≢false (sym (ap (λ (b : Bool). b || s.near (32 * z.queue)) (eq-eqb (32 * z.queue) n same)) ∙ sym (ap (λ (near : ℕ
      → Bool). near (32 * z.queue)) opened.near) ∙ now) in
      left_still t (opens at t alike opened) tt
      (sym (ap (λ (b : Bool). b || s.near (32 * z.queue)) (other_number (32 * z.queue) n other))
      ∙ sym (ap (λ (near : ℕ → Bool). near (32 * z.queue)) opened.near) ∙ now)
      (λ r opening. other (ap (λ (q : ℕ). 32 * q) (r.queue ∙ same_queue r.endpoint.queue at.endpoint.queue (sym opening ∙ at.command))))
  left_then t (goes e y c _ back without) mixed =
      let now : t.near (32 * z.queue) ≡ false = far_of t (driver_next w) mixed i z left in
      let other : (32 * z.queue) ≢ (32 * y.queue) = apart e y c back in
      left_still t (goes e y c t back without) other
      (near_by (s.near (32 * z.queue)) (32 * z.queue == 32 * y.queue) (other_number (32 * z.queue) (32 * y.queue) other)
      (sym (without.near (32 * z.queue)) ∙ now))
      (closed_by s w k i z left t (goes e y c t back without) tt)
    where
      near_by : (a b : Bool) → b ≡ false → (a && not b) ≡ false → a ≡ false
      near_by true b off is = absurd (true≢false (sym (ap not off) ∙ is))
      near_by false b off is = refl

      apart : (e : ℕ) (y : Endpoint) (c : DriverContent) → IsGivenBack w (driver_next w) e y c → (32 * z.queue) ≢ (32 * y.queue)
      apart e y c back same =
          let l : LeavesIt (queued w.driver) (queued (driver_next w).driver) i z = given_back s w k i z left e y c back in
          let what = known s w k e y c back.left back.leaves in
          let o : WasSame (queued w.driver) e y = what.before.ends e y back.leaves.here in
          differs s w k i z left e y c back
          (queues_same l.was.endpoint.queue o.endpoint.queue i e (sym l.was.queue ∙ same_blocks z.queue y.queue same ∙ o.queue)
          (queue_placed d (owners_of s w k) i l.was.endpoint l.was.here (k.turns.turns.asynchronous.endpoints i l.was.endpoint l.was.here)
          (sym l.was.gone ∙ left.there.kept))
          (queue_placed d (owners_of s w k) e o.endpoint o.here (k.turns.turns.asynchronous.endpoints e o.endpoint o.here)
          (sym o.gone ∙ back.leaves.held)))
  left_then t (stays _ none same) mixed =
      left_still t (stays t none same) tt
      (ap (λ (near : ℕ → Bool). near (32 * z.queue)) (sym same.near) ∙ far_of t (driver_next w) mixed i z left)
      (closed_by s w k i z left t (stays t none same) tt)
  left_then _ (harvests e u found due later row out) mixed =
      left_still _ (harvests e u found due later row out) tt (far_of _ (driver_next w) mixed i z left)
      (closed_by s w k i z left _ (harvests e u found due later row out) tt)
  left_then _ (returns u y o row r) mixed =
      left_still _ (returns u y o row r) tt (far_of _ (driver_next w) mixed i z left)
      (closed_by s w k i z left _ (returns u y o row r) tt)
  left_then _ (lends b words get order out row behind) mixed =
      left_still _ (lends b words get order out row behind) tt (far_of _ (driver_next w) mixed i z left)
      (closed_by s w k i z left _ (lends b words get order out row behind) tt)
  left_then _ (stores b words q is) mixed =
      left_still _ (stores b words q is) tt (far_of _ (driver_next w) mixed i z left)
      (closed_by s w k i z left _ (stores b words q is) tt)
  left_then _ (begins at row alike) mixed =
      left_still _ (begins at row alike) tt (far_of _ (driver_next w) mixed i z left)
      (closed_by s w k i z left _ (begins at row alike) tt)
  left_then _ (unlinks at row) mixed =
      left_still _ (unlinks at row) tt (far_of _ (driver_next w) mixed i z left)
      (closed_by s w k i z left _ (unlinks at row) tt)
  left_then _ (mends at row) mixed =
      let far = far_of _ (driver_next w) mixed i z left in
      let closed = closed_by s w k i z left _ (mends at row) tt in
      let m = step_leaves s w k i z left _ (mends at row) far in
      let old : HasLeft (queued w.driver) i m.was.endpoint = left_before s w k i z left m.was far (closed m.was) in
      let first = (due_is s w k (rows.Mend (store_due at.stalled)) row.next).1 in
      left_still _ (mends at row)
      (λ same.
      (to.each i m.was.endpoint old (asked m)).owed 0 (store_due at.stalled) first
      (stored_queue at.stalled ∙ sym (same_blocks z.queue at.stalled.queue same) ∙ m.was.queue)) far closed
