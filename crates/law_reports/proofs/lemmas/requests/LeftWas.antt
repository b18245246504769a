-- A control endpoint that left the ring had left it before, but where Async Advance is cleared; and each event of the driver leaves it, its
-- transfers that wait and what is told of them.
use Rattle.std.proofs.Common.{◌≡◌, ◌≢◌, ℕ, ◌*◌, false, List, ◌∷◌, [], slice_get, Option, Some, None}
use Rattle.std.proofs.Common.{suc, drop, ap, refl, sym, subst, ◌∙◌, ⊎_elim, inl, inr}
use Rattle.std.proofs.lemmas.Bool.{false≢true, true≢false}
use Rattle.std.proofs.lemmas.Option.{same_Some}
use Rattle.law_common.proofs.Booleans.{off_by}
use Rattle.law_common.proofs.Numbers.{same_blocks}
use Rattle.law_descriptors.proofs.Returning.{none_some}
use Rattle.law_reports.proofs.Common.{queue_open}
use Rattle.drv_table.specs.declared.content.Command.{Command}
use Rattle.drv_table.specs.declared.content.Command.TheVariants as unfinished
use Rattle.drv_table.specs.declared.content.Endpoint.{Endpoint}
use Rattle.drv_table.specs.declared.content.Transfer.{Transfer}
use Rattle.drv_table.specs.declared.rows.DriverRow.{DriverRow}
use Rattle.drv_table.specs.declared.rows.DriverRow.TheVariants as rows
use Rattle.drv_table.specs.DriverContent.{DriverContent}
use Rattle.drv_table.specs.Parts.{Parts}
use Rattle.drv_table.specs.Rows.{driver_row, after_driver_row}
use Rattle.drv_table.specs.Words.{queue_head_link, head_block}
use Rattle.law_driver.specs.endpoint_lives.Lives.{may_meet}
use Rattle.law_driver.specs.queued_drivers.Queued.{queued}
use Rattle.law_driver.specs.queued_drivers.Rows.{QueuesAlike, out_by}
use Rattle.law_driver.specs.run_owners.Due.{IsDue}
use Rattle.law_driver.proofs.lemmas.run_owners.Reasons.{each_event_is_due}
use Rattle.law_driver_ring.specs.fed_queues.Places.{IsThere, IsMet, HasHead}
use Rattle.law_driver_ring.proofs.lemmas.fed_queues.Places.{stands_met}
use Rattle.law_footprints.specs.Footprint.{footprint}
use Rattle.law_footprints.proofs.EndpointsChanged.{endpoints_step}
use Rattle.law_footprints.proofs.Fields.{endpoints_stays, transfers_stays, notes_stays, mends_stays}
use Rattle.law_queues.specs.leaving_drivers.Before.{WasSame, IsAsBefore}
use Rattle.law_queues.proofs.lemmas.leaving_drivers.Leaving.{unlink_is_as_before}
use Rattle.law_queues.proofs.lemmas.publish_laws.Apart.{queue_placed, queues_same}
use Rattle.law_queues.specs.mended_heads.Owed.{store_due}
use Rattle.law_world.specs.memory.Mixed.{Standing, IsMixedAt}
use Rattle.law_world.specs.memory.Steps.{told_parts, IsToldRow, LeftBy, left_the_ring, left_its_frames, IsGivenBack, given_by, HasNoStep}
use Rattle.law_world.specs.memory.Steps.{left_alike, left_by_frames, left_by_bell, left_by_status, left_by_command}
use Rattle.law_world.specs.memory.Steps.{QueueStep, stays, harvests, returns, lends, stores, mends, begins, opens, unlinks, narrows, goes}
use Rattle.law_world.proofs.lemmas.memory.HarvestKept.{owners_of}
use Rattle.law_world.proofs.lemmas.memory.RingReleasing.{other_by}
use Rattle.bus_world.specs.World.{World, driver_next}
use Rattle.law_reports.proofs.lemmas.lines.ToldGoes.{IsKnown, known}
use Rattle.law_reports.proofs.lemmas.pipes.Across.{WasIn, was_in}
use Rattle.law_reports.proofs.lemmas.pipes.Leaving.{step_opens}
use Rattle.law_reports.specs.requests.LeftStays.{HasLeft, IsWaiting}
use Rattle.law_world.specs.memory.pipe_steps.Laws.{IsNoOpening}
use Rattle.std.specs.Prelude.{count_by}
use Rattle.drv_table.specs.declared.content.Mend.{Mend}
use Rattle.drv_table.specs.declared.content.QtdNote.{QtdNote}
use Rattle.drv_table.specs.declared.rows.Found.{Found}
use Rattle.drv_table.specs.DriverContent.{waits_for}
use Rattle.drv_table.specs.Harvests.{note_at}
use Rattle.drv_table.specs.Offers.{offered}
use Rattle.claims_world.specs.Requests.{numbers_from}
use Rattle.law_driver.specs.run_owners.Due.{IsHarvestDue}
use Rattle.law_driver_ring.specs.told_harvests.Held.{IsOneFrom}
use Rattle.law_queues.specs.open_laws.Queues.{open_lent, open_finished}
use Rattle.law_world.proofs.lemmas.steps.lemmas.left_queues.Unmet.{off_head_by}
use Rattle.law_reports.proofs.lemmas.requests.LeftCommands.{command_leaves}
use Rattle.law_reports.proofs.lemmas.requests.LeftLeaves.{LeavesIt, same_was, same_leaves, harvest_leaves, return_leaves, goes_leaves}

-- the queue head of one that left is none of those that are met
pub far_of : (s : Standing) (w : World) → IsMixedAt s w → (e : ℕ) (x : Endpoint) → HasLeft (queued w.driver) e x
    → s.near (32 * x.queue) ≡ false
far_of s w k e x left = off_by (s.near (32 * x.queue)) (λ near.
    let d : DriverContent = queued w.driver in
    ⊎_elim
    (λ (head : 32 * x.queue ≡ 32 * head_block).
    off_head_by d e x (owners_of s w k) k.turns.turns left.here left.there.kept head)
    (λ (h : HasHead (queued w.driver) (32 * x.queue)).
    let own : e ≡ h.number =
    queues_same x.queue h.endpoint.queue e h.number (same_blocks x.queue h.endpoint.queue h.at)
    (queue_placed d (owners_of s w k) e x left.here (k.turns.turns.asynchronous.endpoints e x left.here) left.there.kept)
    (queue_placed d (owners_of s w k) h.number h.endpoint h.here
    (k.turns.turns.asynchronous.endpoints h.number h.endpoint h.here) h.met.there.kept) in
    let is : x ≡ h.endpoint = same_Some x h.endpoint (sym left.here ∙ ap (slice_get (queued w.driver).endpoints) own ∙ h.here) in
    true≢false (sym h.met.near ∙ ap (λ (j : ℕ). may_meet (queued w.driver) j h.endpoint) (sym own)
    ∙ ap (may_meet (queued w.driver) e) (sym is) ∙ left.unmet))
    (k.queues.queues.met.only (32 * x.queue) near))

-- while a qTD is being published no event changes endpoints, transfers or notes
record BusyStays (p : Parts) (row : DriverRow) : Type 0 where
  endpoints : (after_driver_row row p).driver.endpoints ≡ p.driver.endpoints
  transfers : (after_driver_row row p).driver.transfers ≡ p.driver.transfers
  notes : (after_driver_row row p).driver.notes ≡ p.driver.notes
  mends : (after_driver_row row p).driver.mends ≡ p.driver.mends

busy_by : (row : DriverRow) (p : Parts) (o : Option Command) → p.driver.command ≡ o → (footprint row o).endpoints ≡ false
    → (footprint row o).transfers ≡ false → (footprint row o).notes ≡ false → (footprint row o).mends ≡ false → BusyStays p row
busy_by row p o is endpoints transfers notes owed = record {
  endpoints = endpoints_stays row p o is endpoints;
  transfers = transfers_stays row p o is transfers;
  notes = notes_stays row p o is notes;
  mends = mends_stays row p o is owed;
}

busy_stays : (row : DriverRow) (p : Parts) (b : ℕ) (words : List ℕ) → IsDue p row → p.driver.command ≡ Some (unfinished.Publish b words)
    → BusyStays p row
busy_stays (rows.ReleaseRemoved what) p b words due busy = absurd (none_some (unfinished.Publish b words) (sym due.idle ∙ busy))
busy_stays (rows.ReleaseTransfer t) p b words due busy = absurd (none_some (unfinished.Publish b words) (sym due.idle ∙ busy))
busy_stays (rows.ReleaseEndpoint e) p b words due busy = absurd (none_some (unfinished.Publish b words) (sym due.idle ∙ busy))
busy_stays (rows.Harvest e t found) p b words due busy = absurd (none_some (unfinished.Publish b words) (sym due.idle ∙ busy))
busy_stays (rows.Mend u) p b words due busy = absurd (none_some (unfinished.Publish b words) (sym due.0 ∙ busy))
busy_stays row p b words due busy = busy_by row p (Some (unfinished.Publish b words)) busy refl refl refl refl

-- ---- each step

module _ (s : Standing) (w : World) (k : IsMixedAt s w) (i : ℕ) (z : Endpoint)
    (left : HasLeft (queued (driver_next w).driver) i z) where
  abbrev d : DriverContent
  d = queued w.driver

  abbrev c : DriverContent
  c = queued (driver_next w).driver

  abbrev Leaves : Type 0
  Leaves = LeavesIt (queued w.driver) (queued (driver_next w).driver) i z

  -- it left before
  pub left_before : (r : WasSame (queued w.driver) i z) → s.near (32 * z.queue) ≡ false
      → ((queued w.driver).command ≡ Some (unfinished.Open r.endpoint.queue) → ⊥) → HasLeft (queued w.driver) i r.endpoint
  left_before r far closed =
      let there : IsThere (queued w.driver) r.endpoint = record { linked = closed; kept = sym r.gone ∙ left.there.kept } in
      record {
        here = r.here;
        there = there;
        unmet = off_by (may_meet (queued w.driver) i r.endpoint) (λ on.
            true≢false (sym (k.queues.queues.met.each i r.endpoint r.here (record { there = there; near = on }))
            ∙ ap (λ (q : ℕ). s.near (32 * q)) (sym r.queue) ∙ far));
      }

  -- no open of it is unfinished
  pub closed_by : (t : Standing) (step : QueueStep s w (driver_next w) t) → IsNoOpening step → (r : WasSame (queued w.driver) i z)
      → (queued w.driver).command ≡ Some (unfinished.Open r.endpoint.queue) → ⊥
  closed_by t step other r opening =
      left.there.linked (step_opens s w k t step other r.endpoint.queue opening ∙ queue_open r.endpoint.queue z.queue (sym r.queue))

  same_by : (f : DriverContent) → f.endpoints ≡ (queued w.driver).endpoints → f.transfers ≡ (queued w.driver).transfers
      → f.notes ≡ (queued w.driver).notes → f.mends ≡ (queued w.driver).mends → c.endpoints ≡ f.endpoints → c.transfers ≡ f.transfers
      → c.notes ≡ f.notes → c.mends ≡ f.mends → Leaves
  same_by f endpoints transfers notes owed ends ts ns ms =
      same_leaves d c i z (same_was d c.endpoints (ends ∙ endpoints) i z left.here) (ts ∙ transfers) (ns ∙ notes) (ms ∙ owed)

  alike_by : (f : DriverContent) → f.endpoints ≡ (queued w.driver).endpoints → f.transfers ≡ (queued w.driver).transfers
      → f.notes ≡ (queued w.driver).notes → f.mends ≡ (queued w.driver).mends → QueuesAlike f (queued (driver_next w).driver) → Leaves
  alike_by f endpoints transfers notes owed alike =
      same_by f endpoints transfers notes owed alike.endpoints alike.transfers alike.notes alike.mends

  told_by : (row : DriverRow) → queued (driver_next w).driver ≡ (after_driver_row row (told_parts w)).driver → BusyStays (told_parts w) row
      → Leaves
  told_by row told b =
      same_by (after_driver_row row (told_parts w)).driver b.endpoints b.transfers b.notes b.mends
      (ap (λ (f : DriverContent). f.endpoints) told) (ap (λ (f : DriverContent). f.transfers) told)
      (ap (λ (f : DriverContent). f.notes) told) (ap (λ (f : DriverContent). f.mends) told)

  -- a told row that leaves these
  told_row : (row : DriverRow) → IsToldRow w (driver_next w) row → (footprint row (queued w.driver).command).endpoints ≡ false
      → (footprint row (queued w.driver).command).transfers ≡ false → (footprint row (queued w.driver).command).notes ≡ false
      → (footprint row (queued w.driver).command).mends ≡ false → Leaves
  told_row row is endpoints transfers notes owed =
      told_by row is.told (busy_by row (told_parts w) (queued w.driver).command refl endpoints transfers notes owed)

  quiet : HasNoStep w (driver_next w) → Leaves
  quiet (left_alike alike tells) = alike_by d refl refl refl refl alike
  quiet (left_by_frames alike of is) = alike_by d refl refl refl refl alike
  quiet (left_by_bell row) = told_row rows.RingBell row refl refl refl refl
  quiet (left_by_status heard row) = told_row (rows.ReadStatus heard) row refl refl refl refl
  quiet (left_by_command line cmd fits room is) =
      subst (λ (n : World). HasLeft (queued n.driver) i z → LeavesIt (queued w.driver) (queued n.driver) i z) (sym is)
      (command_leaves s w k i z line cmd (offered w.driver w.memory cmd) refl) left

  -- it is none that is harvested, as that one is met
  met_queue : s.near (32 * z.queue) ≡ false → (e u : ℕ) (found : Found) (due : IsHarvestDue (told_parts w) e u found)
      → z.queue ≢ due.endpoint.queue
  met_queue far e u found due same =
      let met : IsMet d e due.endpoint = stands_met d e due.endpoint
      (k.turns.turns.asynchronous.endpoints e due.endpoint due.here) due.goes_on
      (λ opens. none_some (unfinished.Open due.endpoint.queue) (sym due.idle ∙ opens)) in
      true≢false (sym (k.queues.queues.met.each e due.endpoint due.here met) ∙ ap (λ (q : ℕ). s.near (32 * q)) (sym same) ∙ far)

  none_harvested : s.near (32 * z.queue) ≡ false → (e u : ℕ) (found : Found) (due : IsHarvestDue (told_parts w) e u found)
      → IsToldRow w (driver_next w) (rows.Harvest e u found) → i ≢ e
  none_harvested far e u found due row own =
      let v : WasIn d.endpoints i z =
      was_in d.endpoints (after_driver_row (rows.Harvest e u found) (told_parts w)).driver.endpoints
      (endpoints_step (rows.Harvest e u found) (told_parts w) d.command refl) i z
      (sym (ap (λ (f : DriverContent). slice_get f.endpoints i) row.told) ∙ left.here) in
      let is : v.endpoint ≡ due.endpoint = same_Some v.endpoint due.endpoint (sym v.here ∙ ap (slice_get d.endpoints) own ∙ due.here) in
      met_queue far e u found due (v.comes.queue ∙ ap (λ (x : Endpoint). x.queue) is)

  -- another one is given back
  module _ (e : ℕ) (x : Endpoint) (f : DriverContent) (back : IsGivenBack w (driver_next w) e x f) where
    what : IsKnown w e x f
    what = known s w k e x f back.left back.leaves

    abbrev p : Parts
    p = record (told_parts w) { driver = f }

    there_then : slice_get (given_by (told_parts w) e f).endpoints i ≡ Some z
    there_then = sym (ap (λ (es : List Endpoint). slice_get es i) back.told.endpoints) ∙ left.here

    pub differs : i ≢ e
    differs = other_by p e x back.leaves.here i z there_then left.there.kept

    pub given_back : Leaves
    given_back =
        let l : LeavesIt f (given_by (told_parts w) e f) i z = goes_leaves p e i z differs there_then in
        let b : IsAsBefore d f = what.before in
        let r : WasSame d i l.was.endpoint = b.ends i l.was.endpoint l.was.here in
        record {
          was = record {
            endpoint = r.endpoint;
            here = r.here;
            queue = l.was.queue ∙ r.queue;
            dummy = l.was.dummy ∙ r.dummy;
            desc = l.was.desc ∙ r.desc;
            next = l.was.next ∙ r.next;
            gone = l.was.gone ∙ r.gone;
            ends = l.was.ends ∙ r.ends;
          };
          numbers = ap (numbers_from i 0) back.told.transfers ∙ l.numbers ∙ ap (numbers_from i 0) b.transfers;
          waiting_same = ap (count_by (waits_for i)) back.told.transfers ∙ l.waiting_same ∙ ap (count_by (waits_for i)) b.transfers;
          transfers = λ u y q.
              ap (λ (ts : List Transfer). slice_get ts u) back.told.transfers ∙ l.transfers u y (as_given b u y q);
          notes = λ u c y q one.
              ap (λ (ns : List QtdNote). note_at ns c) back.told.notes
              ∙ l.notes u c y (as_given b u y q) (subst (λ (ns : List QtdNote). IsOneFrom (note_at ns) y.first y.qtds c) (sym b.notes) one)
              ∙ ap (λ (ns : List QtdNote). note_at ns c) b.notes;
          mends = λ j o at.
              ⊎_elim
              (λ (old : (l : ℕ) × (slice_get f.mends l ≡ Some o)).
              inl (old.0, ap (λ (ms : List Mend). slice_get ms old.0) (sym (out_mends f back.left)) ∙ old.1)) (λ other. inr other)
              (l.mends j o (sym (ap (λ (ms : List Mend). slice_get ms j) back.told.mends) ∙ at));
        }
      where
        out_same : (o : Option Endpoint) → (out_by e d o).mends ≡ d.mends
        out_same None = refl
        out_same (Some y) = refl

        out_mends : (f : DriverContent) → LeftBy w e f → f.mends ≡ d.mends
        out_mends _ (left_the_ring row) = refl
        out_mends _ (left_its_frames row) = out_same (slice_get d.endpoints e)

        as_given : IsAsBefore d f → (u : ℕ) (y : Transfer) → IsWaiting d i u y → IsWaiting f i u y
        as_given b u y q = record {
          here = ap (λ (ts : List Transfer). slice_get ts u) b.transfers ∙ q.here;
          endpoint = q.endpoint;
          reported = q.reported;
          released = q.released;
        }

  -- ---- each of them

  pub cleared_leaves : IsToldRow w (driver_next w) rows.ClearAdvance → Leaves
  cleared_leaves row = told_row rows.ClearAdvance row refl refl refl refl

  dropped : (ms : List Mend) (j : ℕ) → slice_get (drop 1 ms) j ≡ slice_get ms (suc j)
  dropped [] j = refl
  dropped (o ∷ ms) j = refl

  pub step_leaves : (t : Standing) (step : QueueStep s w (driver_next w) t) → s.near (32 * z.queue) ≡ false → Leaves
  step_leaves t (stays _ none still) far = quiet none
  step_leaves _ (harvests e u found due later row out) far =
      subst (λ (f : DriverContent). slice_get f.endpoints i ≡ Some z → LeavesIt d f i z) (sym row.told)
      (harvest_leaves (told_parts w) e u found due (owners_of s w k) k.turns.turns i z (none_harvested far e u found due row)
      (met_queue far e u found due)) left.here
  step_leaves _ (returns u y x row r) far =
      subst (λ (f : DriverContent). slice_get f.endpoints i ≡ Some z → LeavesIt d f i z) (sym row.told)
      (return_leaves (told_parts w) u i z
      (λ v o waits same.
      false≢true (sym waits.reported ∙ ap (λ (q : Transfer). q.reported)
      (same_Some o y (sym waits.here ∙ ap (slice_get d.transfers) same ∙ r.here)) ∙ r.reported))) left.here
  step_leaves _ (lends b words get order out row behind) far =
      told_by rows.Lend row.told (busy_by rows.Lend (told_parts w) (Some (unfinished.Publish b words)) get.command refl refl refl refl)
  step_leaves _ (stores b words g is) far =
      told_by (driver_row (told_parts w)) is.told
      (busy_stays (driver_row (told_parts w)) (told_parts w) b words (each_event_is_due (told_parts w)) is.command)
  step_leaves _ (mends at row) far =
      let r = rows.Mend (store_due at.stalled) in
      let b = same_leaves d (record c { mends = d.mends }) i z
      (same_was d c.endpoints (ap (λ (f : DriverContent). f.endpoints) row.told
      ∙ endpoints_stays r (told_parts w) d.command refl refl) i z left.here)
      (ap (λ (f : DriverContent). f.transfers) row.told ∙ transfers_stays r (told_parts w) d.command refl refl)
      (ap (λ (f : DriverContent). f.notes) row.told ∙ notes_stays r (told_parts w) d.command refl refl) refl in
      record {
        was = b.was;
        numbers = b.numbers;
        waiting_same = b.waiting_same;
        transfers = b.transfers;
        notes = b.notes;
        mends = λ j o there.
            inl (suc j, sym (dropped d.mends j) ∙ sym (ap (λ (f : DriverContent). slice_get f.mends j) row.told) ∙ there);
      }
  step_leaves _ (begins at row alike) far = alike_by (open_lent d w.memory) refl refl refl refl alike
  step_leaves t (opens at _ alike opened) far = alike_by (open_finished d) refl refl refl refl alike
  step_leaves _ (unlinks at row) far =
      let b = (unlink_is_as_before (told_parts w) at.number at.before _ at.before (32 * at.before)
      (queue_head_link at.after) at.command).0 in
      same_leaves d c i z (b.ends i z (sym (ap (λ (f : DriverContent). slice_get f.endpoints i) row.told) ∙ left.here))
      (ap (λ (f : DriverContent). f.transfers) row.told ∙ b.transfers) (ap (λ (f : DriverContent). f.notes) row.told ∙ b.notes)
      (ap (λ (f : DriverContent). f.mends) row.told
      ∙ mends_stays (rows.Store at.before (32 * at.before) (queue_head_link at.after)) (told_parts w) d.command refl refl)
  step_leaves _ (narrows member near row are fewer) far = cleared_leaves row
  step_leaves t (goes e x f _ back is) far = given_back e x f back
