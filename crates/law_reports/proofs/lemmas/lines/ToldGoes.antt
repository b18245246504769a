-- An endpoint is given back, and nothing is told of its queue any more: its last line has told what was moved of it, and what is told of
-- each other queue stays.
use Rattle.std.proofs.Common.{◌≡◌, ◌≢◌, ℕ, ◌*◌, Bool, true, false, List, None, slice_get, set, Option, Some, option_map, ap, refl, sym, subst, ◌∙◌, ⊎_elim}
use Rattle.std.specs.Prelude.{if◌then◌else◌}
use Rattle.std.proofs.lemmas.Bool.{cases_eq, eq-eqb, false≢true}
use Rattle.std.proofs.lemmas.Option.{same_Some, slice_get-map}
use Rattle.law_world.proofs.Common.{no_end, none_some}
use Rattle.law_common.proofs.Lists.{set_here, set_there}
use Rattle.law_controller.proofs.Common.{same_hand}
use Rattle.law_common.proofs.Numbers.{same_blocks}
use Rattle.qh_qtd.specs.declared.queue_head.Qh.{Qh}
use Rattle.claims_base.specs.Controller.{opening_base}
use Rattle.claims_driver.specs.Leaving.{HasOwners}
use Rattle.claims_driver.specs.Owners.{views_of}
use Rattle.claims_report.specs.Streams.{has_stream}
use Rattle.drv_periodic_table.specs.declared.content.Removed.TheVariants as removed
use Rattle.drv_table.specs.declared.content.Command.TheVariants as unfinished
use Rattle.drv_table.specs.declared.content.Endpoint.{Endpoint}
use Rattle.drv_table.specs.declared.rows.DriverRow.{DriverRow}
use Rattle.drv_table.specs.declared.rows.DriverRow.TheVariants as rows
use Rattle.drv_table.specs.DriverContent.{DriverContent}
use Rattle.drv_table.specs.Kinds.{is_iso}
use Rattle.drv_table.specs.Parts.{Parts}
use Rattle.drv_table.specs.Rows.{driver_row, after_driver_row}
use Rattle.law_structures.specs.lent_structures.Structures.{Structure, Structures, QueueHead, StructureSets}
use Rattle.law_driver.specs.run_owners.Due.{IsEndpointDue, IsRemovalDue}
use Rattle.law_driver.specs.chained_transfers.AsynchronousTurns.{AsynchronousTakesTurns}
use Rattle.law_driver.specs.chained_transfers.Out.{out_now}
use Rattle.law_driver.proofs.lemmas.chained_transfers.Rows.{set_which}
use Rattle.law_driver.specs.queued_drivers.Queued.{without_queue as without_end, with_queue, queued_endpoint, queued}
use Rattle.law_driver.specs.queued_drivers.Rows.{TellsAlike, out_by, out_of_frames, IsGivenBackAlike}
use Rattle.law_driver.proofs.lemmas.queued_drivers.RowEvents.{idle_told}
use Rattle.law_driver.proofs.lemmas.queued_drivers.RowRemovals.{goes_back}
use Rattle.law_frames.specs.FrameHand.{FrameHand}
use Rattle.law_ring.specs.Fewer.{fewer_structures}
use Rattle.law_ring.specs.Hand.{Hand}
use Rattle.law_ring.specs.QueueParts.{IsQueuePart}
use Rattle.law_controller.specs.controlled_streams.Reported.{IsReported}
use Rattle.law_controller.specs.frame_control.Joined.{joined}
use Rattle.law_driver_ring.specs.fed_queues.Places.{IsThere}
use Rattle.law_queues.proofs.lemmas.publish_laws.Apart.{queue_placed, queues_same}
use Rattle.law_queues.specs.cancelled_bytes.Cancelled.{SettlesElsewhere}
use Rattle.law_queues.specs.harvest_laws.Told.{ToldStands}
use Rattle.law_queues.specs.leaving_drivers.Before.{WasSame, UnlinksAtMost, IsAsBefore}
use Rattle.law_queues.proofs.lemmas.leaving_drivers.Alike.{out_before}
use Rattle.law_world.specs.steps.endpoint_releases.Released.{without_queue, IsToLeave, HasLeaver}
use Rattle.law_world.proofs.lemmas.steps.lemmas.endpoint_releases.Owning.{queue_beside}
use Rattle.law_world.proofs.lemmas.steps.lemmas.endpoint_releases.Releasing.{due_is_to_leave}
use Rattle.law_world.proofs.lemmas.steps.lemmas.left_queues.Same.{fed_now}
use Rattle.law_descriptors.specs.Both.{both}
use Rattle.law_descriptors.specs.Meeting.{met}
use Rattle.law_descriptors.proofs.Rings.{other_off}
use Rattle.law_descriptors.proofs.Standing.{both_off}
use Rattle.law_world.specs.streams.Feeding.{there_of}
use Rattle.law_world.specs.streams.left_reports.Leaver.{IsLeaver, IsToldGone}
use Rattle.law_world.proofs.lemmas.streams.Told.{HasBulkThere, there_on, there_by, bulk_there, there_same}
use Rattle.law_world.proofs.lemmas.streams.lemmas.left_reports.Before.{leaves_are_told}
use Rattle.law_world.proofs.lemmas.streams.lemmas.left_reports.Gone.{release_is_told}
use Rattle.law_world.specs.memory.Mixed.{Standing, IsMixedAt}
use Rattle.law_world.specs.memory.Steps.{told_parts, LeftBy, left_the_ring, left_its_frames, IsGivenBack, given_by, IsWithout}
use Rattle.law_world.proofs.lemmas.memory.HarvestKept.{owners_of, tells_of, describes}
use Rattle.law_world.proofs.lemmas.memory.RingBasis.{due_is, queued_next, row_alike}
use Rattle.law_world.proofs.lemmas.memory.RingReleasing.{other_by, was}
use Rattle.bus_world.specs.World.{World, driver_parts, controller_parts, driver_next}
use Rattle.law_reports.specs.lines.Lined.{in_hand, Lines, IsTelling}
use Rattle.law_reports.specs.lines.TellingSteps.{ReleaseTells}
use Rattle.law_reports.proofs.lemmas.lines.Heads.{before_there}
use Rattle.law_reports.proofs.lemmas.lines.Same.{same_at, relinked_reported}
use Rattle.law_reports.proofs.lemmas.lines.Settled.{settles_elsewhere}
use Rattle.law_reports.proofs.lemmas.lines.ToldStays.{same_told}

-- ---- out of its frames an endpoint is as before, but for its place

same_before : (d : DriverContent) → UnlinksAtMost d.command → IsAsBefore d d
same_before d idle = record {
  book = refl;
  notes = refl;
  transfers = refl;
  harvested = refl;
  reports = refl;
  store = refl;
  idle = idle;
  idle_now = idle;
  ends = λ i z here. record { endpoint = z; here = here; queue = refl; dummy = refl; desc = refl; next = refl; gone = refl; ends = refl };
  ends_now = λ i z here. record {
    endpoint = z;
    here = here;
    queue = refl;
    dummy = refl;
    desc = refl;
    next = refl;
    gone = refl;
    ends = refl;
  };
}

out_as_before : (d : DriverContent) (e : ℕ) → UnlinksAtMost d.command → (o : Option Endpoint) → slice_get d.endpoints e ≡ o
    → IsAsBefore d (out_by e d o)
out_as_before d e idle None here = same_before d idle
out_as_before d e idle (Some x) here = record {
  book = refl;
  notes = refl;
  transfers = refl;
  harvested = refl;
  reports = refl;
  store = refl;
  idle = idle;
  idle_now = idle;
  ends = λ i z at.
      ⊎_elim
      (λ (own : (i ≡ e) × (z ≡ record x { linked = false })).
      subst (λ (y : Endpoint). WasSame d i y) (sym own.1)
      (record {
        endpoint = x;
        here = ap (slice_get d.endpoints) own.0 ∙ here;
        queue = refl;
        dummy = refl;
        desc = refl;
        next = refl;
        gone = refl;
        ends = refl;
      }))
      (λ (other : slice_get d.endpoints i ≡ Some z).
      record { endpoint = z; here = other; queue = refl; dummy = refl; desc = refl; next = refl; gone = refl; ends = refl })
      (set_which d.endpoints e i x (record x { linked = false }) z here at);
  ends_now = λ i z at.
      ⊎_elim
      (λ (own : i ≡ e).
      let is : x ≡ z = same_Some x z (sym here ∙ ap (slice_get d.endpoints) (sym own) ∙ at) in
      subst (λ (y : Endpoint). WasSame (out_by e d (Some x)) i y) is
      (record {
        endpoint = record x { linked = false };
        here = ap (slice_get (set d.endpoints e (record x { linked = false }))) own
            ∙ set_here d.endpoints e x (record x { linked = false }) here;
        queue = refl;
        dummy = refl;
        desc = refl;
        next = refl;
        gone = refl;
        ends = refl;
      }))
      (λ (differs : i ≢ e).
      record {
        endpoint = z;
        here = set_there d.endpoints e i (record x { linked = false }) differs ∙ at;
        queue = refl;
        dummy = refl;
        desc = refl;
        next = refl;
        gone = refl;
        ends = refl;
      }) (cases_eq i e);
}

-- ---- who is given back

pub record IsKnown (w : World) (e : ℕ) (x : Endpoint) (d : DriverContent) : Type 0 where
  pub before : IsAsBefore (queued w.driver) d
  pub idle : d.command ≡ None
  pub unlinked : x.linked ≡ false
  pub owners : HasOwners d
  pub turns : AsynchronousTakesTurns d
  pub tells : TellsAlike (given_by (told_parts w) e d) (queued (driver_next w).driver)
  pub memory : (driver_next w).memory ≡ (after_driver_row (rows.ReleaseEndpoint e) (record (told_parts w) { driver = d })).memory

module _ (s : Standing) (w : World) (k : IsMixedAt s w) (e : ℕ) (x : Endpoint) where
  no_command : (queued w.driver).command ≡ None → UnlinksAtMost (queued w.driver).command
  no_command idle = subst UnlinksAtMost (sym idle) tt

  of_ring : driver_row (driver_parts w) ≡ rows.ReleaseEndpoint e → IsToLeave (queued w.driver) e x → IsKnown w e x (queued w.driver)
  of_ring row leaves =
      let due : IsEndpointDue (driver_parts w) e = due_is s w k (rows.ReleaseEndpoint e) row in
      let idle : (queued w.driver).command ≡ None = idle_told w.driver due.idle in
      let now : IsEndpointDue (told_parts w) e = record { idle = idle; first = due.first; none_before = due.none_before } in
      let leaver : HasLeaver (queued w.driver) e = due_is_to_leave (told_parts w) e (owners_of s w k) now in
      record {
        before = same_before (queued w.driver) (no_command idle);
        idle = idle;
        unlinked = ap (λ (z : Endpoint). z.linked) (same_Some x leaver.endpoint (sym leaves.here ∙ leaver.leaves.here)) ∙ leaver.unlinked;
        owners = owners_of s w k;
        turns = k.turns.turns;
        tells = subst (TellsAlike (after_driver_row (rows.ReleaseEndpoint e) (told_parts w)).driver)
            (queued_next s w k (rows.ReleaseEndpoint e) row tt)
            (record { reports = refl; store = refl });
        memory = ap (λ (r : DriverRow). (after_driver_row r (driver_parts w)).memory) row
            ∙ ap (λ (q : Parts). q.memory)
            (row_alike s w k (rows.ReleaseEndpoint e) row tt).same;
      }

  -- an interrupt endpoint
  of_frames : driver_row (driver_parts w) ≡ rows.ReleaseRemoved (removed.Endpoint e) → IsToLeave (out_of_frames (queued w.driver) e) e x
      → IsKnown w e x (out_of_frames (queued w.driver) e)
  of_frames row leaves = by (slice_get w.driver.endpoints e) refl
    where
      due : IsRemovalDue (driver_parts w) (removed.Endpoint e)
      due = due_is s w k (rows.ReleaseRemoved (removed.Endpoint e)) row

      idle : (queued w.driver).command ≡ None
      idle = idle_told w.driver due.idle

      frames_idle : (o : Option Endpoint) → (out_by e (queued w.driver) o).command ≡ None
      frames_idle None = idle
      frames_idle (Some y) = idle

      before : IsAsBefore (queued w.driver) (out_of_frames (queued w.driver) e)
      before = out_as_before (queued w.driver) e (no_command idle) (slice_get (queued w.driver).endpoints e) refl

      was_there : WasSame (queued w.driver) e x
      was_there = before.ends e x leaves.here

      -- it is out of the ring, as the queues tell it
      off : (o : Option Endpoint) → slice_get (queued w.driver).endpoints e ≡ o
          → slice_get (out_by e (queued w.driver) o).endpoints e ≡ Some x
          → x.linked ≡ false
      off None here at = absurd (no_end x (sym here ∙ at))
      off (Some y) here at =
          ap (λ (z : Endpoint). z.linked)
          (same_Some x (record y { linked = false }) (sym at ∙ set_here (queued w.driver).endpoints e y (record y { linked = false }) here))

      by : (o : Option Endpoint) → slice_get w.driver.endpoints e ≡ o → IsKnown w e x (out_of_frames (queued w.driver) e)
      by None here = absurd (no_end was_there.endpoint (sym (slice_get-map queued_endpoint w.driver.endpoints e
          ∙ ap (option_map queued_endpoint) here) ∙ was_there.here))
      by (Some y) here = by_kind (is_iso y.desc.kind) refl
        where
          told : slice_get (queued w.driver).endpoints e ≡ Some (queued_endpoint y)
          told = slice_get-map queued_endpoint w.driver.endpoints e ∙ ap (option_map queued_endpoint) here

          by_kind : (b : Bool) → is_iso y.desc.kind ≡ b → IsKnown w e x (out_of_frames (queued w.driver) e)
          by_kind true iso =
              absurd (false≢true (sym leaves.held ∙ was_there.gone
              ∙ ap (λ (z : Endpoint). z.gone) (same_Some was_there.endpoint (queued_endpoint y) (sym was_there.here ∙ told))
              ∙ ap (λ (b : Bool). (if b then without_end y else with_queue y).gone) iso))
          by_kind false queue =
              let back_alike : IsGivenBackAlike (driver_parts w) e = goes_back (driver_parts w) e y k.now.framed.place.sound.owners k.turns
              due here queue in
              record {
                before = before;
                idle = frames_idle (slice_get (queued w.driver).endpoints e);
                unlinked = off (slice_get (queued w.driver).endpoints e) refl leaves.here;
                owners = back_alike.owners;
                turns = back_alike.turns;
                tells = subst (λ (r : DriverRow). TellsAlike (given_by (told_parts w) e (out_of_frames (queued w.driver) e))
                    (queued (after_driver_row r (driver_parts w)).driver))
                    (sym row) back_alike.tells;
                memory = ap (λ (r : DriverRow). (after_driver_row r (driver_parts w)).memory) row ∙ back_alike.memory;
              }

  pub known : (d : DriverContent) → LeftBy w e d → IsToLeave d e x → IsKnown w e x d
  known _ (left_the_ring row) leaves = of_ring row leaves
  known _ (left_its_frames row) leaves = of_frames row leaves

-- ---- the row

module _ (s : Standing) (m : Lines) (w : World) (k : IsMixedAt s w) (g : IsTelling s m w) (e : ℕ) (x : Endpoint) (d : DriverContent)
    (t : Standing)
    (b : IsGivenBack w (driver_next w) e x d) (without : IsWithout s t (32 * x.queue)) (mixed : IsMixedAt t (driver_next w)) where
  abbrev n : ℕ
  n = 32 * x.queue

  abbrev p : Parts
  p = record (told_parts w) { driver = d }

  abbrev new : DriverContent
  new = queued (driver_next w).driver

  abbrev given : DriverContent
  given = given_by (told_parts w) e d

  abbrev now : StructureSets
  now = without_queue s.parts (32 * x.queue)

  what : IsKnown w e x d
  what = known s w k e x d b.left b.leaves

  there : IsThere d x
  there = record { linked = λ opens. none_some (unfinished.Open x.queue) (sym what.idle ∙ opens); kept = b.leaves.held }

  none_there : t.parts (32 * x.queue) (32 * x.queue) ≡ None
  none_there =
      ap (λ (ps : StructureSets). ps n n) without.parts
      ∙ ap (λ (c : Bool). (if c then fewer_structures (λ (a : ℕ). true) (s.parts n) else s.parts n) n) (eq-eqb n n refl)

  none_is_head : (q : Qh) → ◌≡◌ {A = Option Structure} None (Some (QueueHead q)) → ⊥
  none_is_head q is = cc

  no_head : (q : Qh) → both t.descs t.parts (32 * x.queue) (32 * x.queue) ≡ Some (QueueHead q) → ⊥
  no_head q here =
      let off = other_off (views_of (driver_next w).driver) t.descs t.parts n (QueueHead q) (describes t (driver_next w) mixed).described
      refl here in
      none_is_head q (sym none_there ∙ sym (ap (λ (part : Structures). part n) (both_off t.descs t.parts n off)) ∙ here)

  pub settled : SettlesElsewhere (in_hand s) (32 * x.queue)
  settled =
      subst (λ (h : Hand). SettlesElsewhere (joined h s.frame) (32 * x.queue)) without.hand
      (subst (λ (f : FrameHand). SettlesElsewhere (joined t.hand f) (32 * x.queue)) without.frame
      (settles_elsewhere opening_base t.member (met (driver_next w).driver t.recent) (both t.descs t.parts) t.hand t.frame
      (controller_parts (driver_next w))
      mixed.now.framed.runs n no_head))

  leaver : IsLeaver s.parts (in_hand s) (record (told_parts w) { driver = d }) e x
  leaver = record {
    idle = what.idle;
    leaves = b.leaves;
    unlinked = what.unlinked;
    owners = what.owners;
    turns = what.turns;
    fed = fed_now (queued w.driver) d what.before s.parts k.queues.queues.fed;
    tells = tells_of s w k;
    settled = settled;
  }

  -- ---- the others

  abbrev others_of : Parts
  others_of = record (told_parts w) { driver = d }

  -- an endpoint that is counted then is another one, and was counted before
  record WasCounted (i : ℕ) : Type 0 where
    apart : i ≢ 32 * x.queue
    counted_before : there_of (queued w.driver) i ≡ true

  was_counted : (i : ℕ) → there_of (queued (driver_next w).driver) i ≡ true → WasCounted i
  was_counted i on =
      let h : HasBulkThere given i = bulk_there given i (sym (there_same given new i b.told.endpoints b.told.command) ∙ on) in
      let differs : h.has.number ≢ e = other_by others_of e x b.leaves.here h.has.number h.has.endpoint h.has.here h.has.there.kept in
      let here : slice_get d.endpoints h.has.number ≡ Some h.has.endpoint = was others_of e x b.leaves.here h.has.number h.has.endpoint
      h.has.here differs in
      record {
        apart = λ same.
            differs
            (queues_same h.has.endpoint.queue x.queue h.has.number e (same_blocks h.has.endpoint.queue x.queue (sym h.has.at ∙ same))
            (queue_placed d what.owners h.has.number h.has.endpoint here
            (what.turns.asynchronous.endpoints h.has.number h.has.endpoint here) h.has.there.kept)
            (queue_placed d what.owners e x b.leaves.here (what.turns.asynchronous.endpoints e x b.leaves.here) b.leaves.held));
        counted_before = before_there (queued w.driver) d i what.before
            (there_by d i
            (record {
              has = record {
                number = h.has.number;
                endpoint = h.has.endpoint;
                here = here;
                there = record {
                  linked = λ opens. none_some (unfinished.Open h.has.endpoint.queue) (sym what.idle ∙ opens);
                  kept = h.has.there.kept;
                };
                at = h.has.at;
              };
              stream = h.stream;
            }));
      }

  -- ---- what is told

  reports_it : has_stream x.desc.kind ≡ true
      → IsReported (s.order (32 * x.queue)) (out_now d e) (in_hand s) s.parts (32 * x.queue) (m.acc (32 * x.queue))
      (m.reported (32 * x.queue))
  reports_it stream =
      let on : there_of (queued w.driver) n ≡ true = before_there (queued w.driver) d n what.before
      (there_on d e x b.leaves.here there stream) in
      let old : WasSame (queued w.driver) e x = what.before.ends e x b.leaves.here in
      let old_there : IsThere (queued w.driver) old.endpoint = record {
        linked = λ opens. subst UnlinksAtMost opens what.before.idle;
        kept = sym old.gone ∙ b.leaves.held;
      } in
      let out_is : s.out n ≡ out_now (queued w.driver) e =
      ap (λ (q : ℕ). s.out (32 * q)) old.queue ∙ k.queues.queues.out_are e old.endpoint old.here old_there in
      subst (λ (es : List ℕ). IsReported (s.order n) es (in_hand s) s.parts n (m.acc n) (m.reported n))
      (out_is ∙ sym (out_before (queued w.driver) d e what.before))
      (g.moved n on)

  told_then : ToldStands (queued (driver_next w).driver) (in_hand s) (without_queue s.parts (32 * x.queue)) m.reported
  told_then =
      same_told given new (in_hand s) now m.reported b.told what.tells
      (release_is_told (s.order n) s.parts (in_hand s) (record (told_parts w) { driver = d }) e x (m.acc n) m.reported leaver reports_it
      (leaves_are_told (queued w.driver) d (in_hand s) s.parts m.reported what.before g.told)).0

  abbrev At : StructureSets → Hand → Type 0
  At ps h = ToldStands (queued (driver_next w).driver) h ps m.reported

  -- what is told of the one that is given back
  pub gone_told : IsToldGone d (given_by (told_parts w) e d) e x (m.acc (32 * x.queue))
  gone_told =
      (release_is_told (s.order n) s.parts (in_hand s) (record (told_parts w) { driver = d }) e x (m.acc n) m.reported leaver reports_it
      (leaves_are_told (queued w.driver) d (in_hand s) s.parts m.reported what.before g.told)).1

  pub gone_tells : TellsAlike (given_by (told_parts w) e d) (queued (driver_next w).driver)
  gone_tells = what.tells

  pub gone_before : IsAsBefore (queued w.driver) d
  gone_before = what.before

  same_in_hand : in_hand t ≡ in_hand s
  same_in_hand = ap (λ (h : Hand). joined h t.frame) without.hand ∙ ap (λ (f : FrameHand). joined s.hand f) without.frame

  pub go_telling : IsTelling t m (driver_next w)
  go_telling = record {
    told = subst (λ (h : Hand). At t.parts h) (sym same_in_hand) (subst (λ (ps : StructureSets). At ps (in_hand s)) (sym without.parts)
        told_then);
    moved = λ i on.
        let c : WasCounted i = was_counted i on in
        subst (λ (o : ℕ → ℕ → ℕ). IsReported (o i) (t.out i) (in_hand t) t.parts i (m.acc i) (m.reported i)) (sym without.order)
        (subst (λ (es : ℕ → List ℕ). IsReported (s.order i) (es i) (in_hand t) t.parts i (m.acc i) (m.reported i)) (sym without.out)
        (subst (λ (h : Hand). IsReported (s.order i) (s.out i) h t.parts i (m.acc i) (m.reported i)) (sym same_in_hand)
        (subst (λ (ps : StructureSets). IsReported (s.order i) (s.out i) (in_hand s) ps i (m.acc i) (m.reported i)) (sym without.parts)
        (relinked_reported s.parts now i (same_at s.parts now i (queue_beside s.parts n i c.apart)) (s.order i) (s.out i) (in_hand s)
        (in_hand s) (m.acc i)
        (m.reported i) (same_hand (in_hand s)) (g.moved i c.counted_before)))));
    sound = λ i on.
        let c : WasCounted i = was_counted i on in
        subst (λ (ps : StructureSets). IsQueuePart i (ps i)) (sym without.parts)
        (subst (IsQueuePart i) (sym (queue_beside s.parts n i c.apart)) (g.sound i c.counted_before));
  }

pub release_tells : ReleaseTells
release_tells s m w k g e x d t b without mixed = go_telling s m w k g e x d t b without mixed
