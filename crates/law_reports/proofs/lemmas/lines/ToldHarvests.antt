-- A harvest tells the bytes of one qTD more, and else leaves what is told of each queue.
use Rattle.std.proofs.Common.{◌≡◌, ◌≢◌, ℕ, ◌*◌, Bool, true, false, List, [], ◌++◌, slice_get, Option, Some, None, option_map, ap, refl, sym, subst, ◌∙◌, ⊎_elim}
use Rattle.std.specs.Prelude.{◌==◌, ◌||◌, if◌then◌else◌}
use Rattle.std.proofs.lemmas.Bool.{cases_eq, eq-eqb}
use Rattle.std.proofs.lemmas.List.{append-nil}
use Rattle.std.proofs.lemmas.Option.{same_Some}
use Rattle.law_common.proofs.Numbers.{other_number}
use Rattle.law_queues.proofs.Common.{bulk_unstalled}
use Rattle.law_world.proofs.Common.{control_kind, none_some}
use Rattle.usb_base.specs.declared.endpoints.EpDesc.{EpDesc}
use Rattle.usb_base.specs.declared.packets.EpKind.TheVariants as kinds
use Rattle.drv_table.specs.declared.content.Endpoint.{Endpoint}
use Rattle.drv_table.specs.declared.content.Command.TheVariants as unfinished
use Rattle.drv_table.specs.declared.rows.DriverRow.TheVariants as rows
use Rattle.drv_table.specs.declared.rows.Found.{Found}
use Rattle.drv_table.specs.declared.rows.Found.TheVariants as founds
use Rattle.drv_table.specs.DriverContent.{DriverContent}
use Rattle.drv_table.specs.Kinds.{is_iso}
use Rattle.drv_table.specs.Parts.{Parts}
use Rattle.drv_table.specs.Rows.{after_driver_row}
use Rattle.drv_table.specs.Words.{is_control}
use Rattle.claims_driver.specs.Leaving.{HasOwners}
use Rattle.claims_driver.specs.Owners.{EndpointRuns, runs_of_endpoint}
use Rattle.law_driver.specs.AsynchronousScripts.{IsAsynchronous}
use Rattle.claims_report.specs.Streams.{has_stream}
use Rattle.law_driver.specs.run_owners.Due.{IsHarvestDue}
use Rattle.law_driver.specs.chained_transfers.Asynchronous.{OnlyAsynchronous}
use Rattle.law_driver.specs.chained_transfers.AsynchronousTurns.{AsynchronousTakesTurns}
use Rattle.law_driver.specs.chained_transfers.Out.{out_now}
use Rattle.law_driver.proofs.lemmas.chained_transfers.BulkAndControl.{not_iso}
use Rattle.law_driver.specs.queued_drivers.Queued.{queued}
use Rattle.law_ring.specs.Hand.{Hand}
use Rattle.law_ring.specs.QueueParts.{IsQueuePart}
use Rattle.law_driver_ring.proofs.Viewing.{harvest_views}
use Rattle.law_driver_ring.proofs.lemmas.walk_members.Descriptions.{desc_of, row_left}
use Rattle.law_driver_ring.specs.fed_queues.Places.{IsMet, HasThere}
use Rattle.law_driver_ring.proofs.lemmas.fed_queues.Places.{stands_met}
use Rattle.law_controller.specs.controlled_streams.Reported.{IsReported, AreReported}
use Rattle.law_queues.specs.fed_harvests.Harvests.{Harvested, with_out}
use Rattle.law_queues.specs.harvest_laws.Told.{ToldStands}
use Rattle.law_queues.specs.harvest_laws.ToldLaws.{HarvestReports}
use Rattle.law_queues.proofs.lemmas.harvest_laws.ReadRows.{harvest_row_is_told, wait_is_told}
use Rattle.law_queues.proofs.lemmas.harvest_laws.Requests.{other_harvest_is_told}
use Rattle.law_world.specs.streams.Feeding.{there_of}
use Rattle.law_world.proofs.lemmas.streams.FeedingPassed.{passed_are_untold}
use Rattle.law_world.proofs.lemmas.streams.Told.{HasBulkThere, there_by, there_on, bulk_there, stream_kind, bulk_kind}
use Rattle.law_world.specs.memory.Mixed.{Standing, IsMixedAt}
use Rattle.law_world.specs.memory.Steps.{told_parts, IsToldRow, OutAfter, waits, passes, stalls}
use Rattle.law_world.proofs.lemmas.memory.HarvestKept.{owners_of, tells_of, fronts_of}
use Rattle.bus_world.specs.World.{World}
use Rattle.law_reports.specs.lines.Lined.{in_hand, Lines, IsTelling}
use Rattle.law_reports.specs.lines.TellingLaws.{IsToldMore}
use Rattle.law_reports.specs.lines.TellingSteps.{HarvestTells}
use Rattle.law_reports.proofs.lemmas.lines.Heads.{there_alone}

-- ---- the endpoints that are there were so before

record WasLike (o : Option Endpoint) (z : Endpoint) : Type 0 where
  endpoint : Endpoint
  here : o ≡ Some endpoint
  queue : z.queue ≡ endpoint.queue
  desc : z.desc ≡ endpoint.desc
  bare : (is_iso z.desc.kind || z.gone) ≡ (is_iso endpoint.desc.kind || endpoint.gone)

was_like : (o : Option Endpoint) (z : Endpoint) → Some (runs_of_endpoint z) ≡ option_map runs_of_endpoint o
    → Some z.desc ≡ option_map desc_of o
    → WasLike o z
was_like None z runs desc = absurd cc
was_like (Some b) z runs desc = record {
  endpoint = b;
  here = refl;
  queue = ap (λ (r : EndpointRuns). r.queue) (same_Some (runs_of_endpoint z) (runs_of_endpoint b) runs);
  desc = same_Some z.desc b.desc desc;
  bare = ap (λ (r : EndpointRuns). r.bare) (same_Some (runs_of_endpoint z) (runs_of_endpoint b) runs);
}

pub harvest_there : (p : Parts) (e t : ℕ) (found : Found) → OnlyAsynchronous p.driver → IsHarvestDue p e t found → (n : ℕ)
    → there_of (after_driver_row (rows.Harvest e t found) p).driver n ≡ true → there_of p.driver n ≡ true
harvest_there p e t found only due n is_there =
    let new : DriverContent = (after_driver_row (rows.Harvest e t found) p).driver in
    let bulk : HasBulkThere new n = bulk_there new n is_there in
    let h : HasThere new n = bulk.has in
    let b : WasLike (slice_get p.driver.endpoints h.number) h.endpoint =
    was_like (slice_get p.driver.endpoints h.number) h.endpoint
    (sym (ap (option_map runs_of_endpoint) h.here) ∙ (harvest_views p.driver p.memory e t found).endpoint h.number)
    (sym (ap (option_map desc_of) h.here) ∙ row_left (rows.Harvest e t found) p h.number) in
    let queue : is_iso b.endpoint.desc.kind ≡ false = not_iso b.endpoint.desc (only.endpoints h.number b.endpoint b.here).asynchronous in
    let gone : h.endpoint.gone ≡ b.endpoint.gone =
    sym (ap (λ (c : Bool). c || h.endpoint.gone) (ap (λ (c : EpDesc). is_iso c.kind) b.desc ∙ queue))
    ∙ (b.bare ∙ ap (λ (c : Bool). c || b.endpoint.gone) queue) in
    there_by p.driver n
    (record {
      has = record {
        number = h.number;
        endpoint = b.endpoint;
        here = b.here;
        there = record {
          linked = λ is. none_some (unfinished.Open b.endpoint.queue) (sym due.idle ∙ is);
          kept = sym gone
              ∙ h.there.kept;
        };
        at = h.at ∙ ap (λ (q : ℕ). 32 * q) b.queue;
      };
      stream = ap (λ (c : EpDesc). has_stream c.kind) (sym b.desc) ∙ bulk.stream;
    })

module _ (s : Standing) (m : Lines) (w : World) (k : IsMixedAt s w) (g : IsTelling s m w) (e t : ℕ) (found : Found)
    (due : IsHarvestDue (told_parts w) e t found) where
  abbrev d : DriverContent
  d = queued w.driver

  abbrev f : DriverContent
  f = (after_driver_row (rows.Harvest e t found) (told_parts w)).driver

  abbrev n : ℕ
  n = 32 * due.endpoint.queue

  abbrev hand : Hand
  hand = in_hand s

  owners : HasOwners (queued w.driver)
  owners = owners_of s w k

  turns : AsynchronousTakesTurns (queued w.driver)
  turns = k.turns.turns

  described : IsAsynchronous due.endpoint.desc
  described = (turns.asynchronous.endpoints e due.endpoint due.here).asynchronous

  met : IsMet (queued w.driver) e due.endpoint
  met = stands_met (queued w.driver) e due.endpoint (turns.asynchronous.endpoints e due.endpoint due.here) due.goes_on
      (λ is. none_some (unfinished.Open due.endpoint.queue) (sym due.idle ∙ is))

  part : IsQueuePart (32 * due.endpoint.queue) (s.parts (32 * due.endpoint.queue))
  part = k.queues.sound e due.endpoint due.here met

  -- what is told and counted then
  pub record ToldThen (later : ℕ → List ℕ) : Type 0 where
    pub lines : Lines
    pub more : IsToldMore (32 * due.endpoint.queue) m lines
    pub told : ToldStands f (in_hand s) s.parts lines.reported
    pub moved : AreReported (there_of (queued w.driver)) s.order later (in_hand s) s.parts lines.acc lines.reported

  none_more : IsToldMore (32 * due.endpoint.queue) m m
  none_more = record {
    bytes = [];
    more = record {
      moved = refl;
      here = sym (append-nil (m.reported (32 * due.endpoint.queue)));
      beside = λ j differs. refl;
    };
  }

  out_here : (out : List ℕ) → with_out s.out (32 * due.endpoint.queue) out (32 * due.endpoint.queue) ≡ out
  out_here out = ap (λ (b : Bool). if b then out else s.out (32 * due.endpoint.queue))
      (eq-eqb (32 * due.endpoint.queue) (32 * due.endpoint.queue) refl)

  out_beside : (out : List ℕ) (j : ℕ) → j ≢ 32 * due.endpoint.queue → with_out s.out (32 * due.endpoint.queue) out j ≡ s.out j
  out_beside out j differs = ap (λ (b : Bool). if b then out else s.out j) (other_number j (32 * due.endpoint.queue) differs)

  -- ---- it isn't done

  not_done : found ≡ founds.Active → ToldThen s.out
  not_done is = record {
    lines = m;
    more = none_more;
    told = subst (λ (z : Found). ToldStands (after_driver_row (rows.Harvest e t z) (told_parts w)).driver (in_hand s) s.parts m.reported)
        (sym is)
        (wait_is_told (told_parts w) s.parts (in_hand s) e t m.reported (subst (IsHarvestDue (told_parts w) e t) is due) g.told);
    moved = g.moved;
  }

  -- ---- of a control endpoint

  module _ (control : is_control due.endpoint.desc.kind ≡ true) where
    -- its queue head is none of those whose bytes are counted
    apart : (j : ℕ) → there_of (queued w.driver) j ≡ true → j ≢ 32 * due.endpoint.queue
    apart j on same =
        there_alone (queued w.driver) e due.endpoint owners turns.asynchronous due.here met.there.kept control
        (ap (there_of (queued w.driver)) (sym same) ∙ on)

    requested : (out : List ℕ) → ToldThen (with_out s.out (32 * due.endpoint.queue) out)
    requested out = record {
      lines = m;
      more = none_more;
      told = (other_harvest_is_told (told_parts w) s.parts (in_hand s) e t found m.reported due owners turns
          (control_kind due.endpoint.desc.kind control) g.told).stands;
      moved = λ j on.
          subst (λ (now : List ℕ). IsReported (s.order j) now (in_hand s) s.parts j (m.acc j) (m.reported j))
          (sym (out_beside out j (apart j on))) (g.moved j on);
    }

  -- ---- of a bulk endpoint

  module _ (bulk : is_control due.endpoint.desc.kind ≡ false) where
    kind : due.endpoint.desc.kind ≡ kinds.Bulk
    kind = bulk_kind due.endpoint.desc described bulk

    here_on : there_of (queued w.driver) (32 * due.endpoint.queue) ≡ true
    here_on = there_on (queued w.driver) e due.endpoint due.here met.there (stream_kind due.endpoint.desc described bulk)

    right_now : IsReported (s.order (32 * due.endpoint.queue)) (out_now (queued w.driver) e) (in_hand s) s.parts (32 * due.endpoint.queue)
        (m.acc (32 * due.endpoint.queue)) (m.reported (32 * due.endpoint.queue))
    right_now =
        subst (λ (out : List ℕ). IsReported (s.order (32 * due.endpoint.queue)) out (in_hand s) s.parts (32 * due.endpoint.queue)
        (m.acc (32 * due.endpoint.queue)) (m.reported (32 * due.endpoint.queue)))
        (k.queues.queues.out_are e due.endpoint due.here met.there) (g.moved (32 * due.endpoint.queue) here_on)

    reports : found ≢ founds.Active
        → HarvestReports (s.order (32 * due.endpoint.queue)) (queued w.driver) f (in_hand s) s.parts e due.endpoint
        (m.acc (32 * due.endpoint.queue)) m.reported
    reports differs =
        harvest_row_is_told (s.order (32 * due.endpoint.queue)) (told_parts w) s.parts (in_hand s) e t found
        (m.acc (32 * due.endpoint.queue))
        m.reported due differs
        owners turns kind k.queues.queues.fed (tells_of s w k) part
        (λ a z earlier of_it.
        passed_are_untold (queued w.driver) s.parts (in_hand s) s.order s.out e t due.endpoint a z due.idle turns.turns
        k.queues.queues.out_are
        (fronts_of s w k)
        due.here met due.goes_on due.next earlier of_it) g.told right_now

    harvested : found ≢ founds.Active → (h : Harvested (queued w.driver) f e t due.transfer)
        → ToldThen (with_out s.out (32 * due.endpoint.queue) (h.before ++ h.behind))
    harvested differs h = record {
      lines = record m { reported = now };
      more = record { bytes = hr.bytes; more = record { moved = refl; here = now_here; beside = now_beside } };
      told = hr.stands now now_here now_beside;
      moved = moved;
    }
      where
        hr : HarvestReports (s.order (32 * due.endpoint.queue)) (queued w.driver) f (in_hand s) s.parts e due.endpoint
            (m.acc (32 * due.endpoint.queue)) m.reported
        hr = reports differs

        out : List ℕ
        out = h.before ++ h.behind

        later : ℕ → List ℕ
        later = with_out s.out (32 * due.endpoint.queue) (h.before ++ h.behind)

        now : ℕ → List ℕ
        now j = if j == 32 * due.endpoint.queue then m.reported j ++ hr.bytes else m.reported j

        now_here : now (32 * due.endpoint.queue) ≡ m.reported (32 * due.endpoint.queue) ++ hr.bytes
        now_here = ap (λ (b : Bool). if b then m.reported (32 * due.endpoint.queue) ++ hr.bytes else m.reported (32 * due.endpoint.queue))
            (eq-eqb (32 * due.endpoint.queue) (32 * due.endpoint.queue) refl)

        now_beside : (j : ℕ) → j ≢ 32 * due.endpoint.queue → now j ≡ m.reported j
        now_beside j other = ap (λ (b : Bool). if b then m.reported j ++ hr.bytes else m.reported j)
            (other_number j (32 * due.endpoint.queue) other)

        later_here : later (32 * due.endpoint.queue) ≡ out_now f e
        later_here = out_here (h.before ++ h.behind) ∙ sym h.now

        moved : AreReported (there_of (queued w.driver)) s.order later (in_hand s) s.parts m.acc now
        moved j on =
            ⊎_elim (λ (is : j ≡ 32 * due.endpoint.queue).
            subst (λ (i : ℕ). IsReported (s.order i) (later i) (in_hand s) s.parts i (m.acc i) (now i)) (sym is)
            (subst (λ (bytes : List ℕ). IsReported (s.order (32 * due.endpoint.queue)) (later (32 * due.endpoint.queue)) (in_hand s) s.parts
            (32 * due.endpoint.queue) (m.acc (32 * due.endpoint.queue)) bytes) (sym now_here)
            (subst (λ (es : List ℕ). IsReported (s.order (32 * due.endpoint.queue)) es (in_hand s) s.parts (32 * due.endpoint.queue)
            (m.acc (32 * due.endpoint.queue)) (m.reported (32 * due.endpoint.queue) ++ hr.bytes)) (sym later_here) hr.right)))
            (λ (other : j ≢ 32 * due.endpoint.queue).
            subst (λ (bytes : List ℕ). IsReported (s.order j) (later j) (in_hand s) s.parts j (m.acc j) bytes) (sym (now_beside j other))
            (subst (λ (es : List ℕ). IsReported (s.order j) es (in_hand s) s.parts j (m.acc j) (m.reported j))
            (sym (out_beside (h.before ++ h.behind) j other)) (g.moved j on))) (cases_eq j (32 * due.endpoint.queue))

  -- ---- either

  by_kind : (b : Bool) → is_control due.endpoint.desc.kind ≡ b → (later : ℕ → List ℕ) → OutAfter (told_parts w) e t found due s.out later
      → ToldThen later
  by_kind b control _ (waits is) = not_done is
  by_kind true control _ (passes differs never h) = requested control (h.before ++ h.behind)
  by_kind false bulk _ (passes differs never h) = harvested bulk differs h
  by_kind true control _ (stalls stall h) = requested control (h.before ++ h.later)
  by_kind false bulk _ (stalls stall h) = absurd (bulk_unstalled due.endpoint.desc.kind found (kind bulk) stall)

  pub told_then : (later : ℕ → List ℕ) → OutAfter (told_parts w) e t found due s.out later → ToldThen later
  told_then later after = by_kind (is_control due.endpoint.desc.kind) refl later after

  pub harvest_lines : (new : World) → IsToldRow w new (rows.Harvest e t found) → (later : ℕ → List ℕ)
      → (a : OutAfter (told_parts w) e t found due s.out later)
      → IsTelling (record s { out = later }) (told_then later a).lines new
  harvest_lines new row later a =
      let h : ToldThen later = told_then later a in
      let was : (j : ℕ) → there_of (queued new.driver) j ≡ true → there_of (queued w.driver) j ≡ true =
      λ j on. harvest_there (told_parts w) e t found turns.asynchronous due j (ap (λ (c : DriverContent). there_of c j) (sym row.told)
      ∙ on) in
      record {
        told = subst (λ (c : DriverContent). ToldStands c (in_hand s) s.parts h.lines.reported) (sym row.told) h.told;
        moved = λ j on. h.moved j (was j on);
        sound = λ j on. g.sound j (was j on);
      }

pub harvest_tells : HarvestTells
harvest_tells s m w new e t found later k g due is after = record {
  lines = (told_then s m w k g e t found due later after).lines;
  more = (told_then s m w k g e t found due later after).more;
  telling = harvest_lines s m w k g e t found due new is later after;
}
