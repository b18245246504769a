-- The driver harvests a qTD: its bytes are reported, and still to be sent no more.
use Rattle.std.proofs.Common.{◌≡◌, ◌≢◌, ℕ, ◌*◌, true, false, List, [], ◌++◌, slice_get, Some, ap, refl, sym, subst, ◌∙◌}
use Rattle.std.specs.List.{concat}
use Rattle.law_driver.proofs.Common.{out_way}
use Rattle.law_world.proofs.Common.{none_some}
use Rattle.usb_base.specs.declared.endpoints.EpName.{EpName}
use Rattle.usb_base.specs.declared.packets.Way.TheVariants as ways
use Rattle.bus_wire.specs.Bus.{Fixed}
use Rattle.claims_driver.specs.Owners.{note_in}
use Rattle.claims_driver.specs.Scripts.{receives}
use Rattle.claims_report.specs.Streams.{has_stream}
use Rattle.word_mem.specs.Memory.{Mem}
use Rattle.drv_table.specs.declared.content.Command.TheVariants as unfinished
use Rattle.drv_table.specs.declared.content.Endpoint.{Endpoint}
use Rattle.drv_table.specs.declared.rows.DriverRow.{DriverRow}
use Rattle.drv_table.specs.declared.rows.DriverRow.TheVariants as rows
use Rattle.drv_table.specs.declared.rows.Found.{Found}
use Rattle.drv_table.specs.declared.rows.Found.TheVariants as founds
use Rattle.drv_table.specs.DriverContent.{DriverContent}
use Rattle.drv_table.specs.Rows.{after_driver_row}
use Rattle.law_driver.specs.chained_transfers.Out.{out_now}
use Rattle.law_driver.specs.queued_drivers.Queued.{queued}
use Rattle.law_driver.specs.run_owners.Due.{IsHarvestDue}
use Rattle.law_driver.proofs.lemmas.queued_drivers.CommandFields.{name_same}
use Rattle.law_driver_ring.specs.fed_queues.Places.{IsThere, IsMet}
use Rattle.law_driver_ring.proofs.lemmas.fed_queues.Places.{stands_met}
use Rattle.law_controller.specs.controlled_streams.Reported.{IsReported}
use Rattle.law_ring.specs.QueueParts.{IsQueuePart}
use Rattle.law_ring.specs.Told.{Told}
use Rattle.law_queues.specs.harvest_laws.Outs.{IsOutEarlier}
use Rattle.law_queues.specs.harvest_laws.Told.{ToldStands}
use Rattle.law_queues.proofs.lemmas.harvest_laws.ReadRows.{not_active, wait_is_told}
use Rattle.law_world.specs.memory.Mixed.{Standing, IsMixedAt}
use Rattle.law_world.specs.memory.Steps.{IsToldRow, told_parts}
use Rattle.law_world.specs.streams.put_laws.HeldPuts.{HoldsPuts}
use Rattle.law_world.specs.streams.put_laws.Owed.{rest_of, Owes}
use Rattle.law_world.specs.streams.put_laws.OwedLaws.{IsMovedWhole}
use Rattle.law_world.specs.streams.put_laws.OwedTaken.{EndedAreStopped}
use Rattle.law_world.specs.streams.put_laws.Sent.{SentStand}
use Rattle.law_world.specs.streams.put_laws.TakenPuts.{puts_of}
use Rattle.law_world.proofs.lemmas.memory.HarvestKept.{owners_of, tells_of, fronts_of}
use Rattle.law_world.proofs.lemmas.streams.FeedingPassed.{passed_are_untold}
use Rattle.law_world.proofs.lemmas.streams.Told.{there_on, stream_out}
use Rattle.law_world.proofs.lemmas.streams.lemmas.put_laws.Harvested.{Likes, harvest_like}
use Rattle.law_world.proofs.lemmas.streams.lemmas.put_laws.OwedReading.{told_once}
use Rattle.law_world.proofs.lemmas.streams.lemmas.put_laws.Reported.{harvest_owes, wait_owes}
use Rattle.law_world.proofs.lemmas.streams.lemmas.put_laws.Rests.{prefix_of}
use Rattle.law_world.proofs.lemmas.streams.lemmas.put_laws.SentReading.{puts_leave_none}
use Rattle.law_world.proofs.lemmas.streams.lemmas.put_laws.TakenStopped.{harvest_stops}
use Rattle.law_reports.specs.lines.Lined.{in_hand, Lines, IsTelling}
use Rattle.law_reports.specs.pipes.Declared.{Sides}
use Rattle.law_reports.specs.pipes.Piped.{Heads, IsPiped}
use Rattle.law_reports.proofs.lemmas.pipes.Names.{WasQueued, was_queued, queue_same}
use Rattle.law_reports.specs.pipes.puts.Paid.{IsSentOut, Pays}
use Rattle.law_reports.proofs.lemmas.pipes.lemmas.puts.HeldEvents.{driven_holds}
use Rattle.bus_world.specs.World.{World, driver_parts, driver_next}

-- what is owed where the same is reported
same_reports : (d : DriverContent) (m : Mem) (puts reported told : ℕ → List ℕ)
    → ((e : ℕ) (x : Endpoint) → slice_get d.endpoints e ≡ Some x → receives x.desc.name.way ≡ false → IsThere d x
    → told (32 * x.queue) ≡ reported (32 * x.queue))
    → Owes d m puts reported → Owes d m puts told
same_reports d m puts reported told same owes = record {
  going = λ e x here meets sends goes.
      ap (λ (bs : List ℕ). bs ++ rest_of d m e) (same e x here sends meets) ∙ owes.going e x here meets sends goes;
  over = λ e x cause here meets sends ends.
      prefix_of (told (32 * x.queue)) (reported (32 * x.queue)) (concat (puts_of d puts e)) (same e x here sends meets)
      (owes.over e x cause here meets sends ends);
  opening = owes.opening;
  last = owes.last;
}

module _ (fixed : Fixed) (x : Sides) (s : Standing) (m : Lines) (h : Heads) (puts : ℕ → List ℕ) (w : World)
    (k : IsPiped fixed x s m h w) (pays : Pays fixed x s m puts w) where
  abbrev d : DriverContent
  d = queued w.driver

  pub sent_stand : SentStand (queued w.driver) s.order s.out (in_hand s) s.parts
  sent_stand e z here met sends =
      let v : WasQueued w.driver.endpoints e z = was_queued w.driver.endpoints e z here in
      let way : v.endpoint.desc.name.way ≡ ways.Out =
      ap (λ (name : EpName). name.way) (sym (name_same v.endpoint)) ∙ ap (λ (u : Endpoint). u.desc.name.way) (sym v.is)
      ∙ out_way z.desc.name.way sends in
      let same : z.queue ≡ v.endpoint.queue = ap (λ (u : Endpoint). u.queue) v.is ∙ queue_same v.endpoint in
      (subst (λ (q : ℕ). IsSentOut s (32 * q)) (sym same)
      (pays.outs e v.endpoint v.here (subst (IsThere (queued w.driver)) v.is met.there) way)).whole

  module _ (e t : ℕ) (found : Found) (due : IsHarvestDue (told_parts w) e t found)
      (is : IsToldRow w (driver_next w) (rows.Harvest e t found)) (later : ℕ → List ℕ)
      (mixed : IsMixedAt (record s { out = later }) (driver_next w)) (l : Lines)
      (telling : IsTelling (record s { out = later }) l (driver_next w)) where
    abbrev f : DriverContent
    f = (after_driver_row (rows.Harvest e t found) (told_parts w)).driver

    abbrev n : ℕ
    n = 32 * due.endpoint.queue

    to_next : (P : DriverContent → Type 0) → P (after_driver_row (rows.Harvest e t found) (told_parts w)).driver
        → P (queued (driver_next w).driver)
    to_next P it = subst P (sym is.told) it

    met : IsMet (queued w.driver) e due.endpoint
    met =
        stands_met (queued w.driver) e due.endpoint (k.mixed.turns.turns.asynchronous.endpoints e due.endpoint due.here) due.goes_on
        (λ opens. none_some (unfinished.Open due.endpoint.queue) (sym due.idle ∙ opens))

    part : IsQueuePart (32 * due.endpoint.queue) (s.parts (32 * due.endpoint.queue))
    part = k.mixed.queues.sound e due.endpoint due.here met

    -- ---- a halted one ends its endpoint

    pub harvested_ended : EndedAreStopped (queued (driver_next w).driver) s.parts
    harvested_ended =
        to_next (λ (g : DriverContent). EndedAreStopped g s.parts)
        (harvest_stops (s.order n) (s.out n) (told_parts w) s.parts (in_hand s) e t found due (owners_of s w k.mixed) k.mixed.turns.turns
        k.mixed.queues.queues.fed (tells_of s w k.mixed) part (λ sends. sent_stand e due.endpoint due.here met sends) pays.ended)

    -- ---- the buffers

    likes : Likes (queued w.driver) (queued (driver_next w).driver)
    likes =
        to_next (Likes d) (harvest_like d w.memory e t found (slice_get d.endpoints e) (slice_get d.transfers t) refl)

    pub harvested_holds : HoldsPuts (queued (driver_next w).driver) (driver_next w).memory puts
    harvested_holds =
        driven_holds fixed x s m puts w k.mixed pays (record s { out = later }) mixed (λ i o a pages j bs here. here) likes.transfers
        likes.notes

    -- ---- what is still to be sent

    untold : (a : ℕ) (z : List ℕ) → IsOutEarlier (note_in (queued w.driver).notes) e t (queued w.driver).transfers a
        → Told (in_hand s) s.parts (32 * due.endpoint.queue) a z → z ≡ []
    untold a z earlier of_it =
        passed_are_untold d s.parts (in_hand s)
        s.order s.out e t due.endpoint a z due.idle k.mixed.turns.turns.turns k.mixed.queues.queues.out_are
        (fronts_of s w k.mixed) due.here met due.goes_on due.next earlier of_it

    right_now : has_stream due.endpoint.desc.kind ≡ true
        → IsReported (s.order (32 * due.endpoint.queue)) (out_now (queued w.driver) e) (in_hand s) s.parts (32 * due.endpoint.queue)
        (m.acc (32 * due.endpoint.queue)) (m.reported (32 * due.endpoint.queue))
    right_now streams =
        subst (λ (out : List ℕ). IsReported (s.order n) out (in_hand s) s.parts n (m.acc n) (m.reported n))
        (k.mixed.queues.queues.out_are e due.endpoint due.here met.there)
        (k.telling.moved n (there_on (queued w.driver) e due.endpoint due.here met.there streams))

    moved_whole : found ≢ founds.Active → receives due.endpoint.desc.name.way ≡ false
        → IsMovedWhole (queued w.driver) w.memory due.transfer
    moved_whole differs sends going =
        puts_leave_none (told_parts w) e t found (in_hand s) s.parts s.order s.out
        (record {
          due = due;
          turns = k.mixed.turns.turns;
          tells = tells_of s w k.mixed;
          fed = k.mixed.queues.queues.fed;
          sends = sends;
          sent = sent_stand;
        }) (not_active (told_parts w) e t found due (owners_of s w k.mixed) k.mixed.turns.turns differs) going

    pays_more : found ≢ founds.Active → Owes (after_driver_row (rows.Harvest e t found) (told_parts w)).driver w.memory puts l.reported
    pays_more differs =
        harvest_owes (s.order n) (told_parts w) s.parts (in_hand s) e t found (m.acc n) puts m.reported l.reported due differs
        (owners_of s w k.mixed) k.mixed.turns.turns k.mixed.queues.queues.fed (tells_of s w k.mixed) part (λ streams. untold) right_now
        (moved_whole differs) k.telling.told
        (subst (λ (g : DriverContent). ToldStands g (in_hand s) s.parts l.reported) is.told telling.told) pays.owes

    -- where it isn't done the report is as it was
    waits : found ≡ founds.Active → Owes (queued (driver_next w).driver) w.memory puts l.reported
    waits active =
        let still : IsHarvestDue (told_parts w) e t founds.Active = subst (IsHarvestDue (told_parts w) e t) active due in
        let told : ToldStands (queued (driver_next w).driver) (in_hand s) s.parts m.reported =
        to_next (λ (g : DriverContent). ToldStands g (in_hand s) s.parts m.reported)
        (subst (λ (z : Found). ToldStands (after_driver_row (rows.Harvest e t z) (told_parts w)).driver (in_hand s) s.parts m.reported)
        (sym active) (wait_is_told (told_parts w) s.parts (in_hand s) e t m.reported still k.telling.told)) in
        same_reports (queued (driver_next w).driver) w.memory puts m.reported l.reported
        (λ i z here sends there.
        told_once (queued (driver_next w).driver) (in_hand s)
        s.parts l.reported m.reported mixed.turns.turns.turns telling.told told i z here
        (stream_out z.desc (mixed.turns.turns.asynchronous.endpoints i z here).asynchronous sends) there)
        (to_next (λ (g : DriverContent). Owes g w.memory puts m.reported)
        (subst (λ (z : Found). Owes (after_driver_row (rows.Harvest e t z) (told_parts w)).driver w.memory puts m.reported) (sym active)
        (wait_owes (told_parts w) e t puts m.reported still pays.owes)))

    owes_at : Owes (queued (driver_next w).driver) w.memory puts l.reported
    owes_at = by_found found refl
      where
        is_done : found ≢ founds.Active → Owes (queued (driver_next w).driver) w.memory puts l.reported
        is_done differs = to_next (λ (g : DriverContent). Owes g w.memory puts l.reported) (pays_more differs)

        by_found : (z : Found) → found ≡ z → Owes (queued (driver_next w).driver) w.memory puts l.reported
        by_found founds.Active so = waits so
        by_found (founds.Moved i) so = is_done (λ active. moved (sym so ∙ active))
          where
            moved : founds.Moved i ≡ founds.Active → ⊥
            moved same = cc
        by_found (founds.Ended i what) so = is_done (λ active. ended (sym so ∙ active))
          where
            ended : founds.Ended i what ≡ founds.Active → ⊥
            ended same = cc
        by_found (founds.Served i) so = is_done (λ active. served (sym so ∙ active))
          where
            served : founds.Served i ≡ founds.Active → ⊥
            served same = cc

    -- a harvest stores nothing
    pub harvested_owes : Owes (queued (driver_next w).driver) (driver_next w).memory puts l.reported
    harvested_owes =
        subst (λ (r : DriverRow). Owes (queued (driver_next w).driver) (after_driver_row r (driver_parts w)).memory puts l.reported)
        (sym is.next) owes_at
