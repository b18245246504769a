-- Each row of the driver but the two by which endpoints leave and are given back leaves closed what has left: an endpoint that the walk can't meet then couldn't
-- be met before, and what was told of those that were given back stands.
use Rattle.std.proofs.Common.{◌≡◌, ◌≢◌, ℕ, suc, true, false, List, [], ◌∷◌, length, slice_get, Option, Some, None, option_map, ap, sym, subst, ◌∙◌, ⊎_elim, refl, Bool}
use Rattle.std.proofs.lemmas.Bool.{true≢false, or_parts}
use Rattle.std.proofs.lemmas.Option.{same_Some}
use Rattle.law_common.proofs.Lists.{pushed_last}
use Rattle.word_mem.specs.Memory.{Mem}
use Rattle.mem_runs.specs.Book.{Holding, holding, lend_taken}
use Rattle.law_devices.specs.scripted_takers.Takers.{taker_of}
use Rattle.drv_table.specs.declared.content.Endpoint.{Endpoint}
use Rattle.drv_table.specs.declared.content.Transfer.{Transfer}
use Rattle.drv_table.specs.declared.content.Command.{Command}
use Rattle.drv_table.specs.declared.rows.DriverRow.{DriverRow}
use Rattle.drv_table.specs.declared.rows.DriverRow.TheVariants as rows
use Rattle.drv_table.specs.declared.rows.Found.{Found}
use Rattle.drv_table.specs.DriverContent.{DriverContent}
use Rattle.drv_table.specs.Parts.{Parts}
use Rattle.drv_table.specs.Rows.{driver_row, after_driver_row}
use Rattle.drv_table.specs.Commands.{no_command}
use Rattle.drv_table.specs.Releases.{after_transfer, freed_by}
use Rattle.law_driver.specs.endpoint_lives.Lives.{is_one_of, may_meet}
use Rattle.law_driver.proofs.lemmas.endpoint_lives.Lives.{one_of_joined, one_of_end, linked_met, waiting_met, met_alike, unmet_past, past_unmet}
use Rattle.law_driver.specs.run_owners.Due.{IsDue, IsHarvestDue}
use Rattle.claims_driver.specs.Leaving.{HasOwners}
use Rattle.claims_driver.specs.Owners.{EndpointRuns, runs_of_endpoint}
use Rattle.law_driver.proofs.lemmas.run_owners.Reasons.{each_event_is_due}
use Rattle.law_driver.proofs.lemmas.run_owners.Stays.{harvest_stays}
use Rattle.claims_driver.specs.Ring.{link_in}
use Rattle.law_driver.specs.ring_members.Words.{IsOpening, StandsFor, IsRing}
use Rattle.law_queues.proofs.lemmas.publish_laws.Apart.{queue_placed, queues_same}
use Rattle.law_driver.specs.chained_transfers.Asynchronous.{OnlyAsynchronous}
use Rattle.law_driver.specs.chained_transfers.AsynchronousTurns.{AsynchronousTakesTurns}
use Rattle.law_driver.proofs.lemmas.chained_transfers.Rows.{left, advanced_or_left, set_which}
use Rattle.law_driver.proofs.lemmas.chained_transfers.Staying.{linked_stands_alive}
use Rattle.law_queues.specs.leaving_drivers.Told.{AreNamedOnce}
use Rattle.law_queues.proofs.lemmas.leaving_drivers.Leaving.{bell_is_as_before, status_is_as_before, frame_is_as_before}
use Rattle.law_queues.proofs.lemmas.leaving_drivers.Never.{IsAsynchronousRow, asynchronous_row}
use Rattle.law_queues.proofs.lemmas.leaving_drivers.Owing.{events_owe_met}
use Rattle.law_queues.proofs.lemmas.leaving_drivers.Reading.{read_row}
use Rattle.law_queues.proofs.lemmas.leaving_drivers.Telling.{events_only_tell}
use Rattle.law_structures.specs.lent_structures.Structures.{StructureSets}
use Rattle.law_ring.specs.Hand.{Hand}
use Rattle.law_queues.specs.harvest_laws.Told.{ToldStands}
use Rattle.law_world.proofs.lemmas.steps.lemmas.controlled_walks.Worlds.{driver_keeps_walking}
use Rattle.bus_wire.specs.Bus.{Fixed}
use Rattle.bus_world.specs.World.{World, driver_parts, driver_next}
use Rattle.law_world.specs.steps.Streaming.{Streams, Standing, wired}
use Rattle.law_world.specs.streams.Feeding.{IsFeeding}
use Rattle.law_world.proofs.lemmas.streams.Names.{row_named}
use Rattle.law_world.specs.streams.LeftLaws.{RowKeepsLeft}
use Rattle.law_world.proofs.lemmas.streams.Unmet.{UnmetStay, OpenedIsMet, unmet_itself, unmet_before, closed_ins, closed_outs, still_shut}

-- ---- an endpoint whose open isn't finished is in the ring, as far as the driver's content has it

pub opened_met : (d : DriverContent) (m : Mem) → HasOwners d → OnlyAsynchronous d → IsRing (link_in m) d → OpenedIsMet d
opened_met d m owners only ring e x here kept is =
    let r : IsOpening (link_in m) d.endpoints x.queue = subst (λ (c : Option Command). StandsFor (link_in m) d.endpoints d.transfers c) is ring.ring in
    let n = length r.older in
    let at : slice_get d.endpoints n ≡ Some r.new = ap (λ (xs : List Endpoint). slice_get xs n) r.all ∙ pushed_last r.older r.new in
    let stands = only.endpoints n r.new at in
    let same : e ≡ n =
    queues_same x.queue r.new.queue e n (sym r.here) (queue_placed d owners e x here (only.endpoints e x here) kept)
    (queue_placed d owners n r.new at stands (linked_stands_alive r.new stands r.linked)) in
    let one : x ≡ r.new = same_Some x r.new (sym here ∙ ap (slice_get d.endpoints) same ∙ at) in
    linked_met d e x (ap (λ (z : Endpoint). z.linked) one ∙ r.linked)

-- ---- the command goes on

still_unmet : (d : DriverContent) (e k : ℕ) (x z : Endpoint) → may_meet (left d e x) k z ≡ false → may_meet d k z ≡ false
still_unmet d e k x z off =
    let p = unmet_past (left d e x) k z off in
    past_unmet d k z (record {
      unlinked = p.unlinked;
      waits = (or_parts (is_one_of k d.waiting) (is_one_of k (e ∷ [])) (sym (one_of_joined k d.waiting (e ∷ [])) ∙ p.waits)).0;
      rung = p.rung;
    })

left_unmet : (d : DriverContent) (e : ℕ) (x : Endpoint) → slice_get d.endpoints e ≡ Some x → UnmetStay d (left d e x)
left_unmet d e x here k z at off = ⊎_elim
    (λ (own : (k ≡ e) × (z ≡ record x { linked = false })).
    let met : may_meet (left d e x) k z ≡ true = ap (λ (n : ℕ). may_meet (left d e x) n z) own.0 ∙ waiting_met (left d e x) e z (one_of_end e d.waiting) in
    absurd (true≢false (sym met ∙ off)))
    (λ (other : slice_get d.endpoints k ≡ Some z). record { endpoint = z; here = other; desc = refl; queue = refl; gone = refl; unmet = still_unmet d e k x z off })
    (set_which d.endpoints e k x (record x { linked = false }) z here at)

unmet_same : (d f : DriverContent) → f.endpoints ≡ d.endpoints → f.waiting ≡ d.waiting → f.rung ≡ d.rung → UnmetStay d f
unmet_same d f ends waiting rung e z here off = record {
  endpoint = z;
  here = ap (λ (xs : List Endpoint). slice_get xs e) (sym ends) ∙ here;
  desc = refl;
  queue = refl;
  gone = refl;
  unmet = sym (met_alike d f e z z refl waiting rung) ∙ off;
}

-- one that was unmet in a content with the same endpoints
unmet_from : (d c f : DriverContent) → c.endpoints ≡ d.endpoints → c.waiting ≡ d.waiting → c.rung ≡ d.rung → UnmetStay c f → UnmetStay d f
unmet_from d c f ends waiting rung one e z here off =
    let w = one e z here off in
    record {
      endpoint = w.endpoint;
      here = ap (λ (xs : List Endpoint). slice_get xs e) (sym ends) ∙ w.here;
      desc = w.desc;
      queue = w.queue;
      gone = w.gone;
      unmet = sym (met_alike d c e w.endpoint w.endpoint refl waiting rung) ∙ w.unmet;
    }

-- ---- a transfer is given back

release_unmet : (p : Parts) (t : ℕ) (o : Option Transfer) (h : Holding) → UnmetStay p.driver (after_transfer p t o h).driver
release_unmet p t None h = unmet_itself p.driver
release_unmet p t (Some y) h = unmet_same p.driver (after_transfer p t (Some y) h).driver refl refl refl

-- ---- a harvest

runs_found : (o : Option Endpoint) (x z : Endpoint) → o ≡ Some x → Some (runs_of_endpoint z) ≡ option_map runs_of_endpoint o → z.queue ≡ x.queue
runs_found o x z here runs =
    ap (λ (r : EndpointRuns). r.queue) (same_Some (runs_of_endpoint z) (runs_of_endpoint x) (runs ∙ ap (option_map runs_of_endpoint) here))

harvest_unmet : (p : Parts) (e t : ℕ) (found : Found) → IsHarvestDue p e t found → AsynchronousTakesTurns p.driver → UnmetStay p.driver (after_driver_row (rows.Harvest e t found) p).driver
harvest_unmet p e t found due turns k z here off =
    let d = p.driver in
    let f = (after_driver_row (rows.Harvest e t found) p).driver in
    let r = read_row p e t found due turns.asynchronous in
    let one = r.keeps.ends k z here in
    let stays = harvest_stays d p.memory e t found (slice_get d.endpoints e) (slice_get d.transfers t) refl refl in
    record {
      endpoint = one.one;
      here = one.here;
      desc = one.kept.desc;
      queue = runs_found (slice_get d.endpoints k) one.one z one.here (sym (ap (option_map runs_of_endpoint) here) ∙ stays.same.endpoints k);
      gone = one.kept.gone;
      unmet = sym (met_alike d f k one.one z one.kept.linked r.keeps.waiting r.keeps.rung) ∙ off;
    }

-- ---- any row

due_unmet : (row : DriverRow) (p : Parts) → IsDue p row → IsAsynchronousRow row → row ≢ rows.ClearAdvance → ((e : ℕ) → row ≢ rows.ReleaseEndpoint e) → AsynchronousTakesTurns p.driver
    → UnmetStay p.driver (after_driver_row row p).driver
due_unmet rows.Lend p due is clears releases turns =
    let d = p.driver in
    let c = record d { book = (lend_taken (holding d.book p.memory)).book } in
    advanced_or_left (UnmetStay d) c c.command turns.asynchronous.command (unmet_same d c refl refl refl)
    (unmet_same d (record c { made = suc c.made }) refl refl refl) (unmet_same d (no_command c) refl refl refl)
    (λ e x leaves here. unmet_from d c (left c e x) refl refl refl (left_unmet c e x here))
due_unmet (rows.Store b at v) p due is clears releases turns =
    let d = p.driver in
    advanced_or_left (UnmetStay d) d d.command turns.asynchronous.command (unmet_itself d) (unmet_same d (record d { made = suc d.made }) refl refl refl) (unmet_same d (no_command d) refl refl refl)
    (λ e x leaves here. left_unmet d e x here)
due_unmet (rows.Mend w) p due is clears releases turns = unmet_same p.driver (after_driver_row (rows.Mend w) p).driver refl refl refl
due_unmet (rows.ReleaseTransfer t) p due is clears releases turns =
    release_unmet p t (slice_get p.driver.transfers t) (freed_by p.driver (holding p.driver.book p.memory) (slice_get p.driver.transfers t))
due_unmet (rows.ReleaseEndpoint e) p due is clears releases turns = absurd (releases e refl)
due_unmet rows.ClearAdvance p due is clears releases turns = absurd (clears refl)
due_unmet rows.RingBell p due is clears releases turns = let b = bell_is_as_before p due.0 in unmet_before p.driver (after_driver_row rows.RingBell p).driver b.0 b.1
due_unmet (rows.ReadStatus heard) p due is clears releases turns =
    let b = status_is_as_before p heard due.0 in unmet_before p.driver (after_driver_row (rows.ReadStatus heard) p).driver b.0 b.1
due_unmet (rows.ReadFrame n) p due is clears releases turns = let b = frame_is_as_before p n due.0 in unmet_before p.driver (after_driver_row (rows.ReadFrame n) p).driver b.0 b.1
due_unmet (rows.Harvest e t found) p due is clears releases turns = harvest_unmet p e t found due turns
due_unmet rows.Rest p due is clears releases turns = unmet_itself p.driver
due_unmet _ p due is clears releases turns = absurd is

pub row_unmet : (fixed : Fixed) (member : ℕ → Bool) (x : Streams) (s : Standing) (w : World) → driver_row (driver_parts w) ≢ rows.ClearAdvance → ((e : ℕ) → driver_row (driver_parts w) ≢ rows.ReleaseEndpoint e)
    → IsFeeding fixed member x s w → UnmetStay w.driver (driver_next w).driver
row_unmet fixed member x s w clears releases f =
    let p = driver_parts w in
    let due = each_event_is_due p in
    due_unmet (driver_row p) p due (asynchronous_row p (driver_row p) f.turns.asynchronous due) clears releases f.turns

-- what is told of the queues says both of the report
pub told_once : (d : DriverContent) (hand : Hand) (parts : StructureSets) (reported : ℕ → List ℕ) → ToldStands d hand parts reported → AreNamedOnce d
told_once d hand parts reported told = record { stored = told.tells.stored; apart = told.tells.apart }

-- no two endpoints have one name, and the bytes of each line are stored: so no line more is told of one that was given back
pub row_keeps_left : RowKeepsLeft
row_keeps_left fixed takes member x s w clears releases once f old =
    let p = driver_parts w in
    let d = w.driver in
    let new = (driver_next w).driver in
    let sound = f.working.place.sound in
    let unmet = row_unmet fixed member x s w clears releases f in
    let opened = opened_met d w.memory sound.owners f.turns.asynchronous sound.ring in
    let gone = λ (i : ℕ) (z : Endpoint) (here : slice_get new.endpoints i ≡ Some z) (is : z.gone ≡ true). events_only_tell p sound.owners f.turns once i z here is (releases i) in
    record {
      named = row_named (driver_row p) p old.named;
      walking = driver_keeps_walking w old.walking;
      owed = events_owe_met p f.turns old.owed;
      closed_ins = closed_ins d new unmet opened gone x.packets s.acc old.closed_ins;
      closed_outs = closed_outs d new unmet opened gone taker_of s.acc (wired fixed w) old.closed_outs;
      shut = still_shut d new takes unmet old.shut;
    }
