-- An interrupt endpoint that left its frames is given back: its queue goes as one that had left the ring.
use Rattle.std.proofs.Common.{◌≡◌, ℕ, Bool, true, false, not, cond, List, [], ◌∷◌, ◌++◌, map, set, slice_get, Option, Some, None, ap, sym, subst, ◌∙◌, ⊎_elim, refl, arith}
use Rattle.std.specs.Prelude.{is_some}
use Rattle.std.proofs.lemmas.Bool.{cases_Bool, false≢true}
use Rattle.std.proofs.lemmas.Option.{same_Some}
use Rattle.law_common.proofs.Lists.{set_again, set_here}
use Rattle.law_driver.proofs.Common.{of_queue}
use Rattle.usb_base.specs.declared.reports.What.TheVariants as lines
use Rattle.mem_runs.specs.Book.{Book, Holding, holding}
use Rattle.drv_periodic_table.specs.Periodic.{is_periodic}
use Rattle.drv_periodic_table.specs.declared.content.Removed.TheVariants as removed
use Rattle.drv_table.specs.declared.content.Endpoint.{Endpoint}
use Rattle.drv_table.specs.declared.rows.DriverRow.TheVariants as rows
use Rattle.drv_table.specs.DriverContent.{DriverContent}
use Rattle.drv_table.specs.Harvests.{reported}
use Rattle.drv_table.specs.Kinds.{is_iso}
use Rattle.drv_table.specs.Parts.{Parts}
use Rattle.drv_table.specs.Commands.{no_command}
use Rattle.drv_table.specs.Releases.{free_runs, free_endpoint, cancelled_bytes, is_told, let_go, gone_with, after_endpoint}
use Rattle.drv_table.specs.Removals.{free_descriptors, free_placed, let_go_placed, removed_with, after_placed}
use Rattle.drv_table.specs.Rows.{after_driver_row}
use Rattle.claims_driver.specs.Leaving.{leaver, IsOrderly, HasOwners}
use Rattle.law_driver.specs.run_owners.Due.{IsRemovalDue, IsDue}
use Rattle.claims_driver.specs.Owners.{views_of}
use Rattle.law_driver.proofs.lemmas.run_owners.Orders.{IsRemoved, times_push}
use Rattle.law_driver.proofs.lemmas.run_owners.Leaves.{first_removed, leave_orderly}
use Rattle.law_driver.proofs.lemmas.run_owners.Stays.{stays_same, stays_owned, endpoint_stays, StaysPlaced}
use Rattle.law_driver.specs.chained_transfers.Turns.{turn_in, IsNotGone}
use Rattle.law_driver.specs.chained_transfers.Asynchronous.{StandsAsynchronous}
use Rattle.law_driver.specs.chained_transfers.AsynchronousTurns.{AsynchronousTakesTurns}
use Rattle.law_driver.proofs.lemmas.chained_transfers.Chained.{same_chained}
use Rattle.law_driver.proofs.lemmas.chained_transfers.Turning.{fewer_turns, changed_plain}
use Rattle.law_driver.proofs.lemmas.chained_transfers.Ends.{ends_turns, changed_end, changed_stays, returned_on, same_turn, changed_gone}
use Rattle.law_driver.proofs.lemmas.chained_transfers.Moves.{descs_set, moves_same}
use Rattle.law_driver.proofs.lemmas.chained_transfers.Rows.{no_leaver, ends_set}
use Rattle.law_driver.specs.queued_drivers.Queued.{with_queue, queued_endpoint, queued_transfer, queued_command, queued, queued_parts, QueuesTakeTurns}
use Rattle.law_driver.specs.queued_drivers.Rows.{QueuesAlike, TellsAlike, out_by, out_of_frames, IsGivenBackAlike}
use Rattle.law_driver.proofs.lemmas.queued_drivers.RowLists.{queue_at, endpoints_set, transfers_stay, command_stays, HasNoDescriptors, all_go_told}
use Rattle.law_driver.proofs.lemmas.queued_drivers.RowEvents.{no_descriptors, freed_told, bytes_told, idle_told}
use Rattle.law_driver.proofs.lemmas.queued_drivers.RowOwners.{queued_owned, queued_orderly}

module _ (p : Parts) (e : ℕ) (x : Endpoint) (owners : HasOwners p.driver) (old : QueuesTakeTurns p.driver) (due : IsRemovalDue p (removed.Endpoint e)) (here : slice_get p.driver.endpoints e ≡ Some x) (queue : is_iso x.desc.kind ≡ false) where
  abbrev d : DriverContent
  d = p.driver

  left : IsRemoved p.driver.endpoints e
  left = first_removed e due.removal due.first due.is owners.orderly

  same : left.endpoint ≡ x
  same = same_Some left.endpoint x (sym left.here ∙ here)

  frames : is_periodic x.desc.kind ≡ true
  frames = ap (λ (z : Endpoint). is_periodic z.desc.kind) (sym same) ∙ left.frames

  alive : x.gone ≡ false
  alive = ap (λ (z : Endpoint). z.gone) (sym same) ∙ left.gone

  unchained : x.chained ≡ false
  unchained = ap (λ (z : Endpoint). z.chained) (sym same) ∙ left.chained

  off : x.linked ≡ false
  off = ⊎_elim (λ (on : x.linked ≡ true). absurd (false≢true (sym ((owners.orderly.steady e x here).ring on) ∙ frames))) (λ (no_ring : x.linked ≡ false). no_ring) (cases_Bool x.linked)

  ended : is_some x.ended ≡ true
  ended = (owners.orderly.steady e x here).ended off unchained

  cancelled : x.cancelled ≡ true
  cancelled = old.cancelled e x here frames unchained

  none : HasNoDescriptors e p.driver.transfers
  none = no_descriptors p.driver e x here queue owners.orderly

  -- as its queue is told
  abbrev told_now : Endpoint
  told_now = with_queue x

  abbrev out_now : Endpoint
  out_now = record (with_queue x) { linked = false }

  there : slice_get (map queued_endpoint p.driver.endpoints) e ≡ Some (with_queue x)
  there = queue_at p.driver.endpoints e x here queue

  linked : (with_queue x).linked ≡ true
  linked = ap (λ (b : Bool). cond b (not x.gone) x.linked) frames ∙ ap not alive

  idle : queued_command p.driver.endpoints p.driver.command ≡ None
  idle = idle_told p.driver due.idle

  abbrev out : DriverContent
  out = record (queued p.driver) { endpoints = set (map queued_endpoint p.driver.endpoints) e (record (with_queue x) { linked = false }); cleared = e ∷ p.driver.cleared }

  out_places : StaysPlaced (queued p.driver) out
  out_places = stays_same (queued p.driver) out refl (endpoint_stays (queued p.driver) e told_now out_now there refl) (λ i. refl) (λ c. refl) refl refl

  out_turns : AsynchronousTakesTurns out
  out_turns =
      let q = queued p.driver in
      let r = old.turns.asynchronous in
      let t = old.turns.turns in
      let v = turn_in q.transfers in
      let ends = slice_get q.endpoints in
      let ends_now = slice_get (set q.endpoints e out_now) in
      let c = changed_plain q.endpoints e told_now out_now there in
      record {
        asynchronous = record {
          endpoints = ends_set StandsAsynchronous q.endpoints e told_now out_now there
              (λ s. record { asynchronous = s.asynchronous; placement = s.placement; chained = s.chained; unlinked = λ none_linked. cancelled; ended = s.ended; cancel = s.cancel; gone = λ gone. refl }) r.endpoints;
          moves = moves_same q out (descs_set q.endpoints e told_now out_now there refl) r.moves;
          command = r.command;
          leaver = λ k w leaves at. absurd (no_leaver q.command k (ap leaver idle) leaves);
          unlinks = refl;
          removals = refl;
        };
        chained = same_chained (views_of q) (views_of out) out_places.same old.turns.chained;
        turns = record {
          places = t.places;
          turns = fewer_turns (IsNotGone ends) (IsNotGone ends_now) v ends_now q.harvested (λ i y at stays. changed_stays ends ends_now e told_now out_now c refl y.endpoint stays)
              (ends_turns (IsNotGone ends) v ends ends_now q.harvested (changed_end ends ends_now e told_now out_now c (λ goes. (goes, refl))) t.turns);
          returned = returned_on v v ends ends_now (λ k w i at seen gone. same_turn v k w at) (changed_gone ends ends_now e told_now out_now c (λ gone. (gone, refl))) t.returned;
        };
      }

  out_orderly : IsOrderly out
  out_orderly =
      let q = queued p.driver in
      let all = leave_orderly q e (Some told_now) there (λ z is. ap (λ (w : Endpoint). is_some w.ended) (sym (same_Some told_now z is)) ∙ ended) (queued_orderly d old.harvested owners.orderly) in
      let l = subst (λ (b : Bool). IsOrderly (cond b (record (no_command q) { waiting = q.waiting ++ e ∷ []; endpoints = set q.endpoints e out_now }) (no_command q))) linked all in
      record {
        harvests = l.harvests;
        leaving = λ i. let n = times_push i e q.waiting in let m = l.leaving i in omega (arith, n, m);
        removed = l.removed;
        steady = l.steady;
        within = l.within;
        sorts = l.sorts;
        unlinked = l.unlinked;
        untold = l.untold;
        leaver = λ i z leaves at. absurd (no_leaver q.command i (ap leaver idle) leaves);
      }

  out_owners : HasOwners out
  out_owners = record { owner = owners.owner; owned = stays_owned (queued d) out owners.owner out_places (queued_owned d owners.owner owners.owned); orderly = out_orderly }

  -- ---- what stands after it

  abbrev tell : Bool → DriverContent → List ℕ → DriverContent
  tell b f bs = cond b (reported f lines.Cancel x.desc.name bs) f

  abbrev bytes : List ℕ
  bytes = cancelled_bytes p.driver.notes p.memory e x.queue p.driver.transfers

  abbrev bytes_out : List ℕ
  bytes_out = cancelled_bytes p.driver.notes p.memory e x.queue (map (queued_transfer p.driver.endpoints) p.driver.transfers)

  abbrev h : Holding
  h = free_placed p.driver e x (holding p.driver.book p.memory)

  abbrev h_out : Holding
  h_out = free_endpoint out e out_now (holding p.driver.book p.memory)

  freed_same : free_placed p.driver e x (holding p.driver.book p.memory) ≡ free_endpoint out e out_now (holding p.driver.book p.memory)
  freed_same =
      ap (λ (b : Bool). cond b (free_descriptors d.periodic.notes e (holding d.book p.memory) d.transfers) (free_endpoint d e x (holding d.book p.memory))) queue
      ∙ sym (freed_told d.endpoints d.notes e (free_runs (holding d.book p.memory) (x.queue ∷ x.dummy ∷ [])) d.transfers none)

  ends_same : map queued_endpoint (set p.driver.endpoints e (record x { gone = true })) ≡ set (set (map queued_endpoint p.driver.endpoints) e (record (with_queue x) { linked = false })) e (record (with_queue x) { linked = false; gone = true })
  ends_same =
      let z : Endpoint = record x { gone = true } in
      endpoints_set d.endpoints e x z (record (with_queue x) { linked = false; gone = true }) here
      (of_queue z queue ∙ ap (λ (b : Bool). record (with_queue x) { linked = cond b false x.linked; gone = true }) frames)
      ∙ sym (set_again (map queued_endpoint d.endpoints) e out_now (record (with_queue x) { linked = false; gone = true }))

  moves_same_now : map (queued_transfer (set p.driver.endpoints e (record x { gone = true }))) (map (let_go_placed (is_iso x.desc.kind) e (is_told x)) p.driver.transfers) ≡ map (let_go e (is_told x)) (map (queued_transfer p.driver.endpoints) p.driver.transfers)
  moves_same_now =
      transfers_stay d.endpoints e x (record x { gone = true }) here refl (map (let_go_placed (is_iso x.desc.kind) e (is_told x)) d.transfers)
      ∙ ap (λ (b : Bool). map (queued_transfer d.endpoints) (map (let_go_placed b e (is_told x)) d.transfers)) queue
      ∙ all_go_told d.endpoints e (is_told x) d.transfers none

  queues_by : (b : Bool) (bs cs : List ℕ) (k l : Book) → QueuesAlike (gone_with (tell b out cs) e out_now (is_told x) l) (queued (removed_with (tell b p.driver bs) e x (is_told x) k))
  queues_by true bs cs k l = record {
    endpoints = ends_same;
    transfers = moves_same_now;
    notes = refl;
    command = command_stays d.endpoints e x (record x { gone = true }) here refl d.command;
    made = refl;
    mends = refl;
    harvested = refl;
    waiting = refl;
    rung = refl;
    cleared = refl;
    bell = refl;
  }
  queues_by false bs cs k l = record {
    endpoints = ends_same;
    transfers = moves_same_now;
    notes = refl;
    command = command_stays d.endpoints e x (record x { gone = true }) here refl d.command;
    made = refl;
    mends = refl;
    harvested = refl;
    waiting = refl;
    rung = refl;
    cleared = refl;
    bell = refl;
  }

  tells_by : (b : Bool) (bs cs : List ℕ) (k l : Book) → bs ≡ cs → TellsAlike (gone_with (tell b out cs) e out_now (is_told x) l) (queued (removed_with (tell b p.driver bs) e x (is_told x) k))
  tells_by true bs cs k l is = record {
    reports = ap (λ (us : List ℕ). (reported p.driver lines.Cancel x.desc.name us).reports) is;
    store = ap (λ (us : List ℕ). d.store ++ us) is;
  }
  tells_by false bs cs k l is = record { reports = refl; store = refl }

  -- the endpoint is the first whose Async Advance was cleared
  by_out : (P : DriverContent → Type 0) → P out → P (out_of_frames (queued p.driver) e)
  by_out P at = subst (λ (o : Option Endpoint). P (out_by e (queued p.driver) o)) (sym there) at

  abbrev parts_out : Parts
  parts_out = record (queued_parts p) { driver = out }

  after_out : after_driver_row (rows.ReleaseEndpoint e) parts_out ≡ record parts_out { driver = gone_with (tell (is_told x) out bytes_out) e out_now (is_told x) h_out.book; memory = h_out.memory }
  after_out = ap (after_endpoint parts_out e) (set_here (map queued_endpoint d.endpoints) e told_now out_now there)

  after_in : after_driver_row (rows.ReleaseRemoved (removed.Endpoint e)) p ≡ record p { driver = removed_with (tell (is_told x) p.driver bytes) e x (is_told x) h.book; memory = h.memory }
  after_in = ap (after_placed p e) here

  pub goes_back : IsGivenBackAlike p e
  goes_back = record {
    owners = by_out HasOwners out_owners;
    turns = by_out AsynchronousTakesTurns out_turns;
    due = by_out (λ (f : DriverContent). IsDue (record (queued_parts p) { driver = f }) (rows.ReleaseEndpoint e)) (record { idle = idle; first = refl; none_before = due.none_before });
    queues = by_out (λ (f : DriverContent). QueuesAlike (after_driver_row (rows.ReleaseEndpoint e) (record (queued_parts p) { driver = f })).driver (queued (after_driver_row (rows.ReleaseRemoved (removed.Endpoint e)) p).driver))
        (subst (λ (g : Parts). QueuesAlike g.driver (queued (after_driver_row (rows.ReleaseRemoved (removed.Endpoint e)) p).driver)) (sym after_out)
        (subst (λ (g : Parts). QueuesAlike (gone_with (tell (is_told x) out bytes_out) e out_now (is_told x) h_out.book) (queued g.driver)) (sym after_in) (queues_by (is_told x) bytes bytes_out h.book h_out.book)));
    tells = by_out (λ (f : DriverContent). TellsAlike (after_driver_row (rows.ReleaseEndpoint e) (record (queued_parts p) { driver = f })).driver (queued (after_driver_row (rows.ReleaseRemoved (removed.Endpoint e)) p).driver))
        (subst (λ (g : Parts). TellsAlike g.driver (queued (after_driver_row (rows.ReleaseRemoved (removed.Endpoint e)) p).driver)) (sym after_out)
        (subst (λ (g : Parts). TellsAlike (gone_with (tell (is_told x) out bytes_out) e out_now (is_told x) h_out.book) (queued g.driver)) (sym after_in)
        (tells_by (is_told x) bytes bytes_out h.book h_out.book (sym (bytes_told d.endpoints d.notes p.memory e x.queue d.transfers none)))));
    book = by_out (λ (f : DriverContent). (after_driver_row (rows.ReleaseRemoved (removed.Endpoint e)) p).driver.book ≡ (after_driver_row (rows.ReleaseEndpoint e) (record (queued_parts p) { driver = f })).driver.book)
        (ap (λ (g : Parts). g.driver.book) after_in ∙ ap (λ (g : Holding). g.book) freed_same ∙ sym (ap (λ (g : Parts). g.driver.book) after_out));
    memory = by_out (λ (f : DriverContent). (after_driver_row (rows.ReleaseRemoved (removed.Endpoint e)) p).memory ≡ (after_driver_row (rows.ReleaseEndpoint e) (record (queued_parts p) { driver = f })).memory)
        (ap (λ (g : Parts). g.memory) after_in ∙ ap (λ (g : Holding). g.memory) freed_same ∙ sym (ap (λ (g : Parts). g.memory) after_out));
  }
