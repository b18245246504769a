-- Each event of the driver leaves its transfers chained and in turn, where endpoints leave the ring, and where none does.
use Rattle.std.proofs.Common.{◌≡◌, ℕ, zero, suc, Bool, true, false, not, ◌||◌, ◌&&◌, ◌==◌, cond, nat_le, List, [], ◌++◌, map, set, slice_get, Option, Some, None, ap, sym, subst, ◌∙◌, refl, arith}
use Rattle.std.proofs.lemmas.Bool.{false≢true}
use Rattle.law_common.proofs.Lists.{none_there}
use Rattle.law_driver.proofs.Common.{transfer_mends}
use Rattle.usb_base.specs.declared.endpoints.EpDesc.{EpDesc}
use Rattle.usb_base.specs.declared.reports.What.TheVariants as lines
use Rattle.mem_runs.specs.Book.{Book, Holding, holding, lend_taken, slot_of}
use Rattle.drv_table.specs.declared.content.Endpoint.{Endpoint}
use Rattle.drv_table.specs.declared.content.Transfer.{Transfer}
use Rattle.drv_table.specs.declared.content.Mend.{Mend}
use Rattle.drv_table.specs.declared.content.Bell.{Bell}
use Rattle.drv_table.specs.declared.content.Turn.TheVariants as turns
use Rattle.drv_table.specs.declared.content.Command.{Command}
use Rattle.drv_table.specs.declared.content.Command.TheVariants as unfinished
use Rattle.drv_table.specs.declared.rows.DriverRow.{DriverRow}
use Rattle.drv_table.specs.declared.rows.DriverRow.TheVariants as rows
use Rattle.drv_table.specs.declared.rows.Found.{Found}
use Rattle.drv_table.specs.declared.content.Reserve.{Reserve}
use Rattle.drv_periodic_table.specs.declared.content.Removal.{Removal}
use Rattle.drv_periodic_table.specs.Periodic.{PeriodicContent, read_again}
use Rattle.drv_table.specs.DriverContent.{DriverContent}
use Rattle.drv_table.specs.Opening.{opening}
use Rattle.drv_table.specs.Harvests.{note_at, token_in, found_in, reported}
use Rattle.drv_table.specs.Parts.{Parts}
use Rattle.drv_table.specs.Commands.{events_of, advance}
use Rattle.drv_table.specs.Releases.{after_transfer, freed_by, ended_by_cancel, is_told, let_go, free_endpoint, cancelled_bytes, gone_with, after_endpoint}
use Rattle.drv_table.specs.Harvesting.{after_harvest}
use Rattle.drv_table.specs.Rows.{driver_row, after_driver_row}
use Rattle.law_driver.specs.run_owners.Due.{IsDue, IsHarvestDue, IsEndpointDue}
use Rattle.claims_driver.specs.Leaving.{leaver, IsOrderly, HasOwners}
use Rattle.claims_driver.specs.Owners.{views_of, note_in}
use Rattle.law_driver.proofs.lemmas.run_owners.Orders.{IsOwed, owed, times_first, one_same, IsLeft}
use Rattle.law_driver.proofs.lemmas.run_owners.Leaves.{first_left}
use Rattle.law_driver.proofs.lemmas.run_owners.Reasons.{each_event_is_due}
use Rattle.law_driver.proofs.lemmas.run_owners.Stays.{advanced, lent, harvest_stays}
use Rattle.law_driver.specs.chained_transfers.Bulk.{IsBulk, MovesAs, IsBulkCommand, OnlyBulk}
use Rattle.law_driver.specs.chained_transfers.Turns.{IsAtPlace, AreAtPlaces, turn_of, turn_in, IsNotGone, AreTurnsOf, AreReturned}
use Rattle.law_driver.specs.chained_transfers.InTurn.{TakesTurns}
use Rattle.law_driver.specs.chained_transfers.Leaving.{NothingLeaves}
use Rattle.law_driver.specs.chained_transfers.Asynchronous.{StandsAsynchronous, OnlyAsynchronous}
use Rattle.law_driver.specs.chained_transfers.AsynchronousTurns.{AsynchronousTakesTurns}
use Rattle.law_driver.proofs.lemmas.chained_transfers.Ways.{found_by, moves_queued}
use Rattle.law_driver.proofs.lemmas.chained_transfers.BulkAndControl.{only_asynchronous, bulk_is_asynchronous, takes_bulk_turns}
use Rattle.law_driver.proofs.lemmas.chained_transfers.Moves.{KeepDescs, descs_same, descs_set, moves_on, moves_same, moves_set}
use Rattle.law_driver.proofs.lemmas.chained_transfers.Chained.{same_chained, released_chained, gone_from, let_go_endpoint, endpoint_gone_chained}
use Rattle.law_driver.proofs.lemmas.chained_transfers.Turning.{fewer_turns, changed, changed_plain, released_turns}
use Rattle.law_driver.proofs.lemmas.chained_transfers.Ends.{returned_on, same_gone, changed_turn, IsGoing, gone_turns, gone_returned, gone_turn, other_turn}
use Rattle.law_driver.proofs.lemmas.chained_transfers.Harvested.{not_served, ends_otherwise, places_set, harvest_in_turn}
use Rattle.law_driver.proofs.lemmas.chained_transfers.Rows.{no_leaver, ends_set, queues_on, kept_back, kept_turns, nothing_on, kept_stays, kept_gone, descs_set_back, KeepsEndpoints, harvest_keeps, harvest_mends, advanced_queues, advanced_descs, advanced_mends, advanced_nothing, advanced_turns}
use Rattle.law_driver.proofs.lemmas.chained_transfers.Staying.{stands_alive, stands_fresh}

-- ---- a harvest

-- what an event leaves: turns, and endpoints that were opened as before
pub record EventLeaves (d f : DriverContent) : Type 0 where
  pub turns : AsynchronousTakesTurns f
  pub descs : KeepDescs f.endpoints d.endpoints

module _ (p : Parts) (e t : ℕ) (found : Found) (due : IsHarvestDue p e t found) (only : OnlyAsynchronous p.driver) where
  is_found : found ≡ found_in due.transfer.sort (nat_le due.transfer.left 1) (note_at p.driver.notes due.transfer.place) (token_in p.memory due.transfer.place)
  is_found = due.tells ∙ found_by p.driver p.memory due.transfer due.transfer.sort (moves_queued p.driver due.transfer (only.moves t due.transfer due.there))

  after : (P : DriverContent → Type 0) → P (after_harvest p.driver p.memory e t found (Some due.endpoint) (Some due.transfer)) → P (after_driver_row (rows.Harvest e t found) p).driver
  after P now =
      subst (λ (o : Option Endpoint). P (after_harvest p.driver p.memory e t found o (slice_get p.driver.transfers t))) (sym due.here)
      (subst (λ (o : Option Transfer). P (after_harvest p.driver p.memory e t found (Some due.endpoint) o)) (sym due.there) now)

  keeps : KeepsEndpoints p.driver (after_harvest p.driver p.memory e t found (Some due.endpoint) (Some due.transfer))
  keeps =
      harvest_keeps p.driver p.memory e t due.endpoint due.transfer due.here due.there due.goes_on (stands_alive due.endpoint (only.endpoints e due.endpoint due.here) due.goes_on) found
      (not_served due.transfer.sort (nat_le due.transfer.left 1) (note_at p.driver.notes due.transfer.place) (token_in p.memory due.transfer.place) found is_found)
      (λ n what cause. ends_otherwise due.transfer.sort (nat_le due.transfer.left 1) (note_at p.driver.notes due.transfer.place) (token_in p.memory due.transfer.place) found is_found n what due.endpoint.desc.kind cause)

  harvest_leaves : AsynchronousTakesTurns p.driver → EventLeaves p.driver (after_driver_row (rows.Harvest e t found) p).driver
  harvest_leaves old =
      let d = p.driver in
      let x = due.endpoint in
      let y = due.transfer in
      let f = after_harvest d p.memory e t found (Some x) (Some y) in
      let s = only.endpoints e x due.here in
      let stays : IsNotGone (slice_get d.endpoints) e = record { endpoint = x; here = due.here; gone = stands_alive x s due.goes_on } in
      let k = harvest_in_turn (IsNotGone (slice_get d.endpoints)) d p.memory e t x y due.here due.there due.goes_on (stands_fresh x s due.goes_on) due.next due.waits stays (record { places = old.turns.places; turns = old.turns.turns }) found is_found in
      after (EventLeaves d) (record {
        turns = record {
          asynchronous = queues_on d f keeps old.asynchronous;
          chained = same_chained (views_of d) (views_of f) (harvest_stays d p.memory e t found (Some x) (Some y) due.here due.there).same old.chained;
          turns = record {
            places = k.places;
            turns = fewer_turns (IsNotGone (slice_get d.endpoints)) (IsNotGone (slice_get f.endpoints)) (turn_in f.transfers) (slice_get f.endpoints) f.harvested
                (λ i z here. kept_stays d.endpoints (slice_get f.endpoints) keeps.ends z.endpoint) k.turns;
            returned = returned_on (turn_in d.transfers) (turn_in f.transfers) (slice_get d.endpoints) (slice_get f.endpoints) (λ i z w here at gone. kept_turns d f keeps i z here)
                (kept_gone d.endpoints (slice_get f.endpoints) keeps.ends) old.turns.returned;
          };
        };
        descs = kept_back d f keeps;
      })

  harvest_nothing : NothingLeaves p.driver → NothingLeaves (after_driver_row (rows.Harvest e t found) p).driver
  harvest_nothing old = after NothingLeaves (nothing_on p.driver _ keeps old)

-- ---- a transfer is given back

pub first_owed : (d : DriverContent) (t : ℕ) → slice_get d.harvested 0 ≡ Some t → IsOrderly d → IsOwed d.transfers t
first_owed d t first order = owed d.transfers t (slice_get d.transfers t) refl (omega (arith, times_first t t d.harvested first, one_same t, order.harvests t))

release_row : (p : Parts) (t : ℕ) → slice_get p.driver.harvested 0 ≡ Some t → IsOrderly p.driver → AsynchronousTakesTurns p.driver → EventLeaves p.driver (after_driver_row (rows.ReleaseTransfer t) p).driver
release_row p t first order old =
    let d = p.driver in
    let o = first_owed d t first order in
    let y = o.transfer in
    let h = freed_by d (holding d.book p.memory) (Some y) in
    let z : Transfer = record y { released = true } in
    let r = old.asynchronous in
    let v = turn_in d.transfers in
    let w = turn_in (set d.transfers t z) in
    let ends = slice_get d.endpoints in
    let c = changed turn_of d.transfers t y z o.there in
    let f = (after_transfer p t (Some y) h).driver in
    let now : AsynchronousTakesTurns f = record {
      asynchronous = record {
        endpoints = r.endpoints;
        moves = moves_set d f t y z o.there refl refl (descs_same d.endpoints) r.moves;
        command = r.command;
        leaver = r.leaver;
        unlinks = r.unlinks;
        removals = r.removals;
      };
      chained = released_chained (views_of d) d.transfers t y (λ k. refl) o.there (slot_of h.book.slots) old.chained;
      turns = record {
        places = places_set (note_in d.notes) d.transfers t y z o.there (λ held. let e : true ≡ false = held in absurd (cc)) old.turns.places;
        turns = released_turns (IsNotGone ends) v w ends d.harvested t (turn_of y) c first o.reported old.turns.turns;
        returned = returned_on v w ends ends (λ k i x here at gone. changed_turn v w t (turn_of y) (turn_of z) c refl (λ was. refl) (λ was. was) k i here) (same_gone ends) old.turns.returned;
      };
    } in
    subst (λ (q : Option Transfer). EventLeaves d (after_transfer p t q (freed_by d (holding d.book p.memory) q)).driver) (sym o.there) (record { turns = now; descs = descs_same d.endpoints })

release_nothing : (p : Parts) (t : ℕ) (o : Option Transfer) (h : Holding) → NothingLeaves p.driver → NothingLeaves (after_transfer p t o h).driver
release_nothing p t None h old = old
release_nothing p t (Some y) h old = record { endpoints = old.endpoints; command = old.command; waiting = old.waiting; rung = old.rung; cleared = old.cleared }

-- ---- an endpoint is given back, with all of its transfers

-- a line of the report tells it, where the cancel was what ended it
told_is : (x : Endpoint) → x.cancelled ≡ true → x.gone ≡ false → ended_by_cancel x.ended ≡ true → is_told x ≡ true
told_is x cancelled gone ended =
    ap (λ (b : Bool). b && x.cancelled && not x.gone) ended ∙ ap (λ (b : Bool). b && not x.gone) cancelled ∙ ap not gone

gone_sort : (told b : Bool) (y : Transfer) → (cond b (record y { reported = y.reported || told; released = true }) y).sort ≡ y.sort
gone_sort told true y = refl
gone_sort told false y = refl

gone_held : (told b : Bool) (y : Transfer) → (cond b (record y { reported = y.reported || told; released = true }) y).released ≡ false → cond b (record y { reported = y.reported || told; released = true }) y ≡ y
gone_held told true y held = absurd (false≢true (sym held))
gone_held told false y held = refl

release_endpoint : (p : Parts) (e : ℕ) → IsEndpointDue p e → IsOrderly p.driver → AsynchronousTakesTurns p.driver → EventLeaves p.driver (after_driver_row (rows.ReleaseEndpoint e) p).driver
release_endpoint p e due order old =
    subst (λ (o : Option Endpoint). EventLeaves p.driver (after_endpoint p e o).driver) (sym l.here) (by (is_told x))
  where
    d : DriverContent
    d = p.driver

    l : IsLeft p.driver.endpoints e
    l = first_left e due.first order

    x : Endpoint
    x = l.endpoint

    r : OnlyAsynchronous p.driver
    r = old.asynchronous

    s : StandsAsynchronous l.endpoint
    s = old.asynchronous.endpoints e l.endpoint l.here

    z : Endpoint
    z = record l.endpoint { gone = true }

    told : Bool
    told = is_told l.endpoint

    book : Book
    book = (free_endpoint p.driver e l.endpoint (holding p.driver.book p.memory)).book

    ends : List Endpoint
    ends = set p.driver.endpoints e (record l.endpoint { gone = true })

    transfers : List Transfer
    transfers = map (let_go e (is_told l.endpoint)) p.driver.transfers

    moves : (c : DriverContent) → KeepDescs d.endpoints c.endpoints → (k : ℕ) (w : Transfer) → slice_get transfers k ≡ Some w → MovesAs c w
    moves c kept k w here =
        let y = gone_from e told d.transfers k w here in
        let b = y.0.endpoint == e in
        moves_on d c y.0 w (ap (λ (i : Transfer). i.endpoint) (sym y.2) ∙ let_go_endpoint told b y.0) (ap (λ (i : Transfer). i.sort) (sym y.2) ∙ gone_sort told b y.0) kept (r.moves k y.0 y.1)

    places : AreAtPlaces (note_in d.notes) transfers
    places k w here held =
        let y = gone_from e told d.transfers k w here in
        let same : let_go e told y.0 ≡ y.0 = gone_held told (y.0.endpoint == e) y.0 (ap (λ (i : Transfer). i.released) y.2 ∙ held) in
        let is : w ≡ y.0 = sym y.2 ∙ same in
        subst (λ (i : Transfer). IsAtPlace (note_in d.notes) i) (sym is) (old.turns.places k y.0 y.1 (ap (λ (i : Transfer). i.released) (sym is) ∙ held))

    going : IsGoing (turn_in d.transfers) (turn_in transfers) (slice_get d.endpoints) (slice_get ends) d.harvested e x z told
    going = record {
      turns = gone_turn d.transfers e told;
      there = other_turn d.transfers e told;
      moved = changed_plain d.endpoints e x z l.here;
      ended = s.ended (s.unlinked l.linked);
      gone = refl;
    }

    asynchronous : (c : DriverContent) → c.endpoints ≡ ends → c.transfers ≡ transfers → c.command ≡ d.command → c.periodic ≡ d.periodic → OnlyAsynchronous c
    asynchronous c at ts command periodic = record {
      endpoints = λ k w here. ends_set StandsAsynchronous d.endpoints e x z l.here
          (λ s. record { asynchronous = s.asynchronous; placement = s.placement; chained = s.chained; unlinked = s.unlinked; ended = s.ended; cancel = s.cancel; gone = λ gone. l.linked }) r.endpoints k w (ap (λ (xs : List Endpoint). slice_get xs k) (sym at) ∙ here);
      moves = λ k w here. moves c (subst (λ (xs : List Endpoint). KeepDescs d.endpoints xs) (sym at) (descs_set d.endpoints e x z l.here refl)) k w (ap (λ (ys : List Transfer). slice_get ys k) (sym ts) ∙ here);
      command = subst (λ (o : Option Command). IsBulkCommand o) (sym command) r.command;
      leaver = λ k w leaves here. absurd (no_leaver d.command k (ap leaver due.idle) (ap leaver (sym command) ∙ leaves));
      unlinks = ap (λ (q : PeriodicContent). q.unlinks) periodic ∙ r.unlinks;
      removals = ap (λ (q : PeriodicContent). q.removals) periodic ∙ r.removals;
    }

    turns : AreTurnsOf (IsNotGone (slice_get ends)) (turn_in transfers) (slice_get ends) d.harvested
    turns = gone_turns (turn_in d.transfers) (turn_in transfers) (slice_get d.endpoints) (slice_get ends) d.harvested e x z told going old.turns.turns

    returned : AreReturned (turn_in transfers) (slice_get ends)
    returned = gone_returned (turn_in d.transfers) (turn_in transfers) (slice_get d.endpoints) (slice_get ends) d.harvested e x z told going
        (told_is x (s.unlinked l.linked) l.gone) old.turns.returned

    leaves : (c : DriverContent) → c.endpoints ≡ ends → AsynchronousTakesTurns c → EventLeaves d c
    leaves c at now = record { turns = now; descs = subst (λ (xs : List Endpoint). KeepDescs xs d.endpoints) (sym at) (descs_set_back d.endpoints e x z l.here refl) }

    by : (b : Bool) → EventLeaves d (gone_with (cond b (reported d lines.Cancel x.desc.name (cancelled_bytes d.notes p.memory e x.queue d.transfers)) d) e x (is_told x) book)
    by true = leaves _ refl (record {
      asynchronous = asynchronous _ refl refl refl refl;
      chained = endpoint_gone_chained (views_of d) d.transfers d.endpoints e x told (slot_of book.slots) (λ k. refl) (λ k. refl) l.here old.chained;
      turns = record { places = places; turns = turns; returned = returned };
    })
    by false = leaves _ refl (record {
      asynchronous = asynchronous _ refl refl refl refl;
      chained = endpoint_gone_chained (views_of d) d.transfers d.endpoints e x told (slot_of book.slots) (λ k. refl) (λ k. refl) l.here old.chained;
      turns = record { places = places; turns = turns; returned = returned };
    })

-- ---- what never happens there

no_frames : (c : Command) (i : ℕ) → IsBulkCommand (Some c) → (slice_get (events_of c) i ≡ Some rows.Frames → ⊥) × (slice_get (events_of c) i ≡ Some rows.LendDescriptors → ⊥)
no_frames (unfinished.Open queue) zero is = (λ f. cc, λ f. cc)
no_frames (unfinished.Open queue) (suc zero) is = (λ f. cc, λ f. cc)
no_frames (unfinished.Open queue) (suc (suc i)) is = (λ f. cc, λ f. cc)
no_frames (unfinished.Publish b words) zero is = (λ f. cc, λ f. cc)
no_frames (unfinished.Publish b words) (suc zero) is = (λ f. cc, λ f. cc)
no_frames (unfinished.Publish b words) (suc (suc zero)) is = (λ f. cc, λ f. cc)
no_frames (unfinished.Publish b words) (suc (suc (suc zero))) is = (λ f. cc, λ f. cc)
no_frames (unfinished.Publish b words) (suc (suc (suc (suc zero)))) is = (λ f. cc, λ f. cc)
no_frames (unfinished.Publish b words) (suc (suc (suc (suc (suc zero))))) is = (λ f. cc, λ f. cc)
no_frames (unfinished.Publish b words) (suc (suc (suc (suc (suc (suc zero)))))) is = (λ f. cc, λ f. cc)
no_frames (unfinished.Publish b words) (suc (suc (suc (suc (suc (suc (suc zero))))))) is = (λ f. cc, λ f. cc)
no_frames (unfinished.Publish b words) (suc (suc (suc (suc (suc (suc (suc (suc zero)))))))) is = (λ f. cc, λ f. cc)
no_frames (unfinished.Publish b words) (suc (suc (suc (suc (suc (suc (suc (suc (suc i))))))))) is = (λ f. cc, λ f. cc)
no_frames (unfinished.Unlink e b link) zero is = (λ f. cc, λ f. cc)
no_frames (unfinished.Unlink e b link) (suc i) is = (λ f. cc, λ f. cc)
no_frames _ i is = absurd is

-- a command that is unfinished is one of a driver of bulk endpoints
unfinished_one : (d : DriverContent) (c : Command) → d.command ≡ Some c → IsBulkCommand d.command → IsBulkCommand (Some c)
unfinished_one d c is its = subst (λ (o : Option Command). IsBulkCommand o) is its

pub its_command : (d : DriverContent) (c : Command) → d.command ≡ Some c → OnlyBulk d → IsBulkCommand (Some c)
its_command d c is r = unfinished_one d c is r.command

both_empty : (xs ys : List ℕ) → xs ≡ [] → ys ≡ [] → xs ++ ys ≡ []
both_empty xs ys one other = ap (λ (zs : List ℕ). zs ++ ys) one ∙ other

-- ---- what changes neither endpoints nor transfers

quiet : (d : DriverContent) (mends : List Mend) (waiting rung cleared : List ℕ) (bell : Bell) (next : Bool) (rs : List Removal) → rs ≡ [] → AsynchronousTakesTurns d
    → EventLeaves d (record d { mends = mends; waiting = waiting; rung = rung; cleared = cleared; bell = bell; turn = turns.Harvest; periodic = record d.periodic { status_next = next; removals = rs } })
quiet d mends waiting rung cleared bell next rs none old =
    let r = old.asynchronous in
    record {
      turns = record {
        asynchronous = record { endpoints = r.endpoints; moves = moves_same d _ (descs_same d.endpoints) r.moves; command = r.command; leaver = r.leaver; unlinks = r.unlinks; removals = none };
        chained = old.chained;
        turns = record { places = old.turns.places; turns = old.turns.turns; returned = old.turns.returned };
      };
      descs = descs_same d.endpoints;
    }

-- ---- any event

pub due_leaves : (row : DriverRow) (p : Parts) → IsDue p row → IsOrderly p.driver → AsynchronousTakesTurns p.driver → EventLeaves p.driver (after_driver_row row p).driver
due_leaves rows.Lend p due order old =
    let r = old.asynchronous in
    let d = record p.driver { book = (lend_taken (holding p.driver.book p.memory)).book } in
    let lending : OnlyAsynchronous d = record { endpoints = r.endpoints; moves = moves_same p.driver d (descs_same d.endpoints) r.moves; command = r.command; leaver = r.leaver; unlinks = r.unlinks; removals = r.removals } in
    record {
      turns = record {
        asynchronous = advanced_queues d lending;
        chained = same_chained (views_of p.driver) (views_of (advance d)) (lent p.driver p.memory).same old.chained;
        turns = advanced_turns d r.command (record { places = old.turns.places; turns = old.turns.turns; returned = old.turns.returned });
      };
      descs = advanced_descs d r.command;
    }
due_leaves (rows.Store b at v) p due order old = record {
  turns = record {
    asynchronous = advanced_queues p.driver old.asynchronous;
    chained = same_chained (views_of p.driver) (views_of (advance p.driver)) (advanced p.driver).same old.chained;
    turns = advanced_turns p.driver old.asynchronous.command old.turns;
  };
  descs = advanced_descs p.driver old.asynchronous.command;
}
due_leaves rows.Frames p due order old = absurd ((no_frames due.command p.driver.made (unfinished_one p.driver due.command due.unfinished old.asynchronous.command)).0 due.next)
due_leaves rows.LendDescriptors p due order old = absurd ((no_frames due.command p.driver.made (unfinished_one p.driver due.command due.unfinished old.asynchronous.command)).1 due.next)
due_leaves (rows.Unlink t) p due order old = absurd (none_there p.driver.periodic.unlinks t old.asynchronous.unlinks due.first)
due_leaves (rows.ReleaseRemoved what) p due order old = absurd (none_there p.driver.periodic.removals due.removal old.asynchronous.removals due.first)
due_leaves (rows.ReleaseTransfer t) p due order old = release_row p t due.first order old
due_leaves (rows.ReleaseEndpoint e) p due order old = release_endpoint p e due order old
due_leaves (rows.ReadFrame n) p due order old =
    let d = p.driver in quiet d d.mends d.waiting d.rung d.cleared d.bell true (read_again n d.periodic.removals) (ap (read_again n) old.asynchronous.removals) old
due_leaves (rows.Harvest e t found) p due order old = harvest_leaves p e t found due old.asynchronous old
due_leaves rows.Rest p due order old = record { turns = old; descs = descs_same p.driver.endpoints }
due_leaves row p due order old =
    let n = (after_driver_row row p).driver in
    quiet p.driver n.mends n.waiting n.rung n.cleared n.bell n.periodic.status_next p.driver.periodic.removals old.asynchronous.removals old

pub events_keep_asynchronous_turns : (p : Parts) → HasOwners p.driver → AsynchronousTakesTurns p.driver → AsynchronousTakesTurns (after_driver_row (driver_row p) p).driver
events_keep_asynchronous_turns p owners old = (due_leaves (driver_row p) p (each_event_is_due p) owners.orderly old).turns

-- ---- bulk endpoints alone: none is owed a store

endpoint_mends : (p : Parts) (e : ℕ) (o : Option Endpoint) → (after_endpoint p e o).driver.mends ≡ p.driver.mends
endpoint_mends p e None = refl
endpoint_mends p e (Some x) = by (is_told x)
  where
    by : (b : Bool) → (cond b (reported p.driver lines.Cancel x.desc.name (cancelled_bytes p.driver.notes p.memory e x.queue p.driver.transfers)) p.driver).mends ≡ p.driver.mends
    by true = refl
    by false = refl

mends_stay : (row : DriverRow) (p : Parts) → IsDue p row → OnlyBulk p.driver → (after_driver_row row p).driver.mends ≡ []
mends_stay rows.Lend p due r = advanced_mends (record p.driver { book = (lend_taken (holding p.driver.book p.memory)).book }) r.command ∙ r.mends
mends_stay (rows.Store b at v) p due r = advanced_mends p.driver r.command ∙ r.mends
mends_stay (rows.Mend w) p due r = absurd (none_there p.driver.mends w r.mends due.1)
mends_stay rows.Frames p due r = absurd ((no_frames due.command p.driver.made (its_command p.driver due.command due.unfinished r)).0 due.next)
mends_stay rows.LendDescriptors p due r = absurd ((no_frames due.command p.driver.made (its_command p.driver due.command due.unfinished r)).1 due.next)
mends_stay (rows.Unlink t) p due r = absurd (none_there p.driver.periodic.unlinks t r.unlinks due.first)
mends_stay (rows.ReleaseRemoved what) p due r = absurd (none_there p.driver.periodic.removals due.removal r.removals due.first)
mends_stay (rows.ReleaseTransfer t) p due r = transfer_mends p t (slice_get p.driver.transfers t) (freed_by p.driver (holding p.driver.book p.memory) (slice_get p.driver.transfers t)) ∙ r.mends
mends_stay (rows.ReleaseEndpoint e) p due r = endpoint_mends p e (slice_get p.driver.endpoints e) ∙ r.mends
mends_stay (rows.Harvest e t found) p due r =
    after p e t found due (only_asynchronous p.driver r) (λ (f : DriverContent). f.mends ≡ [])
    (harvest_mends p.driver p.memory e t due.endpoint due.transfer found (r.endpoints e due.endpoint due.here).bulk.kind ∙ r.mends)
mends_stay _ p due r = r.mends

pub events_keep_turns : (p : Parts) → HasOwners p.driver → TakesTurns p.driver → TakesTurns (after_driver_row (driver_row p) p).driver
events_keep_turns p owners old =
    let due = each_event_is_due p in
    let l = due_leaves (driver_row p) p due owners.orderly (bulk_is_asynchronous p.driver old) in
    takes_bulk_turns (after_driver_row (driver_row p) p).driver
    (λ e x here. let o = l.descs e x here in subst (λ (k : EpDesc). IsBulk k) o.same (old.bulk.endpoints e o.one o.here).bulk)
    (mends_stay (driver_row p) p due old.bulk) l.turns

-- and where nothing leaves, nothing does after it
due_nothing : (row : DriverRow) (p : Parts) → IsDue p row → OnlyAsynchronous p.driver → NothingLeaves p.driver → NothingLeaves (after_driver_row row p).driver
due_nothing rows.Lend p due only old =
    advanced_nothing (record p.driver { book = (lend_taken (holding p.driver.book p.memory)).book }) only.command
    (record { endpoints = old.endpoints; command = old.command; waiting = old.waiting; rung = old.rung; cleared = old.cleared })
due_nothing (rows.Store b at v) p due only old = advanced_nothing p.driver only.command old
due_nothing rows.Frames p due only old = absurd ((no_frames due.command p.driver.made (unfinished_one p.driver due.command due.unfinished only.command)).0 due.next)
due_nothing rows.LendDescriptors p due only old = absurd ((no_frames due.command p.driver.made (unfinished_one p.driver due.command due.unfinished only.command)).1 due.next)
due_nothing (rows.Unlink t) p due only old = absurd (none_there p.driver.periodic.unlinks t only.unlinks due.first)
due_nothing (rows.ReleaseRemoved what) p due only old = absurd (none_there p.driver.periodic.removals due.removal only.removals due.first)
due_nothing (rows.ReleaseTransfer t) p due only old = release_nothing p t (slice_get p.driver.transfers t) (freed_by p.driver (holding p.driver.book p.memory) (slice_get p.driver.transfers t)) old
due_nothing (rows.ReleaseEndpoint e) p due only old = absurd (none_there p.driver.cleared e old.cleared due.first)
due_nothing rows.ClearAdvance p due only old =
    record { endpoints = old.endpoints; command = old.command; waiting = old.waiting; rung = refl; cleared = both_empty p.driver.cleared p.driver.rung old.cleared old.rung }
due_nothing rows.RingBell p due only old =
    record { endpoints = old.endpoints; command = old.command; waiting = refl; rung = both_empty p.driver.rung p.driver.waiting old.rung old.waiting; cleared = old.cleared }
due_nothing (rows.Harvest e t found) p due only old = harvest_nothing p e t found due only old
due_nothing rows.Rest p due only old = old
due_nothing _ p due only old = record { endpoints = old.endpoints; command = old.command; waiting = old.waiting; rung = old.rung; cleared = old.cleared }

pub nothing_starts_to_leave : (p : Parts) → HasOwners p.driver → TakesTurns p.driver → NothingLeaves p.driver → NothingLeaves (after_driver_row (driver_row p) p).driver
nothing_starts_to_leave p owners old none = due_nothing (driver_row p) p (each_event_is_due p) (only_asynchronous p.driver old.bulk) none

-- ---- the opening

pub new_driver_takes_asynchronous_turns : (n : ℕ) (room : Reserve) → AsynchronousTakesTurns (opening n room).driver
new_driver_takes_asynchronous_turns n room = record {
  asynchronous = record {
    endpoints = λ e x here. absurd (cc);
    moves = λ t y here. absurd (cc);
    command = tt;
    leaver = λ e x is here. absurd (cc);
    unlinks = refl;
    removals = refl;
  };
  chained = record { some = λ t y here. absurd (cc); next = λ t u y z here. absurd (cc); last = λ t y x here. absurd (cc) };
  turns = record {
    places = λ t y here. absurd (cc);
    turns = record {
      reported = λ t u y z less here. absurd (cc);
      released = λ t u y z less here. absurd (cc);
      told = λ t y here. absurd (cc);
      next = λ e x here. absurd (cc);
      owed = λ t y x here. absurd (cc);
      order = λ i t u y z at. absurd (cc);
    };
    returned = λ t y x there. absurd (cc);
  };
}

pub new_driver_takes_turns : (n : ℕ) (room : Reserve) → TakesTurns (opening n room).driver
new_driver_takes_turns n room =
    takes_bulk_turns (opening n room).driver (λ e x here. absurd (cc)) refl (new_driver_takes_asynchronous_turns n room)

pub new_driver_stays : (n : ℕ) (room : Reserve) → NothingLeaves (opening n room).driver
new_driver_stays n room = record { endpoints = λ e x here. absurd (cc); command = refl; waiting = refl; rung = refl; cleared = refl }
