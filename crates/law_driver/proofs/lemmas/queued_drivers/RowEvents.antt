-- Each event of a queue, as the queues tell it: it is due, and the same stands after it.
use Rattle.std.proofs.Common.{◌≡◌, ◌≢◌, ℕ, zero, suc, Bool, true, false, not, cond, nat_le, nat_lt, List, [], ◌∷◌, ◌++◌, length, map, set, take, drop, slice_get, Option, Some, None, option_map, ap, ap₂, sym, ◌∙◌, inl, refl}
use Rattle.std.proofs.lemmas.List.{map-set}
use Rattle.std.proofs.lemmas.Option.{slice_get-map}
use Rattle.law_driver.proofs.Common.{others_wait}
use Rattle.law_driver.proofs.Common.{ring_queue, of_queue as queue_told}
use Rattle.usb_base.specs.declared.reports.What.TheVariants as lines
use Rattle.word_mem.specs.Memory.{Mem}
use Rattle.mem_runs.specs.Book.{Book, Holding, holding, lend_taken, store}
use Rattle.drv_periodic_table.specs.Periodic.{is_periodic}
use Rattle.drv_table.specs.declared.content.Endpoint.{Endpoint}
use Rattle.drv_table.specs.declared.content.Transfer.{Transfer}
use Rattle.drv_table.specs.declared.content.QtdNote.{QtdNote}
use Rattle.drv_table.specs.declared.content.Command.{Command}
use Rattle.drv_table.specs.declared.content.Command.TheVariants as unfinished
use Rattle.drv_table.specs.declared.content.Turn.TheVariants as turns
use Rattle.drv_table.specs.declared.rows.DriverRow.{DriverRow}
use Rattle.drv_table.specs.declared.rows.DriverRow.TheVariants as rows
use Rattle.drv_table.specs.declared.rows.Found.{Found}
use Rattle.drv_table.specs.DriverContent.{DriverContent, waits_for}
use Rattle.drv_table.specs.Harvests.{note_at, token_in, reported, bytes_now}
use Rattle.drv_table.specs.Kinds.{is_iso}
use Rattle.drv_table.specs.Parts.{Parts}
use Rattle.drv_table.specs.Commands.{events_of, no_command, leave_ring, finished, advanced_by, advance}
use Rattle.drv_table.specs.Releases.{free_runs, free_qtds, is_held_of, free_transfers, free_endpoint, freed_by, after_transfer, cancelled_bytes, is_told, let_go, gone_with, after_endpoint}
use Rattle.drv_table.specs.Harvesting.{found_of}
use Rattle.drv_table.specs.Rows.{after_driver_row}
use Rattle.claims_driver.specs.Owners.{is_descriptor}
use Rattle.claims_driver.specs.Leaving.{IsOrderly, HasOwners}
use Rattle.law_driver.specs.run_owners.Due.{IsNextOf, IsHarvestDue, IsDue}
use Rattle.law_driver.proofs.lemmas.run_owners.Harvest.{waits_is}
use Rattle.law_driver.proofs.lemmas.run_owners.Leaves.{first_left}
use Rattle.law_driver.specs.chained_transfers.Bulk.{IsBulkCommand}
use Rattle.law_driver.proofs.lemmas.chained_transfers.Ways.{found_by}
use Rattle.law_driver.proofs.lemmas.chained_transfers.Harvested.{not_served}
use Rattle.law_driver.specs.queued_drivers.Queued.{with_queue, queued_endpoint, queued_transfer, queued_command, queued_made, queued, queued_parts, QueuesTakeTurns}
use Rattle.law_driver.specs.queued_drivers.Rows.{IsOfQueues, IsToldAlike}
use Rattle.law_driver.proofs.lemmas.queued_drivers.RowLists.{transfer_told, queue_at, moves_at, transfers_stay, endpoints_set, command_stays, lists_told, HasNoDescriptors, told_test, others_held, all_go_told}
use Rattle.law_driver.proofs.lemmas.queued_drivers.RowHarvests.{harvest_row_told}

-- ---- transfers of an endpoint with a queue

pub no_descriptors : (d : DriverContent) (e : ℕ) (x : Endpoint) → slice_get d.endpoints e ≡ Some x → is_iso x.desc.kind ≡ false → IsOrderly d → HasNoDescriptors e d.transfers
no_descriptors d e x here queue order k y there at = order.sorts k y x there (ap (slice_get d.endpoints) at ∙ here) ∙ queue

pub queue_of_transfer : (d : DriverContent) (t : ℕ) (y : Transfer) (x : Endpoint) → slice_get d.transfers t ≡ Some y → slice_get d.endpoints y.endpoint ≡ Some x → is_descriptor y.sort ≡ false → IsOrderly d → is_iso x.desc.kind ≡ false
queue_of_transfer d t y x there here moves order = sym (order.sorts t y x there here) ∙ moves

-- the blocks of its transfers
pub freed_told : (xs : List Endpoint) (notes : List QtdNote) (e : ℕ) (h : Holding) (ts : List Transfer) → HasNoDescriptors e ts → free_transfers notes e h (map (queued_transfer xs) ts) ≡ free_transfers notes e h ts
unfolding free_transfers
freed_told xs notes e h [] none = refl
freed_told xs notes e h (t ∷ ts) none =
    let one : Transfer → Holding = λ z. cond (is_held_of e z) (free_qtds notes h z.first z.qtds) h in
    ap (λ (g : Holding). free_transfers notes e g (map (queued_transfer xs) ts))
    (told_test xs e t one h (λ z differs. ap (λ (b : Bool). cond b (free_qtds notes h z.first z.qtds) h) (others_held e z differs)) (none 0 t refl))
    ∙ freed_told xs notes e (one t) ts (λ k y here. none (suc k) y here)

-- .. and what they moved
pub bytes_told : (xs : List Endpoint) (notes : List QtdNote) (m : Mem) (e queue : ℕ) (ts : List Transfer) → HasNoDescriptors e ts → cancelled_bytes notes m e queue (map (queued_transfer xs) ts) ≡ cancelled_bytes notes m e queue ts
unfolding cancelled_bytes
bytes_told xs notes m e queue [] none = refl
bytes_told xs notes m e queue (t ∷ ts) none =
    let one : Transfer → List ℕ = λ z. cond (waits_for e z) (take z.most (bytes_now notes m queue z.first z.qtds z.left)) [] in
    ap (λ (bs : List ℕ). bs ++ cancelled_bytes notes m e queue (map (queued_transfer xs) ts))
    (told_test xs e t one [] (λ z differs. ap (λ (b : Bool). cond b (take z.most (bytes_now notes m queue z.first z.qtds z.left)) []) (others_wait e z differs)) (none 0 t refl))
    ∙ ap (λ (bs : List ℕ). one t ++ bs) (bytes_told xs notes m e queue ts (λ k y here. none (suc k) y here))

-- ---- a transfer is given back

transfer_row_told : (p : Parts) (t : ℕ) (y : Transfer) → slice_get p.driver.transfers t ≡ Some y → is_descriptor y.sort ≡ false
    → queued_parts (after_driver_row (rows.ReleaseTransfer t) p) ≡ after_driver_row (rows.ReleaseTransfer t) (queued_parts p)
transfer_row_told p t y there moves =
    let d = p.driver in
    let h = freed_by d (holding d.book p.memory) (Some y) in
    let z : Transfer = record y { released = true } in
    ap (λ (o : Option Transfer). queued_parts (after_transfer p t o (freed_by d (holding d.book p.memory) o))) there
    ∙ ap (λ (us : List Transfer). record (queued_parts p) { driver = record (queued d) { book = h.book; transfers = us; harvested = drop 1 d.harvested; turn = turns.Harvest }; memory = h.memory })
    (map-set (queued_transfer d.endpoints) d.transfers t z ∙ ap (λ (w : Transfer). set (map (queued_transfer d.endpoints) d.transfers) t w) (transfer_told d.endpoints z moves))
    ∙ sym (ap (λ (o : Option Transfer). after_transfer (queued_parts p) t o (freed_by (queued d) (holding d.book p.memory) o)) (moves_at d.endpoints d.transfers t y there moves))

-- ---- an endpoint is given back

module _ (e : ℕ) (x : Endpoint) (ring : is_periodic x.desc.kind ≡ false) where
  gone_told : queued_endpoint (record x { gone = true }) ≡ record (with_queue x) { gone = true }
  gone_told =
      let z : Endpoint = record x { gone = true } in
      queue_told z (ring_queue x.desc.kind ring)
      ∙ ap (λ (b : Bool). record (with_queue z) { linked = cond b false x.linked }) ring
      ∙ sym (ap (λ (b : Bool). record (with_queue x) { gone = true; linked = cond b (not x.gone) x.linked }) ring)

  off_told : queued_endpoint (record x { linked = false }) ≡ record (with_queue x) { linked = false }
  off_told =
      let z : Endpoint = record x { linked = false } in
      queue_told z (ring_queue x.desc.kind ring) ∙ ap (λ (b : Bool). record (with_queue x) { linked = cond b (not x.gone) false }) ring

  linked_told : (with_queue x).linked ≡ x.linked
  linked_told = ap (λ (b : Bool). cond b (not x.gone) x.linked) ring

  pub given_told : (f : DriverContent) (told : Bool) (book : Book) → slice_get f.endpoints e ≡ Some x → HasNoDescriptors e f.transfers → queued (gone_with f e x told book) ≡ gone_with (queued f) e (with_queue x) told book
  given_told f told book here none =
      let z : Endpoint = record x { gone = true } in
      let ts = map (let_go e told) f.transfers in
      lists_told (record (queued f) { book = book; cleared = drop 1 f.cleared; turn = turns.Harvest })
      (set (map queued_endpoint f.endpoints) e (record (with_queue x) { gone = true })) (map queued_endpoint (set f.endpoints e z))
      (map (let_go e told) (map (queued_transfer f.endpoints) f.transfers)) (map (queued_transfer (set f.endpoints e z)) ts)
      (queued_command f.endpoints f.command) (queued_command (set f.endpoints e z) f.command)
      (endpoints_set f.endpoints e x z (record (with_queue x) { gone = true }) here gone_told)
      (transfers_stay f.endpoints e x z here refl ts ∙ all_go_told f.endpoints e told f.transfers none)
      (command_stays f.endpoints e x z here refl f.command)

  pub endpoint_row_told : (p : Parts) → slice_get p.driver.endpoints e ≡ Some x → HasNoDescriptors e p.driver.transfers
      → queued_parts (after_driver_row (rows.ReleaseEndpoint e) p) ≡ after_driver_row (rows.ReleaseEndpoint e) (queued_parts p)
  endpoint_row_told p here none =
      ap (λ (o : Option Endpoint). queued_parts (after_endpoint p e o)) here
      ∙ ap (λ (f : DriverContent). record (queued_parts p) { driver = f; memory = h.memory }) (by (is_told x))
      ∙ ap₂ (λ (bs : List ℕ) (g : Holding). record (queued_parts p) { driver = gone_with (tell (is_told x) (queued p.driver) bs) e (with_queue x) (is_told x) g.book; memory = g.memory })
      (sym (bytes_told d.endpoints d.notes p.memory e x.queue d.transfers none)) (sym (freed_told d.endpoints d.notes e (free_runs (holding d.book p.memory) (x.queue ∷ x.dummy ∷ [])) d.transfers none))
      ∙ sym (ap (λ (o : Option Endpoint). after_endpoint (queued_parts p) e o)
      (queue_at d.endpoints e x here (ring_queue x.desc.kind ring)))
    where
      d : DriverContent
      d = p.driver

      h : Holding
      h = free_endpoint p.driver e x (holding p.driver.book p.memory)

      bytes : List ℕ
      bytes = cancelled_bytes p.driver.notes p.memory e x.queue p.driver.transfers

      tell : Bool → DriverContent → List ℕ → DriverContent
      tell b f bs = cond b (reported f lines.Cancel x.desc.name bs) f

      by : (b : Bool) → queued (gone_with (tell b p.driver bytes) e x (is_told x) h.book) ≡ gone_with (tell b (queued p.driver) bytes) e (with_queue x) (is_told x) h.book
      by true = given_told (reported p.driver lines.Cancel x.desc.name bytes) (is_told x) h.book here none
      by false = given_told p.driver (is_told x) h.book here none

-- ---- a command goes on

pub lends_in_ring : (c : Command) (i : ℕ) → slice_get (events_of c) i ≡ Some rows.Lend → c ≢ unfinished.Chain → IsBulkCommand (Some c)
lends_in_ring unfinished.Chain i next other = absurd (other refl)
lends_in_ring (unfinished.Iso e t count) zero next other = absurd (cc)
lends_in_ring (unfinished.Iso e t count) (suc zero) next other = absurd (cc)
lends_in_ring (unfinished.Iso e t count) (suc (suc i)) next other = absurd (cc)
lends_in_ring (unfinished.Unchain e) i next other = absurd (cc)
lends_in_ring _ i next other = tt

stores_in_ring : (c : Command) (i b at v : ℕ) → slice_get (events_of c) i ≡ Some (rows.Store b at v) → IsBulkCommand (Some c)
stores_in_ring unfinished.Chain zero b at v next = absurd (cc)
stores_in_ring unfinished.Chain (suc i) b at v next = absurd (cc)
stores_in_ring (unfinished.Iso e t count) zero b at v next = absurd (cc)
stores_in_ring (unfinished.Iso e t count) (suc zero) b at v next = absurd (cc)
stores_in_ring (unfinished.Iso e t count) (suc (suc i)) b at v next = absurd (cc)
stores_in_ring (unfinished.Unchain e) i b at v next = absurd (cc)
stores_in_ring _ i b at v next = tt

same_command : (xs : List Endpoint) (c : Command) → IsBulkCommand (Some c) → queued_command xs (Some c) ≡ Some c
same_command xs unfinished.Chain is = absurd is
same_command xs (unfinished.Iso e t count) is = absurd is
same_command xs (unfinished.Unchain e) is = absurd is
same_command xs _ is = refl

same_made : (c : Command) (n : ℕ) → IsBulkCommand (Some c) → queued_made (Some c) n ≡ n
same_made unfinished.Chain n is = absurd is
same_made (unfinished.Iso e t count) n is = absurd is
same_made (unfinished.Unchain e) n is = absurd is
same_made _ n is = refl

-- nothing that leaves the ring is periodic
abbrev LeavesRing : DriverContent → Command → Type 0
LeavesRing d (unfinished.Unlink e b link) = (x : Endpoint) → slice_get d.endpoints e ≡ Some x → is_periodic x.desc.kind ≡ false
LeavesRing d c = Unit {0}

left_told : (d : DriverContent) (e : ℕ) (o : Option Endpoint) → slice_get d.endpoints e ≡ o → ((x : Endpoint) → slice_get d.endpoints e ≡ Some x → is_periodic x.desc.kind ≡ false)
    → queued (leave_ring (no_command d) e o) ≡ leave_ring (no_command (queued d)) e (slice_get (queued d).endpoints e)
left_told d e None here ring = sym (ap (leave_ring (no_command (queued d)) e) (slice_get-map queued_endpoint d.endpoints e ∙ ap (option_map queued_endpoint) here))
left_told d e (Some x) here ring =
    by x.linked
    ∙ sym (ap (leave_ring (no_command (queued d)) e) (queue_at d.endpoints e x here (ring_queue x.desc.kind off))
    ∙ ap (λ (b : Bool). cond b (record (no_command (queued d)) { waiting = d.waiting ++ e ∷ []; endpoints = set (map queued_endpoint d.endpoints) e (record (with_queue x) { linked = false }) }) (no_command (queued d))) (linked_told e x off))
  where
    off : is_periodic x.desc.kind ≡ false
    off = ring x here

    by : (b : Bool) → queued (cond b (record (no_command d) { waiting = d.waiting ++ e ∷ []; endpoints = set d.endpoints e (record x { linked = false }) }) (no_command d))
        ≡ cond b (record (no_command (queued d)) { waiting = d.waiting ++ e ∷ []; endpoints = set (map queued_endpoint d.endpoints) e (record (with_queue x) { linked = false }) }) (no_command (queued d))
    by true =
        let z : Endpoint = record x { linked = false } in
        ap₂ (λ (xs : List Endpoint) (ts : List Transfer). record (no_command (queued d)) { waiting = d.waiting ++ e ∷ []; endpoints = xs; transfers = ts })
        (endpoints_set d.endpoints e x z (record (with_queue x) { linked = false }) here (off_told e x off)) (transfers_stay d.endpoints e x z here refl d.transfers)
    by false = refl

finished_told : (d : DriverContent) (c : Command) → IsBulkCommand (Some c) → LeavesRing d c → queued (finished d c) ≡ finished (queued d) c
finished_told d (unfinished.Open queue) is ring = refl
finished_told d (unfinished.Publish b words) is ring = refl
finished_told d (unfinished.Unlink e b link) is ring = left_told d e (slice_get d.endpoints e) refl ring
finished_told d _ is ring = absurd is

-- one more event of it was made
abbrev stepped : DriverContent → Command → ℕ → DriverContent
stepped d c n = cond (nat_lt (suc n) (length (events_of c))) (record d { made = suc n }) (finished d c)

ring_steps : (d : DriverContent) (c : Command) → IsBulkCommand (Some c) → advanced_by d (Some c) ≡ stepped d c d.made
ring_steps d unfinished.Chain is = absurd is
ring_steps d (unfinished.Iso e t count) is = absurd is
ring_steps d (unfinished.Unchain e) is = absurd is
ring_steps d _ is = refl

pub advance_told : (d : DriverContent) (c : Command) → d.command ≡ Some c → IsBulkCommand (Some c) → LeavesRing d c → queued (advance d) ≡ advance (queued d)
advance_told d c command is ring =
    ap (λ (o : Option Command). queued (advanced_by d o)) command
    ∙ ap queued (ring_steps d c is)
    ∙ by (nat_lt (suc d.made) (length (events_of c)))
    ∙ ap (stepped (queued d) c) (sym (as_many d.made))
    ∙ sym (ap (advanced_by (queued d)) (ap (queued_command d.endpoints) command ∙ same_command d.endpoints c is) ∙ ring_steps (queued d) c is)
  where
    as_many : (n : ℕ) → queued_made d.command n ≡ n
    as_many n = ap (λ (o : Option Command). queued_made o n) command ∙ same_made c n is

    by : (b : Bool) → queued (cond b (record d { made = suc d.made }) (finished d c)) ≡ cond b (record (queued d) { made = suc d.made }) (finished (queued d) c)
    by true = ap (λ (n : ℕ). record (queued d) { made = n }) (as_many (suc d.made))
    by false = finished_told d c is ring

next_told : (p : Parts) (row : DriverRow) (c : Command) → p.driver.command ≡ Some c → slice_get (events_of c) p.driver.made ≡ Some row → IsBulkCommand (Some c) → IsNextOf (queued_parts p) row
next_told p row c command next is = record {
  command = c;
  unfinished = ap (queued_command p.driver.endpoints) command ∙ same_command p.driver.endpoints c is;
  next = ap (λ (n : ℕ). slice_get (events_of c) n) (ap (λ (o : Option Command). queued_made o p.driver.made) command ∙ same_made c p.driver.made is) ∙ next;
}

leaves_told : (d : DriverContent) (c : Command) → d.command ≡ Some c → QueuesTakeTurns d → LeavesRing d c
leaves_told d (unfinished.Unlink e b link) command old = λ x here. old.ring e b link x command here
leaves_told d _ command old = tt

-- ---- any event

pub idle_told : (d : DriverContent) → d.command ≡ None → (queued d).command ≡ None
idle_told d idle = ap (queued_command d.endpoints) idle

same_found : (d : DriverContent) (m : Mem) (y : Transfer) → is_descriptor y.sort ≡ false → found_of d m y y.sort ≡ found_of (queued d) m y y.sort
same_found d m y moves = found_by d m y y.sort moves ∙ sym (found_by (queued d) m y y.sort moves)

harvest_told : (p : Parts) (e t : ℕ) (found : Found) → HasOwners p.driver → QueuesTakeTurns p.driver → IsHarvestDue p e t found → IsOfQueues p (rows.Harvest e t found) → IsToldAlike p (rows.Harvest e t found)
harvest_told p e t found owners old due of_queue =
    let d = p.driver in
    let x = due.endpoint in
    let y = due.transfer in
    let moves = of_queue y due.there in
    let at = (waits_is e y due.waits).endpoint in
    let queue = queue_of_transfer d t y x due.there (ap (slice_get d.endpoints) at ∙ due.here) moves owners.orderly in
    let none = no_descriptors d e x due.here queue owners.orderly in
    let is = due.tells ∙ found_by d p.memory y y.sort moves in
    record {
      due = record {
        idle = idle_told d due.idle;
        endpoint = with_queue x;
        transfer = y;
        here = queue_at d.endpoints e x due.here queue;
        goes_on = due.goes_on;
        next = due.next;
        there = moves_at d.endpoints d.transfers t y due.there moves;
        waits = due.waits;
        tells = due.tells ∙ same_found d p.memory y moves;
      };
      same = ap (λ (f : DriverContent). record (queued_parts p) { driver = f })
          (harvest_row_told e t x queue d p.memory y due.here due.there (old.kinds_fit e x due.here) none moves found
          (not_served y.sort (nat_le y.left 1) (note_at d.notes y.place) (token_in p.memory y.place) found is));
    }

pub row_told : (row : DriverRow) (p : Parts) → HasOwners p.driver → QueuesTakeTurns p.driver → IsDue p row → IsOfQueues p row → IsToldAlike p row
row_told rows.Lend p owners old due of_queue =
    let d = p.driver in
    let c = due.command in
    let is = lends_in_ring c d.made due.next (λ chain. of_queue (due.unfinished ∙ ap (λ (k : Command). Some k) chain)) in
    let h = lend_taken (holding d.book p.memory) in
    record {
      due = next_told p rows.Lend c due.unfinished due.next is;
      same = ap (λ (f : DriverContent). record (queued_parts p) { driver = f; memory = h.memory }) (advance_told (record d { book = h.book }) c due.unfinished is (leaves_told d c due.unfinished old));
    }
row_told (rows.Store b at v) p owners old due next =
    let d = p.driver in
    let c = next.command in
    let is = stores_in_ring c d.made b at v next.next in
    record {
      due = inl (next_told p (rows.Store b at v) c next.unfinished next.next is);
      same = ap (λ (f : DriverContent). record (queued_parts p) { driver = f; memory = store d.book p.memory b at v }) (advance_told d c next.unfinished is (leaves_told d c next.unfinished old));
    }
row_told rows.Frames p owners old due of_queue = absurd of_queue
row_told rows.LendDescriptors p owners old due of_queue = absurd of_queue
row_told (rows.Unlink t) p owners old due of_queue = absurd of_queue
row_told (rows.ReleaseRemoved what) p owners old due of_queue = absurd of_queue
row_told (rows.ReadFrame n) p owners old due of_queue = absurd of_queue
row_told (rows.ReleaseTransfer t) p owners old due of_queue =
    record { due = record { idle = idle_told p.driver due.idle; first = due.first }; same = at (slice_get p.driver.transfers t) refl }
  where
    at : (o : Option Transfer) → slice_get p.driver.transfers t ≡ o → queued_parts (after_driver_row (rows.ReleaseTransfer t) p) ≡ after_driver_row (rows.ReleaseTransfer t) (queued_parts p)
    at (Some y) there = transfer_row_told p t y there (old.harvested 0 t y due.first there)
    at None there =
        ap (λ (o : Option Transfer). queued_parts (after_transfer p t o (freed_by p.driver (holding p.driver.book p.memory) o))) there
        ∙ sym (ap (λ (o : Option Transfer). after_transfer (queued_parts p) t o (freed_by (queued p.driver) (holding p.driver.book p.memory) o))
        (slice_get-map (queued_transfer p.driver.endpoints) p.driver.transfers t ∙ ap (option_map (queued_transfer p.driver.endpoints)) there))
row_told (rows.ReleaseEndpoint e) p owners old due of_queue =
    let l = first_left e due.first owners.orderly in
    record {
      due = record { idle = idle_told p.driver due.idle; first = due.first; none_before = due.none_before };
      same = endpoint_row_told e l.endpoint l.ring p l.here (no_descriptors p.driver e l.endpoint l.here (ring_queue l.endpoint.desc.kind l.ring) owners.orderly);
    }
row_told (rows.ReadStatus heard) p owners old due of_queue = record { due = (idle_told p.driver due.0, due.1, due.2); same = refl }
row_told (rows.Harvest e t found) p owners old due of_queue = harvest_told p e t found owners old due of_queue
row_told rows.Rest p owners old due of_queue = record { due = tt; same = refl }
row_told row p owners old due of_queue = record { due = (idle_told p.driver due.0, due.1); same = refl }
