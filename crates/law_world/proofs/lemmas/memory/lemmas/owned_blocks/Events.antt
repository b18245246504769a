-- Each event of the driver takes no run, and gives back all runs of what goes.
use Rattle.std.proofs.Common.{◌≡◌, ◌≢◌, ℕ, suc, ◌≤◌, ◌==◌, Bool, true, false, not, ◌&&◌, ◌||◌, cond, nat_lt, List, [], ◌∷◌, length, map, drop, take, set, slice_get, Option, Some, None, option_map, ap, refl, sym, subst, ◌∙◌, ⊎_elim, inl, inr, arith}
use Rattle.std.specs.Prelude.{◌⊎◌, is_none}
use Rattle.std.proofs.lemmas.Bool.{cases_eq, cases_Bool, false≢true}
use Rattle.std.proofs.lemmas.Option.{slice_get-map}
use Rattle.law_common.proofs.Options.{same_Some}
use Rattle.law_common.proofs.Booleans.{no_iso}
use Rattle.law_common.proofs.Lists.{set_there}
use Rattle.law_driver.proofs.Common.{ring_queue}
use Rattle.word_mem.specs.Memory.{Mem}
use Rattle.mem_runs.specs.Book.{Book, Holding, holding, slot_of, lend_taken}
use Rattle.drv_periodic_table.specs.Linking.{begun_next}
use Rattle.drv_periodic_table.specs.Periodic.{is_periodic, PeriodicContent}
use Rattle.drv_periodic_table.specs.declared.content.Removal.{Removal}
use Rattle.drv_periodic_table.specs.declared.content.Removed.{Removed}
use Rattle.drv_periodic_table.specs.declared.content.Removed.TheVariants as removed
use Rattle.drv_table.specs.declared.content.Endpoint.{Endpoint}
use Rattle.drv_table.specs.declared.content.Transfer.{Transfer}
use Rattle.drv_table.specs.declared.content.QtdNote.{QtdNote}
use Rattle.drv_table.specs.declared.content.Command.{Command}
use Rattle.drv_table.specs.declared.content.Command.TheVariants as unfinished
use Rattle.drv_table.specs.declared.rows.DriverRow.{DriverRow}
use Rattle.drv_table.specs.declared.rows.DriverRow.TheVariants as rows
use Rattle.drv_table.specs.DriverContent.{DriverContent, waits_for}
use Rattle.drv_table.specs.Parts.{Parts}
use Rattle.drv_table.specs.Commands.{events_of, links, removes_members, leave_ring, leave_frames, no_command, finished, list_after, or_finished, linked_on, advanced_by, advance}
use Rattle.drv_table.specs.FrameChoice.{framed_notes, with_notes, placement_at, framed_by, linked_by}
use Rattle.drv_table.specs.Kinds.{is_iso}
use Rattle.drv_table.specs.Releases.{free_runs, free_qtds, free_endpoint, freed_by, is_told, let_go, cancel_told, after_transfer, after_endpoint}
use Rattle.drv_table.specs.Removals.{free_descriptor, free_descriptors, free_placed, let_go_waiting, let_go_placed, after_descriptor, after_placed, after_removed, after_unlink}
use Rattle.drv_table.specs.Harvesting.{after_harvest}
use Rattle.drv_table.specs.Rows.{driver_row, after_driver_row}
use Rattle.claims_driver.specs.Owners.{HasRun, EndpointRuns, TransferRuns, is_descriptor, runs_of_endpoint, runs_of_transfer, endpoint_in, transfer_in, note_in, descriptor_in, Views, views_of, IsOneOf}
use Rattle.claims_driver.specs.Leaving.{times, IsOrderly, HasOwners}
use Rattle.law_driver.specs.run_owners.Due.{IsDue, IsRemovalDue}
use Rattle.law_driver.proofs.lemmas.run_owners.Stays.{StaysPlaced, stays_same, advanced, framed, lent, unlinks, harvest_stays}
use Rattle.law_driver.proofs.lemmas.run_owners.Released.{same_by_test, AreUntouched, cancel_same}
use Rattle.law_driver.proofs.lemmas.run_owners.Orders.{times_first, removed_first, one_same}
use Rattle.law_driver.proofs.lemmas.run_owners.Leaves.{first_left}
use Rattle.law_driver.proofs.lemmas.run_owners.Reasons.{each_event_is_due}
use Rattle.claims_driver.specs.LentRuns.{begins_in, AreLent}
use Rattle.law_driver.proofs.lemmas.lent_runs.Books.{advance_book, harvest_book}
use Rattle.law_driver.proofs.lemmas.lent_runs.Goes.{idle_none}
use Rattle.claims_world.specs.Owned.{AreAllOwned}
use Rattle.law_world.specs.memory.owned_blocks.Owned.{OwnsAll}
use Rattle.law_world.proofs.lemmas.memory.lemmas.owned_blocks.Whose.{Whose, of_driver, of_endpoint, of_transfer, of_descriptor, queue_blocks, qtd_blocks, descriptor_blocks, TellsAlike, queued_alike, described_alike, endpoint_alike, whose, whose_alike, owned, owned_alike, transfer_at}
use Rattle.law_world.proofs.lemmas.memory.lemmas.owned_blocks.Freed.{HasNoneKept, IsLess, Gone, less_has, less_gone, less_none, less_both, lent_back, runs_less, runs_gone, qtds_less, qtds_gone, transfers_less, transfers_gone, descriptors_less, descriptors_gone}
use Rattle.law_world.proofs.lemmas.memory.lemmas.owned_blocks.Queues.{AreQueues, queues_set, queues_mapped, times_dropped, let_go_sort, let_placed_sort, is_ended, ended_is, harvest_queues}

-- ---- where nothing is given back

alike_of : (d e : DriverContent) → StaysPlaced d e → TellsAlike (views_of d) (views_of e)
alike_of d e stays = record { endpoints = stays.same.endpoints; transfers = stays.same.transfers; notes = stays.same.notes; descriptors = stays.same.buffers }

all_stay : (d e : DriverContent) → StaysPlaced d e → ((c : ℕ) → HasRun (slot_of e.book.slots c) → HasRun (slot_of d.book.slots c)) → AreAllOwned d → AreAllOwned e
all_stay d e stays back old b run = owned_alike (views_of d) (views_of e) b (alike_of d e stays) (old b (back b run))

stays_owns : (d e : DriverContent) → StaysPlaced d e → ((c : ℕ) → HasRun (slot_of e.book.slots c) → HasRun (slot_of d.book.slots c)) → e.harvested ≡ d.harvested → OwnsAll d → OwnsAll e
stays_owns d e stays back harvested old = record {
  all = all_stay d e stays back old.all;
  queues = λ t y some there. old.queues t y (subst (λ (hs : List ℕ). 1 ≤ times t hs) harvested some) (sym (stays.same.transfers t) ∙ there);
}

book_back : (k j : Book) (c : ℕ) → j ≡ k → HasRun (slot_of j.slots c) → HasRun (slot_of k.slots c)
book_back k j c same run = subst (λ (q : Book). HasRun (slot_of q.slots c)) same run

pub with_book : (d e : DriverContent) → StaysPlaced d e → e.book ≡ d.book → e.harvested ≡ d.harvested → OwnsAll d → OwnsAll e
with_book d e stays book harvested old = stays_owns d e stays (λ c run. book_back d.book e.book c book run) harvested old

-- ---- the command goes on

either_harvested : (hs : List ℕ) (d e : DriverContent) (b : Bool) → d.harvested ≡ hs → e.harvested ≡ hs → (cond b d e).harvested ≡ hs
either_harvested hs d e true one two = one
either_harvested hs d e false one two = two

ring_harvested : (d : DriverContent) (e : ℕ) (o : Option Endpoint) → (leave_ring d e o).harvested ≡ d.harvested
ring_harvested d e None = refl
ring_harvested d e (Some x) = either_harvested d.harvested _ d x.linked refl refl

frames_harvested : (d : DriverContent) (e : ℕ) (o : Option Endpoint) → (leave_frames d e o).harvested ≡ d.harvested
frames_harvested d e None = refl
frames_harvested d e (Some x) = either_harvested d.harvested _ d x.chained refl refl

done_harvested : (d : DriverContent) (c : Command) → (finished d c).harvested ≡ d.harvested
done_harvested d (unfinished.Unlink e b link) = ring_harvested (no_command d) e (slice_get d.endpoints e)
done_harvested d (unfinished.Unchain e) = frames_harvested (no_command d) e (slice_get d.endpoints e)
done_harvested d _ = refl

pub or_done_harvested : (d : DriverContent) (c : Command) → (or_finished d c).harvested ≡ d.harvested
or_done_harvested d c = either_harvested d.harvested (finished d c) d (is_none d.periodic.list.work) (done_harvested d c) refl

linked_harvested : (d : DriverContent) (c : Command) → (linked_on d c).harvested ≡ d.harvested
linked_harvested d c = or_done_harvested (record d { made = length (events_of c); periodic = begun_next (removes_members c) (record d.periodic { list = list_after d c }) }) c

went_harvested : (d : DriverContent) (o : Option Command) → (advanced_by d o).harvested ≡ d.harvested
went_harvested d None = refl
went_harvested d (Some c) =
    either_harvested d.harvested (record d { made = suc d.made }) (cond (links c) (linked_on d c) (finished d c)) (nat_lt (suc d.made) (length (events_of c))) refl
    (either_harvested d.harvested (linked_on d c) (finished d c) (links c) (linked_harvested d c) (done_harvested d c))

advance_harvested : (d : DriverContent) → (advance d).harvested ≡ d.harvested
advance_harvested d = went_harvested d d.command

lends_owns : (d : DriverContent) (m : Mem) → OwnsAll d → OwnsAll (advance (record d { book = (lend_taken (holding d.book m)).book }))
lends_owns d m old =
    let h = holding d.book m in
    let e = record d { book = (lend_taken h).book } in
    stays_owns d (advance e) (lent d m) (λ c run. lent_back h c (book_back e.book (advance e).book c (advance_book e) run)) (advance_harvested e) old

framed_owns : (d : DriverContent) (n : ℕ) (o : Option Command) → OwnsAll d → OwnsAll (framed_by d n o)
framed_owns d n (Some (unfinished.Iso e t count)) old =
    let f = with_notes d n (take count (drop t d.transfers)) (framed_notes d n e t count (placement_at d e)) in
    with_book d (advance f) (framed d n (Some (unfinished.Iso e t count))) (advance_book f) (advance_harvested f) old
framed_owns d n _ old = old

unlinks_owns : (p : Parts) (t : ℕ) (o : Option Transfer) → OwnsAll p.driver → OwnsAll (after_unlink p t o).driver
unlinks_owns p t None old = old
unlinks_owns p t (Some x) old = with_book p.driver _ (unlinks p t (Some x)) refl refl old

-- ---- a transfer

none_kept : (d : DriverContent) (m : Mem) → d.command ≡ None → AreLent d → HasNoneKept (holding d.book m)
none_kept d m idle lends b r keeps = false≢true (sym (ap (begins_in b) (idle_none d idle lends)) ∙ lends.kept b r keeps)

-- the views once transfer t is z
abbrev transfer_views : DriverContent → Holding → ℕ → Transfer → Views
transfer_views d g t z = record (views_of d) { slot = slot_of g.book.slots; transfer = transfer_in (set d.transfers t z) }

there_still : (ts : List Transfer) (t u : ℕ) (z : Transfer) → u ≢ t → transfer_in (set ts t z) u ≡ transfer_in ts u
there_still ts t u z differs = ap (option_map runs_of_transfer) (set_there ts t u z differs)

here_is : (ts : List Transfer) (t u : ℕ) (x : Transfer) (r : TransferRuns) → slice_get ts t ≡ Some x → u ≡ t → transfer_in ts u ≡ Some r → runs_of_transfer x ≡ r
here_is ts t u x r here same there = same_Some (runs_of_transfer x) r (sym (ap (option_map runs_of_transfer) here) ∙ ap (transfer_in ts) (sym same) ∙ there)

after_qtds : (d : DriverContent) (g : Holding) (t b : ℕ) (x z : Transfer) → slice_get d.transfers t ≡ Some x → is_descriptor x.sort ≡ false → ((c : ℕ) → IsOneOf c (qtd_blocks (views_of d) (runs_of_transfer x)) → Gone g c)
    → HasRun (slot_of g.book.slots b) → Whose (views_of d) b → Whose (transfer_views d g t z) b
after_qtds d g t b x z here sort gone run (of_driver is) = of_driver is
after_qtds d g t b x z here sort gone run (of_endpoint e r is among) = endpoint_alike (views_of d) (transfer_views d g t z) e b r refl is among
after_qtds d g t b x z here sort gone run (of_transfer u r is among) =
    ⊎_elim (λ (same : u ≡ t). absurd (gone b (subst (λ (q : TransferRuns). IsOneOf b (qtd_blocks (views_of d) q)) (sym (here_is d.transfers t u x r here same is.here)) among) run))
    (λ (differs : u ≢ t). queued_alike (views_of d) (transfer_views d g t z) u b r (there_still d.transfers t u z differs) refl is among) (cases_eq u t)
after_qtds d g t b x z here sort gone run (of_descriptor u r is among) =
    ⊎_elim
    (λ (same : u ≡ t). absurd (false≢true (sym sort ∙ ap (λ (q : TransferRuns). q.isochronous) (here_is d.transfers t u x r here same is.here) ∙ is.descriptor)))
    (λ (differs : u ≢ t). described_alike (views_of d) (transfer_views d g t z) u b r (there_still d.transfers t u z differs) refl is among) (cases_eq u t)

after_described : (d : DriverContent) (g : Holding) (t b : ℕ) (x z : Transfer) → slice_get d.transfers t ≡ Some x → is_descriptor x.sort ≡ true → ((c : ℕ) → IsOneOf c (descriptor_blocks (views_of d) (runs_of_transfer x)) → Gone g c)
    → HasRun (slot_of g.book.slots b) → Whose (views_of d) b → Whose (transfer_views d g t z) b
after_described d g t b x z here sort gone run (of_driver is) = of_driver is
after_described d g t b x z here sort gone run (of_endpoint e r is among) = endpoint_alike (views_of d) (transfer_views d g t z) e b r refl is among
after_described d g t b x z here sort gone run (of_transfer u r is among) =
    ⊎_elim
    (λ (same : u ≡ t). absurd (false≢true (sym is.qtds ∙ sym (ap (λ (q : TransferRuns). q.isochronous) (here_is d.transfers t u x r here same is.here)) ∙ sort)))
    (λ (differs : u ≢ t). queued_alike (views_of d) (transfer_views d g t z) u b r (there_still d.transfers t u z differs) refl is among) (cases_eq u t)
after_described d g t b x z here sort gone run (of_descriptor u r is among) =
    ⊎_elim (λ (same : u ≡ t). absurd (gone b (subst (λ (q : TransferRuns). IsOneOf b (descriptor_blocks (views_of d) q)) (sym (here_is d.transfers t u x r here same is.here)) among) run))
    (λ (differs : u ≢ t). described_alike (views_of d) (transfer_views d g t z) u b r (there_still d.transfers t u z differs) refl is among) (cases_eq u t)

transfer_owns : (p : Parts) (t : ℕ) (o : Option Transfer) → slice_get p.driver.transfers t ≡ o → ((x : Transfer) → o ≡ Some x → is_descriptor x.sort ≡ false) → HasNoneKept (holding p.driver.book p.memory) → OwnsAll p.driver
    → OwnsAll (after_transfer p t o (freed_by p.driver (holding p.driver.book p.memory) o)).driver
transfer_owns p t None here sort none old = old
transfer_owns p t (Some x) here sort none old =
    let d = p.driver in
    let h = holding d.book p.memory in
    let g = free_qtds d.notes h x.first x.qtds in
    let z : Transfer = record x { released = true } in
    let all : AreAllOwned (after_transfer p t (Some x) g).driver = λ b run.
    owned (transfer_views d g t z) b
    (after_qtds d g t b x z here (sort x refl) (λ c among. qtds_gone d.notes h x.first x.qtds c none among) run
    (whose (views_of d) b (old.all b (less_has h g b (qtds_less d.notes h x.first x.qtds) run)))) in
    record { all = all; queues = queues_set d.harvested (drop 1 d.harvested) d.transfers t x z here refl (λ u. times_dropped u d.harvested) old.queues }

descriptor_owns : (p : Parts) (t : ℕ) (o : Option Transfer) → slice_get p.driver.transfers t ≡ o → ((x : Transfer) → o ≡ Some x → is_descriptor x.sort ≡ true) → HasNoneKept (holding p.driver.book p.memory) → OwnsAll p.driver
    → OwnsAll (after_descriptor p t o).driver
descriptor_owns p t None here sort none old = old
descriptor_owns p t (Some x) here sort none old =
    let d = p.driver in
    let h = holding d.book p.memory in
    let g = free_descriptor d.periodic.notes h x.first in
    let bs = descriptor_blocks (views_of d) (runs_of_transfer x) in
    let z : Transfer = record x { released = true } in
    let all : AreAllOwned (after_descriptor p t (Some x)).driver = λ b run.
    owned (transfer_views d g t z) b
    (after_described d g t b x z here (sort x refl) (λ c among. runs_gone h bs c none among) run (whose (views_of d) b (old.all b (less_has h g b (runs_less h bs) run)))) in
    record { all = all; queues = queues_set d.harvested d.harvested d.transfers t x z here refl (λ u. omega arith) old.queues }

-- ---- an endpoint

abbrev endpoint_views : DriverContent → Holding → ℕ → Endpoint → List Transfer → Views
endpoint_views d g e x ts = record (views_of d) { slot = slot_of g.book.slots; endpoint = endpoint_in (set d.endpoints e (record x { gone = true })); transfer = transfer_in ts }

endpoint_is : (xs : List Endpoint) (e u : ℕ) (x : Endpoint) (r : EndpointRuns) → slice_get xs e ≡ Some x → u ≡ e → endpoint_in xs u ≡ Some r → runs_of_endpoint x ≡ r
endpoint_is xs e u x r here same there = same_Some (runs_of_endpoint x) r (sym (ap (option_map runs_of_endpoint) here) ∙ ap (endpoint_in xs) (sym same) ∙ there)

endpoint_still : (xs : List Endpoint) (e u : ℕ) (z : Endpoint) → u ≢ e → endpoint_in (set xs e z) u ≡ endpoint_in xs u
endpoint_still xs e u z differs = ap (option_map runs_of_endpoint) (set_there xs e u z differs)

mapped_is : (ts : List Transfer) (go : Transfer → Transfer) (t : ℕ) (y : Transfer) → slice_get ts t ≡ Some y → go y ≡ y → transfer_in (map go ts) t ≡ transfer_in ts t
mapped_is ts go t y there same =
    ap (option_map runs_of_transfer) (slice_get-map go ts t ∙ ap (option_map go) there ∙ ap Some same ∙ sym there)

held_by : (a b : Bool) → a ≡ true → b ≡ false → a && not b ≡ true
held_by true false on off = refl
held_by true true on off = absurd (false≢true (sym off))
held_by false b on off = absurd (false≢true on)

not_let_go : (b : Bool) (y z : Transfer) → b ≡ false → cond b z y ≡ y
not_let_go true y z off = absurd (false≢true (sym off))
not_let_go false y z off = refl

-- what the endpoint has goes with it
record GoesWith (d : DriverContent) (g : Holding) (e : ℕ) (x : Endpoint) (go : Transfer → Transfer) : Type 0 where
  queue : (c : ℕ) → is_iso x.desc.kind ≡ false → IsOneOf c (queue_blocks (runs_of_endpoint x)) → Gone g c
  queued : (t c : ℕ) (y : Transfer) → slice_get d.transfers t ≡ Some y → y.released ≡ false → is_descriptor y.sort ≡ false → IsOneOf c (qtd_blocks (views_of d) (runs_of_transfer y)) → (go y ≡ y) ⊎ Gone g c
  described : (t c : ℕ) (y : Transfer) → slice_get d.transfers t ≡ Some y → y.released ≡ false → is_descriptor y.sort ≡ true → IsOneOf c (descriptor_blocks (views_of d) (runs_of_transfer y)) → (go y ≡ y) ⊎ Gone g c

after_going : (d : DriverContent) (g : Holding) (e b : ℕ) (x : Endpoint) (go : Transfer → Transfer) → slice_get d.endpoints e ≡ Some x → GoesWith d g e x go → HasRun (slot_of g.book.slots b) → Whose (views_of d) b
    → Whose (endpoint_views d g e x (map go d.transfers)) b
after_going d g e b x go here goes run (of_driver is) = of_driver is
after_going d g e b x go here goes run (of_endpoint u r is among) =
    ⊎_elim
    (λ (same : u ≡ e).
    let at : runs_of_endpoint x ≡ r = endpoint_is d.endpoints e u x r here same is.here in
    absurd (goes.queue b (no_iso (is_iso x.desc.kind) x.gone (ap (λ (q : EndpointRuns). q.bare) at ∙ is.queued))
    (subst (λ (q : EndpointRuns). IsOneOf b (queue_blocks q)) (sym at) among) run))
    (λ (differs : u ≢ e). endpoint_alike (views_of d) (endpoint_views d g e x (map go d.transfers)) u b r (endpoint_still d.endpoints e u (record x { gone = true }) differs) is among)
    (cases_eq u e)
after_going d g e b x go here goes run (of_transfer t r is among) =
    let w = transfer_at d.transfers t r is.here in
    let y = w.transfer in
    ⊎_elim (λ (same : go y ≡ y). queued_alike (views_of d) (endpoint_views d g e x (map go d.transfers)) t b r (mapped_is d.transfers go t y w.here same) refl is among)
    (λ (gone : Gone g b). absurd (gone run))
    (goes.queued t b y w.here (ap (λ (q : TransferRuns). q.released) w.runs ∙ is.held) (ap (λ (q : TransferRuns). q.isochronous) w.runs ∙ is.qtds)
    (subst (λ (q : TransferRuns). IsOneOf b (qtd_blocks (views_of d) q)) (sym w.runs) among))
after_going d g e b x go here goes run (of_descriptor t r is among) =
    let w = transfer_at d.transfers t r is.here in
    let y = w.transfer in
    ⊎_elim (λ (same : go y ≡ y). described_alike (views_of d) (endpoint_views d g e x (map go d.transfers)) t b r (mapped_is d.transfers go t y w.here same) refl is among)
    (λ (gone : Gone g b). absurd (gone run))
    (goes.described t b y w.here (ap (λ (q : TransferRuns). q.released) w.runs ∙ is.held) (ap (λ (q : TransferRuns). q.isochronous) w.runs ∙ is.descriptor)
    (subst (λ (q : TransferRuns). IsOneOf b (descriptor_blocks (views_of d) q)) (sym w.runs) among))

all_going : (d : DriverContent) (h g : Holding) (e : ℕ) (x : Endpoint) (go : Transfer → Transfer) → h.book ≡ d.book → slice_get d.endpoints e ≡ Some x → IsLess h g → GoesWith d g e x go → AreAllOwned d
    → (b : ℕ) → HasRun (slot_of g.book.slots b) → Whose (endpoint_views d g e x (map go d.transfers)) b
all_going d h g e x go is here less goes old b run =
    after_going d g e b x go here goes run (whose (views_of d) b (old b (book_back d.book h.book b is (less_has h g b less run))))

-- with a queue
queue_goes : (d : DriverContent) (m : Mem) (e : ℕ) (x : Endpoint) (told : Bool) → slice_get d.endpoints e ≡ Some x → is_iso x.desc.kind ≡ false → IsOrderly d → HasNoneKept (holding d.book m) → GoesWith d (free_endpoint d e x (holding d.book m)) e x (let_go e told)
queue_goes d m e x told here kind order none = record {
  queue = λ c queued among. less_gone mid g c (transfers_less d.notes e mid d.transfers) (runs_gone h bs c none among);
  queued = λ t c y there held sort among.
      ⊎_elim
      (λ (at : (y.endpoint == e) ≡ true). inr (transfers_gone d.notes e mid d.transfers t c y (less_none h mid (runs_less h bs) none) there (held_by (y.endpoint == e) y.released at held) among))
      (λ (off : (y.endpoint == e) ≡ false). inl (not_let_go (y.endpoint == e) y (record y { reported = y.reported || told; released = true }) off))
      (cases_Bool (y.endpoint == e));
  described = λ t c y there held sort among.
      ⊎_elim
      (λ (at : (y.endpoint == e) ≡ true). absurd (false≢true (sym kind ∙ sym (order.sorts t y x there (ap (slice_get d.endpoints) (same_by_test y.endpoint e at) ∙ here)) ∙ sort)))
      (λ (off : (y.endpoint == e) ≡ false). inl (not_let_go (y.endpoint == e) y (record y { reported = y.reported || told; released = true }) off))
      (cases_Bool (y.endpoint == e));
}
  where
    h : Holding
    h = holding d.book m

    bs : List ℕ
    bs = x.queue ∷ x.dummy ∷ []

    mid : Holding
    mid = free_runs (holding d.book m) (x.queue ∷ x.dummy ∷ [])

    g : Holding
    g = free_endpoint d e x (holding d.book m)

queue_less : (d : DriverContent) (m : Mem) (e : ℕ) (x : Endpoint) → IsLess (holding d.book m) (free_endpoint d e x (holding d.book m))
queue_less d m e x =
    let h = holding d.book m in
    let mid = free_runs h (x.queue ∷ x.dummy ∷ []) in
    less_both h mid (free_endpoint d e x h) (runs_less h (x.queue ∷ x.dummy ∷ [])) (transfers_less d.notes e mid d.transfers)

-- without one
waits_by : (a b : Bool) → a && not b ≡ true → a ≡ true
waits_by true b w = refl
waits_by false b w = absurd (false≢true w)

placed_goes : (d : DriverContent) (m : Mem) (e : ℕ) (x : Endpoint) (told : Bool) → slice_get d.endpoints e ≡ Some x → is_iso x.desc.kind ≡ true → IsOrderly d → HasNoneKept (holding d.book m)
    → GoesWith d (free_descriptors d.periodic.notes e (holding d.book m) d.transfers) e x (let_go_waiting e told)
placed_goes d m e x told here kind order none = record {
  queue = λ c queued among. absurd (false≢true (sym queued ∙ kind));
  queued = λ t c y there held sort among.
      ⊎_elim
      (λ (at : waits_for e y ≡ true).
      absurd (false≢true (sym sort ∙ order.sorts t y x there (ap (slice_get d.endpoints) (same_by_test y.endpoint e (waits_by (y.endpoint == e) y.reported at)) ∙ here) ∙ kind)))
      (λ (off : waits_for e y ≡ false). inl (not_let_go (waits_for e y) y (record y { reported = y.reported || told; released = true }) off))
      (cases_Bool (waits_for e y));
  described = λ t c y there held sort among.
      ⊎_elim (λ (at : waits_for e y ≡ true). inr (descriptors_gone d.periodic.notes e (holding d.book m) d.transfers t c y none there at among))
      (λ (off : waits_for e y ≡ false). inl (not_let_go (waits_for e y) y (record y { reported = y.reported || told; released = true }) off))
      (cases_Bool (waits_for e y));
}

-- the same of a content in which only the report differs
told_views : (d f : DriverContent) (g : Holding) (e : ℕ) (x : Endpoint) (go : Transfer → Transfer) → AreUntouched d f → TellsAlike (endpoint_views d g e x (map go d.transfers)) (endpoint_views f g e x (map go f.transfers))
told_views d f g e x go same = record {
  endpoints = λ u. ap (λ (xs : List Endpoint). endpoint_in (set xs e (record x { gone = true })) u) same.endpoints;
  transfers = λ t. ap (λ (ts : List Transfer). transfer_in (map go ts) t) same.transfers;
  notes = λ c. ap (λ (ns : List QtdNote). note_in ns c) same.notes;
  descriptors = λ c. ap (λ (q : PeriodicContent). descriptor_in q.notes c) same.periodic;
}

told_harvested : (d : DriverContent) (m : Mem) (e : ℕ) (x : Endpoint) → (cancel_told d m e x).harvested ≡ d.harvested
told_harvested d m e x = either_harvested d.harvested _ d (is_told x) refl refl

gone_queues : (d f : DriverContent) (go : Transfer → Transfer) → f.harvested ≡ d.harvested → f.transfers ≡ d.transfers → ((y : Transfer) → (go y).sort ≡ y.sort) → AreQueues d.harvested d.transfers → AreQueues f.harvested (map go f.transfers)
gone_queues d f go hs ts sorts old =
    subst (λ (js : List ℕ). AreQueues js (map go f.transfers)) (sym hs) (subst (λ (us : List Transfer). AreQueues d.harvested (map go us)) (sym ts) (queues_mapped d.harvested d.transfers go sorts old))

endpoint_owns : (p : Parts) (e : ℕ) (o : Option Endpoint) → slice_get p.driver.endpoints e ≡ o → ((x : Endpoint) → o ≡ Some x → is_iso x.desc.kind ≡ false) → IsOrderly p.driver → HasNoneKept (holding p.driver.book p.memory) → OwnsAll p.driver
    → OwnsAll (after_endpoint p e o).driver
endpoint_owns p e None here kind order none old = old
endpoint_owns p e (Some x) here kind order none old =
    let d = p.driver in
    let h = holding d.book p.memory in
    let g = free_endpoint d e x h in
    let f = cancel_told d p.memory e x in
    let go : Transfer → Transfer = let_go e (is_told x) in
    let same = cancel_same d p.memory e x in
    let all : AreAllOwned (after_endpoint p e (Some x)).driver = λ b run.
    owned (endpoint_views f g e x (map go f.transfers)) b
    (whose_alike (endpoint_views d g e x (map go d.transfers)) (endpoint_views f g e x (map go f.transfers)) b (told_views d f g e x go same)
    (all_going d h g e x go refl here (queue_less d p.memory e x) (queue_goes d p.memory e x (is_told x) here (kind x refl) order none) old.all b run)) in
    record { all = all; queues = gone_queues d f go (told_harvested d p.memory e x) same.transfers (let_go_sort e (is_told x)) old.queues }

placed_by : (d : DriverContent) (m : Mem) (e : ℕ) (x : Endpoint) (told iso : Bool) → is_iso x.desc.kind ≡ iso → slice_get d.endpoints e ≡ Some x → IsOrderly d → HasNoneKept (holding d.book m) → AreAllOwned d
    → (b : ℕ) → HasRun (slot_of (cond iso (free_descriptors d.periodic.notes e (holding d.book m) d.transfers) (free_endpoint d e x (holding d.book m))).book.slots b)
    → Whose (endpoint_views d (cond iso (free_descriptors d.periodic.notes e (holding d.book m) d.transfers) (free_endpoint d e x (holding d.book m))) e x (map (let_go_placed iso e told) d.transfers)) b
placed_by d m e x told true is here order none old b run =
    let h = holding d.book m in
    all_going d h (free_descriptors d.periodic.notes e h d.transfers) e x (let_go_waiting e told) refl here (descriptors_less d.periodic.notes e h d.transfers) (placed_goes d m e x told here is order none) old b run
placed_by d m e x told false is here order none old b run =
    let h = holding d.book m in
    all_going d h (free_endpoint d e x h) e x (let_go e told) refl here (queue_less d m e x) (queue_goes d m e x told here is order none) old b run

placed_owns : (p : Parts) (e : ℕ) (o : Option Endpoint) → slice_get p.driver.endpoints e ≡ o → IsOrderly p.driver → HasNoneKept (holding p.driver.book p.memory) → OwnsAll p.driver → OwnsAll (after_placed p e o).driver
placed_owns p e None here order none old = old
placed_owns p e (Some x) here order none old =
    let d = p.driver in
    let h = holding d.book p.memory in
    let iso = is_iso x.desc.kind in
    let g = free_placed d e x h in
    let f = cancel_told d p.memory e x in
    let go : Transfer → Transfer = let_go_placed iso e (is_told x) in
    let same = cancel_same d p.memory e x in
    let all : AreAllOwned (after_placed p e (Some x)).driver = λ b run.
    owned (endpoint_views f g e x (map go f.transfers)) b
    (whose_alike (endpoint_views d g e x (map go d.transfers)) (endpoint_views f g e x (map go f.transfers)) b (told_views d f g e x go same)
    (placed_by d p.memory e x (is_told x) iso refl here order none old.all b run)) in
    record { all = all; queues = gone_queues d f go (told_harvested d p.memory e x) same.transfers (let_placed_sort iso e (is_told x)) old.queues }

-- ---- each event

first_queued : (d : DriverContent) (t : ℕ) (x : Transfer) → slice_get d.harvested 0 ≡ Some t → slice_get d.transfers t ≡ Some x → AreQueues d.harvested d.transfers → is_descriptor x.sort ≡ false
first_queued d t x first there old = old t (runs_of_transfer x) (omega (arith, times_first t t d.harvested first, one_same t)) (ap (option_map runs_of_transfer) there)

first_ring : (d : DriverContent) (e : ℕ) (x : Endpoint) → slice_get d.cleared 0 ≡ Some e → slice_get d.endpoints e ≡ Some x → IsOrderly d → is_iso x.desc.kind ≡ false
first_ring d e x first here order =
    let l = first_left e first order in
    ring_queue x.desc.kind (ap (λ (y : Endpoint). is_periodic y.desc.kind) (same_Some x l.endpoint (sym here ∙ l.here)) ∙ l.ring)

first_described : (d : DriverContent) (t : ℕ) (x : Transfer) (m : Removal) → slice_get d.periodic.removals 0 ≡ Some m → m.what ≡ removed.Descriptor t → slice_get d.transfers t ≡ Some x → IsOrderly d → is_descriptor x.sort ≡ true
first_described d t x m first what there order = order.unlinked t x (omega (arith, removed_first t t d.periodic.removals m first what, one_same t)) there

removed_owns : (p : Parts) (what : Removed) → IsRemovalDue p what → IsOrderly p.driver → HasNoneKept (holding p.driver.book p.memory) → OwnsAll p.driver → OwnsAll (after_removed p what).driver
removed_owns p (removed.Descriptor t) due order none old =
    descriptor_owns p t (slice_get p.driver.transfers t) refl (λ x is. first_described p.driver t x due.removal due.first due.is is order) none old
removed_owns p (removed.Endpoint e) due order none old = placed_owns p e (slice_get p.driver.endpoints e) refl order none old

due_owns : (row : DriverRow) (p : Parts) → IsDue p row → IsOrderly p.driver → AreLent p.driver → OwnsAll p.driver → OwnsAll (after_driver_row row p).driver
due_owns rows.Lend p due order lends old = lends_owns p.driver p.memory old
due_owns (rows.Store b at v) p due order lends old = with_book p.driver (advance p.driver) (advanced p.driver) (advance_book p.driver) (advance_harvested p.driver) old
due_owns rows.Frames p due order lends old = framed_owns p.driver p.registers.frame_index p.driver.command old
due_owns rows.LendDescriptors p due order lends old = lends_owns p.driver (linked_by p.driver p.memory p.driver.command) old
due_owns (rows.Unlink t) p due order lends old = unlinks_owns p t (slice_get p.driver.transfers t) old
due_owns (rows.ReleaseRemoved what) p due order lends old = removed_owns p what due order (none_kept p.driver p.memory due.idle lends) old
due_owns (rows.ReleaseTransfer t) p due order lends old =
    transfer_owns p t (slice_get p.driver.transfers t) refl (λ x is. first_queued p.driver t x due.first is old.queues) (none_kept p.driver p.memory due.idle lends) old
due_owns (rows.ReleaseEndpoint e) p due order lends old =
    endpoint_owns p e (slice_get p.driver.endpoints e) refl (λ x is. first_ring p.driver e x due.first is order) order (none_kept p.driver p.memory due.idle lends) old
due_owns (rows.Harvest e t found) p due order lends old =
    let x = slice_get p.driver.endpoints e in
    let y = slice_get p.driver.transfers t in
    let now = after_harvest p.driver p.memory e t found x y in
    record {
      all = all_stay p.driver now (harvest_stays p.driver p.memory e t found x y refl refl) (λ c run. book_back p.driver.book now.book c (harvest_book p.driver p.memory e t found x y).book run) old.all;
      queues =
          harvest_queues p.driver p.memory e t found x y refl refl order
          (λ z is ended.
          ap (λ (q : Transfer). is_descriptor q.sort) (same_Some z due.transfer (sym is ∙ due.there))
          ∙ ended_is p.driver p.memory due.transfer due.transfer.sort (sym (ap is_ended due.tells) ∙ ended)) old.queues;
    }
due_owns rows.Rest p due order lends old = old
due_owns _ p due order lends old = with_book p.driver _ (stays_same p.driver _ refl (λ i. refl) (λ i. refl) (λ c. refl) refl refl) refl refl old

pub event_owns_all : (p : Parts) → HasOwners p.driver → AreLent p.driver → OwnsAll p.driver
    → OwnsAll (after_driver_row (driver_row p) p).driver
event_owns_all p owners lends old = due_owns (driver_row p) p (each_event_is_due p) owners.orderly lends old
