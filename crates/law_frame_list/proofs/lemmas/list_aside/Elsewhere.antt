-- Events that store elsewhere leave the frame list standing.
use Rattle.std.proofs.Common.{◌≡◌, ℕ, zero, suc, ◌/◌, Bool, true, false, if◌then◌else◌, List, [], length, drop, take, slice_get, Option, Some, None, inl, inr, ap, refl, sym, subst, ◌∙◌, ⊎_elim}
use Rattle.std.specs.Prelude.{is_none, not, nat_lt}
use Rattle.std.proofs.lemmas.Bool.{false≢true}
use Rattle.law_common.proofs.Booleans.{not_on, either_if}
use Rattle.law_frame_list.proofs.Common.{frames_first}
use Rattle.law_driver.proofs.Common.{none_made, lend_never, get_drop}
use Rattle.word_mem.specs.Memory.{Mem, IsShaped, word_at}
use Rattle.mem_runs.specs.Book.{Book, Holding, holding, lend_taken, slot_of, IsAt, store, Stands}
use Rattle.drv_chains.specs.declared.members.Member.{Member}
use Rattle.drv_periodic.specs.Periodic.{Periodic, address_of}
use Rattle.drv_periodic_table.specs.Periodic.{PeriodicContent}
use Rattle.drv_periodic_table.specs.Linking.{with_first, begun_next}
use Rattle.drv_periodic_table.specs.declared.content.Removed.{Removed}
use Rattle.drv_periodic_table.specs.declared.content.Removed.TheVariants as removed
use Rattle.claims_driver.specs.FrameWords.{IsInOrder, StandFor, ListStands}
use Rattle.drv_table.specs.declared.content.Endpoint.{Endpoint}
use Rattle.drv_table.specs.declared.content.Transfer.{Transfer}
use Rattle.drv_table.specs.declared.content.Command.{Command}
use Rattle.drv_table.specs.declared.content.Command.TheVariants as unfinished
use Rattle.drv_table.specs.declared.rows.DriverRow.{DriverRow}
use Rattle.drv_table.specs.declared.rows.DriverRow.TheVariants as rows
use Rattle.drv_table.specs.DriverContent.{DriverContent}
use Rattle.drv_table.specs.Words.{head_block}
use Rattle.drv_table.specs.Accepting.{oldest_of}
use Rattle.drv_table.specs.Parts.{Parts}
use Rattle.drv_table.specs.Rows.{driver_row, after_driver_row}
use Rattle.drv_table.specs.Commands.{events_of, links, advance, advanced_by, linked_on, or_finished, finished, no_command, leave_ring, leave_frames}
use Rattle.drv_table.specs.FrameChoice.{framed_by, framed_notes, placement_at, with_notes}
use Rattle.drv_table.specs.Releases.{freed_by, after_transfer, is_told, cancel_told, free_endpoint, after_endpoint}
use Rattle.drv_table.specs.Removals.{free_descriptor, after_descriptor, free_placed, after_placed, after_removed}
use Rattle.claims_driver.specs.Owners.{Head, QueueHead, Element, IsPlaced, SlotHas}
use Rattle.law_driver.specs.run_owners.Due.{IsNextOf, IsDue}
use Rattle.claims_driver.specs.Leaving.{HasOwners}
use Rattle.law_driver.proofs.lemmas.run_owners.Laws.{events_keep_owners}
use Rattle.law_driver.proofs.lemmas.run_owners.Reasons.{each_event_is_due}
use Rattle.law_driver.specs.listed_members.Members.{IsUnderWay, IsListed}
use Rattle.law_driver.proofs.lemmas.listed_members.Events.{events_keep_the_list}
use Rattle.claims_driver.specs.Ring.{link_in}
use Rattle.law_driver.specs.ring_members.Words.{IsUnlinking, IsPublishing}
use Rattle.law_driver.specs.in_place.InPlace.{IsSound}
use Rattle.law_driver.proofs.lemmas.ring_members.Freed.{LeavesRest, lent_words, rest_qtds, rest_endpoint, rest_descriptor, rest_placed}
use Rattle.law_driver.proofs.lemmas.ring_members.Links.{LeadsTo, oldest_is}
use Rattle.law_driver.proofs.lemmas.ring_members.Placed.{in_ring_alive, linked_alive, queue_placed}
use Rattle.law_driver.proofs.lemmas.ring_members.Events.{open_store, unlink_store, publish_store, chain_never, iso_never, unchain_never, stands_as, block_of}
use Rattle.law_driver_ring.specs.Driven.{is_quiet}
use Rattle.law_frame_list.proofs.lemmas.list_stands.Listing.{it_stands_where_its_words_are_left, quiet_events_keep_it_standing}
use Rattle.law_frame_list.specs.list_aside.Elsewhere.{links_now, is_elsewhere}
use Rattle.law_frame_list.proofs.lemmas.list_aside.Aside.{IsAside, aside_by, rest_leaves, store_leaves}

abbrev list_of : DriverContent → Periodic
list_of d = d.periodic.list

same_list : (m : Mem) (d e : DriverContent) → list_of e ≡ list_of d → ListStands m d → ListStands m e
same_list m d e same old = record {
  order = subst IsInOrder (sym same) old.order;
  words = subst (λ (p : Periodic). StandFor p (word_at m)) (sym same) old.words;
}

-- ---- the list is the same

ring_list : (d : DriverContent) (e : ℕ) (o : Option Endpoint) → list_of (leave_ring d e o) ≡ list_of d
ring_list d e None = refl
ring_list d e (Some x) = either_if (λ (f : DriverContent). list_of f ≡ list_of d) x.linked _ d (λ on. refl) (λ on. refl)

frames_list : (d : DriverContent) (e : ℕ) (o : Option Endpoint) → list_of (leave_frames d e o) ≡ list_of d
frames_list d e None = refl
frames_list d e (Some x) = either_if (λ (f : DriverContent). list_of f ≡ list_of d) x.chained _ d (λ on. refl) (λ on. refl)

finished_list : (d : DriverContent) (c : Command) → list_of (finished d c) ≡ list_of d
finished_list d (unfinished.Unlink e b link) = ring_list (no_command d) e (slice_get d.endpoints e)
finished_list d (unfinished.Unchain e) = frames_list (no_command d) e (slice_get d.endpoints e)
finished_list d _ = refl

-- a command that links nothing goes on
aside_list : (d : DriverContent) (c : Command) → links c ≡ false → list_of (advanced_by d (Some c)) ≡ list_of d
aside_list d c off =
    either_if (λ (f : DriverContent). list_of f ≡ list_of d) (nat_lt (suc d.made) (length (events_of c))) (record d { made = suc d.made }) (if links c then linked_on d c else finished d c) (λ more. refl)
    (λ last. either_if (λ (f : DriverContent). list_of f ≡ list_of d) (links c) (linked_on d c) (finished d c) (λ on. absurd (false≢true (sym off ∙ on))) (λ none. finished_list d c))

goes_on_list : (d : DriverContent) (c : Command) → d.command ≡ Some c → links c ≡ false → list_of (advance d) ≡ list_of d
goes_on_list d c is off = ap (λ (o : Option Command). list_of (advanced_by d o)) is ∙ aside_list d c off

-- nothing is begun where nothing is queued
none_begun : (removes : Bool) (q : PeriodicContent) → q.queued ≡ [] → (begun_next removes q).list ≡ q.list
none_begun removes q none =
    either_if (λ (r : PeriodicContent). r.list ≡ q.list) (is_none q.list.work) (with_first removes q q.queued) q (λ e. ap (λ (ms : List Member). (with_first removes q ms).list) none) (λ e. refl)

ended_list : (d : DriverContent) (c : Command) → list_of (or_finished d c) ≡ list_of d
ended_list d c = either_if (λ (f : DriverContent). list_of f ≡ list_of d) (is_none d.periodic.list.work) (finished d c) d (λ e. finished_list d c) (λ e. refl)

chain_list : (d : DriverContent) (made : ℕ) → d.made ≡ made → made ≡ 0 → d.periodic.queued ≡ [] → list_of (advanced_by d (Some unfinished.Chain)) ≡ list_of d
chain_list d made is first none =
    let zero : d.made ≡ 0 = is ∙ first in
    rw zero (ended_list (record d { made = 1; periodic = begun_next false (record d.periodic { list = d.periodic.list }) }) unfinished.Chain ∙ none_begun false d.periodic none)

-- ---- lending

iso_lends : (f t count made : ℕ) → slice_get (events_of (unfinished.Iso f t count)) made ≡ Some rows.Lend → ⊥
iso_lends f t count (suc zero) e = cc
iso_lends f t count _ e = cc

unchain_lends : (f made : ℕ) → slice_get (events_of (unfinished.Unchain f)) made ≡ Some rows.Lend → ⊥
unchain_lends f made e = cc

lent_list : (d : DriverContent) (book : Book) (c : Command) → d.command ≡ Some c → slice_get (events_of c) d.made ≡ Some rows.Lend → IsUnderWay d (Some c) → list_of (advanced_by (record d { book = book }) (Some c)) ≡ list_of d
lent_list d book (unfinished.Open queue) is next way = aside_list (record d { book = book }) (unfinished.Open queue) refl
lent_list d book (unfinished.Publish b words) is next way = aside_list (record d { book = book }) (unfinished.Publish b words) refl
lent_list d book (unfinished.Unlink e b link) is next way = absurd (lend_never e b link d.made next)
lent_list d book unfinished.Chain is next way = chain_list (record d { book = book }) d.made refl (none_made d.made next) way.1
lent_list d book (unfinished.Iso e t count) is next way = absurd (iso_lends e t count d.made next)
lent_list d book (unfinished.Unchain e) is next way = absurd (unchain_lends e d.made next)

lend_stands : (p : Parts) → IsNextOf p rows.Lend → IsListed p.driver → ListStands p.memory p.driver → ListStands (after_driver_row rows.Lend p).memory (after_driver_row rows.Lend p).driver
lend_stands p next listed old =
    let d : DriverContent = p.driver in
    let h : Holding = lend_taken (holding d.book p.memory) in
    let way : IsUnderWay d (Some next.command) = subst (IsUnderWay d) next.unfinished listed.way in
    same_list h.memory d (advance (record d { book = h.book }))
    (ap (λ (o : Option Command). list_of (advanced_by (record d { book = h.book }) o)) next.unfinished ∙ lent_list d h.book next.command next.unfinished next.next way)
    (it_stands_where_its_words_are_left d p.memory h.memory (λ w its. ap (λ (ws : List ℕ). word_at (record h.memory { words = ws }) (address_of d.periodic.list.list w)) (lent_words (holding d.book p.memory))) old)

-- ---- stores

head_aside : (d : DriverContent) → HasOwners d → IsListed d → IsAside d head_block
head_aside d has listed = aside_by d head_block Head has listed has.owned.each.head.owned (λ same. absurd (cc)) (λ w other same. other.head same)

ring_aside : (d : DriverContent) (e : ℕ) (x : Endpoint) → HasOwners d → IsListed d → slice_get d.endpoints e ≡ Some x → x.linked ≡ true → IsAside d x.queue
ring_aside d e x has listed here on =
    aside_by d x.queue (QueueHead e) has listed (queue_placed d e x has here (in_ring_alive d e x has.orderly here on)).owned (λ same. absurd (cc))
    (λ w other same. other.ring e x here (linked_alive d e x has.orderly here on).0 same)

oldest_aside : (d : DriverContent) (k : ℕ) → HasOwners d → IsListed d → IsAside d (oldest_of (drop k d.endpoints))
oldest_aside d k has listed =
    ⊎_elim (λ (head : oldest_of (drop k d.endpoints) ≡ head_block). subst (IsAside d) (sym head) (head_aside d has listed))
    (λ (l : LeadsTo (drop k d.endpoints) (oldest_of (drop k d.endpoints))).
    subst (IsAside d) l.queue (ring_aside d _ l.endpoint has listed (sym (get_drop d.endpoints k l.number) ∙ l.here) l.linked))
    (oldest_is (drop k d.endpoints))

element_aside : (d : DriverContent) (b t : ℕ) → (has : HasOwners d) → IsListed d → IsPlaced (slot_of d.book.slots) has.owner b (Element t) → IsAside d b
element_aside d b t has listed placed = aside_by d b (Element t) has listed placed.owned (λ same. absurd (cc)) (λ w other same. other.element t same)

command_aside : (p : Parts) (c : Command) (b at v : ℕ) → p.driver.command ≡ Some c → slice_get (events_of c) p.driver.made ≡ Some (rows.Store b at v) → IsSound p.memory p.driver → IsAside p.driver b
command_aside p (unfinished.Open queue) b at v is next sound = subst (IsAside p.driver) (sym (open_store queue p.driver.made b at v next).1.0.0) (head_aside p.driver sound.owners sound.listed)
command_aside p (unfinished.Publish c words) b at v is next sound =
    let u : IsPublishing (link_in p.memory) p.driver.endpoints p.driver.transfers c = stands_as (link_in p.memory) p.driver (unfinished.Publish c words) is sound.ring in
    subst (IsAside p.driver) (sym (publish_store c words p.driver.made b at v next)) (element_aside p.driver c u.number sound.owners sound.listed (block_of p.driver sound.owners (link_in p.memory) c u))
command_aside p (unfinished.Unlink e c link) b at v is next sound =
    let u : IsUnlinking (link_in p.memory) p.driver.endpoints e c link = stands_as (link_in p.memory) p.driver (unfinished.Unlink e c link) is sound.ring in
    subst (IsAside p.driver) (sym ((unlink_store e c link p.driver.made b at v next).1.0.0 ∙ u.from)) (oldest_aside p.driver (suc e) sound.owners sound.listed)
command_aside p unfinished.Chain b at v is next sound = absurd (chain_never p.driver.made b at v next)
command_aside p (unfinished.Iso e t count) b at v is next sound = absurd (iso_never e t count p.driver.made b at v next)
command_aside p (unfinished.Unchain e) b at v is next sound = absurd (unchain_never e p.driver.made b at v next)

store_stands : (p : Parts) (b at v : ℕ) (c : Command) → p.driver.command ≡ Some c → slice_get (events_of c) p.driver.made ≡ Some (rows.Store b at v) → links c ≡ false → IsSound p.memory p.driver → ListStands p.memory p.driver
    → ListStands (after_driver_row (rows.Store b at v) p).memory (after_driver_row (rows.Store b at v) p).driver
store_stands p b at v c is next off sound old =
    same_list (store p.driver.book p.memory b at v) p.driver (advance p.driver) (goes_on_list p.driver c is off)
    (it_stands_where_its_words_are_left p.driver p.memory (store p.driver.book p.memory b at v)
    (store_leaves p.driver p.memory b at v sound.stands sound.owners sound.listed (command_aside p c b at v is next sound)) old)

links_off : (d : DriverContent) (c : Command) → d.command ≡ Some c → not (links_now d.command) ≡ true → links c ≡ false
links_off d c is off = not_on (links c) (ap (λ (o : Option Command). not (links_now o)) (sym is) ∙ off)

due_store : (p : Parts) (b at v : ℕ) → IsDue p (rows.Store b at v) → not (links_now p.driver.command) ≡ true → IsSound p.memory p.driver → ListStands p.memory p.driver
    → ListStands (after_driver_row (rows.Store b at v) p).memory (after_driver_row (rows.Store b at v) p).driver
due_store p b at v (inl next) off sound old = store_stands p b at v next.command next.unfinished next.next (links_off p.driver next.command next.unfinished off) sound old
due_store p b at v (inr link) off sound old = absurd (false≢true (sym (links_off p.driver link.command link.unfinished off) ∙ link.links))

-- ---- frames of descriptors

framed_list : (d : DriverContent) (n : ℕ) (c : Command) → d.command ≡ Some c → slice_get (events_of c) d.made ≡ Some rows.Frames → list_of (framed_by d n (Some c)) ≡ list_of d
framed_list d n (unfinished.Open queue) is next = refl
framed_list d n (unfinished.Publish b words) is next = refl
framed_list d n (unfinished.Unlink e b link) is next = refl
framed_list d n unfinished.Chain is next = refl
framed_list d n (unfinished.Iso e t count) is next =
    let with : DriverContent = with_notes d n (take count (drop t d.transfers)) (framed_notes d n e t count (placement_at d e)) in
    let first : d.made ≡ 0 = frames_first e t count d.made next in
    ap (λ (o : Option Command). list_of (advanced_by with o)) is ∙ by with first
  where
    by : (x : DriverContent) → x.made ≡ 0 → list_of (advanced_by x (Some (unfinished.Iso e t count))) ≡ list_of x
    by x none = rw none refl
framed_list d n (unfinished.Unchain e) is next = refl

frames_stand : (p : Parts) → IsNextOf p rows.Frames → ListStands p.memory p.driver → ListStands (after_driver_row rows.Frames p).memory (after_driver_row rows.Frames p).driver
frames_stand p next old =
    same_list p.memory p.driver (framed_by p.driver p.registers.frame_index p.driver.command)
    (ap (λ (o : Option Command). list_of (framed_by p.driver p.registers.frame_index o)) next.unfinished ∙ framed_list p.driver p.registers.frame_index next.command next.unfinished next.next) old

-- ---- releases

told_list : (d : DriverContent) (m : Mem) (e : ℕ) (x : Endpoint) → list_of (cancel_told d m e x) ≡ list_of d
told_list d m e x = either_if (λ (f : DriverContent). list_of f ≡ list_of d) (is_told x) _ d (λ on. refl) (λ on. refl)

released : (p new : Parts) (g : Holding) → LeavesRest (holding p.driver.book p.memory) g → new.driver.book ≡ g.book → new.memory ≡ g.memory → list_of new.driver ≡ list_of p.driver → HasOwners new.driver → IsListed new.driver
    → ListStands p.memory p.driver → ListStands new.memory new.driver
released p new g rest book memory same has listed old =
    it_stands_where_its_words_are_left new.driver p.memory new.memory
    (rest_leaves new.driver p.memory new.memory
    (λ c at there. ap (λ (m : Mem). word_at m at) memory ∙ rest.words c at (subst (λ (k : Book). SlotHas (slot_of k.slots c) (at / 32)) book there))
    (λ b. subst (λ (k : Book). IsAt b (slot_of k.slots b)) (sym book) (rest.stands.placed b)) has listed)
    (same_list p.memory p.driver new.driver same old)

transfer_stands : (p : Parts) (t : ℕ) (o : Option Transfer) → Stands (holding p.driver.book p.memory) → IsShaped p.memory → HasOwners (after_transfer p t o (freed_by p.driver (holding p.driver.book p.memory) o)).driver
    → IsListed (after_transfer p t o (freed_by p.driver (holding p.driver.book p.memory) o)).driver → ListStands p.memory p.driver
    → ListStands (after_transfer p t o (freed_by p.driver (holding p.driver.book p.memory) o)).memory (after_transfer p t o (freed_by p.driver (holding p.driver.book p.memory) o)).driver
transfer_stands p t None stands shape has listed old = old
transfer_stands p t (Some x) stands shape has listed old =
    let h : Holding = holding p.driver.book p.memory in
    released p (after_transfer p t (Some x) (freed_by p.driver h (Some x))) (freed_by p.driver h (Some x)) (rest_qtds p.driver.notes h x.first x.qtds stands shape) refl refl refl has listed old

endpoint_stands : (p : Parts) (e : ℕ) (o : Option Endpoint) → Stands (holding p.driver.book p.memory) → IsShaped p.memory → HasOwners (after_endpoint p e o).driver → IsListed (after_endpoint p e o).driver → ListStands p.memory p.driver
    → ListStands (after_endpoint p e o).memory (after_endpoint p e o).driver
endpoint_stands p e None stands shape has listed old = old
endpoint_stands p e (Some x) stands shape has listed old =
    let h : Holding = holding p.driver.book p.memory in
    released p (after_endpoint p e (Some x)) (free_endpoint p.driver e x h) (rest_endpoint p.driver e x h stands shape) refl refl (told_list p.driver p.memory e x) has listed old

descriptor_stands : (p : Parts) (t : ℕ) (o : Option Transfer) → Stands (holding p.driver.book p.memory) → IsShaped p.memory → HasOwners (after_descriptor p t o).driver → IsListed (after_descriptor p t o).driver → ListStands p.memory p.driver
    → ListStands (after_descriptor p t o).memory (after_descriptor p t o).driver
descriptor_stands p t None stands shape has listed old = old
descriptor_stands p t (Some x) stands shape has listed old =
    let h : Holding = holding p.driver.book p.memory in
    released p (after_descriptor p t (Some x)) (free_descriptor p.driver.periodic.notes h x.first) (rest_descriptor p.driver.periodic.notes h x.first stands shape) refl refl refl has listed old

placed_stands : (p : Parts) (e : ℕ) (o : Option Endpoint) → Stands (holding p.driver.book p.memory) → IsShaped p.memory → HasOwners (after_placed p e o).driver → IsListed (after_placed p e o).driver → ListStands p.memory p.driver
    → ListStands (after_placed p e o).memory (after_placed p e o).driver
placed_stands p e None stands shape has listed old = old
placed_stands p e (Some x) stands shape has listed old =
    let h : Holding = holding p.driver.book p.memory in
    released p (after_placed p e (Some x)) (free_placed p.driver e x h) (rest_placed p.driver e x h stands shape) refl refl (told_list p.driver p.memory e x) has listed old

removed_stands : (p : Parts) (what : Removed) → Stands (holding p.driver.book p.memory) → IsShaped p.memory → HasOwners (after_removed p what).driver → IsListed (after_removed p what).driver → ListStands p.memory p.driver
    → ListStands (after_removed p what).memory (after_removed p what).driver
removed_stands p (removed.Descriptor t) stands shape has listed old = descriptor_stands p t (slice_get p.driver.transfers t) stands shape has listed old
removed_stands p (removed.Endpoint e) stands shape has listed old = placed_stands p e (slice_get p.driver.endpoints e) stands shape has listed old

-- ---- any of them

abbrev Stays : DriverRow → Parts → Type 0
Stays row p = ListStands (after_driver_row row p).memory (after_driver_row row p).driver

quiet : (row : DriverRow) (p : Parts) → driver_row p ≡ row → is_quiet row ≡ true → ListStands p.memory p.driver → Stays row p
quiet row p is on old = subst (λ (r : DriverRow). Stays r p) is (quiet_events_keep_it_standing p (ap is_quiet is ∙ on) old)

row_stands : (row : DriverRow) (p : Parts) → driver_row p ≡ row → IsDue p row → is_elsewhere p.driver.command row ≡ true → IsSound p.memory p.driver → HasOwners (after_driver_row row p).driver → IsListed (after_driver_row row p).driver
    → ListStands p.memory p.driver → Stays row p
row_stands rows.Lend p is due on sound has listed old = lend_stands p due sound.listed old
row_stands (rows.Store b at v) p is due on sound has listed old = due_store p b at v due on sound old
row_stands rows.Frames p is due on sound has listed old = frames_stand p due old
row_stands (rows.ReleaseRemoved what) p is due on sound has listed old = removed_stands p what sound.stands sound.shape has listed old
row_stands (rows.ReleaseTransfer t) p is due on sound has listed old = transfer_stands p t (slice_get p.driver.transfers t) sound.stands sound.shape has listed old
row_stands (rows.ReleaseEndpoint e) p is due on sound has listed old = endpoint_stands p e (slice_get p.driver.endpoints e) sound.stands sound.shape has listed old
row_stands (rows.Mend w) p is due on sound has listed old = absurd (false≢true on)
row_stands rows.LendDescriptors p is due on sound has listed old = absurd (false≢true on)
row_stands (rows.Unlink t) p is due on sound has listed old = absurd (false≢true on)
row_stands row p is due on sound has listed old = quiet row p is refl old

pub events_elsewhere_keep_it_standing : (p : Parts) → is_elsewhere p.driver.command (driver_row p) ≡ true → IsSound p.memory p.driver → ListStands p.memory p.driver → ListStands (after_driver_row (driver_row p) p).memory (after_driver_row (driver_row p) p).driver
events_elsewhere_keep_it_standing p on sound old = row_stands (driver_row p) p refl (each_event_is_due p) on sound (events_keep_owners p sound.owners) (events_keep_the_list p sound.owners sound.listed) old
