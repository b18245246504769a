-- What an event changes of the driver's content where it gives nothing back: nothing that tells runs.
use Rattle.std.proofs.Common.{◌≡◌, ℕ, zero, suc, ◌-◌, Bool, true, false, cond, nat_lt, List, [], ◌∷◌, ◌++◌, length, get_or, set, take, drop, reverse, slice_get, Option, Some, None, option_map, ap, sym, subst, ◌∙◌, refl}
use Rattle.std.specs.Prelude.{is_none}
use Rattle.std.proofs.lemmas.List.{length-set}
use Rattle.usb_base.specs.declared.endpoints.EpName.{EpName}
use Rattle.usb_base.specs.declared.endpoints.EndCause.{EndCause}
use Rattle.usb_base.specs.declared.reports.What.{What}
use Rattle.word_mem.specs.Memory.{Mem}
use Rattle.mem_runs.specs.Book.{Holding, holding, slot_of, slot_at, lend_slot, lend_runs, lend_taken, none_taken}
use Rattle.mem_runs.specs.declared.slots.Slot.{Slot}
use Rattle.mem_runs.specs.declared.slots.Slot.TheVariants.{Keeps, Lends}
use Rattle.drv_table.specs.declared.content.Endpoint.{Endpoint}
use Rattle.drv_table.specs.declared.content.Transfer.{Transfer}
use Rattle.drv_table.specs.declared.content.QtdNote.{QtdNote}
use Rattle.bandwidth.specs.declared.placements.Placement.{Placement}
use Rattle.drv_chains.specs.declared.members.Member.{Member}
use Rattle.drv_periodic_table.specs.declared.content.DescriptorNote.{DescriptorNote}
use Rattle.drv_periodic_table.specs.Periodic.{PeriodicContent, no_descriptor, note_at as descriptor_at}
use Rattle.drv_periodic_table.specs.Linking.{with_first, begun_next}
use Rattle.drv_periodic_table.specs.Frames.{first_frame, frames_from}
use Rattle.drv_table.specs.declared.content.Command.{Command}
use Rattle.drv_table.specs.declared.content.Command.TheVariants as unfinished
use Rattle.drv_table.specs.declared.rows.Found.{Found}
use Rattle.drv_table.specs.declared.rows.Found.TheVariants as founds
use Rattle.drv_table.specs.DriverContent.{DriverContent, no_note, waits_for, next_after}
use Rattle.drv_table.specs.Harvests.{note_at, noted, is_stall, end_of}
use Rattle.drv_table.specs.Parts.{Parts}
use Rattle.drv_table.specs.Commands.{events_of, links, removes_members, leave_ring, leave_frames, no_command, finished, list_after, or_finished, linked_on, advanced_by, advance}
use Rattle.drv_table.specs.FrameChoice.{with_frames, last_frame, framed_notes, with_notes, placement_at, framed_by}
use Rattle.drv_table.specs.Removals.{after_unlink}
use Rattle.drv_table.specs.Harvesting.{served, moved_on, told_with, goes_on, behind_one, behind, stalled, mends_of, after_end, descriptor_told, harvested_as, after_harvest}
use Rattle.claims_driver.specs.Owners.{Owner, IsRunFor, runs_of_endpoint, runs_of_transfer, runs_of_note, endpoint_in, transfer_in, note_in, descriptor_in, runs_of_descriptor, views_of, IsOwned}
use Rattle.law_driver.proofs.lemmas.run_owners.Runs.{AreSame, owned_stays}
use Rattle.law_driver.proofs.lemmas.run_owners.Freeing.{runs_lent}

-- ---- a list in which one thing is changed

pub same_view : {X Y : Type 0} (f : X → Y) (xs : List X) (e : ℕ) (x y : X) → slice_get xs e ≡ Some x → f y ≡ f x → (i : ℕ) → option_map f (slice_get (set xs e y) i) ≡ option_map f (slice_get xs i)
same_view f [] e x y here same i = absurd (cc)
same_view f (z ∷ xs) zero x y here same zero = let is : z ≡ x = cc in ap Some same ∙ ap (λ w. Some (f w)) (sym is)
same_view f (z ∷ xs) zero x y here same (suc i) = refl
same_view f (z ∷ xs) (suc e) x y here same zero = refl
same_view f (z ∷ xs) (suc e) x y here same (suc i) = same_view f xs e x y here same i

pub same_item : {X Y : Type 0} (f : X → Y) (xs : List X) (e : ℕ) (y d : X) → f y ≡ f (get_or xs e d) → (i : ℕ) → f (get_or (set xs e y) i d) ≡ f (get_or xs i d)
same_item f [] e y d same i = refl
same_item f (z ∷ xs) zero y d same zero = same
same_item f (z ∷ xs) zero y d same (suc i) = refl
same_item f (z ∷ xs) (suc e) y d same zero = refl
same_item f (z ∷ xs) (suc e) y d same (suc i) = same_item f xs e y d same i

-- ---- a content that tells the same runs

pub record StaysPlaced (d e : DriverContent) : Type 0 where
  pub same : AreSame (views_of d) (views_of e)
  pub many : length e.book.slots ≡ length d.book.slots
  pub as_many : length e.notes ≡ length d.notes
  pub descriptors : length e.periodic.notes ≡ length d.periodic.notes

pub stays_same : (d e : DriverContent) → e.book.slots ≡ d.book.slots → ((i : ℕ) → endpoint_in e.endpoints i ≡ endpoint_in d.endpoints i) → ((i : ℕ) → transfer_in e.transfers i ≡ transfer_in d.transfers i) → ((c : ℕ) → note_in e.notes c ≡ note_in d.notes c) → length e.notes ≡ length d.notes → e.periodic.notes ≡ d.periodic.notes → StaysPlaced d e
stays_same d e slots endpoints transfers notes many descriptors = record {
  same = record {
    runs = λ c o run. subst (λ (ss : List Slot). IsRunFor o (slot_of ss c)) (sym slots) run;
    endpoints = endpoints;
    transfers = transfers;
    notes = notes;
    buffers = λ c. ap (λ (ns : List DescriptorNote). descriptor_in ns c) descriptors;
  };
  many = ap length slots;
  as_many = many;
  descriptors = ap length descriptors;
}

pub stays_both : (d e f : DriverContent) → StaysPlaced d e → StaysPlaced e f → StaysPlaced d f
stays_both d e f one two = record {
  same = record {
    runs = λ c o run. two.same.runs c o (one.same.runs c o run);
    endpoints = λ i. two.same.endpoints i ∙ one.same.endpoints i;
    transfers = λ i. two.same.transfers i ∙ one.same.transfers i;
    notes = λ c. two.same.notes c ∙ one.same.notes c;
    buffers = λ c. two.same.buffers c ∙ one.same.buffers c;
  };
  many = two.many ∙ one.many;
  as_many = two.as_many ∙ one.as_many;
  descriptors = two.descriptors ∙ one.descriptors;
}

pub stays_owned : (d e : DriverContent) (owner : ℕ → Owner) → StaysPlaced d e → IsOwned d owner → IsOwned e owner
stays_owned d e owner stays old = record {
  each = owned_stays (views_of d) (views_of e) owner stays.same old.each;
  sizes = stays.as_many ∙ (old.sizes ∙ sym stays.many);
  as_many = stays.descriptors ∙ (old.as_many ∙ sym stays.many);
}

nothing : (d : DriverContent) → StaysPlaced d d
nothing d = stays_same d d refl (λ i. refl) (λ i. refl) (λ c. refl) refl refl

either : (d e f : DriverContent) (b : Bool) → StaysPlaced d e → StaysPlaced d f → StaysPlaced d (cond b e f)
either d e f true one two = one
either d e f false one two = two

-- an endpoint, and a transfer, of which other things are written
pub endpoint_stays : (d : DriverContent) (e : ℕ) (x y : Endpoint) → slice_get d.endpoints e ≡ Some x → runs_of_endpoint y ≡ runs_of_endpoint x → (i : ℕ) → endpoint_in (set d.endpoints e y) i ≡ endpoint_in d.endpoints i
endpoint_stays d e x y here same = same_view runs_of_endpoint d.endpoints e x y here same

-- ---- the command goes on

pub left : (d : DriverContent) (e : ℕ) (o : Option Endpoint) → slice_get d.endpoints e ≡ o → StaysPlaced d (leave_ring d e o)
left d e None here = nothing d
left d e (Some x) here =
    either d (record d { waiting = d.waiting ++ e ∷ []; endpoints = set d.endpoints e (record x { linked = false }) }) d x.linked
    (stays_same d _ refl (endpoint_stays d e x (record x { linked = false }) here refl) (λ i. refl) (λ c. refl) refl refl) (nothing d)

-- the endpoint left its frames
left_frames : (d : DriverContent) (e : ℕ) (o : Option Endpoint) → slice_get d.endpoints e ≡ o → StaysPlaced d (leave_frames d e o)
left_frames d e None here = nothing d
left_frames d e (Some x) here =
    either d _ d x.chained (stays_same d _ refl (endpoint_stays d e x (record x { chained = false }) here refl) (λ i. refl) (λ c. refl) refl refl) (nothing d)

none_now : (d : DriverContent) → StaysPlaced d (no_command d)
none_now d = stays_same d (no_command d) refl (λ i. refl) (λ i. refl) (λ c. refl) refl refl

pub done : (d : DriverContent) (c : Command) → StaysPlaced d (finished d c)
done d (unfinished.Unlink e b link) =
    stays_both d (no_command d) (leave_ring (no_command d) e (slice_get d.endpoints e)) (none_now d) (left (no_command d) e (slice_get d.endpoints e) refl)
done d (unfinished.Unchain e) =
    stays_both d (no_command d) (leave_frames (no_command d) e (slice_get d.endpoints e)) (none_now d) (left_frames (no_command d) e (slice_get d.endpoints e) refl)
done d _ = none_now d

-- the next member is begun
pub begun_notes : (removes : Bool) (q : PeriodicContent) → (begun_next removes q).notes ≡ q.notes
begun_notes removes q = at (is_none q.list.work) q.queued
  where
    at : (b : Bool) (ms : List Member) → (cond b (with_first removes q ms) q).notes ≡ q.notes
    at true [] = refl
    at true (m ∷ ms) = refl
    at false ms = refl

pub or_done : (d : DriverContent) (c : Command) → StaysPlaced d (or_finished d c)
or_done d c = either d (finished d c) d (is_none d.periodic.list.work) (done d c) (nothing d)

linked : (d : DriverContent) (c : Command) → StaysPlaced d (linked_on d c)
linked d c =
    let q = begun_next (removes_members c) (record d.periodic { list = list_after d c }) in
    let e = record d { made = length (events_of c); periodic = q } in
    stays_both d e (linked_on d c) (stays_same d e refl (λ i. refl) (λ i. refl) (λ c. refl) refl (begun_notes (removes_members c) (record d.periodic { list = list_after d c })))
    (or_done e c)

went_on : (d : DriverContent) (o : Option Command) → StaysPlaced d (advanced_by d o)
went_on d None = nothing d
went_on d (Some c) =
    either d (record d { made = suc d.made }) (cond (links c) (linked_on d c) (finished d c)) (nat_lt (suc d.made) (length (events_of c)))
    (stays_same d _ refl (λ i. refl) (λ i. refl) (λ c. refl) refl refl)
    (either d (linked_on d c) (finished d c) (links c) (linked d c) (done d c))

pub advanced : (d : DriverContent) → StaysPlaced d (advance d)
advanced d = went_on d d.command

-- ---- the frames of descriptors

framed_many : (p : Placement) (ts : List Transfer) (f : ℕ) (notes : List DescriptorNote) → length (with_frames p ts f notes) ≡ length notes
unfolding with_frames
framed_many p [] f notes = refl
framed_many p (t ∷ ts) f notes =
    let note = record (descriptor_at notes t.first) { frame = f } in
    framed_many p ts (frames_from p f 1) (set notes t.first note) ∙ length-set notes t.first note

framed_runs : (p : Placement) (ts : List Transfer) (f : ℕ) (notes : List DescriptorNote) (c : ℕ) → descriptor_in (with_frames p ts f notes) c ≡ descriptor_in notes c
unfolding with_frames
framed_runs p [] f notes c = refl
framed_runs p (t ∷ ts) f notes c =
    let note = record (descriptor_at notes t.first) { frame = f } in
    framed_runs p ts (frames_from p f 1) (set notes t.first note) c ∙ same_item runs_of_descriptor notes t.first note no_descriptor refl c

-- a content in which only frames of descriptors, and what is linked, differ
frames_stay : (d e : DriverContent) → e.book.slots ≡ d.book.slots → e.endpoints ≡ d.endpoints → e.transfers ≡ d.transfers → e.notes ≡ d.notes → ((c : ℕ) → descriptor_in e.periodic.notes c ≡ descriptor_in d.periodic.notes c) → length e.periodic.notes ≡ length d.periodic.notes → StaysPlaced d e
frames_stay d e slots endpoints transfers notes buffers many = record {
  same = record {
    runs = λ c o run. subst (λ (ss : List Slot). IsRunFor o (slot_of ss c)) (sym slots) run;
    endpoints = λ i. ap (λ (xs : List Endpoint). endpoint_in xs i) endpoints;
    transfers = λ i. ap (λ (ts : List Transfer). transfer_in ts i) transfers;
    notes = λ c. ap (λ (ns : List QtdNote). note_in ns c) notes;
    buffers = buffers;
  };
  many = ap length slots;
  as_many = ap length notes;
  descriptors = many;
}

noted_frames : (d : DriverContent) (n : ℕ) (ts : List Transfer) (f e t count : ℕ) (o : Option Placement) → StaysPlaced d (with_notes d n ts (framed_notes d f e t count o))
noted_frames d n ts f e t count None = frames_stay d _ refl refl refl refl (λ c. refl) refl
noted_frames d n ts f e t count (Some p) =
    let us = take count (drop t d.transfers) in
    let first = first_frame p f (last_frame d e t) in
    frames_stay d _ refl refl refl refl (framed_runs p us first d.periodic.notes) (framed_many p us first d.periodic.notes)

pub framed : (d : DriverContent) (n : ℕ) (o : Option Command) → StaysPlaced d (framed_by d n o)
framed d n (Some (unfinished.Iso e t count)) =
    let f = with_notes d n (take count (drop t d.transfers)) (framed_notes d n e t count (placement_at d e)) in
    stays_both d f (advance f) (noted_frames d n (take count (drop t d.transfers)) n e t count (placement_at d e)) (advanced f)
framed d n _ = nothing d

-- ---- lending

lent_many : (h : Holding) (b : ℕ) (s : Slot) → length (lend_slot h b s).book.slots ≡ length h.book.slots
lent_many h b (Keeps r) = length-set h.book.slots b (Lends r)
lent_many h b _ = refl

lends_many : (h : Holding) (bs : List ℕ) → length (lend_runs h bs).book.slots ≡ length h.book.slots
unfolding lend_runs
lends_many h [] = refl
lends_many h (b ∷ bs) = lends_many (lend_slot h b (slot_at h b)) bs ∙ lent_many h b (slot_at h b)

-- whatever stands in memory
pub lent : (e : DriverContent) (m : Mem) → StaysPlaced e (advance (record e { book = (lend_taken (holding e.book m)).book }))
lent e m =
    let h = holding e.book m in
    let d = record e { book = (lend_taken h).book } in
    stays_both e d (advance d)
    (record {
      same = record {
        runs = λ c o run. runs_lent h c o run;
        endpoints = λ i. refl;
        transfers = λ i. refl;
        notes = λ c. refl;
        buffers = λ c. refl;
      };
      many = lends_many (none_taken h) (reverse h.book.taken);
      as_many = refl;
      descriptors = refl;
    })
    (advanced d)

-- ---- a descriptor leaves its frame

pub unlinks : (p : Parts) (t : ℕ) (o : Option Transfer) → StaysPlaced p.driver (after_unlink p t o).driver
unlinks p t None = nothing p.driver
unlinks p t (Some x) = stays_same p.driver _ refl (λ i. refl) (λ i. refl) (λ c. refl) refl refl

-- ---- harvest

noted_stays : (notes : List QtdNote) (b moved c : ℕ) → note_in (noted notes b moved) c ≡ note_in notes c
noted_stays notes b moved c = same_item runs_of_note notes b (record (note_at notes b) { moved = moved }) no_note refl c

noted_many : (notes : List QtdNote) (b moved : ℕ) → length (noted notes b moved) ≡ length notes
noted_many notes b moved = length-set notes b (record (note_at notes b) { moved = moved })

moved_stays : (d : DriverContent) (t : ℕ) (y : Transfer) (moved : ℕ) → slice_get d.transfers t ≡ Some y → StaysPlaced d (moved_on d t y moved)
moved_stays d t y moved there =
    stays_same d (moved_on d t y moved) refl (λ i. refl) (same_view runs_of_transfer d.transfers t y (record y { place = (note_at d.notes y.place).next; left = y.left - 1 }) there refl)
    (noted_stays d.notes y.place moved) (noted_many d.notes y.place moved) refl

told_stays : (d : DriverContent) (m : Mem) (t : ℕ) (y : Transfer) (what : What) (name : EpName) (n : ℕ) → slice_get d.transfers t ≡ Some y → StaysPlaced d (told_with d m t y what name (noted d.notes y.place n))
told_stays d m t y what name n there =
    stays_same d (told_with d m t y what name (noted d.notes y.place n)) refl (λ i. refl) (same_view runs_of_transfer d.transfers t y (record y { reported = true }) there refl)
    (noted_stays d.notes y.place n) (noted_many d.notes y.place n) refl

goes_on_stays : (d : DriverContent) (e t : ℕ) (x : Endpoint) → slice_get d.endpoints e ≡ Some x → StaysPlaced d (goes_on d e t x)
goes_on_stays d e t x here =
    stays_same d (goes_on d e t x) refl (endpoint_stays d e x (record x { next = next_after d.transfers e t }) here refl) (λ i. refl) (λ c. refl) refl refl

one_stays : (d : DriverContent) (e : ℕ) (name : EpName) (k : ℕ) (o : Option Transfer) → slice_get d.transfers k ≡ o → StaysPlaced d (behind_one d e name k o)
one_stays d e name k None there = nothing d
one_stays d e name k (Some y) there =
    either d _ d (waits_for e y)
    (stays_same d _ refl (λ i. refl) (same_view runs_of_transfer d.transfers k y (record y { reported = true }) there refl) (λ c. refl) refl refl) (nothing d)

behind_stays : (d : DriverContent) (e : ℕ) (name : EpName) (k n : ℕ) → StaysPlaced d (behind d e name k n)
unfolding behind
behind_stays d e name k zero = nothing d
behind_stays d e name k (suc n) =
    stays_both d (behind_one d e name k (slice_get d.transfers k)) (behind (behind_one d e name k (slice_get d.transfers k)) e name (suc k) n)
    (one_stays d e name k (slice_get d.transfers k) refl) (behind_stays (behind_one d e name k (slice_get d.transfers k)) e name (suc k) n)

stalled_stays : (d : DriverContent) (e t : ℕ) (x : Endpoint) → slice_get d.endpoints e ≡ Some x → StaysPlaced d (stalled d e t x)
stalled_stays d e t x here =
    let now = record d { harvested = d.harvested ++ t ∷ []; endpoints = set d.endpoints e (record x { next = None }); mends = d.mends ++ mends_of x } in
    stays_both d now (stalled d e t x) (stays_same d now refl (endpoint_stays d e x (record x { next = None }) here refl) (λ i. refl) (λ c. refl) refl refl)
    (behind_stays now e x.desc.name (suc t) (length d.transfers - suc t))

end_stays : (d : DriverContent) (e t : ℕ) (x : Endpoint) (stall : Bool) (o : Option EndCause) → slice_get d.endpoints e ≡ Some x → StaysPlaced d (after_end d e t x stall o)
end_stays d e t x stall (Some cause) here = stays_same d _ refl (endpoint_stays d e x (record x { ended = Some cause }) here refl) (λ i. refl) (λ c. refl) refl refl
end_stays d e t x stall None here = either d (stalled d e t x) (goes_on d e t x) stall (stalled_stays d e t x here) (goes_on_stays d e t x here)

served_stays : (d : DriverContent) (m : Mem) (e t : ℕ) (x : Endpoint) (y : Transfer) (errors : ℕ) → slice_get d.endpoints e ≡ Some x → slice_get d.transfers t ≡ Some y → StaysPlaced d (descriptor_told d m e t x y errors)
served_stays d m e t x y errors here there =
    stays_same d _ refl (endpoint_stays d e x (record x { next = next_after d.transfers e t }) here refl)
    (same_view runs_of_transfer d.transfers t y (record y { reported = true }) there refl) (λ c. refl) refl refl

read_stays : (d : DriverContent) (m : Mem) (e t : ℕ) (x : Endpoint) (y : Transfer) (found : Found) → slice_get d.endpoints e ≡ Some x → slice_get d.transfers t ≡ Some y → StaysPlaced d (harvested_as d m e t x y found)
read_stays d m e t x y founds.Active here there = nothing d
read_stays d m e t x y (founds.Moved n) here there = moved_stays d t y n there
read_stays d m e t x y (founds.Served errors) here there = served_stays d m e t x y errors here there
read_stays d m e t x y (founds.Ended n what) here there =
    let told = told_with d m t y what x.desc.name (noted d.notes y.place n) in
    stays_both d told (after_end told e t x (is_stall what) (end_of x.desc.kind what)) (told_stays d m t y what x.desc.name n there) (end_stays told e t x (is_stall what) (end_of x.desc.kind what) here)

pub harvest_stays : (d : DriverContent) (m : Mem) (e t : ℕ) (found : Found) (o : Option Endpoint) (q : Option Transfer) → slice_get d.endpoints e ≡ o → slice_get d.transfers t ≡ q → StaysPlaced d (after_harvest d m e t found o q)
harvest_stays d m e t found None q here there = nothing d
harvest_stays d m e t found (Some x) None here there = nothing d
harvest_stays d m e t found (Some x) (Some y) here there =
    let read = harvested_as d m e t x y found in
    either d (served read e) d (waits_for e y)
    (stays_both d read (served read e) (read_stays d m e t x y found here there) (stays_same read (served read e) refl (λ i. refl) (λ i. refl) (λ c. refl) refl refl)) (nothing d)
