-- The descriptions of endpoints, and their numbers: no event writes them, and a command only those of a new endpoint.
use Rattle.std.proofs.Common.{◌≡◌, ℕ, suc, ◌+◌, ◌/◌, ◌%◌, ◌^◌, ◌≤◌, ◌==◌, Bool, true, false, not, ◌||◌, cond, nat_lt, List, [], ◌∷◌, ◌++◌, length, take, drop, set, slice_get, Option, Some, None, Result, Ok, Err, unwrap_or, option_map, ap, sym, subst, ◌∙◌, ⊎_elim, refl, arith}
use Rattle.std.specs.Prelude.{is_none, is_some, option_and_then, count_by}
use Rattle.std.proofs.lemmas.Option.{same_Some}
use Rattle.law_driver.proofs.Common.{ok_is}
use Rattle.law_driver_ring.proofs.Common.{speed_small}
use Rattle.law_common.proofs.Lists.{push_which}
use Rattle.usb_base.specs.declared.endpoints.EpDesc.{EpDesc}
use Rattle.usb_base.specs.declared.endpoints.EndCause.{EndCause}
use Rattle.usb_base.specs.declared.endpoints.EndCause.TheVariants as causes
use Rattle.usb_base.specs.declared.packets.EpKind.{EpKind}
use Rattle.usb_base.specs.declared.packets.EpKind.TheVariants as kinds
use Rattle.usb_base.specs.declared.commands.Cmd.{Cmd}
use Rattle.usb_base.specs.declared.commands.Cmd.TheVariants as commands
use Rattle.usb_base.specs.declared.reports.OfferError.{OfferError}
use Rattle.usb_base.specs.declared.reports.OfferError.TheVariants as errors
use Rattle.word_mem.specs.Memory.{Mem}
use Rattle.link_words.specs.Layout.{flag, is_set}
use Rattle.qh_qtd.specs.QueueHead.{qh_words}
use Rattle.mem_runs.specs.Book.{Holding, holding, lend_taken}
use Rattle.bandwidth.specs.declared.placements.Placement.{Placement}
use Rattle.bandwidth.specs.declared.placements.Refused.{Refused}
use Rattle.bandwidth.specs.Admission.{answer}
use Rattle.drv_periodic_table.specs.declared.content.Removed.{Removed}
use Rattle.drv_periodic_table.specs.declared.content.Removed.TheVariants as removed
use Rattle.drv_periodic_table.specs.Periodic.{is_periodic, want_of}
use Rattle.drv_periodic_table.specs.Linking.{begun_next}
use Rattle.drv_table.specs.declared.content.Endpoint.{Endpoint}
use Rattle.drv_table.specs.declared.content.Transfer.{Transfer}
use Rattle.drv_table.specs.declared.content.Slots.{Slots}
use Rattle.drv_table.specs.declared.content.Sort.TheVariants as sorts
use Rattle.drv_table.specs.declared.content.Command.{Command}
use Rattle.drv_table.specs.declared.content.Command.TheVariants as unfinished
use Rattle.drv_table.specs.declared.rows.DriverRow.{DriverRow}
use Rattle.drv_table.specs.declared.rows.DriverRow.TheVariants as rows
use Rattle.drv_table.specs.DriverContent.{DriverContent, waits_for, endpoint_of, endpoint_named}
use Rattle.drv_table.specs.Words.{is_control, get_stages, put_stages, request_length, request_stages, needs}
use Rattle.drv_table.specs.Accepting.{Offered, take_runs}
use Rattle.drv_table.specs.Offers.{Asked, taken_open, taken_chain, placed_open, planned_open, offered_open, taken_transfer, open_transfer, found_transfer, takes_get, takes_put, takes_control, offered_next, offered}
use Rattle.drv_table.specs.IsoOffers.{slots_of, iso_needs, taken_iso, spans_too_long, has_slots, open_iso, offered_iso}
use Rattle.drv_table.specs.CancelOffers.{endpoint_members, cancelled_by, with_cancel, offered_cancel}
use Rattle.drv_table.specs.Parts.{Parts}
use Rattle.drv_table.specs.Kinds.{is_iso}
use Rattle.drv_table.specs.Commands.{events_of, links, removes_members, leave_ring, leave_frames, no_command, finished, list_after, or_finished, linked_on, advanced_by}
use Rattle.drv_table.specs.FrameChoice.{framed_notes, with_notes, placement_at, framed_by, linked_by}
use Rattle.drv_table.specs.Rows.{driver_row, after_driver_row}
use Rattle.drv_table.specs.Releases.{after_transfer, after_endpoint, freed_by, cancel_told}
use Rattle.drv_table.specs.Removals.{after_descriptor, after_placed, after_removed, after_unlink}
use Rattle.law_driver.proofs.lemmas.run_owners.Stays.{same_view}
use Rattle.law_driver.proofs.lemmas.run_owners.Released.{cancel_same}
use Rattle.law_driver.proofs.lemmas.ring_members.Links.{RingOf, ring_of, SameRing}
use Rattle.law_driver.proofs.lemmas.ring_members.Harvests.{told_stays, harvest_stays}
use Rattle.claims_driver.specs.InPlace.{characteristics}
use Rattle.law_driver_ring.specs.walk_members.Reached.{AreNoHeads, OpensNumbered}
use Rattle.claims_driver.specs.Walk.{IsNumbered, AreNumbered}

-- ---- bit H

flag_most : (b : Bool) → flag b ≤ 1
flag_most true = omega arith
flag_most false = omega arith

bit_zero : (x : EpDesc) → IsNumbered x → characteristics x / 2 ^ 15 % 2 ≡ 0
unfolding qh_words
bit_zero x fits = omega (arith, fits.0, fits.1, flag_most (is_control x.kind), speed_small x.speed)

pub a_numbered_endpoint_is_no_head : (x : EpDesc) → IsNumbered x → is_set 15 (characteristics x) ≡ false
a_numbered_endpoint_is_no_head x fits = ap (λ n. n == 1) (bit_zero x fits)

pub numbered_endpoints_are_no_heads : (d : DriverContent) → AreNumbered d → AreNoHeads d
numbered_endpoints_are_no_heads d all e x here = a_numbered_endpoint_is_no_head x.desc (all e x here)

-- ---- descriptions stay

abbrev pub desc_of : Endpoint → EpDesc
desc_of x = x.desc

abbrev pub SameDescs : List Endpoint → List Endpoint → Type 0
SameDescs xs ys = (i : ℕ) → option_map desc_of (slice_get ys i) ≡ option_map desc_of (slice_get xs i)

both : (xs ys zs : List Endpoint) → SameDescs xs ys → SameDescs ys zs → SameDescs xs zs
both xs ys zs one two = λ i. two i ∙ one i

either : (xs : List Endpoint) (d e : DriverContent) (b : Bool) → SameDescs xs d.endpoints → SameDescs xs e.endpoints → SameDescs xs (cond b d e).endpoints
either xs d e true one two = one
either xs d e false one two = two

desc_set : (xs : List Endpoint) (e : ℕ) (x y : Endpoint) → slice_get xs e ≡ Some x → y.desc ≡ x.desc → SameDescs xs (set xs e y)
desc_set xs e x y here same = same_view desc_of xs e x y here same

ring_desc : (o : Option Endpoint) → option_map (λ (r : RingOf). r.desc) (option_map ring_of o) ≡ option_map desc_of o
ring_desc None = refl
ring_desc (Some x) = refl

by_ring : (xs ys : List Endpoint) → SameRing xs ys → SameDescs xs ys
by_ring xs ys same = λ i. sym (ring_desc (slice_get ys i)) ∙ ap (option_map (λ (r : RingOf). r.desc)) (same i) ∙ ring_desc (slice_get xs i)

-- where they stay, so do the numbers
numbered_at : (xs ys : List Endpoint) (e : ℕ) (x : Endpoint) (o : Option Endpoint) → slice_get xs e ≡ o → Some x.desc ≡ option_map desc_of o → ((i : ℕ) (z : Endpoint) → slice_get xs i ≡ Some z → IsNumbered z.desc) → IsNumbered x.desc
numbered_at xs ys e x None here is all = absurd (cc)
numbered_at xs ys e x (Some z) here is all = subst IsNumbered (sym (same_Some x.desc z.desc is)) (all e z here)

numbered_by : (d f : DriverContent) → SameDescs d.endpoints f.endpoints → AreNumbered d → AreNumbered f
numbered_by d f same all e x here = numbered_at d.endpoints f.endpoints e x (slice_get d.endpoints e) refl (sym (ap (option_map desc_of) here) ∙ same e) all

-- ---- a command's event

ring_left : (d : DriverContent) (e : ℕ) (o : Option Endpoint) → slice_get d.endpoints e ≡ o → SameDescs d.endpoints (leave_ring d e o).endpoints
ring_left d e None here = λ i. refl
ring_left d e (Some x) here = either d.endpoints _ d x.linked (desc_set d.endpoints e x (record x { linked = false }) here refl) (λ i. refl)

frames_left : (d : DriverContent) (e : ℕ) (o : Option Endpoint) → slice_get d.endpoints e ≡ o → SameDescs d.endpoints (leave_frames d e o).endpoints
frames_left d e None here = λ i. refl
frames_left d e (Some x) here = either d.endpoints _ d x.chained (desc_set d.endpoints e x (record x { chained = false }) here refl) (λ i. refl)

done : (d : DriverContent) (c : Command) → SameDescs d.endpoints (finished d c).endpoints
done d (unfinished.Unlink e b link) = ring_left (no_command d) e (slice_get d.endpoints e) refl
done d (unfinished.Unchain e) = frames_left (no_command d) e (slice_get d.endpoints e) refl
done d _ = λ i. refl

or_done : (d : DriverContent) (c : Command) → SameDescs d.endpoints (or_finished d c).endpoints
or_done d c = either d.endpoints (finished d c) d (is_none d.periodic.list.work) (done d c) (λ i. refl)

went_on : (d : DriverContent) (o : Option Command) → SameDescs d.endpoints (advanced_by d o).endpoints
went_on d None = λ i. refl
went_on d (Some c) =
    either d.endpoints (record d { made = suc d.made }) (cond (links c) (linked_on d c) (finished d c)) (nat_lt (suc d.made) (length (events_of c))) (λ i. refl)
    (either d.endpoints (linked_on d c) (finished d c) (links c)
    (or_done (record d { made = length (events_of c); periodic = begun_next (removes_members c) (record d.periodic { list = list_after d c }) }) c) (done d c))

framed : (d : DriverContent) (n : ℕ) (o : Option Command) → SameDescs d.endpoints (framed_by d n o).endpoints
framed d n (Some (unfinished.Iso e t count)) =
    let f = with_notes d n (take count (drop t d.transfers)) (framed_notes d n e t count (placement_at d e)) in
    went_on f f.command
framed d n _ = λ i. refl

-- ---- each row

transfer_left : (p : Parts) (t : ℕ) (o : Option Transfer) → SameDescs p.driver.endpoints (after_transfer p t o (freed_by p.driver (holding p.driver.book p.memory) o)).driver.endpoints
transfer_left p t None = λ i. refl
transfer_left p t (Some x) = λ i. refl

gone_descs : (d : DriverContent) (m : Mem) (e : ℕ) (x : Endpoint) → slice_get d.endpoints e ≡ Some x → SameDescs d.endpoints (set (cancel_told d m e x).endpoints e (record x { gone = true }))
gone_descs d m e x here =
    let told = cancel_told d m e x in
    let s = told_stays d m e x in
    let there : slice_get told.endpoints e ≡ Some x = ap (λ (xs : List Endpoint). slice_get xs e) (cancel_same d m e x).endpoints ∙ here in
    both d.endpoints told.endpoints (set told.endpoints e (record x { gone = true })) (by_ring d.endpoints told.endpoints s.endpoints) (desc_set told.endpoints e x (record x { gone = true }) there refl)

endpoint_left : (p : Parts) (e : ℕ) (o : Option Endpoint) → slice_get p.driver.endpoints e ≡ o → SameDescs p.driver.endpoints (after_endpoint p e o).driver.endpoints
endpoint_left p e None here = λ i. refl
endpoint_left p e (Some x) here = gone_descs p.driver p.memory e x here

descriptor_left : (p : Parts) (t : ℕ) (o : Option Transfer) → SameDescs p.driver.endpoints (after_descriptor p t o).driver.endpoints
descriptor_left p t None = λ i. refl
descriptor_left p t (Some x) = λ i. refl

placed_left : (p : Parts) (e : ℕ) (o : Option Endpoint) → slice_get p.driver.endpoints e ≡ o → SameDescs p.driver.endpoints (after_placed p e o).driver.endpoints
placed_left p e None here = λ i. refl
placed_left p e (Some x) here = gone_descs p.driver p.memory e x here

removed_left : (p : Parts) (what : Removed) → SameDescs p.driver.endpoints (after_removed p what).driver.endpoints
removed_left p (removed.Descriptor t) = descriptor_left p t (slice_get p.driver.transfers t)
removed_left p (removed.Endpoint e) = placed_left p e (slice_get p.driver.endpoints e) refl

unlinked_left : (p : Parts) (t : ℕ) (o : Option Transfer) → SameDescs p.driver.endpoints (after_unlink p t o).driver.endpoints
unlinked_left p t None = λ i. refl
unlinked_left p t (Some x) = λ i. refl

pub row_left : (row : DriverRow) (p : Parts) → SameDescs p.driver.endpoints (after_driver_row row p).driver.endpoints
row_left rows.Lend p = went_on (record p.driver { book = (lend_taken (holding p.driver.book p.memory)).book }) p.driver.command
row_left (rows.Store b at v) p = went_on p.driver p.driver.command
row_left rows.Frames p = framed p.driver p.registers.frame_index p.driver.command
row_left rows.LendDescriptors p = went_on (record p.driver { book = (lend_taken (holding p.driver.book (linked_by p.driver p.memory p.driver.command))).book }) p.driver.command
row_left (rows.Unlink t) p = unlinked_left p t (slice_get p.driver.transfers t)
row_left (rows.ReleaseRemoved what) p = removed_left p what
row_left (rows.ReleaseTransfer t) p = transfer_left p t (slice_get p.driver.transfers t)
row_left (rows.ReleaseEndpoint e) p = endpoint_left p e (slice_get p.driver.endpoints e) refl
row_left (rows.Harvest e t found) p =
    let s = harvest_stays p.driver p.memory e t found (slice_get p.driver.endpoints e) (slice_get p.driver.transfers t) refl in
    by_ring p.driver.endpoints (after_driver_row (rows.Harvest e t found) p).driver.endpoints s.endpoints
row_left _ p = λ i. refl

pub events_keep_the_numbers : (p : Parts) → AreNumbered p.driver → AreNumbered (after_driver_row (driver_row p) p).driver
events_keep_the_numbers p all = numbered_by p.driver (after_driver_row (driver_row p) p).driver (row_left (driver_row p) p) all

-- ---- commands

accepted_same : (d : DriverContent) (o p : Offered) → SameDescs d.endpoints p.driver.endpoints → ◌≡◌ {A = Result Offered OfferError} (Ok p) (Ok o) → SameDescs d.endpoints o.driver.endpoints
accepted_same d o p same is = subst (λ (f : Offered). SameDescs d.endpoints f.driver.endpoints) (sym (ok_is p o is)) same

-- a transfer
taken_same : (d : DriverContent) (e : ℕ) (x : Endpoint) (a : Asked) (o : Offered) (r : Result Holding OfferError) → slice_get d.endpoints e ≡ Some x → taken_transfer d e x a r ≡ Ok o → SameDescs d.endpoints o.driver.endpoints
taken_same d e x a o (Err why) here f = absurd (cc)
taken_same d e x a o (Ok h) here f = accepted_same d o _ (desc_set d.endpoints e x _ here refl) f

open_same : (d : DriverContent) (m : Mem) (e : ℕ) (x : Endpoint) (a : Asked) (o : Offered) (c : Option EndCause) → slice_get d.endpoints e ≡ Some x → open_transfer d m e x a c ≡ Ok o → SameDescs d.endpoints o.driver.endpoints
open_same d m e x a o (Some cause) here f = absurd (cc)
open_same d m e x a o None here f = at (nat_lt 20480 a.most) f
  where
    at : (b : Bool) → cond b (Err errors.TooLong) (taken_transfer d e x a (take_runs (holding d.book m) (needs a.stages))) ≡ Ok o → SameDescs d.endpoints o.driver.endpoints
    at true g = absurd (cc)
    at false g = taken_same d e x a o (take_runs (holding d.book m) (needs a.stages)) here g

found_same : (d : DriverContent) (m : Mem) (takes : Endpoint → Bool) (a : Asked) (e : ℕ) (o : Offered) (q : Option Endpoint) → slice_get d.endpoints e ≡ q → found_transfer d m takes a e q ≡ Ok o → SameDescs d.endpoints o.driver.endpoints
found_same d m takes a e o None here f = absurd (cc)
found_same d m takes a e o (Some x) here f = at (takes x) f
  where
    at : (b : Bool) → cond b (open_transfer d m e x a x.ended) (Err errors.NoEndpoint) ≡ Ok o → SameDescs d.endpoints o.driver.endpoints
    at true g = open_same d m e x a o x.ended here g
    at false g = absurd (cc)

named_same : (d : DriverContent) (m : Mem) (takes : Endpoint → Bool) (a : Asked) (o : Offered) (q : Option ℕ) → found_transfer d m takes a (unwrap_or q 0) (option_and_then (λ e. slice_get d.endpoints e) q) ≡ Ok o → SameDescs d.endpoints o.driver.endpoints
named_same d m takes a o None f = absurd (cc)
named_same d m takes a o (Some e) f = found_same d m takes a e o (slice_get d.endpoints e) refl f

-- descriptors
iso_taken : (d : DriverContent) (e : ℕ) (x : Endpoint) (s : Slots) (n seed : ℕ) (o : Offered) (r : Result Holding OfferError) → slice_get d.endpoints e ≡ Some x → taken_iso d e x s n seed r ≡ Ok o → SameDescs d.endpoints o.driver.endpoints
iso_taken d e x s n seed o (Err why) here f = absurd (cc)
iso_taken d e x s n seed o (Ok h) here f = accepted_same d o _ (desc_set d.endpoints e x _ here refl) f

iso_opened : (d : DriverContent) (m : Mem) (e : ℕ) (x : Endpoint) (s : Slots) (n seed : ℕ) (o : Offered) (c : Option EndCause) → slice_get d.endpoints e ≡ Some x → open_iso d m e x s n seed c ≡ Ok o → SameDescs d.endpoints o.driver.endpoints
iso_opened d m e x s n seed o (Some cause) here f = absurd (cc)
iso_opened d m e x s n seed o None here f = at (spans_too_long x (n + count_by (waits_for e) d.transfers) || not (has_slots x s)) f
  where
    at : (b : Bool) → cond b (Err errors.TooLong) (taken_iso d e x s n seed (take_runs (holding d.book m) (iso_needs s n))) ≡ Ok o → SameDescs d.endpoints o.driver.endpoints
    at true g = absurd (cc)
    at false g = iso_taken d e x s n seed o (take_runs (holding d.book m) (iso_needs s n)) here g

iso_found : (d : DriverContent) (m : Mem) (e n len seed : ℕ) (o : Offered) (q : Option Endpoint) → slice_get d.endpoints e ≡ q → offered_iso d m e n len seed q ≡ Ok o → SameDescs d.endpoints o.driver.endpoints
iso_found d m e n len seed o None here f = absurd (cc)
iso_found d m e n len seed o (Some x) here f = at (is_iso x.desc.kind) f
  where
    at : (b : Bool) → cond b (open_iso d m e x (slots_of x len) n seed x.ended) (Err errors.NoEndpoint) ≡ Ok o → SameDescs d.endpoints o.driver.endpoints
    at true g = iso_opened d m e x (slots_of x len) n seed o x.ended here g
    at false g = absurd (cc)

iso_named : (d : DriverContent) (m : Mem) (n len seed : ℕ) (o : Offered) (q : Option ℕ) → offered_iso d m (unwrap_or q 0) n len seed (option_and_then (λ e. slice_get d.endpoints e) q) ≡ Ok o → SameDescs d.endpoints o.driver.endpoints
iso_named d m n len seed o None f = absurd (cc)
iso_named d m n len seed o (Some e) f = iso_found d m e n len seed o (slice_get d.endpoints e) refl f

-- a cancel
cancelled_same : (d : DriverContent) (e : ℕ) (x : Endpoint) (p : Option Placement) → slice_get d.endpoints e ≡ Some x → SameDescs d.endpoints (cancelled_by d e x p).endpoints
cancelled_same d e x None here = desc_set d.endpoints e x _ here refl
cancelled_same d e x (Some p) here =
    let f = with_cancel d e x (endpoint_members d e x p) in
    both d.endpoints f.endpoints (or_finished f (unfinished.Unchain e)).endpoints (desc_set d.endpoints e x _ here refl) (or_done f (unfinished.Unchain e))

cancel_found : (d : DriverContent) (m : Mem) (e : ℕ) (o : Offered) (q : Option Endpoint) → slice_get d.endpoints e ≡ q → offered_cancel d m e q ≡ Ok o → SameDescs d.endpoints o.driver.endpoints
cancel_found d m e o None here f = absurd (cc)
cancel_found d m e o (Some x) here f = at x.cancelled f
  where
    at : (b : Bool) → cond b (Err (errors.Closed causes.Cancel)) (Ok (record { driver = cancelled_by d e x x.placement; memory = m })) ≡ Ok o → SameDescs d.endpoints o.driver.endpoints
    at true g = absurd (cc)
    at false g = accepted_same d o (record { driver = cancelled_by d e x x.placement; memory = m }) (cancelled_same d e x x.placement here) g

cancel_named : (d : DriverContent) (m : Mem) (o : Offered) (q : Option ℕ) → offered_cancel d m (unwrap_or q 0) (option_and_then (λ e. slice_get d.endpoints e) q) ≡ Ok o → SameDescs d.endpoints o.driver.endpoints
cancel_named d m o None f = absurd (cc)
cancel_named d m o (Some e) f = cancel_found d m e o (slice_get d.endpoints e) refl f

-- an open
pushed_numbers : (d : DriverContent) (o p : Offered) (y : Endpoint) → p.driver.endpoints ≡ d.endpoints ++ y ∷ [] → IsNumbered y.desc → AreNumbered d → ◌≡◌ {A = Result Offered OfferError} (Ok p) (Ok o) → AreNumbered o.driver
pushed_numbers d o p y is fits all f =
    subst (λ (g : Offered). AreNumbered g.driver) (sym (ok_is p o f))
    (λ e x here.
    ⊎_elim (λ (w : slice_get d.endpoints e ≡ Some x). all e x w) (λ (w : (e ≡ length d.endpoints) × (x ≡ y)). subst (λ (z : Endpoint). IsNumbered z.desc) (sym w.1) fits)
    (push_which d.endpoints y e x (sym (ap (λ (xs : List Endpoint). slice_get xs e) is) ∙ here)))

open_taken : (d : DriverContent) (x : EpDesc) (o : Offered) (r : Result Holding OfferError) → IsNumbered x → AreNumbered d → taken_open d x r ≡ Ok o → AreNumbered o.driver
open_taken d x o (Err why) fits all f = absurd (cc)
open_taken d x o (Ok h) fits all f = pushed_numbers d o _ _ refl fits all f

chain_taken : (d : DriverContent) (x : EpDesc) (p : Placement) (o : Offered) (r : Result Holding OfferError) → IsNumbered x → AreNumbered d → taken_chain d x p r ≡ Ok o → AreNumbered o.driver
chain_taken d x p o (Err why) fits all f = absurd (cc)
chain_taken d x p o (Ok h) fits all f = pushed_numbers d o _ _ refl fits all f

placed_numbers : (d : DriverContent) (m : Mem) (x : EpDesc) (p : Placement) (o : Offered) (k : EpKind) → IsNumbered x → AreNumbered d → placed_open d m x p k ≡ Ok o → AreNumbered o.driver
placed_numbers d m x p o kinds.Iso fits all f = pushed_numbers d o _ _ refl fits all f
placed_numbers d m x p o _ fits all f = chain_taken d x p o (take_runs (holding d.book m) (2 ∷ 1 ∷ [])) fits all f

planned_numbers : (d : DriverContent) (m : Mem) (x : EpDesc) (o : Offered) (r : Result Placement Refused) → IsNumbered x → AreNumbered d → planned_open d m x r ≡ Ok o → AreNumbered o.driver
planned_numbers d m x o (Err why) fits all f = absurd (cc)
planned_numbers d m x o (Ok p) fits all f = placed_numbers d m x p o x.kind fits all f

new_numbers : (d : DriverContent) (m : Mem) (x : EpDesc) (o : Offered) (b : Bool) → IsNumbered x → AreNumbered d → cond b (planned_open d m x (answer d.periodic.plan (want_of (length d.endpoints) x))) (taken_open d x (take_runs (holding d.book m) (2 ∷ 1 ∷ []))) ≡ Ok o → AreNumbered o.driver
new_numbers d m x o true fits all f = planned_numbers d m x o (answer d.periodic.plan (want_of (length d.endpoints) x)) fits all f
new_numbers d m x o false fits all f = open_taken d x o (take_runs (holding d.book m) (2 ∷ 1 ∷ [])) fits all f

again_numbers : (d : DriverContent) (m : Mem) (x : EpDesc) (o : Offered) (old : Endpoint) (c : Option EndCause) → old.ended ≡ c → offered_open d m x (Some old) ≡ Ok o → AreNumbered o.driver
again_numbers d m x o old (Some cause) is f =
    let e : offered_open d m x (Some old) ≡ Err (errors.Closed cause) = ap (λ (k : Option EndCause). again k) is in absurd (cc)
  where
    again : Option EndCause → Result Offered OfferError
    again k = elim k [ Some cause ↦ Err (errors.Closed cause) | None ↦ Err errors.AlreadyOpen ]
again_numbers d m x o old None is f =
    let e : offered_open d m x (Some old) ≡ Err errors.AlreadyOpen = ap (λ (k : Option EndCause). again k) is in absurd (cc)
  where
    again : Option EndCause → Result Offered OfferError
    again k = elim k [ Some cause ↦ Err (errors.Closed cause) | None ↦ Err errors.AlreadyOpen ]

open_numbers : (d : DriverContent) (m : Mem) (x : EpDesc) (o : Offered) (q : Option Endpoint) → IsNumbered x → AreNumbered d → offered_open d m x q ≡ Ok o → AreNumbered o.driver
open_numbers d m x o (Some old) fits all f = again_numbers d m x o old old.ended refl f
open_numbers d m x o None fits all f = new_numbers d m x o (is_periodic x.kind) fits all f

next_numbers : (d : DriverContent) (m : Mem) (cmd : Cmd) (o : Offered) → OpensNumbered cmd → AreNumbered d → offered_next d m cmd ≡ Ok o → AreNumbered o.driver
next_numbers d m (commands.OpenEp x) o fits all f = open_numbers d m x o (endpoint_named d x.name) fits all f
next_numbers d m (commands.Get name len by) o fits all f = numbered_by d o.driver (named_same d m takes_get (record { sort = sorts.Get; stages = get_stages len by; most = len; bytes = [] }) o (endpoint_of d name) f) all
next_numbers d m (commands.Put name bytes by) o fits all f = numbered_by d o.driver (named_same d m takes_put (record { sort = sorts.Put; stages = put_stages (length bytes) by; most = length bytes; bytes = bytes }) o (endpoint_of d name) f) all
next_numbers d m (commands.Control name setup bytes) o fits all f = numbered_by d o.driver (named_same d m takes_control (record { sort = sorts.Request; stages = request_stages setup; most = request_length setup; bytes = setup ++ bytes }) o (endpoint_of d name) f) all
next_numbers d m (commands.Iso name count len seed) o fits all f = numbered_by d o.driver (iso_named d m count len seed o (endpoint_of d name) f) all
next_numbers d m (commands.Cancel name) o fits all f = numbered_by d o.driver (cancel_named d m o (endpoint_of d name) f) all
next_numbers d m _ o fits all f = absurd (cc)

pub commands_keep_the_numbers : (d : DriverContent) (m : Mem) (cmd : Cmd) (o : Offered) → OpensNumbered cmd → AreNumbered d → offered d m cmd ≡ Ok o → AreNumbered o.driver
commands_keep_the_numbers d m cmd o fits all f = at d.command f
  where
    at : (c : Option Command) → cond (is_some c) (Err errors.Busy) (offered_next d m cmd) ≡ Ok o → AreNumbered o.driver
    at (Some c) g = absurd (cc)
    at None g = next_numbers d m cmd o fits all g
