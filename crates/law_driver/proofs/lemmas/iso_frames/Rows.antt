-- Each event of the driver leaves the descriptors in step.
use Rattle.std.proofs.Common.{◌≡◌, ◌≢◌, ℕ, zero, suc, ◌≤◌, ◌&&◌, ◌||◌, not, Bool, true, false, cond, List, length, map, set, slice_get, Option, Some, None, option_map, refl, ap, sym, subst, ◌∙◌, ⊎_elim, arith, inl, inr}
use Rattle.std.specs.Prelude.{option_and_then}
use Rattle.std.proofs.lemmas.Bool.{false≢true, cases_eq}
use Rattle.std.proofs.lemmas.List.{length-map}
use Rattle.std.proofs.lemmas.Option.{same_Some, slice_get-map}
use Rattle.law_driver.proofs.Common.{let_go_same, ring_queue}
use Rattle.law_common.proofs.Numbers.{other_number}
use Rattle.word_mem.specs.Memory.{Mem}
use Rattle.bandwidth.specs.declared.placements.Placement.{Placement}
use Rattle.bandwidth.specs.Placements.{IsPlace}
use Rattle.mem_runs.specs.Book.{holding, lend_taken}
use Rattle.drv_periodic_table.specs.Periodic.{is_periodic}
use Rattle.drv_periodic_table.specs.declared.content.Removed.{Removed}
use Rattle.drv_periodic_table.specs.declared.content.Removed.TheVariants as removed
use Rattle.drv_table.specs.declared.content.Endpoint.{Endpoint}
use Rattle.drv_table.specs.declared.content.Transfer.{Transfer}
use Rattle.drv_table.specs.declared.content.Command.{Command}
use Rattle.drv_table.specs.declared.content.Command.TheVariants as unfinished
use Rattle.drv_table.specs.declared.rows.DriverRow.{DriverRow}
use Rattle.drv_table.specs.declared.rows.DriverRow.TheVariants as rows
use Rattle.drv_table.specs.DriverContent.{DriverContent, waits_for}
use Rattle.drv_table.specs.Parts.{Parts}
use Rattle.drv_table.specs.Kinds.{is_iso}
use Rattle.drv_table.specs.Commands.{events_of, advanced_by, advance}
use Rattle.drv_table.specs.FrameChoice.{framed_by, linked_by}
use Rattle.drv_table.specs.Releases.{after_transfer, freed_by, let_go, is_told, cancel_told, gone_with, after_endpoint, free_endpoint}
use Rattle.drv_table.specs.Removals.{let_go_placed, after_unlink, after_descriptor, removed_with, after_placed, free_placed, after_removed}
use Rattle.drv_table.specs.Harvesting.{after_harvest}
use Rattle.drv_table.specs.Rows.{driver_row, after_driver_row}
use Rattle.claims_driver.specs.Leaving.{IsOrderly, HasOwners}
use Rattle.law_driver.specs.run_owners.Due.{IsRemovalDue, IsDue}
use Rattle.law_driver.proofs.lemmas.run_owners.Reasons.{each_event_is_due}
use Rattle.law_driver.proofs.lemmas.run_owners.Released.{cancel_same}
use Rattle.law_driver.proofs.lemmas.run_owners.Leaves.{first_left, first_removed}
use Rattle.claims_driver.specs.FrameListMembers.{Framed, framed_in, placed_of, placed_in}
use Rattle.law_driver.specs.listed_members.Members.{AreKept, IsListed}
use Rattle.law_driver.proofs.lemmas.listed_members.Stays.{all_endpoints, all_transfers, endpoint_set, transfer_set}
use Rattle.law_driver.specs.iso_frames.Frames.{mark, next_in, AreStepped}
use Rattle.claims_driver.specs.DueMembers.{framed_to}
use Rattle.law_driver.proofs.lemmas.iso_frames.Kept.{Stays, stays_all, either_stays, same_stays, itself, next_set, other_marked, marked_elsewhere, IsLate, goes_on}
use Rattle.law_driver.proofs.lemmas.iso_frames.Harvested.{harvest_stepped, iso_of}
use Rattle.law_driver.proofs.lemmas.iso_frames.Framing.{frames_stepped}

-- ---- the unfinished command

no_frames : (c : Command) (made : ℕ) (row : DriverRow) → slice_get (events_of c) made ≡ Some row → (rows.Frames ≡ row → ⊥) → IsLate c made
no_frames (unfinished.Iso e first count) zero row next other = absurd (other (same_Some rows.Frames row next))
no_frames (unfinished.Iso e first count) (suc made) row next other = omega arith
no_frames _ made row next other = tt

behind_them : (c : Command) (made : ℕ) → length (events_of c) ≤ made → IsLate c made
behind_them (unfinished.Iso e first count) made late = omega (arith, late)
behind_them _ made late = tt

goes : (d : DriverContent) (c : Command) → d.command ≡ Some c → IsLate c d.made → AreStepped d → AreStepped (advance d)
goes d c is late old = subst (λ (o : Option Command). AreStepped (advanced_by d o)) (sym is) (stays_all d (advanced_by d (Some c)) (goes_on d c is late) old)

-- whose placement is a place
abbrev pub HasPlaces : DriverContent → Type 0
HasPlaces d = (e : ℕ) (x : Framed) (p : Placement) → framed_in d.endpoints e ≡ Some x → x.chained ≡ true → x.placement ≡ Some p → IsPlace p

framed_row : (d : DriverContent) (n : ℕ) (c : Command) → d.command ≡ Some c → slice_get (events_of c) d.made ≡ Some rows.Frames → HasOwners d → IsListed d → HasPlaces d → AreStepped d → AreStepped (framed_by d n d.command)
framed_row d n c is next has listed places old = subst (λ (o : Option Command). AreStepped (framed_by d n o)) (sym is) (by c is next)
  where
    first_one : (e first count made : ℕ) → slice_get (events_of (unfinished.Iso e first count)) made ≡ Some rows.Frames → made ≡ 0
    first_one e first count zero next = refl
    first_one e first count (suc zero) next = absurd (cc)
    first_one e first count (suc (suc made)) next = absurd (cc)

    by : (k : Command) → d.command ≡ Some k → slice_get (events_of k) d.made ≡ Some rows.Frames → AreStepped (framed_by d n (Some k))
    by (unfinished.Iso e first count) same next = frames_stepped d n e first count same (first_one e first count d.made next) has listed places old
    by _ same next = old

-- ---- what is given back

-- an endpoint that is given back, and what is left of its transfers
record IsGiven (d g : DriverContent) (e : ℕ) (x : Endpoint) (go : Transfer → Transfer) : Type 0 where
  here : slice_get d.endpoints e ≡ Some x
  endpoints : g.endpoints ≡ set d.endpoints e (record x { gone = true })
  transfers : g.transfers ≡ map go d.transfers
  others : (y : Transfer) → y.endpoint ≢ e → go y ≡ y
  endpoint : (y : Transfer) → (go y).endpoint ≡ y.endpoint
  notes : g.periodic.notes ≡ d.periodic.notes
  command : g.command ≡ d.command
  made : g.made ≡ d.made
  out : is_iso x.desc.kind ≡ true → x.chained ≡ true → ⊥

given_stays : (d g : DriverContent) (e : ℕ) (x : Endpoint) (go : Transfer → Transfer) → IsGiven d g e x go → Stays d g
given_stays d g e x go k i f there iso chained =
    ⊎_elim
    (λ (hit : i ≡ e).
    let is = iso_of d.endpoints e x f k.here (ap (framed_in d.endpoints) (sym hit) ∙ (sym (ends i) ∙ there)) in
    absurd (k.out (sym (ap (λ (w : Framed). w.isochronous) is) ∙ iso) (sym (ap (λ (w : Framed). w.chained) is) ∙ chained)))
    (λ (miss : i ≢ e). (
      sym (ends i) ∙ there,
      record {
        marks = λ t.
            ap (λ (us : List Transfer). mark i (placed_in g.endpoints us t)) k.transfers ∙ ap (λ o. mark i (option_and_then (placed_of g.endpoints) o)) (slice_get-map go d.transfers t) ∙ marks (slice_get d.transfers t) miss;
        many = ap (λ (us : List Transfer). length us) k.transfers ∙ length-map d.transfers go;
        notes = k.notes;
        cut =
            ap (λ (us : List Transfer). framed_to g.command g.made (length us)) k.transfers ∙ ap (framed_to g.command g.made) (length-map d.transfers go)
            ∙ ap (λ (c : Option Command). framed_to c g.made (length d.transfers)) k.command
            ∙ ap (λ n. framed_to d.command n (length d.transfers)) k.made;
        next = ap (λ (xs : List Endpoint). next_in xs i) k.endpoints ∙ next_set d.endpoints e x (record x { gone = true }) k.here refl i;
      },
    )) (cases_eq i e)
  where
    ends : (j : ℕ) → framed_in g.endpoints j ≡ framed_in d.endpoints j
    ends j = ap (λ (xs : List Endpoint). framed_in xs j) k.endpoints ∙ (endpoint_set d.endpoints e x (record x { gone = true }) k.here refl refl (λ off. off)).framed j

    marks : (o : Option Transfer) → i ≢ e → mark i (option_and_then (placed_of g.endpoints) (option_map go o)) ≡ mark i (option_and_then (placed_of d.endpoints) o)
    marks None miss = refl
    marks (Some y) miss =
        ⊎_elim
        (λ (hit : y.endpoint ≡ e).
        other_marked g.endpoints i (go y) (λ same. miss (sym same ∙ (k.endpoint y ∙ hit))) ∙ sym (other_marked d.endpoints i y (λ same. miss (sym same ∙ hit))))
        (λ (off : y.endpoint ≢ e). ap (λ (z : Transfer). mark i (placed_of g.endpoints z)) (k.others y off) ∙ marked_elsewhere d.endpoints g.endpoints e i (Some y) miss (λ j away. ends j)) (cases_eq y.endpoint e)

told_stays : (d : DriverContent) (m : Mem) (e : ℕ) (x : Endpoint) → Stays d (cancel_told d m e x)
told_stays d m e x = either_stays d _ d (is_told x) (same_stays d _ (all_endpoints d.endpoints) (all_transfers d.transfers) refl refl (λ i. refl)) (itself d)

go_others : (e : ℕ) (told : Bool) (y : Transfer) → y.endpoint ≢ e → let_go e told y ≡ y
go_others e told y off = ap (λ b. cond b (record y { reported = y.reported || told; released = true }) y) (other_number y.endpoint e off)

placed_others : (iso : Bool) (e : ℕ) (told : Bool) (y : Transfer) → y.endpoint ≢ e → let_go_placed iso e told y ≡ y
placed_others true e told y off = ap (λ b. cond (b && not y.reported) (record y { reported = y.reported || told; released = true }) y) (other_number y.endpoint e off)
placed_others false e told y off = go_others e told y off

placed_endpoint : (iso : Bool) (e : ℕ) (told : Bool) (y : Transfer) → (let_go_placed iso e told y).endpoint ≡ y.endpoint
placed_endpoint true e told y = at (waits_for e y) (record y { reported = y.reported || told; released = true }) refl
  where
    at : (b : Bool) (z : Transfer) → z.endpoint ≡ y.endpoint → (cond b z y).endpoint ≡ y.endpoint
    at true z same = same
    at false z same = refl
placed_endpoint false e told y = let_go_same e told y

endpoint_stepped : (p : Parts) (e : ℕ) (o : Option Endpoint) → slice_get p.driver.endpoints e ≡ o → ((x : Endpoint) → o ≡ Some x → is_iso x.desc.kind ≡ false) → AreStepped p.driver → AreStepped (after_endpoint p e o).driver
endpoint_stepped p e None here plain old = old
endpoint_stepped p e (Some x) here plain old =
    let d = p.driver in
    let told = cancel_told d p.memory e x in
    let s = cancel_same d p.memory e x in
    let book = (free_endpoint d e x (holding d.book p.memory)).book in
    stays_all told (gone_with told e x (is_told x) book)
    (given_stays told (gone_with told e x (is_told x) book) e x (let_go e (is_told x)) (record {
      here = ap (λ (xs : List Endpoint). slice_get xs e) s.endpoints ∙ here;
      endpoints = refl;
      transfers = refl;
      others = go_others e (is_told x);
      endpoint = let_go_same e (is_told x);
      notes = refl;
      command = refl;
      made = refl;
      out = λ iso chained. false≢true (sym (plain x refl) ∙ iso);
    })) (stays_all d told (told_stays d p.memory e x) old)

placed_stepped : (p : Parts) (e : ℕ) (o : Option Endpoint) → slice_get p.driver.endpoints e ≡ o → ((x : Endpoint) → o ≡ Some x → x.chained ≡ false) → AreStepped p.driver → AreStepped (after_placed p e o).driver
placed_stepped p e None here out old = old
placed_stepped p e (Some x) here out old =
    let d = p.driver in
    let told = cancel_told d p.memory e x in
    let s = cancel_same d p.memory e x in
    let book = (free_placed d e x (holding d.book p.memory)).book in
    stays_all told (removed_with told e x (is_told x) book)
    (given_stays told (removed_with told e x (is_told x) book) e x (let_go_placed (is_iso x.desc.kind) e (is_told x)) (record {
      here = ap (λ (xs : List Endpoint). slice_get xs e) s.endpoints ∙ here;
      endpoints = refl;
      transfers = refl;
      others = placed_others (is_iso x.desc.kind) e (is_told x);
      endpoint = placed_endpoint (is_iso x.desc.kind) e (is_told x);
      notes = refl;
      command = refl;
      made = refl;
      out = λ iso chained. false≢true (sym (out x refl) ∙ chained);
    })) (stays_all d told (told_stays d p.memory e x) old)

transfer_stepped : (d g : DriverContent) (t : ℕ) (y : Transfer) → slice_get d.transfers t ≡ Some y → g.endpoints ≡ d.endpoints → g.transfers ≡ set d.transfers t (record y { released = true }) → g.periodic.notes ≡ d.periodic.notes → g.command ≡ d.command → g.made ≡ d.made
    → AreStepped d → AreStepped g
transfer_stepped d g t y there ends ts notes command made old =
    let now = transfer_set d.transfers t y (record y { released = true }) there (λ zs. refl) in
    stays_all d g
    (same_stays d g (record { framed = λ i. ap (λ (xs : List Endpoint). framed_in xs i) ends; kept = λ k. subst AreKept (sym ends) k })
    (record { placed = λ xs i. ap (λ (us : List Transfer). placed_in xs us i) ts ∙ now.placed xs i; many = ap (λ (us : List Transfer). length us) ts ∙ now.many }) notes
    (ap (λ (us : List Transfer). framed_to g.command g.made (length us)) ts ∙ ap (framed_to g.command g.made) now.many ∙ ap (λ (c : Option Command). framed_to c g.made (length d.transfers)) command ∙ ap (λ n. framed_to d.command n (length d.transfers)) made)
    (λ i. ap (λ (xs : List Endpoint). next_in xs i) ends)) old

given_back : (p : Parts) (t : ℕ) (o : Option Transfer) → slice_get p.driver.transfers t ≡ o → AreStepped p.driver → AreStepped (after_transfer p t o (freed_by p.driver (holding p.driver.book p.memory) o)).driver
given_back p t None there old = old
given_back p t (Some y) there old = transfer_stepped p.driver _ t y there refl refl refl refl refl old

descriptor_back : (p : Parts) (t : ℕ) (o : Option Transfer) → slice_get p.driver.transfers t ≡ o → AreStepped p.driver → AreStepped (after_descriptor p t o).driver
descriptor_back p t None there old = old
descriptor_back p t (Some y) there old = transfer_stepped p.driver _ t y there refl refl refl refl refl old

unlinked : (p : Parts) (t : ℕ) (o : Option Transfer) → AreStepped p.driver → AreStepped (after_unlink p t o).driver
unlinked p t None old = old
unlinked p t (Some y) old = λ e x q here iso chained placed. let h = old e x q here iso chained placed in record { steps = h.steps; active = h.active; few = h.few; bound = h.bound; next = h.next }

removed_stepped : (p : Parts) (what : Removed) → IsRemovalDue p what → IsOrderly p.driver → AreStepped p.driver → AreStepped (after_removed p what).driver
removed_stepped p (removed.Descriptor t) due order old = descriptor_back p t (slice_get p.driver.transfers t) refl old
removed_stepped p (removed.Endpoint e) due order old =
    let l = first_removed e due.removal due.first due.is order in
    placed_stepped p e (slice_get p.driver.endpoints e) refl (λ x is. ap (λ (z : Endpoint). z.chained) (same_Some x l.endpoint (sym is ∙ l.here)) ∙ l.chained) old

ring_plain : (p : Parts) (e : ℕ) → slice_get p.driver.cleared 0 ≡ Some e → IsOrderly p.driver → (x : Endpoint) → slice_get p.driver.endpoints e ≡ Some x → is_iso x.desc.kind ≡ false
ring_plain p e first order x is =
    let l = first_left e first order in
    let same : l.endpoint ≡ x = same_Some l.endpoint x (sym l.here ∙ is) in
    ring_queue x.desc.kind (ap (λ (z : Endpoint). is_periodic z.desc.kind) (sym same) ∙ l.ring)

-- ---- any event

calm : (d g : DriverContent) → g.endpoints ≡ d.endpoints → g.transfers ≡ d.transfers → g.periodic.notes ≡ d.periodic.notes → g.command ≡ d.command → g.made ≡ d.made → AreStepped d → AreStepped g
calm d g ends ts notes command made old =
    stays_all d g
    (λ e x here iso chained. (
      sym (ap (λ (xs : List Endpoint). framed_in xs e) ends) ∙ here,
      record {
        marks = λ t. ap (λ (xs : List Endpoint). mark e (placed_in xs g.transfers t)) ends ∙ ap (λ (us : List Transfer). mark e (placed_in d.endpoints us t)) ts;
        many = ap (λ (us : List Transfer). length us) ts;
        notes = notes;
        cut = ap (λ (us : List Transfer). framed_to g.command g.made (length us)) ts ∙ ap (λ (c : Option Command). framed_to c g.made (length d.transfers)) command ∙ ap (λ n. framed_to d.command n (length d.transfers)) made;
        next = ap (λ (xs : List Endpoint). next_in xs e) ends;
      },
    )) old

row_stepped : (row : DriverRow) (p : Parts) → IsDue p row → HasOwners p.driver → IsListed p.driver → HasPlaces p.driver → AreStepped p.driver → AreStepped (after_driver_row row p).driver
row_stepped rows.Lend p due has listed places old =
    goes (record p.driver { book = (lend_taken (holding p.driver.book p.memory)).book }) due.command due.unfinished (no_frames due.command p.driver.made rows.Lend due.next (λ same. absurd (cc))) (calm p.driver _ refl refl refl refl refl old)
row_stepped (rows.Store b at v) p (inl due) has listed places old =
    goes p.driver due.command due.unfinished (no_frames due.command p.driver.made (rows.Store b at v) due.next (λ same. absurd (cc))) old
row_stepped (rows.Store b at v) p (inr due) has listed places old = goes p.driver due.command due.unfinished (behind_them due.command p.driver.made due.late) old
row_stepped rows.Frames p due has listed places old = framed_row p.driver p.registers.frame_index due.command due.unfinished due.next has listed places old
row_stepped rows.LendDescriptors p due has listed places old =
    goes (record p.driver { book = (lend_taken (holding p.driver.book (linked_by p.driver p.memory p.driver.command))).book }) due.command due.unfinished
    (no_frames due.command p.driver.made rows.LendDescriptors due.next (λ same. absurd (cc))) (calm p.driver _ refl refl refl refl refl old)
row_stepped (rows.Unlink t) p due has listed places old = unlinked p t (slice_get p.driver.transfers t) old
row_stepped (rows.ReleaseRemoved what) p due has listed places old = removed_stepped p what due has.orderly old
row_stepped (rows.ReleaseTransfer t) p due has listed places old = given_back p t (slice_get p.driver.transfers t) refl old
row_stepped (rows.ReleaseEndpoint e) p due has listed places old = endpoint_stepped p e (slice_get p.driver.endpoints e) refl (ring_plain p e due.first has.orderly) old
row_stepped (rows.Harvest e t found) p due has listed places old =
    subst (λ (o : Option Endpoint). AreStepped (after_harvest p.driver p.memory e t found o (slice_get p.driver.transfers t))) (sym due.here)
    (subst (λ (o : Option Transfer). AreStepped (after_harvest p.driver p.memory e t found (Some due.endpoint) o)) (sym due.there) (harvest_stepped p e t found due has.orderly old))
row_stepped rows.Rest p due has listed places old = old
row_stepped _ p due has listed places old = calm p.driver _ refl refl refl refl refl old

pub event_stepped : (p : Parts) → HasOwners p.driver → IsListed p.driver → HasPlaces p.driver → AreStepped p.driver → AreStepped (after_driver_row (driver_row p) p).driver
event_stepped p has listed places old = row_stepped (driver_row p) p (each_event_is_due p) has listed places old
