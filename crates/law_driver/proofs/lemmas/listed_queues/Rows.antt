-- Each event of the driver keeps the queue heads in their frames.
use Rattle.std.proofs.Common.{◌≡◌, ℕ, zero, suc, Bool, true, false, cond, List, slice_get, take, drop, Option, Some, None, ap, sym, subst, ◌∙◌, inl, inr, refl}
use Rattle.std.specs.Prelude.{nat_lt}
use Rattle.law_driver.proofs.Common.{told_endpoints}
use Rattle.word_mem.specs.Memory.{Mem}
use Rattle.mem_runs.specs.Book.{Book, holding, lend_taken}
use Rattle.drv_chains.specs.declared.members.Descriptor.{Descriptor}
use Rattle.drv_chains.specs.declared.members.Member.TheVariants.{Once}
use Rattle.drv_members.specs.Members.{without_member}
use Rattle.drv_periodic.specs.declared.work.Work.{Work}
use Rattle.drv_periodic.specs.Periodic.{Periodic, removing, is_more, after_work, after_store}
use Rattle.drv_periodic_table.specs.Linking.{may_unlink, unlinking}
use Rattle.drv_periodic_table.specs.declared.content.Removed.{Removed}
use Rattle.drv_periodic_table.specs.declared.content.Removed.TheVariants as removed
use Rattle.drv_table.specs.declared.content.Endpoint.{Endpoint}
use Rattle.drv_table.specs.declared.content.Transfer.{Transfer}
use Rattle.drv_table.specs.declared.content.Command.{Command}
use Rattle.drv_table.specs.declared.content.Command.TheVariants as unfinished
use Rattle.drv_table.specs.declared.rows.DriverRow.{DriverRow}
use Rattle.drv_table.specs.declared.rows.DriverRow.TheVariants as rows
use Rattle.drv_table.specs.declared.rows.Found.{Found}
use Rattle.drv_table.specs.declared.rows.Found.TheVariants as founds
use Rattle.drv_table.specs.DriverContent.{DriverContent, next_after}
use Rattle.drv_table.specs.Parts.{Parts}
use Rattle.drv_table.specs.Commands.{events_of, advanced_by, advance, linked_on}
use Rattle.drv_table.specs.FrameChoice.{framed_by, linked_by, framed_notes, with_notes, placement_at}
use Rattle.drv_table.specs.Harvesting.{found_of, after_harvest, served, descriptor_told}
use Rattle.drv_table.specs.Releases.{is_told, cancel_told, gone_with, free_endpoint, freed_by, after_transfer, after_endpoint}
use Rattle.drv_table.specs.Removals.{removed_with, free_placed, after_unlink, after_descriptor, after_placed, after_removed}
use Rattle.drv_table.specs.Rows.{driver_row, after_driver_row}
use Rattle.claims_driver.specs.Leaving.{IsOrderly, HasOwners}
use Rattle.law_driver.specs.run_owners.Due.{IsHarvestDue, IsDue}
use Rattle.law_driver.proofs.lemmas.run_owners.Reasons.{each_event_is_due}
use Rattle.law_driver.proofs.lemmas.run_owners.Harvest.{Waits, waits_is, is_served_found}
use Rattle.law_driver.specs.listed_members.Members.{IsListed}
use Rattle.law_driver.specs.listed_queues.Queues.{HasQueues}
use Rattle.law_driver.proofs.lemmas.listed_members.Standing.{Owns, owns}
use Rattle.law_driver.proofs.lemmas.listed_members.Stays.{endpoint_set}
use Rattle.law_driver.proofs.lemmas.listed_members.Calm.{is_calm, calm_idle, is_ended_found, ended_plain, harvest_quiet}
use Rattle.law_driver.proofs.lemmas.listed_members.Events.{plain_by, with_book, book_owns}
use Rattle.law_driver.proofs.lemmas.listed_queues.Same.{SameQueues, same_queues, same_all, both_same, quiet_same, same_by}
use Rattle.law_driver.proofs.lemmas.listed_queues.Goes.{KeepsHeads, heads, either_same, command_queues}

-- ---- the unfinished command

goes_on : (d : DriverContent) (c : Command) → d.command ≡ Some c → Owns d → IsListed d → HasQueues d → HasQueues (advance d)
goes_on d c is own listed old = subst (λ (o : Option Command). HasQueues (advanced_by d o)) (sym is) (command_queues d c is own listed old)

book_queues : (d : DriverContent) (k : Book) → HasQueues d → HasQueues (record d { book = k })
book_queues d k old = same_queues d (record d { book = k }) (record { queues = refl; most = refl; framed = λ i. refl; many = refl; room = refl; goes = λ i is. is }) old

framed_row : (d : DriverContent) (n : ℕ) (c : Command) → d.command ≡ Some c → slice_get (events_of c) d.made ≡ Some rows.Frames → HasQueues d → HasQueues (framed_by d n d.command)
framed_row d n c is next old = subst (λ (o : Option Command). HasQueues (framed_by d n o)) (sym is) (by c is next)
  where
    first_one : (e first count made : ℕ) → slice_get (events_of (unfinished.Iso e first count)) made ≡ Some rows.Frames → made ≡ 0
    first_one e first count zero next = refl
    first_one e first count (suc zero) next = absurd (cc)
    first_one e first count (suc (suc made)) next = absurd (cc)

    by : (k : Command) → d.command ≡ Some k → slice_get (events_of k) d.made ≡ Some rows.Frames → HasQueues (framed_by d n (Some k))
    by (unfinished.Iso e first count) same next =
        let w = with_notes d n (take count (drop first d.transfers)) (framed_notes d n e first count (placement_at d e)) in
        let more : nat_lt (suc d.made) 2 ≡ true = ap (λ k. nat_lt (suc k) 2) (first_one e first count d.made next) in
        subst (λ (o : Option Command). HasQueues (advanced_by w o)) (sym same)
        (subst (λ b. HasQueues (cond b (record w { made = suc w.made }) (linked_on w (unfinished.Iso e first count)))) (sym more)
        (same_queues d (record w { made = suc w.made }) (record { queues = refl; most = refl; framed = λ i. refl; many = refl; room = refl; goes = λ i is. is }) old))
    by _ same next = old

-- ---- what is unlinked and given back

once_unlinked : (p : Periodic) (k : Descriptor) → p.work ≡ None → KeepsHeads p (after_store (unlinking p (Once k)))
once_unlinked p k none = at (may_unlink p (Once k))
  where
    last : (b : Bool) → KeepsHeads p (cond b (record p { work = Some (record { member = Once k; removes = true; made = 1 }) }) (record { list = p.list; members = record p.members { schedule = without_member p.members.schedule (Once k) }; work = None }))
    last true = record { queues = refl; most = refl }
    last false = record { queues = refl; most = refl }

    at : (b : Bool) → KeepsHeads p (after_store (cond b (removing p (Once k)) p))
    at true = last (is_more p.members.schedule (record { member = Once k; removes = true; made = 0 }))
    at false = subst (λ (o : Option Work). KeepsHeads p (after_work p o)) (sym none) (heads p)

unlinked_same : (p : Parts) (t : ℕ) (o : Option Transfer) → p.driver.periodic.list.work ≡ None → SameQueues p.driver (after_unlink p t o).driver
unlinked_same p t None none = same_all p.driver
unlinked_same p t (Some x) none =
    let k = once_unlinked p.driver.periodic.list _ none in
    record { queues = k.queues; most = k.most; framed = λ i. refl; many = refl; room = refl; goes = λ i is. is }

transfer_same : (p : Parts) (t : ℕ) (o : Option Transfer) → SameQueues p.driver (after_transfer p t o (freed_by p.driver (holding p.driver.book p.memory) o)).driver
transfer_same p t None = same_all p.driver
transfer_same p t (Some x) = record { queues = refl; most = refl; framed = λ i. refl; many = refl; room = refl; goes = λ i is. is }

descriptor_same : (p : Parts) (t : ℕ) (o : Option Transfer) → SameQueues p.driver (after_descriptor p t o).driver
descriptor_same p t None = same_all p.driver
descriptor_same p t (Some x) = record { queues = refl; most = refl; framed = λ i. refl; many = refl; room = refl; goes = λ i is. is }

told_same : (d : DriverContent) (m : Mem) (e : ℕ) (x : Endpoint) → SameQueues d (cancel_told d m e x)
told_same d m e x =
    either_same d _ d (is_told x) (record { queues = refl; most = refl; framed = λ i. refl; many = refl; room = refl; goes = λ i is. is }) (same_all d)

either_endpoints : (d x : DriverContent) (b : Bool) → x.endpoints ≡ d.endpoints → (cond b x d).endpoints ≡ d.endpoints
either_endpoints d x true same = same
either_endpoints d x false same = refl

endpoint_same : (p : Parts) (e : ℕ) (o : Option Endpoint) → slice_get p.driver.endpoints e ≡ o → SameQueues p.driver (after_endpoint p e o).driver
endpoint_same p e None here = same_all p.driver
endpoint_same p e (Some x) here =
    let d = p.driver in
    let told = cancel_told d p.memory e x in
    let f = gone_with told e x (is_told x) (free_endpoint d e x (holding d.book p.memory)).book in
    let y : Endpoint = record x { gone = true } in
    both_same d told f (told_same d p.memory e x)
    (same_by told f refl (endpoint_set told.endpoints e x y (ap (λ (xs : List Endpoint). slice_get xs e) (told_endpoints d p.memory e x) ∙ here) refl refl (λ off. off)).framed refl (λ i is. is))

placed_same : (p : Parts) (e : ℕ) (o : Option Endpoint) → slice_get p.driver.endpoints e ≡ o → SameQueues p.driver (after_placed p e o).driver
placed_same p e None here = same_all p.driver
placed_same p e (Some x) here =
    let d = p.driver in
    let told = cancel_told d p.memory e x in
    let f = removed_with told e x (is_told x) (free_placed d e x (holding d.book p.memory)).book in
    let y : Endpoint = record x { gone = true } in
    both_same d told f (told_same d p.memory e x)
    (same_by told f refl (endpoint_set told.endpoints e x y (ap (λ (xs : List Endpoint). slice_get xs e) (told_endpoints d p.memory e x) ∙ here) refl refl (λ off. off)).framed refl (λ i is. is))

removed_same : (p : Parts) (what : Removed) → SameQueues p.driver (after_removed p what).driver
removed_same p (removed.Descriptor t) = descriptor_same p t (slice_get p.driver.transfers t)
removed_same p (removed.Endpoint e) = placed_same p e (slice_get p.driver.endpoints e) refl

-- ---- harvest

harvest_same : (p : Parts) (e t : ℕ) (found : Found) → (due : IsHarvestDue p e t found) → IsOrderly p.driver → SameQueues p.driver (after_harvest p.driver p.memory e t found (Some due.endpoint) (Some due.transfer))
harvest_same p e t found due order = by found due.tells
  where
    d : DriverContent
    d = p.driver

    x : Endpoint
    x = due.endpoint

    y : Transfer
    y = due.transfer

    waits : Waits e y
    waits = waits_is e y due.waits

    others : (k : Found) → k ≡ found_of d p.memory y y.sort → is_served_found k ≡ false → SameQueues d (after_harvest d p.memory e t k (Some x) (Some y))
    others k tells off =
        quiet_same d (after_harvest d p.memory e t k (Some x) (Some y))
        (harvest_quiet d p.memory e t k x y off due.here due.there
        (λ ended. plain_by d e t x y order due.here due.there waits.endpoint (ended_plain d p.memory y y.sort (sym (ap is_ended_found tells) ∙ ended)))) (ap is_calm due.idle)

    by : (k : Found) → k ≡ found_of d p.memory y y.sort → SameQueues d (after_harvest d p.memory e t k (Some x) (Some y))
    by founds.Active tells = others founds.Active tells refl
    by (founds.Moved n) tells = others (founds.Moved n) tells refl
    by (founds.Ended n what) tells = others (founds.Ended n what) tells refl
    by (founds.Served errors) tells =
        let f = served (descriptor_told d p.memory e t x y errors) e in
        subst (λ b. SameQueues d (cond b f d)) (sym due.waits)
        (same_by d f refl (endpoint_set d.endpoints e x (record x { next = next_after d.transfers e t }) due.here refl refl (λ off. off)).framed refl (λ i is. is))

-- ---- any event

row_queues : (row : DriverRow) (p : Parts) → IsDue p row → HasOwners p.driver → IsListed p.driver → HasQueues p.driver → HasQueues (after_driver_row row p).driver
row_queues rows.Lend p due has listed old =
    let k = (lend_taken (holding p.driver.book p.memory)).book in
    goes_on (record p.driver { book = k }) due.command due.unfinished (book_owns p.driver k (owns p.driver has)) (with_book p.driver k listed) (book_queues p.driver k old)
row_queues (rows.Store b at v) p (inl due) has listed old = goes_on p.driver due.command due.unfinished (owns p.driver has) listed old
row_queues (rows.Store b at v) p (inr due) has listed old = goes_on p.driver due.command due.unfinished (owns p.driver has) listed old
row_queues rows.Frames p due has listed old = framed_row p.driver p.registers.frame_index due.command due.unfinished due.next old
row_queues rows.LendDescriptors p due has listed old =
    let k = (lend_taken (holding p.driver.book (linked_by p.driver p.memory p.driver.command))).book in
    goes_on (record p.driver { book = k }) due.command due.unfinished (book_owns p.driver k (owns p.driver has)) (with_book p.driver k listed) (book_queues p.driver k old)
row_queues (rows.Unlink t) p due has listed old =
    same_queues p.driver _ (unlinked_same p t (slice_get p.driver.transfers t) (calm_idle p.driver p.driver.command (ap is_calm due.idle) listed.way).work) old
row_queues (rows.ReleaseRemoved what) p due has listed old = same_queues p.driver _ (removed_same p what) old
row_queues (rows.ReleaseTransfer t) p due has listed old = same_queues p.driver _ (transfer_same p t (slice_get p.driver.transfers t)) old
row_queues (rows.ReleaseEndpoint e) p due has listed old = same_queues p.driver _ (endpoint_same p e (slice_get p.driver.endpoints e) refl) old
row_queues (rows.Harvest e t found) p due has listed old =
    same_queues p.driver _
    (subst (λ (o : Option Endpoint). SameQueues p.driver (after_harvest p.driver p.memory e t found o (slice_get p.driver.transfers t))) (sym due.here)
    (subst (λ (o : Option Transfer). SameQueues p.driver (after_harvest p.driver p.memory e t found (Some due.endpoint) o)) (sym due.there) (harvest_same p e t found due has.orderly))) old
row_queues rows.Rest p due has listed old = old
row_queues _ p due has listed old = same_queues p.driver _ (record { queues = refl; most = refl; framed = λ i. refl; many = refl; room = refl; goes = λ i is. is }) old

pub events_keep_queue_heads : (p : Parts) → HasOwners p.driver → IsListed p.driver → HasQueues p.driver → HasQueues (after_driver_row (driver_row p) p).driver
events_keep_queue_heads p has listed old = row_queues (driver_row p) p (each_event_is_due p) has listed old
