-- Each event of the driver keeps the list's members.
use Rattle.std.proofs.Common.{◌≡◌, ℕ, zero, suc, ◌≤◌, true, false, cond, ◌∷◌, length, slice_get, Option, Some, None, ap, sym, subst, ◌∙◌, ⊎_elim, inl, inr, refl, arith}
use Rattle.std.specs.Prelude.{is_some}
use Rattle.std.proofs.lemmas.Bool.{false≢true, cases_Bool}
use Rattle.std.proofs.lemmas.Option.{same_Some}
use Rattle.law_driver.proofs.Common.{iso_frames}
use Rattle.law_common.proofs.Lists.{all_more}
use Rattle.mem_runs.specs.Book.{Book, holding, lend_taken}
use Rattle.drv_chains.specs.declared.members.Member.{Member}
use Rattle.drv_table.specs.declared.content.Endpoint.{Endpoint}
use Rattle.drv_table.specs.declared.content.Transfer.{Transfer}
use Rattle.drv_table.specs.declared.content.Command.{Command}
use Rattle.drv_table.specs.declared.content.Command.TheVariants as unfinished
use Rattle.drv_table.specs.declared.rows.DriverRow.{DriverRow}
use Rattle.drv_table.specs.declared.rows.DriverRow.TheVariants as rows
use Rattle.drv_table.specs.declared.rows.Found.{Found}
use Rattle.drv_table.specs.declared.rows.Found.TheVariants as founds
use Rattle.drv_table.specs.DriverContent.{DriverContent}
use Rattle.drv_table.specs.Parts.{Parts}
use Rattle.drv_table.specs.Kinds.{is_iso}
use Rattle.drv_table.specs.Commands.{events_of, advanced_by, advance}
use Rattle.drv_table.specs.FrameChoice.{framed_by, linked_by}
use Rattle.drv_table.specs.Harvesting.{found_of, after_harvest, served, descriptor_told}
use Rattle.drv_table.specs.Rows.{driver_row, after_driver_row}
use Rattle.claims_driver.specs.Owners.{is_descriptor}
use Rattle.claims_driver.specs.Leaving.{IsOrderly, HasOwners}
use Rattle.law_driver.specs.run_owners.Due.{IsHarvestDue, IsDue}
use Rattle.law_driver.proofs.lemmas.run_owners.Reasons.{each_event_is_due}
use Rattle.law_driver.proofs.lemmas.run_owners.Harvest.{Waits, waits_is, is_served_found}
use Rattle.law_driver.proofs.lemmas.run_owners.Rows.{served_is}
use Rattle.law_driver.specs.listed_members.Members.{IsWaitingOf, IsUnderWay, IsListed}
use Rattle.law_driver.proofs.lemmas.listed_members.Schedules.{same_members}
use Rattle.law_driver.proofs.lemmas.listed_members.Standing.{Owns, owns}
use Rattle.law_driver.proofs.lemmas.listed_members.Stays.{moved, same_queue, all_endpoints, all_transfers, tables}
use Rattle.law_driver.proofs.lemmas.listed_members.Calm.{is_calm, calm_listed, quiet_listed, goes_quiet, ArePlain, is_ended_found, ended_plain, harvest_quiet}
use Rattle.law_driver.proofs.lemmas.listed_members.Releases.{transfer_listed, endpoint_listed, removed_listed}
use Rattle.law_driver.proofs.lemmas.listed_members.Unlinks.{told_listed, unlinked_listed}
use Rattle.law_driver.proofs.lemmas.listed_members.Stores.{chain_goes}
use Rattle.law_driver.proofs.lemmas.listed_members.Framing.{frames_listed}
use Rattle.law_driver.proofs.lemmas.listed_members.Describing.{iso_goes}
use Rattle.law_driver.proofs.lemmas.listed_members.Leaving.{unchain_goes}

-- ---- the unfinished command goes on

-- the frames of descriptors are chosen before any other of their events
abbrev IsLate : Command → ℕ → Type 0
IsLate (unfinished.Open queue) made = Unit {0}
IsLate (unfinished.Publish b words) made = Unit {0}
IsLate (unfinished.Unlink e b link) made = Unit {0}
IsLate unfinished.Chain made = Unit {0}
IsLate (unfinished.Iso e first count) made = 1 ≤ made
IsLate (unfinished.Unchain e) made = Unit {0}

command_goes : (d : DriverContent) (c : Command) → d.command ≡ Some c → IsLate c d.made → Owns d → IsListed d → IsListed (advanced_by d (Some c))
command_goes d (unfinished.Open queue) is late own old = quiet_listed d _ (goes_quiet d (unfinished.Open queue) refl) (ap is_calm is) old
command_goes d (unfinished.Publish b words) is late own old = quiet_listed d _ (goes_quiet d (unfinished.Publish b words) refl) (ap is_calm is) old
command_goes d (unfinished.Unlink e b link) is late own old = quiet_listed d _ (goes_quiet d (unfinished.Unlink e b link) refl) (ap is_calm is) old
command_goes d unfinished.Chain is late own old = chain_goes d is old
command_goes d (unfinished.Iso e first count) is late own old = iso_goes d e first count is late own old
command_goes d (unfinished.Unchain e) is late own old = unchain_goes d e own is old

goes_on : (d : DriverContent) (c : Command) → d.command ≡ Some c → IsLate c d.made → Owns d → IsListed d → IsListed (advance d)
goes_on d c is late own old = subst (λ (o : Option Command). IsListed (advanced_by d o)) (sym is) (command_goes d c is late own old)

no_frames : (c : Command) (made : ℕ) (row : DriverRow) → slice_get (events_of c) made ≡ Some row → (rows.Frames ≡ row → ⊥) → IsLate c made
no_frames (unfinished.Open queue) made row next other = tt
no_frames (unfinished.Publish b words) made row next other = tt
no_frames (unfinished.Unlink e b link) made row next other = tt
no_frames unfinished.Chain made row next other = tt
no_frames (unfinished.Iso e first count) zero row next other = absurd (other (same_Some rows.Frames row next))
no_frames (unfinished.Iso e first count) (suc made) row next other = omega arith
no_frames (unfinished.Unchain e) made row next other = tt

behind_them : (c : Command) (made : ℕ) → length (events_of c) ≤ made → IsLate c made
behind_them (unfinished.Open queue) made late = tt
behind_them (unfinished.Publish b words) made late = tt
behind_them (unfinished.Unlink e b link) made late = tt
behind_them unfinished.Chain made late = tt
behind_them (unfinished.Iso e first count) made late = omega (arith, late)
behind_them (unfinished.Unchain e) made late = tt

-- another book
pub with_book : (d : DriverContent) (k : Book) → IsListed d → IsListed (record d { book = k })
with_book d k old = record {
  list = record {
    list = old.list.list;
    members = same_members (same_queue d g (λ i x h. h)) (λ m s. moved d g m s s.here (λ on. on) (λ waits on. on) refl) (λ m s. moved g d m s s.here (λ on. on) (λ waits on. on) refl) old.list.members;
    frames = old.list.frames;
    many = old.list.many;
    room = old.list.room;
    kept = old.list.kept;
  };
  way = by d.command old.way;
}
  where
    g : DriverContent
    g = record d { book = k }

    waiting : (e first : ℕ) (m : Member) → IsWaitingOf d e first m → IsWaitingOf g e first m
    waiting e first m w = record { number = w.number; placed = w.placed; here = w.here; later = w.later; endpoint = w.endpoint; waits = w.waits; is = w.is }

    by : (c : Option Command) → IsUnderWay d c → IsUnderWay g c
    by None way = way
    by (Some (unfinished.Open queue)) way = way
    by (Some (unfinished.Publish b words)) way = way
    by (Some (unfinished.Unlink e b link)) way = way
    by (Some unfinished.Chain) way = way
    by (Some (unfinished.Iso e first count)) way =
        record { links = way.links; all = way.all; each = way.each; members = all_more (IsWaitingOf d e first) (IsWaitingOf g e first) d.periodic.queued (waiting e first) way.members; once = way.once }
    by (Some (unfinished.Unchain e)) way = record {
      work = way.work;
      begun = way.begun;
      removes = way.removes;
      endpoint = way.endpoint;
      here = way.here;
      cancelled = way.cancelled;
      framed = way.framed;
      at = way.at;
      leaving = record {
        descriptors = λ iso. let l = way.leaving.descriptors iso in (all_more (IsWaitingOf d e 0) (IsWaitingOf g e 0) (way.work.member ∷ d.periodic.queued) (waiting e 0) l.0, l.1);
        queue = way.leaving.queue;
      };
    }

pub book_owns : (d : DriverContent) (k : Book) → Owns d → Owns (record d { book = k })
book_owns d k own = record { owner = own.owner; descriptors = own.descriptors; queues = own.queues; reported = own.reported; sorts = own.sorts }

framed_row : (d : DriverContent) (n : ℕ) (c : Command) → d.command ≡ Some c → slice_get (events_of c) d.made ≡ Some rows.Frames → Owns d → IsListed d → IsListed (framed_by d n d.command)
framed_row d n c is next own old = subst (λ (o : Option Command). IsListed (framed_by d n o)) (sym is) (by c is next)
  where
    first_one : (e first count made : ℕ) → slice_get (events_of (unfinished.Iso e first count)) made ≡ Some rows.Frames → made ≡ 0
    first_one e first count zero next = refl
    first_one e first count (suc zero) next = absurd (cc)
    first_one e first count (suc (suc made)) next = absurd (cc)

    by : (k : Command) → d.command ≡ Some k → slice_get (events_of k) d.made ≡ Some rows.Frames → IsListed (framed_by d n (Some k))
    by (unfinished.Open queue) same next = old
    by (unfinished.Publish b words) same next = old
    by (unfinished.Unlink e b link) same next = old
    by unfinished.Chain same next = old
    by (unfinished.Iso e first count) same next = frames_listed d n e first count same (first_one e first count d.made next) own old
    by (unfinished.Unchain e) same next = old

-- ---- harvest

pub in_frames : (d : DriverContent) (e : ℕ) (x : Endpoint) → IsOrderly d → slice_get d.endpoints e ≡ Some x → x.ended ≡ None → is_iso x.desc.kind ≡ true → x.chained ≡ true
in_frames d e x order here goes iso =
    let s = order.steady e x here in
    let off : x.linked ≡ false = ⊎_elim (λ (on : x.linked ≡ true). absurd (false≢true (sym (s.ring on) ∙ iso_frames x.desc.kind iso))) (λ (no : x.linked ≡ false). no) (cases_Bool x.linked) in
    ⊎_elim (λ (on : x.chained ≡ true). on) (λ (out : x.chained ≡ false). absurd (false≢true (ap (λ o. is_some o) (sym goes) ∙ s.ended off out))) (cases_Bool x.chained)

pub plain_by : (d : DriverContent) (e t : ℕ) (x : Endpoint) (y : Transfer) → IsOrderly d → slice_get d.endpoints e ≡ Some x → slice_get d.transfers t ≡ Some y → y.endpoint ≡ e → is_descriptor y.sort ≡ false → ArePlain e d.transfers
plain_by d e t x y order here there at plain k z also same =
    let iso : is_iso x.desc.kind ≡ false = sym (order.sorts t y x there (ap (slice_get d.endpoints) at ∙ here)) ∙ plain in
    order.sorts k z x also (ap (slice_get d.endpoints) same ∙ here) ∙ iso

harvest_listed : (p : Parts) (e t : ℕ) (found : Found) → (due : IsHarvestDue p e t found) → IsOrderly p.driver → IsListed p.driver → IsListed (after_harvest p.driver p.memory e t found (Some due.endpoint) (Some due.transfer))
harvest_listed p e t found due order old = by found due.tells
  where
    d : DriverContent
    d = p.driver

    x : Endpoint
    x = due.endpoint

    y : Transfer
    y = due.transfer

    waits : Waits e y
    waits = waits_is e y due.waits

    calm : is_calm d.command ≡ true
    calm = ap is_calm due.idle

    others : (k : Found) → k ≡ found_of d p.memory y y.sort → is_served_found k ≡ false → IsListed (after_harvest d p.memory e t k (Some x) (Some y))
    others k tells off =
        quiet_listed d (after_harvest d p.memory e t k (Some x) (Some y))
        (harvest_quiet d p.memory e t k x y off due.here due.there
        (λ ended. plain_by d e t x y order due.here due.there waits.endpoint (ended_plain d p.memory y y.sort (sym (ap is_ended_found tells) ∙ ended)))) calm old

    by : (k : Found) → k ≡ found_of d p.memory y y.sort → IsListed (after_harvest d p.memory e t k (Some x) (Some y))
    by founds.Active tells = others founds.Active tells refl
    by (founds.Moved n) tells = others (founds.Moved n) tells refl
    by (founds.Ended n what) tells = others (founds.Ended n what) tells refl
    by (founds.Served errors) tells =
        let sort = served_is d p.memory y y.sort (sym (ap is_served_found tells)) in
        let iso : is_iso x.desc.kind ≡ true = sym (order.sorts t y x due.there (ap (slice_get d.endpoints) waits.endpoint ∙ due.here)) ∙ sort in
        subst (λ b. IsListed (cond b (served (descriptor_told d p.memory e t x y errors) e) d)) (sym due.waits)
        (told_listed d p.memory e t x y errors due.here due.there (in_frames d e x order due.here due.goes_on iso) waits.endpoint waits.reported sort calm old)

pub row_listed : (row : DriverRow) (p : Parts) → IsDue p row → HasOwners p.driver → IsListed p.driver → IsListed (after_driver_row row p).driver
row_listed rows.Lend p due has old =
    let k = (lend_taken (holding p.driver.book p.memory)).book in
    goes_on (record p.driver { book = k }) due.command due.unfinished (no_frames due.command p.driver.made rows.Lend due.next (λ same. absurd (cc))) (book_owns p.driver k (owns p.driver has)) (with_book p.driver k old)
row_listed (rows.Store b at v) p (inl due) has old =
    goes_on p.driver due.command due.unfinished (no_frames due.command p.driver.made (rows.Store b at v) due.next (λ same. absurd (cc))) (owns p.driver has) old
row_listed (rows.Store b at v) p (inr due) has old = goes_on p.driver due.command due.unfinished (behind_them due.command p.driver.made due.late) (owns p.driver has) old
row_listed rows.Frames p due has old = framed_row p.driver p.registers.frame_index due.command due.unfinished due.next (owns p.driver has) old
row_listed rows.LendDescriptors p due has old =
    let k = (lend_taken (holding p.driver.book (linked_by p.driver p.memory p.driver.command))).book in
    goes_on (record p.driver { book = k }) due.command due.unfinished (no_frames due.command p.driver.made rows.LendDescriptors due.next (λ same. absurd (cc))) (book_owns p.driver k (owns p.driver has)) (with_book p.driver k old)
row_listed (rows.Unlink t) p due has old = unlinked_listed p t (slice_get p.driver.transfers t) (owns p.driver has) has.orderly refl due.first (ap is_calm due.idle) old
row_listed (rows.ReleaseRemoved what) p due has old = removed_listed p what due has.orderly (ap is_calm due.idle) old
row_listed (rows.ReleaseTransfer t) p due has old = transfer_listed p t (slice_get p.driver.transfers t) refl (ap is_calm due.idle) old
row_listed (rows.ReleaseEndpoint e) p due has old = endpoint_listed p e (slice_get p.driver.endpoints e) refl due.first has.orderly (ap is_calm due.idle) old
row_listed (rows.Harvest e t found) p due has old =
    subst (λ (o : Option Endpoint). IsListed (after_harvest p.driver p.memory e t found o (slice_get p.driver.transfers t))) (sym due.here)
    (subst (λ (o : Option Transfer). IsListed (after_harvest p.driver p.memory e t found (Some due.endpoint) o)) (sym due.there) (harvest_listed p e t found due has.orderly old))
row_listed rows.Rest p due has old = old
row_listed row p due has old =
    calm_listed p.driver _
    (tables p.driver _ refl refl refl (all_endpoints p.driver.endpoints) (all_transfers p.driver.transfers) refl)
    (λ idle. record { work = idle.work; queued = idle.queued }) (ap is_calm due.0) (ap is_calm due.0) old

pub events_keep_the_list : (p : Parts) → HasOwners p.driver → IsListed p.driver → IsListed (after_driver_row (driver_row p) p).driver
events_keep_the_list p has old = row_listed (driver_row p) p (each_event_is_due p) has old
