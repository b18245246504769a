-- What an event of the driver leaves of its descriptors: who is held was held, and was reported before, or is reported now since nothing of it is active.
use Rattle.std.proofs.Common.{◌≡◌, ◌≢◌, ℕ, zero, suc, ◌⊎◌, ◌&&◌, not, Bool, true, false, cond, if◌then◌else◌, List, [], ◌∷◌, length, map, slice_get, Option, Some, None, option_map, refl, ap, sym, subst, ◌∙◌, ⊎_elim, inl, inr}
use Rattle.std.specs.Prelude.{option_and_then, is_none, nat_lt, slice_set, ◌==◌}
use Rattle.std.proofs.lemmas.Bool.{false≢true, true≢false, cases_eq}
use Rattle.std.proofs.lemmas.List.{get_or-set_other}
use Rattle.std.proofs.lemmas.Option.{same_Some, slice_get-map}
use Rattle.law_common.proofs.Lists.{set_here, set_there}
use Rattle.word_mem.specs.Memory.{Mem}
use Rattle.bandwidth.specs.declared.placements.Placement.{Placement}
use Rattle.drv_periodic_table.specs.declared.content.DescriptorNote.{DescriptorNote}
use Rattle.drv_periodic_table.specs.Periodic.{PeriodicContent, note_at}
use Rattle.drv_periodic_table.specs.Frames.{frames_from}
use Rattle.drv_periodic_table.specs.Linking.{begun_next}
use Rattle.drv_periodic_table.specs.Descriptors.{is_served, errors_in}
use Rattle.drv_table.specs.declared.content.Endpoint.{Endpoint}
use Rattle.drv_table.specs.declared.content.Transfer.{Transfer}
use Rattle.drv_table.specs.declared.content.Sort.{Sort}
use Rattle.drv_table.specs.declared.content.Sort.TheVariants as sorts
use Rattle.drv_table.specs.declared.content.Command.{Command}
use Rattle.drv_table.specs.declared.content.Command.TheVariants as unfinished
use Rattle.drv_table.specs.declared.rows.Found.{Found}
use Rattle.drv_table.specs.declared.rows.Found.TheVariants as founds
use Rattle.drv_table.specs.DriverContent.{DriverContent, waits_for}
use Rattle.drv_table.specs.Parts.{Parts}
use Rattle.drv_table.specs.Commands.{links, events_of, no_command, leave_ring, leave_frames, finished, list_after, removes_members, or_finished, linked_on, advanced_by}
use Rattle.drv_table.specs.FrameChoice.{with_frames}
use Rattle.drv_table.specs.Releases.{let_go}
use Rattle.drv_table.specs.Removals.{let_go_placed, let_go_waiting}
use Rattle.drv_table.specs.Harvesting.{found_of, served, descriptor_told, after_harvest}
use Rattle.claims_driver.specs.Owners.{is_descriptor, runs_of_transfer, TransferRuns}
use Rattle.claims_driver.specs.Leaving.{IsOrderly}
use Rattle.law_driver.specs.run_owners.Due.{IsHarvestDue}
use Rattle.law_driver.proofs.lemmas.run_owners.Harvest.{Waits, waits_is, is_served_found}
use Rattle.law_driver.proofs.lemmas.run_owners.Stays.{begun_notes, StaysPlaced, harvest_stays}
use Rattle.claims_driver.specs.FrameListMembers.{Placed, placed_of, placed_in, framed_of, framed_in, is_chained}
use Rattle.law_driver.proofs.lemmas.listed_members.Stays.{SameTransfers, endpoint_set}
use Rattle.law_driver.proofs.lemmas.listed_members.Calm.{IsQuiet, harvest_quiet, ended_plain, is_ended_found}
use Rattle.law_driver.proofs.lemmas.listed_members.Events.{plain_by}
use Rattle.law_admission.proofs.Events.{either}
use Rattle.claims_driver.specs.DueMembers.{framed_to}
use Rattle.law_microframes.proofs.lemmas.visits.OneDescriptorMet.{there}
use Rattle.law_microframes.proofs.lemmas.visits.BelongTold.{or_left}

-- ---- who is held

pub record From (d : DriverContent) (m : Mem) (t : ℕ) (z : Transfer) : Type 0 where
  pub transfer : Transfer
  pub here : slice_get d.transfers t ≡ Some transfer
  pub descriptor : is_descriptor transfer.sort ≡ true
  pub held : transfer.released ≡ false
  pub endpoint : transfer.endpoint ≡ z.endpoint
  pub first : transfer.first ≡ z.first
  pub told : z.reported ≡ true → (transfer.reported ≡ true) ⊎ (is_served (note_at d.periodic.notes transfer.first) m transfer.first ≡ true)
  pub untold : z.reported ≡ false → transfer.reported ≡ false

-- those that are held come from the ones that were
abbrev pub Back : DriverContent → Mem → List Transfer → Type 0
Back d m ts = (t : ℕ) (z : Transfer) → slice_get ts t ≡ Some z → is_descriptor z.sort ≡ true → z.released ≡ false → From d m t z

abbrev pub Out : DriverContent → List Endpoint → Type 0
Out d xs = (e : ℕ) → is_chained (framed_in xs e) ≡ false → (is_chained (framed_in d.endpoints e) ≡ false) ⊎ (framed_to d.command d.made (length d.transfers) ≡ length d.transfers)

pub from_itself : (d : DriverContent) (m : Mem) (t : ℕ) (z : Transfer) → slice_get d.transfers t ≡ Some z → is_descriptor z.sort ≡ true → z.released ≡ false → From d m t z
from_itself d m t z here sort held =
    record { transfer = z; here = here; descriptor = sort; held = held; endpoint = refl; first = refl; told = λ on. inl on; untold = λ off. off }

pub back_same : (d : DriverContent) (m : Mem) (ts : List Transfer) → ts ≡ d.transfers → Back d m ts
back_same d m ts is t z here = from_itself d m t z (ap (λ (us : List Transfer). slice_get us t) (sym is) ∙ here)

pub out_same : (d : DriverContent) (xs : List Endpoint) → ((e : ℕ) → framed_in xs e ≡ framed_in d.endpoints e) → Out d xs
out_same d xs is e off = inl (ap is_chained (sym (is e)) ∙ off)

-- one was given back
pub back_released : (d : DriverContent) (m : Mem) (t : ℕ) (y : Transfer) → slice_get d.transfers t ≡ Some y → Back d m (slice_set d.transfers t (record y { released = true }))
back_released d m t y there u z here sort held =
    ⊎_elim
    (λ (hit : u ≡ t).
    let is : record y { released = true } ≡ z = same_Some (record y { released = true }) z (sym (set_here d.transfers t y (record y { released = true }) there) ∙ ap (slice_get (slice_set d.transfers t (record y { released = true }))) (sym hit) ∙ here) in
    absurd (true≢false (ap (λ (x : Transfer). x.released) is ∙ held)))
    (λ (off : u ≢ t). from_itself d m u z (sym (set_there d.transfers t u (record y { released = true }) off) ∙ here) sort held) (cases_eq u t)

-- those of an endpoint were

either_gone : (b : Bool) (y z : Transfer) → z.released ≡ true → ((if b then z else y).released ≡ true) ⊎ ((if b then z else y) ≡ y)
either_gone true y z gone = inl gone
either_gone false y z gone = inr refl

gone_all : (e : ℕ) (told : Bool) (y : Transfer) → ((let_go e told y).released ≡ true) ⊎ (let_go e told y ≡ y)
gone_all e told y = either_gone (y.endpoint == e) y _ refl

gone_waiting : (e : ℕ) (told : Bool) (y : Transfer) → ((let_go_waiting e told y).released ≡ true) ⊎ (let_go_waiting e told y ≡ y)
gone_waiting e told y = either_gone (waits_for e y) y _ refl

pub gone_placed : (iso : Bool) (e : ℕ) (told : Bool) (y : Transfer) → ((let_go_placed iso e told y).released ≡ true) ⊎ (let_go_placed iso e told y ≡ y)
gone_placed true e told y = gone_waiting e told y
gone_placed false e told y = gone_all e told y

pub back_gone : (d : DriverContent) (m : Mem) (f : Transfer → Transfer) → ((y : Transfer) → ((f y).released ≡ true) ⊎ (f y ≡ y)) → Back d m (map f d.transfers)
back_gone d m f each t z here sort held = by (slice_get d.transfers t) refl (sym (slice_get-map f d.transfers t) ∙ here)
  where
    by : (o : Option Transfer) → slice_get d.transfers t ≡ o → option_map f o ≡ Some z → From d m t z
    by None was is = absurd (cc)
    by (Some y) was is =
        let now : f y ≡ z = same_Some (f y) z is in
        ⊎_elim (λ (gone : (f y).released ≡ true). absurd (true≢false (sym gone ∙ ap (λ (x : Transfer). x.released) now ∙ held)))
        (λ (stays : f y ≡ y). from_itself d m t z (was ∙ ap Some (sym stays ∙ now)) sort held) (each y)

pub back_all : (d : DriverContent) (m : Mem) (e : ℕ) (told : Bool) → Back d m (map (let_go e told) d.transfers)
back_all d m e told = back_gone d m (let_go e told) (gone_all e told)

pub back_placed : (d : DriverContent) (m : Mem) (iso : Bool) (e : ℕ) (told : Bool) → Back d m (map (let_go_placed iso e told) d.transfers)
back_placed d m iso e told = back_gone d m (let_go_placed iso e told) (gone_placed iso e told)

-- ---- one more event of the command

left_transfers : (d : DriverContent) (e : ℕ) (o : Option Endpoint) → (leave_ring d e o).transfers ≡ d.transfers
left_transfers d e None = refl
left_transfers d e (Some x) = either (λ (g : DriverContent). g.transfers) x.linked _ d d.transfers refl refl

out_transfers : (d : DriverContent) (e : ℕ) (o : Option Endpoint) → (leave_frames d e o).transfers ≡ d.transfers
out_transfers d e None = refl
out_transfers d e (Some x) = either (λ (g : DriverContent). g.transfers) x.chained _ d d.transfers refl refl

pub done_transfers : (d : DriverContent) (c : Command) → (finished d c).transfers ≡ d.transfers
done_transfers d (unfinished.Unlink e b link) = left_transfers (no_command d) e (slice_get d.endpoints e)
done_transfers d (unfinished.Unchain e) = out_transfers (no_command d) e (slice_get d.endpoints e)
done_transfers d _ = refl

pub advanced_transfers : (d : DriverContent) (o : Option Command) → (advanced_by d o).transfers ≡ d.transfers
advanced_transfers d None = refl
advanced_transfers d (Some c) =
    either (λ (g : DriverContent). g.transfers) (nat_lt (suc d.made) (length (events_of c))) (record d { made = suc d.made }) (if links c then linked_on d c else finished d c) d.transfers refl
    (either (λ (g : DriverContent). g.transfers) (links c) (linked_on d c) (finished d c) d.transfers (or_left _ c) (done_transfers d c))

left_notes : (d : DriverContent) (e : ℕ) (o : Option Endpoint) → (leave_ring d e o).periodic.notes ≡ d.periodic.notes
left_notes d e None = refl
left_notes d e (Some x) = either (λ (g : DriverContent). g.periodic.notes) x.linked _ d d.periodic.notes refl refl

out_notes : (d : DriverContent) (e : ℕ) (o : Option Endpoint) → (leave_frames d e o).periodic.notes ≡ d.periodic.notes
out_notes d e None = refl
out_notes d e (Some x) = either (λ (g : DriverContent). g.periodic.notes) x.chained _ d d.periodic.notes refl refl

pub done_notes : (d : DriverContent) (c : Command) → (finished d c).periodic.notes ≡ d.periodic.notes
done_notes d (unfinished.Unlink e b link) = left_notes (no_command d) e (slice_get d.endpoints e)
done_notes d (unfinished.Unchain e) = out_notes (no_command d) e (slice_get d.endpoints e)
done_notes d _ = refl

pub or_notes : (d : DriverContent) (c : Command) → (or_finished d c).periodic.notes ≡ d.periodic.notes
or_notes d c = either (λ (g : DriverContent). g.periodic.notes) (is_none d.periodic.list.work) (finished d c) d d.periodic.notes (done_notes d c) refl

pub advanced_notes : (d : DriverContent) (o : Option Command) → (advanced_by d o).periodic.notes ≡ d.periodic.notes
advanced_notes d None = refl
advanced_notes d (Some c) =
    either (λ (g : DriverContent). g.periodic.notes) (nat_lt (suc d.made) (length (events_of c))) (record d { made = suc d.made }) (if links c then linked_on d c else finished d c) d.periodic.notes refl
    (either (λ (g : DriverContent). g.periodic.notes) (links c) (linked_on d c) (finished d c) d.periodic.notes
    (or_notes (record d { made = length (events_of c); periodic = begun_next (removes_members c) (record d.periodic { list = list_after d c }) }) c
    ∙ begun_notes (removes_members c) (record d.periodic { list = list_after d c })) (done_notes d c))

-- of a command with descriptors no endpoint leaves its frames
pub iso_endpoints : (d : DriverContent) (e t count : ℕ) → (advanced_by d (Some (unfinished.Iso e t count))).endpoints ≡ d.endpoints
iso_endpoints d e t count =
    either (λ (g : DriverContent). g.endpoints) (nat_lt (suc d.made) 2) (record d { made = suc d.made }) (linked_on d (unfinished.Iso e t count)) d.endpoints refl (or_endpoints _)
  where
    or_endpoints : (f : DriverContent) → (or_finished f (unfinished.Iso e t count)).endpoints ≡ f.endpoints
    or_endpoints f = either (λ (g : DriverContent). g.endpoints) (is_none f.periodic.list.work) (no_command f) f f.endpoints refl refl

pub advanced_out : (d f : DriverContent) (o : Option Command) → f.endpoints ≡ d.endpoints → d.command ≡ o → Out d (advanced_by f o).endpoints
advanced_out d f None is command e off = inl (ap (λ (xs : List Endpoint). is_chained (framed_in xs e)) (sym is) ∙ off)
advanced_out d f (Some (unfinished.Iso i t count)) is command e off =
    inl (ap (λ (xs : List Endpoint). is_chained (framed_in xs e)) (sym (iso_endpoints f i t count ∙ is)) ∙ off)
advanced_out d f _ is command e off = inr (ap (λ (c : Option Command). framed_to c d.made (length d.transfers)) command)

-- ---- frames

-- what has other blocks has its frame as before
pub framed_elsewhere : (p : Placement) (ts : List Transfer) (f : ℕ) (notes : List DescriptorNote) (b : ℕ) → ((i : ℕ) (y : Transfer) → slice_get ts i ≡ Some y → y.first ≢ b) → note_at (with_frames p ts f notes) b ≡ note_at notes b
unfolding with_frames
framed_elsewhere p [] f notes b apart = refl
framed_elsewhere p (t ∷ ts) f notes b apart =
    framed_elsewhere p ts (frames_from p f 1) (slice_set notes t.first (record (note_at notes t.first) { frame = f })) b (λ i y here. apart (suc i) y here)
    ∙ get_or-set_other notes t.first b _ _ (λ is. apart 0 t refl (sym is))

-- ---- harvest

-- of some endpoint that is in its frames
unfoldable row_of : Endpoint → ℕ → List Endpoint
row_of x zero = x ∷ []
row_of x (suc n) = x ∷ row_of x n

row_last : (x : Endpoint) (n : ℕ) → slice_get (row_of x n) n ≡ Some x
unfolding row_of
row_last x zero = refl
row_last x (suc n) = row_last x n

pub same_reported : (ts us : List Transfer) (t : ℕ) (y z : Transfer) (x : Endpoint) → SameTransfers ts us → slice_get ts t ≡ Some y → slice_get us t ≡ Some z → is_descriptor y.sort ≡ true → is_descriptor z.sort ≡ true → y.endpoint ≡ z.endpoint → z.reported ≡ y.reported
same_reported ts us t y z x alike one two sort_y sort_z at = off y.reported z.reported waits
  where
    in_it : Endpoint
    in_it = record x { chained = true }

    xs : List Endpoint
    xs = row_of in_it y.endpoint

    chained : is_chained (framed_in xs y.endpoint) ≡ true
    chained = ap (λ (o : Option Endpoint). is_chained (option_map framed_of o)) (row_last in_it y.endpoint)

    of : Transfer → Placed
    of v = record { endpoint = v.endpoint; block = v.first; waits = not v.reported && is_chained (framed_in xs v.endpoint) }

    seen_y : placed_in xs ts t ≡ Some (of y)
    seen_y = ap (option_and_then (placed_of xs)) one ∙ ap (λ (b : Bool). cond b (Some (of y)) None) sort_y

    seen_z : placed_in xs us t ≡ Some (of z)
    seen_z = ap (option_and_then (placed_of xs)) two ∙ ap (λ (b : Bool). cond b (Some (of z)) None) sort_z

    both : of z ≡ of y
    both = same_Some (of z) (of y) (sym seen_z ∙ alike.placed xs t ∙ seen_y)

    waits : not z.reported && true ≡ not y.reported && true
    waits =
        ap (λ (b : Bool). not z.reported && b) (sym (ap (λ (i : ℕ). is_chained (framed_in xs i)) (sym at) ∙ chained)) ∙ ap (λ (p : Placed). p.waits) both ∙ ap (λ (b : Bool). not y.reported && b) chained

    off : (a b : Bool) → not b && true ≡ not a && true → b ≡ a
    off true true e = refl
    off true false e = absurd (true≢false e)
    off false true e = absurd (false≢true e)
    off false false e = refl

module _ (p : Parts) (e t : ℕ) (found : Found) (due : IsHarvestDue p e t found) (order : IsOrderly p.driver) where
  abbrev d : DriverContent
  d = p.driver

  abbrev x : Endpoint
  x = due.endpoint

  abbrev y : Transfer
  y = due.transfer

  wait : Waits e due.transfer
  wait = waits_is e y due.waits

  abbrev after : Found → DriverContent
  after k = after_harvest p.driver p.memory e t k (Some due.endpoint) (Some due.transfer)

  quiet : (k : Found) → k ≡ found_of p.driver p.memory due.transfer due.transfer.sort → is_served_found k ≡ false → IsQuiet p.driver (after k)
  quiet k tells off =
      harvest_quiet d p.memory e t k x y off due.here due.there (λ ended. plain_by d e t x y order due.here due.there wait.endpoint (ended_plain d p.memory y y.sort (sym (ap is_ended_found tells) ∙ ended)))

  quiet_back : (k : Found) → IsQuiet p.driver (after k) → StaysPlaced p.driver (after k) → Back p.driver p.memory (after k).transfers
  quiet_back k q s u z here sort held =
      let was = there d.transfers u (runs_of_transfer z) (sym (s.same.transfers u) ∙ ap (option_map runs_of_transfer) here) in
      let v = was.transfer in
      let sort_v : is_descriptor v.sort ≡ true = ap (λ (r : TransferRuns). r.isochronous) was.is ∙ sort in
      let at : v.endpoint ≡ z.endpoint = ap (λ (r : TransferRuns). r.endpoint) was.is in
      let same : z.reported ≡ v.reported = same_reported d.transfers (after k).transfers u v z x q.transfers was.here here sort_v sort at in
      record {
        transfer = v;
        here = was.here;
        descriptor = sort_v;
        held = ap (λ (r : TransferRuns). r.released) was.is ∙ held;
        endpoint = at;
        first = ap (λ (r : TransferRuns). r.first) was.is;
        told = λ on. inl (sym same ∙ on);
        untold = λ off. sym same ∙ off;
      }

  stays : (k : Found) → StaysPlaced p.driver (after k)
  stays k = harvest_stays d p.memory e t k (Some x) (Some y) due.here due.there

  served_by : (errors : ℕ) (b : Bool) → founds.Served errors ≡ (if b then founds.Served (errors_in (note_at d.periodic.notes y.first) p.memory y.first) else founds.Active) → b ≡ true
  served_by errors true tells = refl
  served_by errors false tells = absurd (cc)

  served_at : (errors : ℕ) (s : Sort) → founds.Served errors ≡ found_of p.driver p.memory due.transfer s → is_descriptor s ≡ true → is_served (note_at p.driver.periodic.notes due.transfer.first) p.memory due.transfer.first ≡ true
  served_at errors sorts.Descriptor tells sort = served_by errors (is_served (note_at d.periodic.notes y.first) p.memory y.first) tells
  served_at errors _ tells sort = absurd (false≢true sort)

  told_back : (errors : ℕ) → founds.Served errors ≡ found_of p.driver p.memory due.transfer due.transfer.sort → Back p.driver p.memory (slice_set p.driver.transfers t (record due.transfer { reported = true }))
  told_back errors tells u z here sort held =
      let v : Transfer = record y { reported = true } in
      ⊎_elim
      (λ (hit : u ≡ t).
      let is : v ≡ z = same_Some v z (sym (set_here d.transfers t y v due.there) ∙ ap (slice_get (slice_set d.transfers t v)) (sym hit) ∙ here) in
      let its : is_descriptor y.sort ≡ true = ap (λ (r : Transfer). is_descriptor r.sort) is ∙ sort in
      record {
        transfer = y;
        here = ap (slice_get d.transfers) hit ∙ due.there;
        descriptor = its;
        held = ap (λ (r : Transfer). r.released) is ∙ held;
        endpoint = ap (λ (r : Transfer). r.endpoint) is;
        first = ap (λ (r : Transfer). r.first) is;
        told = λ on. inr (served_at errors y.sort tells its);
        untold = λ off. wait.reported;
      })
      (λ (off : u ≢ t). from_itself d p.memory u z (sym (set_there d.transfers t u v off) ∙ here) sort held) (cases_eq u t)

  back_by : (k : Found) → k ≡ found_of p.driver p.memory due.transfer due.transfer.sort → Back p.driver p.memory (after k).transfers
  back_by founds.Active tells = quiet_back founds.Active (quiet founds.Active tells refl) (stays founds.Active)
  back_by (founds.Moved n) tells = quiet_back (founds.Moved n) (quiet (founds.Moved n) tells refl) (stays (founds.Moved n))
  back_by (founds.Ended n what) tells = quiet_back (founds.Ended n what) (quiet (founds.Ended n what) tells refl) (stays (founds.Ended n what))
  back_by (founds.Served errors) tells =
      subst (λ (b : Bool). Back d p.memory (cond b (served (descriptor_told d p.memory e t x y errors) e) d).transfers) (sym due.waits) (told_back errors tells)

  out_by : (k : Found) → k ≡ found_of p.driver p.memory due.transfer due.transfer.sort → Out p.driver (after k).endpoints
  out_by founds.Active tells = out_same d _ (quiet founds.Active tells refl).endpoints.framed
  out_by (founds.Moved n) tells = out_same d _ (quiet (founds.Moved n) tells refl).endpoints.framed
  out_by (founds.Ended n what) tells = out_same d _ (quiet (founds.Ended n what) tells refl).endpoints.framed
  out_by (founds.Served errors) tells =
      subst (λ (b : Bool). Out d (cond b (served (descriptor_told d p.memory e t x y errors) e) d).endpoints) (sym due.waits)
      (out_same d _ (endpoint_set d.endpoints e x (record x { next = _ }) due.here refl refl (λ off. off)).framed)

  notes_by : (k : Found) → k ≡ found_of p.driver p.memory due.transfer due.transfer.sort → (after k).periodic.notes ≡ p.driver.periodic.notes
  notes_by founds.Active tells = ap (λ (q : PeriodicContent). q.notes) (quiet founds.Active tells refl).periodic
  notes_by (founds.Moved n) tells = ap (λ (q : PeriodicContent). q.notes) (quiet (founds.Moved n) tells refl).periodic
  notes_by (founds.Ended n what) tells = ap (λ (q : PeriodicContent). q.notes) (quiet (founds.Ended n what) tells refl).periodic
  notes_by (founds.Served errors) tells =
      either (λ (g : DriverContent). g.periodic.notes) (waits_for e y) (served (descriptor_told d p.memory e t x y errors) e) d d.periodic.notes refl refl

  pub harvest_back : Back p.driver p.memory (after_harvest p.driver p.memory e t found (Some due.endpoint) (Some due.transfer)).transfers
  harvest_back = back_by found due.tells

  pub harvest_out : Out p.driver (after_harvest p.driver p.memory e t found (Some due.endpoint) (Some due.transfer)).endpoints
  harvest_out = out_by found due.tells

  pub harvest_notes : (after_harvest p.driver p.memory e t found (Some due.endpoint) (Some due.transfer)).periodic.notes ≡ p.driver.periodic.notes
  harvest_notes = notes_by found due.tells
