-- Each row of the driver but its own release tells an endpoint and its requests as they were.
use Rattle.std.proofs.Common.{◌≡◌, ◌≢◌, ℕ, zero, suc, ◌-◌, Bool, true, false, not, ◌&&◌, ◌||◌, ◌==◌, cond, if◌then◌else◌, nat_lt, map, List, [], ◌∷◌, ◌++◌, length, set, take, drop, slice_get, Option, Some, None, option_map, ap, sym, ◌∙◌, refl, ⊎_elim}
use Rattle.std.specs.Prelude.{is_none}
use Rattle.std.proofs.lemmas.Bool.{cases_eq}
use Rattle.std.proofs.lemmas.Option.{same_Some, slice_get-map}
use Rattle.law_common.proofs.Numbers.{other_number}
use Rattle.law_common.proofs.Lists.{set_here, set_there}
use Rattle.usb_base.specs.declared.endpoints.EpDesc.{EpDesc}
use Rattle.usb_base.specs.declared.endpoints.EpName.{EpName}
use Rattle.usb_base.specs.declared.endpoints.EndCause.{EndCause}
use Rattle.usb_base.specs.declared.reports.What.{What}
use Rattle.usb_base.specs.declared.reports.What.TheVariants as lines
use Rattle.word_mem.specs.Memory.{Mem}
use Rattle.mem_runs.specs.Book.{Holding, holding, lend_taken}
use Rattle.drv_periodic_table.specs.declared.content.Removed.TheVariants as removed
use Rattle.drv_periodic_table.specs.Linking.{begun_next}
use Rattle.drv_table.specs.declared.content.Endpoint.{Endpoint}
use Rattle.drv_table.specs.declared.content.Transfer.{Transfer}
use Rattle.drv_table.specs.declared.content.QtdNote.{QtdNote}
use Rattle.drv_table.specs.declared.content.Sort.{Sort}
use Rattle.drv_table.specs.declared.content.Command.{Command}
use Rattle.drv_table.specs.declared.content.Command.TheVariants as unfinished
use Rattle.drv_table.specs.declared.rows.DriverRow.{DriverRow}
use Rattle.drv_table.specs.declared.rows.DriverRow.TheVariants as rows
use Rattle.drv_table.specs.declared.rows.Found.{Found}
use Rattle.drv_table.specs.declared.rows.Found.TheVariants as founds
use Rattle.drv_table.specs.DriverContent.{DriverContent, no_note, waits_for, next_after}
use Rattle.drv_table.specs.Harvests.{note_at, reported, noted, is_stall, end_of}
use Rattle.drv_table.specs.Parts.{Parts}
use Rattle.drv_table.specs.Commands.{events_of, links, removes_members, leave_ring, leave_frames, no_command, finished, list_after, or_finished, linked_on, advanced_by, advance}
use Rattle.drv_table.specs.FrameChoice.{with_notes, framed_notes, placement_at, framed_by}
use Rattle.drv_table.specs.Removals.{after_unlink, after_descriptor, let_go_waiting, let_go_placed, after_placed}
use Rattle.drv_table.specs.Releases.{after_transfer, is_told, cancelled_bytes, cancel_told, let_go, after_endpoint}
use Rattle.drv_table.specs.Harvesting.{served, moved_on, told_with, goes_on, behind_one, behind, stalled, mends_of, after_end, descriptor_told, harvested_as, after_harvest}
use Rattle.drv_table.specs.Kinds.{is_iso}
use Rattle.drv_table.specs.Rows.{after_driver_row}
use Rattle.law_driver.proofs.lemmas.run_owners.Stays.{same_view, same_item}
use Rattle.law_reports.specs.requests.request_bytes.Fresh.{next_of}
use Rattle.law_reports.specs.requests.driver_requests.Rows.{TransferStays, KeepsRequests, given_by, KeepsEndpoint}

-- ---- what is told

pub record EndpointView : Type 0 where
  pub desc : EpDesc
  pub queue : ℕ
  pub gone : Bool

pub record TransferView : Type 0 where
  pub endpoint : ℕ
  pub sort : Sort
  pub first : ℕ
  pub qtds : ℕ
  pub released : Bool

abbrev pub endpoint_view : Endpoint → EndpointView
endpoint_view x = record { desc = x.desc; queue = x.queue; gone = x.gone }

abbrev pub transfer_view : Transfer → TransferView
transfer_view y = record { endpoint = y.endpoint; sort = y.sort; first = y.first; qtds = y.qtds; released = y.released }

pub record StayAlike (d e : DriverContent) : Type 0 where
  pub endpoints : (i : ℕ) → option_map endpoint_view (slice_get e.endpoints i) ≡ option_map endpoint_view (slice_get d.endpoints i)
  pub transfers : (t : ℕ) → option_map transfer_view (slice_get e.transfers t) ≡ option_map transfer_view (slice_get d.transfers t)
  pub notes : (b : ℕ) → next_of e.notes b ≡ next_of d.notes b

pub alike : (d e : DriverContent) → e.endpoints ≡ d.endpoints → e.transfers ≡ d.transfers → e.notes ≡ d.notes → StayAlike d e
alike d e endpoints transfers notes = record {
  endpoints = λ i. ap (λ (xs : List Endpoint). option_map endpoint_view (slice_get xs i)) endpoints;
  transfers = λ t. ap (λ (ys : List Transfer). option_map transfer_view (slice_get ys t)) transfers;
  notes = λ b. ap (λ (ns : List QtdNote). next_of ns b) notes;
}

pub nothing : (d : DriverContent) → StayAlike d d
nothing d = alike d d refl refl refl

both : (d e f : DriverContent) → StayAlike d e → StayAlike e f → StayAlike d f
both d e f one two = record {
  endpoints = λ i. two.endpoints i ∙ one.endpoints i;
  transfers = λ t. two.transfers t ∙ one.transfers t;
  notes = λ b. two.notes b ∙ one.notes b;
}

either : (d x y : DriverContent) (b : Bool) → StayAlike d x → StayAlike d y → StayAlike d (cond b x y)
either d x y true one two = one
either d x y false one two = two

-- one endpoint, one transfer is another
pub endpoint_set : (d e : DriverContent) (i : ℕ) (x z : Endpoint) → slice_get d.endpoints i ≡ Some x → e.endpoints ≡ set d.endpoints i z → endpoint_view z ≡ endpoint_view x → e.transfers ≡ d.transfers → e.notes ≡ d.notes
    → StayAlike d e
endpoint_set d e i x z here is same transfers notes = record {
  endpoints = λ k. ap (λ (xs : List Endpoint). option_map endpoint_view (slice_get xs k)) is ∙ same_view endpoint_view d.endpoints i x z here same k;
  transfers = λ t. ap (λ (ys : List Transfer). option_map transfer_view (slice_get ys t)) transfers;
  notes = λ b. ap (λ (ns : List QtdNote). next_of ns b) notes;
}

transfer_set : (d e : DriverContent) (t : ℕ) (y z : Transfer) → slice_get d.transfers t ≡ Some y → e.transfers ≡ set d.transfers t z → transfer_view z ≡ transfer_view y → e.endpoints ≡ d.endpoints
    → ((b : ℕ) → next_of e.notes b ≡ next_of d.notes b) → StayAlike d e
transfer_set d e t y z there is same endpoints notes = record {
  endpoints = λ i. ap (λ (xs : List Endpoint). option_map endpoint_view (slice_get xs i)) endpoints;
  transfers = λ k. ap (λ (ys : List Transfer). option_map transfer_view (slice_get ys k)) is ∙ same_view transfer_view d.transfers t y z there same k;
  notes = notes;
}

noted_next : (notes : List QtdNote) (b moved c : ℕ) → next_of (noted notes b moved) c ≡ next_of notes c
noted_next notes b moved c = same_item (λ (n : QtdNote). n.next) notes b (record (note_at notes b) { moved = moved }) no_note refl c

-- ---- a command's events

leaves_ring : (d : DriverContent) (e : ℕ) (o : Option Endpoint) → slice_get d.endpoints e ≡ o → StayAlike d (leave_ring d e o)
leaves_ring d e None here = nothing d
leaves_ring d e (Some x) here = either d _ d x.linked (endpoint_set d _ e x (record x { linked = false }) here refl refl refl refl) (nothing d)

leaves_frames : (d : DriverContent) (e : ℕ) (o : Option Endpoint) → slice_get d.endpoints e ≡ o → StayAlike d (leave_frames d e o)
leaves_frames d e None here = nothing d
leaves_frames d e (Some x) here = either d _ d x.chained (endpoint_set d _ e x (record x { chained = false }) here refl refl refl refl) (nothing d)

done : (d : DriverContent) (c : Command) → StayAlike d (finished d c)
done d (unfinished.Unlink e b link) = both d (no_command d) _ (alike d _ refl refl refl) (leaves_ring (no_command d) e (slice_get d.endpoints e) refl)
done d (unfinished.Unchain e) = both d (no_command d) _ (alike d _ refl refl refl) (leaves_frames (no_command d) e (slice_get d.endpoints e) refl)
done d _ = alike d _ refl refl refl

or_done : (d : DriverContent) (c : Command) → StayAlike d (or_finished d c)
or_done d c = either d (finished d c) d (is_none d.periodic.list.work) (done d c) (nothing d)

linked : (d : DriverContent) (c : Command) → StayAlike d (linked_on d c)
linked d c =
    let e = record d { made = length (events_of c); periodic = begun_next (removes_members c) (record d.periodic { list = list_after d c }) } in
    both d e (linked_on d c) (alike d e refl refl refl) (or_done e c)

went_on : (d : DriverContent) (o : Option Command) → StayAlike d (advanced_by d o)
went_on d None = nothing d
went_on d (Some c) =
    either d (record d { made = suc d.made }) (cond (links c) (linked_on d c) (finished d c)) (nat_lt (suc d.made) (length (events_of c))) (alike d _ refl refl refl)
    (either d (linked_on d c) (finished d c) (links c) (linked d c) (done d c))

pub advanced : (d : DriverContent) → StayAlike d (advance d)
advanced d = went_on d d.command

pub lent : (d : DriverContent) (m : Mem) → StayAlike d (advance (record d { book = (lend_taken (holding d.book m)).book }))
lent d m = let e = record d { book = (lend_taken (holding d.book m)).book } in both d e (advance e) (alike d e refl refl refl) (advanced e)

pub framed : (d : DriverContent) (n : ℕ) (o : Option Command) → StayAlike d (framed_by d n o)
framed d n (Some (unfinished.Iso e t count)) =
    let f = with_notes d n (take count (drop t d.transfers)) (framed_notes d n e t count (placement_at d e)) in both d f (advance f) (alike d f refl refl refl) (advanced f)
framed d n _ = nothing d

pub unlinks : (p : Parts) (t : ℕ) (o : Option Transfer) → StayAlike p.driver (after_unlink p t o).driver
unlinks p t None = nothing p.driver
unlinks p t (Some x) = alike p.driver _ refl refl refl

-- ---- a harvest

told : (d : DriverContent) (m : Mem) (t : ℕ) (y : Transfer) (what : What) (name : EpName) (n : ℕ) → slice_get d.transfers t ≡ Some y → StayAlike d (told_with d m t y what name (noted d.notes y.place n))
told d m t y what name n there = transfer_set d _ t y (record y { reported = true }) there refl refl refl (noted_next d.notes y.place n)

one_behind : (d : DriverContent) (e : ℕ) (name : EpName) (k : ℕ) (o : Option Transfer) → slice_get d.transfers k ≡ o → StayAlike d (behind_one d e name k o)
one_behind d e name k None there = nothing d
one_behind d e name k (Some y) there = either d _ d (waits_for e y) (transfer_set d _ k y (record y { reported = true }) there refl refl refl (λ b. refl)) (nothing d)

all_behind : (d : DriverContent) (e : ℕ) (name : EpName) (k n : ℕ) → StayAlike d (behind d e name k n)
unfolding behind
all_behind d e name k zero = nothing d
all_behind d e name k (suc n) =
    let f = behind_one d e name k (slice_get d.transfers k) in
    both d f (behind f e name (suc k) n) (one_behind d e name k (slice_get d.transfers k) refl) (all_behind f e name (suc k) n)

stalls : (d : DriverContent) (e t : ℕ) (x : Endpoint) → slice_get d.endpoints e ≡ Some x → StayAlike d (stalled d e t x)
stalls d e t x here =
    let now = record d { harvested = d.harvested ++ t ∷ []; endpoints = set d.endpoints e (record x { next = None }); mends = d.mends ++ mends_of x } in
    both d now (stalled d e t x) (endpoint_set d now e x (record x { next = None }) here refl refl refl refl) (all_behind now e x.desc.name (suc t) (length d.transfers - suc t))

ends : (d : DriverContent) (e t : ℕ) (x : Endpoint) (stall : Bool) (o : Option EndCause) → slice_get d.endpoints e ≡ Some x → StayAlike d (after_end d e t x stall o)
ends d e t x stall (Some cause) here = endpoint_set d _ e x (record x { ended = Some cause }) here refl refl refl refl
ends d e t x stall None here =
    either d (stalled d e t x) (goes_on d e t x) stall (stalls d e t x here) (endpoint_set d (goes_on d e t x) e x (record x { next = next_after d.transfers e t }) here refl refl refl refl)

read : (d : DriverContent) (m : Mem) (e t : ℕ) (x : Endpoint) (y : Transfer) (found : Found) → slice_get d.endpoints e ≡ Some x → slice_get d.transfers t ≡ Some y → StayAlike d (harvested_as d m e t x y found)
read d m e t x y founds.Active here there = nothing d
read d m e t x y (founds.Moved n) here there =
    transfer_set d (moved_on d t y n) t y (record y { place = (note_at d.notes y.place).next; left = y.left - 1 }) there refl refl refl (noted_next d.notes y.place n)
read d m e t x y (founds.Served errors) here there =
    let z = record y { reported = true } in
    let f = record d { transfers = set d.transfers t z } in
    both d f (descriptor_told d m e t x y errors) (transfer_set d f t y z there refl refl refl (λ b. refl))
    (endpoint_set f (descriptor_told d m e t x y errors) e x (record x { next = next_after d.transfers e t }) here refl refl refl refl)
read d m e t x y (founds.Ended n what) here there =
    let f = told_with d m t y what x.desc.name (noted d.notes y.place n) in
    both d f (after_end f e t x (is_stall what) (end_of x.desc.kind what)) (told d m t y what x.desc.name n there) (ends f e t x (is_stall what) (end_of x.desc.kind what) here)

pub harvested : (d : DriverContent) (m : Mem) (e t : ℕ) (found : Found) (o : Option Endpoint) (q : Option Transfer) → slice_get d.endpoints e ≡ o → slice_get d.transfers t ≡ q → StayAlike d (after_harvest d m e t found o q)
harvested d m e t found None q here there = nothing d
harvested d m e t found (Some x) None here there = nothing d
harvested d m e t found (Some x) (Some y) here there =
    let f = harvested_as d m e t x y found in
    either d (served f e) d (waits_for e y) (both d f (served f e) (read d m e t x y found here there) (alike f (served f e) refl refl refl)) (nothing d)

-- ---- what is told alike keeps the requests

record IsSeen {X Y : Type 0} (f : X → Y) (o : Option X) (y : Y) : Type 0 where
  value : X
  here : o ≡ Some value
  is : f value ≡ y

seen : {X Y : Type 0} (f : X → Y) (o : Option X) (y : Y) → option_map f o ≡ Some y → IsSeen f o y
seen f None y e = absurd (cc)
seen f (Some x) y e = record { value = x; here = refl; is = same_Some (f x) y e }

pub keeps : (given : Option ℕ) (d e : DriverContent) (i : ℕ) → StayAlike d e → KeepsRequests given d e i
keeps given d e i k = record {
  endpoint = λ x here.
      let s = seen endpoint_view (slice_get e.endpoints i) (endpoint_view x) (k.endpoints i ∙ ap (option_map endpoint_view) here) in
      record { own = s.value; here = s.here; desc = ap (λ (z : EndpointView). z.desc) s.is; queue = ap (λ (z : EndpointView). z.queue) s.is; gone = ap (λ (z : EndpointView). z.gone) s.is };
  transfers = λ t y there of.
      let s = seen transfer_view (slice_get e.transfers t) (transfer_view y) (k.transfers t ∙ ap (option_map transfer_view) there) in
      record {
        own = s.value;
        here = s.here;
        endpoint = ap (λ (z : TransferView). z.endpoint) s.is;
        sort = ap (λ (z : TransferView). z.sort) s.is;
        first = ap (λ (z : TransferView). z.first) s.is;
        qtds = ap (λ (z : TransferView). z.qtds) s.is;
        held = λ other. ap (λ (z : TransferView). z.released) s.is;
      };
  notes = λ t b y there of held piece. k.notes b;
}

-- ---- a transfer is given back

given_back : (d e : DriverContent) (t i : ℕ) (x : Transfer) → slice_get d.transfers t ≡ Some x → e.transfers ≡ set d.transfers t (record x { released = true }) → e.endpoints ≡ d.endpoints → e.notes ≡ d.notes
    → KeepsRequests (Some t) d e i
given_back d e t i x there is endpoints notes = record {
  endpoint = λ z here. record { own = z; here = ap (λ (xs : List Endpoint). slice_get xs i) endpoints ∙ here; desc = refl; queue = refl; gone = refl };
  transfers = λ k y here of. by k y here;
  notes = λ k b y here of held piece. ap (λ (ns : List QtdNote). next_of ns b) notes;
}
  where
    by : (k : ℕ) (y : Transfer) → slice_get d.transfers k ≡ Some y → TransferStays (Some t) e k y
    by k y here =
        let z = record x { released = true } in
        ⊎_elim {C = TransferStays (Some t) e k y}
        (λ (same : k ≡ t).
        let own : x ≡ y = same_Some x y (sym there ∙ ap (slice_get d.transfers) (sym same) ∙ here) in
        record {
          own = z;
          here = ap (λ (ys : List Transfer). slice_get ys k) is ∙ ap (slice_get (set d.transfers t z)) same ∙ set_here d.transfers t x z there;
          endpoint = ap (λ (w : Transfer). w.endpoint) own;
          sort = ap (λ (w : Transfer). w.sort) own;
          first = ap (λ (w : Transfer). w.first) own;
          qtds = ap (λ (w : Transfer). w.qtds) own;
          held = λ other. absurd (other (ap (λ (j : ℕ). Some j) (sym same)));
        })
        (λ (differs : k ≢ t).
        record {
          own = y;
          here = ap (λ (ys : List Transfer). slice_get ys k) is ∙ set_there d.transfers t k z differs ∙ here;
          endpoint = refl;
          sort = refl;
          first = refl;
          qtds = refl;
          held = λ other. refl;
        })
        (cases_eq k t)

transfer_given : (p : Parts) (t i : ℕ) (o : Option Transfer) (h : Holding) → slice_get p.driver.transfers t ≡ o → KeepsRequests (Some t) p.driver (after_transfer p t o h).driver i
transfer_given p t i None h there = keeps (Some t) p.driver p.driver i (nothing p.driver)
transfer_given p t i (Some x) h there = given_back p.driver _ t i x there refl refl refl

descriptor_given : (p : Parts) (t i : ℕ) (o : Option Transfer) → slice_get p.driver.transfers t ≡ o → KeepsRequests (Some t) p.driver (after_descriptor p t o).driver i
descriptor_given p t i None there = keeps (Some t) p.driver p.driver i (nothing p.driver)
descriptor_given p t i (Some x) there = given_back p.driver _ t i x there refl refl refl

-- ---- another endpoint is given back

picked : {A : Type 0} (g : DriverContent → A) (f d : DriverContent) (b : Bool) → g f ≡ g d → g (cond b f d) ≡ g d
picked g f d true same = same
picked g f d false same = refl

apart : (y : Transfer) (e i : ℕ) → y.endpoint ≡ i → i ≢ e → (y.endpoint == e) ≡ false
apart y e i of differs = other_number y.endpoint e (λ same. differs (sym of ∙ same))

spared : (e i : ℕ) (told : Bool) (y : Transfer) → y.endpoint ≡ i → i ≢ e → let_go e told y ≡ y
spared e i told y of differs = ap (λ (b : Bool). if b then record y { reported = y.reported || told; released = true } else y) (apart y e i of differs)

spared_waiting : (e i : ℕ) (told : Bool) (y : Transfer) → y.endpoint ≡ i → i ≢ e → let_go_waiting e told y ≡ y
spared_waiting e i told y of differs = ap (λ (b : Bool). if b && not y.reported then record y { reported = y.reported || told; released = true } else y) (apart y e i of differs)

spared_placed : (iso : Bool) (e i : ℕ) (told : Bool) (y : Transfer) → y.endpoint ≡ i → i ≢ e → let_go_placed iso e told y ≡ y
spared_placed true e i told y of differs = spared_waiting e i told y of differs
spared_placed false e i told y of differs = spared e i told y of differs

other_given : (d f : DriverContent) (e i : ℕ) (z : Endpoint) (g : Transfer → Transfer) → i ≢ e → f.endpoints ≡ set d.endpoints e z → f.transfers ≡ map g d.transfers → ((y : Transfer) → y.endpoint ≡ i → g y ≡ y)
    → f.notes ≡ d.notes → KeepsRequests None d f i
other_given d f e i z g differs endpoints transfers same notes = record {
  endpoint = λ x here. record { own = x; here = ap (λ (xs : List Endpoint). slice_get xs i) endpoints ∙ set_there d.endpoints e i z differs ∙ here; desc = refl; queue = refl; gone = refl };
  transfers = λ t y there of. record {
    own = y;
    here = ap (λ (ys : List Transfer). slice_get ys t) transfers ∙ slice_get-map g d.transfers t ∙ ap (option_map g) there ∙ ap (λ (w : Transfer). Some w) (same y of);
    endpoint = refl;
    sort = refl;
    first = refl;
    qtds = refl;
    held = λ other. refl;
  };
  notes = λ t b y there of held piece. ap (λ (ns : List QtdNote). next_of ns b) notes;
}

module _ (d : DriverContent) (m : Mem) (e : ℕ) (x : Endpoint) where
  abbrev now : DriverContent
  now = reported d lines.Cancel x.desc.name (cancelled_bytes d.notes m e x.queue d.transfers)

  told_endpoints : (cancel_told d m e x).endpoints ≡ d.endpoints
  told_endpoints = picked (λ (f : DriverContent). f.endpoints) now d (is_told x) refl

  pub told_transfers : (cancel_told d m e x).transfers ≡ d.transfers
  told_transfers = picked (λ (f : DriverContent). f.transfers) now d (is_told x) refl

  told_notes : (cancel_told d m e x).notes ≡ d.notes
  told_notes = picked (λ (f : DriverContent). f.notes) now d (is_told x) refl

endpoint_given : (p : Parts) (e i : ℕ) (o : Option Endpoint) → i ≢ e → KeepsRequests None p.driver (after_endpoint p e o).driver i
endpoint_given p e i None differs = keeps None p.driver p.driver i (nothing p.driver)
endpoint_given p e i (Some x) differs =
    let d = p.driver in
    other_given d (after_endpoint p e (Some x)).driver e i (record x { gone = true }) (let_go e (is_told x)) differs
    (ap (λ (xs : List Endpoint). set xs e (record x { gone = true })) (told_endpoints d p.memory e x)) (ap (λ (ys : List Transfer). map (let_go e (is_told x)) ys) (told_transfers d p.memory e x))
    (λ y of. spared e i (is_told x) y of differs) (told_notes d p.memory e x)

placed_given : (p : Parts) (e i : ℕ) (o : Option Endpoint) → i ≢ e → KeepsRequests None p.driver (after_placed p e o).driver i
placed_given p e i None differs = keeps None p.driver p.driver i (nothing p.driver)
placed_given p e i (Some x) differs =
    let d = p.driver in
    let g = let_go_placed (is_iso x.desc.kind) e (is_told x) in
    other_given d (after_placed p e (Some x)).driver e i (record x { gone = true }) g differs
    (ap (λ (xs : List Endpoint). set xs e (record x { gone = true })) (told_endpoints d p.memory e x)) (ap (λ (ys : List Transfer). map g ys) (told_transfers d p.memory e x))
    (λ y of. spared_placed (is_iso x.desc.kind) e i (is_told x) y of differs) (told_notes d p.memory e x)

-- ---- each row

pub each_row_keeps_requests : (p : Parts) (row : DriverRow) (i : ℕ) → KeepsEndpoint row i → KeepsRequests (given_by row) p.driver (after_driver_row row p).driver i
each_row_keeps_requests p rows.Lend i only = keeps None p.driver _ i (lent p.driver p.memory)
each_row_keeps_requests p (rows.Store b at v) i only = keeps None p.driver _ i (advanced p.driver)
each_row_keeps_requests p (rows.ReleaseTransfer t) i only = transfer_given p t i (slice_get p.driver.transfers t) _ refl
each_row_keeps_requests p (rows.ReleaseEndpoint e) i only = endpoint_given p e i (slice_get p.driver.endpoints e) only
each_row_keeps_requests p rows.Frames i only = keeps None p.driver _ i (framed p.driver p.registers.frame_index p.driver.command)
each_row_keeps_requests p rows.LendDescriptors i only = keeps None p.driver _ i (lent p.driver _)
each_row_keeps_requests p (rows.Unlink t) i only = keeps None p.driver _ i (unlinks p t (slice_get p.driver.transfers t))
each_row_keeps_requests p (rows.ReleaseRemoved (removed.Descriptor t)) i only = descriptor_given p t i (slice_get p.driver.transfers t) refl
each_row_keeps_requests p (rows.ReleaseRemoved (removed.Endpoint e)) i only = placed_given p e i (slice_get p.driver.endpoints e) only
each_row_keeps_requests p (rows.Harvest e t found) i only = keeps None p.driver _ i (harvested p.driver p.memory e t found (slice_get p.driver.endpoints e) (slice_get p.driver.transfers t) refl refl)
each_row_keeps_requests p rows.Rest i only = keeps None p.driver _ i (nothing p.driver)
each_row_keeps_requests p _ i only = keeps None p.driver _ i (alike p.driver _ refl refl refl)
