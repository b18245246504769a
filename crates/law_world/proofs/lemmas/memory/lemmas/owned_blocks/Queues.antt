-- The list of harvested transfers has none of a descriptor.
use Rattle.std.proofs.Common.{◌≡◌, ◌≢◌, ℕ, zero, suc, ◌-◌, ◌≤◌, ◌==◌, Bool, true, false, ◌||◌, cond, List, [], ◌∷◌, ◌++◌, length, map, drop, set, slice_get, Option, Some, None, option_map, ap, refl, sym, subst, ◌∙◌, ⊎_elim, arith}
use Rattle.std.proofs.lemmas.Bool.{cases_eq, false≢true}
use Rattle.std.proofs.lemmas.Option.{slice_get-map}
use Rattle.law_common.proofs.Options.{same_Some}
use Rattle.law_common.proofs.Lists.{set_here, set_there}
use Rattle.usb_base.specs.declared.endpoints.EpName.{EpName}
use Rattle.usb_base.specs.declared.endpoints.EndCause.{EndCause}
use Rattle.word_mem.specs.Memory.{Mem}
use Rattle.drv_periodic_table.specs.Descriptors.{is_served, errors_in}
use Rattle.drv_periodic_table.specs.Periodic.{note_at as descriptor_at}
use Rattle.drv_table.specs.declared.content.Endpoint.{Endpoint}
use Rattle.drv_table.specs.declared.content.Transfer.{Transfer}
use Rattle.drv_table.specs.declared.content.Sort.{Sort}
use Rattle.drv_table.specs.declared.content.Sort.TheVariants as sorts
use Rattle.drv_table.specs.declared.rows.Found.{Found}
use Rattle.drv_table.specs.declared.rows.Found.TheVariants as founds
use Rattle.drv_table.specs.DriverContent.{DriverContent, waits_for}
use Rattle.drv_table.specs.Harvests.{note_at, noted, is_stall, end_of}
use Rattle.drv_table.specs.Kinds.{is_iso}
use Rattle.drv_table.specs.Harvesting.{found_of, behind_one, behind, mends_of, told_with, after_end, served, harvested_as, after_harvest}
use Rattle.drv_table.specs.Releases.{let_go}
use Rattle.drv_table.specs.Removals.{let_go_waiting, let_go_placed}
use Rattle.claims_driver.specs.Owners.{TransferRuns, is_descriptor, runs_of_transfer, transfer_in}
use Rattle.claims_driver.specs.Leaving.{times, IsOrderly}
use Rattle.law_driver.proofs.lemmas.run_owners.Stays.{same_view}
use Rattle.law_driver.proofs.lemmas.run_owners.Orders.{times_push, none_other}
use Rattle.law_driver.proofs.lemmas.run_owners.Harvest.{waits_is}
use Rattle.law_world.specs.memory.owned_blocks.Owned.{AreQueuesHarvested}
use Rattle.law_world.proofs.lemmas.memory.lemmas.owned_blocks.Whose.{transfer_at}

abbrev pub AreQueues : List ℕ → List Transfer → Type 0
AreQueues hs ts = (t : ℕ) (y : TransferRuns) → 1 ≤ times t hs → transfer_in ts t ≡ Some y → y.isochronous ≡ false

pub queues_alike : (hs : List ℕ) (ts us : List Transfer) → ((t : ℕ) → transfer_in us t ≡ transfer_in ts t) → AreQueues hs ts → AreQueues hs us
queues_alike hs ts us same old t y some there = old t y some (sym (same t) ∙ there)

pub queues_pushed : (hs : List ℕ) (ts : List Transfer) (k : ℕ) → ((y : TransferRuns) → transfer_in ts k ≡ Some y → y.isochronous ≡ false) → AreQueues hs ts → AreQueues (hs ++ k ∷ []) ts
queues_pushed hs ts k new old t y some there =
    ⊎_elim (λ (same : t ≡ k). new y (ap (transfer_in ts) (sym same) ∙ there))
    (λ (differs : t ≢ k). old t y (omega (arith, some, times_push t k hs, none_other k t (λ same. differs (sym same)))) there)
    (cases_eq t k)

pub times_dropped : (t : ℕ) (hs : List ℕ) → times t (drop 1 hs) ≤ times t hs
times_dropped t [] = omega arith
times_dropped t (h ∷ hs) = omega arith

-- one transfer is changed
pub queues_set : (hs js : List ℕ) (ts : List Transfer) (t : ℕ) (x z : Transfer) → slice_get ts t ≡ Some x → z.sort ≡ x.sort → ((u : ℕ) → times u js ≤ times u hs) → AreQueues hs ts → AreQueues js (set ts t z)
queues_set hs js ts t x z here same fewer old u y some there =
    ⊎_elim
    (λ (at : u ≡ t).
    let is : runs_of_transfer z ≡ y = same_Some (runs_of_transfer z) y (sym (ap (option_map runs_of_transfer) (ap (slice_get (set ts t z)) at ∙ set_here ts t x z here)) ∙ there) in
    ap (λ (r : TransferRuns). r.isochronous) (sym is) ∙ ap is_descriptor same
    ∙ old u (runs_of_transfer x) (omega (arith, some, fewer u)) (ap (transfer_in ts) at ∙ ap (option_map runs_of_transfer) here))
    (λ (differs : u ≢ t). old u y (omega (arith, some, fewer u)) (sym (ap (option_map runs_of_transfer) (set_there ts t u z differs)) ∙ there))
    (cases_eq u t)

-- all transfers are, but for their sorts
pub queues_mapped : (hs : List ℕ) (ts : List Transfer) (go : Transfer → Transfer) → ((y : Transfer) → (go y).sort ≡ y.sort) → AreQueues hs ts → AreQueues hs (map go ts)
queues_mapped hs ts go same old t y some there =
    by (slice_get ts t) refl (sym (ap (option_map runs_of_transfer) (slice_get-map go ts t)) ∙ there)
  where
    by : (o : Option Transfer) → slice_get ts t ≡ o → option_map runs_of_transfer (option_map go o) ≡ Some y → y.isochronous ≡ false
    by None here is = absurd (cc)
    by (Some z) here is =
        ap (λ (r : TransferRuns). r.isochronous) (sym (same_Some (runs_of_transfer (go z)) y is)) ∙ ap is_descriptor (same z) ∙ old t (runs_of_transfer z) some (ap (option_map runs_of_transfer) here)

either_sort : (b : Bool) (y z : Transfer) → z.sort ≡ y.sort → (cond b z y).sort ≡ y.sort
either_sort true y z same = same
either_sort false y z same = refl

pub let_go_sort : (e : ℕ) (told : Bool) (y : Transfer) → (let_go e told y).sort ≡ y.sort
let_go_sort e told y = either_sort (y.endpoint == e) y (record y { reported = y.reported || told; released = true }) refl

let_waiting_sort : (e : ℕ) (told : Bool) (y : Transfer) → (let_go_waiting e told y).sort ≡ y.sort
let_waiting_sort e told y = either_sort (waits_for e y) y (record y { reported = y.reported || told; released = true }) refl

pub let_placed_sort : (iso : Bool) (e : ℕ) (told : Bool) (y : Transfer) → (let_go_placed iso e told y).sort ≡ y.sort
let_placed_sort true e told y = let_waiting_sort e told y
let_placed_sort false e told y = let_go_sort e told y

-- ---- harvest

-- no transfer of the endpoint has a descriptor
abbrev AreAllQueued : DriverContent → ℕ → Type 0
AreAllQueued d e = (k : ℕ) (z : TransferRuns) → transfer_in d.transfers k ≡ Some z → z.endpoint ≡ e → z.isochronous ≡ false

record StillQueues (d : DriverContent) (e : ℕ) : Type 0 where
  queues : AreQueuesHarvested d
  all : AreAllQueued d e

pick : (d e f : DriverContent) (i : ℕ) (b : Bool) → (b ≡ true → StillQueues e i) → StillQueues f i → StillQueues (cond b e f) i
pick d e f i true one two = one refl
pick d e f i false one two = two

-- a transfer that waits there is reported, and is to be given back
one_more : (d f : DriverContent) (e k : ℕ) (y z : Transfer) → slice_get d.transfers k ≡ Some y → y.endpoint ≡ e → runs_of_transfer z ≡ runs_of_transfer y → f.harvested ≡ d.harvested ++ k ∷ [] → f.transfers ≡ set d.transfers k z → StillQueues d e → StillQueues f e
one_more d f e k y z there at same harvested transfers old =
    let alike : (u : ℕ) → transfer_in f.transfers u ≡ transfer_in d.transfers u = λ u. ap (λ (ts : List Transfer). transfer_in ts u) transfers ∙ same_view runs_of_transfer d.transfers k y z there same u in
    let place : (r : TransferRuns) → transfer_in d.transfers k ≡ Some r → r.endpoint ≡ e = λ r is.
    ap (λ (q : TransferRuns). q.endpoint) (sym (same_Some (runs_of_transfer y) r (sym (ap (option_map runs_of_transfer) there) ∙ is))) ∙ at in
    record {
      queues =
          queues_alike f.harvested d.transfers f.transfers alike
          (subst (λ (hs : List ℕ). AreQueues hs d.transfers) (sym harvested) (queues_pushed d.harvested d.transfers k (λ r is. old.all k r is (place r is)) old.queues));
      all = λ i r is here. old.all i r (sym (alike i) ∙ is) here;
    }

one_behind : (d : DriverContent) (e : ℕ) (name : EpName) (k : ℕ) (o : Option Transfer) → slice_get d.transfers k ≡ o → StillQueues d e → StillQueues (behind_one d e name k o) e
one_behind d e name k None there old = old
one_behind d e name k (Some y) there old =
    pick d _ d e (waits_for e y) (λ on. one_more d _ e k y (record y { reported = true }) there (waits_is e y on).endpoint refl refl refl old) old

all_behind : (d : DriverContent) (e : ℕ) (name : EpName) (k n : ℕ) → StillQueues d e → StillQueues (behind d e name k n) e
unfolding behind
all_behind d e name k zero old = old
all_behind d e name k (suc n) old =
    all_behind (behind_one d e name k (slice_get d.transfers k)) e name (suc k) n (one_behind d e name k (slice_get d.transfers k) refl old)

ended_queues : (d : DriverContent) (e t : ℕ) (x : Endpoint) (stall : Bool) (o : Option EndCause) → ((r : TransferRuns) → transfer_in d.transfers t ≡ Some r → r.endpoint ≡ e) → StillQueues d e → AreQueuesHarvested (after_end d e t x stall o)
ended_queues d e t x stall (Some cause) at old = old.queues
ended_queues d e t x false None at old = queues_pushed d.harvested d.transfers t (λ r is. old.all t r is (at r is)) old.queues
ended_queues d e t x true None at old =
    let now = record d { harvested = d.harvested ++ t ∷ []; endpoints = set d.endpoints e (record x { next = None }); mends = d.mends ++ mends_of x } in
    (all_behind now e x.desc.name (suc t) (length d.transfers - suc t)
    (record { queues = queues_pushed d.harvested d.transfers t (λ r is. old.all t r is (at r is)) old.queues; all = old.all })).queues

abbrev pub is_ended : Found → Bool
is_ended (founds.Ended n what) = true
is_ended _ = false

read_queues : (d : DriverContent) (m : Mem) (e t : ℕ) (x : Endpoint) (y : Transfer) (found : Found) → slice_get d.transfers t ≡ Some y → y.endpoint ≡ e → (is_ended found ≡ true → AreAllQueued d e) → AreQueuesHarvested d
    → AreQueuesHarvested (harvested_as d m e t x y found)
read_queues d m e t x y founds.Active there at all old = old
read_queues d m e t x y (founds.Moved n) there at all old =
    queues_alike d.harvested d.transfers _ (same_view runs_of_transfer d.transfers t y (record y { place = (note_at d.notes y.place).next; left = y.left - 1 }) there refl) old
read_queues d m e t x y (founds.Served errors) there at all old = queues_alike d.harvested d.transfers _ (same_view runs_of_transfer d.transfers t y (record y { reported = true }) there refl) old
read_queues d m e t x y (founds.Ended n what) there at all old =
    let told = told_with d m t y what x.desc.name (noted d.notes y.place n) in
    let alike = same_view runs_of_transfer d.transfers t y (record y { reported = true }) there refl in
    ended_queues told e t x (is_stall what) (end_of x.desc.kind what)
    (λ r is. ap (λ (q : TransferRuns). q.endpoint) (sym (same_Some (runs_of_transfer y) r (sym (ap (option_map runs_of_transfer) there) ∙ sym (alike t) ∙ is))) ∙ at)
    (record { queues = queues_alike d.harvested d.transfers _ alike old; all = λ k z is same. all refl k z (sym (alike k) ∙ is) same })

-- what ends is none of a descriptor
descriptor_goes_on : (b : Bool) (n : ℕ) → is_ended (cond b (founds.Served n) founds.Active) ≡ true → ⊥
descriptor_goes_on true n is = false≢true is
descriptor_goes_on false n is = false≢true is

pub ended_is : (d : DriverContent) (m : Mem) (y : Transfer) (s : Sort) → is_ended (found_of d m y s) ≡ true → is_descriptor s ≡ false
ended_is d m y sorts.Descriptor is =
    absurd (descriptor_goes_on (is_served (descriptor_at d.periodic.notes y.first) m y.first) (errors_in (descriptor_at d.periodic.notes y.first) m y.first) is)
ended_is d m y _ is = refl

-- an endpoint with such a transfer has no descriptors
all_queued : (d : DriverContent) (e t : ℕ) (x : Endpoint) (y : Transfer) → slice_get d.endpoints e ≡ Some x → slice_get d.transfers t ≡ Some y → y.endpoint ≡ e → is_descriptor y.sort ≡ false → IsOrderly d → AreAllQueued d e
all_queued d e t x y here there at sort order k z is same =
    let w = transfer_at d.transfers k z is in
    let kind : is_iso x.desc.kind ≡ false = sym (order.sorts t y x there (ap (slice_get d.endpoints) at ∙ here)) ∙ sort in
    let place : w.transfer.endpoint ≡ e = ap (λ (r : TransferRuns). r.endpoint) w.runs ∙ same in
    sym (ap (λ (r : TransferRuns). r.isochronous) w.runs) ∙ order.sorts k w.transfer x w.here (ap (slice_get d.endpoints) place ∙ here) ∙ kind

pub harvest_queues : (d : DriverContent) (m : Mem) (e t : ℕ) (found : Found) (o : Option Endpoint) (q : Option Transfer) → slice_get d.endpoints e ≡ o → slice_get d.transfers t ≡ q → IsOrderly d
    → ((y : Transfer) → q ≡ Some y → is_ended found ≡ true → is_descriptor y.sort ≡ false) → AreQueuesHarvested d → AreQueuesHarvested (after_harvest d m e t found o q)
harvest_queues d m e t found None q here there order sort old = old
harvest_queues d m e t found (Some x) None here there order sort old = old
harvest_queues d m e t found (Some x) (Some y) here there order sort old = at (waits_for e y) refl
  where
    at : (b : Bool) → waits_for e y ≡ b → AreQueuesHarvested (cond b (served (harvested_as d m e t x y found) e) d)
    at true on =
        let w = waits_is e y on in
        read_queues d m e t x y found there w.endpoint (λ ended. all_queued d e t x y here there w.endpoint (sort y refl ended) order) old
    at false off = old
