-- Isochronous endpoints come as ones that were given back, and their descriptors as transfers that were.
use Rattle.std.proofs.Common.{◌≡◌, ℕ, zero, suc, ◌%◌, Bool, true, cond, List, [], ◌∷◌, ◌++◌, length, drop, set, slice_get, slice_index, Some, None, ap, sym, subst, ◌∙◌, refl}
use Rattle.std.specs.Prelude.{map, ◌+◌}
use Rattle.std.specs.List.{AllByRecursion}
use Rattle.std.proofs.lemmas.List.{append-nil, append_assoc, map-append, map-set}
use Rattle.law_driver.proofs.Common.{of_none, get_queued}
use Rattle.law_common.proofs.Lists.{set_same}
use Rattle.usb_base.specs.declared.endpoints.EpDesc.{EpDesc}
use Rattle.word_mem.specs.Memory.{Mem}
use Rattle.mem_runs.specs.Book.{Book}
use Rattle.drv_table.specs.declared.content.Endpoint.{Endpoint}
use Rattle.drv_table.specs.declared.content.Transfer.{Transfer}
use Rattle.drv_table.specs.declared.content.Slots.{Slots}
use Rattle.drv_table.specs.DriverContent.{DriverContent}
use Rattle.drv_table.specs.Accepting.{Offered, first_waiting, new_runs}
use Rattle.drv_table.specs.IsoOffers.{Descriptors, total_of, slot_runs, descriptor_transfer, one_descriptor, all_descriptors, entered_iso}
use Rattle.drv_table.specs.Offers.{placed_endpoint, accepted_iso}
use Rattle.claims_driver.specs.Owners.{is_descriptor}
use Rattle.claims_driver.specs.Leaving.{IsOrderly}
use Rattle.law_driver.specs.run_owners.Accepts.{Places}
use Rattle.law_driver.specs.queued_drivers.Queued.{without_queue, queued_endpoint, sort_of_queue, queued_transfer, queued_command, queued}
use Rattle.law_driver.specs.queued_drivers.Commands.{QueuesAlike, IsEndOpened, IsGivenBackOf, AreEndsTaken}
use Rattle.law_driver.proofs.lemmas.queued_drivers.CommandFields.{sorts_set, transfers_set, transfers_pushed}
use Rattle.law_driver.proofs.lemmas.queued_drivers.CommandReasons.{IsDescribedAs}

-- ---- an open

pub end_opened : (d : DriverContent) (m : Mem) (o : Offered) → IsOrderly d → (w : Places d m o) → IsEndOpened d m w.desc o
end_opened d m o order w =
    let x = w.desc in
    let z = placed_endpoint x w.placement 0 0 in
    let c = accepted_iso d x w.placement in
    let ends : map queued_endpoint (d.endpoints ++ z ∷ []) ≡ map queued_endpoint d.endpoints ++ without_queue z ∷ [] =
    map-append queued_endpoint d.endpoints (z ∷ []) ∙ ap (λ (y : Endpoint). map queued_endpoint d.endpoints ++ y ∷ []) (of_none z w.isochronous) in
    let moves = transfers_pushed d z order.within in
    let idle : queued_command (d.endpoints ++ z ∷ []) d.command ≡ queued_command d.endpoints d.command = ap (queued_command (d.endpoints ++ z ∷ [])) w.idle ∙ sym (ap (queued_command d.endpoints) w.idle) in
    let now : QueuesAlike (queued c) (record (queued d) { endpoints = map queued_endpoint d.endpoints ++ without_queue z ∷ []; room = c.room }) =
    λ i. record (queued d) { endpoints = ends i; transfers = moves i; command = idle i; room = c.room; periodic = (queued c).periodic } in
    record {
      placement = w.placement;
      isochronous = w.isochronous;
      alike = subst (λ (g : Offered). QueuesAlike (queued g.driver) (record (queued d) { endpoints = map queued_endpoint d.endpoints ++ without_queue z ∷ []; room = g.driver.room })) (sym w.is) now;
      memory = ap (λ (g : Offered). g.memory) w.is;
    }

-- ---- descriptors

abbrev pub IsDescriptorOf : ℕ → Transfer → Type 0
IsDescriptorOf e y = (y.endpoint ≡ e) × (is_descriptor y.sort ≡ true)

-- they are entered behind the others
pub record HasMore (e : ℕ) (ts us : List Transfer) : Type 0 where
  pub more : List Transfer
  pub is : us ≡ ts ++ more
  pub each : AllByRecursion (IsDescriptorOf e) more

pub described_more : (k : Book) (e : ℕ) (x : EpDesc) (s : Slots) (n seed : ℕ) (runs : List ℕ) (a : Descriptors) → HasMore e a.transfers (all_descriptors k e x s n seed runs a).transfers
unfolding all_descriptors
described_more k e x s zero seed runs a = record { more = []; is = sym (append-nil a.transfers); each = tt }
described_more k e x s (suc n) seed runs a =
    let y = descriptor_transfer e s (slice_index runs 0) in
    let r = described_more k e x s n ((seed + total_of s) % 256) (drop (suc (slot_runs s)) runs) (one_descriptor k e x s seed runs a) in
    record { more = y ∷ r.more; is = r.is ∙ append_assoc a.transfers (y ∷ []) r.more; each = ((refl, refl), r.each) }

given_each : (d : DriverContent) (e : ℕ) (x z : Endpoint) (ts : List Transfer) → slice_get d.endpoints e ≡ Some x → z.desc ≡ x.desc → AllByRecursion (IsDescriptorOf e) ts
    → AllByRecursion (IsGivenBackOf d e) (map (queued_transfer (set d.endpoints e z)) ts)
given_each d e x z [] here same each = tt
given_each d e x z (y ∷ ts) here same each =
    let s = sort_of_queue (slice_get (set d.endpoints e z) y.endpoint) in
    let is : queued_transfer (set d.endpoints e z) y ≡ record y { sort = s; reported = true; released = true } = ap (λ (b : Bool). cond b (record y { sort = s; reported = true; released = true }) y) each.0.1 in (
      subst (IsGivenBackOf d e) (sym is)
          (record { endpoint = each.0.0; sort = sorts_set d.endpoints e x z y here same ∙ ap (λ (k : ℕ). sort_of_queue (slice_get d.endpoints k)) each.0.0; reported = refl; released = refl }),
      given_each d e x z ts here same each.1,
    )

pub ends_taken : (d : DriverContent) (m : Mem) (o : Offered) (w : IsDescribedAs d m o) → AreEndsTaken d m o
ends_taken d m o w =
    let e = w.number in
    let x = w.endpoint in
    let z : Endpoint = record x { next = first_waiting x.next (length d.transfers) } in
    let start : Descriptors = record { notes = d.periodic.notes; transfers = d.transfers; memory = w.holding_after.memory } in
    let a = all_descriptors w.holding_after.book e x.desc w.slots w.count w.seed (new_runs d w.holding_after) start in
    let h = described_more w.holding_after.book e x.desc w.slots w.count w.seed (new_runs d w.holding_after) start in
    let c = (entered_iso d e x w.count (total_of w.slots) w.holding_after.book a).driver in
    let given = map (queued_transfer (set d.endpoints e z)) h.more in
    let ends : map queued_endpoint (set d.endpoints e z) ≡ map queued_endpoint d.endpoints =
    map-set queued_endpoint d.endpoints e z
    ∙ ap (λ (y : Endpoint). set (map queued_endpoint d.endpoints) e y) (of_none z w.isochronous ∙ sym (of_none x w.isochronous))
    ∙ set_same (map queued_endpoint d.endpoints) e (queued_endpoint x) (get_queued d.endpoints e x w.here) in
    let moves : map (queued_transfer (set d.endpoints e z)) a.transfers ≡ map (queued_transfer d.endpoints) d.transfers ++ given =
    ap (map (queued_transfer (set d.endpoints e z))) h.is ∙ map-append (queued_transfer (set d.endpoints e z)) d.transfers h.more
    ∙ ap (λ (ts : List Transfer). ts ++ given) (transfers_set d e x z w.here refl) in
    let idle : None ≡ queued_command d.endpoints d.command = sym (ap (queued_command d.endpoints) w.idle) in
    let now : QueuesAlike (queued c) (record (queued d) { book = c.book; transfers = (queued d).transfers ++ given; made = 0; room = c.room }) =
    λ i. record (queued d) { book = c.book; endpoints = ends i; transfers = moves i; command = idle i; made = 0; room = c.room; periodic = (queued c).periodic } in
    record {
      number = e;
      endpoint = x;
      here = w.here;
      isochronous = w.isochronous;
      given = given;
      each = given_each d e x z h.more w.here refl h.each;
      alike = subst (λ (g : Offered). QueuesAlike (queued g.driver) (record (queued d) { book = g.driver.book; transfers = (queued d).transfers ++ given; made = 0; room = g.driver.room })) (sym w.is) now;
    }
