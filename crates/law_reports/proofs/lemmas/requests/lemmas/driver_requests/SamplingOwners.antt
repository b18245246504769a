-- The runs of the sample's driver have their owners, and what stands in memory is the driver's.
use Rattle.std.proofs.Common.{◌≡◌, ℕ, zero, suc, ◌*◌, ◌<◌, false, slice_get, Option, Some, None, option_map, refl, ap, sym, subst, ◌∙◌, ⊎_elim, inl, inr, arith}
use Rattle.std.proofs.lemmas.Bool.{false≢true, true≢false}
use Rattle.std.proofs.lemmas.Option.{same_Some}
use Rattle.drv_table.specs.declared.content.Endpoint.{Endpoint}
use Rattle.drv_table.specs.declared.content.Transfer.{Transfer}
use Rattle.drv_table.specs.Kinds.{is_iso}
use Rattle.claims_driver.specs.Leaving.{IsSteady, IsOrderly, HasOwners}
use Rattle.claims_driver.specs.Owners.{QueueHead, Dummy, EndpointRuns, TransferRuns, Views, is_descriptor, runs_of_endpoint, runs_of_transfer, IsPlaced, ArePieces, views_of, AreOwned, IsQueueIn}
use Rattle.law_structures.specs.lent_structures.Structures.{Structure, StructureSets, put}
use Rattle.law_structures.proofs.lemmas.lent_structures.Names.{put_found}
use Rattle.law_driver_ring.specs.Inventory.{Sort, sort_of, sorts_of, OfQueueHead, OfElement, AreTold, IsTransferIn, IsDriverOwned, IsDriven}
use Rattle.law_driver_ring.specs.Inventory.IsDriverOwned.{the_list, the_head, a_queue, a_dummy, a_piece, a_buffer}
use Rattle.law_devices.specs.ring_requests.Samples.{nothing}
use Rattle.law_reports.specs.requests.world_requests.Recording.{AreTransfers}
use Rattle.law_reports.specs.requests.driver_requests.Samples.{endpoint, first, second, driver, owner, head_parts, first_parts, second_parts, parts, is_queue, requests, begun}
use Rattle.law_reports.proofs.lemmas.requests.lemmas.driver_requests.Telling.{transfers_are_told}
use Rattle.law_reports.proofs.lemmas.requests.lemmas.driver_requests.Sampling.{are_of_driver, under_way, both_sent, have_qtds}

abbrev v : Views
v = views_of driver

-- ---- its one endpoint, its two transfers

abbrev at_queue : EndpointRuns
at_queue = runs_of_endpoint endpoint

each_endpoint : (P : ℕ → EndpointRuns → Type 0) → P 0 at_queue → (e : ℕ) (x : EndpointRuns) → v.endpoint e ≡ Some x → P e x
each_endpoint P one zero x here = subst (P 0) (same_Some at_queue x here) one
each_endpoint P one (suc e) x here = absurd (cc)

each_transfer : (P : ℕ → TransferRuns → Type 0) → P 0 (runs_of_transfer first) → P 1 (runs_of_transfer second) → (t : ℕ) (y : TransferRuns) → v.transfer t ≡ Some y → P t y
each_transfer P one two zero y here = subst (P 0) (same_Some (runs_of_transfer first) y here) one
each_transfer P one two (suc zero) y here = subst (P 1) (same_Some (runs_of_transfer second) y here) two
each_transfer P one two (suc (suc t)) y here = absurd (cc)

whole_endpoint : (P : ℕ → Endpoint → Type 0) → P 0 endpoint → (e : ℕ) (x : Endpoint) → slice_get driver.endpoints e ≡ Some x → P e x
whole_endpoint P one zero x here = subst (P 0) (same_Some endpoint x here) one
whole_endpoint P one (suc e) x here = absurd (cc)

whole_transfer : (P : ℕ → Transfer → Type 0) → P 0 first → P 1 second → (t : ℕ) (y : Transfer) → slice_get driver.transfers t ≡ Some y → P t y
whole_transfer P one two zero y here = subst (P 0) (same_Some first y here) one
whole_transfer P one two (suc zero) y here = subst (P 1) (same_Some second y here) two
whole_transfer P one two (suc (suc t)) y here = absurd (cc)

-- ---- the owners

first_pieces : ArePieces v.slot owner v.note 0 132 3
first_pieces = (
  record { element = record { owned = refl; run = refl }; buffers = (record { owned = refl; run = tt }, tt) },
  (
    record { element = record { owned = refl; run = refl }; buffers = (record { owned = refl; run = tt }, tt) },
    (record { element = record { owned = refl; run = refl }; buffers = tt }, tt),
  ),
)

second_pieces : ArePieces v.slot owner v.note 1 135 3
second_pieces = (
  record { element = record { owned = refl; run = refl }; buffers = (record { owned = refl; run = tt }, tt) },
  (
    record { element = record { owned = refl; run = refl }; buffers = (record { owned = refl; run = tt }, tt) },
    (record { element = record { owned = refl; run = refl }; buffers = tt }, tt),
  ),
)

are_owned : AreOwned v owner
are_owned = record {
  list = record { owned = refl; run = refl };
  head = record { owned = refl; run = refl };
  queue = λ e x here on. each_endpoint (λ (e : ℕ) (x : EndpointRuns). IsPlaced v.slot owner x.queue (QueueHead e)) (record { owned = refl; run = refl }) e x here;
  dummy = λ e x here on. each_endpoint (λ (e : ℕ) (x : EndpointRuns). IsPlaced v.slot owner x.dummy (Dummy e)) (record { owned = refl; run = refl }) e x here;
  pieces = λ t y here held. each_transfer (λ (t : ℕ) (y : TransferRuns). ArePieces v.slot owner v.note t y.first y.qtds) first_pieces second_pieces t y here;
  described = λ t y here iso held.
      absurd (true≢false (sym iso ∙ each_transfer (λ (t : ℕ) (y : TransferRuns). y.isochronous ≡ false) refl refl t y here));
}

is_steady : IsSteady endpoint
is_steady = record {
  ended = λ out away. absurd (true≢false out);
  gone = λ out. absurd (false≢true out);
  ring = λ on. refl;
  frames = λ on. absurd (false≢true on);
  placed = refl;
}

is_orderly : IsOrderly driver
is_orderly = record {
  harvests = λ t. omega arith;
  leaving = λ e. omega arith;
  removed = λ e. omega arith;
  steady = λ e x here. whole_endpoint (λ (e : ℕ) (x : Endpoint). IsSteady x) is_steady e x here;
  within = λ t y here. whole_transfer (λ (t : ℕ) (y : Transfer). y.endpoint < 1) (omega arith) (omega arith) t y here;
  sorts = λ t y x here there.
      whole_transfer (λ (t : ℕ) (y : Transfer). slice_get driver.endpoints y.endpoint ≡ Some x → is_descriptor y.sort ≡ is_iso x.desc.kind)
      (λ there. ap (λ (x : Endpoint). is_iso x.desc.kind) (same_Some endpoint x there))
      (λ there. ap (λ (x : Endpoint). is_iso x.desc.kind) (same_Some endpoint x there)) t y here there;
  unlinked = λ t y some here. absurd (omega (arith, some));
  untold = λ t y here out none x there. absurd (true≢false (sym out ∙ whole_transfer (λ (t : ℕ) (y : Transfer). y.released ≡ false) refl refl t y here));
  leaver = λ e x is here. absurd (cc);
}

pub has_owners : HasOwners driver
has_owners = record { owner = owner; owned = record { each = are_owned; sizes = refl; as_many = refl }; orderly = is_orderly }

-- ---- what stands in memory

Only : StructureSets → Type 0
Only some = (n a : ℕ) (s : Structure) → some n a ≡ Some s → IsDriverOwned v n a (sort_of s)

one_more : (some : StructureSets) (n a : ℕ) (s : Structure) → IsDriverOwned v n a (sort_of s) → Only some → Only (put some n a s)
unfolding Only
one_more some n a s one rest k b t found =
    ⊎_elim {C = IsDriverOwned v k b (sort_of t)}
    (λ (w : (k ≡ n) × (b ≡ a) × (t ≡ s)).
    subst (λ (i : ℕ). IsDriverOwned v i b (sort_of t)) (sym w.0) (subst (λ (j : ℕ). IsDriverOwned v n j (sort_of t)) (sym w.1) (subst (λ (u : Structure). IsDriverOwned v n a (sort_of u)) (sym w.2) one)))
    (λ (old : some k b ≡ Some t). rest k b t old) (put_found some n a s k b t found)

is_queue_in : IsQueueIn v 0 at_queue
is_queue_in = record { here = refl; queued = refl }

first_in : IsTransferIn v 0 (runs_of_transfer first) at_queue
first_in = record { here = refl; held = refl; qtds = refl; queue = is_queue_in }

second_in : IsTransferIn v 1 (runs_of_transfer second) at_queue
second_in = record { here = refl; held = refl; qtds = refl; queue = is_queue_in }

only_nothing : Only nothing
unfolding Only
only_nothing n a s found = absurd (cc)

only_head : Only head_parts
only_head = one_more _ 4160 4160 _ (a_queue 0 at_queue is_queue_in tt) (one_more _ 4096 4096 _ the_head (one_more _ 0 0 _ the_list only_nothing))

only_first : Only first_parts
only_first =
    one_more _ 4160 4288 _ (a_piece 0 134 (runs_of_transfer first) at_queue first_in (inr (inr (inl refl))) tt)
    (one_more _ 4160 4256 _ (a_piece 0 133 (runs_of_transfer first) at_queue first_in (inr (inl refl)) tt)
    (one_more _ 4160 4224 _ (a_piece 0 132 (runs_of_transfer first) at_queue first_in (inl refl) tt) only_head))

only_second : Only second_parts
only_second =
    one_more _ 4160 4384 _ (a_piece 1 137 (runs_of_transfer second) at_queue second_in (inr (inr (inl refl))) tt)
    (one_more _ 4160 4352 _ (a_piece 1 136 (runs_of_transfer second) at_queue second_in (inr (inl refl)) tt)
    (one_more _ 4160 4320 _ (a_piece 1 135 (runs_of_transfer second) at_queue second_in (inl refl) tt) only_first))

only_parts : Only parts
only_parts =
    one_more _ 4160 4544 _ (a_buffer 1 136 142 _ (runs_of_transfer second) at_queue second_in (inr (inl refl)) refl tt)
    (one_more _ 4160 4512 _ (a_buffer 1 135 141 _ (runs_of_transfer second) at_queue second_in (inl refl) refl tt)
    (one_more _ 4160 4480 _ (a_buffer 0 133 140 _ (runs_of_transfer first) at_queue first_in (inr (inl refl)) refl tt)
    (one_more _ 4160 4448 _ (a_buffer 0 132 139 _ (runs_of_transfer first) at_queue first_in (inl refl) refl tt)
    (one_more _ 4160 4416 _ (a_dummy 0 at_queue is_queue_in tt) only_second))))

only_sorts : (some : StructureSets) (n a : ℕ) (k : Sort) (o : Option Structure) → some n a ≡ o → Only some → option_map sort_of o ≡ Some k → IsDriverOwned v n a k
unfolding Only
only_sorts some n a k None is only found = absurd (cc)
only_sorts some n a k (Some s) is only found = subst (IsDriverOwned v n a) (same_Some (sort_of s) k found) (only n a s is)

first_told : AreTold v (sorts_of parts 4160) 132 3
first_told = (
  record { element = λ lent. refl; buffer = λ lent. refl },
  (record { element = λ lent. refl; buffer = λ lent. refl }, (record { element = λ lent. refl; buffer = tt }, tt)),
)

second_told : AreTold v (sorts_of parts 4160) 135 3
second_told = (
  record { element = λ lent. refl; buffer = λ lent. refl },
  (record { element = λ lent. refl; buffer = λ lent. refl }, (record { element = λ lent. refl; buffer = tt }, tt)),
)

pub is_driven : IsDriven v (sorts_of parts)
is_driven = record {
  list = refl;
  head = refl;
  queue = λ e x is lent. each_endpoint (λ (e : ℕ) (x : EndpointRuns). sorts_of parts (32 * x.queue) (32 * x.queue) ≡ Some OfQueueHead) refl e x is.here;
  dummy = λ e x is lent. each_endpoint (λ (e : ℕ) (x : EndpointRuns). sorts_of parts (32 * x.queue) (32 * x.dummy) ≡ Some OfElement) refl e x is.here;
  pieces = λ t y x is.
      let told : AreTold v (sorts_of parts 4160) y.first y.qtds = each_transfer (λ (t : ℕ) (y : TransferRuns). AreTold v (sorts_of parts 4160) y.first y.qtds) first_told second_told t y is.here in
      each_endpoint (λ (e : ℕ) (x : EndpointRuns). AreTold v (sorts_of parts (32 * x.queue)) y.first y.qtds) told y.endpoint x is.queue.here;
  only = λ n a k found. only_sorts parts n a k (parts n a) refl only_parts found;
}

pub sample_told : AreTransfers driver is_queue (λ n. requests) (λ n. begun) parts (λ n. 0) (λ n i. i)
sample_told =
    transfers_are_told driver is_queue is_queue (λ n. requests) (λ n. begun) parts (λ n. 0) (λ n i. i) has_owners have_qtds is_driven both_sent under_way are_of_driver
