-- What the queues of a driver tell of its runs is what its content tells of them: structures of its queues stand for both, and no descriptor is one.
use Rattle.std.proofs.Common.{◌≡◌, ℕ, zero, suc, ◌*◌, Bool, true, false, ◌||◌, List, map, slice_get, Option, Some, None, option_map, ap, refl, sym, ◌∙◌, ⊎_elim}
use Rattle.std.proofs.lemmas.Bool.{cases_Bool, false≢true}
use Rattle.std.proofs.lemmas.Option.{same_Some, slice_get-map}
use Rattle.law_driver.proofs.Common.{of_queue, of_none, kind_in_ring, ring_queue}
use Rattle.drv_table.specs.declared.content.Endpoint.{Endpoint}
use Rattle.drv_table.specs.declared.content.Transfer.{Transfer}
use Rattle.drv_table.specs.DriverContent.{DriverContent}
use Rattle.drv_table.specs.Kinds.{is_iso}
use Rattle.claims_driver.specs.Owners.{EndpointRuns, TransferRuns, runs_of_endpoint, runs_of_transfer, endpoint_in, transfer_in, is_descriptor, views_of, IsQueueIn}
use Rattle.law_driver_ring.specs.Inventory.{Sort, Inventory, AreTold, IsTransferIn, IsDriverOwned, the_list, the_head, a_queue, a_dummy, a_piece, a_buffer, IsDriven}
use Rattle.law_structures.specs.lent_structures.Structures.{StructureSets, Tells}
use Rattle.law_driver.specs.queued_drivers.Queued.{queued_kind, queued_endpoint, queued_transfer, queued}
use Rattle.law_driver.proofs.lemmas.queued_drivers.RowLists.{transfer_told, descriptor_told}
use Rattle.word_mem.specs.Memory.{Mem}
use Rattle.drv_table.specs.declared.content.Stage.{Stage}
use Rattle.law_driver_ring.specs.Extents.{AreInRuns}
use Rattle.law_driver_ring.specs.Written.{AwaitsLend}
use Rattle.law_descriptors.specs.Both.{both}
use Rattle.law_descriptors.specs.PartLaws.{IsDescribing}
use Rattle.law_descriptors.proofs.Telling.{queue_found}

-- ---- endpoints

-- no endpoint that is told so is isochronous
pub told_queue : (x : Endpoint) → is_iso (queued_kind x.desc.name.way) ≡ false
told_queue x = ring_queue (queued_kind x.desc.name.way) (kind_in_ring x.desc.name.way)

-- its runs are told as they are, and so is that it has none
pub runs_same : (x : Endpoint) → runs_of_endpoint (queued_endpoint x) ≡ runs_of_endpoint x
runs_same x =
    ⊎_elim
    (λ (iso : is_iso x.desc.kind ≡ true).
    ap runs_of_endpoint (of_none x iso)
    ∙ ap (λ (b : Bool). record { queue = x.queue; dummy = x.dummy; bare = b || true }) (told_queue x)
    ∙ sym (ap (λ (b : Bool). record { queue = x.queue; dummy = x.dummy; bare = b || x.gone }) iso))
    (λ (off : is_iso x.desc.kind ≡ false).
    ap runs_of_endpoint (of_queue x off) ∙ ap (λ (b : Bool). record { queue = x.queue; dummy = x.dummy; bare = b || x.gone }) (told_queue x ∙ sym off)) (cases_Bool (is_iso x.desc.kind))

pub endpoint_runs : (xs : List Endpoint) (e : ℕ) → endpoint_in (map queued_endpoint xs) e ≡ endpoint_in xs e
endpoint_runs xs e = ap (option_map runs_of_endpoint) (slice_get-map queued_endpoint xs e) ∙ by (slice_get xs e)
  where
    by : (o : Option Endpoint) → option_map runs_of_endpoint (option_map queued_endpoint o) ≡ option_map runs_of_endpoint o
    by None = refl
    by (Some x) = ap (λ (r : EndpointRuns). Some r) (runs_same x)

-- ---- transfers

released_told : (xs : List Endpoint) (y : Transfer) → is_descriptor y.sort ≡ true → (queued_transfer xs y).released ≡ true
released_told xs y is = ap (λ (z : Transfer). z.released) (descriptor_told xs y is)

moves_on : (xs : List Endpoint) (o : Option Transfer) (y : TransferRuns) → option_map runs_of_transfer o ≡ Some y → y.isochronous ≡ false → option_map runs_of_transfer (option_map (queued_transfer xs) o) ≡ Some y
moves_on xs None y is moves = absurd (cc)
moves_on xs (Some z) y is moves =
    let off : is_descriptor z.sort ≡ false = ap (λ (r : TransferRuns). r.isochronous) (same_Some (runs_of_transfer z) y is) ∙ moves in
    ap (λ (u : Transfer). Some (runs_of_transfer u)) (transfer_told xs z off) ∙ is

moves_back : (xs : List Endpoint) (o : Option Transfer) (y : TransferRuns) → option_map runs_of_transfer (option_map (queued_transfer xs) o) ≡ Some y → y.released ≡ false → option_map runs_of_transfer o ≡ Some y
moves_back xs None y is held = absurd (cc)
moves_back xs (Some z) y is held =
    let same = same_Some (runs_of_transfer (queued_transfer xs z)) y is in
    ⊎_elim
    (λ (given : is_descriptor z.sort ≡ true). absurd (false≢true (sym held ∙ ap (λ (r : TransferRuns). r.released) (sym same) ∙ released_told xs z given)))
    (λ (off : is_descriptor z.sort ≡ false). ap (λ (u : Transfer). Some (runs_of_transfer u)) (sym (transfer_told xs z off)) ∙ is) (cases_Bool (is_descriptor z.sort))

transfer_on : (xs : List Endpoint) (ts : List Transfer) (t : ℕ) (y : TransferRuns) → transfer_in ts t ≡ Some y → y.isochronous ≡ false → transfer_in (map (queued_transfer xs) ts) t ≡ Some y
transfer_on xs ts t y there moves = ap (option_map runs_of_transfer) (slice_get-map (queued_transfer xs) ts t) ∙ moves_on xs (slice_get ts t) y there moves

transfer_back : (xs : List Endpoint) (ts : List Transfer) (t : ℕ) (y : TransferRuns) → transfer_in (map (queued_transfer xs) ts) t ≡ Some y → y.released ≡ false → transfer_in ts t ≡ Some y
transfer_back xs ts t y there held = moves_back xs (slice_get ts t) y (sym (ap (option_map runs_of_transfer) (slice_get-map (queued_transfer xs) ts t)) ∙ there) held

-- ---- the inventory

module _ (d : DriverContent) where
  queue_on : (e : ℕ) (x : EndpointRuns) → IsQueueIn (views_of d) e x → IsQueueIn (views_of (queued d)) e x
  queue_on e x is = record { here = endpoint_runs d.endpoints e ∙ is.here; queued = is.queued }

  pub queue_back : (e : ℕ) (x : EndpointRuns) → IsQueueIn (views_of (queued d)) e x → IsQueueIn (views_of d) e x
  queue_back e x is = record { here = sym (endpoint_runs d.endpoints e) ∙ is.here; queued = is.queued }

  in_on : (t : ℕ) (y : TransferRuns) (x : EndpointRuns) → IsTransferIn (views_of d) t y x → IsTransferIn (views_of (queued d)) t y x
  in_on t y x is = record { here = transfer_on d.endpoints d.transfers t y is.here is.qtds; held = is.held; qtds = is.qtds; queue = queue_on y.endpoint x is.queue }

  in_back : (t : ℕ) (y : TransferRuns) (x : EndpointRuns) → IsTransferIn (views_of (queued d)) t y x → IsTransferIn (views_of d) t y x
  in_back t y x is = record {
    here = transfer_back d.endpoints d.transfers t y is.here is.held;
    held = is.held;
    qtds = is.qtds;
    queue = queue_back y.endpoint x is.queue;
  }

  told_on : (sorts : ℕ → Option Sort) (b n : ℕ) → AreTold (views_of d) sorts b n → AreTold (views_of (queued d)) sorts b n
  told_on sorts b zero k = tt
  told_on sorts b (suc n) k = (record { element = k.0.element; buffer = k.0.buffer }, told_on sorts ((views_of d).note b).next n k.1)

  owned_on : (n a : ℕ) (sort : Sort) → IsDriverOwned (views_of d) n a sort → IsDriverOwned (views_of (queued d)) n a sort
  owned_on _ _ _ the_list = the_list
  owned_on _ _ _ the_head = the_head
  owned_on _ _ _ (a_queue e x is lent) = a_queue e x (queue_on e x is) lent
  owned_on _ _ _ (a_dummy e x is lent) = a_dummy e x (queue_on e x is) lent
  owned_on _ _ _ (a_piece t b y x is piece lent) = a_piece t b y x (in_on t y x is) piece lent
  owned_on _ _ _ (a_buffer t b c cs y x is piece begins lent) = a_buffer t b c cs y x (in_on t y x is) piece begins lent

  pub queued_driven : (sorts : Inventory) → IsDriven (views_of d) sorts → IsDriven (views_of (queued d)) sorts
  queued_driven sorts k = record {
    list = k.list;
    head = k.head;
    queue = λ e x is lent. k.queue e x (queue_back e x is) lent;
    dummy = λ e x is lent. k.dummy e x (queue_back e x is) lent;
    pieces = λ t y x is. told_on (sorts (32 * x.queue)) y.first y.qtds (k.pieces t y x (in_back t y x is));
    only = λ n a sort there. owned_on n a sort (k.only n a sort there);
  }

  pub queued_runs : (parts : StructureSets) → AreInRuns (views_of d) parts → AreInRuns (views_of (queued d)) parts
  queued_runs parts k = record {
    list = k.list;
    buffers = λ t b c cs y x pages n bs is piece first here j has. k.buffers t b c cs y x pages n bs (in_back t y x is) piece first here j has;
  }

  -- ---- what is to be lent

  pub awaits_back : (m : Mem) (t : ℕ) (y : TransferRuns) (x : EndpointRuns) (s : Stage) (ss : List Stage) → AwaitsLend (queued d) m t y x s ss → AwaitsLend d m t y x s ss
  awaits_back m t y x s ss k = record {
    here = in_back t y x k.here;
    qtds = k.qtds;
    first = k.first;
    taken = k.taken;
    apart = k.apart;
    ends = k.ends;
    qtds_kept = k.qtds_kept;
    noted = k.noted;
    words = k.words;
    short = k.short;
    pids = k.pids;
  }

-- ---- memory

-- memory has the structures of queues where it has those of descriptors too
pub queues_told : (d : DriverContent) (m : Mem) (descs parts : StructureSets) → IsDescribing d descs parts → Tells m (both descs parts) → Tells m parts
queues_told d m descs parts old tells = record {
  shape = tells.shape;
  each = λ i a s found. tells.each i a s (queue_found d descs parts old i a s found);
  alone = λ i a j b s u e one other has also. tells.alone i a j b s u e (queue_found d descs parts old i a s one) (queue_found d descs parts old j b u other) has also;
}
